-- What an operation does to its object's word: its state moves by the table, and its number rises by one.
use Rattle.std.specs.Prelude.{ℕ, ◌+◌, ℤ}
use Rattle.sync_objects.specs.declared.kind.ObjKind.{ObjKind}
use Rattle.sync_objects.specs.declared.operation.Op.{Op}
use Rattle.sync_objects.specs.Names.{name_of, kind_of}
use Rattle.sync_objects.specs.States.{StateOf}
use Rattle.sync_objects.specs.Packing.{packed, shown}
use Rattle.sync_objects.specs.Table.{Move, NoRow, Moves, first_row, rows}
use Rattle.sync_objects.specs.Words.{number_of, word_of}

-- what an operation does: it isn't allowed there, or the word after it and its answer
pub data Advance : Type 0 where
  NotAllowed : Advance
  Advances : (word : ℕ) → (answer : ℤ) → Advance

-- the next word of an object of this kind, after a move of its state
abbrev pub after_move : (k : ObjKind) → ℕ → Move (StateOf k) → Advance
after_move k word NoRow = NotAllowed
after_move k word (Moves after answer) = Advances (word_of (number_of word + 1) (packed k after)) answer

-- what the operation by thread t does to a word of its kind
unfoldable pub advanced : Op → ℕ → ℕ → Advance
advanced o t word =
    let k = kind_of (name_of o) in after_move k word (first_row (rows o t) (shown k word))
