-- The table on packed states: what an operation does to the low half of its object's word.
use Rattle.std.specs.Prelude.{◌≡◌, ℕ, Option, MatchOption}
use Rattle.sync_objects.specs.declared.kind.ObjKind.{ObjKind}
use Rattle.sync_objects.specs.declared.rows.moved.Moved.{Moved}
use Rattle.sync_objects.specs.declared.operation.Op.{Op}
use Rattle.sync_objects.specs.Names.{name_of, kind_of}
use Rattle.sync_objects.specs.States.{StateOf}
use Rattle.sync_objects.specs.Packing.{packed, unpacked}
use Rattle.sync_objects.specs.Table.{Move, NoRow, Moves, first_row, rows}

-- a move with the state after it packed
abbrev pub packed_move : (k : ObjKind) → Move (StateOf k) → Move ℕ
packed_move k NoRow = NoRow
packed_move k (Moves after answer) = Moves (packed k after) answer

-- what the operation by thread t does to a packed state
unfoldable pub moved : Op → ℕ → ℕ → Move ℕ
moved o t state = let k = kind_of (name_of o) in packed_move k (first_row (rows o t) (unpacked k state))

-- the code gives what the table says: nothing where no row fits, else the packed state after the row, and its answer
abbrev pub Gives : Move ℕ → Option Moved → Type 0
Gives m result = MatchOption result (m ≡ NoRow) (λ r. m ≡ Moves r.state r.answer)
