-- What the table does to a packed state, it does to the word with that state.
use Rattle.std.proofs.Common.{◌≡◌, ℕ, ◌+◌, ℤ, refl}
use Rattle.sync_objects.specs.declared.kind.ObjKind.{ObjKind}
use Rattle.sync_objects.specs.declared.operation.Op.{Op}
use Rattle.sync_objects.specs.Advance.{advanced, NotAllowed, Advances, after_move}
use Rattle.sync_objects.specs.Moved.{moved, packed_move}
use Rattle.sync_objects.specs.Names.{name_of, kind_of}
use Rattle.sync_objects.specs.Packing.{shown}
use Rattle.sync_objects.specs.States.{StateOf}
use Rattle.sync_objects.specs.Table.{Move, NoRow, Moves, first_row, rows}
use Rattle.sync_objects.proofs.Soundness.{keeps_sound}
use Rattle.sync_objects.specs.Words.{number_of, state_of, word_of}

stays : (k : ObjKind) (word : ℕ) (m : Move (StateOf k)) → packed_move k m ≡ NoRow → after_move k word m ≡ NotAllowed
stays k word NoRow e = refl
stays k word (Moves s a) e = cc

goes : (k : ObjKind) (word : ℕ) (m : Move (StateOf k)) (state : ℕ) (answer : ℤ) → packed_move k m ≡ Moves state answer → after_move k word m ≡ Advances (word_of (number_of word + 1) state) answer
goes k word NoRow state answer e = cc
goes k word (Moves s a) state answer e = cc

-- where no row fits the packed state the operation isn't allowed
pub not_allowed : (o : Op) (t word : ℕ) → moved o t (state_of word) ≡ NoRow → advanced o t word ≡ NotAllowed
unfolding advanced moved
not_allowed o t word e = stays (kind_of (name_of o)) word (first_row (rows o t) (shown (kind_of (name_of o)) word)) e

-- else the word has the packed state after it, and a number that is greater by one
pub advances : (o : Op) (t word state : ℕ) (answer : ℤ) → moved o t (state_of word) ≡ Moves state answer → advanced o t word ≡ Advances (word_of (number_of word + 1) state) answer
unfolding advanced moved
advances o t word state answer e = goes (kind_of (name_of o)) word (first_row (rows o t) (shown (kind_of (name_of o)) word)) state answer e

pub ruleset advancing = (not_allowed, advances, keeps_sound)
