-- What a seat knows of the words and of the threads. It stands in proofs alone.
use Rattle.std.specs.Prelude.{ℕ, ◌^◌, ◌-◌, Bool, true, false, List, [], ◌∷◌, min}
use Rattle.sync_objects.specs.Setup.{SetupView}
use Rattle.flow_code.specs.declared.code.Code.{Code}
use Rattle.core_run.specs.Machine.{Told}

-- a word of the table that the seat has met: by a look, by an exchange that found another word there than it asked for, or by
-- setting it
pub record Note : Type 0 where
  pub failed : Bool
  pub word : ℕ
  pub value : ℕ

-- the code and the setup; the threads that the seat carries, one after another from this number on; the words that it has met
-- but for those of cells, the newest first; the positions that it has put into the departure word, and the least value of that
-- word that it knows of
pub record SeatView : Type 0 where
  pub code : Code
  pub setup : SetupView
  pub from : ℕ
  pub carried : List Told
  pub notes : List Note
  pub positions : List ℕ
  pub met : ℕ

-- the greatest value of the departure word: nothing has departed
abbrev pub never : ℕ
never = 2 ^ 32 - 1

-- a seat that was joined to another one: it carries nothing
abbrev pub nobody : SeatView
nobody = record {
  code = record { functions = []; sites = []; globals = []; global_kinds = []; global_bases = []; locks = [] };
  setup = record { slots = 0; cells = 0; limit = 0; input = [] };
  from = 0;
  carried = [];
  notes = [];
  positions = [];
  met = never;
}

-- the seat's one thread has come to another state
abbrev pub with_thread : SeatView → Told → SeatView
with_thread v told = record v { carried = told ∷ [] }

-- a look has found a value at a word, or the seat has set the word to it
abbrev pub looked : SeatView → (word value : ℕ) → SeatView
looked v word value = record v { notes = record { failed = false; word = word; value = value } ∷ v.notes }

-- an exchange has found a value that it didn't ask for
abbrev pub missed : SeatView → (word value : ℕ) → SeatView
missed v word value = record v { notes = record { failed = true; word = word; value = value } ∷ v.notes }

-- a look has found a value in the departure word
abbrev pub departing : SeatView → (word value : ℕ) → SeatView
departing v word value = record (looked v word value) { met = min v.met value }

-- a position was put into the departure word, which was `found` before
abbrev pub lowered : SeatView → (position found : ℕ) → SeatView
lowered v position found = record v { positions = position ∷ v.positions; met = min v.met (min found position) }
