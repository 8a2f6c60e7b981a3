-- The counts of faults of the outside. Only what is told as a fault raises one.
use Rattle.std.specs.Prelude.{◌≡◌, ℕ}
use Rattle.rr_base.specs.Faults.{Rose}
use Rattle.job_outcomes.specs.declared.stop.Stop.{Stop}
use Rattle.job_outcomes.specs.declared.stop.Stop.TheVariants.{Refused, ShelfFailed, InputFailed, CrewFailed, OutOfMemory}

-- of the shelf, of the input, and of the crew
pub record Counts : Type 0 where
  pub shelf : ℕ
  pub input : ℕ
  pub crew : ℕ

-- why a job stops, and the counts before and after
abbrev pub StopCounts : Stop → Counts → Counts → Type 0
StopCounts (Refused a) old new = new ≡ old
StopCounts ShelfFailed old new = Rose old.shelf new.shelf × (new.input ≡ old.input) × (new.crew ≡ old.crew)
StopCounts InputFailed old new = Rose old.input new.input × (new.shelf ≡ old.shelf) × (new.crew ≡ old.crew)
StopCounts CrewFailed old new = Rose old.crew new.crew × (new.shelf ≡ old.shelf) × (new.input ≡ old.input)
StopCounts OutOfMemory old new = new ≡ old

-- the same of a job that uses no more than the shelf
abbrev pub ShelfStops : Stop → (old new : ℕ) → Type 0
ShelfStops (Refused a) old new = new ≡ old
ShelfStops ShelfFailed old new = Rose old new
ShelfStops InputFailed old new = ⊥
ShelfStops CrewFailed old new = ⊥
ShelfStops OutOfMemory old new = new ≡ old

-- .. or the input
abbrev pub InputStops : Stop → (old new : ℕ) → Type 0
InputStops (Refused a) old new = new ≡ old
InputStops ShelfFailed old new = ⊥
InputStops InputFailed old new = Rose old new
InputStops CrewFailed old new = ⊥
InputStops OutOfMemory old new = new ≡ old

-- the same of a job that only has a crew run, and refuses nothing
abbrev pub CrewStops : Stop → (old new : ℕ) → Type 0
CrewStops (Refused a) old new = ⊥
CrewStops ShelfFailed old new = ⊥
CrewStops InputFailed old new = ⊥
CrewStops CrewFailed old new = Rose old new
CrewStops OutOfMemory old new = new ≡ old

-- .. of one that uses the input and a crew
abbrev pub RunStops : Stop → (input_old input_new crew_old crew_new : ℕ) → Type 0
RunStops (Refused a) input_old input_new crew_old crew_new = (input_new ≡ input_old) × (crew_new ≡ crew_old)
RunStops ShelfFailed input_old input_new crew_old crew_new = ⊥
RunStops InputFailed input_old input_new crew_old crew_new = Rose input_old input_new × (crew_new ≡ crew_old)
RunStops CrewFailed input_old input_new crew_old crew_new = (input_new ≡ input_old) × Rose crew_old crew_new
RunStops OutOfMemory input_old input_new crew_old crew_new = (input_new ≡ input_old) × (crew_new ≡ crew_old)

-- .. of one that uses the shelf and a crew
abbrev pub CrewShelfStops : Stop → (shelf_old shelf_new crew_old crew_new : ℕ) → Type 0
CrewShelfStops (Refused a) shelf_old shelf_new crew_old crew_new = (shelf_new ≡ shelf_old) × (crew_new ≡ crew_old)
CrewShelfStops ShelfFailed shelf_old shelf_new crew_old crew_new = Rose shelf_old shelf_new × (crew_new ≡ crew_old)
CrewShelfStops InputFailed shelf_old shelf_new crew_old crew_new = ⊥
CrewShelfStops CrewFailed shelf_old shelf_new crew_old crew_new = (shelf_new ≡ shelf_old) × Rose crew_old crew_new
CrewShelfStops OutOfMemory shelf_old shelf_new crew_old crew_new = (shelf_new ≡ shelf_old) × (crew_new ≡ crew_old)

-- .. of one that has a crew run, and may refuse
abbrev pub RefusingCrewStops : Stop → (old new : ℕ) → Type 0
RefusingCrewStops (Refused a) old new = new ≡ old
RefusingCrewStops ShelfFailed old new = ⊥
RefusingCrewStops InputFailed old new = ⊥
RefusingCrewStops CrewFailed old new = Rose old new
RefusingCrewStops OutOfMemory old new = new ≡ old

-- .. of one that uses nothing of the outside
abbrev pub IsPure : Stop → Type 0
IsPure (Refused a) = Unit {0}
IsPure ShelfFailed = ⊥
IsPure InputFailed = ⊥
IsPure CrewFailed = ⊥
IsPure OutOfMemory = Unit {0}
