-- States whose pointers all point where the analysis says.
use Rattle.std.specs.Prelude.{◌≡◌, ℕ, ◌<◌, true, List, map, Some, slice_get}
use Rattle.sync_objects.specs.Setup.{SetupView}
use Rattle.sync_objects.specs.States.{Started}
use Rattle.word_semantics.specs.Cells.{argument_cell}
use Rattle.flow_code.specs.declared.code.Code.{Code}
use Rattle.flow_code.specs.declared.thread.Phase.TheVariants as phase
use Rattle.core_run.specs.Machine.{Told}
use Rattle.run_theory.specs.Steps.{State}
use Rattle.facts.specs.declared.constraint.Node.TheVariants.{Register}
use Rattle.points_to_sound.specs.Creations.{Creation, creation, slot_state}
use Rattle.points_to_sound.specs.Objects.{Object, AreLaidOut}
use Rattle.points_to_sound.specs.Pointing.{IsGood, IsStarted, GoodThread, GoodCells, GoodResults}

-- the first free cell of each thread's arena
abbrev pub marks_of : List Told → List ℕ
marks_of threads = map (λ (told : Told). told.thread.arena) threads

-- a started slot's function is one that some instruction starts, and the argument that lies ready is good for its formal
pub record IsReady (code : Code) (s : SetupView) (made : List Object) (words : List ℕ) (k f : ℕ) : Type 0 where
  pub started : IsStarted code f
  pub argument : (w : ℕ) → slice_get words (argument_cell k) ≡ Some w → IsGood code s made (Register f 0) w

-- objects lie apart; each pointer in a register or a pointer cell is good for its places; and so is each argument from when it
-- is handed over until its thread has it, and each result for what joins store
pub record PointsWell (code : Code) (s : SetupView) (made : List Object) (st : State Told) : Type 0 where
  pub laid : AreLaidOut code s made st.words (marks_of st.threads)
  pub cells : GoodCells code s made st.words
  pub results : GoodResults code s made st.words
  pub threads : (t : ℕ) (told : Told) → slice_get st.threads t ≡ Some told → GoodThread code s made told.thread
  pub handed : (t w : ℕ) (told : Told) (x : Creation) → slice_get st.threads t ≡ Some told → creation code told.thread ≡ Some x → x.handed ≡ true → slice_get st.words (argument_cell x.slot) ≡ Some w → IsGood code s made (Register x.function 0) w
  pub ready : (k f : ℕ) → k < s.slots → slot_state code s st k ≡ Started f → IsReady code s made st.words k f
  pub arrived : (t f w : ℕ) (told : Told) → 0 < t → slice_get st.threads t ≡ Some told → told.thread.phase ≡ phase.Begun f → slice_get st.words (argument_cell t) ≡ Some w → IsGood code s made (Register f 0) w
