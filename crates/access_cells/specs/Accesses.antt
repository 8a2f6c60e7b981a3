-- Which cell a next action names, and the instruction whose access it is.
use Rattle.std.specs.Prelude.{◌≡◌, ℕ, ◌+◌, ◌<◌, ◌||◌, Bool, true, false, List, [], ◌∷◌, Option, Some, None, Ok}
use Rattle.rr_base.specs.Words.{class_of}
use Rattle.rr_base.specs.declared.layout.CellKind.{CellKind}
use Rattle.sync_objects.specs.Setup.{SetupView}
use Rattle.word_semantics.specs.declared.event.Action.{Action}
use Rattle.word_semantics.specs.declared.event.Action.TheVariants as action
use Rattle.word_semantics.specs.Pointers.{resolved}
use Rattle.word_semantics.specs.Registers.{register}
use Rattle.flow_code.specs.declared.act.Act.{Act}
use Rattle.flow_code.specs.declared.code.Code.{Code}
use Rattle.flow_code.specs.declared.thread.Phase.TheVariants as phase
use Rattle.flow_code.specs.Next.{act_at}
use Rattle.flow_code.specs.Settle.{settled}
use Rattle.flow_code.specs.Threads.{Thread}
use Rattle.core_run.specs.Machine.{Told}
use Rattle.run_theory.specs.Steps.{State}
use Rattle.facts.specs.Accesses.{Access, access_of}
use Rattle.facts.specs.PointsTo.{place, element_of, MayPoint}
use Rattle.facts.specs.declared.constraint.Node.TheVariants.{Register}
use Rattle.points_to_sound.specs.Objects.{Object, IsObject}
use Rattle.points_to_sound.specs.Pointing.{Reaches}
use Rattle.points_to_sound.specs.States.{PointsWell}

-- the cell that an action loads or stores, and whether it stores
abbrev pub names_cell : Action → Option (ℕ × Bool)
names_cell (action.Load c) = Some (c, false)
names_cell (action.Store c w) = Some (c, true)
names_cell _ = None

-- the thread stands at an instruction with this access, which is of the cell to which the access's register points and, by the
-- analysis, may point
pub record IsAccess (code : Code) (s : SetupView) (made : List Object) (th : Thread) (c : ℕ) (store : Bool) : Type 0 where
  pub runs : th.phase ≡ phase.Running
  pub instruction : Act
  pub at : act_at code th.top ≡ Some instruction
  pub access : Access
  pub is : access_of instruction ≡ Some access
  pub stores : access.store ≡ store
  pub kind : CellKind
  pub resolves : resolved code.sites (register th.top.registers access.through) kind ≡ Ok c
  pub reaches : Reaches code s made (Register th.top.function access.through) c kind

-- ---- all threads after their quiet steps

-- the thread after its quiet steps, with all that it has done
abbrev pub resting : Code → SetupView → ℕ → Told → Told
resting code s t told = record told { thread = settled code s t told.thread }

-- these threads, numbered from t on
abbrev pub resting_from : Code → SetupView → ℕ → List Told → List Told
resting_from code s t [] = []
resting_from code s t (told ∷ rest) = resting code s t told ∷ resting_from code s (t + 1) rest

-- the state once each thread has made its quiet steps, by which it may have laid further objects
abbrev pub at_rest : Code → SetupView → State Told → State Told
at_rest code s st = record st { threads = resting_from code s 0 st.threads }

-- ---- two accesses of one cell

-- the next actions of two threads are accesses of one cell, one of them a store, and both registers may point to its place
pub record Meet (code : Code) (s : SetupView) (st : State Told) (th other : Thread) : Type 0 where
  pub made : List Object
  pub rest : PointsWell code s made (at_rest code s st)
  pub cell : ℕ
  pub first_stores : Bool
  pub second_stores : Bool
  pub first : IsAccess code s made th cell first_stores
  pub second : IsAccess code s made other cell second_stores
  pub one_stores : (first.access.store || second.access.store) ≡ true
  pub object : Object
  pub is : IsObject code s made object
  pub offset : ℕ
  pub within : offset < object.cells
  pub cell_is : cell ≡ object.base + offset
  pub first_may : MayPoint code (Register th.top.function first.access.through) (place object.site (class_of (element_of code.sites object.site) offset))
  pub second_may : MayPoint code (Register other.top.function second.access.through) (place object.site (class_of (element_of code.sites object.site) offset))
