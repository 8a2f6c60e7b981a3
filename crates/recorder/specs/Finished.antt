-- What a run leaves that has come to its end.
use Rattle.std.specs.Prelude.{◌≡◌, List}
use Rattle.std.specs.List.{AllZip}
use Rattle.sync_objects.specs.Setup.{SetupView}
use Rattle.sync_objects.specs.declared.entry.Noted.{Noted}
use Rattle.flow_code.specs.declared.code.Code.{Code}
use Rattle.core_run.specs.Histories.{IsReachable, HaveEnded, lists_of}
use Rattle.core_run.specs.Machine.{Told}
use Rattle.run_theory.specs.Steps.{State}
use Rattle.run_walk.specs.declared.remains.Remains.{Remains}
use Rattle.run_walk.specs.Remains.{RemainsOf}

-- these are the lists of a state that a run leads to, in which all threads have ended, and what else remains of them
pub record IsFinished (code : Code) (s : SetupView) (lists : List (List Noted)) (remains : List Remains) : Type 0 where
  pub state : State Told
  pub reached : IsReachable code s state
  pub ended : HaveEnded code s state
  pub lists_are : lists ≡ lists_of state
  pub remains_are : AllZip RemainsOf remains state.threads
