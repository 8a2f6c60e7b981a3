-- Entries whose walk isn't wrong have a walk.
use Rattle.std.proofs.Common.{◌≡◌, ℕ, List, subst}
use Rattle.rr_base.specs.declared.trap.Trap.{Trap}
use Rattle.sync_objects.specs.Setup.{SetupView}
use Rattle.sync_objects.specs.declared.entry.Entry.{Entry}
use Rattle.flow_code.specs.declared.code.Code.{Code}
use Rattle.thread_interpreter.specs.declared.access.Access.{Access}
use Rattle.thread_interpreter.specs.declared.access.Formula.{Formula}
use Rattle.thread_interpreter.specs.declared.outcome.Ending.{Ending}
use Rattle.core_run.specs.Walks.{WalkIs}
use Rattle.core_run.specs.declared.outcome.Walk.{Walk}
use Rattle.core_run.specs.declared.outcome.Walk.TheVariants as walk
use Rattle.walk_accesses.specs.Accesses.{HasWalk}

module _ (code : Code) (s : SetupView) (es : List Entry) (f : Formula) (w : Walk) (h : WalkIs code s es f w) where
  pub done_has_walk : (out : List ℕ) (reads : List Access) (ends : List Ending) → w ≡ walk.Done out reads ends → HasWalk code s es
  done_has_walk out reads ends e = let q = subst (WalkIs code s es f) e h in record { end = q.0; walked = q.1.whole.walked }

  pub trapped_has_walk : (kind : Trap) (thread line : ℕ) (out : List ℕ) (reads : List Access) (ends : List Ending) → w ≡ walk.Trapped kind thread line out reads ends → HasWalk code s es
  trapped_has_walk kind thread line out reads ends e = let q = subst (WalkIs code s es f) e h in record { end = q.0; walked = q.1.whole.walked }
