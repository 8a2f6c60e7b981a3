-- A state that is taken is put as its file, which is read back.
use Rattle.std.proofs.Common.{◌≡◌, refl, sym, subst, ℕ, List, length, Result, Ok, Err}
use Rattle.std.specs.Prelude.{IfOk}
use Rattle.std.specs.declared.alloc.AllocError.{AllocError}
use Rattle.checkpoint.specs.Resuming.{IsStateAfter, TakenIs}
use Rattle.checkpoint.specs.declared.outcome.Taken.TheVariants as taken
use Rattle.core_run.specs.Machine.{Told}
use Rattle.flow_code.specs.declared.code.Code.{Code}
use Rattle.job_outcomes.specs.declared.outcome.Outcome.{Outcome}
use Rattle.run_theory.specs.Steps.{State}
use Rattle.snapshot_reached.specs.Stored.{IsStored}
use Rattle.snapshots.specs.Conditions.{MeetsConditions}
use Rattle.snapshots.specs.Snapshots.{snapshot_of}
use Rattle.snapshots.specs.declared.snapshot.Snapshot.{Snapshot}
use Rattle.sync_objects.specs.Setup.{SetupView}
use Rattle.sync_objects.specs.declared.entry.Entry.{Entry}
use Rattle.walk_checkpoints.specs.Telling.{TakesCheckpoint, checkpoint_put}

module _ (code : Code) (s : SetupView) (es : List Entry) (k : ℕ) (name : List ℕ) where
  -- a snapshot of the state after the first entries, in whose numbers its types hold, where each line of such a one is as it must be
  pub state_put : ((st : State Told) → IsStateAfter code s es k st → IsStored (snapshot_of code s k st) → MeetsConditions code s (length es) (snapshot_of code s k st))
      → (x : Snapshot) → TakenIs code s es k (taken.State x) → IsStored x → (r : Result Outcome AllocError) → IfOk r (λ o. o ≡ checkpoint_put name x) → IfOk r (TakesCheckpoint code s es k name)
  state_put meets x takes stored (Ok o) told =
      let read = subst (MeetsConditions code s (length es)) (sym takes.2) (meets takes.0 takes.1 (subst IsStored takes.2 stored)) in
      record { found = taken.State x; takes = takes; read = (read, refl); told = told }
  state_put meets x takes stored (Err e) told = tt
