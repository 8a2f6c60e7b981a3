-- What is told of going on from bytes that are read.
use Rattle.std.proofs.Common.{◌≡◌, refl, subst, ℕ, List, length, Result, Ok, Err}
use Rattle.std.specs.Prelude.{IfOk}
use Rattle.std.specs.declared.alloc.AllocError.{AllocError}
use Rattle.command_line.specs.declared.answer.Answer.TheVariants as answer
use Rattle.flow_code.specs.declared.code.Code.{Code}
use Rattle.job_outcomes.specs.Outcomes.{answers}
use Rattle.job_outcomes.specs.declared.outcome.Outcome.{Outcome}
use Rattle.snapshot_reader.specs.Reading.{IsAnswer, UnlessMemory}
use Rattle.snapshot_reader.specs.declared.fault.SnapshotFault.{SnapshotFault}
use Rattle.snapshot_reader.specs.declared.fault.SnapshotFault.TheVariants as fault
use Rattle.snapshots.specs.declared.snapshot.Snapshot.{Snapshot}
use Rattle.sync_objects.specs.Setup.{SetupView}
use Rattle.sync_objects.specs.declared.entry.Entry.{Entry}
use Rattle.walk_checkpoints.specs.Telling.{GoesOn, WalksRest}

module _ (code : Code) (s : SetupView) (es : List Entry) where
  module _ (bytes : List ℕ) (r : Result Snapshot SnapshotFault) (read : UnlessMemory r (IsAnswer code s (length es) bytes r)) where
    read_snapshot : (x : Snapshot) → r ≡ Ok x → IsAnswer code s (length es) bytes (Ok x)
    read_snapshot x e = subst (λ q. UnlessMemory q (IsAnswer code s (length es) bytes q)) e read

    pub read_goes : (x : Snapshot) → r ≡ Ok x → (o : Result Outcome AllocError) → IfOk o (WalksRest code s es x) → IfOk o (GoesOn code s es bytes)
    read_goes x e (Ok o) h = record { step = Ok x; is = read_snapshot x e; next = h }
    read_goes x e (Err a) h = tt

    pub refused_goes : (number line : ℕ) → r ≡ Err (fault.Refused number line) → (o : Outcome) → o ≡ answers (answer.CheckpointRefused number line) → GoesOn code s es bytes o
    refused_goes number line e o told =
        let is = subst (λ q. UnlessMemory q (IsAnswer code s (length es) bytes q)) e read in
        record { step = Err (answer.CheckpointRefused number line); is = (fault.Refused number line, is, refl); next = told }
