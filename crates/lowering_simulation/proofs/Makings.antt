-- What it is that the threads of a code make runs, whatever stripes of weak locks they take.
use Rattle.std.proofs.Common.{◌≡◌, ℕ, true, false, ℤ}
use Rattle.sync_objects.specs.Setup.{SetupView}
use Rattle.sync_objects.specs.declared.object.ObjId.TheVariants as object
use Rattle.sync_objects.specs.declared.operation.Op.{Op}
use Rattle.rr_base.specs.declared.trap.Trap.TheVariants as trap
use Rattle.flow_code.specs.declared.code.Code.{Code}
use Rattle.word_semantics.specs.declared.event.Due.TheVariants as due
use Rattle.word_semantics.specs.declared.event.Action.TheVariants as action
use Rattle.flow_code.specs.Threads.{Thread, line_of}
use Rattle.flow_code.specs.Next.{due_of, action_at, stepped, gave_up, has_begun, has_ended}
use Rattle.flow_code.specs.Settle.{settled}
use Rattle.core_run.specs.Machine.{may_revoke}
use Rattle.core_run.specs.Words.{has_object}
use Rattle.core_tree.specs.Runs.{Run, does, traps, ends}
use Rattle.lowering_simulation.specs.RunEvents.{printed_at}
use Rattle.lowering_simulation.specs.SourceRuns.{Progress, waits, goes, over}
use Rattle.lowering_simulation.proofs.Proper.{IsEvent}

module _ (code : Code) (s : SetupView) (MayFill : Run → Type 0) (Makes : ℕ → Run → Thread → Type 0) where
  -- the next event of the run comes next, and prints what that prints
  abbrev pub IsAtEvent : ℕ → Thread → Run → Type 0
  IsAtEvent t n (does a out more) = IsEvent a × (action_at code s t n ≡ a) × (printed_at code n a ≡ out) × ((answer : ℤ) → Makes t (more answer) (stepped code s t n answer))
  IsAtEvent t n (traps why line) = (due_of code s t n ≡ due.Trap why) × (line_of code n.phase n.top ≡ line)
  IsAtEvent t n ends = due_of code s t n ≡ due.Nothing

  -- an operation on a stripe comes first, after which the same run is to be made
  pub record IsAtStripe (t : ℕ) (n : Thread) (r : Run) : Type 0 where
    pub o : Op
    pub lock : ℕ
    pub stripe : ℕ
    pub comes : action_at code s t n ≡ action.Operate o (object.Weak lock stripe)
    pub phase : (answer : ℤ) → (stepped code s t n answer).phase ≡ n.phase
    pub makes : (answer : ℤ) → Makes t r (stepped code s t n answer)

  -- a thread, all of whose quiet steps are made
  pub data IsAt (t : ℕ) (n : Thread) (r : Run) : Type 0 where
    event : IsAtEvent t n r → IsAt t n r
    stripe : IsAtStripe t n r → IsAt t n r
    full : MayFill r → due_of code s t n ≡ due.Trap trap.LogFull → IsAt t n r

  pub record IsMaking : Type 0 where
    pub arrives : (t : ℕ) (r : Run) (th : Thread) → Makes t r th → IsAt t (settled code s t th) r
    -- a stripe that there is may be revoked at any time
    pub revoked : (t : ℕ) (r : Run) (th : Thread) (lock stripe : ℕ) → has_object code s (object.Weak lock stripe) ≡ true → may_revoke th lock stripe ≡ true → Makes t r th → Makes t r (gave_up th lock stripe)

  -- the machine's thread is where the source's is
  abbrev pub IsProgress : ℕ → Progress → Thread → Type 0
  IsProgress t (waits r) th = (has_begun th.phase ≡ false) × (has_ended th.phase ≡ false) × Makes t r th
  IsProgress t (goes r) th = (has_begun th.phase ≡ true) × (has_ended th.phase ≡ false) × Makes t r th
  IsProgress t over th = has_ended th.phase ≡ true
