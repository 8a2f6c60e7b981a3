-- Accesses that a lock orders which both threads hold.
use Rattle.std.proofs.Common.{◌≡◌, ◌≢◌, ℕ, ◌<◌, true, List, Some}
use Rattle.std.proofs.lemmas.Bool.{and_parts}
use Rattle.rr_base.specs.declared.layout.CellKind.{CellKind}
use Rattle.rr_base.specs.declared.layout.CellKind.TheVariants as kind
use Rattle.sync_objects.specs.Modes.{excludes}
use Rattle.sync_objects.specs.Setup.{SetupView, IsWithinLimits}
use Rattle.sync_objects.specs.declared.mode.Mode.{Mode}
use Rattle.sync_objects.specs.declared.object.ObjId.TheVariants as object
use Rattle.flow_code.specs.declared.code.Code.{Code}
use Rattle.flow_code.specs.Settle.{IsRunnable}
use Rattle.core_run.specs.Machine.{Told, machine, start_state}
use Rattle.core_run.specs.Words.{has_object}
use Rattle.run_theory.specs.Labels.{Label}
use Rattle.run_theory.specs.Laws.{NoAccess}
use Rattle.run_theory.specs.Ordered.{Event, event_access, event_at, event_thread, Ordered, state_at}
use Rattle.run_theory.specs.Steps.{State}
use Rattle.lock_ownership.specs.Holders.{holds_lock}
use Rattle.lock_ownership.proofs.LockOrders.{ordered_by_mutex, ordered_by_rwlock}
use Rattle.lockset_sound.specs.Frames.{holds_at}

module _ (code : Code) (s : SetupView) (run : IsRunnable code) (limits : IsWithinLimits s) (labels : List Label) (i j : ℕ) (lt : i < j) (first second : Event) (before after : State Told)
    (at_first : event_at (machine code s) labels (start_state code s) i ≡ Some first) (at_second : event_at (machine code s) labels (start_state code s) j ≡ Some second)
    (access : event_access first ≢ NoAccess) (differ : event_thread first ≢ event_thread second)
    (at_before : state_at (machine code s) labels (start_state code s) i ≡ Some before) (at_after : state_at (machine code s) labels (start_state code s) j ≡ Some after)
    (a b : Mode) (apart : excludes a b ≡ true) where
  -- an access and a later event of another thread, each made while its thread holds the lock in the cell, in modes that
  -- exclude each other
  pub ordered_by_held : (k : CellKind) (c : ℕ) → holds_at code s (event_thread first) before a k c ≡ true → holds_at code s (event_thread second) after b k c ≡ true → Ordered (event_at (machine code s) labels (start_state code s)) i j
  ordered_by_held kind.Mutex c h g =
      let x = and_parts (has_object code s (object.Mutex c)) (holds_lock code s (object.Mutex c) a (event_thread first) before) h in
      let y = and_parts (has_object code s (object.Mutex c)) (holds_lock code s (object.Mutex c) b (event_thread second) after) g in
      ordered_by_mutex code s c labels i j first second before after run limits x.0 lt at_first at_second access differ at_before at_after x.1 y.1
  ordered_by_held kind.Rw c h g =
      let x = and_parts (has_object code s (object.Rw c)) (holds_lock code s (object.Rw c) a (event_thread first) before) h in
      let y = and_parts (has_object code s (object.Rw c)) (holds_lock code s (object.Rw c) b (event_thread second) after) g in
      ordered_by_rwlock code s c a b labels i j first second before after run limits x.0 apart lt at_first at_second access differ at_before at_after x.1 y.1
  ordered_by_held _ c h g = cc
