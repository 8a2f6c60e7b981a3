-- Accesses that a mutex, a read-write lock or a stripe orders.
use Rattle.std.proofs.Common.{◌≡◌, ◌≢◌, ℕ, zero, suc, ◌<◌, true, List, [], ◌∷◌, Some, refl, subst}
use Rattle.std.proofs.lemmas.Option.{same_Some}
use Rattle.sync_objects.specs.Setup.{SetupView, IsWithinLimits}
use Rattle.sync_objects.specs.Modes.{excludes}
use Rattle.sync_objects.specs.declared.mode.Mode.{Mode}
use Rattle.sync_objects.specs.declared.mode.Mode.TheVariants.{Write}
use Rattle.sync_objects.specs.declared.object.ObjId.TheVariants as object
use Rattle.flow_code.specs.declared.code.Code.{Code}
use Rattle.flow_code.specs.Settle.{IsRunnable}
use Rattle.core_run.specs.Histories.{IsReachable}
use Rattle.core_run.specs.Machine.{Told, machine, start_state}
use Rattle.core_run.specs.Words.{has_object}
use Rattle.core_run.proofs.Lawful.{lawful}
use Rattle.run_theory.specs.Labels.{Label}
use Rattle.run_theory.specs.Laws.{NoAccess}
use Rattle.run_theory.specs.Ordered.{Event, event_access, event_at, event_thread, Ordered, state_at}
use Rattle.run_theory.specs.Steps.{State, stepped}
use Rattle.run_theory.proofs.Kept.{reaches_step}
use Rattle.run_theory.proofs.Locked.{state_inv, ordered_by_lock}
use Rattle.lock_ownership.specs.Holders.{holds_lock, holds_stripe, names}
use Rattle.lock_ownership.proofs.LockMoves.{mutex, held_by_word}
use Rattle.lock_ownership.proofs.RwHolders.{held_as_shown}
use Rattle.lock_ownership.proofs.StripeLaws.{known_is, held_by_list}

module _ (code : Code) (s : SetupView) where
  -- each state along a run from a state that is reached is reached
  pub reached_at : (ls : List Label) (st st1 : State Told) (i : ℕ) → IsReachable code s st → state_at (machine code s) ls st i ≡ Some st1 → IsReachable code s st1
  reached_at ls st st1 zero r h = subst (IsReachable code s) (same_Some st st1 h) r
  reached_at [] st st1 (suc i) r h = cc
  reached_at (l ∷ ls) st st1 (suc i) r h = go (state_inv (machine code s) l ls st st1 i h) (λ z. reached_at ls z st1 i)
    where
      go : (more : (z : State Told) × (stepped (machine code s) st l ≡ Some z) × (state_at (machine code s) ls z i ≡ Some st1)) → ((z : State Told) → IsReachable code s z → state_at (machine code s) ls z i ≡ Some st1 → IsReachable code s st1) → IsReachable code s st1
      go more again = again more.0 (reaches_step (machine code s) (start_state code s) st more.0 l r more.1) more.2

  pub ordered_by_mutex : (cell : ℕ) (labels : List Label) (i j : ℕ) (first second : Event) (before after : State Told) →
      IsRunnable code → IsWithinLimits s → has_object code s (object.Mutex cell) ≡ true → i < j →
      event_at (machine code s) labels (start_state code s) i ≡ Some first → event_at (machine code s) labels (start_state code s) j ≡ Some second →
      event_access first ≢ NoAccess → event_thread first ≢ event_thread second →
      state_at (machine code s) labels (start_state code s) i ≡ Some before → state_at (machine code s) labels (start_state code s) j ≡ Some after →
      names code s (object.Mutex cell) (event_thread first) before ≡ true → names code s (object.Mutex cell) (event_thread second) after ≡ true →
      Ordered (event_at (machine code s) labels (start_state code s)) i j
  ordered_by_mutex cell labels i j first second before after run limits has lt at_first at_second access differ at_before at_after holds_first holds_second =
      ordered_by_lock (machine code s) (lawful code s run limits) (object.Mutex cell) (λ mode. names code s (object.Mutex cell)) (start_state code s)
      (held_by_word code s run limits (object.Mutex cell) (mutex cell) has) Write Write refl labels i j first second before after lt at_first at_second differ access at_before at_after holds_first holds_second

  pub ordered_by_rwlock : (cell : ℕ) (a b : Mode) (labels : List Label) (i j : ℕ) (first second : Event) (before after : State Told) →
      IsRunnable code → IsWithinLimits s → has_object code s (object.Rw cell) ≡ true → excludes a b ≡ true → i < j →
      event_at (machine code s) labels (start_state code s) i ≡ Some first → event_at (machine code s) labels (start_state code s) j ≡ Some second →
      event_access first ≢ NoAccess → event_thread first ≢ event_thread second →
      state_at (machine code s) labels (start_state code s) i ≡ Some before → state_at (machine code s) labels (start_state code s) j ≡ Some after →
      holds_lock code s (object.Rw cell) a (event_thread first) before ≡ true → holds_lock code s (object.Rw cell) b (event_thread second) after ≡ true →
      Ordered (event_at (machine code s) labels (start_state code s)) i j
  ordered_by_rwlock cell a b labels i j first second before after run limits has apart lt at_first at_second access differ at_before at_after holds_first holds_second =
      ordered_by_lock (machine code s) (lawful code s run limits) (object.Rw cell) (holds_lock code s (object.Rw cell)) (start_state code s)
      (held_as_shown code s run limits cell has) a b apart labels i j first second before after lt at_first at_second differ access at_before at_after holds_first holds_second

  pub ordered_by_stripe : (lock stripe : ℕ) (labels : List Label) (i j : ℕ) (first second : Event) (before after : State Told) →
      IsRunnable code → IsWithinLimits s → i < j →
      event_at (machine code s) labels (start_state code s) i ≡ Some first → event_at (machine code s) labels (start_state code s) j ≡ Some second →
      event_access first ≢ NoAccess → event_thread first ≢ event_thread second →
      state_at (machine code s) labels (start_state code s) i ≡ Some before → state_at (machine code s) labels (start_state code s) j ≡ Some after →
      holds_stripe lock stripe (event_thread first) before ≡ true → holds_stripe lock stripe (event_thread second) after ≡ true →
      Ordered (event_at (machine code s) labels (start_state code s)) i j
  ordered_by_stripe lock stripe labels i j first second before after run limits lt at_first at_second access differ at_before at_after holds_first holds_second =
      let reached : IsReachable code s before = reached_at labels (start_state code s) before i ([], refl) at_before in
      let has = known_is code s run limits before lock stripe (event_thread first) reached holds_first in
      ordered_by_lock (machine code s) (lawful code s run limits) (object.Weak lock stripe) (λ mode. holds_stripe lock stripe) (start_state code s)
      (held_by_list code s run limits lock stripe has) Write Write refl labels i j first second before after lt at_first at_second differ access at_before at_after holds_first holds_second
