-- How a thread is handed over: from its start to its begin, and from its end to its join.
use Rattle.std.specs.Prelude.{◌≡◌, ◌≢◌, ℕ, ◌<◌, ℤ, Option, Some}
use Rattle.sync_objects.specs.declared.entry.Noted.{Noted}
use Rattle.sync_objects.specs.declared.object.ObjId.TheVariants as object
use Rattle.sync_objects.specs.declared.operation.OpName.{OpName}
use Rattle.sync_objects.specs.declared.operation.OpName.TheVariants as name
use Rattle.run_theory.specs.Ordered.{Event, Did, event_thread, event_access, PassesTo}
use Rattle.run_theory.specs.Laws.{NoAccess}

-- the event at this place is an operation of thread t on the slot of thread k
pub record IsOnSlot (at : ℕ → Option Event) (o : OpName) (t k place : ℕ) : Type 0 where
  pub noted : Noted
  pub word : ℕ
  pub answer : ℤ
  pub happens : at place ≡ Some (Did t noted word answer)
  pub named : noted.entry.op ≡ o
  pub on : noted.entry.obj ≡ object.Slot k

-- before place j thread k was started by some thread, at a place with no other start of it, and then has begun; it makes
-- no event before its begin
pub record IsStarted (at : ℕ → Option Event) (k j : ℕ) : Type 0 where
  pub a : ℕ
  pub b : ℕ
  pub order : a < b
  pub before : b < j
  pub starter : ℕ
  pub starts : IsOnSlot at name.Start starter k a
  pub begins : IsOnSlot at name.Begin k k b
  pub passes : PassesTo starter starts.noted starts.word begins.noted begins.answer
  pub only : (c t : ℕ) → IsOnSlot at name.Start t k c → c ≡ a
  pub first : (i : ℕ) (x : Event) → at i ≡ Some x → event_thread x ≡ k → i < b → ⊥

-- the event is neither a thread's begin nor its closing before it
abbrev pub IsNoOpening : Event → Type 0
IsNoOpening (Did t x before answer) = (x.entry.op ≢ name.Begin) × (x.entry.op ≢ name.Close)
IsNoOpening _ = Unit {0}

-- before the join of thread k at place b, thread k has ended its slot, and it makes no access from then on
pub record HasEnded (at : ℕ → Option Event) (k t b : ℕ) (joins : IsOnSlot at name.Join t k b) : Type 0 where
  pub a : ℕ
  pub order : a < b
  pub ends : IsOnSlot at name.End k k a
  pub passes : PassesTo k ends.noted ends.word joins.noted joins.answer
  pub last : (i : ℕ) (x : Event) → at i ≡ Some x → event_thread x ≡ k → event_access x ≢ NoAccess → i < a
