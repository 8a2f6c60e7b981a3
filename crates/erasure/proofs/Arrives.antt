-- A thread of a code with weak locks comes to the next event of the run that it makes without them, or to an operation on a
-- stripe before it.
use Rattle.std.proofs.Common.{◌≡◌, ℕ, ◌<◌, ◌⊎◌, inl, inr, Bool, true, false, List, ℤ, refl, sym, ap, subst, ◌∙◌, nat_le, arith}
use Rattle.std.proofs.lemmas.Bool.{true≢false}
use Rattle.sync_objects.specs.Setup.{SetupView, IsWithinLimits}
use Rattle.rr_base.specs.declared.trap.Trap.{Trap}
use Rattle.flow_code.specs.declared.code.Code.{Code}
use Rattle.flow_code.specs.declared.thread.Phase.TheVariants as phase
use Rattle.word_semantics.specs.declared.event.Due.{Due}
use Rattle.word_semantics.specs.declared.event.Due.TheVariants as due
use Rattle.word_semantics.specs.declared.event.Action.{Action}
use Rattle.flow_code.specs.Threads.{Thread, line_of}
use Rattle.flow_code.specs.Next.{due_of, action_of, action_at, stepped, has_begun, has_ended}
use Rattle.flow_code.specs.Settle.{settled, IsRunnable}
use Rattle.flow_code.proofs.Counts.{ended_due}
use Rattle.flow_code.proofs.Settle.{action_is, settled_keeps, settled_quiet}
use Rattle.weak_code.specs.Stripped.{strip}
use Rattle.core_tree.specs.Runs.{Run, does, traps, ends}
use Rattle.lower_sound.specs.Follows.{Comes, IsFull, Prints, Follows}
use Rattle.lowering_simulation.proofs.Makings.{IsAt, event, stripe, full, IsMaking}
use Rattle.lowering_simulation.proofs.Phases.{event_begins}
use Rattle.lowering_simulation.proofs.Proper.{IsEvent, HasEvents}
use Rattle.erasure.specs.Erased.{IsAnywhere}
use Rattle.erasure.proofs.ActDues.{steps_aside}
use Rattle.erasure.proofs.Bare.{bare, HasObjects}
use Rattle.erasure.proofs.Limits.{Compares, same, no_room, again}
use Rattle.erasure.proofs.Makes.{comes_stays, event_no_trap, Makes, takes_again, arrives_aside, quiet_makes}
use Rattle.erasure.proofs.Printing.{prints_same}
use Rattle.erasure.proofs.Steps.{limited_due, compares_dues, same_step, trap_line}

module _ (w : Code) (objects : HasObjects w) (s : SetupView) (limits : IsWithinLimits s) where
  abbrev Arrived : ℕ → Run → Thread → Type 0
  Arrived t r th = IsAt w s IsAnywhere (Makes w objects s) t th r

  module _ (t : ℕ) (r : Run) (th : Thread) (m : Makes w objects s t r th) (here : steps_aside w th th.phase ≡ false) where
    abbrev plain : Thread
    plain = bare w m.entries th

    abbrev d : Due
    d = limited_due w objects s t m.entries th m.few m.placed here

    lives : (a : Action) → IsEvent a → action_at w s t th ≡ a → has_ended th.phase ≡ false
    lives a has at = by (has_ended th.phase) refl
      where
        by : (b : Bool) → has_ended th.phase ≡ b → b ≡ false
        by true e = absurd (subst IsEvent (sym at ∙ action_is w s t th ∙ ap action_of (ended_due w s t th e)) has)
        by false e = refl

    -- the thread has begun after an event
    no_begin : (a : Action) (z : ℤ) → IsEvent a → action_at w s t th ≡ a → (stepped w s t th z).phase ≡ phase.Fresh → ⊥
    no_begin a z has at f = true≢false (sym (event_begins w s t th a z at has (lives a has at)) ∙ ap has_begun f)

    below_limit : th.phase ≡ phase.Fresh → nat_le s.limit th.count ≡ false
    below_limit f = let none = m.begins f in let some = limits.some_event in low s.limit th.count (omega arith)
      where
        low : (a b : ℕ) → b < a → nat_le a b ≡ false
        low a b lt = grind (arith, lt)

    -- ---- the same is due

    module _ (x : due_of w s t th ≡ d) (y : due_of (strip w) s t plain ≡ d) (loud : due_of w s t th ≡ due.Quiet → ⊥) where
      stays : (n : Thread) → Comes (strip w) s t plain n → n ≡ plain
      stays n c = comes_stays (strip w) s t plain n c (λ e. loud (x ∙ sym y ∙ e))

      goes_on : (a : Action) (more : ℤ → Run) (z : ℤ) → IsEvent a → HasEvents (more z) → action_at w s t th ≡ a → Follows (strip w) s t (more z) (stepped (strip w) s t plain z) → Makes w objects s t (more z) (stepped w s t th z)
      goes_on a more z is has at f =
          let act_is : a ≡ action_of d = sym at ∙ action_is w s t th ∙ ap action_of x in
          let step = same_step w objects s t m.entries th m.few m.placed here d z (event_no_trap d (subst IsEvent act_is is)) x y in
          record {
            entries = step.entries;
            few = step.are_few;
            placed = step.is_placed;
            begins = λ fresh. absurd (no_begin a z is at fresh);
            has = has;
            follows = subst (Follows (strip w) s t (more z)) step.is_bare f;
          }

      at_does : (a : Action) (out : List ℕ) (more : ℤ → Run) → HasEvents (does a out more) → (n : Thread) → n ≡ plain → IsFull (strip w) s t n a ⊎ ((action_at (strip w) s t n ≡ a) × Prints (strip w) n a out × ((z : ℤ) → Follows (strip w) s t (more z) (stepped (strip w) s t n z))) → Arrived t (does a out more) th
      at_does a out more has n e (inl f) = full tt (x ∙ sym y ∙ sym (ap (due_of (strip w) s t) e) ∙ f.traps)
      at_does a out more has n e (inr f) =
          let at : action_at w s t th ≡ a = action_is w s t th ∙ ap action_of (x ∙ sym y) ∙ sym (action_is (strip w) s t plain) ∙ sym (ap (action_at (strip w) s t) e) ∙ f.0 in
          event (has.0, at, prints_same w m.entries th here a out (subst (λ k. Prints (strip w) k a out) e f.1), λ z. goes_on a more z has.0 (has.1 z) at (subst (λ k. Follows (strip w) s t (more z) (stepped (strip w) s t k z)) e (f.2 z)))

      at_traps : (kind : Trap) (line : ℕ) (n : Thread) → n ≡ plain → due_of (strip w) s t n ≡ due.Trap kind → line_of (strip w) n.phase n.top ≡ line → Arrived t (traps kind line) th
      at_traps kind line n e is at =
          let traps_there : d ≡ due.Trap kind = sym y ∙ sym (ap (due_of (strip w) s t) e) ∙ is in
          event (x ∙ traps_there, sym (trap_line w objects s t m.entries th m.few m.placed here kind below_limit traps_there) ∙ sym (ap (λ (z : Thread). line_of (strip w) z.phase z.top) e) ∙ at)

      at_event : (q : Run) → HasEvents q → Follows (strip w) s t q plain → Arrived t q th
      at_event (does a out more) has f = at_does a out more has f.0 (stays f.0 f.1) f.2
      at_event (traps kind line) has f = at_traps kind line f.0 (stays f.0 f.1) f.2 f.3
      at_event ends has f = event (x ∙ sym y ∙ sym (ap (due_of (strip w) s t) (stays f.0 f.1)) ∙ f.2)

    arrives_plainly : (due_of w s t th ≡ due.Quiet → ⊥) → Compares (due_of w s t th) (due_of (strip w) s t plain) d → Arrived t r th
    arrives_plainly loud (same x y) = at_event x y loud r m.has m.follows
    arrives_plainly loud (no_room x) = full tt x
    arrives_plainly loud (again z x) = stripe (takes_again w objects s t r th m z x)

  arrives_at : (t : ℕ) (r : Run) (th : Thread) → (due_of w s t th ≡ due.Quiet → ⊥) → Makes w objects s t r th → Arrived t r th
  arrives_at t r th loud m = by (steps_aside w th th.phase) refl
    where
      by : (b : Bool) → steps_aside w th th.phase ≡ b → Arrived t r th
      by true e = arrives_aside w objects s t r th m e loud
      by false e = arrives_plainly t r th m e loud (compares_dues w objects s t m.entries th m.few m.placed e)

  -- what the threads of the code make
  pub making : IsRunnable w → IsMaking w s IsAnywhere (Makes w objects s)
  making runnable = record {
    arrives = λ t r th m. arrives_at t r (settled w s t th) (settled_quiet w s t runnable th) (settled_keeps w s t (Makes w objects s t r) (λ q e h. quiet_makes w objects s t r q e h) th m);
    revoked = λ t r th lock stripe has may m. record {
      entries = m.entries;
      few = omega (arith, m.few);
      placed = record { fresh = m.placed.fresh; callers = m.placed.callers };
      begins = m.begins;
      has = m.has;
      follows = m.follows;
    };
  }
