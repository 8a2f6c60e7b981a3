-- A thread of the plain code follows one of the code with weak locks.
use Rattle.std.proofs.Common.{◌≡◌, ℕ, ◌+◌, ◌≤◌, Bool, true, false, if◌then◌else◌, ℤ, pos, refl, sym, ap, subst, ◌∙◌, nat_le, arith}
use Rattle.sync_objects.specs.Setup.{SetupView}
use Rattle.sync_objects.specs.declared.object.ObjId.TheVariants as object
use Rattle.sync_objects.specs.declared.operation.Op.{Op}
use Rattle.sync_objects.specs.declared.operation.Op.TheVariants as op
use Rattle.sync_objects.specs.Names.{name_of, is_weak, is_ending}
use Rattle.rr_base.specs.declared.trap.Trap.TheVariants as trap
use Rattle.flow_code.specs.declared.code.Code.{Code}
use Rattle.flow_code.specs.declared.thread.Stripe.{Stripe}
use Rattle.word_semantics.specs.declared.event.Due.{Due}
use Rattle.word_semantics.specs.declared.event.Due.TheVariants as due
use Rattle.word_semantics.specs.declared.event.Action.TheVariants as action
use Rattle.word_semantics.specs.Limits.{most_entries}
use Rattle.flow_code.specs.Threads.{Thread}
use Rattle.flow_code.specs.Next.{first_owed, retake, phase_due, phase_after, due_of, action_of, action_at, counted, stepped, gave_up}
use Rattle.flow_code.specs.Settle.{settled, IsRunnable}
use Rattle.flow_code.proofs.Counts.{stepped_is, phase_keeps, quiet_keeps}
use Rattle.flow_code.proofs.Dues.{quiet_by_code, quiet_due}
use Rattle.flow_code.proofs.Settle.{action_is, settled_keeps, settled_none, settled_step}
use Rattle.weak_code.specs.Stripped.{strip}
use Rattle.erasure.proofs.ActDues.{steps_aside, same_phase_due}
use Rattle.erasure.proofs.Asides.{aside_due, phase_beside}
use Rattle.erasure.proofs.Bare.{bare, HasObjects}
use Rattle.erasure.proofs.Limits.{Compares, same, no_room, again, IsAside, idle, takes_stripe, gives_stripe, retakes, fills, weak_aside}
use Rattle.erasure.proofs.Placed.{IsPlaced}
use Rattle.erasure.proofs.Steps.{IsNoTrap, limited_due, compares_dues, same_step}
use Rattle.erased_states.proofs.Strong.{IsStrong, strong_due}

module _ (w : Code) (objects : HasObjects w) (s : SetupView) (runs : IsRunnable (strip w)) (t : ℕ) where
  -- by its quiet steps the plain thread comes to where the other one stands without its weak locks
  pub record Keeps (th m : Thread) : Type 0 where
    pub entries : ℕ
    pub few : entries ≤ th.entries
    pub placed : IsPlaced w th
    pub settles : settled (strip w) s t m ≡ settled (strip w) s t (bare w entries th)

  -- ---- quiet steps

  quiet_on : (m th : Thread) → due_of w s t th ≡ due.Quiet → Keeps th m → Keeps (stepped w s t th (pos 0)) m
  quiet_on m th q k = by (steps_aside w th th.phase) refl
    where
      by : (b : Bool) → steps_aside w th th.phase ≡ b → Keeps (stepped w s t th (pos 0)) m
      by true e =
          let is = stepped_is w s t th due.Quiet (pos 0) q in
          let keeps = quiet_keeps w s t th (pos 0) q in
          let b = phase_beside w th k.placed s t th.phase (pos 0) e in
          record {
            entries = k.entries;
            few = omega (arith, keeps.rest.entries, k.few);
            placed = subst (IsPlaced w) (sym is) b.placed;
            settles = k.settles ∙ ap (settled (strip w) s t) (sym (ap (bare w k.entries) is ∙ b.bare k.entries));
          }
      by false e =
          let there = quiet_due (strip w) s t (bare w k.entries th) (same_phase_due w objects s t k.entries th th.phase e ∙ quiet_by_code w s t th q) in
          let step = same_step w objects s t k.entries th k.few k.placed e due.Quiet (pos 0) tt q there in
          record {
            entries = step.entries;
            few = step.are_few;
            placed = step.is_placed;
            settles = k.settles ∙ sym (settled_step (strip w) s t runs (bare w k.entries th) (pos 0) there) ∙ ap (settled (strip w) s t) step.is_bare;
          }

  pub settled_on : (m th : Thread) → Keeps th m → Keeps (settled w s t th) m
  settled_on m th k = settled_keeps w s t (λ q. Keeps q m) (λ q e h. quiet_on m q e h) th k

  -- ---- what comes after them

  -- the same comes next in both
  pub record IsSame (n m : Thread) : Type 0 where
    pub entries : ℕ
    pub few : entries ≤ n.entries
    pub placed : IsPlaced w n
    pub here : steps_aside w n n.phase ≡ false
    pub settles : settled (strip w) s t m ≡ bare w entries n
    pub next : Due
    pub strong : IsStrong next
    pub comes : due_of w s t n ≡ next
    pub there : due_of (strip w) s t (bare w entries n) ≡ next

  -- an operation on a stripe comes next, which leaves the plain thread where it is
  pub record IsOnStripe (n m : Thread) : Type 0 where
    pub o : Op
    pub lock : ℕ
    pub stripe : ℕ
    pub comes : action_at w s t n ≡ action.Operate o (object.Weak lock stripe)
    pub phase : (z : ℤ) → (stepped w s t n z).phase ≡ n.phase
    pub keeps : (z : ℤ) → Keeps (stepped w s t n z) m

  pub data Arrives (n m : Thread) : Type 0 where
    with_plain : IsSame n m → Arrives n m
    on_stripe : IsOnStripe n m → Arrives n m
    full : due_of w s t n ≡ due.Trap trap.LogFull → Arrives n m

  module _ (n m : Thread) (k : Keeps n m) where
    takes_again : (x : Stripe) → due_of w s t n ≡ retake x → IsOnStripe n m
    takes_again x is = record {
      o = op.Retake;
      lock = x.lock;
      stripe = x.stripe;
      comes = action_is w s t n ∙ ap action_of is;
      phase = λ z. ap (λ (q : Thread). q.phase) (stepped_is w s t n (retake x) z is);
      keeps = λ z. subst (λ q. Keeps q m) (sym (stepped_is w s t n (retake x) z is)) (record {
        entries = k.entries;
        few = omega (arith, k.few);
        placed = record { fresh = k.placed.fresh; callers = k.placed.callers };
        settles = k.settles;
      });
    }

    module _ (aside : steps_aside w n n.phase ≡ true) where
      abbrev reached : ℤ → Thread
      reached z = phase_after w s t n n.phase z

      moves_stripe : (o : Op) (lock j : ℕ) → is_weak (name_of o) ≡ true → is_ending (name_of o) ≡ false → due_of w s t n ≡ due.Operate o (object.Weak lock j) →
          ((z : ℤ) → stepped w s t n z ≡ counted o (reached z)) → IsOnStripe n m
      moves_stripe o lock j weak goes is after = record {
        o = o;
        lock = lock;
        stripe = j;
        comes = action_is w s t n ∙ ap action_of is;
        phase = λ z. ap (λ (q : Thread). q.phase) (after z) ∙ (phase_beside w n k.placed s t n.phase z aside).phase;
        keeps = λ z.
            let b = phase_beside w n k.placed s t n.phase z aside in
            let kept = (phase_keeps w s t n n.phase z).entries in
            let more : (reached z).entries ≤ (counted o (reached z)).entries = subst (λ c. (reached z).entries ≤ (if c then (reached z).entries else (reached z).entries + 1)) (sym goes) (omega arith) in
            let same_count : (e : ℕ) → bare w e (counted o (reached z)) ≡ bare w e (reached z) = λ e. ap (λ c. record (bare w e (reached z)) { count = if c then (reached z).count else (reached z).count + 1 }) weak in
            subst (λ q. Keeps q m) (sym (after z)) (record {
              entries = k.entries;
              few = omega (arith, kept, k.few, more);
              placed = record { fresh = b.placed.fresh; callers = b.placed.callers };
              settles = k.settles ∙ ap (settled (strip w) s t) (sym (same_count k.entries ∙ b.bare k.entries));
            });
      }

      aside_at : (d : Due) → due_of w s t n ≡ d → (due_of w s t n ≡ due.Quiet → ⊥) → IsAside d → Arrives n m
      aside_at d is loud idle = absurd (loud is)
      aside_at d is loud (takes_stripe lock j) = on_stripe (moves_stripe op.Take lock j refl refl is (λ z. stepped_is w s t n (due.Operate op.Take (object.Weak lock j)) z is))
      aside_at d is loud (gives_stripe lock j) = on_stripe (moves_stripe op.Give lock j refl refl is (λ z. stepped_is w s t n (due.Operate op.Give (object.Weak lock j)) z is))
      aside_at d is loud (retakes x) = on_stripe (takes_again x is)
      aside_at d is loud fills = full is

      arrives_aside : (due_of w s t n ≡ due.Quiet → ⊥) → Arrives n m
      arrives_aside loud =
          aside_at (due_of w s t n) refl loud
          (weak_aside (nat_le most_entries n.entries) (nat_le s.limit n.count) (first_owed n.stripes) (phase_due w s t n n.phase) (aside_due w s t n n.phase aside))

    module _ (here : steps_aside w n n.phase ≡ false) where
      abbrev d : Due
      d = limited_due w objects s t k.entries n k.few k.placed here

      arrives_plainly : (due_of w s t n ≡ due.Quiet → ⊥) → Compares (due_of w s t n) (due_of (strip w) s t (bare w k.entries n)) d → Arrives n m
      arrives_plainly loud (same x y) = with_plain (record {
        entries = k.entries;
        few = k.few;
        placed = k.placed;
        here = here;
        settles = k.settles ∙ settled_none (strip w) s t (bare w k.entries n) (λ e. loud (x ∙ sym y ∙ e));
        next = d;
        strong = strong_due w s t n (nat_le s.limit n.count) here;
        comes = x;
        there = y;
      })
      arrives_plainly loud (no_room x) = full x
      arrives_plainly loud (again z x) = on_stripe (takes_again z x)

    pub arrives : (due_of w s t n ≡ due.Quiet → ⊥) → Arrives n m
    arrives loud = by (steps_aside w n n.phase) refl
      where
        by : (b : Bool) → steps_aside w n n.phase ≡ b → Arrives n m
        by true e = arrives_aside e loud
        by false e = arrives_plainly e loud (compares_dues w objects s t k.entries n k.few k.placed e)

  -- ---- after the same step

  pub action_there : (n m : Thread) (h : IsSame n m) → action_at (strip w) s t (settled (strip w) s t m) ≡ action_of h.next
  action_there n m h = ap (action_at (strip w) s t) h.settles ∙ action_is (strip w) s t (bare w h.entries n) ∙ ap action_of h.there

  pub action_here : (n m : Thread) (h : IsSame n m) → action_at w s t n ≡ action_of h.next
  action_here n m h = action_is w s t n ∙ ap action_of h.comes

  pub same_after : (n m : Thread) (h : IsSame n m) (z : ℤ) → IsNoTrap h.next → Keeps (stepped w s t n z) (stepped (strip w) s t (settled (strip w) s t m) z)
  same_after n m h z no_trap =
      let step = same_step w objects s t h.entries n h.few h.placed h.here h.next z no_trap h.comes h.there in
      record {
        entries = step.entries;
        few = step.are_few;
        placed = step.is_placed;
        settles = ap (settled (strip w) s t) (ap (λ q. stepped (strip w) s t q z) h.settles ∙ step.is_bare);
      }

  -- a revoke changes nothing of it
  pub revoked_on : (th m : Thread) (lock stripe : ℕ) → Keeps th m → Keeps (gave_up th lock stripe) m
  revoked_on th m lock stripe k = record {
    entries = k.entries;
    few = omega (arith, k.few);
    placed = record { fresh = k.placed.fresh; callers = k.placed.callers };
    settles = k.settles;
  }
