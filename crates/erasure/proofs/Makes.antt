-- A thread of a code with weak locks makes the run that it makes without them.
use Rattle.std.proofs.Common.{◌≡◌, ℕ, ◌+◌, ◌≤◌, ◌⊎◌, inl, inr, Bool, true, false, if◌then◌else◌, ℤ, pos, refl, sym, ap, subst, ◌∙◌, nat_le, arith}
use Rattle.std.proofs.lemmas.Bool.{true≢false}
use Rattle.sync_objects.specs.Setup.{SetupView}
use Rattle.sync_objects.specs.declared.object.ObjId.TheVariants as object
use Rattle.sync_objects.specs.declared.operation.Op.{Op}
use Rattle.sync_objects.specs.declared.operation.Op.TheVariants as op
use Rattle.sync_objects.specs.Names.{name_of, is_weak, is_ending}
use Rattle.rr_base.specs.declared.trap.Trap.TheVariants as trap
use Rattle.flow_code.specs.declared.code.Code.{Code}
use Rattle.flow_code.specs.declared.thread.Phase.TheVariants as phase
use Rattle.flow_code.specs.declared.thread.Stripe.{Stripe}
use Rattle.word_semantics.specs.declared.event.Due.{Due}
use Rattle.word_semantics.specs.declared.event.Due.TheVariants as due
use Rattle.word_semantics.specs.declared.event.Action.{Action}
use Rattle.word_semantics.specs.Limits.{most_entries}
use Rattle.flow_code.specs.Threads.{Thread}
use Rattle.flow_code.specs.Next.{first_owed, retake, phase_due, phase_after, due_of, action_of, action_at, counted, stepped}
use Rattle.flow_code.proofs.Counts.{stepped_is, phase_keeps, quiet_keeps}
use Rattle.flow_code.proofs.Dues.{quiet_by_code, quiet_due}
use Rattle.flow_code.proofs.Settle.{action_is, quiet_action_at}
use Rattle.weak_code.specs.Stripped.{strip}
use Rattle.core_tree.specs.Runs.{Run, does, traps, ends}
use Rattle.lower_sound.specs.Follows.{Comes, here, quietly, IsFull, Prints, Follows}
use Rattle.lowering_simulation.proofs.Makings.{IsAt, IsAtStripe, stripe, full}
use Rattle.lowering_simulation.proofs.Proper.{IsEvent, HasEvents}
use Rattle.erasure.specs.Erased.{IsAnywhere}
use Rattle.erasure.proofs.ActDues.{steps_aside, same_phase_due}
use Rattle.erasure.proofs.Asides.{aside_due, phase_beside}
use Rattle.erasure.proofs.Bare.{bare, HasObjects}
use Rattle.erasure.proofs.Limits.{IsAside, idle, takes_stripe, gives_stripe, retakes, fills, weak_aside}
use Rattle.erasure.proofs.Placed.{IsPlaced}
use Rattle.erasure.proofs.Steps.{IsNoTrap, same_step}

-- ---- runs that are followed

module _ (code : Code) (s : SetupView) (t : ℕ) where
  comes_on : (m n : Thread) → Comes code s t m n → due_of code s t m ≡ due.Quiet → (due_of code s t n ≡ due.Quiet → ⊥) → Comes code s t (stepped code s t m (pos 0)) n
  comes_on m n here q loud = absurd (loud q)
  comes_on m n (quietly e c) q loud = c

  pub comes_stays : (m n : Thread) → Comes code s t m n → (due_of code s t m ≡ due.Quiet → ⊥) → n ≡ m
  comes_stays m n here loud = refl
  comes_stays m n (quietly e c) loud = absurd (loud e)

  no_quiet_event : (n : Thread) (a : Action) → IsEvent a → action_at code s t n ≡ a → due_of code s t n ≡ due.Quiet → ⊥
  no_quiet_event n a e at q = subst IsEvent (sym at ∙ quiet_action_at code s t n q) e

  -- a quiet step goes on in the same run
  follows_on : (r : Run) (n : Thread) → HasEvents r → due_of code s t n ≡ due.Quiet → Follows code s t r n → Follows code s t r (stepped code s t n (pos 0))
  follows_on (does a out more) n has q f = (f.0, comes_on n f.0 f.1 q (by f.2), f.2)
    where
      by : IsFull code s t f.0 a ⊎ ((action_at code s t f.0 ≡ a) × Prints code f.0 a out × ((z : ℤ) → Follows code s t (more z) (stepped code s t f.0 z))) → due_of code s t f.0 ≡ due.Quiet → ⊥
      by (inl x) e = let no_trap : due.Quiet ≡ due.Trap trap.LogFull = sym e ∙ x.traps in cc
      by (inr x) e = no_quiet_event f.0 a has.0 x.0 e
  follows_on (traps kind line) n has q f = (f.0, comes_on n f.0 f.1 q (λ e. let no_trap : due.Quiet ≡ due.Trap kind = sym e ∙ f.2 in cc), f.2, f.3)
  follows_on ends n has q f = (f.0, comes_on n f.0 f.1 q (λ e. let no_end : due.Quiet ≡ due.Nothing = sym e ∙ f.2 in cc), f.2)

pub event_no_trap : (d : Due) → IsEvent (action_of d) → IsNoTrap d
event_no_trap due.Nothing h = tt
event_no_trap due.Quiet h = tt
event_no_trap (due.Load c) h = tt
event_no_trap (due.Store c v) h = tt
event_no_trap due.Mark h = tt
event_no_trap (due.Operate o obj) h = tt
event_no_trap (due.Trap kind) h = absurd (true≢false h.0)

module _ (w : Code) (objects : HasObjects w) (s : SetupView) where
  -- the thread makes the run without its weak locks
  pub record Makes (t : ℕ) (r : Run) (th : Thread) : Type 0 where
    pub entries : ℕ
    pub few : entries ≤ th.entries
    pub placed : IsPlaced w th
    pub begins : th.phase ≡ phase.Fresh → th.count ≡ 0
    pub has : HasEvents r
    pub follows : Follows (strip w) s t r (bare w entries th)

  -- ---- quiet steps

  pub quiet_makes : (t : ℕ) (r : Run) (th : Thread) → due_of w s t th ≡ due.Quiet → Makes t r th → Makes t r (stepped w s t th (pos 0))
  quiet_makes t r th q m = by (steps_aside w th th.phase) refl
    where
      by : (b : Bool) → steps_aside w th th.phase ≡ b → Makes t r (stepped w s t th (pos 0))
      by true e =
          let is = stepped_is w s t th due.Quiet (pos 0) q in
          let keeps = quiet_keeps w s t th (pos 0) q in
          let b = phase_beside w th m.placed s t th.phase (pos 0) e in
          record {
            entries = m.entries;
            few = omega (arith, keeps.rest.entries, m.few);
            placed = subst (IsPlaced w) (sym is) b.placed;
            begins = λ f. keeps.rest.count ∙ m.begins (sym keeps.phase ∙ f);
            has = m.has;
            follows = subst (Follows (strip w) s t r) (sym (ap (bare w m.entries) is ∙ b.bare m.entries)) m.follows;
          }
      by false e =
          let keeps = quiet_keeps w s t th (pos 0) q in
          let there = quiet_due (strip w) s t (bare w m.entries th) (same_phase_due w objects s t m.entries th th.phase e ∙ quiet_by_code w s t th q) in
          let step = same_step w objects s t m.entries th m.few m.placed e due.Quiet (pos 0) tt q there in
          record {
            entries = step.entries;
            few = step.are_few;
            placed = step.is_placed;
            begins = λ f. keeps.rest.count ∙ m.begins (sym keeps.phase ∙ f);
            has = m.has;
            follows = subst (Follows (strip w) s t r) step.is_bare (follows_on (strip w) s t r (bare w m.entries th) m.has there m.follows);
          }

  -- ---- operations on stripes

  module _ (t : ℕ) (r : Run) (th : Thread) (m : Makes t r th) where
    abbrev Stripes : Type 0
    Stripes = IsAtStripe w s IsAnywhere Makes t th r

    pub takes_again : (x : Stripe) → due_of w s t th ≡ retake x → Stripes
    takes_again x is = record {
      o = op.Retake;
      lock = x.lock;
      stripe = x.stripe;
      comes = action_is w s t th ∙ ap action_of is;
      phase = λ z. ap (λ (q : Thread). q.phase) (stepped_is w s t th (retake x) z is);
      makes = λ z. subst (Makes t r) (sym (stepped_is w s t th (retake x) z is)) (record {
        entries = m.entries;
        few = omega (arith, m.few);
        placed = record { fresh = m.placed.fresh; callers = m.placed.callers };
        begins = m.begins;
        has = m.has;
        follows = m.follows;
      });
    }

    module _ (aside : steps_aside w th th.phase ≡ true) where
      abbrev reached : ℤ → Thread
      reached z = phase_after w s t th th.phase z

      -- an operation on a stripe leaves the run before it
      stays_before : (z : ℤ) (q : Thread) → q.count ≡ (reached z).count → (reached z).entries ≤ q.entries → ((e : ℕ) → bare w e q ≡ bare w e (reached z)) → q.phase ≡ (reached z).phase → IsPlaced w q → Makes t r q
      stays_before z q count few bares same_phase placed =
          let b = phase_beside w th m.placed s t th.phase z aside in
          let k = phase_keeps w s t th th.phase z in
          record {
            entries = m.entries;
            few = omega (arith, k.entries, m.few, few);
            placed = placed;
            begins = λ f. count ∙ k.count ∙ m.begins (sym (same_phase ∙ b.phase) ∙ f);
            has = m.has;
            follows = subst (Follows (strip w) s t r) (sym (bares m.entries ∙ b.bare m.entries)) m.follows;
          }

      moves_stripe : (o : Op) (lock k : ℕ) → is_weak (name_of o) ≡ true → is_ending (name_of o) ≡ false → due_of w s t th ≡ due.Operate o (object.Weak lock k) →
          ((z : ℤ) → stepped w s t th z ≡ counted o (reached z)) → Stripes
      moves_stripe o lock k weak goes is after = record {
        o = o;
        lock = lock;
        stripe = k;
        comes = action_is w s t th ∙ ap action_of is;
        phase = λ z. ap (λ (q : Thread). q.phase) (after z) ∙ (phase_beside w th m.placed s t th.phase z aside).phase;
        makes = λ z.
            let b = phase_beside w th m.placed s t th.phase z aside in
            subst (Makes t r) (sym (after z)) (stays_before z (counted o (reached z))
            (ap (λ c. if c then (reached z).count else (reached z).count + 1) weak)
            (subst (λ c. (reached z).entries ≤ (if c then (reached z).entries else (reached z).entries + 1)) (sym goes) (omega arith))
            (λ e. ap (λ c. record (bare w e (reached z)) { count = if c then (reached z).count else (reached z).count + 1 }) weak)
            refl
            (record { fresh = b.placed.fresh; callers = b.placed.callers }));
      }

      aside_at : (d : Due) → due_of w s t th ≡ d → (due_of w s t th ≡ due.Quiet → ⊥) → IsAside d → IsAt w s IsAnywhere Makes t th r
      aside_at d is loud idle = absurd (loud is)
      aside_at d is loud (takes_stripe lock k) = stripe (moves_stripe op.Take lock k refl refl is (λ z. stepped_is w s t th (due.Operate op.Take (object.Weak lock k)) z is))
      aside_at d is loud (gives_stripe lock k) = stripe (moves_stripe op.Give lock k refl refl is (λ z. stepped_is w s t th (due.Operate op.Give (object.Weak lock k)) z is))
      aside_at d is loud (retakes x) = stripe (takes_again x is)
      aside_at d is loud fills = full tt is

      pub arrives_aside : (due_of w s t th ≡ due.Quiet → ⊥) → IsAt w s IsAnywhere Makes t th r
      arrives_aside loud =
          aside_at (due_of w s t th) refl loud
          (weak_aside (nat_le most_entries th.entries) (nat_le s.limit th.count) (first_owed th.stripes) (phase_due w s t th th.phase) (aside_due w s t th th.phase aside))
