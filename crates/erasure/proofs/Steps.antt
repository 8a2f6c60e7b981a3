-- One step of a thread, with and without weak locks.
use Rattle.std.proofs.Common.{◌≡◌, ℕ, ◌+◌, ◌≤◌, Bool, true, false, if◌then◌else◌, ℤ, [], Option, Some, None, refl, sym, ap, subst, ◌∙◌, nat_le, le-leb, leb-true, arith}
use Rattle.std.specs.Prelude.{position}
use Rattle.std.proofs.lemmas.Bool.{true≢false}
use Rattle.sync_objects.specs.Setup.{SetupView}
use Rattle.sync_objects.specs.Names.{name_of, is_ending}
use Rattle.sync_objects.specs.declared.operation.Op.{Op}
use Rattle.sync_objects.specs.declared.operation.Op.TheVariants as op
use Rattle.rr_base.specs.declared.trap.Trap.{Trap}
use Rattle.flow_code.specs.declared.code.Code.{Code}
use Rattle.flow_code.specs.declared.thread.Phase.{Phase}
use Rattle.flow_code.specs.declared.thread.Phase.TheVariants as phase
use Rattle.flow_code.specs.declared.thread.Stripe.{Stripe}
use Rattle.word_semantics.specs.declared.event.Due.{Due}
use Rattle.word_semantics.specs.declared.event.Due.TheVariants as due
use Rattle.word_semantics.specs.Limits.{most_entries}
use Rattle.flow_code.specs.Threads.{Thread, line_of}
use Rattle.flow_code.specs.Next.{limited, first_owed, listed, phase_due, phase_after, due_of, after_due, stepped, counted, one_more, repaid, with_owed}
use Rattle.flow_code.proofs.Counts.{stepped_is, phase_keeps}
use Rattle.weak_code.specs.Stripped.{strip}
use Rattle.erasure.proofs.Bare.{Stands, bare_frame, bare, same_line_of, HasObjects}
use Rattle.erasure.proofs.Kept.{weak_at}
use Rattle.erasure.proofs.ActDues.{not_weak, steps_aside, same_phase_due}
use Rattle.erasure.proofs.ActAfters.{phase_after_bare}
use Rattle.erasure.proofs.Limits.{Compares, compares}
use Rattle.erasure.proofs.Placed.{IsPlaced, phase_placed}
use Rattle.flow_code.specs.Next.{act_at}

-- so many entries are there after it
abbrev pub entries_after : ℕ → Due → ℕ
entries_after e (due.Operate o obj) = if is_ending (name_of o) then e else e + 1
entries_after e _ = e

abbrev pub IsNoTrap : Due → Type 0
IsNoTrap (due.Trap kind) = ⊥
IsNoTrap _ = Unit {0}

none_repaid : repaid [] ≡ []
none_repaid = by (position (λ (x : Stripe). x.owed) [])
  where
    by : (o : Option ℕ) → with_owed false [] o ≡ []
    by None = refl
    by (Some i) = refl

-- with stripes, and with so many entries more
counted_placed : (w : Code) (o : Op) (q : Thread) → IsPlaced w q → IsPlaced w (counted o q)
counted_placed w o q h = record { fresh = h.fresh; callers = h.callers }

few_counted : (o : Op) (e : ℕ) (q : Thread) → e ≤ q.entries → (if is_ending (name_of o) then e else e + 1) ≤ (counted o q).entries
few_counted o e q le = by (is_ending (name_of o))
  where
    by : (b : Bool) → (if b then e else e + 1) ≤ (if b then q.entries else q.entries + 1)
    by true = le
    by false = omega (arith, le)

nothing_traps : (over : Bool) (kind : Trap) → limited over due.Nothing ≡ due.Trap kind → ⊥
nothing_traps true kind d = cc
nothing_traps false kind d = cc

module _ (w : Code) (objects : HasObjects w) (s : SetupView) (t e : ℕ) (th : Thread) (few : e ≤ th.entries) (placed : IsPlaced w th) where
  module _ (here : steps_aside w th th.phase ≡ false) where
    -- what limits leave of what is due by the code
    abbrev pub limited_due : Due
    limited_due = limited (nat_le s.limit th.count) (phase_due w s t th th.phase)

    fuller : nat_le most_entries e ≡ true → nat_le most_entries th.entries ≡ true
    fuller h = let le = leb-true most_entries e h in le-leb most_entries th.entries (omega (arith, le, few))

    pub compares_dues : Compares (due_of w s t th) (due_of (strip w) s t (bare w e th)) limited_due
    compares_dues =
        subst (λ d. Compares (due_of w s t th) (listed (nat_le most_entries e) (limited (nat_le s.limit th.count) d)) limited_due) (sym (same_phase_due w objects s t e th th.phase here))
        (compares (nat_le most_entries th.entries) (nat_le most_entries e) (first_owed th.stripes) limited_due fuller)

    after_bare : (d : Due) (answer : ℤ) → IsNoTrap d → after_due (strip w) s t (bare w e th) d answer ≡ bare w (entries_after e d) (after_due w s t th d answer)
    after_bare due.Nothing answer h = refl
    after_bare due.Quiet answer h = phase_after_bare w objects s t e th th.phase answer placed here
    after_bare (due.Load c) answer h = ap one_more (phase_after_bare w objects s t e th th.phase answer placed here)
    after_bare (due.Store c v) answer h = ap one_more (phase_after_bare w objects s t e th th.phase answer placed here)
    after_bare due.Mark answer h = ap one_more (phase_after_bare w objects s t e th th.phase answer placed here)
    after_bare (due.Operate op.Retake obj) answer h = ap (λ xs. counted op.Retake (record (bare w e th) { stripes = xs })) none_repaid
    after_bare (due.Operate o obj) answer h = ap (counted o) (phase_after_bare w objects s t e th th.phase answer placed here)
    after_bare (due.Trap kind) answer h = absurd h

    after_few : (d : Due) (answer : ℤ) → IsNoTrap d → entries_after e d ≤ (after_due w s t th d answer).entries
    after_few due.Nothing answer h = few
    after_few due.Quiet answer h = let k = (phase_keeps w s t th th.phase answer).entries in omega (arith, k, few)
    after_few (due.Load c) answer h = let k = (phase_keeps w s t th th.phase answer).entries in omega (arith, k, few)
    after_few (due.Store c v) answer h = let k = (phase_keeps w s t th th.phase answer).entries in omega (arith, k, few)
    after_few due.Mark answer h = let k = (phase_keeps w s t th th.phase answer).entries in omega (arith, k, few)
    after_few (due.Operate op.Retake obj) answer h = few_counted op.Retake e (record th { stripes = repaid th.stripes }) few
    after_few (due.Operate o obj) answer h =
        let k = (phase_keeps w s t th th.phase answer).entries in
        few_counted o e (phase_after w s t th th.phase answer) (omega (arith, k, few))
    after_few (due.Trap kind) answer h = absurd h

    more_placed : (answer : ℤ) → IsPlaced w (one_more (phase_after w s t th th.phase answer))
    more_placed answer = let h = phase_placed w th placed s t th.phase answer here in record { fresh = h.fresh; callers = h.callers }

    after_placed : (d : Due) (answer : ℤ) → IsNoTrap d → IsPlaced w (after_due w s t th d answer)
    after_placed due.Nothing answer h = placed
    after_placed due.Quiet answer h = phase_placed w th placed s t th.phase answer here
    after_placed (due.Load c) answer h = more_placed answer
    after_placed (due.Store c v) answer h = more_placed answer
    after_placed due.Mark answer h = more_placed answer
    after_placed (due.Operate op.Retake obj) answer h = record { fresh = placed.fresh; callers = placed.callers }
    after_placed (due.Operate o obj) answer h = counted_placed w o (phase_after w s t th th.phase answer) (phase_placed w th placed s t th.phase answer here)
    after_placed (due.Trap kind) answer h = absurd h

    -- the same step in both
    pub record IsSameStep (answer : ℤ) : Type 0 where
      pub entries : ℕ
      pub are_few : entries ≤ (stepped w s t th answer).entries
      pub is_placed : IsPlaced w (stepped w s t th answer)
      pub is_bare : stepped (strip w) s t (bare w e th) answer ≡ bare w entries (stepped w s t th answer)

    pub same_step : (d : Due) (answer : ℤ) → IsNoTrap d → due_of w s t th ≡ d → due_of (strip w) s t (bare w e th) ≡ d → IsSameStep answer
    same_step d answer h here' there =
        let q = stepped_is w s t th d answer here' in
        record {
          entries = entries_after e d;
          are_few = subst (λ (z : Thread). entries_after e d ≤ z.entries) (sym q) (after_few d answer h);
          is_placed = subst (IsPlaced w) (sym q) (after_placed d answer h);
          is_bare = stepped_is (strip w) s t (bare w e th) d answer there ∙ after_bare d answer h ∙ ap (λ z. bare w (entries_after e d) z) (sym q);
        }

    -- the line of a trap
    trap_stands : (over : Bool) (kind : Trap) → (th.phase ≡ phase.Fresh → over ≡ false) → (p : Phase) → th.phase ≡ p → limited over (phase_due w s t th p) ≡ due.Trap kind → steps_aside w th p ≡ false → Stands p (weak_at (act_at w th.top))
    trap_stands over kind below phase.Fresh e d h = by over (below e) d
      where
        by : (b : Bool) → b ≡ false → limited b (phase_due w s t th phase.Fresh) ≡ due.Trap kind → ⊥
        by true low is = true≢false low
        by false low is = cc
    trap_stands over kind below (phase.Begun f) e d h = tt
    trap_stands over kind below (phase.Loaded f v) e d h = tt
    trap_stands over kind below phase.Running e d h = not_weak th (act_at w th.top) h
    trap_stands over kind below phase.Ended e d h = nothing_traps over kind d
    trap_stands over kind below phase.Halted e d h = nothing_traps over kind d
    trap_stands over kind below (phase.Trapped k line) e d h = nothing_traps over kind d
    trap_stands over kind below phase.Stopped e d h = nothing_traps over kind d
    trap_stands over kind below phase.Closed e d h = nothing_traps over kind d

    pub trap_line : (kind : Trap) → (th.phase ≡ phase.Fresh → nat_le s.limit th.count ≡ false) → limited_due ≡ due.Trap kind → line_of (strip w) th.phase (bare_frame w th.top) ≡ line_of w th.phase th.top
    trap_line kind below d = same_line_of w th.phase th.top (trap_stands (nat_le s.limit th.count) kind below th.phase refl d here)
