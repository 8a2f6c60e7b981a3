-- The innermost loop round an instruction.
use Rattle.std.proofs.Common.{◌≡◌, ◌≢◌, ℕ, zero, suc, ◌+◌, ◌-◌, ◌<◌, ◌≤◌, Bool, true, false, List, Option, Some, None, refl, ap, ◌∙◌, sym, arith, ⊎_elim, eq-eqb, drop}
use Rattle.std.specs.Prelude.{slice_get, if◌then◌else◌, nat_le}
use Rattle.std.specs.Option.{option_and_then}
use Rattle.std.proofs.lemmas.Bool.{cases_eq, cases_lt}
use Rattle.std.proofs.lemmas.Bool.Decides.{nat_tests}
use Rattle.std.proofs.lemmas.Option.{same_Some}
use Rattle.flow_code.specs.declared.act.Act.TheVariants as act
use Rattle.flow_code.specs.declared.act.Instr.{Instr}
use Rattle.flow_code.specs.declared.code.Function.{Function}
use Rattle.flow_code.specs.declared.code.LoopInfo.{LoopInfo}
use Rattle.flow_code.specs.Next.{act_in}
use Rattle.flow_code.specs.Order.{is_mark}
use Rattle.facts.specs.Blocks.{assigns, is_target}
use Rattle.weak_lock_facts.specs.Loops.{nth, is_counted, counted_of}
use Rattle.weak_lock_facts.specs.Ranges.{begins_round, mark_before, is_number, loop_round, pointer_of}
use Rattle.loop_bounds.specs.Forms.{IsBorneOut}
use Rattle.loop_bounds.proofs.Steps.{drop_got}
use Rattle.loop_bounds.proofs.Making.{targeted}
use Rattle.loop_bounds.proofs.Turning.{far}
use Rattle.weak_valid.proofs.Accesses.{filtered}
use Rattle.weak_valid.proofs.CountedLoops.{round_listed, innermost_in}
use Rattle.weak_valid.proofs.Tests.{both, two}

-- of the Marks before m with which a loop round the k-th instruction begins the last is found
mark_last : (is : List Instr) (k m n j : ℕ) → mark_before is k m ≡ Some n → j < m → begins_round is k j ≡ true → j ≤ n
mark_last is k zero n j h lt b = absurd (omega (arith, lt))
mark_last is k (suc m) n j h lt b = go (begins_round is k m) refl h (λ w l. mark_last is k m n j w l b)
  where
    go : (c : Bool) → begins_round is k m ≡ c → (if c then Some m else mark_before is k m) ≡ Some n → (mark_before is k m ≡ Some n → j < m → j ≤ n) → j ≤ n
    go true e w rec = omega (arith, lt, same_Some m n w)
    go false e w rec = ⊎_elim (λ (l : j < m). rec w l) (λ ge. let s : j ≡ m = omega (arith, ge, lt) in let x : begins_round is k j ≡ false = ap (begins_round is k) s ∙ e in cc) (cases_lt j m)

-- the loop that is found round an instruction
pub record IsRoundIt (fn : Function) (k : ℕ) (l : LoopInfo) : Type 0 where
  pub j : ℕ
  pub listed : slice_get fn.loops j ≡ Some l
  pub counted : is_counted fn l ≡ true
  pub above : l.at < k
  pub within : k ≤ l.last
  pub inner : (m : ℕ) → m < k → begins_round fn.instrs k m ≡ true → m ≤ l.at

pub round_it : (fn : Function) (k : ℕ) (l : LoopInfo) → loop_round fn.instrs k (counted_of fn) ≡ Some l → IsRoundIt fn k l
round_it fn k l h =
    let r = round_listed fn.instrs k (counted_of fn) l h in
    let q = filtered (is_counted fn) fn.loops r.0 l r.1 in
    let b = both (nat_le k l.last) (is_number l.at (mark_before fn.instrs k k)) r.2 in
    let i = innermost_in fn.instrs k l r.2 in
    record { j = q.0; listed = q.1; counted = q.2; above = i.0; within = i.1; inner = λ m lt e. number (mark_before fn.instrs k k) refl b.1 m lt e }
  where
    number : (o : Option ℕ) → mark_before fn.instrs k k ≡ o → is_number l.at o ≡ true → (m : ℕ) → m < k → begins_round fn.instrs k m ≡ true → m ≤ l.at
    number None e w m lt b = cc
    number (Some n) e w m lt b = let s : n ≡ l.at = grind (arith, nat_tests, w) in omega (arith, s, mark_last fn.instrs k k n m e lt b)

-- ---- a loop round another

-- a loop with the counter of the innermost one round an access is that one
pub same_mark : (fn : Function) (l m : LoopInfo) (k p : ℕ) → IsBorneOut fn.instrs l → IsBorneOut fn.instrs m → l.counter ≡ m.counter → IsRoundIt fn k m → option_and_then pointer_of (nth fn.instrs k) ≡ Some p → l.at ≤ k → k ≤ l.last + 1 → l.at ≡ m.at
same_mark fn l m k p b c same i acc low high = ⊎_elim (λ (lt : l.at < m.at). absurd (not_outer lt)) (λ ge. omega (arith, ge, outer)) (cases_lt l.at m.at)
  where
    no_access : nth fn.instrs k ≡ Some act.Mark → ⊥
    no_access e = let w : option_and_then pointer_of (nth fn.instrs k) ≡ None = ap (λ z. option_and_then pointer_of z) e in cc

    following : l.at < k
    following = ⊎_elim (λ (lt : l.at < k). lt) (λ ge. let e : k ≡ l.at = omega (arith, ge, low) in absurd (no_access (ap (nth fn.instrs) e ∙ b.marks))) (cases_lt l.at k)

    -- its jump back stands after the access
    back : is_target (drop k fn.instrs) l.at ≡ true
    back =
        let e : k + (l.last + 1 - k) ≡ l.last + 1 = omega (arith, high) in
        targeted (drop k fn.instrs) (l.last + 1 - k) l.at (act.Jump l.at) (ap act_in (drop_got fn.instrs k (l.last + 1 - k) ∙ ap (slice_get fn.instrs) e) ∙ b.jumps_back) (eq-eqb l.at l.at refl)

    outer : l.at ≤ m.at
    outer = i.inner l.at following (two (is_mark (nth fn.instrs l.at)) (is_target (drop k fn.instrs) l.at) (ap is_mark b.marks) back)

    far_m : m.at + 6 ≤ m.last
    far_m = far fn.instrs m c

    far_l : l.at + 6 ≤ l.last
    far_l = far fn.instrs l b

    not_outer : l.at < m.at → ⊥
    not_outer lt =
        let w = b.entered (m.last + 1) m.at (act.Jump m.at) c.jumps_back (eq-eqb m.at m.at refl) lt (omega (arith, i.above, high)) in
        ⊎_elim (λ (e : m.last ≡ l.last). ends_same e) (λ ne. ends_apart w.1 ne) (cases_eq m.last l.last)
      where
        ends_same : m.last ≡ l.last → ⊥
        ends_same e =
            let j : Some (act.Jump m.at) ≡ Some (act.Jump l.at) = sym c.jumps_back ∙ ap (λ n. nth fn.instrs (n + 1)) e ∙ b.jumps_back in
            let q : m.at ≡ l.at = cc (j) in
            omega (arith, q, lt)

        -- the inner one would raise the counter of the outer one
        ends_apart : m.last + 1 ≤ l.last + 1 → m.last ≢ l.last → ⊥
        ends_apart le ne =
            let no : assigns l.counter (nth fn.instrs (m.last - 1)) ≡ false = b.keeps_counter (m.last - 1) (omega (arith, lt, far_m)) (omega (arith, le)) (λ e. ne (omega (arith, e, far_m, far_l))) in
            let yes : assigns l.counter (nth fn.instrs (m.last - 1)) ≡ true = ap (assigns l.counter) c.last_part.raises ∙ eq-eqb m.counter l.counter (sym same) in
            cc
