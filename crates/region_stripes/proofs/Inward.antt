-- The turns of a loop: each that a frame has come to began at the Mark, and the counter has not fallen since the loop was entered.
use Rattle.std.proofs.Common.{◌≡◌, ◌≢◌, ℕ, ◌+◌, ◌-◌, ◌<◌, ◌≤◌, true, false, ◌&&◌, ℤ, pos, ◌+ℤ◌, List, length, Option, Some, None, refl, sym, ap, subst, ◌∙◌, arith, ◌⊎◌, inl, inr, ⊎_elim}
use Rattle.std.specs.Prelude.{◌≤ℤ◌, ◌<ℤ◌, int_lt}
use Rattle.std.proofs.lemmas.Bool.{cases_eq, cases_lt}
use Rattle.std.proofs.lemmas.Int.{ints}
use Rattle.flow_code.specs.declared.act.Act.{Act}
use Rattle.flow_code.specs.declared.act.Act.TheVariants as act
use Rattle.flow_code.specs.declared.act.Instr.{Instr}
use Rattle.flow_code.specs.declared.code.Function.{Function}
use Rattle.flow_code.specs.declared.code.LoopInfo.{LoopInfo}
use Rattle.flow_code.specs.Kinds.{has_whole}
use Rattle.flow_code.specs.Regions.{bound_is_whole}
use Rattle.word_semantics.specs.Registers.{register}
use Rattle.word_semantics.specs.Values.{number}
use Rattle.facts.specs.Blocks.{assigns}
use Rattle.weak_lock_facts.specs.Loops.{nth, are_numbers, has_form, keeps_numbers, is_entered_so, is_counted}
use Rattle.loop_bounds.specs.Forms.{IsBorneOut}
use Rattle.loop_bounds.specs.Turns.{Setting, Goes, Comes}
use Rattle.loop_bounds.specs.Turns as turns
use Rattle.loop_bounds.proofs.Steps.{both_true, kept, as_long}
use Rattle.loop_bounds.proofs.Turning.{far, stays}
use Rattle.loop_bounds.proofs.Pointing.{IsTurn}
use Rattle.loop_bounds.proofs.Raising.{raised}
use Rattle.region_stripes.specs.Inside.{Inside, enters, goes}

-- no instruction of the loop assigns the register
abbrev pub Never : List Instr → LoopInfo → ℕ → Type 0
Never is l r = (k : ℕ) → l.at ≤ k → k ≤ l.last + 1 → assigns r (nth is k) ≡ false

pub inside_within : (s : Setting) (is : List Instr) (l : LoopInfo) → IsBorneOut is l → (start : List ℕ) (k : ℕ) (rs : List ℕ) → Inside s is l start k rs → (l.at ≤ k) × (k ≤ l.last + 1)
inside_within s is l b start k rs enters = let e : l.at + 6 ≤ l.last = far is l b in (omega arith, omega arith)
inside_within s is l b start k rs (goes i g le lt) = (le, lt)

pub inside_long : (s : Setting) (is : List Instr) (l : LoopInfo) (start : List ℕ) (k : ℕ) (rs : List ℕ) → Inside s is l start k rs → length rs ≡ length start
inside_long s is l start k rs enters = refl
inside_long s is l start j qs (goes {k = k} {rs = rs} i g le lt) = as_long s (nth is k) k j rs qs g ∙ inside_long s is l start k rs i

pub inside_kept : (s : Setting) (is : List Instr) (l : LoopInfo) → IsBorneOut is l → (start : List ℕ) (r : ℕ) → Never is l r → (k : ℕ) (rs : List ℕ) → Inside s is l start k rs → register rs r ≡ register start r
inside_kept s is l b start r never k rs enters = refl
inside_kept s is l b start r never j qs (goes {k = k} {rs = rs} i g le lt) =
    let w = inside_within s is l b start k rs i in
    kept s (nth is k) k j rs qs r g (never k w.0 w.1) ∙ inside_kept s is l b start r never k rs i

-- what goes back assigns nothing
back_same : (s : Setting) (a : Option Act) (k j : ℕ) (rs qs : List ℕ) → Goes s a k rs j qs → j ≤ k → qs ≡ rs
back_same s None k j rs qs g le = absurd g
back_same s (Some (act.Return value)) k j rs qs g le = absurd g
back_same s (Some (act.Jump to)) k j rs qs g le = g.1
back_same s (Some (act.Branch on then_at else_at)) k j rs qs g le = g.1
back_same s (Some (act.Compute into w)) k j rs qs g le = absurd (omega (arith, g.0, le))
back_same s (Some (act.Alloc into site size)) k j rs qs g le = absurd (omega (arith, g.0, le))
back_same s (Some (act.LoadCell into through)) k j rs qs g le = absurd (omega (arith, g.0, le))
back_same s (Some (act.Call f arguments into)) k j rs qs g le = absurd (omega (arith, g.0, le))
back_same s (Some (act.Library c arguments into)) k j rs qs g le = absurd (omega (arith, g.0, le))
back_same s (Some (act.StoreCell through from)) k j rs qs g le = absurd (omega (arith, g.0, le))
back_same s (Some act.Mark) k j rs qs g le = absurd (omega (arith, g.0, le))
back_same s (Some (act.Take region)) k j rs qs g le = absurd (omega (arith, g.0, le))
back_same s (Some (act.Give region)) k j rs qs g le = absurd (omega (arith, g.0, le))

-- the step is more than 0
pub rises : (fn : Function) (l : LoopInfo) → is_counted fn l ≡ true → pos 0 <ℤ l.step
rises fn l h =
    let a = both_true (are_numbers fn l && has_form fn.instrs l && keeps_numbers fn.instrs l) (is_entered_so fn.instrs l) h in
    let b = both_true (are_numbers fn l && has_form fn.instrs l) (keeps_numbers fn.instrs l) a.0 in
    let c = both_true (are_numbers fn l) (has_form fn.instrs l) b.0 in
    let d = both_true (has_whole fn l.counter && bound_is_whole fn l.bound) (int_lt (pos 0) l.step) c.0 in
    grind (arith, ints, d.1)

-- a turn to which the frame has come, by the registers that it had at its Mark
pub record IsInTurn (s : Setting) (is : List Instr) (l : LoopInfo) (start : List ℕ) (k : ℕ) (rs : List ℕ) : Type 0 where
  pub turn : List ℕ
  pub began : Inside s is l start l.at turn
  pub comes : Comes s is l.at turn k rs
  pub low : number (register start l.counter) ≤ℤ number (register turn l.counter)

next_turn : (s : Setting) (is : List Instr) (l : LoopInfo) (start : List ℕ) → IsTurn s is l start → pos 0 <ℤ l.step → (k j : ℕ) (rs qs : List ℕ) → Inside s is l start k rs → Goes s (nth is k) k rs j qs → l.at ≤ j → j ≤ l.last + 1 → IsInTurn s is l start k rs → IsInTurn s is l start j qs
next_turn s is l start t up k j rs qs i g le lt x = ⊎_elim again onwards (cases_eq j l.at)
  where
    onwards : j ≢ l.at → IsInTurn s is l start j qs
    onwards n = record { turn = x.turn; began = x.began; comes = turns.goes x.comes g n; low = x.low }

    ends : l.at + 6 ≤ l.last
    ends = far is l t.borne

    within : (l.at ≤ k) × (k ≤ l.last + 1)
    within = inside_within s is l t.borne start k rs i

    again : j ≡ l.at → IsInTurn s is l start j qs
    again e =
        let same : qs ≡ rs = back_same s (nth is k) k j rs qs g (omega (arith, e, within.0)) in
        record {
          turn = qs;
          began = subst (λ n. Inside s is l start n qs) e (goes i g le lt);
          comes = subst (λ n. Comes s is l.at qs n qs) (sym e) turns.begins;
          low = subst (λ (z : List ℕ). number (register start l.counter) ≤ℤ number (register z l.counter)) (sym same) (higher (cases_lt k (l.last + 1)));
        }
      where
        -- nothing but a jump goes back
        not_next : j ≡ k + 1 → ⊥
        not_next n = omega (arith, n, e, within.0)

        from_mark : k ≡ l.at → ⊥
        from_mark m =
            let w = subst (λ (n : ℕ). Goes s (nth is n) n rs j qs) m g in
            let y = subst (λ (a : Option Act). Goes s a l.at rs j qs) t.borne.marks w in
            not_next (y.0 ∙ ap (λ n. n + 1) (sym m))

        from_last : k ≡ l.last → ⊥
        from_last m =
            let v = t.borne.value in
            let w = subst (λ (n : ℕ). Goes s (nth is n) n rs j qs) m g in
            let y = subst (λ (a : Option Act). Goes s a l.last rs j qs) v.2 w in
            not_next (y.0 ∙ ap (λ n. n + 1) (sym m))

        higher : (k < l.last + 1) ⊎ (l.last + 1 ≤ k) → number (register start l.counter) ≤ℤ number (register rs l.counter)
        higher (inl lt) =
            let above : l.at < k = ⊎_elim (λ (h : l.at < k). h) (λ ge. absurd (from_mark (omega (arith, ge, within.0)))) (cases_lt l.at k) in
            let below : k ≤ l.last - 1 = ⊎_elim (λ (h : k < l.last). omega (arith, h, ends)) (λ ge. absurd (from_last (omega (arith, ge, lt)))) (cases_lt k l.last) in
            subst (λ n. number (register start l.counter) ≤ℤ number n) (sym (stays s is l t.borne x.turn l.counter t.borne.keeps_counter k rs x.comes above below)) x.low
        higher (inr ge) =
            let at : k ≡ l.last + 1 = omega (arith, ge, within.1) in
            let fit = subst (λ n. turns.AreFit is n) (sym (inside_long s is l start l.at x.turn x.began)) t.fit in
            let r = raised s is l x.turn (record { borne = t.borne; fit = fit }) rs (subst (λ n. Comes s is l.at x.turn n rs) at x.comes) in
            subst (λ z. number (register start l.counter) ≤ℤ z) (sym r) (sum (number (register start l.counter)) (number (register x.turn l.counter)) l.step x.low up)
          where
            sum : (a b c : ℤ) → a ≤ℤ b → pos 0 <ℤ c → a ≤ℤ (b +ℤ c)
            sum a b c p q = omega (arith, ints, p, q)

pub in_turn : (s : Setting) (is : List Instr) (l : LoopInfo) (start : List ℕ) → IsTurn s is l start → pos 0 <ℤ l.step → (k : ℕ) (rs : List ℕ) → Inside s is l start k rs → IsInTurn s is l start k rs
in_turn s is l start t up k rs enters = record { turn = start; began = enters; comes = turns.begins; low = omega (arith, ints) }
in_turn s is l start t up j qs (goes {k = k} {rs = rs} i g le lt) = next_turn s is l start t up k j rs qs i g le lt (in_turn s is l start t up k rs i)
