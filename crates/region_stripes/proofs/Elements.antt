-- What the pointer of a range is in a turn: that of the base that its span has, moved by the counter and the shift.
use Rattle.std.proofs.Common.{◌≡◌, ℕ, ◌+◌, ◌-◌, ◌<◌, ◌≤◌, true, false, cond, ◌&&◌, ℤ, ◌+ℤ◌, List, Option, Some, None, Ok, refl, sym, ap, subst, ◌∙◌, arith, ⊎_elim, ltb-true}
use Rattle.std.specs.Prelude.{nat_lt}
use Rattle.std.specs.Option.{option_and_then}
use Rattle.std.proofs.lemmas.Bool.{cases_lt}
use Rattle.rr_base.specs.Words.{site_of}
use Rattle.flow_code.specs.declared.act.Act.{Act}
use Rattle.flow_code.specs.declared.act.Act.TheVariants as act
use Rattle.flow_code.specs.declared.act.Instr.{Instr}
use Rattle.flow_code.specs.declared.code.LoopInfo.{LoopInfo}
use Rattle.flow_code.specs.declared.region.Base.{Base}
use Rattle.flow_code.specs.declared.region.Base.TheVariants as base
use Rattle.flow_code.specs.declared.work.Work.TheVariants as work
use Rattle.word_semantics.specs.Pointers.{moved_by}
use Rattle.word_semantics.specs.Registers.{register}
use Rattle.word_semantics.specs.Values.{number}
use Rattle.facts.specs.Blocks.{assigns}
use Rattle.weak_lock_facts.specs.Loops.{nth, keeps, is_entered_at}
use Rattle.weak_lock_facts.specs.Ranges.{maker_at, made_at, base_of, base_at, shift_at, moved_of, moved_shift, last_maker, has_one_maker, only_maker, pointer_of}
use Rattle.weak_code.specs.Stretches.{moved_from, origin_of, origin_after, base_after, element_base}
use Rattle.loop_bounds.specs.Turns.{Setting, Goes, Comes}
use Rattle.loop_bounds.proofs.Steps.{both_true, kept, is_entered}
use Rattle.loop_bounds.proofs.Regions.{comes_in, holds_in}
use Rattle.loop_bounds.proofs.Borne.{cond_some, chained, kept_there}
use Rattle.loop_bounds.proofs.Turning.{stays}
use Rattle.loop_bounds.proofs.Making.{made, IsLastMaker, last_made, made_value}
use Rattle.loop_bounds.proofs.Pointing.{IsTurn, given, past_mark, index_word, address_word, moved_act, single, accesses}
use Rattle.region_stripes.specs.InRange.{HasBase}

-- a register that is a base is one that the loop keeps
abbrev pub KeepsBase : List Instr → LoopInfo → Base → Type 0
KeepsBase is l (base.Site g) = Unit {0}
KeepsBase is l (base.Register r) = keeps is l r ≡ true

-- the word is the base's moved by the counter, as it was at the Mark, and so many elements more
pub record HasMoved (s : Setting) (is : List Instr) (start : List ℕ) (l : LoopInfo) (b : Base) (d : ℤ) (v : ℕ) : Type 0 where
  pub base_word : ℕ
  pub is_base : HasBase s is start b base_word
  pub moves : moved_by s.sites base_word (number (register start l.counter) +ℤ d) ≡ Ok v

-- ---- which base it is

base_kept : (is : List Instr) (l : LoopInfo) (r : ℕ) (o : Option Act) (b : Base) → base_of is l r o ≡ Some b → (origin_of r o ≡ b) × KeepsBase is l b
base_kept is l r o b h = at_it o h
  where
    held : cond (keeps is l r) (Some (base.Register r)) None ≡ Some b → (base.Register r ≡ b) × KeepsBase is l b
    held g =
        let x = cond_some (keeps is l r) (Some (base.Register r)) b g in
        let same : base.Register r ≡ b = cc (x.1) in
        (same, subst (KeepsBase is l) same x.0)

    at_it : (o : Option Act) → base_of is l r o ≡ Some b → (origin_of r o ≡ b) × KeepsBase is l b
    at_it (Some (act.Compute into (work.Address w))) g = let same : base.Site (site_of w) ≡ b = cc (g) in (same, subst (KeepsBase is l) same tt)
    at_it _ g = held g

-- the base of the span is that of the pointer that is moved
base_is : (is : List Instr) (k p q : ℕ) (m : ℕ × ℕ) → last_maker is k p ≡ Some q → moved_of (nth is q) ≡ Some m → element_base is k p ≡ origin_of m.0 (made_at is q m.0)
base_is is k p q m e mv =
    let x = moved_act (nth is q) m mv in
    ap (base_after is p) e ∙ ap (λ a. origin_after is q p (moved_from a)) x.1

module _ (s : Setting) (is : List Instr) (l : LoopInfo) (start : List ℕ) (t : IsTurn s is l start) where
  base_word : (k r : ℕ) (b : Base) → l.at < k → k ≤ l.last - 1 → base_at is l k r ≡ Some b → (rs : List ℕ) → Comes s is l.at start k rs → HasBase s is start b (register rs r)
  base_word k r b lt le h rs c = at_it (made_at is k r) refl h
    where
      -- a register that the loop keeps
      held : cond (keeps is l r) (Some (base.Register r)) None ≡ Some b → HasBase s is start b (register rs r)
      held g =
          let x = cond_some (keeps is l r) (Some (base.Register r)) b g in
          let same : base.Register r ≡ b = cc (x.1) in
          subst (λ z. HasBase s is start z (register rs r)) same (stays s is l t.borne start r (λ n low high apart. kept_there is l r n x.0 low high) k rs c lt le)

      at_it : (o : Option Act) → made_at is k r ≡ o → base_of is l r o ≡ Some b → HasBase s is start b (register rs r)
      at_it (Some (act.Compute into (work.Address w))) e g =
          let same : base.Site (site_of w) ≡ b = cc (g) in
          let z = chained (λ m. nth is m) (maker_at is k r) (act.Compute into (work.Address w)) e in
          let x = made is k r z.0 z.1 in
          let low : l.at < z.0 = past_mark is l t.borne k r z.0 x lt in
          made_value s is l.at start k r z.0 (HasBase s is start b) x (omega arith)
          (λ j ps qs d y. subst (λ v. HasBase s is start v (register qs r)) same (z.0, into, w, z.2, refl, address_word s ps w (register qs r) (given s is l.at start t.fit z.0 j r into (work.Address w) ps qs z.2 x.makes d y)))
          rs c
      at_it _ e g = held g

  moved_word : (q p : ℕ) (d : ℤ) (m : ℕ × ℕ) (b : Base) → l.at < q → q ≤ l.last - 1 → assigns p (nth is q) ≡ true → moved_of (nth is q) ≡ Some m → base_at is l q m.0 ≡ Some b → shift_at is l.counter q m.1 ≡ Some d → (j : ℕ) (ps qs : List ℕ) → Comes s is l.at start q ps → Goes s (nth is q) q ps j qs → HasMoved s is start l b d (register qs p)
  moved_word q p d m b lt le a mv bs sh j ps qs c g =
      let x = moved_act (nth is q) m mv in
      let w = given s is l.at start t.fit q j p x.0 (work.Move m.0 m.1 1 false) ps qs x.1 a c g in
      let index : number (register ps m.1) ≡ number (register start l.counter) +ℤ d = index_word s is l start t q m.1 d lt le sh ps c in
      record {
        base_word = register ps m.0;
        is_base = base_word q m.0 b lt le bs ps c;
        moves = ap (λ z. moved_by s.sites (register ps m.0) z) (sym (single (number (register ps m.1)) ∙ index)) ∙ w.gives;
      }

  pointer_kept : (k p q : ℕ) (d : ℤ) (b : Base) → option_and_then pointer_of (nth is k) ≡ Some p → IsLastMaker is k p q → (i j : ℕ) (ps qs : List ℕ) → q < i → i ≤ k → q < j → j ≤ k → Goes s (nth is i) i ps j qs → HasMoved s is start l b d (register ps p) → HasMoved s is start l b d (register qs p)
  pointer_kept k p q d b acc lm i j ps qs lt le lt2 le2 g o = ⊎_elim
      (λ below. subst (λ (v : ℕ). HasMoved s is start l b d v) (sym (kept s (nth is i) i j ps qs p g (lm.alone i lt below))) o)
      (λ above. absurd (at_it (omega arith)))
      (cases_lt i k)
    where
      at_it : i ≡ k → ⊥
      at_it e = let n : j ≡ k + 1 = accesses (nth is k) p acc s k j ps qs (subst (λ (n : ℕ). Goes s (nth is n) n ps j qs) e g) in omega arith

  pointer_holds : (k p q : ℕ) (d : ℤ) → k ≤ l.last - 1 → option_and_then pointer_of (nth is k) ≡ Some p → l.at < q → IsLastMaker is k p q → is_entered_at is q k ≡ true → (m : ℕ × ℕ) (b : Base) → moved_of (nth is q) ≡ Some m → base_at is l q m.0 ≡ Some b → shift_at is l.counter q m.1 ≡ Some d → (rs : List ℕ) → Comes s is l.at start k rs → HasMoved s is start l b d (register rs p)
  pointer_holds k p q d le acc lt lm en m b mv bs sh rs c =
      let before : q < k = lm.before in
      let high : q ≤ l.last - 1 = omega arith in
      holds_in s is l.at start q k (λ z. HasMoved s is start l b d (register z p)) (omega arith) (comes_in s is q k (is_entered is q k en))
      (λ j ps qs w g lt2 le2. moved_word q p d m b lt high lm.makes mv bs sh j ps qs w g)
      (λ i j ps qs lt2 le2 lt3 le3 w g o. pointer_kept k p q d b acc lm i j ps qs lt2 le2 lt3 le3 g o)
      k rs c before (omega arith)

  -- at its access
  pub pointer_word : (k p q : ℕ) (d : ℤ) → k ≤ l.last - 1 → option_and_then pointer_of (nth is k) ≡ Some p → only_maker is l k p ≡ Some q → moved_shift is l q ≡ Some d → (rs : List ℕ) → Comes s is l.at start k rs → KeepsBase is l (element_base is k p) × HasMoved s is start l (element_base is k p) d (register rs p) × (l.at < k)
  pointer_word k p q d le acc om ms rs c =
      let x = chained (λ n. cond (nat_lt l.at n && has_one_maker is p && is_entered_at is n k) (Some n) None) (last_maker is k p) q om in
      let y = cond_some (nat_lt l.at x.0 && has_one_maker is p && is_entered_at is x.0 k) (Some x.0) q x.2 in
      let same : x.0 ≡ q = cc (y.1) in
      let z = both_true (nat_lt l.at x.0 && has_one_maker is p) (is_entered_at is x.0 k) y.0 in
      let lo = both_true (nat_lt l.at x.0) (has_one_maker is p) z.0 in
      let lt : l.at < q = let h : l.at < x.0 = ltb-true l.at x.0 lo.0 in omega arith in
      let found : last_maker is k p ≡ Some q = x.1 ∙ ap (λ (n : ℕ). Some n) same in
      let lm : IsLastMaker is k p q = last_made is k p q found in
      let en : is_entered_at is q k ≡ true = subst (λ n. is_entered_at is n k ≡ true) same z.1 in
      let mv = chained (λ m. option_and_then (λ b. shift_at is l.counter q m.1) (base_at is l q m.0)) (moved_of (nth is q)) d ms in
      let bs = chained (λ b. shift_at is l.counter q mv.0.1) (base_at is l q mv.0.0) d mv.2 in
      let kb = base_kept is l mv.0.0 (made_at is q mv.0.0) bs.0 bs.1 in
      let is_it : bs.0 ≡ element_base is k p = sym (base_is is k p q mv.0 found mv.1 ∙ kb.0) in
      let before : q < k = lm.before in (
        subst (KeepsBase is l) is_it kb.1,
        subst (λ b. HasMoved s is start l b d (register rs p)) is_it (pointer_holds k p q d le acc lt lm en mv.0 bs.0 mv.1 bs.1 bs.2 rs c),
        omega (arith, lt, before),
      )
