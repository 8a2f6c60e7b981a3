-- Exits that fall until they are those of their own points: then the points are the greatest solution of the whole.
use Rattle.std.proofs.Common.{◌≡◌, ◌<◌, ◌≤◌, ◌-◌, ◌^◌, ℕ, zero, suc, ◌+◌, true, List, [], ◌∷◌, length, refl, sym, ap, ap₂, ◌∙◌, subst, arith, ◌⊎◌, inl, inr, ⊎_elim, Some}
use Rattle.std.specs.Prelude.{slice_get}
use Rattle.std.specs.List.{list_all}
use Rattle.std.proofs.lemmas.Bool.{and_parts, and_from}
use Rattle.std.proofs.lemmas.Option.{same_Some, slice_get_within}
use Rattle.rr_base.proofs.Lists.{slice_get_inside}
use Rattle.flow_code.specs.declared.code.Code.{Code}
use Rattle.flow_code.specs.declared.code.Function.{Function}
use Rattle.facts.specs.declared.locks.Held.{Held}
use Rattle.facts.specs.declared.locks.Minus.{Minus}
use Rattle.facts.specs.declared.locks.Minus.TheVariants.{All, Listed}
use Rattle.facts.specs.declared.locks.RelLocks.{RelLocks}
use Rattle.facts.specs.Locks.{held_ascend, ascends, minus_ascends, topmost, Points, Below, MinusBelow, PointsBelow, IsSolution, after}
use Rattle.facts.specs.Summaries.{exits_of, in_order, AreSolution, AreGreatest}
use Rattle.lockset_summary.specs.Exits.{AreEachGreatest, ExitsBelow, topmost_exits, minus_weight, weight, weights, IsSmallMinus, AreSmall}
use Rattle.facts.proofs.TotalOrders.{orders_paths, orders_held}
use Rattle.lockset_summary.proofs.Sets.{fewer}
use Rattle.lockset_summary.proofs.Rises.{below_trans, after_rises}

-- ---- one function

pub solution_rises : (es gs : List RelLocks) (f : Function) (top : List Held) (x : Points) → ExitsBelow es gs → IsSolution es f top x → IsSolution gs f top x
solution_rises es gs f top x h s = record {
  long = s.long;
  entry = s.entry;
  within = s.within;
  steps = λ k to i l m at on was is. below_trans m (after es f k i.act l) (after gs f k i.act l) (s.steps k to i l m at on was is) (after_rises es gs f k i.act l h);
  exit_within = s.exit_within;
  returned = s.returned;
}

-- ---- the exits of points

pub exit_at : (xs : List Points) (g : ℕ) (x : Points) → slice_get xs g ≡ Some x → slice_get (exits_of xs) g ≡ Some x.exit
exit_at [] g x h = cc
exit_at (y ∷ ys) zero x h = ap (λ (z : Points). Some z.exit) (same_Some y x h)
exit_at (y ∷ ys) (suc g) x h = exit_at ys g x h

pub exit_from : (xs : List Points) (g : ℕ) (e : RelLocks) → slice_get (exits_of xs) g ≡ Some e → (x : Points) × (slice_get xs g ≡ Some x) × (x.exit ≡ e)
exit_from [] g e h = cc
exit_from (y ∷ ys) zero e h = (y, refl, same_Some y.exit e h)
exit_from (y ∷ ys) (suc g) e h = exit_from ys g e h

pub long_exits : (xs : List Points) → length (exits_of xs) ≡ length xs
long_exits [] = refl
long_exits (x ∷ xs) = ap suc (long_exits xs)

pub top_at : (tops : List (List Held)) (g : ℕ) (e : RelLocks) → slice_get (topmost_exits tops) g ≡ Some e → (top : List Held) × (slice_get tops g ≡ Some top) × (topmost top ≡ e)
top_at [] g e h = cc
top_at (t ∷ ts) zero e h = (t, refl, same_Some (topmost t) e h)
top_at (t ∷ ts) (suc g) e h = top_at ts g e h

pub long_tops : (tops : List (List Held)) → length (topmost_exits tops) ≡ length tops
long_tops [] = refl
long_tops (t ∷ ts) = ap suc (long_tops ts)

-- ---- from round to round

module _ (code : Code) (tops : List (List Held)) (same : length tops ≡ length code.functions) where
  pub solution_above : (exits : List RelLocks) (xs ys : List Points) → AreEachGreatest code tops exits xs → AreSolution code tops ys → ExitsBelow (exits_of ys) exits → (f : ℕ) (x y : Points) → slice_get xs f ≡ Some x → slice_get ys f ≡ Some y → PointsBelow y x
  solution_above exits xs ys g s h f x y i j =
      let lt : f < length code.functions = omega (arith, slice_get_within ys f y j, s.long) in
      let fn = slice_get_inside code.functions f lt in
      let top = slice_get_inside tops f (omega (arith, same)) in
      (g.each f fn.0 top.0 x fn.1 top.1 i).most y (solution_rises (exits_of ys) exits fn.0 top.0 y h (s.each f fn.0 top.0 y fn.1 top.1 j))

  pub next_above : (exits : List RelLocks) (xs ys : List Points) → AreEachGreatest code tops exits xs → AreSolution code tops ys → ExitsBelow (exits_of ys) exits → ExitsBelow (exits_of ys) (exits_of xs)
  next_above exits xs ys g s h = record {
    long = long_exits ys ∙ s.long ∙ sym g.long ∙ sym (long_exits xs);
    each = λ f e t i j.
        let y = exit_from ys f e i in
        let x = exit_from xs f t j in
        subst (λ z. Below z t) y.2 (subst (Below y.0.exit) x.2 (solution_above exits xs ys g s h f x.0 y.0 x.1 y.1).exit);
  }

  pub first_above : (ys : List Points) → AreSolution code tops ys → ExitsBelow (exits_of ys) (topmost_exits tops)
  first_above ys s = record {
    long = long_exits ys ∙ s.long ∙ sym same ∙ sym (long_tops tops);
    each = λ f e t i j.
        let y = exit_from ys f e i in
        let top = top_at tops f t j in
        let lt : f < length code.functions = omega (arith, slice_get_within ys f y.0 y.1, s.long) in
        let fn = slice_get_inside code.functions f lt in
        subst (λ a. Below a t) y.2 (subst (Below y.0.exit) top.2 (s.each f fn.0 top.0 y.0 fn.1 top.1 y.1).exit_within);
  }

  each_ordered : (exits : List RelLocks) (xs : List Points) → AreEachGreatest code tops exits xs → (f : ℕ) (x : Points) → slice_get xs f ≡ Some x → in_order x ≡ true
  each_ordered exits xs g f x i =
      let lt : f < length code.functions = omega (arith, slice_get_within xs f x i, g.long) in
      let fn = slice_get_inside code.functions f lt in
      let top = slice_get_inside tops f (omega (arith, same)) in
      let most = g.each f fn.0 top.0 x fn.1 top.1 i in
      and_from (list_all ascends x.before) (ascends x.exit) most.in_order most.exit_in_order

  pub all_ordered : (xs : List Points) → ((f : ℕ) (x : Points) → slice_get xs f ≡ Some x → in_order x ≡ true) → list_all in_order xs ≡ true
  all_ordered [] h = refl
  all_ordered (x ∷ xs) h = and_from (in_order x) (list_all in_order xs) (h 0 x refl) (all_ordered xs (λ f y i. h (suc f) y i))

  exits_ordered : (xs : List Points) → ((f : ℕ) (x : Points) → slice_get xs f ≡ Some x → in_order x ≡ true) → list_all ascends (exits_of xs) ≡ true
  exits_ordered [] h = refl
  exits_ordered (x ∷ xs) h = and_from (ascends x.exit) (list_all ascends (exits_of xs)) (and_parts (list_all ascends x.before) (ascends x.exit) (h 0 x refl)).1 (exits_ordered xs (λ f y i. h (suc f) y i))

  pub exits_ascend : (exits : List RelLocks) (xs : List Points) → AreEachGreatest code tops exits xs → list_all ascends (exits_of xs) ≡ true
  exits_ascend exits xs g = exits_ordered xs (each_ordered exits xs g)

  pub whole : (exits : List RelLocks) (xs : List Points) → AreEachGreatest code tops exits xs → ((ys : List Points) → AreSolution code tops ys → ExitsBelow (exits_of ys) exits) → exits ≡ exits_of xs → AreGreatest code tops xs
  whole exits xs g above e = record {
    solves = record { long = g.long; each = λ f fn top x i j k. subst (λ z. IsSolution z fn top x) e (g.each f fn top x i j k).solves };
    most = λ ys s f x y i j. solution_above exits xs ys g s (above ys s) f x y i j;
    ordered = all_ordered xs (each_ordered exits xs g);
  }

-- ---- exits that differ weigh less

minus_falls : (m n : Minus) → MinusBelow m n → minus_ascends m ≡ true → minus_ascends n ≡ true → IsSmallMinus m → (m ≡ n) ⊎ (minus_weight m < minus_weight n)
minus_falls All All h a b s = inl refl
minus_falls All (Listed qs) h a b s = inr (omega arith)
minus_falls (Listed ps) All h a b s = absurd h
minus_falls (Listed ps) (Listed qs) h a b s = ⊎_elim (λ e. inl (ap Listed (sym e))) (λ (l : length qs < length ps). inr (cut (2 ^ 64) (length ps) (length qs) l s)) (fewer orders_paths ps qs b a h)
  where
    cut : (m a b : ℕ) → b < a → a < m → 1 + (m - a) < 1 + (m - b)
    cut m a b l k = omega arith

minus_within : (m n : Minus) → MinusBelow m n → minus_ascends m ≡ true → minus_ascends n ≡ true → IsSmallMinus m → minus_weight m ≤ minus_weight n
minus_within m n h a b s = ⊎_elim (λ (e : m ≡ n). omega (arith, ap minus_weight e)) (λ (l : minus_weight m < minus_weight n). omega arith) (minus_falls m n h a b s)

locks_fall : (l m : RelLocks) → Below l m → ascends l ≡ true → ascends m ≡ true → IsSmallMinus l.minus → (l ≡ m) ⊎ (weight l < weight m)
locks_fall l m h a b s =
    let c = and_parts (held_ascend l.plus) (minus_ascends l.minus) a in
    let d = and_parts (held_ascend m.plus) (minus_ascends m.minus) b in
    ⊎_elim
    (λ (e : l.plus ≡ m.plus). ⊎_elim
    (λ (g : l.minus ≡ m.minus). inl (both l.plus m.plus l.minus m.minus e g))
    (λ (g : minus_weight l.minus < minus_weight m.minus). inr (omega (arith, ap (λ (z : List Held). length z) e)))
    (minus_falls l.minus m.minus h.minus c.1 d.1 s))
    (λ (g : length l.plus < length m.plus). inr (omega (arith, minus_within l.minus m.minus h.minus c.1 d.1 s)))
    (fewer orders_held m.plus l.plus c.0 d.0 h.plus)
  where
    both : (p q : List Held) (m n : Minus) → p ≡ q → m ≡ n → ◌≡◌ {A = RelLocks} (record { plus = p; minus = m }) (record { plus = q; minus = n })
    both p q m n e g = ap₂ {C = RelLocks} (λ a b. record { plus = a; minus = b }) e g

pub exits_fall : (es gs : List RelLocks) → ExitsBelow es gs → list_all ascends es ≡ true → list_all ascends gs ≡ true → AreSmall es → (es ≡ gs) ⊎ (weights es < weights gs)
exits_fall [] [] h a b s = inl refl
exits_fall [] (g ∷ gs) h a b s = absurd (omega (arith, h.long))
exits_fall (e ∷ es) [] h a b s = absurd (omega (arith, h.long))
exits_fall (e ∷ es) (g ∷ gs) h a b s = join (locks_fall e g (h.each 0 e g refl refl) c.0 d.0 s.0) (exits_fall es gs rest c.1 d.1 s.1)
  where
    c : (ascends e ≡ true) × (list_all ascends es ≡ true)
    c = and_parts (ascends e) (list_all ascends es) a

    d : (ascends g ≡ true) × (list_all ascends gs ≡ true)
    d = and_parts (ascends g) (list_all ascends gs) b

    rest : ExitsBelow es gs
    rest = record { long = omega (arith, h.long); each = λ k x y i j. h.each (suc k) x y i j }

    join : (e ≡ g) ⊎ (weight e < weight g) → (es ≡ gs) ⊎ (weights es < weights gs) → (e ∷ es ≡ g ∷ gs) ⊎ (weights (e ∷ es) < weights (g ∷ gs))
    join (inl x) (inl y) = inl (ap₂ (λ z w. z ∷ w) x y)
    join (inl x) (inr y) = inr (omega (arith, ap weight x))
    join (inr x) (inl y) = inr (omega (arith, ap weights y))
    join (inr x) (inr y) = inr (omega arith)
