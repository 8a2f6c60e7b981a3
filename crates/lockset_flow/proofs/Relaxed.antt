-- Rounds of meets: what one way, all ways from an instruction, and a whole round do to the points.
use Rattle.std.proofs.Common.{◌≡◌, ℕ, zero, suc, ◌+◌, ◌<◌, ◌≤◌, Bool, true, false, List, [], ◌∷◌, map, length, get_or, set, refl, sym, ap, ◌∙◌, subst, arith, ◌⊎◌, inl, inr, ⊎_elim, Some, Result, Ok, Err, length-set}
use Rattle.std.specs.Prelude.{slice_get, ◌||◌, IfOk}
use Rattle.std.specs.List.{Contains}
use Rattle.std.proofs.lemmas.Option.{same_Some, slice_get_within, slice_get-get_or}
use Rattle.std.proofs.lemmas.Bool.{cases_lt}
use Rattle.flow_code.specs.declared.act.Instr.{Instr}
use Rattle.flow_code.specs.declared.code.Function.{Function}
use Rattle.facts.specs.declared.locks.Held.{Held}
use Rattle.facts.specs.declared.locks.Naming.{Naming}
use Rattle.facts.specs.declared.locks.RelLocks.{RelLocks}
use Rattle.facts.specs.Paths.{naming_at, actual_of, arguments_of, namings_from, argument_namings, are_small_actuals}
use Rattle.facts.specs.Locks.{nothing, after, successors, returns, Below, Points, PointsBelow, IsSolution, locks_are_sized}
use Rattle.lockset_flow.specs.Flow.{FlowsWithin, all_sized}
use Rattle.lockset_flow.specs.Rounds.{after_by, meet_of, weight, weights, with_row, with_exit, HasNext, Agree, Leaves, MetAt, MetTo, MetAll, Good, FallsTo, Relaxes}
use Rattle.lockset_flow.specs.declared.next.Successors.{Successors}
use Rattle.lockset_flow.specs.declared.next.Successors.TheVariants as next
use Rattle.lockset_flow.proofs.Meets.{below_refl, below_trans, meet_down, meet_under, meet_most, good_meet}
use Rattle.lockset_flow.proofs.Effects.{after_mono, after_same}
use Rattle.lockset_flow.proofs.Sizes.{names_fit, actuals_small, after_sized}

-- ---- lists of locks

set_got : (xs : List RelLocks) (i j : ℕ) (w v : RelLocks) → slice_get (set xs i w) j ≡ Some v → (slice_get xs j ≡ Some v) ⊎ ((j ≡ i) × (w ≡ v))
set_got [] i j w v h = inl h
set_got (x ∷ xs) zero zero w v h = inr (refl, same_Some w v h)
set_got (x ∷ xs) zero (suc j) w v h = inl h
set_got (x ∷ xs) (suc i) zero w v h = inl h
set_got (x ∷ xs) (suc i) (suc j) w v h = ⊎_elim (λ e. inl e) (λ (e : (j ≡ i) × (w ≡ v)). inr (ap suc e.0, e.1)) (set_got xs i j w v h)

set_same : (xs : List RelLocks) (t : ℕ) (x : RelLocks) → slice_get xs t ≡ Some x → set xs t x ≡ xs
set_same [] t x h = refl
set_same (y ∷ ys) zero x h = ap (λ z. z ∷ ys) (sym (same_Some y x h))
set_same (y ∷ ys) (suc t) x h = ap (λ z. y ∷ z) (set_same ys t x h)

weights_set : (xs : List RelLocks) (k : ℕ) (a b : RelLocks) → slice_get xs k ≡ Some a → weight b < weight a → weights (set xs k b) < weights xs
weights_set [] k a b h lt = cc
weights_set (x ∷ xs) zero a b h lt = up (weight b) (weight x) (weights xs) (subst (λ z. weight b < weight z) (sym (same_Some x a h)) lt)
  where
    up : (p q r : ℕ) → p < q → p + r < q + r
    up p q r h = omega arith
weights_set (x ∷ xs) (suc k) a b h lt = up (weight x) (weights (set xs k b)) (weights xs) (weights_set xs k a b h lt)
  where
    up : (r p q : ℕ) → p < q → r + p < r + q
    up r p q h = omega arith

-- ---- points

pub points_refl : (x : Points) → PointsBelow x x
points_refl x = record { before = λ k a b h i. subst (λ z. Below a z) (same_Some a b (sym h ∙ i)) (below_refl a); exit = below_refl x.exit }

pub points_trans : (x y z : Points) → length x.before ≡ length y.before → PointsBelow x y → PointsBelow y z → PointsBelow x z
points_trans x y z e h g = record {
  before = λ k a c i j.
      let lt : k < length y.before = omega (arith, slice_get_within x.before k a i, e) in
      let m = slice_get-get_or y.before k a lt in
      below_trans a (get_or y.before k a) c (h.before k a (get_or y.before k a) i m) (g.before k (get_or y.before k a) c m j);
  exit = below_trans x.exit y.exit z.exit h.exit g.exit;
}

falls_row : (changed : Bool) (old : Points) (k : ℕ) (b n : RelLocks) → slice_get old.before k ≡ Some b → (changed ≡ false → n ≡ b) → (changed ≡ true → weight n < weight b) → FallsTo changed old (with_row old k n)
falls_row true old k b n h same falls = let lt = weights_set old.before k b n h (falls refl) in omega (arith, lt)
falls_row false old k b n h same falls = ap (λ z. weights z + weight old.exit) (ap (set old.before k) (same refl) ∙ set_same old.before k b h)

falls_exit : (changed : Bool) (old : Points) (n : RelLocks) → (changed ≡ false → n ≡ old.exit) → (changed ≡ true → weight n < weight old.exit) → FallsTo changed old (with_exit old n)
falls_exit true old n same falls = let lt = falls refl in omega (arith, lt)
falls_exit false old n same falls = ap (λ z. weights old.before + weight z) (same refl)

-- ---- one way

relaxed_row : (exits : List RelLocks) (f : Function) (k to : ℕ) (i : Instr) (old : Points) (a b o : RelLocks) (changed : Bool) → slice_get f.instrs k ≡ Some i → Contains (successors k i.act) to → slice_get old.before k ≡ Some a → slice_get old.before to ≡ Some b → o ≡ after exits f k i.act a → (locks_are_sized a ≡ true → locks_are_sized o ≡ true) → (changed ≡ false → meet_of b o ≡ b) → (changed ≡ true → weight (meet_of b o) < weight b) → Relaxes exits f (Agree exits f k to) old (with_row old to (meet_of b o)) changed
relaxed_row exits f k to i old a b o changed at one from here is sized same falls = record {
  long = length-set old.before to (meet_of b o);
  down = record {
    before = λ j c d g h. ⊎_elim (λ (e : slice_get old.before j ≡ Some c). subst (λ z. Below c z) (same_Some c d (sym e ∙ h)) (below_refl c)) (λ (e : (j ≡ to) × (meet_of b o ≡ c)). down_to j c d e h) (set_got old.before to j (meet_of b o) c g);
    exit = below_refl old.exit;
  };
  above = λ top y s l. record {
    before = λ j c d g h. ⊎_elim (λ (e : slice_get old.before j ≡ Some d). l.before j c d g e) (λ (e : (j ≡ to) × (meet_of b o ≡ d)). above_to top y s l j c d g e) (set_got old.before to j (meet_of b o) d h);
    exit = l.exit;
  };
  met = λ z. (ap (with_before old) (ap (set old.before to) (same z) ∙ set_same old.before to b here), agree z);
  good = λ g. record {
    before = λ j c h. ⊎_elim (λ (e : slice_get old.before j ≡ Some c). g.before j c e) (λ (e : (j ≡ to) × (meet_of b o ≡ c)). subst Good e.1 (good_meet b o (g.before to b here) (sized (g.before k a from).1))) (set_got old.before to j (meet_of b o) c h);
    exit = g.exit;
  };
  falls = falls_row changed old to b (meet_of b o) here same falls;
}
  where
    with_before : Points → List RelLocks → Points
    with_before x rows = record { before = rows; exit = x.exit }

    down_to : (j : ℕ) (c d : RelLocks) → (j ≡ to) × (meet_of b o ≡ c) → slice_get old.before j ≡ Some d → Below c d
    down_to j c d e h = subst (λ z. Below z d) e.1 (subst (λ z. Below (meet_of b o) z) (same_Some b d (sym here ∙ ap (slice_get old.before) (sym e.0) ∙ h)) (meet_down b o))

    above_to : (top : List Held) (y : Points) → IsSolution exits f top y → PointsBelow y old → (j : ℕ) (c d : RelLocks) → slice_get y.before j ≡ Some c → (j ≡ to) × (meet_of b o ≡ d) → Below c d
    above_to top y s l j c d g e =
        let lt : k < length y.before = omega (arith, s.long, slice_get_within f.instrs k i at) in
        let m = slice_get-get_or y.before k nothing lt in
        let w : slice_get y.before to ≡ Some c = ap (slice_get y.before) (sym e.0) ∙ g in
        subst (Below c) e.1
        (meet_most b o c (l.before to c b w here)
        (subst (Below c) (sym is) (below_trans c (after exits f k i.act (get_or y.before k nothing)) (after exits f k i.act a) (s.steps k to i (get_or y.before k nothing) c at one m w) (after_mono exits f k i.act (get_or y.before k nothing) a (l.before k (get_or y.before k nothing) a m from)))))

    agree : changed ≡ false → Agree exits f k to (with_row old to (meet_of b o))
    agree z p c d at_p g h =
        let w : set old.before to (meet_of b o) ≡ old.before = ap (set old.before to) (same z) ∙ set_same old.before to b here in
        let x : a ≡ c = same_Some a c (sym from ∙ ap (λ v. slice_get v k) (sym w) ∙ g) in
        let v : meet_of b o ≡ d = same z ∙ same_Some b d (sym here ∙ ap (λ u. slice_get u to) (sym w) ∙ h) in
        let q : i ≡ p = same_Some i p (sym at ∙ at_p) in
        subst (λ y. Below d (after exits f k y.act c)) q (subst (λ y. Below d (after exits f k i.act y)) x (subst (Below d) is (subst (λ y. Below y o) v (meet_under b o))))

pub relaxed_exit : (exits : List RelLocks) (f : Function) (k : ℕ) (i : Instr) (old new : Points) (a : RelLocks) (changed : Bool) → slice_get f.instrs k ≡ Some i → returns i.act ≡ true → slice_get old.before k ≡ Some a → (new ≡ with_exit old (meet_of old.exit a)) × (changed ≡ false → meet_of old.exit a ≡ old.exit) × (changed ≡ true → weight (meet_of old.exit a) < weight old.exit) → Relaxes exits f (Leaves k) old new changed
relaxed_exit exits f k i old new a changed at ret from h = subst (λ z. Relaxes exits f (Leaves k) old z changed) (sym h.0) (record {
  long = refl;
  down = record { before = (points_refl old).before; exit = meet_down old.exit a };
  above = λ top y s l. record { before = l.before; exit = meet_most old.exit a y.exit l.exit (above_exit top y s l) };
  met = λ z. (ap (λ e. with_exit old e) (h.1 z), λ c g. subst (λ y. Below (meet_of old.exit a) y) (same_Some a c (sym from ∙ g)) (meet_under old.exit a));
  good = λ g. record { before = g.before; exit = good_meet old.exit a g.exit (g.before k a from).1 };
  falls = falls_exit changed old (meet_of old.exit a) h.1 h.2;
})
  where
    above_exit : (top : List Held) (y : Points) → IsSolution exits f top y → PointsBelow y old → Below y.exit a
    above_exit top y s l =
        let lt : k < length y.before = omega (arith, s.long, slice_get_within f.instrs k i at) in
        let m = slice_get-get_or y.before k nothing lt in
        below_trans y.exit (get_or y.before k nothing) a (s.returned k i (get_or y.before k nothing) at ret m) (l.before k (get_or y.before k nothing) a m from)

-- ---- parts of a round

falls_join : (a b : Bool) (r s t : Points) → FallsTo a r s → FallsTo b s t → FallsTo (a || b) r t
falls_join true true r s t h k = omega (arith, h, k)
falls_join true false r s t h k = omega (arith, h, k)
falls_join false true r s t h k = omega (arith, h, k)
falls_join false false r s t h k = k ∙ h

or_false : (a b : Bool) → (a || b) ≡ false → (a ≡ false) × (b ≡ false)
or_false true b h = cc
or_false false b h = (refl, h)

pub weaker : (exits : List RelLocks) (f : Function) (M N : Points → Type 0) (old new : Points) (a : Bool) → (M new → N new) → Relaxes exits f M old new a → Relaxes exits f N old new a
weaker exits f M N old new a g s = record { long = s.long; down = s.down; above = s.above; met = λ e. ((s.met e).0, g (s.met e).1); good = s.good; falls = s.falls }

pub join : (exits : List RelLocks) (f : Function) (M N : Points → Type 0) (old mid new : Points) (a b : Bool) → Relaxes exits f M old mid a → Relaxes exits f N mid new b → Relaxes exits f (λ x. M x × N x) old new (a || b)
join exits f M N old mid new a b s t = record {
  long = t.long ∙ s.long;
  down = points_trans new mid old t.long t.down s.down;
  above = λ top y h k. t.above top y h (s.above top y h k);
  met = λ e. let o = or_false a b e in ((t.met o.1).0 ∙ (s.met o.0).0, (subst M (sym (t.met o.1).0) (s.met o.0).1, (t.met o.1).1));
  good = λ g. t.good (s.good g);
  falls = falls_join a b old mid new s.falls t.falls;
}

pub nothing_yet : (exits : List RelLocks) (f : Function) (x : Points) → Relaxes exits f (MetTo exits f 0) x x false
nothing_yet exits f x = record { long = refl; down = points_refl x; above = λ top y h k. k; met = λ e. (refl, λ j lt. absurd (omega arith)); good = λ g. g; falls = refl }

below_more : (P : ℕ → Type 0) (k : ℕ) → ((j : ℕ) → j < k → P j) → P k → (j : ℕ) → j < k + 1 → P j
below_more P k below here j lt = ⊎_elim (λ l. below j l) (λ (g : k ≤ j). let e : k ≡ j = omega arith in subst P e here) (cases_lt j k)

pub more_met : (exits : List RelLocks) (f : Function) (k : ℕ) (old mid new : Points) (a b : Bool) → Relaxes exits f (MetTo exits f k) old mid a → Relaxes exits f (MetAt exits f k) mid new b → Relaxes exits f (MetTo exits f (k + 1)) old new (a || b)
more_met exits f k old mid new a b s t = weaker exits f (λ x. MetTo exits f k x × MetAt exits f k x) (MetTo exits f (k + 1)) old new (a || b) (λ m. below_more (λ j. MetAt exits f j new) k m.0 m.1) (join exits f (MetTo exits f k) (MetAt exits f k) old mid new a b s t)

pub all_met : (exits : List RelLocks) (f : Function) (k : ℕ) (old new : Points) (a : Bool) → length f.instrs ≤ k → Relaxes exits f (MetTo exits f k) old new a → Relaxes exits f (MetAll exits f) old new a
all_met exits f k old new a le s = weaker exits f (MetTo exits f k) (MetAll exits f) old new a (λ m j lt. m j (omega arith)) s

-- ---- all ways from an instruction

some_at : {X : Type 0} (xs : List X) (k : ℕ) → k < length xs → (x : X) × (slice_get xs k ≡ Some x)
some_at [] k lt = absurd (omega arith)
some_at (x ∷ xs) zero lt = (x, refl)
some_at (x ∷ xs) (suc k) lt = some_at xs k (omega arith)

pub only : (ns : List ℕ) (a n : ℕ) → ns ≡ a ∷ [] → Contains ns n → n ≡ a
only ns a n e h = of (subst (λ z. Contains z n) e h)
  where
    of : Contains (a ∷ []) n → n ≡ a
    of (zero, lt, is) = sym is
    of (suc j, lt, is) = absurd (omega arith)

pub either : (ns : List ℕ) (a b n : ℕ) → ns ≡ a ∷ b ∷ [] → Contains ns n → (n ≡ a) ⊎ (n ≡ b)
either ns a b n e h = of (subst (λ z. Contains z n) e h)
  where
    of : Contains (a ∷ b ∷ []) n → (n ≡ a) ⊎ (n ≡ b)
    of (zero, lt, is) = inl (sym is)
    of (suc zero, lt, is) = inr (sym is)
    of (suc (suc j), lt, is) = absurd (omega arith)

pub neither : (ns : List ℕ) (n : ℕ) → ns ≡ [] → Contains ns n → ⊥
neither ns n e h = of (subst (λ z. Contains z n) e h)
  where
    of : Contains [] n → ⊥
    of (j, lt, is) = absurd (omega arith)

differ : (b : Bool) → b ≡ false → b ≡ true → ⊥
differ b h k = cc

abbrev pub Ways : Function → ℕ → Successors → Type 0
Ways f k r = (i : Instr) → slice_get f.instrs k ≡ Some i → HasNext r k i.act

pub ways_of : (is : List Instr) (f : Function) (k : ℕ) (r : Successors) → is ≡ f.instrs → ((i : Instr) → slice_get is k ≡ Some i → HasNext r k i.act) → Ways f k r
ways_of is f k r e h i at = h i (ap (λ z. slice_get z k) e ∙ at)

pub met_one : (exits : List RelLocks) (f : Function) (k to : ℕ) (r : Successors) (old new : Points) (a : Bool) → Ways f k r → r ≡ next.One to → Relaxes exits f (Agree exits f k to) old new a → Relaxes exits f (MetAt exits f k) old new a
met_one exits f k to r old new a ways is s = weaker exits f (Agree exits f k to) (MetAt exits f k) old new a (λ m. record {
  flows = λ q i at h. subst (λ z. Agree exits f k z new) (sym (only (successors k i.act) to q (has i at).0 h)) m;
  left = λ i at h. absurd (differ (returns i.act) (has i at).1 h);
}) s
  where
    has : (i : Instr) → slice_get f.instrs k ≡ Some i → (successors k i.act ≡ to ∷ []) × (returns i.act ≡ false)
    has i at = subst (λ z. HasNext z k i.act) is (ways i at)

pub met_two : (exits : List RelLocks) (f : Function) (k to other : ℕ) (r : Successors) (old mid new : Points) (a b : Bool) → Ways f k r → r ≡ next.Two to other → Relaxes exits f (Agree exits f k to) old mid a → Relaxes exits f (Agree exits f k other) mid new b → Relaxes exits f (MetAt exits f k) old new (a || b)
met_two exits f k to other r old mid new a b ways is s t = weaker exits f (λ x. Agree exits f k to x × Agree exits f k other x) (MetAt exits f k) old new (a || b) (λ m. record {
  flows = λ q i at h. ⊎_elim (λ (e : q ≡ to). subst (λ z. Agree exits f k z new) (sym e) m.0) (λ (e : q ≡ other). subst (λ z. Agree exits f k z new) (sym e) m.1) (either (successors k i.act) to other q (has i at).0 h);
  left = λ i at h. absurd (differ (returns i.act) (has i at).1 h);
}) (join exits f (Agree exits f k to) (Agree exits f k other) old mid new a b s t)
  where
    has : (i : Instr) → slice_get f.instrs k ≡ Some i → (successors k i.act ≡ to ∷ other ∷ []) × (returns i.act ≡ false)
    has i at = subst (λ z. HasNext z k i.act) is (ways i at)

pub met_exit : (exits : List RelLocks) (f : Function) (k : ℕ) (r : Successors) (old new : Points) (a : Bool) → k < length f.instrs → Ways f k r → r ≡ next.Exit → ((es : List RelLocks) (g : Function) (i : Instr) → slice_get g.instrs k ≡ Some i → returns i.act ≡ true → Relaxes es g (Leaves k) old new a) → Relaxes exits f (MetAt exits f k) old new a
met_exit exits f k r old new a lt ways is s =
    let p = some_at f.instrs k lt in
    weaker exits f (Leaves k) (MetAt exits f k) old new a (λ m. record { flows = λ q i at h. absurd (neither (successors k i.act) q (has i at).0 h); left = λ i at h. m }) (s exits f p.0 p.1 (has p.0 p.1).1)
  where
    has : (i : Instr) → slice_get f.instrs k ≡ Some i → (successors k i.act ≡ []) × (returns i.act ≡ true)
    has i at = subst (λ z. HasNext z k i.act) is (ways i at)

first_of : (ns : List ℕ) (a : ℕ) (rest : List ℕ) → ns ≡ a ∷ rest → Contains ns a
first_of ns a rest e = subst (λ z. Contains z a) (sym e) (0, omega arith, refl)

second_of : (ns : List ℕ) (a b : ℕ) (rest : List ℕ) → ns ≡ a ∷ b ∷ rest → Contains ns b
second_of ns a b rest e = subst (λ z. Contains z b) (sym e) (1, omega arith, refl)

pub one_follows : (f : Function) (k to : ℕ) (r : Successors) → Ways f k r → r ≡ next.One to → (i : Instr) → slice_get f.instrs k ≡ Some i → Contains (successors k i.act) to
one_follows f k to r ways is i at = first_of (successors k i.act) to [] (has i at).0
  where
    has : (i : Instr) → slice_get f.instrs k ≡ Some i → (successors k i.act ≡ to ∷ []) × (returns i.act ≡ false)
    has i at = subst (λ z. HasNext z k i.act) is (ways i at)

pub two_follow : (f : Function) (k to other : ℕ) (r : Successors) → Ways f k r → r ≡ next.Two to other → (i : Instr) → slice_get f.instrs k ≡ Some i → Contains (successors k i.act) to × Contains (successors k i.act) other
two_follow f k to other r ways is i at = (first_of (successors k i.act) to (other ∷ []) (has i at).0, second_of (successors k i.act) to other [] (has i at).0)
  where
    has : (i : Instr) → slice_get f.instrs k ≡ Some i → (successors k i.act ≡ to ∷ other ∷ []) × (returns i.act ≡ false)
    has i at = subst (λ z. HasNext z k i.act) is (ways i at)

pub one_within : (f : Function) (k to : ℕ) (r : Successors) → FlowsWithin f → k < length f.instrs → Ways f k r → r ≡ next.One to → to < length f.instrs
one_within f k to r flows lt ways is = let p = some_at f.instrs k lt in flows k to p.0 p.1 (one_follows f k to r ways is p.0 p.1)

pub two_within : (f : Function) (k to other : ℕ) (r : Successors) → FlowsWithin f → k < length f.instrs → Ways f k r → r ≡ next.Two to other → (to < length f.instrs) × (other < length f.instrs)
two_within f k to other r flows lt ways is = let p = some_at f.instrs k lt in let c = two_follow f k to other r ways is p.0 p.1 in (flows k to p.0 p.1 c.0, flows k other p.0 p.1 c.1)

-- ---- by the names of arguments

pub names_long : (f : Function) → length (argument_namings f) ≡ length f.instrs
names_long f = go 0 f.instrs
  where
    go : (n : ℕ) (is : List Instr) → length (namings_from f n is) ≡ length is
    go n [] = refl
    go n (i ∷ is) = ap suc (go (suc n) is)

names_from : (f : Function) (n : ℕ) (is : List Instr) (k : ℕ) (i : Instr) (row : List Naming) → slice_get (namings_from f n is) k ≡ Some row → slice_get is k ≡ Some i → row ≡ map (naming_at f (n + k)) (arguments_of i.act)
names_from f n [] k i row h g = cc
names_from f n (j ∷ is) zero i row h g =
    let e : n ≡ n + 0 = omega arith in
    let d : map (naming_at f n) (arguments_of j.act) ≡ row = same_Some (map (naming_at f n) (arguments_of j.act)) row h in
    sym d ∙ ap (λ (z : Instr). map (naming_at f n) (arguments_of z.act)) (same_Some j i g) ∙ ap (λ m. map (naming_at f m) (arguments_of i.act)) e
names_from f n (j ∷ is) (suc k) i row h g = let e : suc n + k ≡ n + suc k = omega arith in names_from f (suc n) is k i row h g ∙ ap (λ m. map (naming_at f m) (arguments_of i.act)) e

pub names_row : (f : Function) (names : List (List Naming)) (k : ℕ) (i : Instr) (row : List Naming) → names ≡ argument_namings f → slice_get f.instrs k ≡ Some i → slice_get names k ≡ Some row → row ≡ map (naming_at f k) (arguments_of i.act)
names_row f names k i row e at h = let z : 0 + k ≡ k = omega arith in names_from f 0 f.instrs k i row (ap (λ ns. slice_get ns k) (sym e) ∙ h) at ∙ ap (λ m. map (naming_at f m) (arguments_of i.act)) z

pub row_small : (f : Function) (names : List (List Naming)) (k : ℕ) (i : Instr) (row : List Naming) → names ≡ argument_namings f → slice_get f.instrs k ≡ Some i → slice_get names k ≡ Some row → are_small_actuals (map actual_of row) ≡ true
row_small f names k i row e at h = subst (λ r. are_small_actuals (map actual_of r) ≡ true) (sym (names_row f names k i row e at h)) (actuals_small (map (naming_at f k) (arguments_of i.act)) (names_fit f k (arguments_of i.act)))

pub relaxed_by : (exits : List RelLocks) (f : Function) (names : List (List Naming)) (k to : ℕ) (i : Instr) (row : List Naming) (old new : Points) (a o : RelLocks) (changed : Bool) → names ≡ argument_namings f → all_sized exits ≡ true → to < length old.before → slice_get f.instrs k ≡ Some i → Contains (successors k i.act) to → slice_get names k ≡ Some row → slice_get old.before k ≡ Some a → o ≡ after_by exits row i.act a → ((b : RelLocks) → slice_get old.before to ≡ Some b → (new ≡ with_row old to (meet_of b o)) × (changed ≡ false → meet_of b o ≡ b) × (changed ≡ true → weight (meet_of b o) < weight b)) → Relaxes exits f (Agree exits f k to) old new changed
relaxed_by exits f names k to i row old new a o changed e s lt at one here from is h =
    subst (λ z. Relaxes exits f (Agree exits f k to) old z changed) (sym r.0) (relaxed_row exits f k to i old a (get_or old.before to nothing) o changed at one from there by sized r.1 r.2)
  where
    there : slice_get old.before to ≡ Some (get_or old.before to nothing)
    there = slice_get-get_or old.before to nothing lt

    r : (new ≡ with_row old to (meet_of (get_or old.before to nothing) o)) × (changed ≡ false → meet_of (get_or old.before to nothing) o ≡ get_or old.before to nothing) × (changed ≡ true → weight (meet_of (get_or old.before to nothing) o) < weight (get_or old.before to nothing))
    r = h (get_or old.before to nothing) there

    named : o ≡ after_by exits (map (naming_at f k) (arguments_of i.act)) i.act a
    named = is ∙ ap (λ z. after_by exits z i.act a) (names_row f names k i row e at here)

    by : o ≡ after exits f k i.act a
    by = named ∙ after_same exits f k i.act a

    sized : locks_are_sized a ≡ true → locks_are_sized o ≡ true
    sized g = subst (λ z. locks_are_sized z ≡ true) (sym named) (after_sized exits (map (naming_at f k) (arguments_of i.act)) i.act a (names_fit f k (arguments_of i.act)) s g)

pub ok_map : {A E : Type 0} (r : Result A E) (P Q : A → Type 0) → ((a : A) → P a → Q a) → IfOk r P → IfOk r Q
ok_map (Ok a) P Q f h = f a h
ok_map (Err e) P Q f h = h
