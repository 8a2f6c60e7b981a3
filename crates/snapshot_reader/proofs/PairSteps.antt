-- Pairs that are left to be marked, before and after one of them is.
use Rattle.std.proofs.Common.{◌≡◌, ℕ, ◌+◌, ◌-◌, ◌*◌, ◌<◌, ◌≤◌, Bool, true, false, List, [], ◌∷◌, length, take, drop, refl, sym, ap, subst, ◌∙◌, arith, ⊎_elim}
use Rattle.std.proofs.Math.ListN.{get_or}
use Rattle.std.specs.Prelude.{◌&&◌, ◌==◌, not, slice_index, slice_set}
use Rattle.std.specs.List.{AllByRecursion, list_all}
use Rattle.std.proofs.lemmas.Bool.{and_parts, cases_Bool, cases_eq, eqb-true, ne_eqb, or_cases}
use Rattle.std.proofs.lemmas.List.{get_or-set_same, get_or-set_other, take_rest}
use Rattle.snapshots.specs.Conditions.{all_differ, has_pair, is_among}
use Rattle.thread_interpreter.specs.declared.part.StripePart.{StripePart}
use Rattle.snapshot_reader.specs.Tallies.{AreBelow, AreListed, IsIn, one_if, place}
use Rattle.snapshot_reader.proofs.Tallying.{free_after, is_free}

-- ---- tests

and_true : (a : Bool) → a ≡ (a && true)
and_true true = refl
and_true false = refl

middle_false : (a b c e : Bool) → b ≡ false → false ≡ ((a && (b && c)) && e)
middle_false false b c e f = refl
middle_false true b c e f = λ i. ((sym f i && c) && e)

-- n: the pair isn't among the others, d: these differ, l: all are listed; f: they are free, and g: they are so after it is marked
regroup : (n d l f g : Bool) → (l && g) ≡ (l && (n && f)) → (((n && d) && l) && f) ≡ ((d && l) && g)
regroup false false l f g e = refl
regroup true false l f g e = refl
regroup true true l f g e = sym e
regroup false true true f g e = sym e
regroup false true false f g e = refl

-- ---- stripes

-- a listed stripe is one of the machine
pub among_inside : (locks : ℕ) (xs : List StripePart) → AllByRecursion (λ (x : StripePart). IsIn locks (x.lock, x.stripe)) xs → (p : ℕ × ℕ) → is_among xs p ≡ true → IsIn locks p
among_inside locks [] h p e = cc
among_inside locks (x ∷ xs) h p e = ⊎_elim here (among_inside locks xs h.1 p) (or_cases ((x.lock == p.0) && (x.stripe == p.1)) (is_among xs p) e)
  where
    here : ((x.lock == p.0) && (x.stripe == p.1)) ≡ true → IsIn locks p
    here f =
        let q = and_parts (x.lock == p.0) (x.stripe == p.1) f in
        (subst (λ (n : ℕ). n < locks) (eqb-true x.lock p.0 q.0) h.0.0, subst (λ (n : ℕ). n < 8) (eqb-true x.stripe p.1 q.1) h.0.1)

-- where no stripe has the mark, all are free
all_free : (mark : ℕ) (marks : List ℕ) → AreBelow mark marks → (ps : List (ℕ × ℕ)) → list_all (is_free mark marks) ps ≡ true
all_free mark marks below [] = refl
all_free mark marks below (p ∷ ps) =
    let one : is_free mark marks p ≡ true = ap not (ne_eqb (slice_index marks (place p)) mark (λ e. let h = below (place p) in absurd (omega arith))) in
    (λ i. one i && list_all (is_free mark marks) ps) ∙ all_free mark marks below ps

-- ---- the loop

-- what is said of the pairs that are left
abbrev pub Left : ℕ → List ℕ → List StripePart → List (ℕ × ℕ) → Bool
Left mark marks stripes rest = (all_differ rest && list_all (is_among stripes) rest) && list_all (is_free mark marks) rest

pub left_all : (mark : ℕ) (marks : List ℕ) → AreBelow mark marks → (stripes : List StripePart) (ps : List (ℕ × ℕ)) → (all_differ ps && list_all (is_among stripes) ps) ≡ Left mark marks stripes ps
left_all mark marks below stripes ps =
    and_true (all_differ ps && list_all (is_among stripes) ps) ∙ ap (λ (b : Bool). (all_differ ps && list_all (is_among stripes) ps) && b) (sym (all_free mark marks below ps))

-- the first is no stripe of the machine
pub left_outside : (locks mark : ℕ) (marks listed : List ℕ) (stripes : List StripePart) (rest : List (ℕ × ℕ)) (d : ℕ × ℕ) (front : Bool)
    → 1 ≤ length rest → (IsIn locks (get_or rest 0 d) → ⊥) → AreListed locks stripes listed → front ≡ Left mark marks stripes rest → false ≡ front
left_outside locks mark marks listed stripes [] d front some out are whole = absurd (let h : 1 ≤ 0 = some in omega arith)
left_outside locks mark marks listed stripes (q ∷ more) d front some out are whole = ⊎_elim among other (cases_Bool (is_among stripes q))
  where
    among : is_among stripes q ≡ true → false ≡ front
    among e = absurd (out (among_inside locks stripes are.inside q e))

    other : is_among stripes q ≡ false → false ≡ front
    other e = middle_false (all_differ (q ∷ more)) (is_among stripes q) (list_all (is_among stripes) more) (list_all (is_free mark marks) (q ∷ more)) e ∙ sym whole

-- the first is listed and free, and is marked
pub left_marked : (locks mark at : ℕ) (marks listed : List ℕ) (stripes : List StripePart) (rest : List (ℕ × ℕ)) (d : ℕ × ℕ) (front : Bool)
    → 1 ≤ length rest → IsIn locks (get_or rest 0 d) → at ≡ place (get_or rest 0 d) → length marks ≡ 8 * locks
    → (slice_index marks at ≡ mark → ⊥) → (slice_index listed at ≡ 0 → ⊥) → AreListed locks stripes listed
    → front ≡ Left mark marks stripes rest → front ≡ Left mark (slice_set marks at mark) stripes (take (length rest - 1) (drop 1 rest))
left_marked locks mark at marks listed stripes [] d front some k here size free counted are whole = absurd (let h : 1 ≤ 0 = some in omega arith)
left_marked locks mark at marks listed stripes (q ∷ more) d front some k here size free counted are whole =
    let among : is_among stripes q ≡ true = ⊎_elim (λ (e : is_among stripes q ≡ true). e)
    (λ (e : is_among stripes q ≡ false). absurd (counted (ap (slice_index listed) here ∙ are.each q k ∙ ap one_if e))) (cases_Bool (is_among stripes q)) in
    let unmarked : is_free mark marks q ≡ true = ap not (ne_eqb (slice_index marks (place q)) mark (λ e. free (ap (slice_index marks) here ∙ e))) in
    let after = free_after mark marks locks q more k size stripes (among_inside locks stripes are.inside) in
    let next : (((not (has_pair more q) && all_differ more) && list_all (is_among stripes) more) && list_all (is_free mark marks) more) ≡ Left mark (slice_set marks (place q) mark) stripes more =
    regroup (not (has_pair more q)) (all_differ more) (list_all (is_among stripes) more) (list_all (is_free mark marks) more) (list_all (is_free mark (slice_set marks (place q) mark)) more) after in
    whole
    ∙ (λ i. ((not (has_pair more q) && all_differ more) && (among i && list_all (is_among stripes) more)) && (unmarked i && list_all (is_free mark marks) more))
    ∙ next
    ∙ ap (λ (n : ℕ). Left mark (slice_set marks n mark) stripes more) (sym here)
    ∙ ap (Left mark (slice_set marks at mark) stripes) (sym (take_rest (q ∷ more) 1))

-- a mark is below the next
pub below_marked : (mark at : ℕ) (marks : List ℕ) → AreBelow (mark + 1) marks → at < length marks → AreBelow (mark + 1) (slice_set marks at mark)
below_marked mark at marks below within k = ⊎_elim same other (cases_eq k at)
  where
    same : k ≡ at → slice_index (slice_set marks at mark) k < mark + 1
    same e = let f = ap (slice_index (slice_set marks at mark)) e ∙ get_or-set_same marks at mark 0 within in omega arith

    other : (k ≡ at → ⊥) → slice_index (slice_set marks at mark) k < mark + 1
    other ne = let f = get_or-set_other marks at k mark 0 ne in let h = below k in omega arith
