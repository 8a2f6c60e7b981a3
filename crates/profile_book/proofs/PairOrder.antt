-- The order of pairs, and lists of pairs as sets.
use Rattle.std.proofs.Common.{◌≡◌, zero, suc, ◌||◌, Bool, true, false, List, [], ◌∷◌, Ordering, Less, Equal, Greater, is_eq, cond, refl, sym, ap, ◌∙◌, subst, ◌⊎◌, inl, inr, arith}
use Rattle.std.proofs.lemmas.Bool.{or_cases}
use Rattle.std.proofs.lemmas.Cmp.{nat_list_cmp_total, then_total, on_total, tied_itself}
use Rattle.std.proofs.lemmas.Map.Text.{is_eq-slice_cmp}
use Rattle.std.proofs.lemmas.Slice.Eq.{bytes_eq-Decides}
use Rattle.std.specs.BTreeSet.{IsFromIterResult, BTreeSet}
use Rattle.std.specs.Cmp.{IsTotalOrder}
use Rattle.std.specs.List.{Contains, list_any, AllByRecursion}
use Rattle.std.specs.List.Sorted.{IsStrictlySortedBy}
use Rattle.std.specs.Ordering.{ordering_then, ordering_reverse, is_lt, is_le}
use Rattle.profiles.proofs.Ascending.{one_list, Up, before_less, In_at, at_In}
use Rattle.profiles.specs.Profile.{Text, Pair, text_order, pair_order, ordered, AreAscending, IsLesserFirst}
use Rattle.profile_book.specs.Listing.{IsSetOf}

same_text : (a b : Text) → is_eq (text_order a b) ≡ true → a ≡ b
same_text a b e = (bytes_eq-Decides a b).0 (sym (is_eq-slice_cmp a b) ∙ e)

both_equal : (r s : Ordering) → is_eq (ordering_then r s) ≡ true → (is_eq r ≡ true) × (is_eq s ≡ true)
both_equal Less s e = absurd (cc)
both_equal Equal s e = (refl, e)
both_equal Greater s e = absurd (cc)

same_pair : (p q : Pair) → is_eq (pair_order p q) ≡ true → p ≡ q
same_pair p q e = let t = both_equal (text_order p.0 q.0) (text_order p.1 q.1) e in (λ i. (same_text p.0 q.0 t.0 i, same_text p.1 q.1 t.1 i))

pair_total : IsTotalOrder pair_order
pair_total = then_total (on_total (λ p. p.0) nat_list_cmp_total) (on_total (λ p. p.1) nat_list_cmp_total)

pair_self : (p : Pair) → pair_order p p ≡ Equal
pair_self p = tied_itself pair_total p

-- ---- members

abbrev has : List Pair → Pair → Bool
has ps p = list_any (λ q. is_eq (pair_order p q)) ps

or_left : (a b : Bool) → a ≡ true → (a || b) ≡ true
or_left true b e = refl
or_left false b e = absurd (cc)

or_right : (a b : Bool) → b ≡ true → (a || b) ≡ true
or_right true b e = refl
or_right false b e = e

Contains-from_has : (ps : List Pair) (p : Pair) → has ps p ≡ true → Contains ps p
Contains-from_has [] p e = absurd (cc)
Contains-from_has (q ∷ qs) p e = go (λ h. Contains-from_has qs p h) (or_cases (is_eq (pair_order p q)) (has qs p) e)
  where
    go : (has qs p ≡ true → Contains qs p) → (is_eq (pair_order p q) ≡ true) ⊎ (has qs p ≡ true) → Contains (q ∷ qs) p
    go later (inl h) = (zero, omega arith, sym (same_pair p q h))
    go later (inr h) = let c = later h in (suc c.0, omega (arith, c.1), c.2)

has-from_Contains : (ps : List Pair) (p : Pair) → Contains ps p → has ps p ≡ true
has-from_Contains [] p (k, lt, e) = absurd (omega (arith, lt))
has-from_Contains (q ∷ qs) p (zero, lt, e) = or_left (is_eq (pair_order p q)) (has qs p) (ap (λ z. is_eq (pair_order p z)) e ∙ ap is_eq (pair_self p))
has-from_Contains (q ∷ qs) p (suc k, lt, e) = or_right (is_eq (pair_order p q)) (has qs p) (has-from_Contains qs p (k, omega (arith, lt), e))

ascending_from_sorted : (ps : List Pair) → IsStrictlySortedBy pair_order ps → AreAscending ps
unfolding IsStrictlySortedBy
ascending_from_sorted [] h = tt
ascending_from_sorted (p ∷ []) h = (tt, tt)
ascending_from_sorted (p ∷ q ∷ qs) h = (ap is_lt h.0.0, ascending_from_sorted (q ∷ qs) h.1)

-- a set that was made of pairs has them in order, each once
pub set_of_pairs : (listed : List Pair) (set : BTreeSet Pair) → IsFromIterResult pair_order listed set → IsSetOf listed set.keys
set_of_pairs listed set h = record {
  ascending = ascending_from_sorted set.keys h.1;
  same = λ p. (λ c. Contains-from_has listed p (sym (h.0 p) ∙ has-from_Contains set.keys p c), λ c. Contains-from_has set.keys p (h.0 p ∙ has-from_Contains listed p c));
}

-- ---- what holds of each

All_in : (P : Pair → Type 0) (ps : List Pair) → ((p : Pair) → Contains ps p → P p) → AllByRecursion P ps
All_in P [] f = tt
All_in P (p ∷ ps) f = (f p (zero, omega arith, refl), All_in P ps (λ q c. f q (suc c.0, omega (arith, c.1), c.2)))

All_at : (P : Pair → Type 0) (ps : List Pair) (p : Pair) → AllByRecursion P ps → Contains ps p → P p
All_at P [] p h (k, lt, e) = absurd (omega (arith, lt))
All_at P (q ∷ qs) p h (zero, lt, e) = subst P e h.0
All_at P (q ∷ qs) p h (suc k, lt, e) = All_at P qs p h.1 (k, omega (arith, lt), e)

pub All-IsSetOf : (P : Pair → Type 0) (listed ps : List Pair) → IsSetOf listed ps → AllByRecursion P listed → AllByRecursion P ps
All-IsSetOf P listed ps s h = All_in P ps (λ p c. All_at P listed p h ((s.same p).0 c))

turned : (o : Ordering) → is_le o ≡ false → is_le (ordering_reverse o) ≡ true
turned Less e = absurd (cc)
turned Equal e = absurd (cc)
turned Greater e = refl

first_of : (f g : Text) (b : Bool) → is_le (text_order f g) ≡ b → IsLesserFirst (cond b (f, g) (g, f))
first_of f g true e = e
first_of f g false e = ap is_le (nat_list_cmp_total.antisymm g f) ∙ turned (text_order f g) e

pub lesser_is_first : (f g : Text) → IsLesserFirst (ordered f g)
lesser_is_first f g = first_of f g (is_le (text_order f g)) refl

-- ---- one list for one set

abbrev less : Pair → Pair → Bool
less p q = is_lt (pair_order p q)

is_Less : (o : Ordering) → is_lt o ≡ true → o ≡ Less
is_Less Less e = refl
is_Less Equal e = absurd (cc)
is_Less Greater e = absurd (cc)

less_irr : (p : Pair) → less p p ≡ true → ⊥
less_irr p e = let h : is_lt Equal ≡ true = sym (ap is_lt (pair_self p)) ∙ e in cc

less_trans : (p q r : Pair) → less p q ≡ true → less q r ≡ true → less p r ≡ true
less_trans p q r d e = ap is_lt (pair_total.trans p q r (is_Less (pair_order p q) d) (is_Less (pair_order q r) e))

up : (ps : List Pair) → AreAscending ps → Up less less_irr less_trans ps
up [] h = tt
up (p ∷ []) h = (tt, tt)
up (p ∷ q ∷ qs) h = let u = up (q ∷ qs) h.1 in ((h.0, before_less less less_irr less_trans p q qs h.0 u.0), u)

pub one_set : (listed ps qs : List Pair) → IsSetOf listed ps → IsSetOf listed qs → ps ≡ qs
one_set listed ps qs a b =
    one_list less less_irr less_trans ps qs (up ps a.ascending) (up qs b.ascending)
    (λ p i. In_at less less_irr less_trans qs p ((b.same p).1 ((a.same p).0 (at_In less less_irr less_trans ps p i))))
    (λ p i. In_at less less_irr less_trans ps p ((a.same p).1 ((b.same p).0 (at_In less less_irr less_trans qs p i))))
