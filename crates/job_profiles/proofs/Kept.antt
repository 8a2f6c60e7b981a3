-- Pairs of which some are left out.
use Rattle.std.proofs.Common.{◌≡◌, refl, sym, ap, Bool, true, false, cond, List, [], ◌∷◌, Ordering, Less, Equal, Greater}
use Rattle.std.proofs.lemmas.Bool.{and_parts}
use Rattle.std.proofs.lemmas.Cmp.{nat_list_cmp_total, then_total, on_total}
use Rattle.std.specs.Cmp.{IsTotalOrder}
use Rattle.std.specs.Prelude.{◌↔◌, IsTrue, filter}
use Rattle.std.specs.List.{AllByRecursion}
use Rattle.std.specs.Ordering.{is_lt}
use Rattle.profiles.specs.Profile.{Text, Pair, pair_order, ComesBefore, AreAscending, IsLesserFirst, ArePairs}
use Rattle.order_log.proofs.Parts.{is_name-true, IsName-is_name}
use Rattle.order_log.specs.Line.{is_name}
use Rattle.order_log.specs.Log.{IsNamePair}
use Rattle.order_log.specs.Names.{IsName}
use Rattle.job_profiles.specs.Profiles.{are_names}

is_Less : (o : Ordering) → is_lt o ≡ true → o ≡ Less
is_Less Less e = refl
is_Less Equal e = absurd (cc)
is_Less Greater e = absurd (cc)

pair_total : IsTotalOrder pair_order
pair_total = then_total (on_total (λ p. p.0) nat_list_cmp_total) (on_total (λ p. p.1) nat_list_cmp_total)

before_both : (p q r : Pair) → is_lt (pair_order p q) ≡ true → is_lt (pair_order q r) ≡ true → is_lt (pair_order p r) ≡ true
before_both p q r d e = ap is_lt (pair_total.trans p q r (is_Less (pair_order p q) d) (is_Less (pair_order q r) e))

before_next : (p q : Pair) (qs : List Pair) → is_lt (pair_order p q) ≡ true → ComesBefore q qs → ComesBefore p qs
before_next p q [] d h = tt
before_next p q (r ∷ rs) d h = before_both p q r d h

module _ (keep : Pair → Bool) where
  before_kept : (p : Pair) (qs : List Pair) → ComesBefore p qs → AreAscending qs → ComesBefore p (filter keep qs)
  before_kept p [] h a = tt
  before_kept p (q ∷ qs) h a = by (keep q) (before_kept p qs (before_next p q qs h a.0) a.1)
    where
      by : (b : Bool) → ComesBefore p (filter keep qs) → ComesBefore p (cond b (q ∷ filter keep qs) (filter keep qs))
      by true rest = h
      by false rest = rest

  ascending_kept : (ps : List Pair) → AreAscending ps → AreAscending (filter keep ps)
  ascending_kept [] h = tt
  ascending_kept (p ∷ ps) h = by (keep p) (ascending_kept ps h.1)
    where
      by : (b : Bool) → AreAscending (filter keep ps) → AreAscending (cond b (p ∷ filter keep ps) (filter keep ps))
      by true rest = (before_kept p ps h.0 h.1, rest)
      by false rest = rest

  all_kept : (P : Pair → Type 0) (ps : List Pair) → AllByRecursion P ps → AllByRecursion P (filter keep ps)
  all_kept P [] h = tt
  all_kept P (p ∷ ps) h = by (keep p) (all_kept P ps h.1)
    where
      by : (b : Bool) → AllByRecursion P (filter keep ps) → AllByRecursion P (cond b (p ∷ filter keep ps) (filter keep ps))
      by true rest = (h.0, rest)
      by false rest = rest

-- ---- names

pub pairs_kept : (ps : List Pair) → ArePairs ps → ArePairs (filter are_names ps)
pairs_kept ps h = record { ascending = ascending_kept are_names ps h.ascending; lesser_first = all_kept are_names _ ps h.lesser_first; texts = all_kept are_names _ ps h.texts }

names_kept : (ps : List Pair) → AllByRecursion IsLesserFirst ps → AllByRecursion IsNamePair (filter are_names ps)
names_kept [] h = tt
names_kept (p ∷ ps) h = by (are_names p) refl (names_kept ps h.1)
  where
    by : (b : Bool) → are_names p ≡ b → AllByRecursion IsNamePair (filter are_names ps) → AllByRecursion IsNamePair (cond b (p ∷ filter are_names ps) (filter are_names ps))
    by true e rest =
        let both = and_parts (is_name p.0) (is_name p.1) e in
        (record { first = is_name-true p.0 both.0; second = is_name-true p.1 both.1; lesser_first = h.0 }, rest)
    by false e rest = rest

pub have_names : (ps : List Pair) → ArePairs ps → AreAscending (filter are_names ps) × AllByRecursion IsNamePair (filter are_names ps)
have_names ps h = (ascending_kept are_names ps h.ascending, names_kept ps h.lesser_first)

-- a test of names
pub tells_name : (b : Bool) (t : Text) → IsTrue b ↔ IsName t → b ≡ is_name t
tells_name b t h = by b (is_name t) refl h.0 h.1
  where
    by : (b n : Bool) → is_name t ≡ n → (IsTrue b → IsName t) → (IsName t → IsTrue b) → b ≡ is_name t
    by true n e to from = sym (IsName-is_name t (to refl))
    by false true e to from = absurd (cc (from (is_name-true t e)))
    by false false e to from = sym e
