-- Pairs of groups that stand in order, as loops find them.
use Rattle.std.proofs.Common.{◌≡◌, ℕ, ◌+◌, ◌<◌, ◌≤◌, Bool, true, false, not, List, [], ◌∷◌, ◌++◌, length, get_or, refl, sym, ap, subst, ◌∙◌, arith, ◌⊎◌, inl, inr, ⊎_elim, Some}
use Rattle.std.specs.Prelude.{slice_get, if◌then◌else◌, ◌↔◌}
use Rattle.std.specs.Bool.{Decides}
use Rattle.std.specs.Cmp.Lexicographic.{pointwise}
use Rattle.std.specs.List.{Contains}
use Rattle.std.proofs.lemmas.Bool.{cases_lt}
use Rattle.std.proofs.lemmas.Slice.Eq.{slice_eq-Decides}
use Rattle.rr_base.specs.declared.layout.Place.{Place}
use Rattle.facts.specs.declared.pair.AccessAt.{AccessAt}
use Rattle.facts.specs.declared.pair.Pair.{Pair}
use Rattle.facts.specs.Pairs.{place_less, place_same, access_less, access_same}
use Rattle.facts.proofs.TotalOrders.{orders_places}
use Rattle.race_pairs.specs.declared.touch.Group.{Group}
use Rattle.race_pairs.specs.Gains.{Gains, Below}
use Rattle.race_pairs.specs.Races.{AreRacing, IsPairOf, IsRacingPair, pair_of, first_of, RowAt, RowFrom, PairAt, PairsFrom, PairsOf, ArePaired}
use Rattle.race_pairs.specs.Groups.{HasPlacesInOrder}
use Rattle.race_pairs.proofs.Elements.{got, gets, gets_at, held, holds}
use Rattle.race_pairs.proofs.Gaining.{none, nothing, alike, more, all_below, pushed}
use Rattle.race_pairs.proofs.Orders.{orders_accesses}

-- ---- a pair, either way round

pub either : (b : Bool) → (b ≡ true) ⊎ (b ≡ false)
either true = inl refl
either false = inr refl

-- an order is one way at most
pub one_way : (a b : AccessAt) → access_less a b ≡ true → access_less b a ≡ false
one_way a b h = ⊎_elim (λ t. let s = orders_accesses.along a b a h t in let n = orders_accesses.self a in cc) (λ f. f) (either (access_less b a))

abbrev pub turned_if : Bool → Place → AccessAt → AccessAt → Pair
turned_if c p a b = if c then record { place = p; first = b; second = a } else record { place = p; first = a; second = b }

pub pair_swap : (p : Place) (a b : AccessAt) → pair_of p a b ≡ pair_of p b a
pair_swap p a b = go (access_less b a) (access_less a b) refl refl
  where
    go : (c d : Bool) → access_less b a ≡ c → access_less a b ≡ d → turned_if c p a b ≡ turned_if d p b a
    go true true e f = let n = one_way b a e in cc
    go true false e f = refl
    go false true e f = refl
    go false false e f = let s : a ≡ b = orders_accesses.total a b f e in let u : b ≡ a = sym s in λ i. record { place = p; first = s i; second = u i }

-- a pair put to others that were put in order
pub pushed_on : (xs ys zs : List Pair) (v : Pair) → ((p : Pair) → Contains ys p ↔ Contains xs p) → zs ≡ ys ++ v ∷ [] → Gains (λ p. p ≡ v) xs zs
pushed_on xs ys zs v same e =
    let g = pushed ys v in
    subst (Gains (λ p. p ≡ v) xs) (sym e)
    (record {
      kept = λ p h. g.kept p ((same p).1 h);
      gained = g.gained;
      alone = λ p h. ⊎_elim (λ k. inl ((same p).0 k)) (λ q. inr q) (g.alone p h);
    })

-- ---- the pairs of two groups

pub row_none : (p : Place) (a : AccessAt) (bs : List AccessAt) (from : ℕ) (xs : List Pair) → Gains (Below from (RowAt p a bs from)) xs xs
row_none p a bs from xs = none (Below from (RowAt p a bs from)) xs (λ v h. never h)
  where
    never : {v : Pair} → Below from (RowAt p a bs from) v → ⊥
    never (k, lt, (le, b, gb, e)) = omega arith

pub row_more : (p : Place) (a : AccessAt) (bs : List AccessAt) (from k : ℕ) (d : AccessAt) (v : Pair) (xs ys zs : List Pair) → from ≤ k → k < length bs → Gains (Below k (RowAt p a bs from)) xs ys → v ≡ pair_of p a (get_or bs k d) → Gains (λ w. w ≡ v) ys zs → Gains (Below (k + 1) (RowAt p a bs from)) xs zs
row_more p a bs from k d v xs ys zs le lt g e m =
    let at = gets bs k d lt in
    more (RowAt p a bs from) k xs ys zs g
    (alike (λ w. w ≡ v) (RowAt p a bs from k) ys zs
    (λ w h. (le, get_or bs k d, at, h ∙ e))
    (λ w h. let s : h.1 ≡ get_or bs k d = cc in h.3 ∙ ap (pair_of p a) s ∙ sym e)
    m)

pub row_all : (p : Place) (a : AccessAt) (bs : List AccessAt) (from k : ℕ) (xs ys : List Pair) → length bs ≤ k → Gains (Below k (RowAt p a bs from)) xs ys → Gains (RowFrom p a bs from) xs ys
row_all p a bs from k xs ys le g = all_below (RowAt p a bs from) k xs ys inside g
  where
    inside : (j : ℕ) (v : Pair) → RowAt p a bs from j v → j < k
    inside j v (l, b, gb, e) = let h = (got bs j b gb).0 in omega arith

-- the pairs of the k-th access of the first
abbrev pub RowOf : Group → Group → Bool → ℕ → Pair → Type 0
RowOf g h same k v = (a : AccessAt) × (slice_get g.accesses k ≡ Some a) × RowFrom g.place a h.accesses (first_of same k) v

pub first_within : (g h : Group) (same : Bool) (k : ℕ) → (same ≡ true → h ≡ g) → k < length g.accesses → first_of same k ≤ length h.accesses
first_within g h true k e lt = let s = ap (λ (z : Group). length z.accesses) (e refl) in omega arith
first_within g h false k e lt = omega arith

pub rows_more : (g h : Group) (same : Bool) (k : ℕ) (a : AccessAt) (xs ys zs : List Pair) → slice_get g.accesses k ≡ Some a → Gains (Below k (RowOf g h same)) xs ys → Gains (RowFrom g.place a h.accesses (first_of same k)) ys zs → Gains (Below (k + 1) (RowOf g h same)) xs zs
rows_more g h same k a xs ys zs at m r =
    more (RowOf g h same) k xs ys zs m
    (alike (RowFrom g.place a h.accesses (first_of same k)) (RowOf g h same k) ys zs
    (λ v p. (a, at, p))
    (λ v p. let s : p.0 ≡ a = cc in subst (λ b. RowFrom g.place b h.accesses (first_of same k) v) s p.2)
    r)

pub rows_more_as : (g h : Group) (same : Bool) (k : ℕ) (a : AccessAt) (n : ℕ) (bs : List AccessAt) (xs ys zs : List Pair) → slice_get g.accesses k ≡ Some a → n ≡ first_of same k → bs ≡ h.accesses → Gains (Below k (RowOf g h same)) xs ys → Gains (RowFrom g.place a bs n) ys zs → Gains (Below (k + 1) (RowOf g h same)) xs zs
rows_more_as g h same k a n bs xs ys zs at e f m r =
    rows_more g h same k a xs ys zs at m
    (subst (λ j. Gains (RowFrom g.place a h.accesses j) ys zs) e (subst (λ (cs : List AccessAt). Gains (RowFrom g.place a cs n) ys zs) f r))

pub rows_all : (g h : Group) (same : Bool) (k : ℕ) (xs ys : List Pair) → (same ≡ true → h ≡ g) → length g.accesses ≤ k → Gains (Below k (RowOf g h same)) xs ys → Gains (IsPairOf g h) xs ys
rows_all g h same k xs ys is le m =
    alike (λ v. (j : ℕ) × RowOf g h same j v) (IsPairOf g h) xs ys (λ v p. found p) (λ v p. row same is v p)
    (all_below (RowOf g h same) k xs ys (λ j v p. let l = (got g.accesses j p.0 p.1).0 in omega arith) m)
  where
    found : {v : Pair} → (j : ℕ) × RowOf g h same j v → IsPairOf g h v
    found (j, (a, ga, (i, (l, b, gb, e)))) = record { a = a; b = b; of_g = held g.accesses j a ga; of_h = held h.accesses i b gb; is = e }

    row : (same : Bool) → (same ≡ true → h ≡ g) → (v : Pair) → IsPairOf g h v → (j : ℕ) × RowOf g h same j v
    row false is v p =
        let i = holds g.accesses p.a p.of_g in
        let j = holds h.accesses p.b p.of_h in
        (i.0, (p.a, i.1, (j.0, (omega arith, p.b, j.1, p.is))))
    row true is v p =
        let i = holds g.accesses p.a p.of_g in
        let e : h.accesses ≡ g.accesses = ap (λ (z : Group). z.accesses) (is refl) in
        let j = holds h.accesses p.b p.of_h in
        ⊎_elim
        (λ (lt : j.0 < i.0). (j.0, (p.b, subst (λ (zs : List AccessAt). slice_get zs j.0 ≡ Some p.b) e j.1, (i.0, (omega arith, p.a, subst (λ (zs : List AccessAt). slice_get zs i.0 ≡ Some p.a) (sym e) i.1, p.is ∙ pair_swap g.place p.a p.b)))))
        (λ (le : i.0 ≤ j.0). (i.0, (p.a, i.1, (j.0, (le, p.b, j.1, p.is)))))
        (cases_lt j.0 i.0)

pub racing : (g h : Group) (xs ys : List Pair) → AreRacing g h → Gains (IsPairOf g h) xs ys → Gains (IsRacingPair g h) xs ys
racing g h xs ys r m = alike (IsPairOf g h) (IsRacingPair g h) xs ys (λ v p. (r, p)) (λ v p. p.1) m

pub not_racing : (g h : Group) (xs : List Pair) → (AreRacing g h → ⊥) → Gains (IsRacingPair g h) xs xs
not_racing g h xs never = none (IsRacingPair g h) xs (λ v p. never p.0)

-- ---- accesses with which a group has been paired

pub accesses_same : (E : AccessAt → AccessAt → Bool) (xs ys : List AccessAt) (r : Bool) → r ≡ pointwise E xs ys → ((a b : AccessAt) → E a b ≡ access_same a b) → Decides r (xs ≡ ys)
accesses_same E xs ys r e is = slice_eq-Decides decides xs ys r e
  where
    decides : (a b : AccessAt) → Decides (E a b) (a ≡ b)
    decides a b = (λ h. orders_accesses.same_is a b (sym (is a b) ∙ h), λ h. is a b ∙ subst (λ z. access_same a z ≡ true) h (orders_accesses.same_self a))

pub none_paired : (g : Group) (bs : List AccessAt) (vs : List Pair) → bs ≡ [] → ArePaired g bs vs
none_paired g bs vs e a b ca cb = absurd (nothing b (subst (λ (cs : List AccessAt). Contains cs b) e cb))

pub already_paired : (g h : Group) (bs : List AccessAt) (vs : List Pair) → h.accesses ≡ bs → ArePaired g bs vs → Gains (IsRacingPair g h) vs vs
already_paired g h bs vs e all = record {
  kept = λ v c. c;
  gained = λ v p. subst (Contains vs) (sym p.1.is) (all p.1.a p.1.b p.1.of_g (subst (λ (cs : List AccessAt). Contains cs p.1.b) e p.1.of_h));
  alone = λ v c. inl c;
}

pub now_paired : (g h : Group) (bs : List AccessAt) (xs ys : List Pair) → bs ≡ h.accesses → Gains (IsPairOf g h) xs ys → ArePaired g bs ys
now_paired g h bs xs ys e m a b ca cb = m.gained (pair_of g.place a b) (record { a = a; b = b; of_g = ca; of_h = subst (λ (cs : List AccessAt). Contains cs b) e cb; is = refl })

-- ---- group by group

pub from_none : (gs : List Group) (i : ℕ) (xs : List Pair) → Gains (Below i (PairAt gs i)) xs xs
from_none gs i xs = none (Below i (PairAt gs i)) xs (λ v h. never h)
  where
    never : {v : Pair} → Below i (PairAt gs i) v → ⊥
    never (k, lt, (g, h, gg, gh, le, e, p)) = omega arith

pub from_more : (gs : List Group) (i j : ℕ) (g h : Group) (xs ys zs : List Pair) → slice_get gs i ≡ Some g → slice_get gs j ≡ Some h → i ≤ j → h.place ≡ g.place → Gains (Below j (PairAt gs i)) xs ys → Gains (IsRacingPair g h) ys zs → Gains (Below (j + 1) (PairAt gs i)) xs zs
from_more gs i j g h xs ys zs gg gh le e m r =
    more (PairAt gs i) j xs ys zs m
    (alike (IsRacingPair g h) (PairAt gs i j) ys zs (λ v p. (g, h, gg, gh, le, e, p)) back r)
  where
    back : (v : Pair) → PairAt gs i j v → IsRacingPair g h v
    back v (a, b, ga, gb, l, s, p) =
        let e : a ≡ g = cc in
        let f : b ≡ h = cc in
        subst (λ z. IsRacingPair g z v) f (subst (λ z. IsRacingPair z b v) e p)

pub from_all : (gs : List Group) (i j : ℕ) (xs ys : List Pair) → length gs ≤ j → Gains (Below j (PairAt gs i)) xs ys → Gains (PairsFrom gs i) xs ys
from_all gs i j xs ys far m = all_below (PairAt gs i) j xs ys inside m
  where
    inside : (k : ℕ) (v : Pair) → PairAt gs i k v → k < j
    inside k v (g, h, gg, gh, le, s, p) = let l = (got gs k h gh).0 in omega arith

-- after a group of another place there is none of this one
pub from_closed : (gs : List Group) (i j : ℕ) (g u : Group) (xs ys : List Pair) → HasPlacesInOrder gs → slice_get gs i ≡ Some g → slice_get gs j ≡ Some u → i ≤ j → (u.place ≡ g.place → ⊥) → Gains (Below j (PairAt gs i)) xs ys → Gains (PairsFrom gs i) xs ys
from_closed gs i j g u xs ys up gg gu le apart m = all_below (PairAt gs i) j xs ys before m
  where
    following : (k : ℕ) (v : Pair) → PairAt gs i k v → j ≤ k → ⊥
    following k v (a, h, ga, gh, l, e, p) far =
        let s : a ≡ g = cc in
        let same : h.place ≡ g.place = e ∙ ap (λ (z : Group). z.place) s in
        let first : place_less u.place g.place ≡ false = up i j g u le gg gu in
        let second : place_less h.place u.place ≡ false = up j k u h far gu gh in
        apart (orders_places.total u.place g.place first (subst (λ z. place_less z u.place ≡ false) same second))

    before : (k : ℕ) (v : Pair) → PairAt gs i k v → k < j
    before k v h = ⊎_elim (λ l. l) (λ (l : j ≤ k). absurd (following k v h l)) (cases_lt k j)

pub pairs_all : (gs : List Group) (k : ℕ) (xs ys : List Pair) → length gs ≤ k → Gains (Below k (PairsFrom gs)) xs ys → Gains (PairsOf gs) xs ys
pairs_all gs k xs ys far m = all_below (PairsFrom gs) k xs ys inside m
  where
    inside : (i : ℕ) (v : Pair) → PairsFrom gs i v → i < k
    inside i v (j, (g, h, gg, gh, le, s, p)) = let l = (got gs i g gg).0 in omega arith

pub places_differ : (p q : Place) (b : Bool) → b ≡ not (place_same p q) → b ≡ true → p ≡ q → ⊥
places_differ p q b e f h = let s : place_same p q ≡ true = subst (λ z. place_same p z ≡ true) h (orders_places.same_self p) in let n : not (place_same p q) ≡ false = ap not s in cc

-- what stands at one place, as two reads give it
pub same_at : (gs : List Group) (k : ℕ) (g h : Group) → k < length gs → g ≡ get_or gs k g → h ≡ get_or gs k h → g ≡ h
same_at gs k g h lt e f = let a = gets_at gs k g lt e in let b = gets_at gs k h lt f in cc

pub places_same : (p q : Place) (b : Bool) → b ≡ not (place_same p q) → b ≡ false → p ≡ q
places_same p q b e f = orders_places.same_is p q (not_false (place_same p q) (sym e ∙ f))
  where
    not_false : (b : Bool) → not b ≡ false → b ≡ true
    not_false true h = refl
    not_false false h = cc
