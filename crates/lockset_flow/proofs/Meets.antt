-- Meets of locks: below both, and above all that is below both.
use Rattle.std.proofs.Common.{◌≡◌, ℕ, suc, ◌≤◌, Bool, true, false, List, [], ◌∷◌, length, refl, sym, ap, ◌∙◌, arith, ◌⊎◌, inl, inr, ⊎_elim, nat_lt}
use Rattle.std.specs.Prelude.{◌||◌, ◌&&◌, if◌then◌else◌}
use Rattle.std.specs.List.{filter, list_all}
use Rattle.facts.specs.declared.locks.Held.{Held}
use Rattle.facts.specs.declared.locks.LockPath.{LockPath}
use Rattle.facts.specs.declared.locks.Minus.{Minus}
use Rattle.facts.specs.declared.locks.Minus.TheVariants.{All, Listed}
use Rattle.facts.specs.declared.locks.RelLocks.{RelLocks}
use Rattle.facts.specs.Locks.{is_less, is_same, has, with, union, has_held, held_ascend, held_are_sized, both, MinusBelow, Below, minus_ascends, locks_are_sized, minus_is_sized}
use Rattle.facts.specs.Paths.{is_sized}
use Rattle.facts.specs.Sets.{Orders}
use Rattle.facts.specs.Sets as sets
use Rattle.facts.proofs.HeldSets.{has_filter, filter_has, ascending_filter}
use Rattle.facts.proofs.ItemSets.{has-union}
use Rattle.facts.proofs.PathSets.{ascending_union}
use Rattle.facts.proofs.TotalOrders.{orders_paths}
use Rattle.lockset_flow.specs.Rounds.{meet_of, grows, Good}

-- ---- what unions have

pub or_cases : (a b : Bool) → (a || b) ≡ true → (a ≡ true) ⊎ (b ≡ true)
or_cases true b h = inl refl
or_cases false b h = inr h

pub or_first : (a b : Bool) → a ≡ true → (a || b) ≡ true
or_first a b h = cc

pub or_second : (a b : Bool) → b ≡ true → (a || b) ≡ true
or_second true b h = refl
or_second false b h = h

module _ {X : Type 0} (less same : X → X → Bool) (o : Orders less same) where
  pub in_union : (x : X) (xs ys : List X) → sets.has same x (sets.union less same xs ys) ≡ true → (sets.has same x xs ≡ true) ⊎ (sets.has same x ys ≡ true)
  in_union x xs ys h = or_cases (sets.has same x xs) (sets.has same x ys) (sym (has-union less same o x xs ys) ∙ h)

  pub union_left : (x : X) (xs ys : List X) → sets.has same x xs ≡ true → sets.has same x (sets.union less same xs ys) ≡ true
  union_left x xs ys h = has-union less same o x xs ys ∙ or_first (sets.has same x xs) (sets.has same x ys) h

  pub union_right : (x : X) (xs ys : List X) → sets.has same x ys ≡ true → sets.has same x (sets.union less same xs ys) ≡ true
  union_right x xs ys h = has-union less same o x xs ys ∙ or_second (sets.has same x xs) (sets.has same x ys) h

  pub union_mono : (xs ys zs : List X) → ((x : X) → sets.has same x xs ≡ true → sets.has same x ys ≡ true) → (x : X) → sets.has same x (sets.union less same xs zs) ≡ true → sets.has same x (sets.union less same ys zs) ≡ true
  union_mono xs ys zs h x i = ⊎_elim (λ j. union_left x ys zs (h x j)) (λ j. union_right x ys zs j) (in_union x xs zs i)

-- ---- below

minus_refl : (a : Minus) → MinusBelow a a
minus_refl All = tt
minus_refl (Listed a) = λ p h. h

minus_trans : (a b c : Minus) → MinusBelow a b → MinusBelow b c → MinusBelow a c
minus_trans All b c h k = tt
minus_trans (Listed a) All c h k = absurd h
minus_trans (Listed a) (Listed b) All h k = absurd k
minus_trans (Listed a) (Listed b) (Listed c) h k = λ p i. h p (k p i)

pub below_refl : (l : RelLocks) → Below l l
below_refl l = record { plus = λ p h. h; minus = minus_refl l.minus }

pub below_trans : (a b c : RelLocks) → Below a b → Below b c → Below a c
below_trans a b c h k = record { plus = λ p i. k.plus p (h.plus p i); minus = minus_trans a.minus b.minus c.minus h.minus k.minus }

both_down : (a b : Minus) → MinusBelow (both a b) a
both_down All b = tt
both_down (Listed a) All = tt
both_down (Listed a) (Listed b) = λ p h. union_left is_less is_same orders_paths p a b h

both_under : (a b : Minus) → MinusBelow (both a b) b
both_under All b = tt
both_under (Listed a) All = tt
both_under (Listed a) (Listed b) = λ p h. union_right is_less is_same orders_paths p a b h

both_most : (a b z : Minus) → MinusBelow z a → MinusBelow z b → MinusBelow z (both a b)
both_most a b All h k = tt
both_most All b (Listed z) h k = absurd h
both_most (Listed a) All (Listed z) h k = absurd k
both_most (Listed a) (Listed b) (Listed z) h k = λ p i. ⊎_elim (λ j. h p j) (λ j. k p j) (in_union is_less is_same orders_paths p a b i)

pub both_mono : (a b c : Minus) → MinusBelow a b → MinusBelow (both a c) (both b c)
both_mono All b c h = tt
both_mono (Listed a) All c h = absurd h
both_mono (Listed a) (Listed b) All h = tt
both_mono (Listed a) (Listed b) (Listed c) h = λ p i. union_more p i
  where
    union_more : (p : LockPath) → has p (union b c) ≡ true → has p (union a c) ≡ true
    union_more p i = ⊎_elim (λ j. union_left is_less is_same orders_paths p a c (h p j)) (λ j. union_right is_less is_same orders_paths p a c j) (in_union is_less is_same orders_paths p b c i)

pub meet_down : (l m : RelLocks) → Below (meet_of l m) l
meet_down l m = record { plus = λ p h. (has_filter (λ x. has_held x m.plus) p l.plus h).0; minus = both_down l.minus m.minus }

pub meet_under : (l m : RelLocks) → Below (meet_of l m) m
meet_under l m = record { plus = λ p h. (has_filter (λ x. has_held x m.plus) p l.plus h).1; minus = both_under l.minus m.minus }

pub meet_most : (l m z : RelLocks) → Below z l → Below z m → Below z (meet_of l m)
meet_most l m z h k = record { plus = λ p i. filter_has (λ x. has_held x m.plus) p l.plus (h.plus p i) (k.plus p i); minus = both_most l.minus m.minus z.minus h.minus k.minus }

-- ---- lengths

length_filter : {X : Type 0} (t : X → Bool) (ps : List X) → length (filter t ps) ≤ length ps
length_filter t [] = omega arith
length_filter t (p ∷ ps) = up (t p) (filter t ps) (length_filter t ps)
  where
    up : (b : Bool) (qs : List _) → length qs ≤ length ps → length (if b then p ∷ qs else qs) ≤ suc (length ps)
    up true qs h = omega arith
    up false qs h = omega arith

pub filter_same : {X : Type 0} (t : X → Bool) (ps : List X) → length ps ≤ length (filter t ps) → filter t ps ≡ ps
filter_same t [] h = refl
filter_same t (p ∷ ps) h = go (t p) h (λ k. filter_same t ps k)
  where
    go : (b : Bool) → suc (length ps) ≤ length (if b then p ∷ filter t ps else filter t ps) → (length ps ≤ length (filter t ps) → filter t ps ≡ ps) → (if b then p ∷ filter t ps else filter t ps) ≡ p ∷ ps
    go true k f = ap (λ z. p ∷ z) (f (omega arith))
    go false k f = absurd (omega (arith, length_filter t ps))

longer_with : (p : LockPath) (ps : List LockPath) → length ps ≤ length (with p ps)
longer_with p [] = omega arith
longer_with p (q ∷ qs) = go (is_less p q) (is_same p q) (longer_with p qs)
  where
    go : (l s : Bool) → length qs ≤ length (with p qs) → suc (length qs) ≤ length (if l then p ∷ q ∷ qs else if s then q ∷ qs else q ∷ with p qs)
    go true s h = omega arith
    go false true h = omega arith
    go false false h = omega arith

with_kept : (p : LockPath) (ps : List LockPath) → length (with p ps) ≤ length ps → with p ps ≡ ps
with_kept p [] h = absurd (omega arith)
with_kept p (q ∷ qs) h = go (is_less p q) (is_same p q) h (λ k. with_kept p qs k)
  where
    go : (l s : Bool) → length (if l then p ∷ q ∷ qs else if s then q ∷ qs else q ∷ with p qs) ≤ suc (length qs) → (length (with p qs) ≤ length qs → with p qs ≡ qs) → (if l then p ∷ q ∷ qs else if s then q ∷ qs else q ∷ with p qs) ≡ q ∷ qs
    go true s k f = absurd (omega arith)
    go false true k f = refl
    go false false k f = ap (λ z. q ∷ z) (f (omega arith))

longer_union : (ps qs : List LockPath) → length ps ≤ length (union ps qs)
longer_union ps [] = omega arith
longer_union ps (q ∷ qs) = omega (arith, longer_union ps qs, longer_with q (union ps qs))

union_same : (ps qs : List LockPath) → length (union ps qs) ≤ length ps → union ps qs ≡ ps
union_same ps [] h = refl
union_same ps (q ∷ qs) h =
    let k : length (union ps qs) ≤ length ps = omega (arith, longer_with q (union ps qs)) in
    let e = union_same ps qs k in
    with_kept q (union ps qs) (omega (arith, longer_union ps qs)) ∙ e

-- ---- what tells whether a meet is less

pub kept_same : (t : Held → Bool) (ps qs : List Held) (a b : ℕ) → a ≡ length ps → b ≡ length qs → qs ≡ filter t ps → nat_lt b a ≡ false → qs ≡ ps
kept_same t ps qs a b e f g h = let le : a ≤ b = grind (arith, h) in g ∙ filter_same t ps (omega (arith, ap length g))

pub joined_same : (m o : Minus) → grows m (both m o) ≡ false → both m o ≡ m
joined_same All o h = refl
joined_same (Listed ps) All h = cc
joined_same (Listed ps) (Listed qs) h = let le : length (union ps qs) ≤ length ps = grind (arith, h) in ap Listed (union_same ps qs le)

-- ---- order and sizes

pub and_both : (a b : Bool) → (a && b) ≡ true → (a ≡ true) × (b ≡ true)
and_both true b h = (refl, h)
and_both false b h = cc

pub both_and : (a b : Bool) → a ≡ true → b ≡ true → (a && b) ≡ true
both_and a b h k = cc

both_ascends : (m o : Minus) → minus_ascends m ≡ true → minus_ascends (both m o) ≡ true
both_ascends All o h = refl
both_ascends (Listed ps) All h = refl
both_ascends (Listed ps) (Listed qs) h = ascending_union ps qs h

-- a test that all items pass
module _ {X : Type 0} (less same : X → X → Bool) (t : X → Bool) where
  pub all_with : (x : X) (xs : List X) → t x ≡ true → list_all t xs ≡ true → list_all t (sets.with less same x xs) ≡ true
  all_with x [] h k = both_and (t x) true h refl
  all_with x (y ∷ ys) h k = go (less x y) (same x y) (all_with x ys h (and_both (t y) (list_all t ys) k).1)
    where
      go : (l s : Bool) → list_all t (sets.with less same x ys) ≡ true → list_all t (if l then x ∷ y ∷ ys else if s then y ∷ ys else y ∷ sets.with less same x ys) ≡ true
      go true s f = both_and (t x) (list_all t (y ∷ ys)) h k
      go false true f = k
      go false false f = both_and (t y) (list_all t (sets.with less same x ys)) (and_both (t y) (list_all t ys) k).0 f

  pub all_union : (xs ys : List X) → list_all t xs ≡ true → list_all t ys ≡ true → list_all t (sets.union less same xs ys) ≡ true
  all_union xs [] h k = h
  all_union xs (y ∷ ys) h k = let r = and_both (t y) (list_all t ys) k in all_with y (sets.union less same xs ys) r.0 (all_union xs ys h r.1)

pub all_filter : {X : Type 0} (t kept : X → Bool) (xs : List X) → list_all t xs ≡ true → list_all t (filter kept xs) ≡ true
all_filter t kept [] h = refl
all_filter t kept (x ∷ xs) h = let r = and_both (t x) (list_all t xs) h in go (kept x) r.0 (all_filter t kept xs r.1)
  where
    go : (b : Bool) → t x ≡ true → list_all t (filter kept xs) ≡ true → list_all t (if b then x ∷ filter kept xs else filter kept xs) ≡ true
    go true e f = both_and (t x) (list_all t (filter kept xs)) e f
    go false e f = f

pub both_sized : (m o : Minus) → minus_is_sized m ≡ true → minus_is_sized o ≡ true → minus_is_sized (both m o) ≡ true
both_sized All o h k = refl
both_sized (Listed ps) All h k = refl
both_sized (Listed ps) (Listed qs) h k = all_union is_less is_same is_sized ps qs h k

-- a meet keeps the order of the first, and the sizes of both
pub good_meet : (l m : RelLocks) → Good l → locks_are_sized m ≡ true → Good (meet_of l m)
good_meet l m g s =
    let a = and_both (held_ascend l.plus) (minus_ascends l.minus) g.0 in
    let b = and_both (held_are_sized l.plus) (minus_is_sized l.minus) g.1 in
    let c = and_both (held_are_sized m.plus) (minus_is_sized m.minus) s in
    let t : Held → Bool = λ h. has_held h m.plus in (
      both_and (held_ascend (filter t l.plus)) (minus_ascends (both l.minus m.minus)) (ascending_filter t l.plus a.0) (both_ascends l.minus m.minus a.1),
      both_and (held_are_sized (filter t l.plus)) (minus_is_sized (both l.minus m.minus)) (all_filter (λ (h : Held). is_sized h.path) t l.plus b.0) (both_sized l.minus m.minus b.1 c.1),
    )
