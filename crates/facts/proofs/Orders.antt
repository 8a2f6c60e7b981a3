-- The orders of paths, guarded accesses and pairs are strict.
use Rattle.std.proofs.Common.{◌≡◌, ℕ, nat_lt, ◌&&◌, ◌||◌, ◌==◌, Bool, true, false, List, [], ◌∷◌, refl, sym, ap, ◌∙◌, subst, ◌⊎◌, inl, inr, arith}
use Rattle.facts.specs.declared.locks.Guarded.{Guarded}
use Rattle.facts.specs.declared.locks.Held.{Held}
use Rattle.facts.specs.declared.locks.LockPath.{LockPath}
use Rattle.facts.specs.declared.locks.Minus.{Minus}
use Rattle.facts.specs.declared.locks.Minus.TheVariants.{All, Listed}
use Rattle.facts.specs.declared.locks.RelLocks.{RelLocks}
use Rattle.facts.specs.declared.pair.AccessAt.{AccessAt}
use Rattle.facts.specs.declared.pair.Pair.{Pair}
use Rattle.rr_base.specs.declared.layout.Place.{Place}
use Rattle.facts.specs.Locks.{is_less, is_same, held_less, held_same}
use Rattle.facts.specs.Pairs.{pair_less, place_less, place_same, access_less, access_same}
use Rattle.facts.specs.Summaries.{paths_same, plus_less, plus_same, minus_less, locks_less, first_less, number_of, locks_of, guarded_less}
use Rattle.facts.proofs.ItemSets as items
use Rattle.facts.proofs.TotalOrders.{orders_paths, orders_held}

-- ---- one order after another

or_cases : (a b : Bool) → a || b ≡ true → (a ≡ true) ⊎ (b ≡ true)
or_cases true b e = inl refl
or_cases false b e = inr e

both_cases : (a b : Bool) → a && b ≡ true → (a ≡ true) × (b ≡ true)
both_cases true b e = (refl, e)
both_cases false b e = absurd (cc e)

or_left : (a b : Bool) → a ≡ true → a || b ≡ true
or_left true b e = refl
or_left false b e = absurd (cc e)

or_right : (a b c : Bool) → b ≡ true → c ≡ true → a || (b && c) ≡ true
or_right true b c e f = refl
or_right false true c e f = f
or_right false false c e f = absurd (cc e)

-- by the first order, or the second where the first has them the same: x to y, y to z, and x to z
then_trans : (l s m l2 s2 m2 l3 s3 m3 : Bool) → (l ≡ true → l2 ≡ true → l3 ≡ true) → (l ≡ true → s2 ≡ true → l3 ≡ true) → (s ≡ true → l2 ≡ true → l3 ≡ true) → (s ≡ true → s2 ≡ true → s3 ≡ true) → (m ≡ true → m2 ≡ true → m3 ≡ true) → l || (s && m) ≡ true → l2 || (s2 && m2) ≡ true → l3 || (s3 && m3) ≡ true
then_trans l s m l2 s2 m2 l3 s3 m3 ll ls sl ss mm e f = go (or_cases l (s && m) e) (or_cases l2 (s2 && m2) f)
  where
    go : (l ≡ true) ⊎ (s && m ≡ true) → (l2 ≡ true) ⊎ (s2 && m2 ≡ true) → l3 || (s3 && m3) ≡ true
    go (inl a) (inl b) = or_left l3 (s3 && m3) (ll a b)
    go (inl a) (inr b) = or_left l3 (s3 && m3) (ls a (both_cases s2 m2 b).0)
    go (inr a) (inl b) = or_left l3 (s3 && m3) (sl (both_cases s m a).0 b)
    go (inr a) (inr b) = or_right l3 s3 m3 (ss (both_cases s m a).0 (both_cases s2 m2 b).0) (mm (both_cases s m a).1 (both_cases s2 m2 b).1)

then_irr : (l s m : Bool) → (l ≡ true → ⊥) → (m ≡ true → ⊥) → l || (s && m) ≡ true → ⊥
then_irr l s m a b e = go (or_cases l (s && m) e)
  where
    go : (l ≡ true) ⊎ (s && m ≡ true) → ⊥
    go (inl d) = a d
    go (inr d) = b (both_cases s m d).1

-- ---- paths

pub path_irr : (p : LockPath) → is_less p p ≡ true → ⊥
path_irr p e = items.irr is_less is_same orders_paths p e

pub path_trans : (p q r : LockPath) → is_less p q ≡ true → is_less q r ≡ true → is_less p r ≡ true
path_trans p q r d e = orders_paths.along p q r d e

pub path_same : (p q : LockPath) → is_same p q ≡ true → p ≡ q
path_same p q e = orders_paths.same_is p q e

pub path_self : (p : LockPath) → is_same p p ≡ true
path_self p = orders_paths.same_self p

pub paths_same_eq : (ps qs : List LockPath) → paths_same ps qs ≡ true → ps ≡ qs
paths_same_eq ps qs e = items.same_lists is_less is_same orders_paths ps qs e

pub paths_self : (ps : List LockPath) → paths_same ps ps ≡ true
paths_self ps = items.list_self is_less is_same orders_paths ps

-- ---- locks

pub plus_same_eq : (hs ks : List Held) → plus_same hs ks ≡ true → hs ≡ ks
plus_same_eq hs ks e = items.same_lists held_less held_same orders_held hs ks e

pub plus_self : (hs : List Held) → plus_same hs hs ≡ true
plus_self hs = items.list_self held_less held_same orders_held hs

minus_irr : (m : Minus) → minus_less m m ≡ true → ⊥
minus_irr All e = absurd (cc e)
minus_irr (Listed ps) e = items.list_irr is_less is_same orders_paths ps e

minus_trans : (l m n : Minus) → minus_less l m ≡ true → minus_less m n ≡ true → minus_less l n ≡ true
minus_trans All m n d e = absurd (cc d)
minus_trans (Listed ps) All n d e = absurd (cc e)
minus_trans (Listed ps) (Listed qs) All d e = refl
minus_trans (Listed ps) (Listed qs) (Listed rs) d e = items.list_trans is_less is_same orders_paths ps qs rs d e

locks_irr : (l : RelLocks) → locks_less l l ≡ true → ⊥
locks_irr l e = then_irr (plus_less l.plus l.plus) (plus_same l.plus l.plus) (minus_less l.minus l.minus) (items.list_irr held_less held_same orders_held l.plus) (minus_irr l.minus) e

locks_trans : (l m n : RelLocks) → locks_less l m ≡ true → locks_less m n ≡ true → locks_less l n ≡ true
locks_trans l m n d e =
    then_trans (plus_less l.plus m.plus) (plus_same l.plus m.plus) (minus_less l.minus m.minus) (plus_less m.plus n.plus) (plus_same m.plus n.plus) (minus_less m.minus n.minus) (plus_less l.plus n.plus) (plus_same l.plus n.plus) (minus_less l.minus n.minus)
    (items.list_trans held_less held_same orders_held l.plus m.plus n.plus)
    (λ a b. subst (λ x. plus_less l.plus x ≡ true) (plus_same_eq m.plus n.plus b) a)
    (λ a b. subst (λ x. plus_less x n.plus ≡ true) (sym (plus_same_eq l.plus m.plus a)) b)
    (λ a b. subst (λ x. plus_same l.plus x ≡ true) (plus_same_eq m.plus n.plus b) a)
    (minus_trans l.minus m.minus n.minus) d e

-- ---- guarded accesses

first_irr : (x : ℕ) (b : Bool) → (b ≡ true → ⊥) → first_less x x b ≡ true → ⊥
first_irr x b h e = then_irr (nat_lt x x) (x == x) b (λ d. absurd (grind (arith, d))) h e

first_trans : (x y z : ℕ) (b c d : Bool) → (b ≡ true → c ≡ true → d ≡ true) → first_less x y b ≡ true → first_less y z c ≡ true → first_less x z d ≡ true
first_trans x y z b c d h e f =
    then_trans (nat_lt x y) (x == y) b (nat_lt y z) (y == z) c (nat_lt x z) (x == z) d
    (λ p q. grind (arith, p, q)) (λ p q. grind (arith, p, q)) (λ p q. grind (arith, p, q)) (λ p q. grind (arith, p, q)) h e f

pub guarded_irr : (a : Guarded) → guarded_less a a ≡ true → ⊥
guarded_irr a e = first_irr a.function _ (first_irr a.instr _ (first_irr (number_of a.store) _ (locks_irr (locks_of a)))) e

pub guarded_trans : (a b c : Guarded) → guarded_less a b ≡ true → guarded_less b c ≡ true → guarded_less a c ≡ true
guarded_trans a b c d e =
    first_trans a.function b.function c.function _ _ _ (first_trans a.instr b.instr c.instr _ _ _ (first_trans (number_of a.store) (number_of b.store) (number_of c.store) _ _ _ (locks_trans (locks_of a) (locks_of b) (locks_of c)))) d e

-- ---- pairs

place_trans : (p q r : Place) → place_less p q ≡ true → place_less q r ≡ true → place_less p r ≡ true
place_trans p q r d e = grind (arith, d, e)

place_on_left : (p q r : Place) → place_less p q ≡ true → place_same q r ≡ true → place_less p r ≡ true
place_on_left p q r d e = grind (arith, d, e)

place_on_right : (p q r : Place) → place_same p q ≡ true → place_less q r ≡ true → place_less p r ≡ true
place_on_right p q r d e = grind (arith, d, e)

places_same : (p q r : Place) → place_same p q ≡ true → place_same q r ≡ true → place_same p r ≡ true
places_same p q r d e = grind (arith, d, e)

access_trans : (a b c : AccessAt) → access_less a b ≡ true → access_less b c ≡ true → access_less a c ≡ true
access_trans a b c d e = grind (arith, d, e)

access_on_left : (a b c : AccessAt) → access_less a b ≡ true → access_same b c ≡ true → access_less a c ≡ true
access_on_left a b c d e = grind (arith, d, e)

access_on_right : (a b c : AccessAt) → access_same a b ≡ true → access_less b c ≡ true → access_less a c ≡ true
access_on_right a b c d e = grind (arith, d, e)

accesses_same : (a b c : AccessAt) → access_same a b ≡ true → access_same b c ≡ true → access_same a c ≡ true
accesses_same a b c d e = grind (arith, d, e)

place_irr : (p : Place) → place_less p p ≡ true → ⊥
place_irr p e = absurd (grind (arith, e))

access_irr : (a : AccessAt) → access_less a a ≡ true → ⊥
access_irr a e = absurd (grind (arith, e))

pub pair_irr : (v : Pair) → pair_less v v ≡ true → ⊥
pair_irr v e = then_irr (place_less v.place v.place) (place_same v.place v.place) _ (place_irr v.place) (λ d. then_irr (access_less v.first v.first) (access_same v.first v.first) _ (access_irr v.first) (access_irr v.second) d) e

pub pair_trans : (v w x : Pair) → pair_less v w ≡ true → pair_less w x ≡ true → pair_less v x ≡ true
pair_trans v w x d e =
    then_trans (place_less v.place w.place) (place_same v.place w.place) (accesses v w) (place_less w.place x.place) (place_same w.place x.place) (accesses w x) (place_less v.place x.place) (place_same v.place x.place) (accesses v x)
    (place_trans v.place w.place x.place) (place_on_left v.place w.place x.place) (place_on_right v.place w.place x.place) (places_same v.place w.place x.place)
    (λ f g. then_trans (access_less v.first w.first) (access_same v.first w.first) (access_less v.second w.second) (access_less w.first x.first) (access_same w.first x.first) (access_less w.second x.second) (access_less v.first x.first) (access_same v.first x.first) (access_less v.second x.second)
    (access_trans v.first w.first x.first) (access_on_left v.first w.first x.first) (access_on_right v.first w.first x.first) (accesses_same v.first w.first x.first) (access_trans v.second w.second x.second) f g)
    d e
  where
    accesses : Pair → Pair → Bool
    accesses p q = access_less p.first q.first || (access_same p.first q.first && access_less p.second q.second)
