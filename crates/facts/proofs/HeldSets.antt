-- Sets of locks that are held: what they have, and that they ascend.
use Rattle.std.proofs.Common.{◌≡◌, Bool, true, false, List, [], ◌∷◌, refl, ap, ◌∙◌}
use Rattle.std.specs.Prelude.{◌||◌}
use Rattle.std.specs.List.{filter}
use Rattle.sync_objects.specs.declared.mode.Mode.{Mode}
use Rattle.sync_objects.specs.declared.mode.Mode.TheVariants.{Read, Write}
use Rattle.facts.specs.declared.locks.Held.{Held}
use Rattle.facts.specs.declared.locks.LockPath.{LockPath}
use Rattle.facts.specs.Locks.{held_less, held_same, has_held, with_held, union_held, held_ascend, held_as, taken}
use Rattle.facts.proofs.ItemSets as items
use Rattle.facts.proofs.TotalOrders.{orders_held}

pub held_irr : (h : Held) → held_less h h ≡ true → ⊥
held_irr h e = items.irr held_less held_same orders_held h e

pub held_trans : (h k l : Held) → held_less h k ≡ true → held_less k l ≡ true → held_less h l ≡ true
held_trans h k l d e = orders_held.along h k l d e

pub held_is : (h k : Held) → held_same h k ≡ true → h ≡ k
held_is h k e = orders_held.same_is h k e

pub held_self : (h : Held) → held_same h h ≡ true
held_self h = orders_held.same_self h

pub less_other : (h k : Held) → held_less h k ≡ false → held_same h k ≡ false → held_less k h ≡ true
less_other h k e f = items.less_other held_less held_same orders_held h k e f

pub has-with : (h k : Held) (ks : List Held) → has_held h (with_held k ks) ≡ (held_same h k || has_held h ks)
has-with h k ks = items.has-with held_less held_same orders_held h k ks

pub has-union : (h : Held) (ks ls : List Held) → has_held h (union_held ks ls) ≡ (has_held h ks || has_held h ls)
has-union h ks ls = items.has-union held_less held_same orders_held h ks ls

pub has_same : (h k : Held) (ks : List Held) → h ≡ k → has_held h (k ∷ ks) ≡ true
has_same h k ks e = items.has_same held_less held_same orders_held h k ks e

pub has_filter : (t : Held → Bool) (h : Held) (ks : List Held) → has_held h (filter t ks) ≡ true → (has_held h ks ≡ true) × (t h ≡ true)
has_filter t h ks e = items.has_filter held_less held_same orders_held t h ks e

pub filter_has : (t : Held → Bool) (h : Held) (ks : List Held) → has_held h ks ≡ true → t h ≡ true → has_held h (filter t ks) ≡ true
filter_has t h ks e f = items.filter_has held_less held_same orders_held t h ks e f

pub ascending_with : (h : Held) (ks : List Held) → held_ascend ks ≡ true → held_ascend (with_held h ks) ≡ true
ascending_with h ks e = items.ascending_with held_less held_same orders_held h ks e

pub ascending_union : (hs ks : List Held) → held_ascend hs ≡ true → held_ascend (union_held hs ks) ≡ true
ascending_union hs ks e = items.ascending_union held_less held_same orders_held hs ks e

pub ascending_filter : (t : Held → Bool) (ks : List Held) → held_ascend ks ≡ true → held_ascend (filter t ks) ≡ true
ascending_filter t ks e = items.ascending_filter held_less held_same orders_held t ks e

pub one_plus : (hs ks : List Held) → held_ascend hs ≡ true → held_ascend ks ≡ true → ((h : Held) → has_held h hs ≡ true → has_held h ks ≡ true) → ((h : Held) → has_held h ks ≡ true → has_held h hs ≡ true) → hs ≡ ks
one_plus hs ks a b f g = items.one_set held_less held_same orders_held hs ks a b f g

or_right : (a b : Bool) → b ≡ true → a || b ≡ true
or_right true b e = refl
or_right false b e = e

-- a lock that was taken stays with those that were there
pub has_taken : (mode : Mode) (p : LockPath) (h : Held) (ks : List Held) → has_held h ks ≡ true → has_held h (taken mode p ks) ≡ true
has_taken mode p h ks e = by mode (more (held_as Read p) ks e)
  where
    more : (k : Held) (ls : List Held) → has_held h ls ≡ true → has_held h (with_held k ls) ≡ true
    more k ls d = has-with h k ls ∙ or_right (held_same h k) (has_held h ls) d

    by : (m : Mode) → has_held h (with_held (held_as Read p) ks) ≡ true → has_held h (taken m p ks) ≡ true
    by Read d = d
    by Write d = more (held_as Write p) (with_held (held_as Read p) ks) d

pub ascending_taken : (mode : Mode) (p : LockPath) (ks : List Held) → held_ascend ks ≡ true → held_ascend (taken mode p ks) ≡ true
ascending_taken Read p ks e = ascending_with (held_as Read p) ks e
ascending_taken Write p ks e = ascending_with (held_as Write p) (with_held (held_as Read p) ks) (ascending_with (held_as Read p) ks e)
