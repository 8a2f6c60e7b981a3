-- Sets of paths: what they have, and that they ascend.
use Rattle.std.proofs.Common.{◌≡◌, Bool, true, false, List, ◌∷◌}
use Rattle.std.specs.Prelude.{◌||◌}
use Rattle.std.specs.List.{filter}
use Rattle.facts.specs.declared.locks.LockPath.{LockPath}
use Rattle.facts.specs.Locks.{is_less, is_same, has, with, union, are_ascending}
use Rattle.facts.proofs.ItemSets as items
use Rattle.facts.proofs.TotalOrders.{orders_paths}

pub less_other : (p q : LockPath) → is_less p q ≡ false → is_same p q ≡ false → is_less q p ≡ true
less_other p q h k = items.less_other is_less is_same orders_paths p q h k

pub has-with : (p q : LockPath) (qs : List LockPath) → has p (with q qs) ≡ (is_same p q || has p qs)
has-with p q qs = items.has-with is_less is_same orders_paths p q qs

pub has-union : (p : LockPath) (ps qs : List LockPath) → has p (union ps qs) ≡ (has p ps || has p qs)
has-union p ps qs = items.has-union is_less is_same orders_paths p ps qs

pub has_same : (p q : LockPath) (qs : List LockPath) → p ≡ q → has p (q ∷ qs) ≡ true
has_same p q qs e = items.has_same is_less is_same orders_paths p q qs e

pub has_filter : (t : LockPath → Bool) (p : LockPath) (qs : List LockPath) → has p (filter t qs) ≡ true → (has p qs ≡ true) × (t p ≡ true)
has_filter t p qs h = items.has_filter is_less is_same orders_paths t p qs h

pub filter_has : (t : LockPath → Bool) (p : LockPath) (qs : List LockPath) → has p qs ≡ true → t p ≡ true → has p (filter t qs) ≡ true
filter_has t p qs h k = items.filter_has is_less is_same orders_paths t p qs h k

pub ascending_with : (p : LockPath) (ps : List LockPath) → are_ascending ps ≡ true → are_ascending (with p ps) ≡ true
ascending_with p ps h = items.ascending_with is_less is_same orders_paths p ps h

pub ascending_union : (ps qs : List LockPath) → are_ascending ps ≡ true → are_ascending (union ps qs) ≡ true
ascending_union ps qs h = items.ascending_union is_less is_same orders_paths ps qs h

pub one_paths : (ps qs : List LockPath) → are_ascending ps ≡ true → are_ascending qs ≡ true → ((p : LockPath) → has p ps ≡ true → has p qs ≡ true) → ((p : LockPath) → has p qs ≡ true → has p ps ≡ true) → ps ≡ qs
one_paths ps qs a b f g = items.one_set is_less is_same orders_paths ps qs a b f g
