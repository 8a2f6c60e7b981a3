-- What a caller knows after a call rises with what is known at the called function's exit.
use Rattle.std.proofs.Common.{◌≡◌, ◌≤◌, ℕ, zero, suc, Bool, true, false, not, List, [], ◌∷◌, length, refl, sym, ap, ◌∙◌, subst, arith, ⊎_elim, Option, Some, None}
use Rattle.std.specs.Prelude.{if◌then◌else◌, slice_get}
use Rattle.std.proofs.lemmas.Bool.{and_parts, and_from}
use Rattle.std.proofs.lemmas.Option.{same_Some, none-some, slice_get_past}
use Rattle.flow_code.specs.declared.act.Act.{Act}
use Rattle.flow_code.specs.declared.act.Act.TheVariants as act
use Rattle.flow_code.specs.declared.code.Function.{Function}
use Rattle.facts.specs.declared.locks.Held.{Held}
use Rattle.facts.specs.declared.locks.LockPath.{LockPath}
use Rattle.facts.specs.declared.locks.Minus.{Minus}
use Rattle.facts.specs.declared.locks.Minus.TheVariants.{All, Listed}
use Rattle.facts.specs.declared.locks.RelLocks.{RelLocks}
use Rattle.facts.specs.Paths.{names_cell, substituted, may_be}
use Rattle.facts.specs.Locks.{has, with, has_held, with_held, held_as, is_clear, without, both, and_held, plus_seen, minus_with, listed_seen, minus_seen, through, actuals_at, after_call, after, MinusBelow, Below}
use Rattle.lockset_summary.specs.Exits.{ExitsBelow}
use Rattle.facts.proofs.TotalOrders.{orders_paths, orders_held}
use Rattle.lockset_summary.proofs.Sets.{has_cons, has_first, has_later, has_with, with_has, with_keeps, has_union, union_left, union_right, has_filter, filter_has}

-- ---- the order of what is known

pub minus_refl : (a : Minus) → MinusBelow a a
minus_refl All = tt
minus_refl (Listed a) = λ p h. h

pub minus_trans : (a b c : Minus) → MinusBelow a b → MinusBelow b c → MinusBelow a c
minus_trans All b c h k = tt
minus_trans (Listed a) All c h k = absurd h
minus_trans (Listed a) (Listed b) All h k = absurd k
minus_trans (Listed a) (Listed b) (Listed c) h k = λ p i. h p (k p i)

pub below_refl : (l : RelLocks) → Below l l
below_refl l = record { plus = λ p h. h; minus = minus_refl l.minus }

pub below_trans : (a b c : RelLocks) → Below a b → Below b c → Below a c
below_trans a b c h k = record { plus = λ p i. k.plus p (h.plus p i); minus = minus_trans a.minus b.minus c.minus h.minus k.minus }

-- ---- locks that are held

-- the locks of the called function that are seen
seen_in : (actuals : List (Option LockPath)) (hs : List Held) (h : Held) (q : LockPath) → has_held h hs ≡ true → substituted h.path actuals ≡ Some q → names_cell q ≡ true → has_held (held_as h.mode q) (plus_seen actuals hs) ≡ true
seen_in actuals [] h q i e n = cc
seen_in actuals (r ∷ rs) h q i e n = ⊎_elim
    (λ (z : h ≡ r). subst (λ (y : Held). has_held (held_as y.mode q) (plus_seen actuals (r ∷ rs)) ≡ true) (sym z) (first (substituted r.path actuals) (ap (λ (y : Held). substituted y.path actuals) (sym z) ∙ e)))
    (λ (z : has_held h rs ≡ true). later (substituted r.path actuals) (seen_in actuals rs h q z e n))
    (has_cons orders_held h r rs i)
  where
    put : (b : Bool) (y : LockPath) (ss : List Held) → has_held (held_as h.mode q) ss ≡ true → has_held (held_as h.mode q) (if b then with_held (held_as r.mode y) ss else ss) ≡ true
    put true y ss k = with_keeps orders_held (held_as h.mode q) (held_as r.mode y) ss k
    put false y ss k = k

    later : (o : Option LockPath) → has_held (held_as h.mode q) (plus_seen actuals rs) ≡ true → has_held (held_as h.mode q) (and_held r.mode o (plus_seen actuals rs)) ≡ true
    later None k = k
    later (Some y) k = put (names_cell y) y (plus_seen actuals rs) k

    put_first : (b : Bool) (y : LockPath) (ss : List Held) → y ≡ q → b ≡ true → has_held (held_as r.mode q) (if b then with_held (held_as r.mode y) ss else ss) ≡ true
    put_first true y ss k t = subst (λ z. has_held (held_as r.mode z) (with_held (held_as r.mode y) ss) ≡ true) k (with_has orders_held (held_as r.mode y) ss)
    put_first false y ss k t = cc

    first : (o : Option LockPath) → o ≡ Some q → has_held (held_as r.mode q) (and_held r.mode o (plus_seen actuals rs)) ≡ true
    first None k = absurd (none-some q k)
    first (Some y) k = let z = same_Some y q k in put_first (names_cell y) y (plus_seen actuals rs) z (subst (λ w. names_cell w ≡ true) (sym z) n)

-- a set that has all that is seen of each lock
seen_within : (actuals : List (Option LockPath)) (hs ks : List Held) → ((h : Held) (q : LockPath) → has_held h hs ≡ true → substituted h.path actuals ≡ Some q → names_cell q ≡ true → has_held (held_as h.mode q) ks ≡ true) → (x : Held) → has_held x (plus_seen actuals hs) ≡ true → has_held x ks ≡ true
seen_within actuals [] ks f x i = cc
seen_within actuals (h ∷ hs) ks f x i = go (substituted h.path actuals) refl i (seen_within actuals hs ks (λ a q j. f a q (has_later orders_held a h hs j)) x)
  where
    put : (b : Bool) (y : LockPath) → substituted h.path actuals ≡ Some y → names_cell y ≡ b → has_held x (if b then with_held (held_as h.mode y) (plus_seen actuals hs) else plus_seen actuals hs) ≡ true → (has_held x (plus_seen actuals hs) ≡ true → has_held x ks ≡ true) → has_held x ks ≡ true
    put true y e n k rest = ⊎_elim (λ (z : x ≡ held_as h.mode y). subst (λ w. has_held w ks ≡ true) (sym z) (f h y (has_first orders_held h h hs refl) e n)) rest (has_with orders_held x (held_as h.mode y) (plus_seen actuals hs) k)
    put false y e n k rest = rest k

    go : (o : Option LockPath) → substituted h.path actuals ≡ o → has_held x (and_held h.mode o (plus_seen actuals hs)) ≡ true → (has_held x (plus_seen actuals hs) ≡ true → has_held x ks ≡ true) → has_held x ks ≡ true
    go None e k rest = rest k
    go (Some y) e k rest = put (names_cell y) y e refl k rest

pub plus_seen_rises : (actuals : List (Option LockPath)) (hs ks : List Held) → ((h : Held) → has_held h hs ≡ true → has_held h ks ≡ true) → (x : Held) → has_held x (plus_seen actuals hs) ≡ true → has_held x (plus_seen actuals ks) ≡ true
plus_seen_rises actuals hs ks f = seen_within actuals hs (plus_seen actuals ks) (λ h q i e n. seen_in actuals ks h q (f h i) e n)

-- ---- paths that may have been given back

-- what a set of paths says of one that is seen
abbrev pub SeenIn : Minus → Option LockPath → Type 0
SeenIn All o = Unit {0}
SeenIn (Listed rs) None = ⊥
SeenIn (Listed rs) (Some q) = names_cell q ≡ true → has q rs ≡ true

listed_in : (actuals : List (Option LockPath)) (ps : List LockPath) (p : LockPath) → has p ps ≡ true → SeenIn (listed_seen actuals ps) (substituted p actuals)
listed_in actuals [] p h = cc
listed_in actuals (r ∷ rs) p h = ⊎_elim
    (λ (z : p ≡ r). subst (λ y. SeenIn (minus_with (substituted r actuals) (listed_seen actuals rs)) (substituted y actuals)) (sym z) (first (substituted r actuals) (listed_seen actuals rs)))
    (λ (z : has p rs ≡ true). later (substituted r actuals) (substituted p actuals) (listed_seen actuals rs) (listed_in actuals rs p z))
    (has_cons orders_paths p r rs h)
  where
    put_first : (b : Bool) (q : LockPath) (ss : List LockPath) → b ≡ true → has q (if b then with q ss else ss) ≡ true
    put_first true q ss t = with_has orders_paths q ss
    put_first false q ss t = cc

    first : (o : Option LockPath) (m : Minus) → SeenIn (minus_with o m) o
    first None m = tt
    first (Some q) All = tt
    first (Some q) (Listed ss) = λ n. put_first (names_cell q) q ss n

    put : (b : Bool) (q y : LockPath) (ss : List LockPath) → has q ss ≡ true → has q (if b then with y ss else ss) ≡ true
    put true q y ss k = with_keeps orders_paths q y ss k
    put false q y ss k = k

    later : (o t : Option LockPath) (m : Minus) → SeenIn m t → SeenIn (minus_with o m) t
    later None t m k = tt
    later (Some y) t All k = tt
    later (Some y) None (Listed ss) k = k
    later (Some y) (Some q) (Listed ss) k = λ n. put (names_cell y) q y ss (k n)

listed_within : (actuals : List (Option LockPath)) (ps : List LockPath) (m : Minus) → ((p : LockPath) → has p ps ≡ true → SeenIn m (substituted p actuals)) → MinusBelow m (listed_seen actuals ps)
listed_within actuals [] All f = tt
listed_within actuals [] (Listed rs) f = λ p h. cc
listed_within actuals (p ∷ ps) m f = go m (substituted p actuals) (listed_seen actuals ps) (f p (has_first orders_paths p p ps refl)) (listed_within actuals ps m (λ q h. f q (has_later orders_paths q p ps h)))
  where
    put : (b : Bool) (q : LockPath) (rs ss : List LockPath) → names_cell q ≡ b → (names_cell q ≡ true → has q rs ≡ true) → ((x : LockPath) → has x ss ≡ true → has x rs ≡ true) → (x : LockPath) → has x (if b then with q ss else ss) ≡ true → has x rs ≡ true
    put true q rs ss e n rest x h = ⊎_elim (λ (z : x ≡ q). subst (λ w. has w rs ≡ true) (sym z) (n e)) (rest x) (has_with orders_paths x q ss h)
    put false q rs ss e n rest x h = rest x h

    go : (m : Minus) (o : Option LockPath) (l : Minus) → SeenIn m o → MinusBelow m l → MinusBelow m (minus_with o l)
    go All o l s k = tt
    go (Listed rs) None l s k = s
    go (Listed rs) (Some q) All s k = k
    go (Listed rs) (Some q) (Listed ss) s k = put (names_cell q) q rs ss refl s k

pub minus_seen_rises : (actuals : List (Option LockPath)) (m n : Minus) → MinusBelow m n → MinusBelow (minus_seen actuals m) (minus_seen actuals n)
minus_seen_rises actuals All n h = tt
minus_seen_rises actuals (Listed ps) All h = absurd h
minus_seen_rises actuals (Listed ps) (Listed qs) h = listed_within actuals qs (listed_seen actuals ps) (λ p k. listed_in actuals ps p (h p k))

clear_rises : (ps qs : List LockPath) (x : LockPath) → ((p : LockPath) → has p qs ≡ true → has p ps ≡ true) → is_clear ps x ≡ true → is_clear qs x ≡ true
clear_rises ps [] x f h = refl
clear_rises ps (q ∷ qs) x f h = and_from (not (may_be x q)) (is_clear qs x) (one ps q (f q (has_first orders_paths q q qs refl)) h) (clear_rises ps qs x (λ p i. f p (has_later orders_paths p q qs i)) h)
  where
    one : (ps : List LockPath) (q : LockPath) → has q ps ≡ true → is_clear ps x ≡ true → not (may_be x q) ≡ true
    one [] q i k = cc
    one (p ∷ ps) q i k = let e = and_parts (not (may_be x p)) (is_clear ps x) k in ⊎_elim (λ (z : q ≡ p). subst (λ y. not (may_be x y) ≡ true) (sym z) e.0) (λ (z : has q ps ≡ true). one ps q z e.1) (has_cons orders_paths q p ps i)

without_rises : (m n : Minus) (hs : List Held) → MinusBelow m n → (h : Held) → has_held h (without m hs) ≡ true → has_held h (without n hs) ≡ true
without_rises All n hs b h i = cc
without_rises (Listed ps) All hs b h i = absurd b
without_rises (Listed ps) (Listed qs) hs b h i =
    let r = has_filter orders_held (λ (z : Held). is_clear ps z.path) h hs i in
    filter_has orders_held (λ (z : Held). is_clear qs z.path) h hs r.0 (clear_rises ps qs h.path b r.1)

both_rises : (a m n : Minus) → MinusBelow m n → MinusBelow (both a m) (both a n)
both_rises All m n h = tt
both_rises (Listed a) All n h = tt
both_rises (Listed a) (Listed ps) All h = absurd h
both_rises (Listed a) (Listed ps) (Listed qs) h = λ p i. ⊎_elim (λ z. union_left orders_paths p a ps z) (λ z. union_right orders_paths p a ps (h p z)) (has_union orders_paths p a qs i)

-- ---- a call

pub through_rises : (actuals : List (Option LockPath)) (e g l : RelLocks) → Below e g → Below (through actuals e l) (through actuals g l)
through_rises actuals e g l h =
    let m = minus_seen_rises actuals e.minus g.minus h.minus in
    record {
      plus = λ p i. ⊎_elim
          (λ z. union_left orders_held p (without (minus_seen actuals g.minus) l.plus) (plus_seen actuals g.plus) (without_rises (minus_seen actuals e.minus) (minus_seen actuals g.minus) l.plus m p z))
          (λ z. union_right orders_held p (without (minus_seen actuals g.minus) l.plus) (plus_seen actuals g.plus) (plus_seen_rises actuals e.plus g.plus h.plus p z))
          (has_union orders_held p (without (minus_seen actuals e.minus) l.plus) (plus_seen actuals e.plus) i);
      minus = both_rises l.minus (minus_seen actuals e.minus) (minus_seen actuals g.minus) m;
    }

call_rises : (actuals : List (Option LockPath)) (o t : Option RelLocks) (l : RelLocks) → ((e : RelLocks) → o ≡ Some e → t ≡ None → ⊥) → ((e : RelLocks) → o ≡ None → t ≡ Some e → ⊥) → ((e g : RelLocks) → o ≡ Some e → t ≡ Some g → Below e g) → Below (after_call actuals o l) (after_call actuals t l)
call_rises actuals None None l f g h = below_refl l
call_rises actuals None (Some t) l f g h = absurd (g t refl refl)
call_rises actuals (Some o) None l f g h = absurd (f o refl refl)
call_rises actuals (Some o) (Some t) l f g h = through_rises actuals o t l (h o t refl refl)

pub after_rises : (es gs : List RelLocks) (f : Function) (k : ℕ) (a : Act) (l : RelLocks) → ExitsBelow es gs → Below (after es f k a l) (after gs f k a l)
after_rises es gs f k (act.Call g arguments into) l h = call_rises (actuals_at f k arguments) (slice_get es g) (slice_get gs g) l
    (λ e i j. absurd (none-some e (sym (slice_get_past es g (omega (arith, h.long, outside gs g j))) ∙ i)))
    (λ e i j. absurd (none-some e (sym (slice_get_past gs g (omega (arith, h.long, outside es g i))) ∙ j)))
    (λ e t i j. h.each g e t i j)
  where
    outside : (xs : List RelLocks) (i : ℕ) → slice_get xs i ≡ None → length xs ≤ i
    outside [] i h = omega arith
    outside (x ∷ xs) zero h = cc
    outside (x ∷ xs) (suc i) h = let e = outside xs i h in omega arith
after_rises es gs f k (act.Library c arguments into) l h = below_refl _
after_rises es gs f k (act.Compute into w) l h = below_refl _
after_rises es gs f k (act.Alloc into site size) l h = below_refl _
after_rises es gs f k (act.LoadCell into through) l h = below_refl _
after_rises es gs f k (act.StoreCell through from) l h = below_refl _
after_rises es gs f k act.Mark l h = below_refl _
after_rises es gs f k (act.Jump to) l h = below_refl _
after_rises es gs f k (act.Branch on then_at else_at) l h = below_refl _
after_rises es gs f k (act.Return value) l h = below_refl _
after_rises es gs f k (act.Take n) l h = below_refl _
after_rises es gs f k (act.Give n) l h = below_refl _
