-- Paths, each held for reading and held for writing.
use Rattle.std.proofs.Common.{◌≡◌, ℕ, zero, suc, ◌+◌, ◌≤◌, true, ◌&&◌, List, [], ◌∷◌, ◌++◌, length, drop, refl, sym, ap, ◌∙◌, subst, arith, ⊎_elim, Some, add-one, append_assoc}
use Rattle.std.specs.Prelude.{slice_get}
use Rattle.std.proofs.lemmas.Bool.{and_from}
use Rattle.std.proofs.lemmas.Option.{same_Some}
use Rattle.sync_objects.specs.declared.mode.Mode.{Mode}
use Rattle.sync_objects.specs.declared.mode.Mode.TheVariants.{Read, Write}
use Rattle.facts.specs.declared.locks.Held.{Held}
use Rattle.facts.specs.declared.locks.LockPath.{LockPath}
use Rattle.facts.specs.Locks.{is_less, is_same, has, are_ascending, mode_less, held_less, has_held, held_ascend, held_as}
use Rattle.facts.proofs.TotalOrders.{orders_paths, orders_held}
use Rattle.lockset_summary.specs.Known.{in_both_ways}
use Rattle.lockset_summary.proofs.Sets.{or_first, or_second, has_cons, has_first, has_later, ascends_rest, first_least, ascends_from}

-- ---- what they have, and their order

pub has_in_both : (h : Held) (ps : List LockPath) → has_held h (in_both_ways ps) ≡ true → has h.path ps ≡ true
has_in_both h [] i = cc
has_in_both h (p ∷ ps) i = ⊎_elim
    (λ (e : h ≡ held_as Read p). has_first orders_paths h.path p ps (ap (λ (z : Held). z.path) e))
    (λ (j : has_held h (held_as Write p ∷ in_both_ways ps) ≡ true). ⊎_elim
    (λ (e : h ≡ held_as Write p). has_first orders_paths h.path p ps (ap (λ (z : Held). z.path) e))
    (λ (k : has_held h (in_both_ways ps) ≡ true). has_later orders_paths h.path p ps (has_in_both h ps k))
    (has_cons orders_held h (held_as Write p) (in_both_ways ps) j))
    (has_cons orders_held h (held_as Read p) (held_as Write p ∷ in_both_ways ps) i)

pub in_both_has : (mode : Mode) (p : LockPath) (ps : List LockPath) → has p ps ≡ true → has_held (held_as mode p) (in_both_ways ps) ≡ true
in_both_has mode p [] i = cc
in_both_has mode p (q ∷ ps) i = ⊎_elim
    (λ (e : p ≡ q). first mode e)
    (λ (j : has p ps ≡ true). has_later orders_held (held_as mode p) (held_as Read q) (held_as Write q ∷ in_both_ways ps) (has_later orders_held (held_as mode p) (held_as Write q) (in_both_ways ps) (in_both_has mode p ps j)))
    (has_cons orders_paths p q ps i)
  where
    first : (m : Mode) → p ≡ q → has_held (held_as m p) (held_as Read q ∷ held_as Write q ∷ in_both_ways ps) ≡ true
    first Read e = has_first orders_held (held_as Read p) (held_as Read q) (held_as Write q ∷ in_both_ways ps) (ap (held_as Read) e)
    first Write e = has_later orders_held (held_as Write p) (held_as Read q) (held_as Write q ∷ in_both_ways ps) (has_first orders_held (held_as Write p) (held_as Write q) (in_both_ways ps) (ap (held_as Write) e))

by_path : (p q : LockPath) (mode other : Mode) → is_less p q ≡ true → held_less (held_as mode p) (held_as other q) ≡ true
by_path p q mode other e = or_first (is_less p q) (is_same p q && mode_less mode other) e

by_mode : (p : LockPath) → held_less (held_as Read p) (held_as Write p) ≡ true
by_mode p = or_second (is_less p p) (is_same p p && true) (and_from (is_same p p) true (orders_paths.same_self p) refl)

pub both_ascend : (ps : List LockPath) → are_ascending ps ≡ true → held_ascend (in_both_ways ps) ≡ true
both_ascend [] h = refl
both_ascend (p ∷ ps) h = and_from (held_less (held_as Read p) (held_as Write p)) (held_ascend (held_as Write p ∷ in_both_ways ps)) (by_mode p) (ascends_from orders_held (held_as Write p) (in_both_ways ps) (λ q i. by_path p q.path Write q.mode (first_least orders_paths p ps q.path h (has_in_both q ps i))) (both_ascend ps (ascends_rest orders_paths p ps h)))

-- ---- made path by path

dropped_at : (ps : List LockPath) (k : ℕ) (p : LockPath) → slice_get ps k ≡ Some p → drop k ps ≡ p ∷ drop (suc k) ps
dropped_at [] k p h = cc
dropped_at (q ∷ qs) zero p h = ap (λ z. z ∷ qs) (same_Some q p h)
dropped_at (q ∷ qs) (suc k) p h = dropped_at qs k p h

pub both_more : (ps : List LockPath) (k : ℕ) (p : LockPath) (hs : List Held) → slice_get ps k ≡ Some p → hs ++ in_both_ways (drop k ps) ≡ in_both_ways ps → ((hs ++ held_as Read p ∷ []) ++ held_as Write p ∷ []) ++ in_both_ways (drop (k + 1) ps) ≡ in_both_ways ps
both_more ps k p hs at e = subst (λ n. ((hs ++ held_as Read p ∷ []) ++ held_as Write p ∷ []) ++ in_both_ways (drop n ps) ≡ in_both_ways ps) (sym (add-one k))
    (simp append_assoc (ap (λ z. hs ++ in_both_ways z) (sym (dropped_at ps k p at)) ∙ e))

pub both_all : (ps : List LockPath) (k : ℕ) (hs : List Held) → length ps ≤ k → hs ++ in_both_ways (drop k ps) ≡ in_both_ways ps → hs ≡ in_both_ways ps
both_all ps k hs le e = none hs ∙ ap (λ z. hs ++ in_both_ways z) (sym (past ps k le)) ∙ e
  where
    none : (xs : List Held) → xs ≡ xs ++ []
    none [] = refl
    none (x ∷ xs) = ap (λ z. x ∷ z) (none xs)

    past : (ps : List LockPath) (k : ℕ) → length ps ≤ k → drop k ps ≡ []
    past [] zero le = refl
    past [] (suc k) le = refl
    past (q ∷ qs) zero le = absurd (omega arith)
    past (q ∷ qs) (suc k) le = past qs k (omega arith)
