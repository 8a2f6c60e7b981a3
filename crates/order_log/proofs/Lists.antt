-- Facts of each item, of lists that are joined; pairs that ascend.
use Rattle.std.proofs.Common.{◌≡◌, ◌+◌, ◌≤◌, Bool, true, cond, List, [], ◌∷◌, ◌++◌, refl, arith}
use Rattle.std.specs.Prelude.{count_by}
use Rattle.std.specs.List.{AllByRecursion}
use Rattle.std.proofs.lemmas.List.Sums.{sum_by-append, sum_by_push, sum_by-cons}
use Rattle.profiles.specs.Profile.{Pair, AreAscending}
use Rattle.order_log.specs.Line.{ends_before}

pub All-append : {X : Type 0} (P : X → Type 0) (xs ys : List X) → AllByRecursion P xs → AllByRecursion P ys → AllByRecursion P (xs ++ ys)
All-append P [] ys h k = k
All-append P (x ∷ xs) ys h k = (h.0, All-append P xs ys h.1 k)

pub All_front : {X : Type 0} (P : X → Type 0) (xs ys : List X) → AllByRecursion P (xs ++ ys) → AllByRecursion P xs
All_front P [] ys h = tt
All_front P (x ∷ xs) ys h = (h.0, All_front P xs ys h.1)

pub All_back : {X : Type 0} (P : X → Type 0) (xs ys : List X) → AllByRecursion P (xs ++ ys) → AllByRecursion P ys
All_back P [] ys h = h
All_back P (x ∷ xs) ys h = All_back P xs ys h.1

pub count_push : {X : Type 0} (p : X → Bool) (xs : List X) (x : X) → count_by p (xs ++ x ∷ []) ≡ count_by p xs + cond (p x) 1 0
count_push p xs x = sum_by_push (λ y. cond (p y) 1 0) xs x

-- one item after the front is counted with it
pub count_front : {X : Type 0} (p : X → Bool) (xs : List X) (x : X) (ys : List X) → count_by p xs + cond (p x) 1 0 ≤ count_by p (xs ++ x ∷ ys)
count_front p xs x ys =
    let parts = sum_by-append (λ y. cond (p y) 1 0) xs (x ∷ ys) in
    let head = sum_by-cons (λ y. cond (p y) 1 0) x ys in
    omega arith

-- ---- pairs

-- pairs that ascend, and one more after them
pub AreAscending-push : (ps : List Pair) (p : Pair) → AreAscending ps → ends_before ps p ≡ true → AreAscending (ps ++ p ∷ [])
AreAscending-push [] p h last = (tt, tt)
AreAscending-push (q ∷ []) p h last = (last, (tt, tt))
AreAscending-push (q ∷ r ∷ rs) p h last = (h.0, AreAscending-push (r ∷ rs) p h.1 last)

pub ends_before_next : (ps : List Pair) (p : Pair) (qs : List Pair) → AreAscending (ps ++ p ∷ qs) → ends_before ps p ≡ true
ends_before_next [] p qs h = refl
ends_before_next (q ∷ []) p qs h = h.0
ends_before_next (q ∷ r ∷ rs) p qs h = ends_before_next (r ∷ rs) p qs h.1
