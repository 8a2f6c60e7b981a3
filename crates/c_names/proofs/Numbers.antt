-- The number of a type: among what a list shows, and among two lists, one after the other.
use Rattle.std.proofs.Common.{◌≡◌, ℕ, ◌+◌, nat_lt, length, Bool, not, if◌then◌else◌, List, [], ◌∷◌, ◌++◌, map, position, Option, Some, None, refl, ap, sym, ◌∙◌, arith, length-append}
use Rattle.std.proofs.lemmas.Bool.Decides.{nat_tests}
use Rattle.std.proofs.lemmas.List.{length-map}
use Rattle.std.proofs.lemmas.List.Folds.{prefix_len-append}
use Rattle.std.proofs.lemmas.List.Sums.{prefix_len-le-length}
use Rattle.std.specs.List.{position_or_len}

module _ {X Y : Type 0} (f : X → Y) (p : Y → Bool) where
  passed_over : (xs : List X) → position_or_len (λ x. p (f x)) xs ≡ position_or_len p (map f xs)
  passed_over [] = refl
  passed_over (x ∷ xs) = ap (λ i. if not (p (f x)) then 1 + i else 0) (passed_over xs)

  pub position-map : (xs : List X) → position (λ x. p (f x)) xs ≡ position p (map f xs)
  position-map xs =
      ap (λ i. if nat_lt i (length xs) then Some i else None) (passed_over xs)
      ∙ ap (λ n. if nat_lt (position_or_len p (map f xs)) n then Some (position_or_len p (map f xs)) else None) (sym (length-map xs f))

module _ {X : Type 0} (p : X → Bool) (xs ys : List X) where
  pub position_first : (k : ℕ) → position p xs ≡ Some k → position p (xs ++ ys) ≡ Some k
  position_first k e = grind (arith, nat_tests, e, prefix_len-append (λ x. not (p x)) xs ys, length-append xs ys, prefix_len-le-length (λ x. not (p x)) xs)

  pub position_next : (k : ℕ) → position p xs ≡ None → position p ys ≡ Some k → position p (xs ++ ys) ≡ Some (length xs + k)
  position_next k none e = grind (arith, nat_tests, none, e, prefix_len-append (λ x. not (p x)) xs ys, length-append xs ys, prefix_len-le-length (λ x. not (p x)) xs)

  pub position_nowhere : position p xs ≡ None → position p ys ≡ None → position p (xs ++ ys) ≡ None
  position_nowhere none more = grind (arith, nat_tests, none, more, prefix_len-append (λ x. not (p x)) xs ys, length-append xs ys, prefix_len-le-length (λ x. not (p x)) xs)
