-- The types of members, read one after another.
use Rattle.std.proofs.Common.{◌≡◌, ℕ, ◌+◌, ◌-◌, ◌<◌, List, [], ◌∷◌, ◌++◌, length, take, drop, get_or, map, append_assoc, append-nil, ap, sym, ◌∙◌, Option, None, Some, slice_get, arith}
use Rattle.std.proofs.lemmas.List.{map-append, take_more, drop_more, at_drop_all}
use Rattle.std.proofs.lemmas.Option.{slice_get_within, slice_get-get_or, get_or_from_slice_get}
use Rattle.rr_base.proofs.Lists.{slice_get_outside}
use Rattle.c_types.specs.declared.types.ObjectType.{ObjectType}
use Rattle.c_types.specs.Scopes.{Members, members_of}
use Rattle.c_sites.specs.Sites.{known_type, known_types, types_of_members}

module _ (xs : List (Option ObjectType)) (i : ℕ) where
  pub types_more : (j : ℕ) (ts more : List ObjectType) (t : Option ObjectType) →
      j ≡ i + 1 → more ≡ ts ++ known_type t → Some t ≡ slice_get xs i → more ++ known_types (drop j xs) ≡ ts ++ known_types (drop i xs)
  types_more j ts more t next m e =
      let lt = slice_get_within xs i t (sym e) in
      ap (λ n. more ++ known_types (drop n xs)) next
      ∙ ap (λ zs. zs ++ known_types (drop (i + 1) xs)) m
      ∙ append_assoc ts (known_type t) (known_types (drop (i + 1) xs))
      ∙ ap (λ x. ts ++ known_types (x ∷ drop (i + 1) xs)) (sym (get_or_from_slice_get xs i t t (sym e)))
      ∙ sym (ap (λ ys. ts ++ known_types ys) (drop_more xs i t lt))

  pub types_left : (j : ℕ) (t : Option ObjectType) → j ≡ i + 1 → Some t ≡ slice_get xs i → length xs - j < length xs - i
  types_left j t next e = omega (arith, slice_get_within xs i t (sym e))

  pub types_end : (ts : List ObjectType) → None ≡ slice_get xs i → ts ++ known_types (drop i xs) ≡ ts
  types_end ts e = at_drop_all (λ ys. ts ++ known_types ys) xs i (slice_get_outside xs i (sym e)) ∙ append-nil ts

pub more_types : (all : List (List ObjectType)) (ms : List Members) (n : ℕ) (ts : List ObjectType) →
    n < length ms → ts ≡ known_types (members_of (slice_get ms n)) → all ≡ map types_of_members (take n ms) → all ++ ts ∷ [] ≡ map types_of_members (take (n + 1) ms)
more_types all ms n ts lt t a =
    ap (λ zs. zs ++ ts ∷ []) a
    ∙ ap (λ z. map types_of_members (take n ms) ++ z ∷ []) (t ∙ ap (λ o. known_types (members_of o)) (slice_get-get_or ms n [] lt))
    ∙ sym (map-append types_of_members (take n ms) (get_or ms n [] ∷ []))
    ∙ sym (ap (λ zs. map types_of_members zs) (take_more ms n [] lt))
