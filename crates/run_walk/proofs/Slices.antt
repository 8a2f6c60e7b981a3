-- The next piece of a thread, as slices show it.
use Rattle.std.proofs.Common.{◌≡◌, ℕ, ◌-◌, ◌<◌, ◌≤◌, List, [], ◌∷◌, length, take, drop, Some, refl, sym, ap, ◌∙◌, slice_index_or, arith}
use Rattle.std.specs.Prelude.{slice_get, slice_set}
use Rattle.std.specs.Borrow.{Bor}
use Rattle.std.specs.Option.{option_map, unwrap_or}
use Rattle.std.proofs.lemmas.List.{map-set, take_all}
use Rattle.std.proofs.lemmas.Option.{slice_get-map}
use Rattle.rr_base.proofs.Lists.{slice_set-get}
use Rattle.run_walk.specs.Printed.{first_piece, pieces_at, pieces_of}

first_is : (ps : List (List ℕ)) (d : List ℕ) → 1 ≤ length ps → slice_index_or ps 0 d ≡ first_piece ps
first_is [] d some = absurd (omega (arith, some))
first_is (p ∷ ps) d some = refl

others_are : (ps : List (List ℕ)) → take (length ps - 1) (drop 1 ps) ≡ drop 1 ps
others_are [] = refl
others_are (p ∷ ps) = take_all (length (p ∷ ps) - 1) ps (omega arith)

none_is : (ps : List (List ℕ)) → length ps < 1 → ps ≡ []
none_is [] few = refl
none_is (p ∷ ps) few = absurd (omega (arith, few))

module _ (slices : List (Bor (List (List ℕ)))) (t : ℕ) (slice : Bor (List (List ℕ))) (there : slice_get slices t ≡ Some slice) where
  at_slice : slice_get (pieces_of slices) t ≡ Some slice.now
  at_slice = slice_get-map (λ (z : Bor (List (List ℕ))). z.now) slices t ∙ ap (option_map (λ (z : Bor (List (List ℕ))). z.now)) there

  pub here : pieces_at (pieces_of slices) t ≡ slice.now
  here = ap (λ o. unwrap_or o []) at_slice

  pub next_first : (d : List ℕ) → 1 ≤ length slice.now → slice_index_or slice.now 0 d ≡ first_piece (pieces_at (pieces_of slices) t)
  next_first d some = first_is slice.now d some ∙ ap first_piece (sym here)

  pub next_rest : (new : Bor (List (List ℕ))) (after : List (Bor (List (List ℕ)))) → after ≡ slice_set slices t new → new.now ≡ take (length slice.now - 1) (drop 1 slice.now) → pieces_of after ≡ slice_set (pieces_of slices) t (drop 1 (pieces_at (pieces_of slices) t))
  next_rest new after is rest =
      ap pieces_of is
      ∙ map-set (λ (z : Bor (List (List ℕ))). z.now) slices t new
      ∙ ap (slice_set (pieces_of slices) t) (rest ∙ others_are slice.now ∙ ap (drop 1) (sym here))

  pub no_next : length slice.now < 1 → pieces_of slices ≡ slice_set (pieces_of slices) t (drop 1 (pieces_at (pieces_of slices) t))
  no_next few =
      let none = none_is slice.now few in
      sym (slice_set-get (pieces_of slices) t slice.now at_slice)
      ∙ ap (slice_set (pieces_of slices) t) (none ∙ ap (drop 1) (sym none) ∙ ap (drop 1) (sym here))
