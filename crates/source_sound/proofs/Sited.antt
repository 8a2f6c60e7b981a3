-- Each spot has a site: there is one at its place.
use Rattle.std.proofs.Common.{◌≡◌, suc, ◌+◌, ◌≤◌, ◌<◌, Bool, true, false, cond, not, List, [], ◌∷◌, ◌++◌, map, length, Some, None, ◌⊎◌, inl, inr, refl, ap, arith, lt-ltb}
use Rattle.std.specs.List.{position_or_len}
use Rattle.std.proofs.lemmas.Bool.Decides.{nat_tests}
use Rattle.rr_base.specs.declared.layout.CellKind.{CellKind}
use Rattle.rr_base.specs.declared.layout.Site.{Site}
use Rattle.rr_base.specs.declared.position.Position.{Position}
use Rattle.c_spots.specs.Spots.{Spot}
use Rattle.c_sites.specs.Sites.{site_of}
use Rattle.c_operators.specs.Context.{stands_at, site_counted, site_at}

-- a site stands at the place
abbrev pub StandsIn : List Site → Position → Type 0
StandsIn [] at = ⊥
StandsIn (s ∷ ss) at = (stands_at at s ≡ true) ⊎ StandsIn ss at

passed : (ss : List Site) (at : Position) → StandsIn ss at → position_or_len (stands_at at) ss < length ss
passed [] at h = absurd h
passed (s ∷ ss) at h = by (λ k. passed ss at k) (stands_at at s) refl h
  where
    by : (StandsIn ss at → position_or_len (stands_at at) ss < length ss) → (b : Bool) → stands_at at s ≡ b → (stands_at at s ≡ true) ⊎ StandsIn ss at → cond (not b) (1 + position_or_len (stands_at at) ss) 0 < suc (length ss)
    by rec true e h = omega arith
    by rec false e (inl same) = absurd cc
    by rec false e (inr more) = let lt = rec more in omega (arith, lt)

pub counted : (ss : List Site) (at : Position) → StandsIn ss at → (1 ≤ site_at ss at) × (site_at ss at ≤ length ss)
counted ss at h =
    let lt = passed ss at h in
    let is : site_at ss at ≡ position_or_len (stands_at at) ss + 1 = ap (λ b. site_counted (cond b (Some (position_or_len (stands_at at) ss)) None)) (lt-ltb (position_or_len (stands_at at) ss) (length ss) lt) in
    (omega (arith, is), omega (arith, is, lt))

-- each of the spots has a site among these
abbrev pub AreSited : List Site → List Spot → Type 0
AreSited ss [] = Unit {0}
AreSited ss (x ∷ xs) = StandsIn ss x.at × AreSited ss xs

pub sited_parts : (ss : List Site) (xs ys : List Spot) → AreSited ss (xs ++ ys) → AreSited ss xs × AreSited ss ys
sited_parts ss [] ys h = (tt, h)
sited_parts ss (x ∷ xs) ys h = let more = sited_parts ss xs ys h.1 in ((h.0, more.0), more.1)

more_sited : (s : Site) (ss : List Site) (xs : List Spot) → AreSited ss xs → AreSited (s ∷ ss) xs
more_sited s ss [] h = tt
more_sited s ss (x ∷ xs) h = (inr h.0, more_sited s ss xs h.1)

same_place : (kinds : List (List CellKind)) (x : Spot) → stands_at x.at (site_of kinds x) ≡ true
same_place kinds x = grind (arith, nat_tests)

pub all_sited : (kinds : List (List CellKind)) (xs : List Spot) → AreSited (map (site_of kinds) xs) xs
all_sited kinds [] = tt
all_sited kinds (x ∷ xs) = (inl (same_place kinds x), more_sited (site_of kinds x) (map (site_of kinds) xs) xs (all_sited kinds xs))
