-- A list of faults that is empty: each of its parts is empty, and what would be a fault doesn't come.
use Rattle.std.proofs.Common.{◌≡◌, Bool, true, false, not, ◌&&◌, ◌||◌, List, [], ◌∷◌, ◌++◌, refl}
use Rattle.rr_base.specs.declared.position.Position.{Position}
use Rattle.c_types.specs.declared.fault.FaultKind.{FaultKind}
use Rattle.c_types.specs.Found.{where_it_comes}
use Rattle.c_rules.specs.Faults.{mismatch}

pub append_nil : {A : Type 0} (xs ys : List A) → xs ++ ys ≡ [] → (xs ≡ []) × (ys ≡ [])
append_nil [] ys e = (refl, e)
append_nil (x ∷ xs) ys e = let no : ⊥ = cc in absurd no

pub never : (b : Bool) (kind : FaultKind) (at : Position) → where_it_comes b kind at ≡ [] → b ≡ false
never true kind at e = cc
never false kind at e = refl

pub matches : (b : Bool) (at : Position) → mismatch b at ≡ [] → b ≡ false
matches true at e = cc
matches false at e = refl

-- what must hold for a match
pub fits : (b : Bool) (at : Position) → mismatch (not b) at ≡ [] → b ≡ true
fits true at e = refl
fits false at e = cc

pub neither : (a b : Bool) → (a || b) ≡ false → (a ≡ false) × (b ≡ false)
neither true b e = let no : ⊥ = cc in absurd no
neither false b e = (refl, e)

pub both_true : (a b : Bool) → (a && b) ≡ true → (a ≡ true) × (b ≡ true)
both_true true b e = (refl, e)
both_true false b e = let no : ⊥ = cc in absurd no

pub not_false : (a : Bool) → not a ≡ false → a ≡ true
not_false true e = refl
not_false false e = cc

pub three_nil : {A : Type 0} (xs ys zs : List A) → xs ++ ys ++ zs ≡ [] → (xs ≡ []) × (ys ≡ []) × (zs ≡ [])
three_nil xs ys zs e =
    let last = append_nil (xs ++ ys) zs e in
    let first = append_nil xs ys last.0 in
    (first.0, first.1, last.1)

pub four_nil : {A : Type 0} (xs ys zs us : List A) → xs ++ ys ++ zs ++ us ≡ [] → (xs ≡ []) × (ys ≡ []) × (zs ≡ []) × (us ≡ [])
four_nil xs ys zs us e =
    let last = append_nil (xs ++ ys ++ zs) us e in
    let first = three_nil xs ys zs last.0 in
    (first.0, first.1, first.2, last.1)
