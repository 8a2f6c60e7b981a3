-- Lists of faults without one, taken apart, and tests that hold.
use Rattle.std.proofs.Common.{◌≡◌, Bool, true, false, not, ◌&&◌, ◌||◌, List, [], ◌∷◌, ◌++◌, Option, Some, None, is_none, is_some, refl, sym, ap, ◌∙◌, true≢false, ◌⊎◌, inl, inr}
use Rattle.rr_base.specs.declared.position.Position.{Position}
use Rattle.c_types.specs.declared.fault.FaultKind.{FaultKind}
use Rattle.c_types.specs.Found.{where_it_comes}

abbrev is_nothing : {X : Type 0} → List X → Bool
is_nothing [] = true
is_nothing (x ∷ xs) = false

pub not_nothing : {X A : Type 0} (x : X) (xs : List X) → x ∷ xs ≡ [] → A
not_nothing x xs h = absurd (true≢false (sym (ap is_nothing h)))

pub append_nil : {X : Type 0} (xs ys : List X) → xs ++ ys ≡ [] → (xs ≡ []) × (ys ≡ [])
append_nil [] ys h = (refl, h)
append_nil (x ∷ xs) ys h = not_nothing x (xs ++ ys) h

pub append_nil₃ : {X : Type 0} (xs ys zs : List X) → xs ++ ys ++ zs ≡ [] → (xs ≡ []) × (ys ≡ []) × (zs ≡ [])
append_nil₃ xs ys zs h =
    let one = append_nil (xs ++ ys) zs h in
    let two = append_nil xs ys one.0 in
    (two.0, two.1, one.1)

pub append_nil₄ : {X : Type 0} (xs ys zs ws : List X) → xs ++ ys ++ zs ++ ws ≡ [] → (xs ≡ []) × (ys ≡ []) × (zs ≡ []) × (ws ≡ [])
append_nil₄ xs ys zs ws h =
    let one = append_nil (xs ++ ys ++ zs) ws h in
    let two = append_nil₃ xs ys zs one.0 in
    (two.0, two.1, two.2, one.1)

pub comes_not : (b : Bool) (k : FaultKind) (at : Position) → where_it_comes b k at ≡ [] → b ≡ false
comes_not true k at h = not_nothing _ _ h
comes_not false k at h = refl

-- the rule is kept
pub keeps : (b : Bool) (k : FaultKind) (at : Position) → where_it_comes (not b) k at ≡ [] → b ≡ true
keeps true k at h = refl
keeps false k at h = not_nothing _ _ h

pub never : {A : Type 0} → false ≡ true → A
never h = absurd (true≢false (sym h))

pub never' : {A : Type 0} → true ≡ false → A
never' h = absurd (true≢false h)

pub both : (a b : Bool) → (a && b) ≡ true → (a ≡ true) × (b ≡ true)
both true b h = (refl, h)
both false b h = never h

pub either_holds : (a b : Bool) → (a || b) ≡ true → (a ≡ true) ⊎ (b ≡ true)
either_holds true b h = inl refl
either_holds false b h = inr h

pub not_true : (b : Bool) → not b ≡ true → b ≡ false
not_true true h = never h
not_true false h = refl

pub not_false : (b : Bool) → not b ≡ false → b ≡ true
not_false true h = refl
not_false false h = never' h

pub there_is : {X : Type 0} (o : Option X) → is_none o ≡ false → (x : X) × (o ≡ Some x)
there_is None h = never' h
there_is (Some x) h = (x, refl)

pub there_is' : {X : Type 0} (o : Option X) → is_some o ≡ true → (x : X) × (o ≡ Some x)
there_is' None h = never h
there_is' (Some x) h = (x, refl)

abbrev some_or_none : {X : Type 0} → Option X → Bool
some_or_none None = false
some_or_none (Some x) = true

pub some_not_none : {X A : Type 0} (o : Option X) (x : X) → o ≡ Some x → o ≡ None → A
some_not_none o x h g = never (ap some_or_none (sym g) ∙ ap some_or_none h)
