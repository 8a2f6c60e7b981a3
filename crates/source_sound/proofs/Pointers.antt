-- The types of pointers to functions of a file without a fault: what they take and give is known, and calls through them are
-- there.
use Rattle.std.proofs.Common.{◌≡◌, ℕ, ◌==◌, true, List, [], ◌∷◌, map, Option, Some, None, refl, sym, ap, ap₂, subst, arith, true≢false}
use Rattle.std.proofs.lemmas.Bool.{and_parts}
use Rattle.std.proofs.lemmas.Bool.Decides.{nat_tests}
use Rattle.c_types.specs.declared.types.BaseType.{BaseType}
use Rattle.c_types.specs.declared.types.BaseType.TheVariants as base
use Rattle.c_types.specs.declared.library.StarredType.{StarredType}
use Rattle.c_types.specs.declared.library.Wanted.{Wanted}
use Rattle.c_types.specs.declared.library.Wanted.TheVariants as wants
use Rattle.c_types.specs.declared.names.Signature.{Signature}
use Rattle.c_types.specs.Library.{starred_type}
use Rattle.c_types.specs.Operands.{same_base}
use Rattle.c_types.specs.Signatures.{same_starred, same_result, same_params, same_signature}
use Rattle.c_values.specs.Calls.{gives_pointer}
use Rattle.c_elaborate.specs.Pointers.{is_pointer_kind}
use Rattle.source_sound.proofs.Environment.{IsFormedValue}
use Rattle.source_sound.proofs.Signatures.{kinds_wanted, AreFits, IsSomeResult, IsKnown, same_stars}

-- bases that are the same
pub bases_same : (b c : BaseType) → same_base b c ≡ true → b ≡ c
bases_same base.Int base.Int h = refl
bases_same base.Void base.Void h = refl
bases_same (base.Struct j) (base.Struct k) h = let is : j ≡ k = grind (arith, nat_tests) in ap base.Struct is
bases_same (base.Function j) (base.Function k) h = let is : j ≡ k = grind (arith, nat_tests) in ap base.Function is
bases_same base.Mutex base.Mutex h = refl
bases_same base.Cond base.Cond h = refl
bases_same base.Barrier base.Barrier h = refl
bases_same base.RwLock base.RwLock h = refl
bases_same base.Int _ h = absurd (true≢false (sym h))
bases_same base.Void _ h = absurd (true≢false (sym h))
bases_same (base.Struct j) _ h = absurd (true≢false (sym h))
bases_same (base.Function j) _ h = absurd (true≢false (sym h))
bases_same base.Mutex _ h = absurd (true≢false (sym h))
bases_same base.Cond _ h = absurd (true≢false (sym h))
bases_same base.Barrier _ h = absurd (true≢false (sym h))
bases_same base.RwLock _ h = absurd (true≢false (sym h))

-- what is the same as something has no fault in it
fits_same : (xs ys : List Wanted) → same_params xs ys ≡ true → AreFits xs × AreFits ys × (kinds_wanted xs ≡ kinds_wanted ys)
fits_same [] [] h = (tt, tt, refl)
fits_same (wants.Fits s ∷ xs) (wants.Fits t ∷ ys) h =
    let a = and_parts (same_starred s t) (same_params xs ys) h in
    let more = fits_same xs ys a.1 in
    (more.0, more.1, ap₂ (λ k ks. k ∷ ks) (same_stars s t a.0) more.2)
fits_same (wants.Fits s ∷ xs) [] h = absurd (true≢false (sym h))
fits_same (wants.Fits s ∷ xs) (wants.Anything ∷ ys) h = absurd (true≢false (sym h))
fits_same (wants.Fits s ∷ xs) (wants.Attribute ∷ ys) h = absurd (true≢false (sym h))
fits_same (wants.Fits s ∷ xs) (wants.Root ∷ ys) h = absurd (true≢false (sym h))
fits_same (wants.Fits s ∷ xs) (wants.Text ∷ ys) h = absurd (true≢false (sym h))
fits_same [] (y ∷ ys) h = absurd (true≢false (sym h))
fits_same (wants.Anything ∷ xs) [] h = absurd (true≢false (sym h))
fits_same (wants.Anything ∷ xs) (y ∷ ys) h = absurd (true≢false (sym h))
fits_same (wants.Attribute ∷ xs) [] h = absurd (true≢false (sym h))
fits_same (wants.Attribute ∷ xs) (y ∷ ys) h = absurd (true≢false (sym h))
fits_same (wants.Root ∷ xs) [] h = absurd (true≢false (sym h))
fits_same (wants.Root ∷ xs) (y ∷ ys) h = absurd (true≢false (sym h))
fits_same (wants.Text ∷ xs) [] h = absurd (true≢false (sym h))
fits_same (wants.Text ∷ xs) (y ∷ ys) h = absurd (true≢false (sym h))

result_same : (n : ℕ) (r q : Option StarredType) → IsSomeResult n r → same_result r q ≡ true → IsSomeResult n q × (gives_pointer r ≡ gives_pointer q)
result_same n (Some s) (Some t) known h =
    let a = and_parts (s.stars == t.stars) (same_base s.base t.base) h in
    let stars : s.stars ≡ t.stars = grind (arith, nat_tests) in
    let same : starred_type s ≡ starred_type t = ap₂ (λ k b. starred_type (record { stars = k; base = b })) stars (bases_same s.base t.base a.1) in
    (subst (λ z. IsFormedValue n z) same known, same_stars s t h)
result_same n None q known h = absurd known
result_same n (Some s) None known h = absurd (true≢false (sym h))

-- a type that is the same as one that is known is known, and takes and gives the same kinds
pub same_known : (n : ℕ) (f g : Signature) → IsSomeResult n f.result → same_signature f g ≡ true → IsKnown n g × (kinds_wanted f.params ≡ kinds_wanted g.params) × (gives_pointer f.result ≡ gives_pointer g.result)
same_known n f g known h =
    let a = and_parts (same_result f.result g.result) (same_params f.params g.params) h in
    let r = result_same n f.result g.result known a.0 in
    let p = fits_same f.params g.params a.1 in
    ((p.1, r.0), p.2, r.1)

-- the kinds of a type's formals, as the core tree tells them
pub kinds_told : (ws : List Wanted) → AreFits ws → map is_pointer_kind ws ≡ kinds_wanted ws
kinds_told [] h = refl
kinds_told (wants.Fits t ∷ ws) h = ap (λ ks. is_pointer_kind (wants.Fits t) ∷ ks) (kinds_told ws h)
kinds_told (wants.Anything ∷ ws) h = absurd h
kinds_told (wants.Attribute ∷ ws) h = absurd h
kinds_told (wants.Root ∷ ws) h = absurd h
kinds_told (wants.Text ∷ ws) h = absurd h
