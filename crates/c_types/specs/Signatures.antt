-- The types of functions, and of the pointers to them (C99 6.7.5.3): which are one, and their numbers.
use Rattle.std.specs.Prelude.{ℕ, ◌==◌, Bool, true, false, ◌&&◌, List, [], ◌∷◌, ◌++◌, map, position, slice_get, Option, Some}
use Rattle.c_types.specs.declared.library.StarredType.{StarredType}
use Rattle.c_types.specs.declared.library.Wanted.{Wanted}
use Rattle.c_types.specs.declared.library.Wanted.TheVariants as wants
use Rattle.c_types.specs.declared.names.Signature.{Signature}
use Rattle.c_types.specs.declared.names.PointerType.{PointerType}
use Rattle.c_types.specs.Operands.{same_base}
use Rattle.c_types.specs.Scopes.{Known}

-- the same base with as many stars
abbrev pub same_starred : StarredType → StarredType → Bool
same_starred s t = (s.stars == t.stars) && same_base s.base t.base

-- a result with a fault is the same as none
abbrev pub same_result : Option StarredType → Option StarredType → Bool
same_result (Some s) (Some t) = same_starred s t
same_result _ _ = false

-- a parameter with a fault is the same as none
abbrev pub same_wanted : Wanted → Wanted → Bool
same_wanted (wants.Fits s) (wants.Fits t) = same_starred s t
same_wanted _ _ = false

-- as many parameters, each of the same type
abbrev pub same_params : List Wanted → List Wanted → Bool
same_params [] [] = true
same_params (x ∷ xs) (y ∷ ys) = same_wanted x y && same_params xs ys
same_params _ _ = false

-- two functions of one type; a type with a fault in it isn't even the same as itself
abbrev pub same_signature : Signature → Signature → Bool
same_signature f g = same_result f.result g.result && same_params f.params g.params

-- ---- numbers

-- to what pointers of these types point
abbrev pub signatures_of : List PointerType → List Signature
signatures_of ts = map (λ t. t.signature) ts

-- to what the pointers point that the file declares
abbrev pub pointed_types : Known → List Signature
pointed_types known = signatures_of known.pointers

-- a pointer to functions goes by the number of its type among those that the file declares
abbrev pub pointer_numbered : Known → Signature → Option ℕ
pointer_numbered known f = position (same_signature f) (pointed_types known)

-- a function's type has the number of the pointers to it, and one after them where there are none
abbrev pub type_numbered : Known → Signature → Option ℕ
type_numbered known f = position (same_signature f) (pointed_types known ++ known.function_types)

-- to what the pointers with this number point
abbrev pub signature_numbered : Known → ℕ → Option Signature
signature_numbered known k = slice_get (pointed_types known) k
