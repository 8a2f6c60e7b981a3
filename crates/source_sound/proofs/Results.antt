-- What a function gives is no pointer to functions: no declarator of a function says so (C99 6.7.5.3).
use Rattle.std.proofs.Common.{◌≡◌, ℕ, zero, suc, Bool, true, false, [], Option, Some, None, is_some, refl, sym, ap}
use Rattle.std.specs.Option.{option_map}
use Rattle.std.proofs.lemmas.Option.{same_Some, none-some}
use Rattle.c_tree.specs.declared.ctype.Specifier.{Specifier}
use Rattle.c_tree.specs.declared.ctype.Specifier.TheVariants as specifier
use Rattle.c_types.specs.declared.types.BaseType.{BaseType}
use Rattle.c_types.specs.declared.types.BaseType.TheVariants as base
use Rattle.c_types.specs.declared.library.StarredType.{StarredType}
use Rattle.c_types.specs.Library.{starred_type}
use Rattle.c_types.specs.Scopes.{Known, base_of, starred, struct_numbered}
use Rattle.c_types.specs.Standing.{layered_function, points_to_functions}
use Rattle.c_names.specs.Signatures.{cannot_give, result_by, result_of}

-- the result, if it is known, is no pointer to functions
abbrev pub IsPlainResult : Option StarredType → Type 0
IsPlainResult None = Unit {0}
IsPlainResult (Some t) = points_to_functions (starred_type t) ≡ false

stars_plain : (stars : ℕ) (b : BaseType) → layered_function [] b ≡ None → points_to_functions (starred stars b) ≡ false
stars_plain zero b e = ap is_some e
stars_plain (suc stars) b e = refl

-- no specifier tells a pointer to functions
pub base_plain : (known : Known) (s : Specifier) (b : BaseType) → base_of known s ≡ Some b → layered_function [] b ≡ None
base_plain known (specifier.Int at) b e = ap (λ x. layered_function [] x) (sym (same_Some base.Int b e))
base_plain known (specifier.Long second int at) b e = ap (λ x. layered_function [] x) (sym (same_Some base.Int b e))
base_plain known (specifier.Void at) b e = ap (λ x. layered_function [] x) (sym (same_Some base.Void b e))
base_plain known (specifier.PthreadT at) b e = ap (λ x. layered_function [] x) (sym (same_Some base.Int b e))
base_plain known (specifier.PthreadMutexT at) b e = ap (λ x. layered_function [] x) (sym (same_Some base.Mutex b e))
base_plain known (specifier.PthreadCondT at) b e = ap (λ x. layered_function [] x) (sym (same_Some base.Cond b e))
base_plain known (specifier.PthreadBarrierT at) b e = ap (λ x. layered_function [] x) (sym (same_Some base.Barrier b e))
base_plain known (specifier.PthreadRwlockT at) b e = ap (λ x. layered_function [] x) (sym (same_Some base.RwLock b e))
base_plain known (specifier.Struct name at) b e = by (struct_numbered known name.text) e
  where
    by : (o : Option ℕ) → option_map base.Struct o ≡ Some b → layered_function [] b ≡ None
    by None e = absurd (none-some b e)
    by (Some k) e = ap (λ x. layered_function [] x) (sym (same_Some (base.Struct k) b e))

plain_by : (cannot : Bool) (o : Option BaseType) (stars : ℕ) → ((b : BaseType) → o ≡ Some b → layered_function [] b ≡ None) → IsPlainResult (result_by cannot o stars)
plain_by true o stars plain = tt
plain_by false None stars plain = tt
plain_by false (Some b) stars plain = stars_plain stars b (plain b refl)

-- whatever the declarator of the function says
pub result_plain : (known : Known) (s : Specifier) (stars : ℕ) → IsPlainResult (result_of known s stars)
result_plain known s stars = plain_by (cannot_give s stars) (base_of known s) stars (λ b e. base_plain known s b e)
