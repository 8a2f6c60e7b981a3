-- The size of a type is the number of its cells.
use Rattle.std.proofs.Common.{◌≡◌, ℕ, zero, suc, ◌*◌, List, [], ◌∷◌, length, map, Option, Some, None, slice_get, unwrap_or, refl, sym, ap, ◌∙◌, arith, length-append}
use Rattle.std.proofs.lemmas.Option.{slice_get-map}
use Rattle.std.specs.Option.{option_map}
use Rattle.rr_base.specs.declared.layout.CellKind.{CellKind}
use Rattle.c_types.specs.declared.types.BaseType.{BaseType}
use Rattle.c_types.specs.declared.types.BaseType.TheVariants as base
use Rattle.c_types.specs.declared.types.Layer.{Layer}
use Rattle.c_types.specs.declared.types.Layer.TheVariants as layer
use Rattle.c_types.specs.declared.types.ObjectType.{ObjectType}
use Rattle.c_types.specs.Types.{repeated, base_kinds, layered_kinds, kinds_of_type, base_size, layered_size, size_of_type}

length-repeated : {A : Type 0} (n : ℕ) (xs : List A) → length (repeated n xs) ≡ n * length xs
length-repeated zero xs = omega arith
length-repeated (suc n) xs = omega (arith, length-append xs (repeated n xs), length-repeated n xs)

length_of_some : (o : Option (List CellKind)) → unwrap_or (option_map length o) 0 ≡ length (unwrap_or o [])
length_of_some None = refl
length_of_some (Some x) = refl

base_sizes : (structs : List (List CellKind)) (b : BaseType) → base_size (map length structs) b ≡ length (base_kinds structs b)
base_sizes structs base.Int = refl
base_sizes structs base.Void = refl
base_sizes structs (base.Struct k) = ap (λ o. unwrap_or o 0) (slice_get-map length structs k) ∙ length_of_some (slice_get structs k)
base_sizes structs (base.Function k) = refl
base_sizes structs base.Mutex = refl
base_sizes structs base.Cond = refl
base_sizes structs base.Barrier = refl
base_sizes structs base.RwLock = refl

layered_sizes : (structs : List (List CellKind)) (ls : List Layer) (b : BaseType) → layered_size (map length structs) ls b ≡ length (layered_kinds structs ls b)
layered_sizes structs [] b = base_sizes structs b
layered_sizes structs (layer.Pointer ∷ ls) b = refl
layered_sizes structs (layer.Array n ∷ ls) b = ap (λ s. n * s) (layered_sizes structs ls b) ∙ sym (length-repeated n (layered_kinds structs ls b))

pub sizes_are_lengths : (structs : List (List CellKind)) (t : ObjectType) → size_of_type (map length structs) t ≡ length (kinds_of_type structs t)
sizes_are_lengths structs t = layered_sizes structs t.layers t.base
