-- A type has more cells than an object may have, whether its structs' cells are counted in full or up to that limit.
use Rattle.std.proofs.Common.{◌≡◌, ℕ, zero, suc, ◌*◌, ◌≤◌, ◌<◌, List, [], ◌∷◌, length, map, ap, sym, ◌∙◌, refl, Option, None, Some, slice_get, unwrap_or, inl, inr, true, false, nat_le, ◌&&◌, arith}
use Rattle.std.specs.Option.{option_map}
use Rattle.std.proofs.lemmas.Option.{slice_get-map}
use Rattle.std.proofs.lemmas.Bool.Decides.{leb_tells, nat_tests}
use Rattle.rr_base.specs.declared.layout.CellKind.{CellKind}
use Rattle.c_types.specs.declared.types.BaseType.{BaseType}
use Rattle.c_types.specs.declared.types.BaseType.TheVariants as base
use Rattle.c_types.specs.declared.types.Layer.{Layer}
use Rattle.c_types.specs.declared.types.Layer.TheVariants as layer
use Rattle.c_types.specs.declared.types.ObjectType.{ObjectType}
use Rattle.c_types.specs.Scopes.{counted_cells}
use Rattle.c_types.specs.Types.{kinds_of_type, layered_element, base_size, layered_size, size_of_type}
use Rattle.c_sites.specs.Sites.{is_laid_out}
use Rattle.c_types.proofs.Lengths.{sizes_are_lengths}

abbrev counted : List (List CellKind) → List ℕ
counted structs = map (λ kinds. counted_cells (length kinds)) structs

counted_twice : (n : ℕ) → counted_cells (counted_cells n) ≡ counted_cells n
counted_twice n = omega arith

counted_some : (o : Option (List CellKind)) →
    counted_cells (unwrap_or (option_map (λ kinds. counted_cells (length kinds)) o) 0) ≡ counted_cells (unwrap_or (option_map length o) 0)
counted_some None = refl
counted_some (Some kinds) = counted_twice (length kinds)

counted_base : (structs : List (List CellKind)) (b : BaseType) → counted_cells (base_size (counted structs) b) ≡ counted_cells (base_size (map length structs) b)
counted_base structs base.Int = refl
counted_base structs base.Void = refl
counted_base structs (base.Struct k) =
    ap (λ o. counted_cells (unwrap_or o 0)) (slice_get-map (λ kinds. counted_cells (length kinds)) structs k)
    ∙ counted_some (slice_get structs k)
    ∙ sym (ap (λ o. counted_cells (unwrap_or o 0)) (slice_get-map length structs k))
counted_base structs base.Mutex = refl
counted_base structs base.Cond = refl
counted_base structs base.Barrier = refl
counted_base structs base.RwLock = refl
counted_base structs (base.Function k) = refl

-- a product of a counted number
counted_product : (n s t : ℕ) → counted_cells s ≡ counted_cells t → counted_cells (n * s) ≡ counted_cells (n * t)
counted_product zero s t e = omega arith
counted_product (suc n) s t e =
    elim (leb_tells 65536 s) [
      | inl h ↦ omega (arith, h.1, e)
      | inr h ↦ let same : s ≡ t = omega (arith, h.1, e) in ap (λ m. counted_cells (suc n * m)) same
    ]

counted_layers : (structs : List (List CellKind)) (ls : List Layer) (b : BaseType) → counted_cells (layered_size (counted structs) ls b) ≡ counted_cells (layered_size (map length structs) ls b)
counted_layers structs [] b = counted_base structs b
counted_layers structs (layer.Pointer ∷ ls) b = refl
counted_layers structs (layer.Array n ∷ ls) b = counted_product n _ _ (counted_layers structs ls b)

pub counted_sizes : (structs : List (List CellKind)) (t : ObjectType) → counted_cells (size_of_type (counted structs) t) ≡ counted_cells (length (kinds_of_type structs t))
counted_sizes structs t = counted_layers structs t.layers t.base ∙ ap counted_cells (sizes_are_lengths structs t)

within : (n c : ℕ) → c ≡ counted_cells n → c ≤ 65535 → nat_le n 65535 ≡ true
within n c e le = let few : n ≤ 65535 = omega arith in grind (arith, nat_tests)

beyond : (n c : ℕ) → c ≡ counted_cells n → 65535 < c → nat_le n 65535 ≡ false
beyond n c e lt = let many : 65535 < n = omega arith in grind (arith, nat_tests)

module _ (structs : List (List CellKind)) (t : ObjectType) (c : ℕ) (is : c ≡ counted_cells (length (kinds_of_type structs t))) where
  pub laid_out-within : (e : ℕ) → e ≡ layered_element structs t.layers t.base → c ≤ 65535 → nat_le e 65535 ≡ is_laid_out structs t
  laid_out-within e same le =
      ap (λ n. nat_le n 65535) same
      ∙ ap (λ b. b && nat_le (layered_element structs t.layers t.base) 65535) (sym (within _ c is le))

  pub laid_out-beyond : 65535 < c → nat_le c 65535 ≡ is_laid_out structs t
  laid_out-beyond lt =
      let no : nat_le c 65535 ≡ false = grind (arith, nat_tests) in
      no ∙ ap (λ b. b && nat_le (layered_element structs t.layers t.base) 65535) (sym (beyond _ c is lt))
