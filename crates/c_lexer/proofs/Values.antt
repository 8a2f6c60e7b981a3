-- The values of names, as a map keeps them and as a list.
use Rattle.std.proofs.Common.{◌≡◌, cond, List, [], ◌∷◌, ◌++◌, map, Some, ℤ, refl, ap}
use Rattle.std.specs.Map.{lookup}
use Rattle.std.specs.Str.{bytes_eq}
use Rattle.rr_base.specs.Texts.{Text, entry_of}

module _ {K : Type 0} (now : K → Text) where
  pub lookup-entry_of : (es : List (K × ℤ)) (name : Text) → lookup (λ k. bytes_eq name (now k)) es ≡ entry_of (map (λ e. (now e.0, e.1)) es) name
  lookup-entry_of [] name = refl
  lookup-entry_of (e ∷ es) name = ap (cond (bytes_eq name (now e.0)) (Some e.1)) (lookup-entry_of es name)

  abbrev pub shown : K × ℤ → Text × ℤ
  shown e = (now e.0, e.1)

  pub map-pushed : (es : List (K × ℤ)) (k : K) (v : ℤ) → map shown (es ++ (k, v) ∷ []) ≡ map shown es ++ (now k, v) ∷ []
  map-pushed [] k v = refl
  map-pushed (x ∷ xs) k v = ap (λ r. shown x ∷ r) (map-pushed xs k v)
