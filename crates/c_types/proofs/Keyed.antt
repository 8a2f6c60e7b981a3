-- What a map with texts as keys knows, as a list.
use Rattle.std.proofs.Common.{◌≡◌, ℕ, ◌+◌, ◌<◌, length, take, slice_get, true, cond, List, [], ◌∷◌, ◌++◌, map, reverse, None, Some, is_some, if◌then◌else◌, refl, ap, ◌∙◌}
use Rattle.std.proofs.lemmas.List.{map-append, reverse-append, take_more}
use Rattle.std.proofs.lemmas.Option.{get_or_from_slice_get}
use Rattle.std.specs.Map.{lookup}
use Rattle.std.specs.Str.{bytes_eq}
use Rattle.rr_base.specs.Texts.{Text, entry_of}
use Rattle.c_types.specs.Scopes.{with_name}

module _ {K V : Type 0} (now : K → Text) where
  pub lookup-entry_of : (es : List (K × V)) (name : Text) → lookup (λ k. bytes_eq name (now k)) es ≡ entry_of (map (λ e. (now e.0, e.1)) es) name
  lookup-entry_of [] name = refl
  lookup-entry_of (e ∷ es) name = ap (cond (bytes_eq name (now e.0)) (Some e.1)) (lookup-entry_of es name)

  abbrev pub shown : K × V → Text × V
  shown e = (now e.0, e.1)

  pub map-pushed : (es : List (K × V)) (k : K) (v : V) → map shown (es ++ (k, v) ∷ []) ≡ map shown es ++ (now k, v) ∷ []
  map-pushed [] k v = refl
  map-pushed (x ∷ xs) k v = ap (λ r. shown x ∷ r) (map-pushed xs k v)

module _ {V : Type 0} (es : List (Text × V)) (name : Text) (v : V) where
  pub with_name-new : entry_of es name ≡ None → with_name es name v ≡ es ++ (name, v) ∷ []
  with_name-new e = ap (λ o. if is_some o then es else es ++ (name, v) ∷ []) e

  pub with_name-there : is_some (entry_of es name) ≡ true → with_name es name v ≡ es
  with_name-there e = ap (λ b. if b then es else es ++ (name, v) ∷ []) e

pub reverse-last : {A B : Type 0} (f : A → B) (xs : List A) (x : A) → reverse (map f (xs ++ x ∷ [])) ≡ f x ∷ reverse (map f xs)
reverse-last f xs x = ap (λ ys. reverse ys) (map-append f xs (x ∷ [])) ∙ reverse-append (map f xs) (f x ∷ [])

pub reverse-take : {A B : Type 0} (f : A → B) (xs : List A) (i : ℕ) (x : A) → i < length xs → slice_get xs i ≡ Some x → reverse (map f (take (i + 1) xs)) ≡ f x ∷ reverse (map f (take i xs))
reverse-take f xs i x lt e =
    ap (λ ys. reverse (map f ys)) (take_more xs i x lt ∙ ap (λ y. take i xs ++ y ∷ []) (get_or_from_slice_get xs i x x e))
    ∙ reverse-last f (take i xs) x
