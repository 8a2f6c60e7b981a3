-- The names of the library, as tokens and as what calls and constants mean.
use Rattle.std.proofs.Common.{◌≡◌, Bool, true, false, ◌||◌, if◌then◌else◌, List, [], ◌∷◌, ◌++◌, map, Some, is_some, refl, sym, ap, ap₂, ◌∙◌}
use Rattle.std.proofs.lemmas.List.Folds.{list_any-append}
use Rattle.std.proofs.lemmas.Slice.Eq.{bytes_eq-Decides}
use Rattle.std.specs.Str.{bytes_eq}
use Rattle.rr_base.specs.Texts.{Text, entry_of}
use Rattle.c_lexer.specs.Tables.{is_among, is_library_name, library_names}
use Rattle.c_types.specs.Constants.{constant_named, constants}
use Rattle.c_types.specs.Library.{calls, library_named}

both : (a b : Bool) → (a ≡ true → b ≡ true) → (b ≡ true → a ≡ true) → a ≡ b
both true b f g = sym (f refl)
both false true f g = g refl
both false false f g = refl

swapped : (a b : Text) → bytes_eq a b ≡ bytes_eq b a
swapped a b = both (bytes_eq a b) (bytes_eq b a) (λ h. (bytes_eq-Decides b a).1 (sym ((bytes_eq-Decides a b).0 h))) (λ h. (bytes_eq-Decides a b).1 (sym ((bytes_eq-Decides b a).0 h)))

-- the names of a table
abbrev names_of : {A : Type 0} → List (Text × A) → List Text
names_of es = map (λ e. e.0) es

in_table : {A : Type 0} (es : List (Text × A)) (name : Text) → is_among (names_of es) name ≡ is_some (entry_of es name)
in_table [] name = refl
in_table (e ∷ es) name = ap (λ b. b || is_among (names_of es) name) (swapped e.0 name) ∙ by (in_table es name) (bytes_eq name e.0)
  where
    by : is_among (names_of es) name ≡ is_some (entry_of es name) → (b : Bool) → (b || is_among (names_of es) name) ≡ is_some (if b then Some e.1 else entry_of es name)
    by more true = refl
    by more false = more

pub library_name : (name : Text) → is_library_name name ≡ (is_some (library_named name) || is_some (constant_named name))
unfolding is_library_name library_named constant_named
library_name name =
    let same : library_names ≡ names_of calls ++ names_of constants = refl in
    ap (λ spellings. is_among spellings name) same
    ∙ list_any-append (λ s. bytes_eq s name) (names_of calls) (names_of constants)
    ∙ ap₂ (λ a b. a || b) (in_table calls name) (in_table constants name)
