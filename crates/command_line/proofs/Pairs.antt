-- The pairs of a command's arguments: the value that each name has there, and that no name comes twice.
use Rattle.std.proofs.Common.{◌≡◌, refl, sym, ◌∙◌, ap, Bool, true, false, not, cond, ◌||◌, ◌&&◌, List, [], ◌∷◌, ◌++◌, length, map, Option, Some, None, bytes_eq}
use Rattle.std.specs.Prelude.{find, is_none, option_and_then, slice_get, if◌then◌else◌}
use Rattle.std.specs.List.{list_any}
use Rattle.std.proofs.lemmas.Bool.{and_parts, false_from_ne_true, not-true}
use Rattle.std.proofs.lemmas.Slice.Eq.{bytes_eq-Decides}
use Rattle.clap.specs.Walk.{Row, Text, first_of, has_row}
use Rattle.command_line.specs.Arguments.{Argument, Positional, Setting, Wrong, are_fit, positional, value_of}
use Rattle.command_line.specs.Reader.{Pair, pairs, row_of}

-- ---- names

pub same_name : (t : Text) → bytes_eq t t ≡ true
same_name t = (bytes_eq-Decides t t).1 refl

pub or_parts : (a b : Bool) → (a || b) ≡ false → (a ≡ false) × (b ≡ false)
or_parts true b e = cc
or_parts false b e = (refl, e)

-- an option's name and one that is none
pub differ : (may : Text → Bool) (a b : Text) → may a ≡ true → may b ≡ false → bytes_eq a b ≡ false
differ may a b t f =
    false_from_ne_true (bytes_eq a b) (λ e.
    let same : a ≡ b = (bytes_eq-Decides a b).0 e in
    let bad : true ≡ false = sym t ∙ ap may same ∙ f in cc)

swapped : (a b : Text) → bytes_eq a b ≡ false → bytes_eq b a ≡ false
swapped a b f =
    false_from_ne_true (bytes_eq b a) (λ e.
    let same : b ≡ a = (bytes_eq-Decides b a).0 e in
    let bad : true ≡ false = sym ((bytes_eq-Decides a b).1 (sym same)) ∙ f in cc)

abbrev pub is_in : Text → List Text → Bool
is_in name names = list_any (λ n. bytes_eq n name) names

-- the names of positional words are no options, and differ
abbrev pub are_apart : (may : Text → Bool) → List Text → Bool
are_apart may [] = true
are_apart may (n ∷ names) = not (may n) && (not (is_in n names) && are_apart may names)

record Apart (may : Text → Bool) (n : Text) (names : List Text) : Type 0 where
  option : may n ≡ false
  first : is_in n names ≡ false
  others : are_apart may names ≡ true

apart : (may : Text → Bool) (n : Text) (names : List Text) → are_apart may (n ∷ names) ≡ true → Apart may n names
apart may n names e =
    let p = and_parts (not (may n)) (not (is_in n names) && are_apart may names) e in
    let q = and_parts (not (is_in n names)) (are_apart may names) p.1 in
    record { option = not-true (may n) p.0; first = not-true (is_in n names) q.0; others = q.1 }

pub no_word : (may : Text → Bool) (name : Text) (names : List Text) → may name ≡ true → are_apart may names ≡ true → is_in name names ≡ false
no_word may name [] t e = refl
no_word may name (n ∷ names) t e =
    let p = apart may n names e in
    let first : bytes_eq n name ≡ false = swapped name n (differ may name n t p.option) in
    rw first (no_word may name names t p.others)

-- ---- fit arguments

record FitSetting (may : Text → Bool) (name : Text) (more : List Argument) : Type 0 where
  taken : may name ≡ true
  once : value_of name more ≡ None
  others : are_fit may more ≡ true

none_from : {X : Type 0} (o : Option X) → is_none o ≡ true → o ≡ None
none_from None e = refl
none_from (Some x) e = cc

fit_setting : (may : Text → Bool) (name value : Text) (more : List Argument) → are_fit may (Setting name value ∷ more) ≡ true → FitSetting may name more
fit_setting may name value more e =
    let p = and_parts (may name) (is_none (value_of name more) && are_fit may more) e in
    let q = and_parts (is_none (value_of name more)) (are_fit may more) p.1 in
    record { taken = p.0; once = none_from (value_of name more) q.0; others = q.1 }

pub setting_taken : (may : Text → Bool) (name value : Text) (more : List Argument) → are_fit may (Setting name value ∷ more) ≡ true → (may name ≡ true) × (are_fit may more ≡ true)
setting_taken may name value more e = let p = fit_setting may name value more e in (p.taken, p.others)

-- what is no option has no value
not_taken : (may : Text → Bool) (name : Text) (given : List Argument) → may name ≡ false → are_fit may given ≡ true → value_of name given ≡ None
not_taken may name [] f e = refl
not_taken may name (Positional word ∷ more) f e = not_taken may name more f e
not_taken may name (Setting g value ∷ more) f e =
    let p = fit_setting may g value more e in
    let other : bytes_eq g name ≡ false = differ may g name p.taken f in
    rw other (not_taken may name more f p.others)
not_taken may name (Wrong ∷ more) f e = cc

-- ---- values

-- the value of a name
abbrev pub value_in : Text → List Pair → Option Text
value_in name [] = None
value_in name (p ∷ more) = if bytes_eq p.0 name then Some p.1 else value_in name more

pub first_in_rows : (name : Text) (ps : List Pair) → first_of name (map row_of ps) ≡ value_in name ps
first_in_rows name [] = refl
first_in_rows name (p ∷ more) = go (bytes_eq p.0 name) (first_in_rows name more)
  where
    go : (b : Bool) → first_of name (map row_of more) ≡ value_in name more
        → option_and_then (λ (r : Row). slice_get r.values 0) (cond b (Some (row_of p)) (find (λ (r : Row). bytes_eq r.id name) (map row_of more))) ≡ cond b (Some p.1) (value_in name more)
    go true e = refl
    go false e = e

-- an option has its value
pub value_apart : (name : Text) (names : List Text) (given : List Argument) → is_in name names ≡ false → value_in name (pairs names given) ≡ value_of name given
value_apart name names [] h = refl
value_apart name names (Setting g value ∷ more) h = ap (cond (bytes_eq g name) (Some value)) (value_apart name names more h)
value_apart name [] (Positional word ∷ more) h = value_apart name [] more h
value_apart name (n ∷ names) (Positional word ∷ more) h =
    let p = or_parts (bytes_eq n name) (is_in name names) h in
    rw p.0 (value_apart name names more p.1)
value_apart name names (Wrong ∷ more) h = value_apart name names more h

-- a positional word has its place
pub word_at : (may : Text → Bool) (name : Text) (front rest : List Text) (given : List Argument) → is_in name front ≡ false → may name ≡ false → are_fit may given ≡ true
    → value_in name (pairs (front ++ name ∷ rest) given) ≡ slice_get (positional given) (length front)
word_at may name front rest [] h f e = refl
word_at may name front rest (Setting g value ∷ more) h f e =
    let p = fit_setting may g value more e in
    let other : bytes_eq g name ≡ false = differ may g name p.taken f in
    rw other (word_at may name front rest more h f p.others)
word_at may name [] rest (Positional word ∷ more) h f e = rw (same_name name) refl
word_at may name (n ∷ front) rest (Positional word ∷ more) h f e =
    let p = or_parts (bytes_eq n name) (is_in name front) h in
    rw p.0 (word_at may name front rest more p.1 f e)
word_at may name front rest (Wrong ∷ more) h f e = cc

-- ---- no name comes twice

abbrev pub has_name : Text → List Pair → Bool
has_name name ps = list_any (λ (p : Pair). bytes_eq p.0 name) ps

abbrev pub are_distinct : List Pair → Bool
are_distinct [] = true
are_distinct (p ∷ more) = not (has_name p.0 more) && are_distinct more

no_name : (name : Text) (ps : List Pair) → value_in name ps ≡ None → has_name name ps ≡ false
no_name name [] e = refl
no_name name (p ∷ more) e = go (bytes_eq p.0 name) e (no_name name more)
  where
    go : (b : Bool) → cond b (Some p.1) (value_in name more) ≡ None → (value_in name more ≡ None → has_name name more ≡ false) → (b || has_name name more) ≡ false
    go true is ih = cc
    go false is ih = ih is

pub distinct_pairs : (may : Text → Bool) (names : List Text) (given : List Argument) → are_apart may names ≡ true → are_fit may given ≡ true → are_distinct (pairs names given) ≡ true
distinct_pairs may names [] a e = refl
distinct_pairs may names (Setting g value ∷ more) a e =
    let p = fit_setting may g value more e in
    let new : has_name g (pairs names more) ≡ false = no_name g (pairs names more) (value_apart g names more (no_word may g names p.taken a) ∙ p.once) in
    rw new (distinct_pairs may names more a p.others)
distinct_pairs may [] (Positional word ∷ more) a e = distinct_pairs may [] more a e
distinct_pairs may (n ∷ names) (Positional word ∷ more) a e =
    let p = apart may n names a in
    let new : has_name n (pairs names more) ≡ false = no_name n (pairs names more) (value_apart n names more p.first ∙ not_taken may n more p.option e) in
    rw new (distinct_pairs may names more p.others e)
distinct_pairs may names (Wrong ∷ more) a e = cc

member : (name : Text) (done : List Pair) (p : Pair) (more : List Pair) → has_name name (done ++ p ∷ more) ≡ false → bytes_eq p.0 name ≡ false
member name [] p more e = (or_parts (bytes_eq p.0 name) (has_name name more) e).0
member name (d ∷ done) p more e = member name done p more (or_parts (bytes_eq d.0 name) (has_name name (done ++ p ∷ more)) e).1

-- so a name is new where it comes
pub is_new : (done : List Pair) (p : Pair) (more : List Pair) → are_distinct (done ++ p ∷ more) ≡ true → has_row p.0 (map row_of done) ≡ false
is_new [] p more e = refl
is_new (d ∷ done) p more e =
    let q = and_parts (not (has_name d.0 (done ++ p ∷ more))) (are_distinct (done ++ p ∷ more)) e in
    let other : bytes_eq d.0 p.0 ≡ false = swapped p.0 d.0 (member d.0 done p more (not-true (has_name d.0 (done ++ p ∷ more)) q.0)) in
    rw other (is_new done p more q.1)
