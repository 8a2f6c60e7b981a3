-- The maps and sets of the table of names, looked up by a text, and as what they show.
use Rattle.std.proofs.Common.{◌≡◌, ◌+◌, nat_lt, length, Bool, true, false, not, if◌then◌else◌, ◌||◌, List, [], ◌∷◌, ◌++◌, map, position, Option, Some, None, is_some, refl, ap, sym, ◌∙◌}
use Rattle.std.proofs.lemmas.List.{map-append, length-map}
use Rattle.std.specs.Borrow.{Bor}
use Rattle.std.specs.List.{list_any, position_or_len}
use Rattle.std.specs.Map.{lookup}
use Rattle.std.specs.Option.{option_map}
use Rattle.std.specs.Str.{bytes_eq}
use Rattle.indexmap.specs.IndexSet.{insert_key}
use Rattle.rr_base.specs.Texts.{Text, entry_of}
use Rattle.c_names.specs.declared.table.Declared.{Declared}
use Rattle.c_types.specs.Scopes.{Meaning, has_name, with_text, with_name}
use Rattle.c_types.specs.declared.types.ObjectType.{ObjectType}
use Rattle.c_names.specs.Table.{texts_of, meaning_of, scope_of, members_of}

-- ---- names

pub position_of_text : (ks : List (Bor Text)) (name : Text) → position (λ k. bytes_eq name k.now) ks ≡ position (λ n. bytes_eq name n) (texts_of ks)
position_of_text ks name =
    ap (λ i. if nat_lt i (length ks) then Some i else None) (passed_over ks)
    ∙ ap (λ n. if nat_lt (position_or_len (λ n. bytes_eq name n) (texts_of ks)) n then Some (position_or_len (λ n. bytes_eq name n) (texts_of ks)) else None) (sym (length-map ks (λ k. k.now)))
  where
    passed_over : (ks : List (Bor Text)) → position_or_len (λ k. bytes_eq name k.now) ks ≡ position_or_len (λ n. bytes_eq name n) (texts_of ks)
    passed_over [] = refl
    passed_over (k ∷ ks) = ap (λ i. if not (bytes_eq name k.now) then 1 + i else 0) (passed_over ks)

-- a member's position is that of its name among those that are shown
pub position_of_member : (es : List (Bor Text × Option ObjectType)) (name : Text) → position (λ (k : Bor Text). bytes_eq name k.now) (map (λ (e : Bor Text × Option ObjectType). e.0) es) ≡ position (λ (m : Text × Option ObjectType). bytes_eq name m.0) (members_of es)
position_of_member es name =
    ap (λ i. if nat_lt i (length (map (λ (e : Bor Text × Option ObjectType). e.0) es)) then Some i else None) (passed_over es)
    ∙ ap (λ n. if nat_lt (position_or_len (λ (m : Text × Option ObjectType). bytes_eq name m.0) (members_of es)) n then Some (position_or_len (λ (m : Text × Option ObjectType). bytes_eq name m.0) (members_of es)) else None) (length-map es (λ (e : Bor Text × Option ObjectType). e.0) ∙ sym (length-map es (λ (e : Bor Text × Option ObjectType). (e.0.now, e.1))))
  where
    passed_over : (es : List (Bor Text × Option ObjectType)) → position_or_len (λ (k : Bor Text). bytes_eq name k.now) (map (λ (e : Bor Text × Option ObjectType). e.0) es) ≡ position_or_len (λ (m : Text × Option ObjectType). bytes_eq name m.0) (members_of es)
    passed_over [] = refl
    passed_over (e ∷ es) = ap (λ i. if not (bytes_eq name e.0.now) then 1 + i else 0) (passed_over es)

pub has_text : (ks : List (Bor Text)) (name : Text) → list_any (λ k. bytes_eq name k.now) ks ≡ has_name (texts_of ks) name
has_text [] name = refl
has_text (k ∷ ks) name = ap (λ b. bytes_eq name k.now || b) (has_text ks name)

-- a set keeps the older of two names that are one
pub with_text_of : (ks : List (Bor Text)) (name : Bor Text) → texts_of (insert_key (λ k q. bytes_eq k.now q.now) ks name) ≡ with_text (texts_of ks) name.now
with_text_of ks name = by (list_any (λ k. bytes_eq name.now k.now) ks) ∙ ap (λ b. if b then texts_of ks else texts_of ks ++ name.now ∷ []) (has_text ks name.now)
  where
    by : (b : Bool) → texts_of (if b then ks else ks ++ name ∷ []) ≡ (if b then texts_of ks else texts_of ks ++ name.now ∷ [])
    by true = refl
    by false = map-append (λ n. n.now) ks (name ∷ [])

-- ---- entries

module _ {A B : Type 0} (f : A → B) where
  abbrev shown_by : Bool → A → Option A → Option B → Type 0
  shown_by b x rest shown = option_map f (if b then Some x else rest) ≡ (if b then Some (f x) else shown)

  first_or : (b : Bool) (x : A) (rest : Option A) (shown : Option B) → option_map f rest ≡ shown → shown_by b x rest shown
  first_or true x rest shown same = refl
  first_or false x rest shown same = same

  -- a map's look-up finds the entry of what the map shows
  pub lookup_shown : (es : List (Bor Text × A)) (name : Text) → option_map f (lookup (λ k. bytes_eq name k.now) es) ≡ entry_of (map (λ e. (e.0.now, f e.1)) es) name
  lookup_shown [] name = refl
  lookup_shown (e ∷ es) name = first_or (bytes_eq name e.0.now) e.1 _ _ (lookup_shown es name)

  is_some-option_map : (found : Option A) → is_some (option_map f found) ≡ is_some found
  is_some-option_map None = refl
  is_some-option_map (Some x) = refl

-- a name that a scope has stays, and one that it has not goes last
pub with_name_of : (es : List (Bor Text × Declared)) (name : Text) (m : Meaning) (b : Bool) → is_some (lookup (λ k. bytes_eq name k.now) es) ≡ b → with_name (scope_of es) name m ≡ (if b then scope_of es else scope_of es ++ (name, m) ∷ [])
with_name_of es name m b e =
    ap (λ t. if t then scope_of es else scope_of es ++ (name, m) ∷ []) (ap is_some (sym (lookup_shown meaning_of es name)) ∙ is_some-option_map meaning_of _ ∙ e)

pub none_from_test : {A : Type 0} (found : Option A) → is_some found ≡ false → found ≡ None
none_from_test None e = refl
none_from_test (Some x) e = cc
