-- What is known between the definitions of a file without a fault: one scope, whose names have types and lead to globals and
-- functions.
use Rattle.std.proofs.Common.{◌≡◌, ℕ, Bool, true, false, not, ◌&&◌, ◌==◌, if◌then◌else◌, ℤ, List, [], ◌∷◌, ◌++◌, map, length, Option, Some, None, is_some, bytes_eq, refl, sym, ap, ◌∙◌, subst}
use Rattle.std.proofs.lemmas.Bool.{or_parts}
use Rattle.std.proofs.lemmas.Option.{same_Some, none-some}
use Rattle.rr_base.specs.Texts.{Text, entry_of}
use Rattle.c_tree.specs.declared.name.Name.{Name}
use Rattle.c_tree.specs.declared.ctype.Specifier.{Specifier}
use Rattle.c_tree.specs.Tree.{Formals, Declared, Code, defined, prototype}
use Rattle.c_types.specs.declared.types.ObjectType.{ObjectType}
use Rattle.c_types.specs.declared.names.Signature.{Signature}
use Rattle.c_types.specs.declared.fault.FaultKind.TheVariants as fault
use Rattle.c_types.specs.Found.{where_it_comes}
use Rattle.c_types.specs.Constants.{constant_named}
use Rattle.c_types.specs.Library.{library_named}
use Rattle.c_types.specs.Scopes.{Known, Scope, Meaning, variable, function_of, seen, seen_in, or_else, innermost, with_name, declare, declared_in, opened, has_name}
use Rattle.c_types.specs.Standing.{is_main}
use Rattle.c_rules.specs.Faults.{name_place, mismatch, specifier_faults}
use Rattle.c_names.specs.Sources.{declared_name, listed_params, global_cells_with}
use Rattle.c_programs.specs.Declarators.{declared_type, declarator_faults, taken_faults, is_library_name, size_faults, params_faults, after_params}
use Rattle.c_programs.specs.Statements.{declared_faults, cells_of_declared, global_name_faults, after_declared}
use Rattle.c_programs.specs.Programs.{again_faults, is_definition, function_name_faults, is_main_signature, agree, after_function, function_faults, body_faults}
use Rattle.c_names.specs.Signatures.{result_of, signature_of, cannot_give}
use Rattle.source_sound.proofs.Environment.{IsFormed}
use Rattle.source_sound.proofs.FileLists.{append_nil, nil3, nil4, nil5, where_nil, not_nil, same_text, text_same}
use Rattle.source_sound.proofs.DeclaredTypes.{AreDeclarable, declared_known, declared_formed}
use Rattle.c_types.specs.Signatures.{type_numbered}
use Rattle.source_sound.proofs.Listed.{lists_of, DeclaredListed, FormalsListed, IsTypeListed, function_lists, signature_same}
use Rattle.source_sound.proofs.PointerNumbers.{PointsKnown, declared_number, declared_points, formals_number, type_number}
use Rattle.source_sound.proofs.Signatures.{kinds_wanted, params_wanted, IsSomeResult, result_known, IsKnown, SameKinds, agreeing, is_pointer_formal}

-- ---- names that are looked up

module _ {A : Type 0} where
  abbrev pub AllOf : (Text → A → Type 0) → List (Text × A) → Type 0
  AllOf P [] = Unit {0}
  AllOf P (e ∷ es) = P e.0 e.1 × AllOf P es

  -- an entry has the name that finds it
  pub found_entry : (P : Text → A → Type 0) (es : List (Text × A)) → AllOf P es → (name : Text) (x : A) → entry_of es name ≡ Some x → P name x
  found_entry P [] h name x e = absurd (none-some x e)
  found_entry P (y ∷ es) h name x e = by (λ k. found_entry P es h.1 name x k) (bytes_eq name y.0) refl e
    where
      by : (entry_of es name ≡ Some x → P name x) → (b : Bool) → bytes_eq name y.0 ≡ b → (if b then Some y.1 else entry_of es name) ≡ Some x → P name x
      by rec true same e = subst (λ n. P n x) (sym (same_text name y.0 same)) (subst (λ v. P y.0 v) (same_Some y.1 x e) h.0)
      by rec false same e = rec e

  all_parts : (P : Text → A → Type 0) (xs ys : List (Text × A)) → AllOf P xs → AllOf P ys → AllOf P (xs ++ ys)
  all_parts P [] ys h g = g
  all_parts P (x ∷ xs) ys h g = (h.0, all_parts P xs ys h.1 g)

  pub all_with : (P : Text → A → Type 0) (es : List (Text × A)) (name : Text) (x : A) → AllOf P es → P name x → AllOf P (with_name es name x)
  all_with P es name x h g = by (is_some (entry_of es name))
    where
      by : (b : Bool) → AllOf P (if b then es else es ++ (name, x) ∷ [])
      by true = h
      by false = all_parts P es ((name, x) ∷ []) h (g, tt)

  entry_before : (es more : List (Text × A)) (name : Text) (x : A) → entry_of es name ≡ Some x → entry_of (es ++ more) name ≡ Some x
  entry_before [] more name x e = absurd (none-some x e)
  entry_before (y ∷ es) more name x e = by (λ k. entry_before es more name x k) (bytes_eq name y.0) e
    where
      by : (entry_of es name ≡ Some x → entry_of (es ++ more) name ≡ Some x) → (b : Bool) → (if b then Some y.1 else entry_of es name) ≡ Some x → (if b then Some y.1 else entry_of (es ++ more) name) ≡ Some x
      by rec true e = e
      by rec false e = rec e

  -- older entries stay
  pub entry_kept : (es : List (Text × A)) (name : Text) (x : A) (other : Text) (y : A) → entry_of es name ≡ Some x → entry_of (with_name es other y) name ≡ Some x
  entry_kept es name x other y e = by (is_some (entry_of es other))
    where
      by : (b : Bool) → entry_of (if b then es else es ++ (other, y) ∷ []) name ≡ Some x
      by true = e
      by false = entry_before es ((other, y) ∷ []) name x e

  entry_last : (es : List (Text × A)) (name : Text) (x : A) → entry_of es name ≡ None → bytes_eq name name ≡ true → entry_of (es ++ (name, x) ∷ []) name ≡ Some x
  entry_last [] name x e same = ap (λ b. if b then Some x else None) same
  entry_last (y ∷ es) name x e same = by (λ k. entry_last es name x k same) (bytes_eq name y.0) e
    where
      by : (entry_of es name ≡ None → entry_of (es ++ (name, x) ∷ []) name ≡ Some x) → (b : Bool) → (if b then Some y.1 else entry_of es name) ≡ None → (if b then Some y.1 else entry_of (es ++ (name, x) ∷ []) name) ≡ Some x
      by rec true e = cc
      by rec false e = rec e

  -- a new name is found
  pub entry_new : (es : List (Text × A)) (name : Text) (x : A) → entry_of es name ≡ None → bytes_eq name name ≡ true → entry_of (with_name es name x) name ≡ Some x
  entry_new es name x e same = ap (λ o. entry_of (if is_some o then es else es ++ (name, x) ∷ []) name) e ∙ entry_last es name x e same

-- ---- the scope of a file

module _ (whole : Known) (n : ℕ) (IsGlobal : Text → Type 0) where
  -- no name is that of a constant; a variable has a type and is a global, and a function's types are known. To what a variable
  -- points is known, and a function's type has a number
  abbrev pub IsEntry : Text → Meaning → Type 0
  IsEntry name (variable None) = ⊥
  IsEntry name (variable (Some t)) = IsFormed n t × AreDeclarable t.layers × (constant_named name ≡ None) × IsGlobal name × PointsKnown (lists_of whole) n t
  IsEntry name (function_of f) = (constant_named name ≡ None) × IsKnown n f × ((k : ℕ) × (type_numbered (lists_of whole) f ≡ Some k))

  -- known where a definition of the file begins
  pub record IsFile (known : Known) (scope : Scope) : Type 0 where
    pub scopes : known.scopes ≡ scope ∷ []
    pub structs : length known.struct_names ≡ n
    pub lists : lists_of known ≡ lists_of whole
    pub entries : AllOf IsEntry scope

  pub seen_entry : (known : Known) (scope : Scope) → IsFile known scope → (name : Text) (m : Meaning) → seen known name ≡ Some m → entry_of scope name ≡ Some m
  seen_entry known scope h name m e = only (entry_of scope name) (sym (ap (λ ss. seen_in ss name) h.scopes) ∙ e)
    where
      only : (o : Option Meaning) → or_else o None ≡ Some m → o ≡ Some m
      only None e = cc
      only (Some x) e = e

  is_entry : (known : Known) (scope : Scope) → IsFile known scope → (name : Text) (m : Meaning) → seen known name ≡ Some m → IsEntry name m
  is_entry known scope h name m e = found_entry IsEntry scope h.entries name m (seen_entry known scope h name m e)

  pub file_typed : (known : Known) (scope : Scope) → IsFile known scope → (name : Text) → seen known name ≡ Some (variable None) → ⊥
  file_typed known scope h name e = is_entry known scope h name (variable None) e

  pub file_variable : (known : Known) (scope : Scope) → IsFile known scope → (name : Text) (t : ObjectType) → seen known name ≡ Some (variable (Some t)) → IsEntry name (variable (Some t))
  file_variable known scope h name t e = is_entry known scope h name (variable (Some t)) e

  pub file_function : (known : Known) (scope : Scope) → IsFile known scope → (name : Text) (f : Signature) → seen known name ≡ Some (function_of f) → IsEntry name (function_of f)
  file_function known scope h name f e = is_entry known scope h name (function_of f) e

  file_declare : (known : Known) (scope : Scope) (name : Text) (m : Meaning) → IsFile known scope → IsEntry name m → IsFile (declare known name m) (with_name scope name m)
  file_declare known scope name m h g = record {
    scopes = ap (λ ss. declared_in ss name m) h.scopes;
    structs = h.structs;
    lists = h.lists;
    entries = all_with IsEntry scope name m h.entries g;
  }

  -- ---- objects

  no_constant : (name : Text) → is_library_name name ≡ false → constant_named name ≡ None
  no_constant name h = none (constant_named name) (or_parts (is_some (library_named name)) (is_some (constant_named name)) h).1
    where
      none : (o : Option ℤ) → is_some o ≡ false → o ≡ None
      none None e = refl
      none (Some x) e = cc

  declared_entry : (known : Known) (s : Specifier) (d : Declared) → length known.struct_names ≡ n → lists_of known ≡ lists_of whole → DeclaredListed (lists_of whole) s d → declared_faults known true s d ≡ [] → IsGlobal (declared_name d).text → IsEntry (declared_name d).text (variable (declared_type known s d))
  declared_entry known s d size lists listed h global =
      let a = nil4 (declarator_faults known s d) (taken_faults known (declared_name d)) (size_faults (cells_of_declared known s d) (declared_name d)) (global_name_faults true (global_cells_with true known.global_cells (cells_of_declared known s d)) (declared_name d)) h in
      let t = declared_known known s d (declared_number known whole lists s d listed a.0) a.0 in
      let free = or_parts (is_library_name (declared_name d).text) (is_some (entry_of (innermost known.scopes) (declared_name d).text)) (where_nil _ _ _ a.1) in
      subst (λ o. IsEntry (declared_name d).text (variable o)) (sym t.1)
      (subst (λ k. IsFormed k t.0) size (declared_formed known t.0 t.2), t.2.layers, no_constant (declared_name d).text free.0, global, subst (λ k. PointsKnown (lists_of whole) k t.0) size (declared_points known whole lists s d t.0 a.0 t.1))

  pub file_declared : (known : Known) (scope : Scope) (s : Specifier) (d : Declared) → IsFile known scope → DeclaredListed (lists_of whole) s d → declared_faults known true s d ≡ [] → IsGlobal (declared_name d).text → IsFile (after_declared known true s d) (with_name scope (declared_name d).text (variable (declared_type known s d)))
  file_declared known scope s d h listed e global =
      let one = file_declare known scope (declared_name d).text (variable (declared_type known s d)) h (declared_entry known s d h.structs h.lists listed e global) in
      record { scopes = one.scopes; structs = one.structs; lists = one.lists; entries = one.entries }

  -- ---- functions

  signature_known : (known inside : Known) (is_def : Bool) (s : Specifier) (stars : ℕ) (ps : Formals) → lists_of inside ≡ lists_of known → lists_of known ≡ lists_of whole → FormalsListed (lists_of whole) (listed_params ps) → specifier_faults known (stars == 0) s ≡ [] → cannot_give s stars ≡ false → params_faults inside is_def (listed_params ps) ≡ [] → length known.struct_names ≡ n → IsKnown n (signature_of known s stars ps)
  signature_known known inside is_def s stars ps near lists listed h give wants size = ((params_wanted known inside is_def (listed_params ps) (ap (λ k. k.struct_names) near) (formals_number known inside whole near lists is_def (listed_params ps) listed wants) wants).0, subst (λ k. IsSomeResult k (result_of known s stars)) size (result_known known s stars h give))

  -- the function that a name leads to after its declaration takes and gives the same kinds
  abbrev pub LeadsTo : Scope → Text → Signature → Type 0
  LeadsTo scope name f = (g : Signature) × (entry_of scope name ≡ Some (function_of g)) × IsKnown n g × SameKinds g f

  file_after : (known : Known) (scope : Scope) (name : Name) (f : Signature) (code : Code) → IsFile known scope → IsEntry name.text (function_of f) → IsFile (after_function known name f code) (with_name scope name.text (function_of f))
  file_after known scope name f (defined ps at) h g = let one = file_declare known scope name.text (function_of f) h g in record { scopes = one.scopes; structs = one.structs; lists = one.lists; entries = one.entries }
  file_after known scope name f prototype h g = file_declare known scope name.text (function_of f) h g

  leads : (known : Known) (scope : Scope) (name : Name) (f : Signature) (has_body : Bool) → IsFile known scope → IsKnown n f → again_faults (entry_of scope name.text) has_body f (name_place name) ≡ [] → LeadsTo (with_name scope name.text (function_of f)) name.text f
  leads known scope name f has_body h g e = by (entry_of scope name.text) refl e
    where
      by : (o : Option Meaning) → entry_of scope name.text ≡ o → again_faults o has_body f (name_place name) ≡ [] → LeadsTo (with_name scope name.text (function_of f)) name.text f
      by None is e = (f, entry_new scope name.text (function_of f) is (text_same name.text), g, (refl, refl))
      by (Some (variable t)) is e = cc
      by (Some (function_of k)) is e =
          let a = append_nil (where_it_comes has_body fault.DuplicateName (name_place name)) (mismatch (not (agree k f)) (name_place name)) e in
          let known_k = (found_entry IsEntry scope h.entries name.text (function_of k) is).1 in
          (k, entry_kept scope name.text (function_of k) name.text (function_of f) is, known_k, agreeing n k f known_k g (not_nil (agree k f) _ _ a.1))

  pub record IsFunction (known : Known) (scope : Scope) (s : Specifier) (stars : ℕ) (name : Name) (ps : Formals) (code : Code) : Type 0 where
    pub signature : IsKnown n (signature_of known s stars ps)
    pub formals : kinds_wanted (signature_of known s stars ps).params ≡ map is_pointer_formal (listed_params ps)
    pub file : IsFile (after_function known name (signature_of known s stars ps) code) (with_name scope name.text (function_of (signature_of known s stars ps)))
    pub leads_to : LeadsTo (with_name scope name.text (function_of (signature_of known s stars ps))) name.text (signature_of known s stars ps)
    pub again : again_faults (entry_of scope name.text) (is_definition code && has_name known.begun name.text) (signature_of known s stars ps) (name_place name) ≡ []
    pub as_main : (is_main name.text && not (is_main_signature (signature_of known s stars ps))) ≡ false
    pub params : params_faults (opened (after_function known name (signature_of known s stars ps) code)) (is_definition code) (listed_params ps) ≡ []
    pub body : body_faults (after_params (opened (after_function known name (signature_of known s stars ps) code)) (listed_params ps)) (signature_of known s stars ps).result code ≡ []

  pub file_function_after : (known : Known) (scope : Scope) (s : Specifier) (stars : ℕ) (name : Name) (ps : Formals) (code : Code) → IsFile known scope → IsTypeListed (lists_of whole) (signature_of (lists_of whole) s stars ps) → FormalsListed (lists_of whole) (listed_params ps) → function_faults known s stars name ps code ≡ [] → IsFunction known scope s stars name ps code
  file_function_after known scope s stars name ps code h type_listed listed e =
      let f = signature_of known s stars ps in
      let inner = opened (after_function known name f code) in
      let a = nil5 (specifier_faults known (stars == 0) s) (mismatch (cannot_give s stars) (name_place name)) (function_name_faults known name f code) (params_faults inner (is_definition code) (listed_params ps)) (body_faults (after_params inner (listed_params ps)) f.result code) e in
      let b = nil3 (where_it_comes (is_library_name name.text) fault.DuplicateName (name_place name)) (again_faults (entry_of (innermost known.scopes) name.text) (is_definition code && has_name known.begun name.text) f (name_place name)) (mismatch (is_main name.text && not (is_main_signature f)) (name_place name)) a.2 in
      let near : lists_of inner ≡ lists_of known = function_lists known name f code in
      let signed = signature_known known inner (is_definition code) s stars ps near h.lists listed a.0 (where_nil _ _ _ a.1) a.3 h.structs in
      let alike : signature_of (lists_of whole) s stars ps ≡ f = sym (signature_same known (lists_of whole) (ap (λ k. k.struct_names) h.lists) (ap (λ k. k.pointers) h.lists) s stars ps) in
      let number = type_number whole n f (subst (λ g. IsTypeListed (lists_of whole) g) alike type_listed) signed in
      let again' : again_faults (entry_of scope name.text) (is_definition code && has_name known.begun name.text) f (name_place name) ≡ [] = ap (λ ss. again_faults (entry_of (innermost ss) name.text) (is_definition code && has_name known.begun name.text) f (name_place name)) (sym h.scopes) ∙ b.1 in
      record {
        signature = signed;
        formals = (params_wanted known inner (is_definition code) (listed_params ps) (ap (λ k. k.struct_names) near) (formals_number known inner whole near h.lists (is_definition code) (listed_params ps) listed a.3) a.3).1;
        file = file_after known scope name f code h (no_constant name.text (where_nil _ _ _ b.0), signed, number);
        leads_to = leads known scope name f (is_definition code && has_name known.begun name.text) h signed again';
        again = again';
        as_main = where_nil _ _ _ b.2;
        params = a.3;
        body = a.4;
      }
