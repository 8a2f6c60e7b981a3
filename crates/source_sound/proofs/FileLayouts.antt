-- The layouts of a whole file without a fault fit: those of each definition.
use Rattle.std.proofs.Common.{◌≡◌, ℕ, zero, suc, ◌+◌, Bool, true, false, ◌&&◌, ◌==◌, List, [], ◌∷◌, length, replicate, Option, Some, None, is_some, is_none, refl, sym, ap, ◌∙◌, subst}
use Rattle.std.proofs.lemmas.Bool.{or_parts}
use Rattle.word_semantics.specs.Layouts.{layout_fits}
use Rattle.source_sound.proofs.Signatures.{IsNumbered}
use Rattle.c_types.specs.declared.types.BaseType.TheVariants as base
use Rattle.c_types.specs.Types.{bare}
use Rattle.rr_base.specs.Texts.{Text, entry_of}
use Rattle.c_tree.specs.declared.name.Name.{Name}
use Rattle.c_tree.specs.declared.ctype.Specifier.{Specifier}
use Rattle.c_tree.specs.Tree.{Formal, Declared, Code, defined, prototype, Fields, fields, Outer, structure, function, objects, formal, formal_pointer}
use Rattle.c_types.specs.declared.types.BaseType.{BaseType}
use Rattle.c_types.specs.declared.types.Layer.TheVariants as layer
use Rattle.c_types.specs.declared.types.ObjectType.{ObjectType}
use Rattle.c_types.specs.declared.library.StarredType.{StarredType}
use Rattle.c_types.specs.declared.fault.FaultKind.TheVariants as fault
use Rattle.c_types.specs.Found.{where_it_comes}
use Rattle.c_types.specs.Scopes.{Known, Scope, Members, Meaning, variable, function_of, base_of, starred, is_complete, opened}
use Rattle.c_rules.specs.Faults.{name_place, mismatch, specifier_faults}
use Rattle.c_names.specs.Sources.{declared_name, listed_params, param_name}
use Rattle.c_programs.specs.Declarators.{declarator_faults, size_faults, has_member, one_member_faults, some_members_faults, with_member, with_members, fields_faults, struct_cells, is_struct_defined, passed_by, named_by, param_type, param_name_faults, param_faults, params_faults, after_param, after_params, pointer_type, place_by}
use Rattle.c_names.specs.Signatures.{is_void_specifier, is_struct_specifier, cannot_pass, signature_of}
use Rattle.c_programs.specs.Programs.{after_function, body_faults, is_definition, after_outer}
use Rattle.c_locals.specs.Addresses.{count_of_outer}
use Rattle.c_locals.specs.Kept.{is_kept_formal}
use Rattle.c_spots.specs.Spots.{Spot, spot_named, file_level, in_function, holder_in, is_cell_in, declared_lengths, lengths_allocations, parts_spots, members_allocations, fields_allocations, formal_spot, formals_spots, code_spots, outer_spots, outers_spots}
use Rattle.c_sites.specs.Sites.{layout_by}
use Rattle.c_operators.specs.Context.{Source, global_named}
use Rattle.source_sound.proofs.Environment.{IsFormed}
use Rattle.source_sound.proofs.FileLists.{append_nil, nil3, nil4, where_nil}
use Rattle.source_sound.proofs.Structs.{AreSmall}
use Rattle.source_sound.proofs.DeclaredTypes.{IsDeclared, AreDeclarable, base_known, complete_specifier, declared_formed, only_pointers, ArePointers}
use Rattle.source_sound.proofs.FileScope.{AllOf, IsEntry}
use Rattle.source_sound.proofs.FileObjects.{IsWhole, IsPlace, has_structs}
use Rattle.source_sound.proofs.FileOuters.{AreSoundFrom, OneOn, one_on, function_is}
use Rattle.source_sound.proofs.Listed.{lists_of, FormalListed, FormalsListed, CodeListed}
use Rattle.source_sound.proofs.PointerNumbers.{PointsKnown, formal_number, formal_points}
use Rattle.source_sound.proofs.TypedExpressions.{IsTypedName, AreTypedScopes}
use Rattle.source_sound.proofs.Layouts.{AllLaidOut, laid, pointers_fit}
use Rattle.source_sound.proofs.SpotLayouts.{IsAt, opened_at, declare_at, kept_laid, declared_lengths_laid, objects_laid, parts_laid}

-- ---- parameters

stars_declarable : (stars : ℕ) → AreDeclarable (replicate stars layer.Pointer)
stars_declarable zero = tt
stars_declarable (suc k) = only_pointers k

passed_complete : (known : Known) (sp : Specifier) (stars : ℕ) (b : BaseType) → specifier_faults known (stars == 0) sp ≡ [] → cannot_pass sp stars ≡ false → base_of known sp ≡ Some b → is_complete known (starred stars b) ≡ true
passed_complete known sp zero b h pass is = complete_specifier known sp b h (or_parts (is_void_specifier sp) (is_struct_specifier sp) pass).0 is
passed_complete known sp (suc k) b h pass is = refl

-- the type of a parameter without a fault
record IsParam (known : Known) (q : Formal) : Type 0 where
  type : ObjectType
  is : param_type known q ≡ Some type
  declared : IsDeclared known type
  pointers : ArePointers type.layers

param_is : (known : Known) (is_def : Bool) (q : Formal) → IsNumbered known q → param_faults known is_def q ≡ [] → IsParam known q
param_is known is_def (formal s stars name at) numbered e =
    let p = nil4 (specifier_faults known (stars == 0) s) (mismatch (cannot_pass s stars) (place_by name at)) (mismatch (is_def && is_none name) (place_by name at)) (param_name_faults known name) e in
    let bk = base_known known (stars == 0) s p.0 in
    let pass = where_nil _ _ _ p.1 in
    record {
      type = starred stars bk.0;
      is = ap (λ c. passed_by c (base_of known s) stars) pass ∙ ap (λ o. passed_by false o stars) bk.1;
      declared = record { layers = stars_declarable stars; base = bk.2; complete = passed_complete known s stars bk.0 p.0 pass bk.1 };
      pointers = only_pointers stars;
    }
param_is known is_def (formal_pointer s stars name ps at) numbered e =
    record { type = bare (base.Function numbered.0); is = ap pointer_type numbered.1; declared = record { layers = tt; base = tt; complete = refl }; pointers = tt }

module _ (s : Source) (n : ℕ) (whole : IsWhole s n) (small : AreSmall s.kinds) (size : length s.kinds ≡ n) where
  abbrev At : Known → Type 0
  At known = IsAt s n whole small size known

  abbrev Fit : List Spot → Type 0
  Fit xs = AllLaidOut s.kinds xs

  param_formed : (known : Known) (q : Formal) → At known → (o : IsParam known q) → IsFormed n o.type
  param_formed known q h o = subst (λ k. IsFormed k o.type) h.structs (declared_formed known o.type o.declared)

  param_here : (known : Known) (is_def : Bool) (q : Formal) → At known → FormalListed (lists_of s.whole) q → param_faults known is_def q ≡ [] → IsParam known q
  param_here known is_def q h listed e = param_is known is_def q (formal_number known s.whole h.has.lists is_def q listed e) e

  named_at : (known : Known) (name : Option Name) (t : Option ObjectType) → At known → ((x : Text) → IsTypedName n (lists_of s.whole) x (variable t)) → At (named_by known name t)
  named_at known None t h typed = h
  named_at known (Some name) t h typed = declare_at s n whole small size known name.text (variable t) h (typed name.text)

  param_at : (known : Known) (is_def : Bool) (q : Formal) → At known → FormalListed (lists_of s.whole) q → param_faults known is_def q ≡ [] → At (after_param known q)
  param_at known is_def q h listed e =
      let o = param_here known is_def q h listed e in
      let points = subst (λ k. PointsKnown (lists_of s.whole) k o.type) h.structs (formal_points known s.whole h.has.lists is_def q o.type e o.is) in
      named_at known (param_name q) (param_type known q) h (λ name. subst (λ z. IsTypedName n (lists_of s.whole) name (variable z)) (sym o.is) (param_formed known q h o, o.declared.layers, points))

  module _ (f : Text) (ns : List ℕ) where
    formal_laid : (known : Known) (m : ℕ) (is_def : Bool) (q : Formal) (x : Option Name) → At known → FormalListed (lists_of s.whole) q → param_faults known is_def q ≡ [] → Fit (formal_spot (in_function f ns) known m q x)
    formal_laid known m is_def q None h listed e = tt
    formal_laid known m is_def q (Some name) h listed e =
        let o = param_here known is_def q h listed e in
        let fits = pointers_fit s.kinds n small size o.type (param_formed known q h o) o.pointers in
        kept_laid s n whole small size (is_cell_in (in_function f ns) m (is_kept_formal q)) (spot_named (holder_in (in_function f ns) name.text) name (param_type known q)) (subst (λ z. layout_fits (layout_by s.kinds z) ≡ true) (sym o.is) fits)

    formals_laid : (known : Known) (m : ℕ) (is_def : Bool) (qs : List Formal) → At known → FormalsListed (lists_of s.whole) qs → params_faults known is_def qs ≡ [] → Fit (formals_spots (in_function f ns) known m qs) × At (after_params known qs)
    formals_laid known m is_def [] h listed e = (tt, h)
    formals_laid known m is_def (q ∷ qs) h listed e =
        let p = append_nil (param_faults known is_def q) (params_faults (after_param known q) is_def qs) e in
        let more = formals_laid (after_param known q) (m + 1) is_def qs (param_at known is_def q h listed.0 p.0) listed.1 p.1 in
        (laid s.kinds n small size (formal_spot (in_function f ns) known m q (param_name q)) (formals_spots (in_function f ns) (after_param known q) (m + 1) qs) (formal_laid known m is_def q (param_name q) h listed.0 p.0) more.0, more.1)

    code_laid : (known : Known) (m : ℕ) (result : Option StarredType) (qs : List Formal) (code : Code) → At known → FormalsListed (lists_of s.whole) qs → CodeListed (lists_of s.whole) code → params_faults (opened known) (is_definition code) qs ≡ [] → body_faults (after_params (opened known) qs) result code ≡ [] → Fit (code_spots (in_function f ns) known m qs code)
    code_laid known m result qs prototype h listed code e b = tt
    code_laid known m result qs (defined parts at) h listed code e b =
        let formals = formals_laid (opened known) m true qs (opened_at s n whole small size known h) listed e in
        laid s.kinds n small size (formals_spots (in_function f ns) (opened known) m qs) (parts_spots (in_function f ns) (after_params (opened known) qs) (m + length qs) parts) formals.0
        (parts_laid s n whole small size f ns result (after_params (opened known) qs) (m + length qs) false parts formals.1 code b)

  -- ---- structs

  members_laid : (known : Known) (sp : Specifier) (ms : Members) (ds : List Declared) → At known → some_members_faults known sp ms ds ≡ [] → Fit (members_allocations known ds)
  members_laid known sp ms [] h e = tt
  members_laid known sp ms (d ∷ ds) h e =
      let p = append_nil (one_member_faults known sp ms d) (some_members_faults known sp (with_member known sp ms d) ds) e in
      let q = append_nil (declarator_faults known sp d) (where_it_comes (has_member ms (declared_name d).text) fault.DuplicateName (name_place (declared_name d))) p.0 in
      laid s.kinds n small size (lengths_allocations known (declared_lengths d)) (members_allocations known ds) (declared_lengths_laid s n whole small size known sp d h q.0) (members_laid known sp (with_member known sp ms d) ds h p.1)

  fields_laid : (known : Known) (ms : Members) (fs : List Fields) → At known → fields_faults known ms fs ≡ [] → Fit (fields_allocations known fs)
  fields_laid known ms [] h e = tt
  fields_laid known ms (fields sp ds at ∷ fs) h e =
      let p = append_nil (some_members_faults known sp ms ds) (fields_faults known (with_members known sp ms ds) fs) e in
      laid s.kinds n small size (members_allocations known ds) (fields_allocations known fs) (members_laid known sp ms ds h p.0) (fields_laid known (with_members known sp ms ds) fs h p.1)

  -- ---- a place between definitions

  entry_typed : (G : Text → Type 0) (name : Text) (m : Meaning) → IsEntry s.whole n G name m → IsTypedName n (lists_of s.whole) name m
  entry_typed G name (variable None) h = absurd h
  entry_typed G name (variable (Some t)) h = (h.0, h.1, h.4)
  entry_typed G name (function_of f) h = (h.1, h.2)

  entries_typed : (G : Text → Type 0) (es : Scope) → AllOf (IsEntry s.whole n G) es → AllOf (IsTypedName n (lists_of s.whole)) es
  entries_typed G [] h = tt
  entries_typed G (e ∷ es) h = (entry_typed G e.0 e.1 h.0, entries_typed G es h.1)

  place_at_file : (known : Known) (scope : Scope) → IsPlace s n known scope → At known
  place_at_file known scope h = record {
    names = subst (λ ss. AreTypedScopes n (lists_of s.whole) ss) (sym h.file.scopes) (entries_typed (λ x. is_some (entry_of s.globals x) ≡ true) scope h.file.entries, tt);
    has = has_structs s n known scope h;
    structs = h.file.structs;
  }

  module _ (Good : ℕ → Type 0) (good : (name : Text) → is_some (entry_of s.globals name) ≡ true → Good (global_named s name)) (ns : List ℕ) where
    outer_laid : (known : Known) (scope : Scope) (m : ℕ) (o : Outer) (os : List Outer) → AreSoundFrom s n whole Good good ns known scope m (o ∷ os) → OneOn s n whole Good good ns known scope m o os → Fit (outer_spots ns known m o)
    outer_laid known scope m (structure name fs) os h one =
        let p = nil3 (where_it_comes (is_struct_defined known name.text) fault.DuplicateName (name_place name)) (fields_faults known [] fs) (size_faults (struct_cells known fs) name) one.own in
        fields_laid known [] fs (place_at_file known scope h.place) p.1
    outer_laid known scope m (function is_static sp stars name ps code) os h one =
        let f = signature_of known sp stars ps in
        let after = after_function known name f code in
        let is = function_is s n whole Good good ns known scope is_static sp stars name ps code h.place one.listed one.own in
        code_laid name.text ns after m f.result (listed_params ps) code (place_at_file after one.goes.scope one.goes.place) one.listed.1 one.listed.2 is.params is.body
    outer_laid known scope m (objects is_static sp xs at) os h one = objects_laid s n whole small size file_level known m sp xs (place_at_file known scope h.place) one.listed one.own

    pub all_laid : (known : Known) (scope : Scope) (m : ℕ) (os : List Outer) → AreSoundFrom s n whole Good good ns known scope m os → Fit (outers_spots ns known m os)
    all_laid known scope m [] h = tt
    all_laid known scope m (o ∷ os) h =
        let one = one_on s n whole Good good ns known scope m o os h in
        laid s.kinds n small size (outer_spots ns known m o) (outers_spots ns (after_outer known o) (m + count_of_outer o) os) (outer_laid known scope m o os h one) (all_laid (after_outer known o) one.goes.scope (m + count_of_outer o) os one.rest)
