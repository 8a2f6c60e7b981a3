-- The types of pointers to functions in a file without a fault: each that is declared has a number, and what has this number is
-- known.
use Rattle.std.proofs.Common.{◌≡◌, ℕ, zero, suc, ◌==◌, Bool, true, false, if◌then◌else◌, List, [], ◌∷◌, ◌++◌, map, replicate, length, position, Option, Some, None, slice_get, get_or, refl, sym, ap, ◌∙◌, subst, arith, true≢false}
use Rattle.std.proofs.lemmas.Bool.{and_from}
use Rattle.std.proofs.lemmas.Bool.Decides.{nat_tests}
use Rattle.std.proofs.lemmas.List.Quantifiers.{position-Some}
use Rattle.std.proofs.lemmas.Option.{same_Some, none-some}
use Rattle.rr_base.specs.Texts.{Text}
use Rattle.c_tree.specs.declared.name.Name.{Name}
use Rattle.c_tree.specs.declared.ctype.Specifier.{Specifier}
use Rattle.c_tree.specs.Tree.{Formal, formal, formal_pointer, Formals, Declared, declared, declared_pointer}
use Rattle.c_types.specs.declared.types.BaseType.{BaseType}
use Rattle.c_types.specs.declared.types.BaseType.TheVariants as base
use Rattle.c_types.specs.declared.types.Layer.{Layer}
use Rattle.c_types.specs.declared.types.Layer.TheVariants as layer
use Rattle.c_types.specs.declared.types.ObjectType.{ObjectType}
use Rattle.c_types.specs.declared.library.StarredType.{StarredType}
use Rattle.c_types.specs.declared.library.Wanted.{Wanted}
use Rattle.c_types.specs.declared.library.Wanted.TheVariants as wants
use Rattle.c_types.specs.declared.names.Signature.{Signature}
use Rattle.c_types.specs.Operands.{same_base}
use Rattle.c_types.specs.Scopes.{Known, base_of, starred, is_complete}
use Rattle.c_types.specs.Signatures.{same_starred, same_result, same_params, same_signature, pointed_types, pointer_numbered, type_numbered, signature_numbered}
use Rattle.c_types.specs.Standing.{layered_function, type_function}
use Rattle.c_types.specs.Types.{bare}
use Rattle.c_rules.specs.Faults.{name_place, mismatch, specifier_faults}
use Rattle.c_names.specs.Sources.{listed_params}
use Rattle.c_names.specs.Signatures.{cannot_pass, wanted_inside, pointed_by, pointer_of, cannot_give}
use Rattle.c_programs.specs.Declarators.{place_by, name_inside_faults, again_inside, inside_faults, with_inside, all_inside_faults, pointer_faults, declarator_faults, param_faults, params_faults, after_param, taken_faults, type_by, arrays_of, complete_by, declared_type, pointer_type, passed_by, param_type}
use Rattle.core_tree.specs.Core.{Program}
use Rattle.c_operators.specs.Context.{pointer_counted}
use Rattle.c_values.specs.Calls.{gives_pointer}
use Rattle.core_tree.specs.Sound.{IsPointerType}
use Rattle.source_sound.proofs.FileLists.{append_nil, nil3, where_nil}
use Rattle.source_sound.proofs.DeclaredTypes.{base_known, IsNumberedDeclared}
use Rattle.source_sound.proofs.Signatures.{kinds_wanted, AreFits, IsSomeResult, IsKnown, result_known, one_wanted, IsNumbered, AreNumbered}
use Rattle.source_sound.proofs.Pointers.{same_known}
use Rattle.source_sound.proofs.Results.{base_plain}
use Rattle.source_sound.proofs.Listed.{lists_of, pointed_same, number_same, IsWell, IsListed, IsTypeListed, DeclaredListed, FormalListed, FormalsListed}

-- ---- a type without a fault

inside_fit : (known : Known) (names : List Text) (ps : List Formal) → all_inside_faults known names ps ≡ [] → AreFits (map (wanted_inside known) ps)
inside_fit known names [] none = tt
inside_fit known names (formal s stars name at ∷ ps) none =
    let a = append_nil (inside_faults known names (formal s stars name at)) (all_inside_faults known (with_inside names (formal s stars name at)) ps) none in
    let b = nil3 (specifier_faults known (stars == 0) s) (mismatch (cannot_pass s stars) (place_by name at)) (name_inside_faults names name) a.0 in
    let bk = base_known known (stars == 0) s b.0 in
    let more = inside_fit known (with_inside names (formal s stars name at)) ps a.1 in
    subst (λ w. AreFits (w ∷ map (wanted_inside known) ps)) (sym (one_wanted (cannot_pass s stars) (base_of known s) stars bk.0 (where_nil _ _ _ b.1) bk.1)) more
inside_fit known names (formal_pointer s stars name qs at ∷ ps) none =
    let a = append_nil (inside_faults known names (formal_pointer s stars name qs at)) (all_inside_faults known (with_inside names (formal_pointer s stars name qs at)) ps) none in
    let b = nil3 (specifier_faults known (stars == 0) s) (mismatch true (name_place name)) (again_inside names name) a.0 in
    absurd (true≢false (where_nil _ _ _ b.1))

-- what a pointer's declaration without a fault tells is known
pub pointed_known : (known : Known) (s : Specifier) (stars : ℕ) (name : Name) (ps : Formals) → pointer_faults known s stars name ps ≡ [] → IsKnown (length known.struct_names) (pointed_by known s stars ps)
pointed_known known s stars name ps none =
    let a = nil3 (specifier_faults known (stars == 0) s) (mismatch (cannot_give s stars) (name_place name)) (all_inside_faults known [] (listed_params ps)) none in
    (inside_fit known [] (listed_params ps) a.2, result_known known s stars a.0 (where_nil _ _ _ a.1))

base_self : (b : BaseType) → same_base b b ≡ true
base_self base.Int = refl
base_self base.Void = refl
base_self (base.Struct k) = grind (arith, nat_tests)
base_self (base.Function k) = grind (arith, nat_tests)
base_self base.Mutex = refl
base_self base.Cond = refl
base_self base.Barrier = refl
base_self base.RwLock = refl

starred_self : (t : StarredType) → same_starred t t ≡ true
starred_self t = let stars : (t.stars == t.stars) ≡ true = grind (arith, nat_tests) in and_from _ _ stars (base_self t.base)

params_self : (ws : List Wanted) → AreFits ws → same_params ws ws ≡ true
params_self [] h = refl
params_self (wants.Fits t ∷ ws) h = and_from _ _ (starred_self t) (params_self ws h)
params_self (wants.Anything ∷ ws) h = absurd h
params_self (wants.Attribute ∷ ws) h = absurd h
params_self (wants.Root ∷ ws) h = absurd h
params_self (wants.Text ∷ ws) h = absurd h

result_self : (n : ℕ) (r : Option StarredType) → IsSomeResult n r → same_result r r ≡ true
result_self n None h = absurd h
result_self n (Some t) h = starred_self t

-- a type that is known is the same as itself
pub known_well : (n : ℕ) (f : Signature) → IsKnown n f → IsWell f
known_well n f h = and_from _ _ (result_self n f.result h.1) (params_self f.params h.0)

-- ---- its number

-- a pointer that is declared has one
pub pointer_number : (known whole : Known) → lists_of known ≡ lists_of whole → (s : Specifier) (stars : ℕ) (name : Name) (ps : Formals) → IsListed (lists_of whole) s stars ps → pointer_faults known s stars name ps ≡ [] → (k : ℕ) × (pointer_of known s stars ps ≡ Some k)
pointer_number known whole same s stars name ps listed none =
    let well = known_well (length known.struct_names) (pointed_by known s stars ps) (pointed_known known s stars name ps none) in
    let here' = subst (λ lists. IsListed lists s stars ps) (sym same) listed in
    let number = here' (subst IsWell (pointed_same known (lists_of known) refl s stars ps) well) in
    (number.0, number_same known (lists_of known) refl refl s stars ps ∙ number.1)

pub declared_number : (known whole : Known) → lists_of known ≡ lists_of whole → (s : Specifier) (d : Declared) → DeclaredListed (lists_of whole) s d → declarator_faults known s d ≡ [] → IsNumberedDeclared known s d
declared_number known whole same s (declared stars name lengths) listed none = tt
declared_number known whole same s (declared_pointer stars name ps) listed none = pointer_number known whole same s stars name ps listed none

pub formal_number : (known whole : Known) → lists_of known ≡ lists_of whole → (is_def : Bool) (p : Formal) → FormalListed (lists_of whole) p → param_faults known is_def p ≡ [] → IsNumbered known p
formal_number known whole same is_def (formal s stars name at) listed none = tt
formal_number known whole same is_def (formal_pointer s stars name ps at) listed none =
    pointer_number known whole same s stars name ps listed (append_nil (pointer_faults known s stars name ps) (taken_faults known name) none).0

pub param_lists : (known : Known) (p : Formal) → lists_of (after_param known p) ≡ lists_of known
param_lists known (formal s stars None at) = refl
param_lists known (formal s stars (Some name) at) = refl
param_lists known (formal_pointer s stars name ps at) = refl

numbered_same : (known inside : Known) → lists_of inside ≡ lists_of known → (p : Formal) → IsNumbered inside p → IsNumbered known p
numbered_same known inside same (formal s stars name at) h = tt
numbered_same known inside same (formal_pointer s stars name ps at) h = (h.0, sym (number_same inside known (ap (λ k. k.struct_names) same) (ap (λ k. k.pointers) same) s stars ps) ∙ h.1)

-- each sees the ones before it, as `inside` the function
pub formals_number : (known inside whole : Known) → lists_of inside ≡ lists_of known → lists_of known ≡ lists_of whole → (is_def : Bool) (ps : List Formal) → FormalsListed (lists_of whole) ps → params_faults inside is_def ps ≡ [] → AreNumbered known ps
formals_number known inside whole near same is_def [] listed none = tt
formals_number known inside whole near same is_def (p ∷ ps) listed none =
    let a = append_nil (param_faults inside is_def p) (params_faults (after_param inside p) is_def ps) none in (
      numbered_same known inside near p (formal_number inside whole (near ∙ same) is_def p listed.0 a.0),
      formals_number known (after_param inside p) whole (param_lists inside p ∙ near) same is_def ps listed.1 a.1,
    )

-- a function's type has one
pub type_number : (whole : Known) (n : ℕ) (f : Signature) → IsTypeListed (lists_of whole) f → IsKnown n f → (k : ℕ) × (type_numbered (lists_of whole) f ≡ Some k)
type_number whole n f listed is = listed (known_well n f is)

-- ---- what has the number

pub passes_there : (p : Signature → Bool) (fs : List Signature) (k : ℕ) (g : Signature) → position p fs ≡ Some k → slice_get fs k ≡ Some g → p g ≡ true
passes_there p fs k g e is = sym (ap p (got fs k g is)) ∙ (position-Some p fs k g e).1
  where
    got : (fs : List Signature) (k : ℕ) (g : Signature) → slice_get fs k ≡ Some g → get_or fs k g ≡ g
    got [] k g e = absurd (none-some g e)
    got (f ∷ fs) zero g e = same_Some f g e
    got (f ∷ fs) (suc k) g e = got fs k g e

-- a type to which pointers of the object's type point is known
abbrev pub PointsKnown : Known → ℕ → ObjectType → Type 0
PointsKnown lists n t = (k : ℕ) (g : Signature) → type_function t ≡ Some k → signature_numbered lists k ≡ Some g → IsKnown n g

-- calls through pointers whose types are known are there
abbrev pub HavePointerTypes : Program → ℕ → Known → Type 0
HavePointerTypes p n lists = (k : ℕ) (g : Signature) → signature_numbered lists k ≡ Some g → IsKnown n g → IsPointerType p (pointer_counted lists k) (false ∷ kinds_wanted g.params) (gives_pointer g.result)

-- where it is the same as one that is
pub same_points : (lists : Known) (n : ℕ) (f : Signature) (k : ℕ) → IsKnown n f → pointer_numbered lists f ≡ Some k → PointsKnown lists n (bare (base.Function k))
same_points lists n f k is e j g at got =
    let same : k ≡ j = same_Some k j at in
    let there = subst (λ i. signature_numbered lists i ≡ Some g) (sym same) got in
    (same_known n f g is.1 (passes_there (same_signature f) (pointed_types lists) k g e there)).0

pub pointer_points : (known whole : Known) → lists_of known ≡ lists_of whole → (s : Specifier) (stars : ℕ) (name : Name) (ps : Formals) (k : ℕ) → pointer_faults known s stars name ps ≡ [] → pointer_of known s stars ps ≡ Some k → PointsKnown (lists_of whole) (length known.struct_names) (bare (base.Function k))
pointer_points known whole same s stars name ps k none e =
    subst (λ lists. PointsKnown lists (length known.struct_names) (bare (base.Function k))) same (same_points (lists_of known) (length known.struct_names) (pointed_by known s stars ps) k (pointed_known known s stars name ps none) e)

-- no object of another type is such a pointer
pub no_pointer : (lists : Known) (n : ℕ) (t : ObjectType) → type_function t ≡ None → PointsKnown lists n t
no_pointer lists n t none k g e got = absurd (none-some k (sym none ∙ e))

no_function_base : (known : Known) (s : Specifier) (b : BaseType) (ls : List Layer) → base_of known s ≡ Some b → layered_function ls b ≡ None
no_function_base known s b (l ∷ ls) e = refl
no_function_base known s b [] e = base_plain known s b e

typed_by : (known : Known) (s : Specifier) (o : Option BaseType) (stars : ℕ) (a : Option (List Layer)) (t : ObjectType) → base_of known s ≡ o → complete_by known (type_by o stars a) ≡ Some t → type_function t ≡ None
typed_by known s None stars a t is e = absurd (none-some t e)
typed_by known s (Some b) stars None t is e = absurd (none-some t e)
typed_by known s (Some b) stars (Some ls) t is e =
    let u : ObjectType = record { layers = ls ++ replicate stars layer.Pointer; base = b } in
    chosen (is_complete known u) u t (no_function_base known s b (ls ++ replicate stars layer.Pointer) is) e
  where
    chosen : (c : Bool) (u t : ObjectType) → type_function u ≡ None → (if c then Some u else None) ≡ Some t → type_function t ≡ None
    chosen true u t none e = ap type_function (sym (same_Some u t e)) ∙ none
    chosen false u t none e = absurd (none-some t e)

-- what an object's type points to is known
pub declared_points : (known whole : Known) → lists_of known ≡ lists_of whole → (s : Specifier) (d : Declared) (t : ObjectType) → declarator_faults known s d ≡ [] → declared_type known s d ≡ Some t → PointsKnown (lists_of whole) (length known.struct_names) t
declared_points known whole same s (declared stars name lengths) t none e =
    no_pointer (lists_of whole) (length known.struct_names) t (typed_by known s (base_of known s) stars (arrays_of known lengths) t refl e)
declared_points known whole same s (declared_pointer stars name ps) t none e = pointing (pointer_of known s stars ps) refl e
  where
    pointing : (o : Option ℕ) → pointer_of known s stars ps ≡ o → pointer_type o ≡ Some t → PointsKnown (lists_of whole) (length known.struct_names) t
    pointing None is e = absurd (none-some t e)
    pointing (Some k) is e = subst (λ u. PointsKnown (lists_of whole) (length known.struct_names) u) (same_Some (bare (base.Function k)) t e) (pointer_points known whole same s stars name ps k none is)

-- nor a formal's
pub formal_points : (known whole : Known) → lists_of known ≡ lists_of whole → (is_def : Bool) (p : Formal) (t : ObjectType) → param_faults known is_def p ≡ [] → param_type known p ≡ Some t → PointsKnown (lists_of whole) (length known.struct_names) t
formal_points known whole same is_def (formal s stars name at) t none e = by (cannot_pass s stars) (base_of known s) refl e
  where
    by : (c : Bool) (o : Option BaseType) → base_of known s ≡ o → passed_by c o stars ≡ Some t → PointsKnown (lists_of whole) (length known.struct_names) t
    by true o is e = absurd (none-some t e)
    by false None is e = absurd (none-some t e)
    by false (Some b) is e = no_pointer (lists_of whole) (length known.struct_names) t (ap type_function (sym (same_Some (starred stars b) t e)) ∙ no_function_base known s b (replicate stars layer.Pointer) is)
formal_points known whole same is_def (formal_pointer s stars name ps at) t none e = pointing (pointer_of known s stars ps) refl e
  where
    faultless : pointer_faults known s stars name ps ≡ []
    faultless = (append_nil (pointer_faults known s stars name ps) (taken_faults known name) none).0

    pointing : (o : Option ℕ) → pointer_of known s stars ps ≡ o → pointer_type o ≡ Some t → PointsKnown (lists_of whole) (length known.struct_names) t
    pointing None is e = absurd (none-some t e)
    pointing (Some k) is e = subst (λ u. PointsKnown (lists_of whole) (length known.struct_names) u) (same_Some (bare (base.Function k)) t e) (pointer_points known whole same s stars name ps k faultless is)
