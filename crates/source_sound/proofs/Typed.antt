-- The types of what is declared: where a declarator has no fault its type is known, and each type that is known is formed.
-- One that is not kept in cells is a whole number or a pointer.
use Rattle.std.proofs.Common.{◌≡◌, ℕ, zero, suc, ◌<◌, ◌≤◌, ◌==◌, nat_lt, Bool, true, false, not, ◌&&◌, ◌||◌, if◌then◌else◌, ℤ, pos, negsuc, List, [], ◌∷◌, ◌++◌, length, map, replicate, Option, Some, None, Ok, Err, is_none, bytes_eq, refl, sym, ap, ◌∙◌, subst, arith, ltb-true, lt-ltb}
use Rattle.std.specs.Option.{option_map}
use Rattle.std.specs.List.{position_or_len}
use Rattle.c_types.specs.Types.{bare}
use Rattle.rr_base.specs.Texts.{Text}
use Rattle.c_tree.specs.declared.name.Name.{Name}
use Rattle.c_tree.specs.declared.ctype.Specifier.{Specifier}
use Rattle.c_tree.specs.declared.ctype.Specifier.TheVariants as specifier
use Rattle.c_tree.specs.Tree.{formal, Exp, Declared, declared, declared_pointer}
use Rattle.rr_base.specs.declared.position.Position.{Position}
use Rattle.c_types.specs.declared.types.BaseType.{BaseType}
use Rattle.c_types.specs.declared.types.BaseType.TheVariants as base
use Rattle.c_types.specs.declared.types.Layer.{Layer}
use Rattle.c_types.specs.declared.types.Layer.TheVariants as layer
use Rattle.c_types.specs.declared.types.ObjectType.{ObjectType}
use Rattle.c_types.specs.declared.fault.FaultKind.TheVariants as fault
use Rattle.c_types.specs.Found.{first_among}
use Rattle.c_types.specs.Numbers.{Computed}
use Rattle.c_types.specs.Constants.{is_constant}
use Rattle.c_types.specs.Scopes.{Known, struct_numbered, base_of, starred, is_complete_base, is_complete_layered, is_complete}
use Rattle.c_types.specs.Operands.{type_operand}
use Rattle.c_types.specs.Standing.{layered_target, type_target, layered_struct, type_struct}
use Rattle.c_rules.specs.Faults.{first_place, name_place, mismatch, specifier_faults, lacks_struct_by, is_unknown_struct, expression_faults}
use Rattle.c_constants.specs.Values.{value_here}
use Rattle.c_rules.specs.Sizes.{is_trap, is_sound, constant_faults, is_short, is_short_length, length_faults, positive, positive_value, length_of}
use Rattle.c_programs.specs.Declarators.{pointer_type, with_arrays, type_by, arrays_of, complete_by, declared_type, passed_by, param_type, declarator_faults, lengths_faults}
use Rattle.c_names.specs.Signatures.{is_void_specifier, cannot_pass, pointer_of}
use Rattle.c_locals.specs.Kept.{is_kept_specifier, is_kept}
use Rattle.c_operators.specs.Denoted.{is_pointing}
use Rattle.source_sound.proofs.DeclaredTypes.{IsNumberedDeclared}
use Rattle.source_sound.proofs.Environment.{IsFormedBase, IsFormedPointee, IsFormedLayered, IsFormed, IsFormedTarget}
use Rattle.source_sound.proofs.NoFaults.{append_nil, three_nil, never, matches, not_false}

-- ---- lengths

-- each array has at least one element
abbrev AreLong : List Layer → Type 0
AreLong [] = Unit {0}
AreLong (layer.Array m ∷ ls) = (1 ≤ m) × AreLong ls
AreLong (layer.Pointer ∷ ls) = ⊥

AreLong-append : (xs ys : List Layer) → AreLong xs → AreLong ys → AreLong (xs ++ ys)
AreLong-append [] ys l m = m
AreLong-append (layer.Array n ∷ xs) ys l m = (l.0, AreLong-append xs ys l.1 m)
AreLong-append (layer.Pointer ∷ xs) ys l m = absurd l

tested_above : (b : Bool) (m n : ℕ) → nat_lt 0 m ≡ b → (if b then Some m else None) ≡ Some n → 1 ≤ n
tested_above true m n is e = let same : m ≡ n = cc in omega (arith, ltb-true 0 m is, same)
tested_above false m n is e = cc

positive_long : (z : ℤ) (n : ℕ) → positive z ≡ Some n → 1 ≤ n
positive_long (pos m) n e = tested_above (nat_lt 0 m) m n refl e
positive_long (negsuc m) n e = cc

value_long : (c : Computed) (n : ℕ) → positive_value c ≡ Some n → 1 ≤ n
value_long (Ok z) n e = positive_long z n e
value_long (Err t) n e = cc

length_long_by : (b : Bool) (c : Computed) (n : ℕ) → (if b then positive_value c else None) ≡ Some n → 1 ≤ n
length_long_by true c n e = value_long c n e
length_long_by false c n e = cc

length_long : (known : Known) (e : Exp) (n : ℕ) → length_of known e ≡ Some n → 1 ≤ n
length_long known e n is = length_long_by (is_constant e && is_sound known e) (value_here known e) n is

-- of lengths that are known to be long
abbrev AllLong : List (Option ℕ) → Type 0
AllLong [] = Unit {0}
AllLong (None ∷ ns) = AllLong ns
AllLong (Some n ∷ ns) = (1 ≤ n) × AllLong ns

long_by : (o : Option ℕ) (ns : List (Option ℕ)) → ((n : ℕ) → o ≡ Some n → 1 ≤ n) → AllLong ns → AllLong (o ∷ ns)
long_by None ns l m = m
long_by (Some n) ns l m = (l n refl, m)

all_long : (known : Known) (es : List Exp) → AllLong (map (length_of known) es)
all_long known [] = tt
all_long known (e ∷ es) = long_by (length_of known e) (map (length_of known) es) (length_long known e) (all_long known es)

arrays_long : (ls : List Layer) (ns : List (Option ℕ)) (arrays : List Layer) → AreLong ls → AllLong ns → with_arrays ls ns ≡ Some arrays → AreLong arrays
arrays_long ls [] arrays l m e = let is : ls ≡ arrays = cc in subst AreLong is l
arrays_long ls (None ∷ ns) arrays l m e = let no : ⊥ = cc in absurd no
arrays_long ls (Some n ∷ ns) arrays l m e = arrays_long (ls ++ layer.Array n ∷ []) ns arrays (AreLong-append ls (layer.Array n ∷ []) l (m.0, tt)) m.1 e

-- ---- a type that is known is formed

-- a number below that of the structs
numbered_by : (b : Bool) (i many : ℕ) (o : ℕ) → nat_lt i many ≡ b → (if b then Some i else None) ≡ Some o → o < many
numbered_by true i many o is e = let same : i ≡ o = cc in omega (arith, ltb-true i many is, same)
numbered_by false i many o is e = cc

pub struct_below : (known : Known) (name : Text) (k : ℕ) → struct_numbered known name ≡ Some k → k < length known.struct_names
struct_below known name k e =
    numbered_by (nat_lt (position_or_len (λ n. bytes_eq name n) known.struct_names) (length known.struct_names)) (position_or_len (λ n. bytes_eq name n) known.struct_names) (length known.struct_names) k refl e

-- what a specifier names may stand behind a pointer
struct_pointee : (o : Option ℕ) (n : ℕ) (b : BaseType) → ((k : ℕ) → o ≡ Some k → k < n) → option_map base.Struct o ≡ Some b → IsFormedPointee n b
struct_pointee None n b below e = let no : ⊥ = cc in absurd no
struct_pointee (Some k) n b below e = let is : base.Struct k ≡ b = cc in subst (IsFormedPointee n) is (below k refl)

base_pointee : (known : Known) (n : ℕ) → length known.struct_names ≤ n → (s : Specifier) (b : BaseType) → base_of known s ≡ Some b → IsFormedPointee n b
base_pointee known n le (specifier.Int at) b e = let is : base.Int ≡ b = cc in subst (IsFormedPointee n) is tt
base_pointee known n le (specifier.Long second int at) b e = let is : base.Int ≡ b = cc in subst (IsFormedPointee n) is tt
base_pointee known n le (specifier.Void at) b e = let is : base.Void ≡ b = cc in subst (IsFormedPointee n) is tt
base_pointee known n le (specifier.Struct name at) b e =
    struct_pointee (struct_numbered known name.text) n b (λ k is. let lt = struct_below known name.text k is in omega (arith, lt, le)) e
base_pointee known n le (specifier.PthreadT at) b e = let is : base.Int ≡ b = cc in subst (IsFormedPointee n) is tt
base_pointee known n le (specifier.PthreadMutexT at) b e = let is : base.Mutex ≡ b = cc in subst (IsFormedPointee n) is tt
base_pointee known n le (specifier.PthreadCondT at) b e = let is : base.Cond ≡ b = cc in subst (IsFormedPointee n) is tt
base_pointee known n le (specifier.PthreadBarrierT at) b e = let is : base.Barrier ≡ b = cc in subst (IsFormedPointee n) is tt
base_pointee known n le (specifier.PthreadRwlockT at) b e = let is : base.RwLock ≡ b = cc in subst (IsFormedPointee n) is tt

pointed_formed : (n k : ℕ) (b : BaseType) → IsFormedPointee n b → IsFormedLayered n (replicate (suc k) layer.Pointer) b
pointed_formed n zero b ok = ok
pointed_formed n (suc k) b ok = pointed_formed n k b ok

complete_formed : (known : Known) (n : ℕ) (b : BaseType) → IsFormedPointee n b → is_complete_base known b ≡ true → IsFormedBase n b
complete_formed known n base.Int ok e = tt
complete_formed known n (base.Function fn) ok e = tt
complete_formed known n base.Void ok e = let no : ⊥ = cc in absurd no
complete_formed known n (base.Struct k) ok e = ok
complete_formed known n base.Mutex ok e = tt
complete_formed known n base.Cond ok e = tt
complete_formed known n base.Barrier ok e = tt
complete_formed known n base.RwLock ok e = tt

layers_formed : (known : Known) (n : ℕ) (arrays : List Layer) (stars : ℕ) (b : BaseType) → AreLong arrays → IsFormedPointee n b
    → is_complete_layered known (arrays ++ replicate stars layer.Pointer) b ≡ true → IsFormedLayered n (arrays ++ replicate stars layer.Pointer) b
layers_formed known n [] zero b long ok e = complete_formed known n b ok e
layers_formed known n [] (suc k) b long ok e = pointed_formed n k b ok
layers_formed known n (layer.Array m ∷ ls) stars b long ok e = (long.0, layers_formed known n ls stars b long.1 ok e)
layers_formed known n (layer.Pointer ∷ ls) stars b long ok e = absurd long

abbrev pub array_type : BaseType → ℕ → List Layer → ObjectType
array_type b stars arrays = record { layers = arrays ++ replicate stars layer.Pointer; base = b }

kept_type : (P : ObjectType → Type 0) (c : Bool) (t u : ObjectType) → (c ≡ true → P t) → (if c then Some t else None) ≡ Some u → P u
kept_type P true t u ok e = let is : t ≡ u = cc in subst P is (ok refl)
kept_type P false t u ok e = let no : ⊥ = cc in absurd no

typed_by : (known : Known) (n : ℕ) (o : Option BaseType) (stars : ℕ) (a : Option (List Layer)) (t : ObjectType)
    → ((b : BaseType) → o ≡ Some b → IsFormedPointee n b) → ((ls : List Layer) → a ≡ Some ls → AreLong ls) → complete_by known (type_by o stars a) ≡ Some t → IsFormed n t
typed_by known n None stars a t ok long e = let no : ⊥ = cc in absurd no
typed_by known n (Some b) stars None t ok long e = let no : ⊥ = cc in absurd no
typed_by known n (Some b) stars (Some arrays) t ok long e =
    kept_type (λ u. IsFormed n u) (is_complete known (array_type b stars arrays)) (array_type b stars arrays) t (λ c. layers_formed known n arrays stars b (long arrays refl) (ok b refl) c) e

-- a pointer to functions has a formed type
pub pointer_formed : (n : ℕ) (k : Option ℕ) (t : ObjectType) → pointer_type k ≡ Some t → IsFormed n t
pointer_formed n None t e = let no : ⊥ = cc in absurd no
pointer_formed n (Some k) t e = let is : bare (base.Function k) ≡ t = cc in subst (λ u. IsFormed n u) is tt

pub declared_formed : (known : Known) (n : ℕ) → length known.struct_names ≤ n → (s : Specifier) (d : Declared) (t : ObjectType) → declared_type known s d ≡ Some t → IsFormed n t
declared_formed known n le s (declared stars name lengths) t e =
    typed_by known n (base_of known s) stars (arrays_of known lengths) t (λ b is. base_pointee known n le s b is)
    (λ ls is. arrays_long [] (map (length_of known) lengths) ls tt (all_long known lengths) is) e
declared_formed known n le s (declared_pointer stars name ps) t e = pointer_formed n (pointer_of known s stars ps) t e

-- ---- where nothing is wrong a type is known

positive_found : (n : ℕ) → not (nat_lt 0 n) ≡ false → (if nat_lt 0 n then Some n else None) ≡ Some n
positive_found n e = ap (λ b. if b then Some n else None) (not_false (nat_lt 0 n) e)

length_by : (c s : Bool) (v : Computed) → (not c || (s && is_trap v)) ≡ false → (c && s && is_short v) ≡ false → s ≡ true → (n : ℕ) × ((if c && s then positive_value v else None) ≡ Some n)
length_by false s v a b e = let no : ⊥ = cc in absurd no
length_by true false v a b e = let no : ⊥ = cc in absurd no
length_by true true (Err t) a b e = let no : ⊥ = cc in absurd no
length_by true true (Ok (pos n)) a b e = (n, positive_found n b)
length_by true true (Ok (negsuc n)) a b e = let no : ⊥ = cc in absurd no

length_known : (known : Known) (at : Position) (e : Exp) → length_faults known at e ≡ [] → (n : ℕ) × (length_of known e ≡ Some n)
length_known known at e none =
    let parts = three_nil (expression_faults known e) (constant_faults known e) (mismatch (is_short_length known e) at) none in
    let sound : is_sound known e ≡ true = ap (λ xs. is_none (first_among None xs)) parts.0 in
    length_by (is_constant e) (is_sound known e) (value_here known e) (never (not (is_constant e) || (is_sound known e && is_trap (value_here known e))) fault.NotConstant (first_place e) parts.1) (matches (is_short_length known e) at parts.2) sound

lengths_known : (known : Known) (at : Position) (es : List Exp) (ls : List Layer) → lengths_faults known at es ≡ [] → (arrays : List Layer) × (with_arrays ls (map (length_of known) es) ≡ Some arrays)
lengths_known known at [] ls none = (ls, refl)
lengths_known known at (e ∷ es) ls none =
    let parts = append_nil (length_faults known at e) (lengths_faults known at es) none in
    let one = length_known known at e parts.0 in
    let more = lengths_known known at es (ls ++ layer.Array one.0 ∷ []) parts.1 in
    (more.0, ap (λ o. with_arrays ls (o ∷ map (length_of known) es)) one.1 ∙ more.1)

-- a base that a specifier names, which has a size where one is needed
abbrev IsBased : Known → Bool → Option BaseType → Type 0
IsBased known needs o = (b : BaseType) × (o ≡ Some b) × (needs ≡ true → is_complete_base known b ≡ true)

struct_based : (known : Known) (needs : Bool) (o : Option ℕ) → lacks_struct_by known needs o ≡ false → IsBased known needs (option_map base.Struct o)
struct_based known needs None e = let no : ⊥ = cc in absurd no
struct_based known false (Some k) e = (base.Struct k, refl, λ is. cc)
struct_based known true (Some k) e = (base.Struct k, refl, λ is. not_false (nat_lt k (length known.structs)) e)

void_based : (known : Known) (needs : Bool) → (true && needs) ≡ false → IsBased known needs (Some base.Void)
void_based known true e = let no : ⊥ = cc in absurd no
void_based known false e = (base.Void, refl, λ is. cc)

based : (known : Known) (needs : Bool) (s : Specifier) → specifier_faults known needs s ≡ [] → (is_void_specifier s && needs) ≡ false → IsBased known needs (base_of known s)
based known needs (specifier.Int at) e v = (base.Int, refl, λ is. refl)
based known needs (specifier.Long second int at) e v = (base.Int, refl, λ is. refl)
based known needs (specifier.Void at) e v = void_based known needs v
based known needs (specifier.Struct name at) e v = struct_based known needs (struct_numbered known name.text) (never (is_unknown_struct known needs name) fault.UnknownName (name_place name) e)
based known needs (specifier.PthreadT at) e v = (base.Int, refl, λ is. refl)
based known needs (specifier.PthreadMutexT at) e v = (base.Mutex, refl, λ is. refl)
based known needs (specifier.PthreadCondT at) e v = (base.Cond, refl, λ is. refl)
based known needs (specifier.PthreadBarrierT at) e v = (base.Barrier, refl, λ is. refl)
based known needs (specifier.PthreadRwlockT at) e v = (base.RwLock, refl, λ is. refl)

layers_complete : (known : Known) (arrays : List Layer) (stars : ℕ) (b : BaseType) → AreLong arrays → ((stars == 0) ≡ true → is_complete_base known b ≡ true)
    → is_complete_layered known (arrays ++ replicate stars layer.Pointer) b ≡ true
layers_complete known [] zero b long ok = ok refl
layers_complete known [] (suc k) b long ok = refl
layers_complete known (layer.Array m ∷ ls) stars b long ok = layers_complete known ls stars b long.1 ok
layers_complete known (layer.Pointer ∷ ls) stars b long ok = absurd long

pub declared_known : (known : Known) (s : Specifier) (d : Declared) → IsNumberedDeclared known s d → declarator_faults known s d ≡ [] → (t : ObjectType) × (declared_type known s d ≡ Some t)
declared_known known s (declared stars name lengths) numbered none =
    let parts = three_nil (specifier_faults known (stars == 0) s) (mismatch (is_void_specifier s && (stars == 0)) (name_place name)) (lengths_faults known (name_place name) lengths) none in
    let some = based known (stars == 0) s parts.0 (matches (is_void_specifier s && (stars == 0)) (name_place name) parts.1) in
    let arrays = lengths_known known (name_place name) lengths [] parts.2 in
    let long = arrays_long [] (map (length_of known) lengths) arrays.0 tt (all_long known lengths) arrays.1 in (
      array_type some.0 stars arrays.0,
      ap (λ o. complete_by known (type_by o stars (arrays_of known lengths))) some.1
          ∙ ap (λ a. complete_by known (type_by (Some some.0) stars a)) arrays.1
          ∙ ap (λ c. if c then Some (array_type some.0 stars arrays.0) else None) (layers_complete known arrays.0 stars some.0 long some.2),
    )
declared_known known s (declared_pointer stars name ps) numbered none = (bare (base.Function numbered.0), ap pointer_type numbered.1)

-- ---- what is not kept in cells

-- a whole number or a pointer
abbrev pub IsScalarLayered : List Layer → BaseType → Type 0
IsScalarLayered [] base.Int = Unit {0}
IsScalarLayered [] (base.Function k) = Unit {0}
IsScalarLayered [] _ = ⊥
IsScalarLayered (layer.Pointer ∷ ls) b = Unit {0}
IsScalarLayered (layer.Array n ∷ ls) b = ⊥

abbrev pub IsScalar : ObjectType → Type 0
IsScalar t = IsScalarLayered t.layers t.base

scalar_layered : (ls : List Layer) (b : BaseType) → IsScalarLayered ls b → layered_struct ls b ≡ None
scalar_layered [] base.Int is = refl
scalar_layered [] (base.Function fn) is = refl
scalar_layered [] base.Void is = absurd is
scalar_layered [] (base.Struct k) is = absurd is
scalar_layered [] base.Mutex is = absurd is
scalar_layered [] base.Cond is = absurd is
scalar_layered [] base.Barrier is = absurd is
scalar_layered [] base.RwLock is = absurd is
scalar_layered (layer.Pointer ∷ ls) b is = refl
scalar_layered (layer.Array n ∷ ls) b is = absurd is

pub scalar_no_struct : (t : ObjectType) → IsScalar t → type_struct t ≡ None
scalar_no_struct t is = scalar_layered t.layers t.base is

-- its stars tell whether it is a pointer
abbrev pub StarsTell : ℕ → ObjectType → Type 0
StarsTell stars t = (nat_lt 0 stars ≡ is_pointing (type_operand t)) × IsScalar t

pub some_star : (k : ℕ) → nat_lt 0 (suc k) ≡ true
some_star k = lt-ltb 0 (suc k) (omega arith)

-- of these bases none that is kept in cells, nor Void, has no star
scalar_base : (known : Known) (s : Specifier) (b : BaseType) → is_kept_specifier s ≡ false → base_of known s ≡ Some b → is_complete_base known b ≡ true → StarsTell 0 (array_type b 0 [])
scalar_base known (specifier.Int at) b k e c = let is : base.Int ≡ b = cc in subst (λ x. StarsTell 0 (array_type x 0 [])) is (refl, tt)
scalar_base known (specifier.Long second int at) b k e c = let is : base.Int ≡ b = cc in subst (λ x. StarsTell 0 (array_type x 0 [])) is (refl, tt)
scalar_base known (specifier.Void at) b k e c = let is : base.Void ≡ b = cc in let none : is_complete_base known base.Void ≡ true = subst (λ x. is_complete_base known x ≡ true) (sym is) c in let no : ⊥ = cc in absurd no
scalar_base known (specifier.Struct name at) b k e c = let no : ⊥ = cc in absurd no
scalar_base known (specifier.PthreadT at) b k e c = let is : base.Int ≡ b = cc in subst (λ x. StarsTell 0 (array_type x 0 [])) is (refl, tt)
scalar_base known (specifier.PthreadMutexT at) b k e c = let no : ⊥ = cc in absurd no
scalar_base known (specifier.PthreadCondT at) b k e c = let no : ⊥ = cc in absurd no
scalar_base known (specifier.PthreadBarrierT at) b k e c = let no : ⊥ = cc in absurd no
scalar_base known (specifier.PthreadRwlockT at) b k e c = let no : ⊥ = cc in absurd no

bare_tells : (known : Known) (s : Specifier) (stars : ℕ) (o : Option BaseType) (t : ObjectType) → base_of known s ≡ o → ((stars == 0) && is_kept_specifier s) ≡ false
    → complete_by known (type_by o stars (Some [])) ≡ Some t → StarsTell stars t
bare_tells known s stars None t is k e = let no : ⊥ = cc in absurd no
bare_tells known s zero (Some b) t is k e = kept_type (λ u. StarsTell 0 u) (is_complete known (array_type b 0 [])) (array_type b 0 []) t (λ c. scalar_base known s b k is c) e
bare_tells known s (suc n) (Some b) t is k e = kept_type (λ u. StarsTell (suc n) u) true (array_type b (suc n) []) t (λ c. (some_star n, tt)) e

pub declared_tells : (known : Known) (s : Specifier) (stars : ℕ) (name : Name) (lengths : List Exp) (t : ObjectType) → is_kept s stars lengths ≡ false
    → declared_type known s (declared stars name lengths) ≡ Some t → StarsTell stars t
declared_tells known s stars name [] t k e = bare_tells known s stars (base_of known s) t refl k e
declared_tells known s stars name (x ∷ xs) t k e = let no : ⊥ = cc in absurd no

-- ---- what a pointer of a formed type points to is formed

-- but Void
target_base : (n : ℕ) (b : BaseType) → IsFormedPointee n b → IsFormedTarget n (layered_target (layer.Pointer ∷ []) b)
target_base n base.Int ok = tt
target_base n (base.Function fn) ok = tt
target_base n base.Void ok = tt
target_base n (base.Struct k) ok = ok
target_base n base.Mutex ok = tt
target_base n base.Cond ok = tt
target_base n base.Barrier ok = tt
target_base n base.RwLock ok = tt

target_layered : (n : ℕ) (ls : List Layer) (b : BaseType) → IsFormedLayered n ls b → IsFormedTarget n (layered_target ls b)
target_layered n [] b ok = tt
target_layered n (layer.Array m ∷ ls) b ok = tt
target_layered n (layer.Pointer ∷ []) b ok = target_base n b ok
target_layered n (layer.Pointer ∷ layer.Pointer ∷ ls) b ok = ok
target_layered n (layer.Pointer ∷ layer.Array m ∷ ls) b ok = ok

pub target_formed : (n : ℕ) (t : ObjectType) → IsFormed n t → IsFormedTarget n (type_target t)
target_formed n t ok = target_layered n t.layers t.base ok

-- ---- parameters

passed_formed : (known : Known) (n : ℕ) → length known.struct_names ≤ n → (s : Specifier) (stars : ℕ) (b : BaseType) → cannot_pass s stars ≡ false → base_of known s ≡ Some b → IsFormed n (starred stars b)
passed_formed known n le s (suc k) b can e = pointed_formed n k b (base_pointee known n le s b e)
passed_formed known n le (specifier.Int at) zero b can e = let is : base.Int ≡ b = cc in subst (IsFormedBase n) is tt
passed_formed known n le (specifier.Long second int at) zero b can e = let is : base.Int ≡ b = cc in subst (IsFormedBase n) is tt
passed_formed known n le (specifier.Void at) zero b can e = let no : ⊥ = cc in absurd no
passed_formed known n le (specifier.Struct name at) zero b can e = let no : ⊥ = cc in absurd no
passed_formed known n le (specifier.PthreadT at) zero b can e = let is : base.Int ≡ b = cc in subst (IsFormedBase n) is tt
passed_formed known n le (specifier.PthreadMutexT at) zero b can e = let is : base.Mutex ≡ b = cc in subst (IsFormedBase n) is tt
passed_formed known n le (specifier.PthreadCondT at) zero b can e = let is : base.Cond ≡ b = cc in subst (IsFormedBase n) is tt
passed_formed known n le (specifier.PthreadBarrierT at) zero b can e = let is : base.Barrier ≡ b = cc in subst (IsFormedBase n) is tt
passed_formed known n le (specifier.PthreadRwlockT at) zero b can e = let is : base.RwLock ≡ b = cc in subst (IsFormedBase n) is tt

base_tells : (b : BaseType) → false ≡ is_pointing (type_operand (starred 0 b))
base_tells base.Int = refl
base_tells (base.Function fn) = refl
base_tells base.Void = refl
base_tells (base.Struct k) = refl
base_tells base.Mutex = refl
base_tells base.Cond = refl
base_tells base.Barrier = refl
base_tells base.RwLock = refl

pub starred_tells : (stars : ℕ) (b : BaseType) → nat_lt 0 stars ≡ is_pointing (type_operand (starred stars b))
starred_tells zero b = base_tells b
starred_tells (suc k) b = some_star k

-- the type of a parameter that is no pointer to functions, where nothing is wrong
pub param_known : (known : Known) (n : ℕ) → length known.struct_names ≤ n → (s : Specifier) (stars : ℕ) (name : Option Name) (at : Position) → specifier_faults known (stars == 0) s ≡ [] → cannot_pass s stars ≡ false
    → (t : ObjectType) × (param_type known (formal s stars name at) ≡ Some t) × IsFormed n t × (nat_lt 0 stars ≡ is_pointing (type_operand t)) × (type_struct t ≡ None)
param_known known n le s stars name at none can =
    let some = param_based s stars none can in (
      starred stars some.0,
      ap (λ c. passed_by c (base_of known s) stars) can ∙ ap (λ o. passed_by false o stars) some.1,
      passed_formed known n le s stars some.0 can some.1,
      starred_tells stars some.0,
      passed_no_struct s stars some.0 can some.1,
    )
  where
    passed_no_struct : (s : Specifier) (stars : ℕ) (b : BaseType) → cannot_pass s stars ≡ false → base_of known s ≡ Some b → type_struct (starred stars b) ≡ None
    passed_no_struct s (suc k) b v e = refl
    passed_no_struct (specifier.Int at) zero b v e = let is : base.Int ≡ b = cc in subst (λ x. type_struct (starred 0 x) ≡ None) is refl
    passed_no_struct (specifier.Long second int at) zero b v e = let is : base.Int ≡ b = cc in subst (λ x. type_struct (starred 0 x) ≡ None) is refl
    passed_no_struct (specifier.Void at) zero b v e = let no : ⊥ = cc in absurd no
    passed_no_struct (specifier.Struct name at) zero b v e = let no : ⊥ = cc in absurd no
    passed_no_struct (specifier.PthreadT at) zero b v e = let is : base.Int ≡ b = cc in subst (λ x. type_struct (starred 0 x) ≡ None) is refl
    passed_no_struct (specifier.PthreadMutexT at) zero b v e = let is : base.Mutex ≡ b = cc in subst (λ x. type_struct (starred 0 x) ≡ None) is refl
    passed_no_struct (specifier.PthreadCondT at) zero b v e = let is : base.Cond ≡ b = cc in subst (λ x. type_struct (starred 0 x) ≡ None) is refl
    passed_no_struct (specifier.PthreadBarrierT at) zero b v e = let is : base.Barrier ≡ b = cc in subst (λ x. type_struct (starred 0 x) ≡ None) is refl
    passed_no_struct (specifier.PthreadRwlockT at) zero b v e = let is : base.RwLock ≡ b = cc in subst (λ x. type_struct (starred 0 x) ≡ None) is refl

    param_based : (s : Specifier) (stars : ℕ) → specifier_faults known (stars == 0) s ≡ [] → cannot_pass s stars ≡ false → (b : BaseType) × (base_of known s ≡ Some b)
    param_based (specifier.Int at) stars e v = (base.Int, refl)
    param_based (specifier.Long second int at) stars e v = (base.Int, refl)
    param_based (specifier.Void at) stars e v = (base.Void, refl)
    param_based (specifier.Struct name at) stars e v =
        let some = struct_based known (stars == 0) (struct_numbered known name.text) (never (is_unknown_struct known (stars == 0) name) fault.UnknownName (name_place name) e) in (some.0, some.1)
    param_based (specifier.PthreadT at) stars e v = (base.Int, refl)
    param_based (specifier.PthreadMutexT at) stars e v = (base.Mutex, refl)
    param_based (specifier.PthreadCondT at) stars e v = (base.Cond, refl)
    param_based (specifier.PthreadBarrierT at) stars e v = (base.Barrier, refl)
    param_based (specifier.PthreadRwlockT at) stars e v = (base.RwLock, refl)
