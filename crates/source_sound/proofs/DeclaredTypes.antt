-- Types as declarations without a fault give them: complete, and with elements in each array.
use Rattle.std.proofs.Common.{◌≡◌, ℕ, zero, suc, ◌≤◌, ◌<◌, Bool, true, false, not, ◌&&◌, ◌||◌, ◌==◌, nat_lt, if◌then◌else◌, pos, negsuc, List, [], ◌∷◌, ◌++◌, map, length, replicate, Option, Some, None, is_none, Ok, Err, position, bytes_eq, refl, sym, ap, ◌∙◌, arith, true≢false}
use Rattle.std.specs.Option.{option_map}
use Rattle.std.proofs.lemmas.Bool.Decides.{nat_tests}
use Rattle.std.proofs.lemmas.Option.{same_Some}
use Rattle.std.proofs.lemmas.List.Quantifiers.{position-Some}
use Rattle.c_types.specs.Types.{bare}
use Rattle.c_tree.specs.declared.ctype.Specifier.{Specifier}
use Rattle.c_tree.specs.declared.ctype.Specifier.TheVariants as specifier
use Rattle.c_tree.specs.Tree.{Exp, Declared, declared, declared_pointer}
use Rattle.rr_base.specs.declared.position.Position.{Position}
use Rattle.c_types.specs.declared.types.BaseType.{BaseType}
use Rattle.c_types.specs.declared.types.BaseType.TheVariants as base
use Rattle.c_types.specs.declared.types.Layer.{Layer}
use Rattle.c_types.specs.declared.types.Layer.TheVariants as layer
use Rattle.c_types.specs.declared.types.ObjectType.{ObjectType}
use Rattle.c_types.specs.Found.{first_among}
use Rattle.c_types.specs.Numbers.{Computed}
use Rattle.c_types.specs.Constants.{is_constant}
use Rattle.c_types.specs.Scopes.{Known, base_of, struct_numbered, is_complete, is_complete_layered, is_complete_base}
use Rattle.c_rules.specs.Faults.{name_place, mismatch, specifier_faults, lacks_struct_by, expression_faults}
use Rattle.c_constants.specs.Values.{value_here}
use Rattle.c_rules.specs.Sizes.{is_sound, is_short, is_trap, constant_faults, length_faults, is_short_length, positive_value, length_of}
use Rattle.c_programs.specs.Declarators.{pointer_type, with_arrays, type_by, arrays_of, complete_by, declared_type, lengths_faults, declarator_faults}
use Rattle.c_names.specs.Signatures.{is_void_specifier, pointer_of}
use Rattle.source_sound.proofs.Environment.{IsFormedBase, IsFormedPointee, IsFormedLayered, IsFormed}
use Rattle.source_sound.proofs.FileLists.{append_nil, nil3, where_nil}
use Rattle.source_sound.proofs.Structs.{IsWithin}

-- ---- bases

-- Void, or a struct of the file
abbrev pub IsFileBase : ℕ → BaseType → Type 0
IsFileBase n (base.Struct k) = k < n
IsFileBase n _ = Unit {0}

struct_below : (names : List (List ℕ)) (name : List ℕ) (k : ℕ) → position (λ n. bytes_eq name n) names ≡ Some k → k < length names
struct_below names name k e = (position-Some (λ n. bytes_eq name n) names k [] e).0

-- a specifier without a fault has a base
pub base_known : (known : Known) (needs : Bool) (s : Specifier) → specifier_faults known needs s ≡ [] → (b : BaseType) × (base_of known s ≡ Some b) × IsFileBase (length known.struct_names) b
base_known known needs (specifier.Int at) e = (base.Int, refl, tt)
base_known known needs (specifier.Long second int at) e = (base.Int, refl, tt)
base_known known needs (specifier.Void at) e = (base.Void, refl, tt)
base_known known needs (specifier.PthreadT at) e = (base.Int, refl, tt)
base_known known needs (specifier.PthreadMutexT at) e = (base.Mutex, refl, tt)
base_known known needs (specifier.PthreadCondT at) e = (base.Cond, refl, tt)
base_known known needs (specifier.PthreadBarrierT at) e = (base.Barrier, refl, tt)
base_known known needs (specifier.PthreadRwlockT at) e = (base.RwLock, refl, tt)
base_known known needs (specifier.Struct name at) e = by (struct_numbered known name.text) refl (where_nil _ _ _ e)
  where
    by : (o : Option ℕ) → struct_numbered known name.text ≡ o → lacks_struct_by known needs o ≡ false → (b : BaseType) × (option_map base.Struct o ≡ Some b) × IsFileBase (length known.struct_names) b
    by None is lacks = absurd (true≢false lacks)
    by (Some k) is lacks = (base.Struct k, refl, struct_below known.struct_names name.text k is)

-- what needs a size has one, but for Void
pub complete_specifier : (known : Known) (s : Specifier) (b : BaseType) → specifier_faults known true s ≡ [] → is_void_specifier s ≡ false → base_of known s ≡ Some b → is_complete_base known b ≡ true
complete_specifier known (specifier.Int at) b e v is = ap (is_complete_base known) (sym (same_Some base.Int b is))
complete_specifier known (specifier.Long second int at) b e v is = ap (is_complete_base known) (sym (same_Some base.Int b is))
complete_specifier known (specifier.Void at) b e v is = absurd (true≢false v)
complete_specifier known (specifier.PthreadT at) b e v is = ap (is_complete_base known) (sym (same_Some base.Int b is))
complete_specifier known (specifier.PthreadMutexT at) b e v is = ap (is_complete_base known) (sym (same_Some base.Mutex b is))
complete_specifier known (specifier.PthreadCondT at) b e v is = ap (is_complete_base known) (sym (same_Some base.Cond b is))
complete_specifier known (specifier.PthreadBarrierT at) b e v is = ap (is_complete_base known) (sym (same_Some base.Barrier b is))
complete_specifier known (specifier.PthreadRwlockT at) b e v is = ap (is_complete_base known) (sym (same_Some base.RwLock b is))
complete_specifier known (specifier.Struct name at) b e v is = by (struct_numbered known name.text) (where_nil _ _ _ e) is
  where
    below : (b : Bool) → not b ≡ false → b ≡ true
    below true h = refl
    below false h = absurd (true≢false h)

    by : (o : Option ℕ) → lacks_struct_by known true o ≡ false → option_map base.Struct o ≡ Some b → is_complete_base known b ≡ true
    by None lacks is = absurd (true≢false lacks)
    by (Some k) lacks is = ap (is_complete_base known) (sym (same_Some (base.Struct k) b is)) ∙ below (nat_lt k (length known.structs)) lacks

-- ---- lengths

abbrev pub ArePositive : List (Option ℕ) → Type 0
ArePositive [] = Unit {0}
ArePositive (None ∷ ns) = ⊥
ArePositive (Some n ∷ ns) = (1 ≤ n) × ArePositive ns

abbrev IsPositive : Option ℕ → Type 0
IsPositive None = ⊥
IsPositive (Some n) = 1 ≤ n

one_positive : (c : Computed) → is_trap c ≡ false → is_short c ≡ false → IsPositive (positive_value c)
one_positive (Ok (pos n)) t s = by (nat_lt 0 n) refl s
  where
    by : (b : Bool) → nat_lt 0 n ≡ b → not b ≡ false → IsPositive (if b then Some n else None)
    by true e h = grind (arith, nat_tests)
    by false e h = absurd (true≢false h)
one_positive (Ok (negsuc n)) t s = absurd (true≢false s)
one_positive (Err x) t s = absurd (true≢false t)

pub sound_when : (known : Known) (e : Exp) → expression_faults known e ≡ [] → is_sound known e ≡ true
sound_when known e h = ap (λ xs. is_none (first_among None xs)) h

constant_when : (known : Known) (e : Exp) → expression_faults known e ≡ [] → constant_faults known e ≡ [] → (is_constant e ≡ true) × (is_trap (value_here known e) ≡ false)
constant_when known e fs cs = by (is_constant e) (is_sound known e) (is_trap (value_here known e)) (sound_when known e fs) (where_nil _ _ _ cs)
  where
    by : (c s t : Bool) → s ≡ true → (not c || (s && t)) ≡ false → (c ≡ true) × (t ≡ false)
    by true true t is h = (refl, h)
    by true false t is h = absurd (true≢false (sym is))
    by false s t is h = absurd (true≢false h)

length_known : (known : Known) (at : Position) (e : Exp) → length_faults known at e ≡ [] → IsPositive (length_of known e)
length_known known at e h =
    let a = nil3 (expression_faults known e) (constant_faults known e) (mismatch (is_short_length known e) at) h in
    let c = constant_when known e a.0 a.1 in
    by (is_constant e) (is_sound known e) (value_here known e) c.0 (sound_when known e a.0) c.1 (where_nil _ _ _ a.2)
  where
    by : (c s : Bool) (v : Computed) → c ≡ true → s ≡ true → is_trap v ≡ false → (c && s && is_short v) ≡ false → IsPositive (if c && s then positive_value v else None)
    by true true v is so t short = one_positive v t short
    by true false v is so t short = absurd (true≢false (sym so))
    by false s v is so t short = absurd (true≢false (sym is))

add_positive : (o : Option ℕ) (ns : List (Option ℕ)) → IsPositive o → ArePositive ns → ArePositive (o ∷ ns)
add_positive None ns h g = absurd h
add_positive (Some n) ns h g = (h, g)

pub lengths_known : (known : Known) (at : Position) (es : List Exp) → lengths_faults known at es ≡ [] → ArePositive (map (length_of known) es)
lengths_known known at [] h = tt
lengths_known known at (e ∷ es) h =
    let a = append_nil (length_faults known at e) (lengths_faults known at es) h in
    add_positive (length_of known e) (map (length_of known) es) (length_known known at e a.0) (lengths_known known at es a.1)

-- ---- types

-- arrays of pointers
abbrev pub AreArrays : List Layer → Type 0
AreArrays [] = Unit {0}
AreArrays (layer.Array n ∷ ls) = (1 ≤ n) × AreArrays ls
AreArrays (layer.Pointer ∷ ls) = ⊥

arrays_with : (ls : List Layer) (n : ℕ) → AreArrays ls → 1 ≤ n → AreArrays (ls ++ layer.Array n ∷ [])
arrays_with [] n h some = (some, tt)
arrays_with (layer.Array m ∷ ls) n h some = (h.0, arrays_with ls n h.1 some)
arrays_with (layer.Pointer ∷ ls) n h some = absurd h

arrays_known : (ls : List Layer) (ns : List (Option ℕ)) → AreArrays ls → ArePositive ns → (arrays : List Layer) × (with_arrays ls ns ≡ Some arrays) × AreArrays arrays
arrays_known ls [] h some = (ls, refl, h)
arrays_known ls (None ∷ ns) h some = absurd some
arrays_known ls (Some n ∷ ns) h some = arrays_known (ls ++ layer.Array n ∷ []) ns (arrays_with ls n h some.0) some.1

-- arrays of pointers to the base: only these can be declared
abbrev pub ArePointers : List Layer → Type 0
ArePointers [] = Unit {0}
ArePointers (layer.Pointer ∷ ls) = ArePointers ls
ArePointers (layer.Array n ∷ ls) = ⊥

abbrev pub AreDeclarable : List Layer → Type 0
AreDeclarable [] = Unit {0}
AreDeclarable (layer.Array n ∷ ls) = (1 ≤ n) × AreDeclarable ls
AreDeclarable (layer.Pointer ∷ ls) = ArePointers ls

pub only_pointers : (n : ℕ) → ArePointers (replicate n layer.Pointer)
only_pointers zero = tt
only_pointers (suc n) = only_pointers n

from_pointers : (n : ℕ) → AreDeclarable (replicate n layer.Pointer)
from_pointers zero = tt
from_pointers (suc n) = only_pointers n

declarable : (arrays : List Layer) (stars : ℕ) → AreArrays arrays → AreDeclarable (arrays ++ replicate stars layer.Pointer)
declarable [] stars h = from_pointers stars
declarable (layer.Array n ∷ ls) stars h = (h.0, declarable ls stars h.1)
declarable (layer.Pointer ∷ ls) stars h = absurd h

complete_with : (known : Known) (arrays : List Layer) (stars : ℕ) (b : BaseType) → AreArrays arrays → ((stars == 0) ≡ true → is_complete_base known b ≡ true) → is_complete_layered known (arrays ++ replicate stars layer.Pointer) b ≡ true
complete_with known [] zero b h base_is = base_is refl
complete_with known [] (suc n) b h base_is = refl
complete_with known (layer.Array n ∷ ls) stars b h base_is = complete_with known ls stars b h.1 base_is
complete_with known (layer.Pointer ∷ ls) stars b h base_is = absurd h

-- a type that can be declared, over a base of the file that has a size where it must
pub record IsDeclared (known : Known) (t : ObjectType) : Type 0 where
  pub layers : AreDeclarable t.layers
  pub base : IsFileBase (length known.struct_names) t.base
  pub complete : is_complete known t ≡ true

no_void : (v z : Bool) → (v && z) ≡ false → z ≡ true → v ≡ false
no_void true z h e = sym e ∙ h
no_void false z h e = refl

specifier_sized : (known : Known) (s : Specifier) (z : Bool) → z ≡ true → specifier_faults known z s ≡ [] → specifier_faults known true s ≡ []
specifier_sized known s z e h = ap (λ b. specifier_faults known b s) (sym e) ∙ h

-- a pointer to functions has a number
abbrev pub IsNumberedDeclared : Known → Specifier → Declared → Type 0
IsNumberedDeclared known s (declared stars name lengths) = Unit {0}
IsNumberedDeclared known s (declared_pointer stars name ps) = (k : ℕ) × (pointer_of known s stars ps ≡ Some k)

pub declared_known : (known : Known) (s : Specifier) (d : Declared) → IsNumberedDeclared known s d → declarator_faults known s d ≡ [] → (t : ObjectType) × (declared_type known s d ≡ Some t) × IsDeclared known t
declared_known known s (declared stars name lengths) numbered h =
    let a = nil3 (specifier_faults known (stars == 0) s) (mismatch (is_void_specifier s && (stars == 0)) (name_place name)) (lengths_faults known (name_place name) lengths) h in
    let bk = base_known known (stars == 0) s a.0 in
    let ak = arrays_known [] (map (length_of known) lengths) tt (lengths_known known (name_place name) lengths a.2) in
    let t : ObjectType = record { layers = ak.0 ++ replicate stars layer.Pointer; base = bk.0 } in
    let sized = (λ (z : (stars == 0) ≡ true). complete_specifier known s bk.0 (specifier_sized known s (stars == 0) z a.0) (no_void (is_void_specifier s) (stars == 0) (where_nil _ _ _ a.1) z) bk.1) in
    let whole : is_complete known t ≡ true = complete_with known ak.0 stars bk.0 ak.2 sized in
    let is : declared_type known s (declared stars name lengths) ≡ Some t = ap (λ o. complete_by known (type_by o stars (arrays_of known lengths))) bk.1 ∙ ap (λ o. complete_by known (type_by (Some bk.0) stars o)) ak.1 ∙ ap (λ c. if c then Some t else None) whole in
    (t, is, record { layers = declarable ak.0 stars ak.2; base = bk.2; complete = whole })
declared_known known s (declared_pointer stars name ps) numbered h = (bare (base.Function numbered.0), ap pointer_type numbered.1, record { layers = tt; base = tt; complete = refl })

-- ---- what they are

base_formed : (known : Known) (n : ℕ) (b : BaseType) → IsFileBase n b → is_complete_base known b ≡ true → IsFormedBase n b
base_formed known n base.Void h c = absurd (true≢false (sym c))
base_formed known n (base.Struct k) h c = h
base_formed known n base.Int h c = tt
base_formed known n (base.Function fn) h c = tt
base_formed known n base.Mutex h c = tt
base_formed known n base.Cond h c = tt
base_formed known n base.Barrier h c = tt
base_formed known n base.RwLock h c = tt

pub pointee_formed : (n : ℕ) (b : BaseType) → IsFileBase n b → IsFormedPointee n b
pointee_formed n base.Void h = tt
pointee_formed n (base.Struct k) h = h
pointee_formed n base.Int h = tt
pointee_formed n (base.Function fn) h = tt
pointee_formed n base.Mutex h = tt
pointee_formed n base.Cond h = tt
pointee_formed n base.Barrier h = tt
pointee_formed n base.RwLock h = tt

pub pointers_formed : (n : ℕ) (ls : List Layer) (b : BaseType) → ArePointers ls → IsFileBase n b → IsFormedLayered n (layer.Pointer ∷ ls) b
pointers_formed n [] b h base_is = pointee_formed n b base_is
pointers_formed n (layer.Pointer ∷ ls) b h base_is = pointers_formed n ls b h base_is
pointers_formed n (layer.Array m ∷ ls) b h base_is = absurd h

layers_formed : (known : Known) (n : ℕ) (ls : List Layer) (b : BaseType) → AreDeclarable ls → IsFileBase n b → is_complete_layered known ls b ≡ true → IsFormedLayered n ls b
layers_formed known n [] b h base_is c = base_formed known n b base_is c
layers_formed known n (layer.Array m ∷ ls) b h base_is c = (h.0, layers_formed known n ls b h.1 base_is c)
layers_formed known n (layer.Pointer ∷ ls) b h base_is c = pointers_formed n ls b h base_is

pub declared_formed : (known : Known) (t : ObjectType) → IsDeclared known t → IsFormed (length known.struct_names) t
declared_formed known t h = layers_formed known (length known.struct_names) t.layers t.base h.layers h.base h.complete

base_within : (known : Known) (b : BaseType) → is_complete_base known b ≡ true → IsFormedBase (length known.structs) b
base_within known base.Void c = absurd (true≢false (sym c))
base_within known (base.Struct k) c = grind (arith, nat_tests)
base_within known base.Int c = tt
base_within known (base.Function fn) c = tt
base_within known base.Mutex c = tt
base_within known base.Cond c = tt
base_within known base.Barrier c = tt
base_within known base.RwLock c = tt

layers_within : (known : Known) (ls : List Layer) (b : BaseType) → AreDeclarable ls → is_complete_layered known ls b ≡ true → IsWithin (length known.structs) ls b
layers_within known [] b h c = base_within known b c
layers_within known (layer.Array m ∷ ls) b h c = (h.0, layers_within known ls b h.1 c)
layers_within known (layer.Pointer ∷ ls) b h c = tt

pub declared_within : (known : Known) (t : ObjectType) → IsDeclared known t → IsWithin (length known.structs) t.layers t.base
declared_within known t h = layers_within known t.layers t.base h.layers h.complete
