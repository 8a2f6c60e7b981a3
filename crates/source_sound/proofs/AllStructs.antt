-- The structs of a whole file: all that it names as its own are defined after it, each once.
use Rattle.std.proofs.Common.{◌≡◌, ℕ, zero, suc, ◌+◌, ◌<◌, cond, Bool, true, false, not, ◌||◌, nat_lt, if◌then◌else◌, List, [], ◌∷◌, ◌++◌, length, Option, Some, None, slice_get, position, bytes_eq, refl, sym, ap, ◌∙◌, subst, arith, true≢false, append_assoc, append-nil, length-append, lt-ltb}
use Rattle.std.specs.List.{position_or_len}
use Rattle.std.proofs.lemmas.Option.{none-some}
use Rattle.rr_base.specs.Texts.{Text}
use Rattle.c_tree.specs.declared.name.Name.{Name}
use Rattle.c_tree.specs.declared.ctype.Specifier.{Specifier}
use Rattle.c_tree.specs.Tree.{Object, Fields, Code, defined, prototype, Outer, structure, function, objects}
use Rattle.c_types.specs.declared.names.Signature.{Signature}
use Rattle.c_types.specs.declared.types.ObjectType.{ObjectType}
use Rattle.c_types.specs.Scopes.{Known, Members, member_among, has_name, with_text}
use Rattle.c_programs.specs.Declarators.{is_numbered_below, is_struct_defined, struct_faults, after_struct, with_fields}
use Rattle.c_names.specs.Sources.{declared_by, structs_with}
use Rattle.c_programs.specs.Statements.{after_declared, after_objects}
use Rattle.c_programs.specs.Programs.{after_function, outer_faults, after_outer, outers_faults}
use Rattle.c_names.specs.Signatures.{signature_of}
use Rattle.c_spots.specs.Spots.{known_after}
use Rattle.source_sound.proofs.Environment.{IsFormed}
use Rattle.source_sound.proofs.FileLists.{append_nil}
use Rattle.source_sound.proofs.FileStructs.{IsMember, AreMembers, AllMembers, AreStructs, struct_known, struct_defined}
use Rattle.source_sound.proofs.Listed.{lists_of, OuterListed, OutersListed, outer_lists}
use Rattle.source_sound.proofs.FileScope.{AllOf, found_entry}
use Rattle.source_sound.specs.Members.{StructsHaveMembers}
use Rattle.source_sound.proofs.FileOuters.{HasMembers, members_first}

-- ---- members by their names

named_member : (n j : ℕ) (ms : Members) → AreMembers n j ms → AllOf (λ name t. IsMember n j t) ms
named_member n j [] h = tt
named_member n j (m ∷ ms) h = (h.0, named_member n j ms h.1)

is_typed_member : (n j : ℕ) (m : Option ObjectType) → IsMember n j m → (t : ObjectType) × (m ≡ Some t) × IsFormed n t
is_typed_member n j None h = absurd h
is_typed_member n j (Some t) h = (t, refl, h.0)

pub member_found : (n j : ℕ) (structs : List Members) (k : ℕ) (name : Text) (m : Option ObjectType) → AllMembers n j structs → member_among (slice_get structs k) name ≡ Some m → (t : ObjectType) × (m ≡ Some t) × IsFormed n t
member_found n j [] k name m h e = absurd (none-some m e)
member_found n j (ms ∷ structs) zero name m h e = is_typed_member n j m (found_entry (λ x t. IsMember n j t) ms (named_member n j ms h.0) name m e)
member_found n j (ms ∷ structs) (suc k) name m h e = member_found n (j + 1) structs k name m h.1 e

-- ---- after each definition

objects_structs : (known : Known) (sp : Specifier) (xs : List Object) → AreStructs known → AreStructs (after_objects known true sp xs)
objects_structs known sp [] h = h
objects_structs known sp (x ∷ xs) h = objects_structs (after_declared known true sp (declared_by x)) sp xs (record { sized = record { sizes = h.sized.sizes; small = h.sized.small; many = h.sized.many }; members = h.members })

function_structs : (known : Known) (name : Name) (f : Signature) (code : Code) → AreStructs known → AreStructs (after_function known name f code)
function_structs known name f (defined ps at) h = record { sized = record { sizes = h.sized.sizes; small = h.sized.small; many = h.sized.many }; members = h.members }
function_structs known name f prototype h = record { sized = record { sizes = h.sized.sizes; small = h.sized.small; many = h.sized.many }; members = h.members }

outer_structs : (known : Known) (o : Outer) → HasMembers o → OuterListed (lists_of known) o → outer_faults known o ≡ [] → AreStructs known → AreStructs (after_outer known o)
outer_structs known (structure name fs) some listed e h = struct_known known name fs some listed e h
outer_structs known (function is_static sp stars name ps code) some listed e h = function_structs known name (signature_of known sp stars ps) code h
outer_structs known (objects is_static sp xs at) some listed e h = objects_structs known sp xs h

pub all_structs : (known : Known) (os : List Outer) → StructsHaveMembers os → OutersListed (lists_of known) os → outers_faults known os ≡ [] → AreStructs known → AreStructs (known_after known os)
all_structs known [] some listed e h = h
all_structs known (o ∷ os) some listed e h =
    let a = append_nil (outer_faults known o) (outers_faults (after_outer known o) os) e in
    let b = members_first o os some in
    all_structs (after_outer known o) os b.1 (subst (λ lists. OutersListed lists os) (sym (outer_lists known o)) listed.1) a.1 (outer_structs known o b.0 listed.0 a.0 h)

-- ---- as many as there are names

with_more : (xs : List Text) (name : Text) → (rest : List Text) × (with_text xs name ≡ xs ++ rest)
with_more xs name = by (has_name xs name)
  where
    by : (b : Bool) → (rest : List Text) × ((if b then xs else xs ++ name ∷ []) ≡ xs ++ rest)
    by true = ([], sym (append-nil xs))
    by false = (name ∷ [], refl)

structs_more : (xs : List Text) (os : List Outer) → (rest : List Text) × (structs_with xs os ≡ xs ++ rest)
structs_more xs [] = ([], sym (append-nil xs))
structs_more xs (structure name fs ∷ os) =
    let one = with_more xs name.text in
    let all = structs_more (with_text xs name.text) os in
    (one.0 ++ all.0, all.1 ∙ ap (λ ys. ys ++ all.0) one.1 ∙ append_assoc xs one.0 all.0)
structs_more xs (function is_static sp stars name ps code ∷ os) = structs_more xs os
structs_more xs (objects is_static sp items at ∷ os) = structs_more xs os

passed_in : (xs ys : List Text) (name : Text) → has_name xs name ≡ true → position_or_len (λ x. bytes_eq name x) (xs ++ ys) < length xs
passed_in [] ys name e = absurd (true≢false (sym e))
passed_in (x ∷ xs) ys name e = by (bytes_eq name x) e (λ k. passed_in xs ys name k)
  where
    by : (b : Bool) → (b || has_name xs name) ≡ true → (has_name xs name ≡ true → position_or_len (λ x. bytes_eq name x) (xs ++ ys) < length xs) → cond (not b) (1 + position_or_len (λ x. bytes_eq name x) (xs ++ ys)) 0 < suc (length xs)
    by true e rec = omega arith
    by false e rec = let lt = rec e in omega (arith, lt)

-- a name that was there is that of a struct that is defined
defined_before : (known : Known) (xs ys : List Text) (name : Text) → known.struct_names ≡ xs ++ ys → length xs ≡ length known.structs → has_name xs name ≡ true → is_struct_defined known name ≡ true
defined_before known xs ys name names many e =
    let at = position_or_len (λ x. bytes_eq name x) (xs ++ ys) in
    let lt = passed_in xs ys name e in
    let long = length-append xs ys in
    let inside : nat_lt at (length (xs ++ ys)) ≡ true = lt-ltb at (length (xs ++ ys)) (omega (arith, lt, long)) in
    let below : nat_lt at (length known.structs) ≡ true = lt-ltb at (length known.structs) (omega (arith, lt, many)) in
    ap (λ zs. is_numbered_below (length known.structs) (position (λ x. bytes_eq name x) zs)) names ∙ ap (λ b. is_numbered_below (length known.structs) (cond b (Some at) None)) inside ∙ below

-- the names of those that are defined before the place
pub record AreCounted (known : Known) (xs : List Text) (os : List Outer) : Type 0 where
  pub names : known.struct_names ≡ structs_with xs os
  pub many : length xs ≡ length known.structs

struct_counted : (known : Known) (xs : List Text) (name : Name) (fs : List Fields) (os : List Outer) → struct_faults known name fs ≡ [] → AreCounted known xs (structure name fs ∷ os) → AreCounted (after_struct known name fs) (with_text xs name.text) os
struct_counted known xs name fs os e h =
    let is = struct_defined known name fs e in
    let one = with_more xs name.text in
    let rest = structs_more (with_text xs name.text) os in
    let cut : known.struct_names ≡ xs ++ (one.0 ++ rest.0) = h.names ∙ rest.1 ∙ ap (λ ys. ys ++ rest.0) one.1 ∙ append_assoc xs one.0 rest.0 in
    let new : has_name xs name.text ≡ false = fresh (has_name xs name.text) refl (λ k. defined_before known xs (one.0 ++ rest.0) name.text cut h.many k) is.0 in
    let longer : length (with_text xs name.text) ≡ length xs + 1 = ap (λ b. length (if b then xs else xs ++ name.text ∷ [])) new ∙ length-append xs (name.text ∷ []) in
    let structs : length (after_struct known name fs).structs ≡ length known.structs + 1 = ap (λ k. length k.structs) is.1 ∙ length-append known.structs (with_fields known [] fs ∷ []) in
    let many = h.many in
    record { names = subst (λ k. k.struct_names ≡ structs_with (with_text xs name.text) os) (sym is.1) h.names; many = omega (arith, longer, structs, many) }
  where
    fresh : (b : Bool) → has_name xs name.text ≡ b → (has_name xs name.text ≡ true → is_struct_defined known name.text ≡ true) → is_struct_defined known name.text ≡ false → b ≡ false
    fresh true e there none = absurd (true≢false (sym (there e) ∙ none))
    fresh false e there none = refl

function_counted_same : (known : Known) (xs : List Text) (name : Name) (f : Signature) (code : Code) (os : List Outer) → known.struct_names ≡ structs_with xs os → length xs ≡ length known.structs → AreCounted (after_function known name f code) xs os
function_counted_same known xs name f (defined ps at) os names many = record { names = names; many = many }
function_counted_same known xs name f prototype os names many = record { names = names; many = many }

objects_counted : (known : Known) (xs : List Text) (sp : Specifier) (items : List Object) (os : List Outer) → known.struct_names ≡ structs_with xs os → length xs ≡ length known.structs → AreCounted (after_objects known true sp items) xs os
objects_counted known xs sp [] os names many = record { names = names; many = many }
objects_counted known xs sp (x ∷ items) os names many = objects_counted (after_declared known true sp (declared_by x)) xs sp items os names many

-- after the whole file
pub structs_counted : (known : Known) (xs : List Text) (os : List Outer) → outers_faults known os ≡ [] → AreCounted known xs os → length (known_after known os).structs ≡ length (known_after known os).struct_names
structs_counted known xs [] e h = sym h.many ∙ sym (ap (λ ys. length ys) h.names)
structs_counted known xs (structure name fs ∷ os) e h =
    let a = append_nil (struct_faults known name fs) (outers_faults (after_struct known name fs) os) e in
    structs_counted (after_struct known name fs) (with_text xs name.text) os a.1 (struct_counted known xs name fs os a.0 h)
structs_counted known xs (function is_static sp stars name ps code ∷ os) e h =
    let o = function is_static sp stars name ps code in
    let a = append_nil (outer_faults known o) (outers_faults (after_outer known o) os) e in
    structs_counted (after_outer known o) xs os a.1 (function_counted_same known xs name (signature_of known sp stars ps) code os h.names h.many)
structs_counted known xs (objects is_static sp items at ∷ os) e h =
    let o = objects is_static sp items at in
    let a = append_nil (outer_faults known o) (outers_faults (after_outer known o) os) e in
    structs_counted (after_outer known o) xs os a.1 (objects_counted known xs sp items os h.names h.many)
