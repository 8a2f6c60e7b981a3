-- Which types of functions and of pointers to functions a file lists: each that it declares and that has no fault has a number.
use Rattle.std.proofs.Common.{◌≡◌, ℕ, suc, ◌+◌, ◌<◌, nat_lt, cond, Bool, true, false, not, if◌then◌else◌, List, [], ◌∷◌, ◌++◌, map, length, position, Option, Some, None, is_some, refl, sym, ap, ◌∙◌, subst, arith, append_assoc, append-nil, lt-ltb, ltb-true}
use Rattle.std.specs.List.{position_or_len}
use Rattle.c_tree.specs.declared.name.Name.{Name}
use Rattle.c_tree.specs.declared.ctype.Specifier.{Specifier}
use Rattle.c_tree.specs.Tree.{Formal, formal, formal_pointer, Formals, Declared, declared, declared_pointer, Object, Declares, declares, Start, start_declares, start_computes, Statement, block, compute, break_at, continue_at, gives, branch, branch_else, while_loop, do_loop, for_loop, Parts, no_part, and_declares, and_does, Code, defined, prototype, Fields, fields, Outer, structure, function, objects}
use Rattle.c_types.specs.declared.library.StarredType.{StarredType}
use Rattle.c_types.specs.declared.library.Wanted.{Wanted}
use Rattle.c_types.specs.declared.library.Wanted.TheVariants as wants
use Rattle.c_types.specs.declared.names.Signature.{Signature}
use Rattle.c_types.specs.declared.names.PointerType.{PointerType}
use Rattle.c_types.specs.Scopes.{Known, base_of}
use Rattle.c_types.specs.Signatures.{same_signature, signatures_of, type_numbered}
use Rattle.c_names.specs.Sources.{declared_by, listed_params}
use Rattle.c_names.specs.Signatures.{cannot_pass, wanted_for, wanted_inside, pointed_by, pointer_of, wanted_pointer, wanted_of, result_by, cannot_give, result_of, signature_of}
use Rattle.c_names.specs.Known.{names_at_start, pointers_at_start, known_at_start}
use Rattle.c_names.specs.Pointers.{type_with, pointer_with, declared_with, members_with, fields_with, objects_with, declares_with, formal_with, formals_with, start_with, statement_with, parts_with, code_with, pointers_with, function_types_with}
use Rattle.c_programs.specs.Declarators.{with_fields, struct_cells, is_struct_defined, after_struct}
use Rattle.c_programs.specs.Statements.{after_declared, after_objects}
use Rattle.c_programs.specs.Programs.{after_function, after_outer}
use Rattle.c_spots.specs.Spots.{known_after}
use Rattle.source_sound.proofs.Signatures.{base_same}

-- ---- what stays the same all through a file

-- the structs, functions and types of pointers to functions of the whole file
abbrev pub lists_of : Known → Known
lists_of known = record {
  struct_names = known.struct_names;
  structs = [];
  sizes = [];
  defined = known.defined;
  begun = [];
  pointers = known.pointers;
  function_types = known.function_types;
  global_cells = 0;
  scopes = [];
}

abbrev pub SameLists : Known → Known → Type 0
SameLists known lists = lists_of known ≡ lists_of lists

struct_lists : (known : Known) (name : Name) (fs : List Fields) → lists_of (after_struct known name fs) ≡ lists_of known
struct_lists known name fs = by (is_struct_defined known name.text)
  where
    by : (b : Bool) → lists_of (if b then known else record known { structs = known.structs ++ with_fields known [] fs ∷ []; sizes = known.sizes ++ struct_cells known fs ∷ [] }) ≡ lists_of known
    by true = refl
    by false = refl

pub function_lists : (known : Known) (name : Name) (f : Signature) (code : Code) → lists_of (after_function known name f code) ≡ lists_of known
function_lists known name f (defined ps at) = refl
function_lists known name f prototype = refl

objects_lists : (known : Known) (s : Specifier) (os : List Object) → lists_of (after_objects known true s os) ≡ lists_of known
objects_lists known s [] = refl
objects_lists known s (o ∷ os) = objects_lists (after_declared known true s (declared_by o)) s os

pub outer_lists : (known : Known) (o : Outer) → lists_of (after_outer known o) ≡ lists_of known
outer_lists known (structure name fs) = struct_lists known name fs
outer_lists known (function is_static s stars name ps code) = function_lists known name (signature_of known s stars ps) code
outer_lists known (objects is_static s os at) = objects_lists known s os

pub after_lists : (known : Known) (os : List Outer) → lists_of (known_after known os) ≡ lists_of known
after_lists known [] = refl
after_lists known (o ∷ os) = after_lists (after_outer known o) os ∙ outer_lists known o

-- ---- types depend on these alone

abbrev signed : Option StarredType → List Wanted → Signature
signed r ws = record { result = r; params = ws }

result_same : (k m : Known) → k.struct_names ≡ m.struct_names → (s : Specifier) (stars : ℕ) → result_of k s stars ≡ result_of m s stars
result_same k m e s stars = ap (λ b. result_by (cannot_give s stars) b stars) (base_same k m e s)

inside_same : (k m : Known) → k.struct_names ≡ m.struct_names → (ps : List Formal) → map (wanted_inside k) ps ≡ map (wanted_inside m) ps
inside_same k m e [] = refl
inside_same k m e (formal s stars name at ∷ ps) =
    ap (λ b. wanted_for (cannot_pass s stars) b stars ∷ map (wanted_inside k) ps) (base_same k m e s)
    ∙ ap (λ ws. wanted_for (cannot_pass s stars) (base_of m s) stars ∷ ws) (inside_same k m e ps)
inside_same k m e (formal_pointer s stars name qs at ∷ ps) = ap (λ ws. wants.Anything ∷ ws) (inside_same k m e ps)

pub pointed_same : (k m : Known) → k.struct_names ≡ m.struct_names → (s : Specifier) (stars : ℕ) (ps : Formals) → pointed_by k s stars ps ≡ pointed_by m s stars ps
pointed_same k m e s stars ps =
    ap (λ r. signed r (map (wanted_inside k) (listed_params ps))) (result_same k m e s stars)
    ∙ ap (λ ws. signed (result_of m s stars) ws) (inside_same k m e (listed_params ps))

pub number_same : (k m : Known) → k.struct_names ≡ m.struct_names → k.pointers ≡ m.pointers → (s : Specifier) (stars : ℕ) (ps : Formals) → pointer_of k s stars ps ≡ pointer_of m s stars ps
number_same k m e same s stars ps =
    ap (λ ts. position (same_signature (pointed_by k s stars ps)) (signatures_of ts)) same
    ∙ ap (λ f. position (same_signature f) (signatures_of m.pointers)) (pointed_same k m e s stars ps)

wanted_same : (k m : Known) → k.struct_names ≡ m.struct_names → k.pointers ≡ m.pointers → (ps : List Formal) → map (wanted_of k) ps ≡ map (wanted_of m) ps
wanted_same k m e same [] = refl
wanted_same k m e same (formal s stars name at ∷ ps) =
    ap (λ b. wanted_for (cannot_pass s stars) b stars ∷ map (wanted_of k) ps) (base_same k m e s)
    ∙ ap (λ ws. wanted_for (cannot_pass s stars) (base_of m s) stars ∷ ws) (wanted_same k m e same ps)
wanted_same k m e same (formal_pointer s stars name qs at ∷ ps) =
    ap (λ n. wanted_pointer n ∷ map (wanted_of k) ps) (number_same k m e same s stars qs)
    ∙ ap (λ ws. wanted_pointer (pointer_of m s stars qs) ∷ ws) (wanted_same k m e same ps)

pub signature_same : (k m : Known) → k.struct_names ≡ m.struct_names → k.pointers ≡ m.pointers → (s : Specifier) (stars : ℕ) (ps : Formals) → signature_of k s stars ps ≡ signature_of m s stars ps
signature_same k m e same s stars ps =
    ap (λ r. signed r (map (wanted_of k) (listed_params ps))) (result_same k m e s stars)
    ∙ ap (λ ws. signed (result_of m s stars) ws) (wanted_same k m e same (listed_params ps))

-- ---- each declared type is listed

-- a type without a fault
abbrev pub IsWell : Signature → Type 0
IsWell f = same_signature f f ≡ true

-- has a number among those of the pointers, and among those of functions
abbrev pub IsListed : Known → Specifier → ℕ → Formals → Type 0
IsListed lists s stars ps = IsWell (pointed_by lists s stars ps) → (k : ℕ) × (pointer_of lists s stars ps ≡ Some k)

abbrev pub IsTypeListed : Known → Signature → Type 0
IsTypeListed lists f = IsWell f → (k : ℕ) × (type_numbered lists f ≡ Some k)

abbrev pub DeclaredListed : Known → Specifier → Declared → Type 0
DeclaredListed lists s (declared stars name lengths) = Unit {0}
DeclaredListed lists s (declared_pointer stars name ps) = IsListed lists s stars ps

abbrev pub MembersListed : Known → Specifier → List Declared → Type 0
MembersListed lists s [] = Unit {0}
MembersListed lists s (d ∷ ds) = DeclaredListed lists s d × MembersListed lists s ds

abbrev pub FieldsListed : Known → List Fields → Type 0
FieldsListed lists [] = Unit {0}
FieldsListed lists (fields s ds at ∷ fs) = MembersListed lists s ds × FieldsListed lists fs

abbrev pub ObjectsListed : Known → Specifier → List Object → Type 0
ObjectsListed lists s [] = Unit {0}
ObjectsListed lists s (o ∷ os) = DeclaredListed lists s (declared_by o) × ObjectsListed lists s os

abbrev pub DeclaresListed : Known → Declares → Type 0
DeclaresListed lists (declares s os at) = ObjectsListed lists s os

abbrev pub FormalListed : Known → Formal → Type 0
FormalListed lists (formal s stars name at) = Unit {0}
FormalListed lists (formal_pointer s stars name ps at) = IsListed lists s stars ps

abbrev pub FormalsListed : Known → List Formal → Type 0
FormalsListed lists [] = Unit {0}
FormalsListed lists (p ∷ ps) = FormalListed lists p × FormalsListed lists ps

abbrev pub StartListed : Known → Start → Type 0
StartListed lists (start_declares d) = DeclaresListed lists d
StartListed lists (start_computes e) = Unit {0}

abbrev mutual
  pub StatementListed : Known → Statement → Type 0
  StatementListed lists (block ps at) = PartsListed lists ps
  StatementListed lists (compute e at) = Unit {0}
  StatementListed lists (break_at at) = Unit {0}
  StatementListed lists (continue_at at) = Unit {0}
  StatementListed lists (gives e at) = Unit {0}
  StatementListed lists (branch e a at) = StatementListed lists a
  StatementListed lists (branch_else e a b at) = StatementListed lists a × StatementListed lists b
  StatementListed lists (while_loop e a at) = StatementListed lists a
  StatementListed lists (do_loop a e at) = StatementListed lists a
  StatementListed lists (for_loop start test next a at) = StartListed lists start × StatementListed lists a

  pub PartsListed : Known → Parts → Type 0
  PartsListed lists no_part = Unit {0}
  PartsListed lists (and_declares d ps) = DeclaresListed lists d × PartsListed lists ps
  PartsListed lists (and_does s ps) = StatementListed lists s × PartsListed lists ps

abbrev pub CodeListed : Known → Code → Type 0
CodeListed lists (defined ps at) = PartsListed lists ps
CodeListed lists prototype = Unit {0}

abbrev pub OuterListed : Known → Outer → Type 0
OuterListed lists (structure name fs) = FieldsListed lists fs
OuterListed lists (function is_static s stars name ps code) = IsTypeListed lists (signature_of lists s stars ps) × FormalsListed lists (listed_params ps) × CodeListed lists code
OuterListed lists (objects is_static s os at) = ObjectsListed lists s os

abbrev pub OutersListed : Known → List Outer → Type 0
OutersListed lists [] = Unit {0}
OutersListed lists (o ∷ os) = OuterListed lists o × OutersListed lists os

-- ---- the first that passes

module _ {A : Type 0} (p : A → Bool) where
  below_by : (b : Bool) (i n : ℕ) → (b ≡ false → i < n) → cond (not b) (1 + i) 0 < suc n
  below_by true i n lt = omega arith
  below_by false i n lt = let less = lt refl in omega (arith, less)

  first_below : (xs : List A) (x : A) (ys : List A) → p x ≡ true → position_or_len p (xs ++ x ∷ ys) < length (xs ++ x ∷ ys)
  first_below [] x ys is = below_by (p x) (position_or_len p ys) (length ys) (λ no. let absurd_one : ⊥ = cc in absurd absurd_one)
  first_below (z ∷ xs) x ys is = below_by (p z) (position_or_len p (xs ++ x ∷ ys)) (length (xs ++ x ∷ ys)) (λ no. first_below xs x ys is)

  more_below : (xs ys : List A) → position_or_len p xs < length xs → position_or_len p (xs ++ ys) < length (xs ++ ys)
  more_below [] ys lt = absurd (omega (arith, lt))
  more_below (x ∷ xs) ys lt = by (p x) lt (λ less. more_below xs ys less)
    where
      by : (b : Bool) → cond (not b) (1 + position_or_len p xs) 0 < suc (length xs) → (position_or_len p xs < length xs → position_or_len p (xs ++ ys) < length (xs ++ ys))
          → cond (not b) (1 + position_or_len p (xs ++ ys)) 0 < suc (length (xs ++ ys))
      by true lt rec = omega arith
      by false lt rec = let less = rec (omega (arith, lt)) in omega (arith, less)

  below_position : (xs : List A) → position_or_len p xs < length xs → (k : ℕ) × (position p xs ≡ Some k)
  below_position xs lt = (position_or_len p xs, ap (λ b. cond b (Some (position_or_len p xs)) None) (lt-ltb (position_or_len p xs) (length xs) lt))

  position_below : (xs : List A) → is_some (position p xs) ≡ true → position_or_len p xs < length xs
  position_below xs is = by (nat_lt (position_or_len p xs) (length xs)) refl is
    where
      by : (b : Bool) → nat_lt (position_or_len p xs) (length xs) ≡ b → is_some (cond b (Some (position_or_len p xs)) None) ≡ true → position_or_len p xs < length xs
      by true e h = ltb-true (position_or_len p xs) (length xs) e
      by false e h = cc

  first_found : (xs : List A) (x : A) (ys : List A) → p x ≡ true → (k : ℕ) × (position p (xs ++ x ∷ ys) ≡ Some k)
  first_found xs x ys is = below_position (xs ++ x ∷ ys) (first_below xs x ys is)

  found_before : (xs ys : List A) → is_some (position p xs) ≡ true → (k : ℕ) × (position p (xs ++ ys) ≡ Some k)
  found_before xs ys is = below_position (xs ++ ys) (more_below xs ys (position_below xs is))

signatures_parts : (xs ys : List PointerType) → signatures_of (xs ++ ys) ≡ signatures_of xs ++ signatures_of ys
signatures_parts [] ys = refl
signatures_parts (x ∷ xs) ys = ap (λ fs. x.signature ∷ fs) (signatures_parts xs ys)

-- ---- a file lists what it declares

module _ (lists named typed : Known) (names : named.struct_names ≡ lists.struct_names) (typed_names : typed.struct_names ≡ lists.struct_names) (typed_pointers : typed.pointers ≡ lists.pointers) where
  -- these are the first of those that are listed
  abbrev Begins : List PointerType → Type 0
  Begins ts = (more : List PointerType) × (lists.pointers ≡ ts ++ more)

  abbrev BeginsTypes : List Signature → Type 0
  BeginsTypes fs = (more : List Signature) × (lists.function_types ≡ fs ++ more)

  -- ---- pointers

  abbrev HasPosition : Signature → List Signature → Type 0
  HasPosition f fs = (k : ℕ) × (position (same_signature f) fs ≡ Some k)

  type_in : (ts : List PointerType) (t : PointerType) → Begins (type_with ts t) → Begins ts × (IsWell t.signature → (k : ℕ) × (position (same_signature t.signature) (signatures_of lists.pointers) ≡ Some k))
  type_in ts t b = by (is_some (position (same_signature t.signature) (signatures_of ts))) refl b
    where
      by : (c : Bool) → is_some (position (same_signature t.signature) (signatures_of ts)) ≡ c → Begins (if c then ts else ts ++ t ∷ []) → Begins ts × (IsWell t.signature → HasPosition t.signature (signatures_of lists.pointers))
      by true is b = (b, λ well. subst (λ fs. HasPosition t.signature fs) (sym (ap signatures_of b.1 ∙ signatures_parts ts b.0)) (found_before (same_signature t.signature) (signatures_of ts) (signatures_of b.0) is))
      by false is b =
          let whole : lists.pointers ≡ ts ++ t ∷ b.0 = b.1 ∙ append_assoc ts (t ∷ []) b.0 in
          ((t ∷ b.0, whole), λ well. subst (λ fs. HasPosition t.signature fs) (sym (ap signatures_of whole ∙ signatures_parts ts (t ∷ b.0))) (first_found (same_signature t.signature) (signatures_of ts) t.signature (signatures_of b.0) well))

  pointer_in : (ts : List PointerType) (s : Specifier) (stars : ℕ) (name : Name) (ps : Formals) → Begins (pointer_with named ts s stars name ps) → Begins ts × IsListed lists s stars ps
  pointer_in ts s stars name ps b =
      let one = type_in ts (record { signature = pointed_by named s stars ps; at = name.at }) b in
      (one.0, subst (λ f. IsWell f → (k : ℕ) × (position (same_signature f) (signatures_of lists.pointers) ≡ Some k)) (pointed_same named lists names s stars ps) one.1)

  declared_in : (s : Specifier) (ts : List PointerType) (d : Declared) → Begins (declared_with named s ts d) → Begins ts × DeclaredListed lists s d
  declared_in s ts (declared stars name lengths) b = (b, tt)
  declared_in s ts (declared_pointer stars name ps) b = pointer_in ts s stars name ps b

  members_in : (s : Specifier) (ts : List PointerType) (ds : List Declared) → Begins (members_with named s ts ds) → Begins ts × MembersListed lists s ds
  members_in s ts [] b = (b, tt)
  members_in s ts (d ∷ ds) b = let rest = members_in s (declared_with named s ts d) ds b in let one = declared_in s ts d rest.0 in (one.0, (one.1, rest.1))

  fields_in : (ts : List PointerType) (fs : List Fields) → Begins (fields_with named ts fs) → Begins ts × FieldsListed lists fs
  fields_in ts [] b = (b, tt)
  fields_in ts (fields s ds at ∷ fs) b = let rest = fields_in (members_with named s ts ds) fs b in let one = members_in s ts ds rest.0 in (one.0, (one.1, rest.1))

  objects_in : (s : Specifier) (ts : List PointerType) (os : List Object) → Begins (objects_with named s ts os) → Begins ts × ObjectsListed lists s os
  objects_in s ts [] b = (b, tt)
  objects_in s ts (o ∷ os) b = let rest = objects_in s (declared_with named s ts (declared_by o)) os b in let one = declared_in s ts (declared_by o) rest.0 in (one.0, (one.1, rest.1))

  declares_in : (ts : List PointerType) (d : Declares) → Begins (declares_with named ts d) → Begins ts × DeclaresListed lists d
  declares_in ts (declares s os at) b = objects_in s ts os b

  formal_in : (ts : List PointerType) (p : Formal) → Begins (formal_with named ts p) → Begins ts × FormalListed lists p
  formal_in ts (formal s stars name at) b = (b, tt)
  formal_in ts (formal_pointer s stars name ps at) b = pointer_in ts s stars name ps b

  formals_in : (ts : List PointerType) (ps : List Formal) → Begins (formals_with named ts ps) → Begins ts × FormalsListed lists ps
  formals_in ts [] b = (b, tt)
  formals_in ts (p ∷ ps) b = let rest = formals_in (formal_with named ts p) ps b in let one = formal_in ts p rest.0 in (one.0, (one.1, rest.1))

  start_in : (ts : List PointerType) (s : Start) → Begins (start_with named ts s) → Begins ts × StartListed lists s
  start_in ts (start_declares d) b = declares_in ts d b
  start_in ts (start_computes e) b = (b, tt)

  mutual
    statement_in : (ts : List PointerType) (s : Statement) → Begins (statement_with named ts s) → Begins ts × StatementListed lists s
    statement_in ts (block ps at) b = parts_in ts ps b
    statement_in ts (compute e at) b = (b, tt)
    statement_in ts (break_at at) b = (b, tt)
    statement_in ts (continue_at at) b = (b, tt)
    statement_in ts (gives e at) b = (b, tt)
    statement_in ts (branch e a at) b = statement_in ts a b
    statement_in ts (branch_else e a c at) b = let rest = statement_in (statement_with named ts a) c b in let one = statement_in ts a rest.0 in (one.0, (one.1, rest.1))
    statement_in ts (while_loop e a at) b = statement_in ts a b
    statement_in ts (do_loop a e at) b = statement_in ts a b
    statement_in ts (for_loop start test next a at) b = let rest = statement_in (start_with named ts start) a b in let one = start_in ts start rest.0 in (one.0, (one.1, rest.1))

    parts_in : (ts : List PointerType) (ps : Parts) → Begins (parts_with named ts ps) → Begins ts × PartsListed lists ps
    parts_in ts no_part b = (b, tt)
    parts_in ts (and_declares d ps) b = let rest = parts_in (declares_with named ts d) ps b in let one = declares_in ts d rest.0 in (one.0, (one.1, rest.1))
    parts_in ts (and_does s ps) b = let rest = parts_in (statement_with named ts s) ps b in let one = statement_in ts s rest.0 in (one.0, (one.1, rest.1))

  code_in : (ts : List PointerType) (code : Code) → Begins (code_with named ts code) → Begins ts × CodeListed lists code
  code_in ts (defined ps at) b = parts_in ts ps b
  code_in ts prototype b = (b, tt)

  -- ---- functions

  function_in : (fs : List Signature) (s : Specifier) (stars : ℕ) (ps : Formals) → BeginsTypes (fs ++ signature_of typed s stars ps ∷ []) → BeginsTypes fs × IsTypeListed lists (signature_of lists s stars ps)
  function_in fs s stars ps b =
      let f = signature_of lists s stars ps in
      let same : signature_of typed s stars ps ≡ f = signature_same typed lists typed_names typed_pointers s stars ps in
      let whole : lists.function_types ≡ fs ++ signature_of typed s stars ps ∷ b.0 = b.1 ∙ append_assoc fs (signature_of typed s stars ps ∷ []) b.0 in
      let own : lists.function_types ≡ fs ++ f ∷ b.0 = whole ∙ ap (λ g. fs ++ g ∷ b.0) same in
      let pointed = signatures_of lists.pointers in (
        (signature_of typed s stars ps ∷ b.0, whole),
        λ well. subst (λ gs. (k : ℕ) × (position (same_signature f) gs ≡ Some k)) (append_assoc pointed fs (f ∷ b.0) ∙ ap (λ gs. pointed ++ gs) (sym own)) (first_found (same_signature f) (pointed ++ fs) f b.0 well),
      )

  outers_in : (ts : List PointerType) (fs : List Signature) (os : List Outer) → Begins (pointers_with named ts os) → BeginsTypes (function_types_with typed fs os) → Begins ts × BeginsTypes fs × OutersListed lists os
  outers_in ts fs [] b c = (b, c, tt)
  outers_in ts fs (structure name xs ∷ os) b c = let rest = outers_in (fields_with named ts xs) fs os b c in let one = fields_in ts xs rest.0 in (one.0, rest.1, (one.1, rest.2))
  outers_in ts fs (function is_static s stars name ps code ∷ os) b c =
      let rest = outers_in (code_with named (formals_with named ts (listed_params ps)) code) (fs ++ signature_of typed s stars ps ∷ []) os b c in
      let body = code_in (formals_with named ts (listed_params ps)) code rest.0 in
      let formals = formals_in ts (listed_params ps) body.0 in
      let own = function_in fs s stars ps rest.1 in
      (formals.0, own.0, ((own.1, formals.1, body.1), rest.2))
  outers_in ts fs (objects is_static s xs at ∷ os) b c = let rest = outers_in (objects_with named s ts xs) fs os b c in let one = objects_in s ts xs rest.0 in (one.0, rest.1, (one.1, rest.2))

pub file_listed : (os : List Outer) → OutersListed (lists_of (known_at_start os)) os
file_listed os =
    let lists = lists_of (known_at_start os) in
    (outers_in lists (names_at_start os) (pointers_at_start os) refl refl refl [] [] os ([], sym (append-nil lists.pointers)) ([], sym (append-nil lists.function_types))).2
