-- The structs of a file: each is defined once, has members with types, and at most as many cells as an object may have.
use Rattle.std.proofs.Common.{◌≡◌, ℕ, zero, suc, ◌+◌, ◌*◌, ◌≤◌, ◌<◌, Bool, true, false, if◌then◌else◌, List, [], ◌∷◌, ◌++◌, map, length, Option, Some, None, is_some, slice_get, ◌⊎◌, inl, inr, unwrap_or, refl, sym, ap, ap₂, ◌∙◌, subst, arith, length-append, append_assoc}
use Rattle.std.proofs.lemmas.Bool.Decides.{nat_tests}
use Rattle.std.proofs.lemmas.List.{map-append}
use Rattle.rr_base.specs.declared.layout.CellKind.{CellKind}
use Rattle.rr_base.specs.Texts.{Text, entry_of}
use Rattle.c_tree.specs.declared.name.Name.{Name}
use Rattle.c_tree.specs.declared.ctype.Specifier.{Specifier}
use Rattle.c_tree.specs.Tree.{Declared, Fields, fields}
use Rattle.c_types.specs.declared.types.ObjectType.{ObjectType}
use Rattle.c_types.specs.declared.fault.FaultKind.TheVariants as fault
use Rattle.c_types.specs.Types.{members_kinds, kinds_after, struct_kinds}
use Rattle.c_types.specs.Found.{where_it_comes}
use Rattle.c_rules.specs.Faults.{name_place}
use Rattle.c_types.specs.Scopes.{Known, Members, members_of, with_name, counted_cells, cells_of_type, cells_of_some}
use Rattle.c_names.specs.Sources.{declared_name}
use Rattle.c_programs.specs.Declarators.{declared_type, declarator_faults, has_member, one_member_faults, with_member, some_members_faults, with_members, fields_faults, with_fields, declared_cells, fields_cells, struct_cells, is_struct_defined, struct_faults, size_faults, is_too_large, after_struct}
use Rattle.c_sites.specs.Sites.{types_of_members}
use Rattle.source_sound.proofs.Environment.{IsFormed}
use Rattle.source_sound.proofs.FileLists.{append_nil, nil3, where_nil}
use Rattle.source_sound.proofs.Structs.{IsWithin, small_parts, elements_of, after_parts, after_more, kinds_before, AreSized, cells_are, cells_of_all, all_exact}
use Rattle.source_sound.specs.Members.{HaveMembers}
use Rattle.source_sound.proofs.Listed.{lists_of, DeclaredListed, MembersListed, FieldsListed}
use Rattle.source_sound.proofs.PointerNumbers.{declared_number}
use Rattle.source_sound.proofs.DeclaredTypes.{AreDeclarable, declared_known, declared_formed, declared_within}

-- the cells of the structs that are known
abbrev pub kinds_known : Known → List (List CellKind)
kinds_known known = struct_kinds (map types_of_members known.structs)

-- ---- members

-- each has a type that could be declared, over structs among the first j
abbrev pub IsMember : (n j : ℕ) → Option ObjectType → Type 0
IsMember n j None = ⊥
IsMember n j (Some t) = IsFormed n t × AreDeclarable t.layers × IsWithin j t.layers t.base

abbrev pub AreMembers : (n j : ℕ) → Members → Type 0
AreMembers n j [] = Unit {0}
AreMembers n j (m ∷ ms) = IsMember n j m.1 × AreMembers n j ms

members_parts : (n j : ℕ) (xs ys : Members) → AreMembers n j xs → AreMembers n j ys → AreMembers n j (xs ++ ys)
members_parts n j [] ys h g = g
members_parts n j (x ∷ xs) ys h g = (h.0, members_parts n j xs ys h.1 g)

with_one : (n j : ℕ) (ms : Members) (name : Text) (t : Option ObjectType) → AreMembers n j ms → IsMember n j t → AreMembers n j (with_name ms name t)
with_one n j ms name t h g = by (is_some (entry_of ms name))
  where
    by : (b : Bool) → AreMembers n j (if b then ms else ms ++ (name, t) ∷ [])
    by true = h
    by false = members_parts n j ms ((name, t) ∷ []) h (g, tt)

is_member : (known : Known) (s : Specifier) (d : Declared) → DeclaredListed (lists_of known) s d → declarator_faults known s d ≡ [] → IsMember (length known.struct_names) (length known.structs) (declared_type known s d)
is_member known s d listed h = let t = declared_known known s d (declared_number known known refl s d listed h) h in subst (λ o. IsMember (length known.struct_names) (length known.structs) o) (sym t.1) (declared_formed known t.0 t.2, t.2.layers, declared_within known t.0 t.2)

module _ (known : Known) where
  abbrev AreOwn : Members → Type 0
  AreOwn ms = AreMembers (length known.struct_names) (length known.structs) ms

  some_with : (s : Specifier) (ms : Members) (ds : List Declared) → MembersListed (lists_of known) s ds → some_members_faults known s ms ds ≡ [] → AreOwn ms → AreOwn (with_members known s ms ds)
  some_with s ms [] listed h g = g
  some_with s ms (d ∷ ds) listed h g =
      let a = append_nil (one_member_faults known s ms d) (some_members_faults known s (with_member known s ms d) ds) h in
      let b = append_nil (declarator_faults known s d) (where_it_comes (has_member ms (declared_name d).text) fault.DuplicateName (name_place (declared_name d))) a.0 in
      some_with s (with_member known s ms d) ds listed.1 a.1 (with_one (length known.struct_names) (length known.structs) ms (declared_name d).text (declared_type known s d) g (is_member known s d listed.0 b.0))

  pub fields_with : (ms : Members) (fs : List Fields) → FieldsListed (lists_of known) fs → fields_faults known ms fs ≡ [] → AreOwn ms → AreOwn (with_fields known ms fs)
  fields_with ms [] listed h g = g
  fields_with ms (fields s ds at ∷ fs) listed h g =
      let a = append_nil (some_members_faults known s ms ds) (fields_faults known (with_members known s ms ds) fs) h in
      fields_with (with_members known s ms ds) fs listed.1 a.1 (some_with s ms ds listed.0 a.0 g)

-- ---- some cells

-- a member that has cells
abbrev HasSized : Known → Members → Type 0
HasSized known [] = ⊥
HasSized known (m ∷ ms) = (1 ≤ cells_of_some known m.1) ⊎ HasSized known ms

some_cells : (known : Known) (ms : Members) → HasSized known ms → 1 ≤ cells_of_all known (members_of (Some ms))
some_cells known [] h = absurd h
some_cells known (m ∷ ms) (inl h) = omega (arith, h)
some_cells known (m ∷ ms) (inr h) = let more = some_cells known ms h in omega (arith, more)

sized_before : (known : Known) (xs ys : Members) → HasSized known xs → HasSized known (xs ++ ys)
sized_before known [] ys h = absurd h
sized_before known (x ∷ xs) ys (inl h) = inl h
sized_before known (x ∷ xs) ys (inr h) = inr (sized_before known xs ys h)

one_kept : (known : Known) (ms : Members) (name : Text) (t : Option ObjectType) → HasSized known ms → HasSized known (with_name ms name t)
one_kept known ms name t h = by (is_some (entry_of ms name))
  where
    by : (b : Bool) → HasSized known (if b then ms else ms ++ (name, t) ∷ [])
    by true = h
    by false = sized_before known ms ((name, t) ∷ []) h

some_kept : (known : Known) (s : Specifier) (ms : Members) (ds : List Declared) → HasSized known ms → HasSized known (with_members known s ms ds)
some_kept known s ms [] h = h
some_kept known s ms (d ∷ ds) h = some_kept known s (with_member known s ms d) ds (one_kept known ms (declared_name d).text (declared_type known s d) h)

fields_kept : (known : Known) (ms : Members) (fs : List Fields) → HasSized known ms → HasSized known (with_fields known ms fs)
fields_kept known ms [] h = h
fields_kept known ms (fields s ds at ∷ fs) h = fields_kept known (with_members known s ms ds) fs (some_kept known s ms ds h)

-- the first member of all
begins : (known : Known) (s : Specifier) (d : Declared) → 1 ≤ cells_of_some known (declared_type known s d) → HasSized known (with_member known s [] d)
begins known s d h = inl h

module _ (known : Known) (sized : AreSized known (kinds_known known)) where
  pub type_cells : (t : ObjectType) → IsWithin (length known.structs) t.layers t.base → 1 ≤ cells_of_type known t
  type_cells t h =
      let e = cells_are known (kinds_known known) sized t in
      let es = elements_of (kinds_known known) t.layers t.base sized.small (subst (λ n. IsWithin n t.layers t.base) (sym sized.many) h) in
      let all = es.all in
      let some = times es.many _ es.some es.each in
      omega (arith, e, all, some)
    where
      times : (m n : ℕ) → 1 ≤ m → 1 ≤ n → 1 ≤ m * n
      times zero n h g = absurd (omega (arith, h))
      times (suc m) zero h g = absurd (omega (arith, g))
      times (suc m) (suc n) h g = omega arith

  some_declared : (s : Specifier) (d : Declared) → DeclaredListed (lists_of known) s d → declarator_faults known s d ≡ [] → 1 ≤ cells_of_some known (declared_type known s d)
  some_declared s d listed h = let t = declared_known known s d (declared_number known known refl s d listed h) h in subst (λ o. 1 ≤ cells_of_some known o) (sym t.1) (type_cells t.0 (declared_within known t.0 t.2))

  fields_sized : (fs : List Fields) → HaveMembers fs → FieldsListed (lists_of known) fs → fields_faults known [] fs ≡ [] → HasSized known (with_fields known [] fs)
  fields_sized [] h listed e = absurd h
  fields_sized (fields s [] at ∷ fs) h listed e = absurd h
  fields_sized (fields s (d ∷ ds) at ∷ fs) h listed e =
      let a = append_nil (some_members_faults known s [] (d ∷ ds)) (fields_faults known (with_members known s [] (d ∷ ds)) fs) e in
      let b = append_nil (one_member_faults known s [] d) (some_members_faults known s (with_member known s [] d) ds) a.0 in
      let c = append_nil (declarator_faults known s d) (where_it_comes (has_member [] (declared_name d).text) fault.DuplicateName (name_place (declared_name d))) b.0 in
      fields_kept known (with_members known s [] (d ∷ ds)) fs (some_kept known s (with_member known s [] d) ds (begins known s d (some_declared s d listed.0.0 c.0)))

-- ---- the cells of all that is declared are those of the members, where no name is declared twice

all_parts : (known : Known) (xs ys : List (Option ObjectType)) → cells_of_all known (xs ++ ys) ≡ cells_of_all known xs + cells_of_all known ys
all_parts known [] ys = omega arith
all_parts known (t ∷ ts) ys = let more = all_parts known ts ys in omega (arith, more)

-- the cells of the members
abbrev cells_in : Known → Members → ℕ
cells_in known ms = cells_of_all known (members_of (Some ms))

one_counted : (known : Known) (s : Specifier) (ms : Members) (d : Declared) → has_member ms (declared_name d).text ≡ false → cells_in known (with_member known s ms d) ≡ cells_in known ms + cells_of_some known (declared_type known s d)
one_counted known s ms d h =
    let one : Members = ((declared_name d).text, declared_type known s d) ∷ [] in
    let is = ap (λ b. cells_in known (if b then ms else ms ++ one)) h in
    let parts = ap (λ ts. cells_of_all known ts) (map-append (λ (m : Text × Option ObjectType). m.1) ms one) ∙ all_parts known (members_of (Some ms)) (members_of (Some one)) in
    omega (arith, is, parts)

some_counted : (known : Known) (s : Specifier) (ms : Members) (ds : List Declared) → some_members_faults known s ms ds ≡ [] → cells_in known (with_members known s ms ds) ≡ cells_in known ms + declared_cells known s ds
some_counted known s ms [] h = omega arith
some_counted known s ms (d ∷ ds) h =
    let a = append_nil (one_member_faults known s ms d) (some_members_faults known s (with_member known s ms d) ds) h in
    let b = append_nil (declarator_faults known s d) (where_it_comes (has_member ms (declared_name d).text) fault.DuplicateName (name_place (declared_name d))) a.0 in
    let one = one_counted known s ms d (where_nil _ _ _ b.1) in
    let more = some_counted known s (with_member known s ms d) ds a.1 in
    omega (arith, one, more)

fields_counted : (known : Known) (ms : Members) (fs : List Fields) → fields_faults known ms fs ≡ [] → cells_in known (with_fields known ms fs) ≡ cells_in known ms + fields_cells known fs
fields_counted known ms [] h = omega arith
fields_counted known ms (fields s ds at ∷ fs) h =
    let a = append_nil (some_members_faults known s ms ds) (fields_faults known (with_members known s ms ds) fs) h in
    let some = some_counted known s ms ds a.0 in
    let more = fields_counted known (with_members known s ms ds) fs a.1 in
    omega (arith, some, more)

-- ---- one struct more

pub small_enough : (n : ℕ) → is_too_large n ≡ false → n ≤ 65535
small_enough n h = grind (arith, nat_tests)

exact_count : (n : ℕ) → counted_cells n ≤ 65535 → counted_cells n ≡ n
exact_count n h = omega (arith, h)

kinds_more : (known : Known) (ms : Members) → struct_kinds (map types_of_members (known.structs ++ ms ∷ [])) ≡ kinds_known known ++ members_kinds (kinds_known known) (types_of_members ms) ∷ []
kinds_more known ms = ap struct_kinds (map-append types_of_members known.structs (ms ∷ [])) ∙ after_parts [] (map types_of_members known.structs) (types_of_members ms ∷ [])

abbrev with_struct : Known → Members → ℕ → Known
with_struct known ms cells = record known { structs = known.structs ++ ms ∷ []; sizes = known.sizes ++ cells ∷ [] }

struct_sized : (known : Known) (ms : Members) (cells : ℕ) → AreSized known (kinds_known known) → cells ≡ length (members_kinds (kinds_known known) (types_of_members ms)) → 1 ≤ cells → cells ≤ 65535 → AreSized (with_struct known ms cells) (kinds_known (with_struct known ms cells))
struct_sized known ms cells sized is some few =
    let new = members_kinds (kinds_known known) (types_of_members ms) in
    let made : AreSized (with_struct known ms cells) (kinds_known known ++ new ∷ []) = record {
      sizes = ap (λ xs. xs ++ cells ∷ []) sized.sizes ∙ ap (λ c. map (λ x. length x) (kinds_known known) ++ c ∷ []) is ∙ sym (map-append (λ x. length x) (kinds_known known) (new ∷ []));
      small = small_parts (kinds_known known) (new ∷ []) sized.small (omega (arith, some, is), omega (arith, few, is), tt);
      many = length-append (kinds_known known) (new ∷ []) ∙ ap (λ n. n + 1) sized.many ∙ sym (length-append known.structs (ms ∷ []));
    } in
    subst (λ ks. AreSized (with_struct known ms cells) ks) (sym (kinds_more known ms)) made

-- each struct holds earlier ones only; the first has the number j
abbrev pub AllMembers : (n j : ℕ) → List Members → Type 0
AllMembers n j [] = Unit {0}
AllMembers n j (ms ∷ more) = AreMembers n j ms × AllMembers n (j + 1) more

one_more : (n j : ℕ) (xs : List Members) (ms : Members) → AllMembers n j xs → AreMembers n (j + length xs) ms → AllMembers n j (xs ++ ms ∷ [])
one_more n j [] ms h g = let e : j + 0 ≡ j = omega arith in (subst (λ i. AreMembers n i ms) e g, tt)
one_more n j (x ∷ xs) ms h g = let e : j + suc (length xs) ≡ j + 1 + length xs = omega arith in (h.0, one_more n (j + 1) xs ms h.1 (subst (λ i. AreMembers n i ms) e g))

-- structs with members and sizes
pub record AreStructs (known : Known) : Type 0 where
  pub sized : AreSized known (kinds_known known)
  pub members : AllMembers (length known.struct_names) 0 known.structs

-- what is known after a struct
pub struct_defined : (known : Known) (name : Name) (fs : List Fields) → struct_faults known name fs ≡ [] → (is_struct_defined known name.text ≡ false) × (after_struct known name fs ≡ with_struct known (with_fields known [] fs) (struct_cells known fs))
struct_defined known name fs h =
    let a = nil3 (where_it_comes (is_struct_defined known name.text) fault.DuplicateName (name_place name)) (fields_faults known [] fs) (size_faults (struct_cells known fs) name) h in
    let is = where_nil _ _ _ a.0 in
    (is, ap (λ b. if b then known else with_struct known (with_fields known [] fs) (struct_cells known fs)) is)

pub struct_known : (known : Known) (name : Name) (fs : List Fields) → HaveMembers fs → FieldsListed (lists_of known) fs → struct_faults known name fs ≡ [] → AreStructs known → AreStructs (after_struct known name fs)
struct_known known name fs some listed h g =
    let a = nil3 (where_it_comes (is_struct_defined known name.text) fault.DuplicateName (name_place name)) (fields_faults known [] fs) (size_faults (struct_cells known fs) name) h in
    let few = small_enough (struct_cells known fs) (where_nil _ _ _ a.2) in
    let ms = with_fields known [] fs in
    let count = exact_count (fields_cells known fs) few in
    let all : fields_cells known fs ≡ cells_in known ms = (let it = fields_counted known [] fs a.1 in omega (arith, it)) in
    let exact = all_exact known (kinds_known known) g.sized (members_of (Some ms)) (omega (arith, count, all, few)) in
    let any = some_cells known ms (fields_sized known g.sized fs some listed a.1) in
    let made : AreStructs (with_struct known ms (struct_cells known fs)) = record {
      sized = struct_sized known ms (struct_cells known fs) g.sized (count ∙ all ∙ exact) (omega (arith, any, count, all)) few;
      members = let e : 0 + length known.structs ≡ length known.structs = omega arith in one_more (length known.struct_names) 0 known.structs ms g.members (subst (λ i. AreMembers (length known.struct_names) i ms) (sym e) (fields_with known [] fs listed a.1 tt));
    } in
    subst (λ k. AreStructs k) (sym (struct_defined known name fs h).1) made

-- ---- a struct by its number

-- its cells are those of its members, of which each has a type
pub record IsStruct (n : ℕ) (structs : List Members) (kinds : List (List CellKind)) (k : ℕ) : Type 0 where
  pub members : Members
  pub got : slice_get structs k ≡ Some members
  pub are : AreMembers n k members
  pub cells : unwrap_or (slice_get kinds k) [] ≡ members_kinds kinds (types_of_members members)

same_members : (before more : List (List CellKind)) (n : ℕ) (ms : Members) → AreMembers n (length before) ms → members_kinds (before ++ more) (types_of_members ms) ≡ members_kinds before (types_of_members ms)
same_members before more n [] h = refl
same_members before more n ((name, None) ∷ ms) h = absurd h.0
same_members before more n ((name, Some t) ∷ ms) h = ap₂ (λ a b. a ++ b) (kinds_before before more t.layers t.base h.0.2) (same_members before more n ms h.1)

-- where the kinds of the first structs are known
struct_from : (n : ℕ) (before : List (List CellKind)) (structs : List Members) (i : ℕ) → AllMembers n (length before) structs → i < length structs →
    (ms : Members) × (slice_get structs i ≡ Some ms) × AreMembers n (length before + i) ms × (slice_get (kinds_after before (map types_of_members structs)) (length before + i) ≡ Some (members_kinds (kinds_after before (map types_of_members structs)) (types_of_members ms)))
struct_from n before [] i h lt = absurd (omega (arith, lt))
struct_from n before (ms ∷ structs) zero h lt =
    let own = members_kinds before (types_of_members ms) in
    let more = after_more (before ++ own ∷ []) (map types_of_members structs) in
    let z : length before + 0 ≡ length before = omega arith in
    let all = kinds_after (before ++ own ∷ []) (map types_of_members structs) in
    let whole : all ≡ before ++ (own ∷ more.0) = more.1 ∙ append_assoc before (own ∷ []) more.0 in
    let same : members_kinds all (types_of_members ms) ≡ own = ap (λ ks. members_kinds ks (types_of_members ms)) whole ∙ same_members before (own ∷ more.0) n ms h.0 in
    let got : slice_get all (length before + 0) ≡ Some own = ap₂ (λ ks j. slice_get ks j) whole z ∙ at_end before own more.0 in
    (ms, refl, subst (λ j. AreMembers n j ms) (sym z) h.0, got ∙ ap Some (sym same))
  where
    at_end : (xs : List (List CellKind)) (x : List CellKind) (ys : List (List CellKind)) → slice_get (xs ++ (x ∷ ys)) (length xs) ≡ Some x
    at_end [] x ys = refl
    at_end (y ∷ xs) x ys = at_end xs x ys
struct_from n before (ms ∷ structs) (suc i) h lt =
    let own = members_kinds before (types_of_members ms) in
    let long : length (before ++ own ∷ []) ≡ length before + 1 = length-append before (own ∷ []) in
    let rest = struct_from n (before ++ own ∷ []) structs i (subst (λ j. AllMembers n j structs) (sym long) h.1) (omega (arith, lt)) in
    let at : length (before ++ own ∷ []) + i ≡ length before + suc i = omega (arith, long) in
    let all = kinds_after (before ++ own ∷ []) (map types_of_members structs) in
    (rest.0, rest.1, subst (λ j. AreMembers n j rest.0) at rest.2, subst (λ j. slice_get all j ≡ Some (members_kinds all (types_of_members rest.0))) at rest.3)

pub struct_is : (known : Known) → AreStructs known → (k : ℕ) → k < length known.structs → IsStruct (length known.struct_names) known.structs (kinds_known known) k
struct_is known h k lt =
    let found = struct_from (length known.struct_names) [] known.structs k h.members lt in
    let z : 0 + k ≡ k = omega arith in
    record {
      members = found.0;
      got = found.1;
      are = subst (λ j. AreMembers (length known.struct_names) j found.0) z found.2;
      cells = ap (λ o. unwrap_or o []) (ap (λ j. slice_get (kinds_known known) j) (sym z) ∙ found.3);
    }
