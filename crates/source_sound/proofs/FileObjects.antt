-- The globals of a file without a fault: their words, their cells, and what is known after them.
use Rattle.std.proofs.Common.{◌≡◌, ℕ, zero, suc, ◌+◌, ◌≤◌, ◌<◌, min, Bool, true, false, nat_lt, List, [], ◌∷◌, ◌++◌, map, length, replicate, Option, Some, None, is_some, slice_get, unwrap_or, sym, ap, ap₂, ◌∙◌, subst, arith, length-append, append-nil}
use Rattle.std.proofs.lemmas.Bool.Decides.{nat_tests}
use Rattle.std.proofs.lemmas.List.{map-append}
use Rattle.rr_base.specs.declared.layout.CellKind.{CellKind}
use Rattle.rr_base.specs.Texts.{Text, entry_of}
use Rattle.c_tree.specs.declared.ctype.Specifier.{Specifier}
use Rattle.c_tree.specs.Tree.{Declared, Object, plain, initialised}
use Rattle.c_types.specs.declared.types.ObjectType.{ObjectType}
use Rattle.c_types.specs.Constants.{constant_named}
use Rattle.c_types.specs.Types.{kinds_of_type, members_kinds, struct_kinds}
use Rattle.c_types.specs.Scopes.{Known, Scope, Members, variable, seen, with_name, cells_of_type, cells_of_some}
use Rattle.c_names.specs.Sources.{declared_name, most_global_cells, declared_by, global_cells_with}
use Rattle.c_programs.specs.Declarators.{declared_type, declarator_faults, taken_faults, size_faults}
use Rattle.c_programs.specs.Initials.{value_target, start_faults}
use Rattle.c_programs.specs.Statements.{declared_faults, cells_of_declared, global_name_faults, object_faults, objects_faults, after_declared, after_objects}
use Rattle.c_rules.specs.Faults.{mismatch, name_place}
use Rattle.c_types.specs.Found.{where_it_comes}
use Rattle.c_types.specs.declared.fault.FaultKind.TheVariants as fault
use Rattle.c_types.specs.Standing.{is_main}
use Rattle.c_spots.specs.Spots.{lengths_allocations, initial_allocations, file_level, declared_lengths, declared_spots, object_spots, objects_spots}
use Rattle.c_sites.specs.Sites.{types_of_members, layout_by}
use Rattle.c_operators.specs.Context.{Source, global_named}
use Rattle.c_initials.specs.Initials.{kinds_of_some}
use Rattle.c_globals.specs.Globals.{object_words, objects_words, start_words}
use Rattle.source_sound.proofs.FileLists.{append_nil, nil4, where_nil}
use Rattle.source_sound.proofs.Structs.{IsWithin, within_more, AreSmall, kinds_before, after_parts, after_more, cells_exact, layout_is}
use Rattle.source_sound.proofs.DeclaredTypes.{IsDeclared, declared_known, declared_within}
use Rattle.source_sound.proofs.Listed.{lists_of, DeclaredListed, ObjectsListed}
use Rattle.source_sound.proofs.PointerNumbers.{declared_number}
use Rattle.source_sound.proofs.FileStructs.{kinds_known, small_enough, AreMembers, AreStructs, IsStruct, struct_is}
use Rattle.source_sound.proofs.FileScope.{IsFile, file_variable, file_typed, file_declared}
use Rattle.source_sound.proofs.Homes.{kinds_in, AreNamed, named_parts}
use Rattle.source_sound.proofs.Denoted.{kinds_parts, others_kinds, lengths_others, initial_others}
use Rattle.source_sound.proofs.Words.{AreWords, zeros, words_parts, words_length, start_good}

-- ---- the whole file

-- what is known after the whole source
pub record IsWhole (s : Source) (n : ℕ) : Type 0 where
  pub structs : AreStructs s.whole
  pub many : length s.whole.struct_names ≡ n
  pub kinds : s.kinds ≡ kinds_known s.whole

-- at any place
pub record HasStructs (s : Source) (known : Known) : Type 0 where
  pub structs : AreStructs known
  -- the other structs
  pub more : List Members
  pub later : s.whole.structs ≡ known.structs ++ more
  pub lists : lists_of known ≡ lists_of s.whole

-- a place between definitions
pub record IsPlace (s : Source) (n : ℕ) (known : Known) (scope : Scope) : Type 0 where
  pub file : IsFile s.whole n (λ name. is_some (entry_of s.globals name) ≡ true) known scope
  pub structs : AreStructs known
  pub more : List Members
  pub later : s.whole.structs ≡ known.structs ++ more

pub has_structs : (s : Source) (n : ℕ) (known : Known) (scope : Scope) → IsPlace s n known scope → HasStructs s known
has_structs s n known scope h = record { structs = h.structs; more = h.more; later = h.later; lists = h.file.lists }

module _ (s : Source) (n : ℕ) (whole : IsWhole s n) where
  -- a type that has a size has the cells that it has after the whole file
  kinds_split : (known : Known) (more : List Members) → s.whole.structs ≡ known.structs ++ more → (rest : List (List CellKind)) × (s.kinds ≡ kinds_known known ++ rest)
  kinds_split known more e =
      let cut : kinds_known s.whole ≡ struct_kinds (map types_of_members known.structs ++ map types_of_members more) = ap (λ z. struct_kinds (map types_of_members z)) e ∙ ap struct_kinds (map-append types_of_members known.structs more) in
      let rest = after_more (kinds_known known) (map types_of_members more) in
      (rest.0, whole.kinds ∙ cut ∙ after_parts [] (map types_of_members known.structs) (map types_of_members more) ∙ rest.1)

  pub own_kinds : (known : Known) → HasStructs s known → (t : ObjectType) → IsWithin (length known.structs) t.layers t.base → kinds_of_type s.kinds t ≡ kinds_of_type (kinds_known known) t
  own_kinds known h t within =
      let cut = kinds_split known h.more h.later in
      ap (λ ks. kinds_of_type ks t) cut.1 ∙ kinds_before (kinds_known known) cut.0 t.layers t.base (subst (λ m. IsWithin m t.layers t.base) (sym h.structs.sized.many) within)

  struct_before : (xs ys : List Members) (k : ℕ) (ms : Members) → k < length xs → slice_get (xs ++ ys) k ≡ Some ms → slice_get xs k ≡ Some ms
  struct_before [] ys k ms lt e = absurd (omega (arith, lt))
  struct_before (x ∷ xs) ys zero ms lt e = e
  struct_before (x ∷ xs) ys (suc k) ms lt e = struct_before xs ys k ms (omega (arith, lt)) e

  pub struct_here : (known : Known) (scope : Scope) → IsPlace s n known scope → (k : ℕ) → k < length known.structs → IsStruct n known.structs s.kinds k
  struct_here known scope h k lt =
      let all = length-append known.structs h.more in
      let long : length s.whole.structs ≡ length (known.structs ++ h.more) = ap length h.later in
      let is = struct_is s.whole whole.structs k (omega (arith, lt, all, long)) in
      record {
        members = is.members;
        got = struct_before known.structs h.more k is.members lt (subst (λ z. slice_get z k ≡ Some is.members) h.later is.got);
        are = subst (λ m. AreMembers m k is.members) whole.many is.are;
        cells = subst (λ ks. unwrap_or (slice_get ks k) [] ≡ members_kinds ks (types_of_members is.members)) (sym whole.kinds) is.cells;
      }

  -- ---- one object

  -- what a declared object's type is
  pub record IsObjectType (known : Known) (sp : Specifier) (d : Declared) : Type 0 where
    pub t : ObjectType
    pub is : declared_type known sp d ≡ Some t
    pub declared : IsDeclared known t
    pub within : IsWithin (length known.structs) t.layers t.base
    -- its cells, of which there aren't too many
    pub cells : cells_of_declared known sp d ≡ length (kinds_of_type s.kinds t)
    pub few : length (kinds_of_type s.kinds t) ≤ 65535
    pub small : AreSmall s.kinds
    pub whole_within : IsWithin (length s.kinds) t.layers t.base

  pub object_type : (known : Known) → HasStructs s known → (is_global : Bool) (sp : Specifier) (d : Declared) → DeclaredListed (lists_of s.whole) sp d → declared_faults known is_global sp d ≡ [] → IsObjectType known sp d
  object_type known h is_global sp d listed e =
      let a = nil4 (declarator_faults known sp d) (taken_faults known (declared_name d)) (size_faults (cells_of_declared known sp d) (declared_name d)) (global_name_faults is_global (global_cells_with true known.global_cells (cells_of_declared known sp d)) (declared_name d)) e in
      let t = declared_known known sp d (declared_number known s.whole h.lists sp d listed a.0) a.0 in
      let within = declared_within known t.0 t.2 in
      let enough = small_enough (cells_of_declared known sp d) (where_nil _ _ _ a.2) in
      let own : cells_of_declared known sp d ≡ cells_of_type known t.0 = ap (λ o. cells_of_some known o) t.1 in
      let exact = cells_exact known (kinds_known known) h.structs.sized t.0 (omega (arith, own, enough)) in
      let all = ap length (own_kinds known h t.0 within) in
      let many = length-append known.structs h.more in
      let long : length s.whole.structs ≡ length (known.structs ++ h.more) = ap length h.later in
      let kinds : length s.kinds ≡ length s.whole.structs = ap length whole.kinds ∙ whole.structs.sized.many in
      record {
        t = t.0;
        is = t.1;
        declared = t.2;
        within = within;
        cells = own ∙ exact ∙ sym all;
        few = omega (arith, own, exact, all, enough);
        small = subst (λ ks. AreSmall ks) (sym whole.kinds) whole.structs.sized.small;
        whole_within = within_more (length known.structs) (length s.kinds) (omega (arith, kinds, long, many)) t.0.layers t.0.base within;
      }

  -- its layout has the kinds of the type
  pub object_kinds : (known : Known) (sp : Specifier) (d : Declared) (o : IsObjectType known sp d) → (layout_by s.kinds (declared_type known sp d)).kinds ≡ kinds_of_type s.kinds o.t
  object_kinds known sp d o = ap (λ z. (layout_by s.kinds z).kinds) o.is ∙ ap (λ l. l.kinds) (layout_is s.kinds o.t o.small o.whole_within o.few)

  -- ---- known after it

  declared_place : (known : Known) (scope : Scope) (sp : Specifier) (d : Declared) → IsPlace s n known scope → DeclaredListed (lists_of s.whole) sp d → declared_faults known true sp d ≡ [] → is_some (entry_of s.globals (declared_name d).text) ≡ true →
      IsPlace s n (after_declared known true sp d) (with_name scope (declared_name d).text (variable (declared_type known sp d)))
  declared_place known scope sp d h listed e global = record {
    file = file_declared s.whole n (λ name. is_some (entry_of s.globals name) ≡ true) known scope sp d h.file listed e global;
    structs = record { sized = record { sizes = h.structs.sized.sizes; small = h.structs.sized.small; many = h.structs.sized.many }; members = h.structs.members };
    more = h.more;
    later = h.later;
  }

  -- all globals so far have few cells
  few_globals : (cells : ℕ) → nat_lt most_global_cells (min cells (most_global_cells + 1)) ≡ false → (min cells (most_global_cells + 1) ≡ cells) × (cells ≤ most_global_cells)
  few_globals cells e =
      let le : min cells (most_global_cells + 1) ≤ most_global_cells = grind (arith, nat_tests) in
      (omega (arith, le), omega (arith, le))

  declared_count : (known : Known) (sp : Specifier) (d : Declared) → declared_faults known true sp d ≡ [] → ((after_declared known true sp d).global_cells ≡ known.global_cells + cells_of_declared known sp d) × ((after_declared known true sp d).global_cells ≤ most_global_cells)
  declared_count known sp d e =
      let cells = global_cells_with true known.global_cells (cells_of_declared known sp d) in
      let a = nil4 (declarator_faults known sp d) (taken_faults known (declared_name d)) (size_faults (cells_of_declared known sp d) (declared_name d)) (global_name_faults true cells (declared_name d)) e in
      let b = append_nil (mismatch (is_main (declared_name d).text) (name_place (declared_name d))) (where_it_comes (nat_lt most_global_cells cells) fault.GlobalsTooLarge (name_place (declared_name d))) a.3 in
      let few = few_globals (known.global_cells + cells_of_declared known sp d) (where_nil _ _ _ b.1) in
      (few.0, subst (λ z. z ≤ most_global_cells) (sym few.0) few.1)

  module _ (Good : ℕ → Type 0) (good : (name : Text) → is_some (entry_of s.globals name) ≡ true → Good (global_named s name)) where
    -- names that are seen lead to globals
    variables : (known : Known) (scope : Scope) → IsPlace s n known scope → (name : Text) (t : Option ObjectType) → seen known name ≡ Some (variable t) → (constant_named name ≡ None) × Good (global_named s name) × (is_some (entry_of s.globals name) ≡ true)
    variables known scope h name None e = absurd (file_typed s.whole n (λ x. is_some (entry_of s.globals x) ≡ true) known scope h.file name e)
    variables known scope h name (Some t) e = let is = file_variable s.whole n (λ x. is_some (entry_of s.globals x) ≡ true) known scope h.file name t e in (is.2, good name is.3, is.3)

    -- what holds after a part of the file: the words fit the cells, and are counted
    pub record GoesOn (known after : Known) (kinds : List CellKind) (words : List ℕ) : Type 0 where
      pub scope : Scope
      pub place : IsPlace s n after scope
      pub words_are : AreWords Good kinds words
      pub count : after.global_cells ≡ known.global_cells + length words
      pub few : known.global_cells ≤ most_global_cells → after.global_cells ≤ most_global_cells

    first_kinds : (known : Known) (sp : Specifier) (d : Declared) (o : IsObjectType known sp d) (m : ℕ) → kinds_in s.kinds (declared_spots file_level known m sp d) ≡ kinds_of_type s.kinds o.t
    first_kinds known sp d o m = ap₂ (λ a b. a ++ b) (object_kinds known sp d o) (others_kinds s.kinds (lengths_allocations known (declared_lengths d)) (lengths_others known (declared_lengths d))) ∙ append-nil (kinds_of_type s.kinds o.t)

    finish : (known : Known) (scope : Scope) (sp : Specifier) (d : Declared) (kinds : List CellKind) (words : List ℕ) → IsPlace s n known scope → DeclaredListed (lists_of s.whole) sp d → declared_faults known true sp d ≡ [] → is_some (entry_of s.globals (declared_name d).text) ≡ true →
        (o : IsObjectType known sp d) → kinds ≡ kinds_of_type s.kinds o.t → AreWords Good (kinds_of_type s.kinds o.t) words → GoesOn known (after_declared known true sp d) kinds words
    finish known scope sp d kinds words h listed e global o is fit =
        let count = declared_count known sp d e in
        let long = words_length Good (kinds_of_type s.kinds o.t) words fit in
        record {
          scope = with_name scope (declared_name d).text (variable (declared_type known sp d));
          place = declared_place known scope sp d h listed e global;
          words_are = subst (λ ks. AreWords Good ks words) (sym is) fit;
          count = count.0 ∙ ap (λ z. known.global_cells + z) (o.cells ∙ long);
          few = λ le. count.1;
        }

    object_on : (known : Known) (scope : Scope) (m : ℕ) (sp : Specifier) (x : Object) → IsPlace s n known scope → DeclaredListed (lists_of s.whole) sp (declared_by x) → object_faults known true sp x ≡ [] → AreNamed s.kinds s.globals (object_spots file_level known m sp x) →
        GoesOn known (after_declared known true sp (declared_by x)) (kinds_in s.kinds (object_spots file_level known m sp x)) (object_words s known sp x)
    object_on known scope m sp (plain d) h listed e names =
        let o = object_type known (has_structs s n known scope h) true sp d listed e in
        let fit : AreWords Good (kinds_of_type s.kinds o.t) (object_words s known sp (plain d)) = subst (λ z. AreWords Good (kinds_of_type s.kinds o.t) (replicate (length (kinds_of_some s z)) 0)) (sym o.is) (zeros Good (kinds_of_type s.kinds o.t)) in
        finish known scope sp d (kinds_in s.kinds (object_spots file_level known m sp (plain d))) (object_words s known sp (plain d)) h listed e names.0 o (first_kinds known sp d o m) fit
    object_on known scope m sp (initialised d i at) h listed e names =
        let after = after_declared known true sp d in
        let a = append_nil (declared_faults known true sp d) (start_faults after true (declared_type known sp d) at i) e in
        let o = object_type known (has_structs s n known scope h) true sp d listed a.0 in
        let parted = named_parts s.kinds s.globals (declared_spots file_level known m sp d) (initial_allocations after (value_target (declared_type known sp d)) i) names in
        let place = declared_place known scope sp d h listed a.0 parted.0.0 in
        let scope' = with_name scope (declared_name d).text (variable (declared_type known sp d)) in
        let start : start_faults after true (Some o.t) at i ≡ [] = subst (λ z. start_faults after true z at i ≡ []) o.is a.1 in
        let one = start_good Good s after n (variables after scope' place) (struct_here after scope' place) (value_target (Some o.t)) o.t at i o.within start in
        let fit : AreWords Good (kinds_of_type s.kinds o.t) (object_words s known sp (initialised d i at)) = subst (λ z. AreWords Good (kinds_of_type s.kinds o.t) (start_words s after z i)) (sym o.is) one in
        let kinds = kinds_parts s.kinds (declared_spots file_level known m sp d) (initial_allocations after (value_target (declared_type known sp d)) i)
        ∙ ap₂ (λ x y. x ++ y) (first_kinds known sp d o m) (others_kinds s.kinds (initial_allocations after (value_target (declared_type known sp d)) i) (initial_others after (value_target (declared_type known sp d)) i)) ∙ append-nil (kinds_of_type s.kinds o.t) in
        finish known scope sp d (kinds_in s.kinds (object_spots file_level known m sp (initialised d i at))) (object_words s known sp (initialised d i at)) h listed a.0 parted.0.0 o kinds fit

    pub no_more : (known : Known) (scope : Scope) → IsPlace s n known scope → GoesOn known known [] []
    no_more known scope h = record { scope = scope; place = h; words_are = tt; count = omega arith; few = λ le. le }

    -- one part after another
    pub then_on : (known mid after : Known) (ks ls : List CellKind) (vs ws : List ℕ) → GoesOn known mid ks vs → GoesOn mid after ls ws → GoesOn known after (ks ++ ls) (vs ++ ws)
    then_on known mid after ks ls vs ws a b =
        let p = a.count in
        let q = b.count in
        let long = length-append vs ws in
        record { scope = b.scope; place = b.place; words_are = words_parts Good ks ls vs ws a.words_are b.words_are; count = omega (arith, p, q, long); few = λ le. b.few (a.few le) }

    pub objects_on : (known : Known) (scope : Scope) (m : ℕ) (sp : Specifier) (os : List Object) → IsPlace s n known scope → ObjectsListed (lists_of s.whole) sp os → objects_faults known true sp os ≡ [] → AreNamed s.kinds s.globals (objects_spots file_level known m sp os) →
        GoesOn known (after_objects known true sp os) (kinds_in s.kinds (objects_spots file_level known m sp os)) (objects_words s known sp os)
    objects_on known scope m sp [] h listed e names = no_more known scope h
    objects_on known scope m sp (x ∷ os) h listed e names =
        let next = after_declared known true sp (declared_by x) in
        let a = append_nil (object_faults known true sp x) (objects_faults next true sp os) e in
        let parted = named_parts s.kinds s.globals (object_spots file_level known m sp x) (objects_spots file_level next (m + 1) sp os) names in
        let one = object_on known scope m sp x h listed.0 a.0 parted.0 in
        let more = objects_on next one.scope (m + 1) sp os one.place listed.1 a.1 parted.1 in
        subst (λ ks. GoesOn known (after_objects next true sp os) ks (object_words s known sp x ++ objects_words s next sp os)) (sym (kinds_parts s.kinds (object_spots file_level known m sp x) (objects_spots file_level next (m + 1) sp os)))
        (then_on known next (after_objects next true sp os) (kinds_in s.kinds (object_spots file_level known m sp x)) (kinds_in s.kinds (objects_spots file_level next (m + 1) sp os)) (object_words s known sp x) (objects_words s next sp os) one more)
