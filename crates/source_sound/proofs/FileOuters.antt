-- The definitions of a file without a fault, one after another: what is known after each, and the words of the globals.
use Rattle.std.proofs.Common.{◌≡◌, ℕ, ◌+◌, ◌≤◌, Bool, true, List, [], ◌∷◌, ◌++◌, length, is_some, refl, sym, ap, ◌∙◌, subst, arith}
use Rattle.rr_base.specs.declared.layout.CellKind.{CellKind}
use Rattle.rr_base.specs.Texts.{Text, entry_of}
use Rattle.c_tree.specs.declared.name.Name.{Name}
use Rattle.c_tree.specs.declared.ctype.Specifier.{Specifier}
use Rattle.c_tree.specs.Tree.{Formals, Fields, Code, defined, prototype, Outer, structure, function, objects}
use Rattle.c_types.specs.declared.names.Signature.{Signature}
use Rattle.c_types.specs.Scopes.{Known, Scope, Members, function_of, with_name}
use Rattle.c_names.specs.Sources.{listed_params}
use Rattle.c_programs.specs.Declarators.{struct_faults, after_struct}
use Rattle.c_programs.specs.Programs.{after_function, function_faults, outer_faults, after_outer, outers_faults}
use Rattle.c_names.specs.Signatures.{signature_of}
use Rattle.c_locals.specs.Addresses.{count_of_outer}
use Rattle.c_spots.specs.Spots.{in_function, code_spots, fields_allocations, outer_spots, outers_spots, known_after}
use Rattle.c_operators.specs.Context.{Source, global_named}
use Rattle.c_elaborate.specs.Whole.{outer_words, outers_words}
use Rattle.source_sound.proofs.FileLists.{append_nil}
use Rattle.source_sound.specs.Members.{HaveMembers, StructsHaveMembers}
use Rattle.source_sound.proofs.Listed.{lists_of, FieldsListed, OuterListed, OutersListed}
use Rattle.source_sound.proofs.FileStructs.{AreStructs, struct_known, struct_defined}
use Rattle.source_sound.proofs.FileScope.{IsFile, IsFunction, file_function_after}
use Rattle.source_sound.proofs.Homes.{kinds_in, AreNamed, named_parts}
use Rattle.source_sound.proofs.Denoted.{kinds_parts, others_kinds, code_others, fields_others}
use Rattle.source_sound.proofs.Words.{AreWords}
use Rattle.source_sound.proofs.FileObjects.{IsWhole, IsPlace, GoesOn, no_more, then_on, objects_on}
use Rattle.source_sound.proofs.Grown.{outers_grow}

abbrev pub HasMembers : Outer → Type 0
HasMembers (structure name fs) = HaveMembers fs
HasMembers (function is_static s stars name ps code) = Unit {0}
HasMembers (objects is_static s xs at) = Unit {0}

pub members_first : (o : Outer) (os : List Outer) → StructsHaveMembers (o ∷ os) → HasMembers o × StructsHaveMembers os
members_first (structure name fs) os h = (h.0, h.1)
members_first (function is_static s stars name ps code) os h = (tt, h)
members_first (objects is_static s xs at) os h = (tt, h)

module _ (s : Source) (n : ℕ) (whole : IsWhole s n) (Good : ℕ → Type 0) (good : (name : Text) → is_some (entry_of s.globals name) ≡ true → Good (global_named s name)) (ns : List ℕ) where
  abbrev Goes : (known after : Known) → List CellKind → List ℕ → Type 0
  Goes known after kinds words = GoesOn s n whole Good good known after kinds words

  -- ---- a struct

  struct_on : (known : Known) (scope : Scope) (name : Name) (fs : List Fields) → IsPlace s n known scope → HaveMembers fs → FieldsListed (lists_of s.whole) fs → struct_faults known name fs ≡ [] → (more : List Members) → s.whole.structs ≡ (after_struct known name fs).structs ++ more → Goes known (after_struct known name fs) (kinds_in s.kinds (fields_allocations known fs)) []
  struct_on known scope name fs h some listed e more later =
      let is = (struct_defined known name fs e).1 in
      let structs = struct_known known name fs some (subst (λ lists. FieldsListed lists fs) (sym h.file.lists) listed) e h.structs in
      record {
        scope = scope;
        place = record {
          file = record {
            scopes = subst (λ k. k.scopes ≡ scope ∷ []) (sym is) h.file.scopes;
            structs = subst (λ k. length k.struct_names ≡ n) (sym is) h.file.structs;
            lists = subst (λ k. lists_of k ≡ lists_of s.whole) (sym is) h.file.lists;
            entries = h.file.entries;
          };
          structs = structs;
          more = more;
          later = later;
        };
        words_are = subst (λ ks. AreWords Good ks []) (sym (others_kinds s.kinds (fields_allocations known fs) (fields_others known fs))) tt;
        count = let same : (after_struct known name fs).global_cells ≡ known.global_cells = ap (λ k. k.global_cells) is in omega (arith, same);
        few = λ le. subst (λ c. c ≤ most) (sym (ap (λ k. k.global_cells) is)) le;
      }
    where
      most : ℕ
      most = 1048576

  -- ---- a function

  cells_same : (known : Known) (name : Name) (f : Signature) (code : Code) → (after_function known name f code).global_cells ≡ known.global_cells
  cells_same known name f (defined ps at) = refl
  cells_same known name f prototype = refl

  structs_same : (known : Known) (name : Name) (f : Signature) (code : Code) → AreStructs known → AreStructs (after_function known name f code)
  structs_same known name f (defined ps at) h = record { sized = record { sizes = h.sized.sizes; small = h.sized.small; many = h.sized.many }; members = h.members }
  structs_same known name f prototype h = record { sized = record { sizes = h.sized.sizes; small = h.sized.small; many = h.sized.many }; members = h.members }

  pub function_place : (known : Known) (scope : Scope) (name : Name) (f : Signature) (code : Code) → IsPlace s n known scope → IsFile s.whole n (λ x. is_some (entry_of s.globals x) ≡ true) (after_function known name f code) (with_name scope name.text (function_of f)) → (more : List Members) → s.whole.structs ≡ (after_function known name f code).structs ++ more →
      IsPlace s n (after_function known name f code) (with_name scope name.text (function_of f))
  function_place known scope name f code h file more later = record { file = file; structs = structs_same known name f code h.structs; more = more; later = later }

  pub function_is : (known : Known) (scope : Scope) (is_static : Bool) (sp : Specifier) (stars : ℕ) (name : Name) (ps : Formals) (code : Code) → IsPlace s n known scope → OuterListed (lists_of s.whole) (function is_static sp stars name ps code) → function_faults known sp stars name ps code ≡ [] → IsFunction s.whole n (λ x. is_some (entry_of s.globals x) ≡ true) known scope sp stars name ps code
  function_is known scope is_static sp stars name ps code h listed e = file_function_after s.whole n (λ x. is_some (entry_of s.globals x) ≡ true) known scope sp stars name ps code h.file listed.0 listed.1 e

  function_on : (known : Known) (scope : Scope) (m : ℕ) (is_static : Bool) (sp : Specifier) (stars : ℕ) (name : Name) (ps : Formals) (code : Code) → IsPlace s n known scope → OuterListed (lists_of s.whole) (function is_static sp stars name ps code) → function_faults known sp stars name ps code ≡ [] → (more : List Members) → s.whole.structs ≡ (after_function known name (signature_of known sp stars ps) code).structs ++ more →
      Goes known (after_function known name (signature_of known sp stars ps) code) (kinds_in s.kinds (code_spots (in_function name.text ns) (after_function known name (signature_of known sp stars ps) code) m (listed_params ps) code)) []
  function_on known scope m is_static sp stars name ps code h listed e more later =
      let f = signature_of known sp stars ps in
      let after = after_function known name f code in
      let is = function_is known scope is_static sp stars name ps code h listed e in
      let spots = code_spots (in_function name.text ns) after m (listed_params ps) code in
      let same = cells_same known name f code in
      record {
        scope = with_name scope name.text (function_of f);
        place = function_place known scope name f code h is.file more later;
        words_are = subst (λ ks. AreWords Good ks []) (sym (others_kinds s.kinds spots (code_others name.text ns after m (listed_params ps) code))) tt;
        count = omega (arith, same);
        few = λ le. subst (λ c. c ≤ most) (sym same) le;
      }
    where
      most : ℕ
      most = 1048576

  -- ---- any of them

  pub outer_on : (known : Known) (scope : Scope) (m : ℕ) (o : Outer) → IsPlace s n known scope → HasMembers o → OuterListed (lists_of s.whole) o → outer_faults known o ≡ [] → AreNamed s.kinds s.globals (outer_spots ns known m o) → (more : List Members) → s.whole.structs ≡ (after_outer known o).structs ++ more →
      Goes known (after_outer known o) (kinds_in s.kinds (outer_spots ns known m o)) (outer_words s known o)
  outer_on known scope m (structure name fs) h some listed e names more later = struct_on known scope name fs h some listed e more later
  outer_on known scope m (function is_static sp stars name ps code) h some listed e names more later = function_on known scope m is_static sp stars name ps code h listed e more later
  outer_on known scope m (objects is_static sp xs at) h some listed e names more later = objects_on s n whole Good good known scope m sp xs h listed e names

  -- what holds of the definitions from a place on
  pub record AreSoundFrom (known : Known) (scope : Scope) (m : ℕ) (os : List Outer) : Type 0 where
    pub place : IsPlace s n known scope
    pub members : StructsHaveMembers os
    pub listed : OutersListed (lists_of s.whole) os
    pub faults : outers_faults known os ≡ []
    pub names : AreNamed s.kinds s.globals (outers_spots ns known m os)
    pub following : s.whole ≡ known_after known os

  -- after the first of them
  pub record OneOn (known : Known) (scope : Scope) (m : ℕ) (o : Outer) (os : List Outer) : Type 0 where
    pub goes : Goes known (after_outer known o) (kinds_in s.kinds (outer_spots ns known m o)) (outer_words s known o)
    pub rest : AreSoundFrom (after_outer known o) goes.scope (m + count_of_outer o) os
    pub own : outer_faults known o ≡ []
    pub listed : OuterListed (lists_of s.whole) o

  pub one_on : (known : Known) (scope : Scope) (m : ℕ) (o : Outer) (os : List Outer) → AreSoundFrom known scope m (o ∷ os) → OneOn known scope m o os
  one_on known scope m o os h =
      let e = append_nil (outer_faults known o) (outers_faults (after_outer known o) os) h.faults in
      let parted = named_parts s.kinds s.globals (outer_spots ns known m o) (outers_spots ns (after_outer known o) (m + count_of_outer o) os) h.names in
      let some = members_first o os h.members in
      let grown = outers_grow (after_outer known o) os in
      let goes = outer_on known scope m o h.place some.0 h.listed.0 e.0 parted.0 grown.more (ap (λ k. k.structs) h.following ∙ grown.structs) in
      record { goes = goes; rest = record { place = goes.place; members = some.1; listed = h.listed.1; faults = e.1; names = parted.1; following = h.following }; own = e.0; listed = h.listed.0 }

  pub words_on : (known : Known) (scope : Scope) (m : ℕ) (os : List Outer) → AreSoundFrom known scope m os → Goes known (known_after known os) (kinds_in s.kinds (outers_spots ns known m os)) (outers_words s known os)
  words_on known scope m [] h = no_more s n whole Good good known scope h.place
  words_on known scope m (o ∷ os) h =
      let one = one_on known scope m o os h in
      let more = words_on (after_outer known o) one.goes.scope (m + count_of_outer o) os one.rest in
      let spots = outers_spots ns (after_outer known o) (m + count_of_outer o) os in
      subst (λ ks. Goes known (known_after (after_outer known o) os) ks (outer_words s known o ++ outers_words s (after_outer known o) os)) (sym (kinds_parts s.kinds (outer_spots ns known m o) spots))
      (then_on s n whole Good good known (after_outer known o) (known_after (after_outer known o) os) (kinds_in s.kinds (outer_spots ns known m o)) (kinds_in s.kinds spots) (outer_words s known o) (outers_words s (after_outer known o) os) one.goes more)
