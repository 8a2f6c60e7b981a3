-- Each function of a file without a fault is sound, where definitions are.
use Rattle.std.proofs.Common.{◌≡◌, ℕ, ◌+◌, Bool, true, List, [], ◌∷◌, length, Option, Some, None, is_some, refl, sym, ap, ◌∙◌, subst}
use Rattle.rr_base.specs.Texts.{Text, entry_of}
use Rattle.c_tree.specs.declared.name.Name.{Name}
use Rattle.c_tree.specs.declared.ctype.Specifier.{Specifier}
use Rattle.c_tree.specs.Tree.{Formals, Code, defined, prototype, Outer, structure, function, objects}
use Rattle.c_types.specs.declared.library.StarredType.{StarredType}
use Rattle.c_types.specs.declared.names.Signature.{Signature}
use Rattle.c_types.specs.declared.types.ObjectType.{ObjectType}
use Rattle.c_types.specs.Scopes.{Known, Scope, Meaning, variable, function_of, innermost, with_name}
use Rattle.c_types.specs.Standing.{is_main as is_main_name}
use Rattle.c_names.specs.Sources.{listed_params}
use Rattle.c_programs.specs.Programs.{after_function, after_outer}
use Rattle.c_names.specs.Signatures.{signature_of}
use Rattle.c_locals.specs.Addresses.{count_of_outer, code_addressed, outer_addressed, outers_addressed}
use Rattle.c_spots.specs.Spots.{in_function, code_spots, outer_spots, outers_spots, known_after}
use Rattle.core_tree.specs.Core.{Program}
use Rattle.c_operators.specs.Context.{Source, global_named, function_counted}
use Rattle.c_values.specs.Calls.{gives_pointer}
use Rattle.c_elaborate.specs.Whole.{code_functions, outer_functions, outers_functions}
use Rattle.core_tree.specs.Sound.{IsAddress, IsFunction, IsSoundFunction}
use Rattle.source_sound.proofs.Environment.{IsFormed}
use Rattle.source_sound.proofs.Structs.{IsWithin, formed_within}
use Rattle.source_sound.proofs.FileStructs.{type_cells}
use Rattle.source_sound.proofs.Signatures.{kinds_wanted, IsSomeResult, IsKnown}
use Rattle.source_sound.proofs.FileScope.{IsFunction as IsFileFunction, IsFile, IsEntry, found_entry}
use Rattle.source_sound.proofs.FileObjects.{IsWhole, IsPlace}
use Rattle.source_sound.proofs.Grown.{found, Grows, outers_grow}
use Rattle.source_sound.proofs.FileOuters.{OneOn, one_on, function_is, function_place}
use Rattle.source_sound.proofs.FileFunctions.{AllAre, all_are, one_is, names_of, numbered, same_function, IsOfFile, From}
use Rattle.source_sound.proofs.AllStructs.{member_found}
use Rattle.source_sound.proofs.Listed.{lists_of, OuterListed}
use Rattle.source_sound.proofs.PointerNumbers.{HavePointerTypes}
use Rattle.source_sound.proofs.Results.{result_plain}
use Rattle.source_sound.proofs.Bodies.{IsCalled, IsGiven, IsFileName, Begins, DefinitionsAreSound}
use Rattle.source_sound.proofs.Premises.{HaveSpots, spots_parts}
use Rattle.source_sound.proofs.Among.{AreAmong, among_parts}

module _ (p : Program) (home : ℕ → Option ℕ) (s : Source) (n : ℕ) (whole : IsWhole s n) (many : length s.whole.structs ≡ n)
    (good : (name : Text) → is_some (entry_of s.globals name) ≡ true → IsAddress p home (global_named s name)) (ns : List ℕ) (final : Known)
    (names : final.defined ≡ names_of p.functions) (of_file : AllAre (λ f. IsOfFile n final f) p.functions) (sites : s.sites ≡ p.sites) (definitions : DefinitionsAreSound p home n s) (pointer_types : HavePointerTypes p n (lists_of s.whole)) where
  abbrev Context' : Known → Scope → ℕ → List Outer → Type 0
  Context' known scope m os = From s n whole (IsAddress p home) good ns known scope m os

  given : (r : Option StarredType) → IsSomeResult n r → IsGiven p home n r
  given None h = absurd h
  given (Some t) h = (t, refl, h)

  -- a function that is defined is called by its name
  called : (known : Known) (name : Text) (g : Signature) → Grows known final → found known name ≡ Some (function_of g) → IsKnown n g → IsCalled p home n final.defined name g
  called known name g grown is typed there other =
      let at = numbered p.functions final.defined name names there in
      let f = at.1 in
      let file = one_is (λ x. IsOfFile n final x) p.functions of_file at.0 f at.3 in
      let own : found final f.name ≡ Some (function_of g) = ap (λ z. found final z) at.4 ∙ grown.names name (function_of g) is in
      let same : g ≡ file.signature = same_function g file.signature (sym own ∙ file.means) in (
        typed.0,
        subst (λ i. IsFunction p (function_counted i) (kinds_wanted g.params) (gives_pointer g.result)) (sym at.2)
            (f, at.3, ap is_main_name at.4 ∙ other, file.kinds ∙ ap (λ z. kinds_wanted z.params) (sym same), file.gives ∙ ap (λ z. gives_pointer z.result) (sym same)),
      )

  file_name : (known : Known) (scope : Scope) → Grows known final → IsFile s.whole n (λ x. is_some (entry_of s.globals x) ≡ true) known scope → (name : Text) (m : Meaning) → entry_of scope name ≡ Some m → IsFileName p home n s final.defined name m
  file_name known scope grown file name (variable None) e = found_entry (IsEntry s.whole n (λ x. is_some (entry_of s.globals x) ≡ true)) scope file.entries name (variable None) e
  file_name known scope grown file name (variable (Some t)) e =
      let is = found_entry (IsEntry s.whole n (λ x. is_some (entry_of s.globals x) ≡ true)) scope file.entries name (variable (Some t)) e in
      (is.2, is.0, good name is.3, is.4)
  file_name known scope grown file name (function_of g) e =
      let is = found_entry (IsEntry s.whole n (λ x. is_some (entry_of s.globals x) ≡ true)) scope file.entries name (function_of g) e in
      let here' : found known name ≡ Some (function_of g) = ap (λ ss. entry_of (innermost ss) name) file.scopes ∙ e in
      (is.0, given g.result is.1.1, called known name g grown here' is.1, is.2)

  begins : (known : Known) (scope : Scope) → IsPlace s n known scope → Grows known final → Begins p home n s known scope
  begins known scope h grown = record {
    scopes = h.file.scopes;
    struct_names = h.file.structs;
    lists = h.file.lists;
    pointer_types = pointer_types;
    sizes = λ t formed. type_cells s.whole whole.structs.sized t (subst (λ k. IsWithin k t.layers t.base) (sym many) (formed_within n t.layers t.base formed));
    members = λ k name m e. subst (λ z. (t : ObjectType) × (m ≡ Some t) × IsFormed z t) h.file.structs (member_found (length known.struct_names) 0 known.structs k name m h.structs.members e);
    names = λ name m e. subst (λ xs. IsFileName p home n s xs name m) grown.defined (file_name known scope grown h.file name m e);
    sites = sites;
  }

  code_sound : (known : Known) (scope : Scope) (m : ℕ) (is_static : Bool) (sp : Specifier) (stars : ℕ) (name : Name) (ps : Formals) (code : Code) → IsPlace s n (after_function known name (signature_of known sp stars ps) code) (with_name scope name.text (function_of (signature_of known sp stars ps))) → Grows (after_function known name (signature_of known sp stars ps) code) final →
      IsFileFunction s.whole n (λ x. is_some (entry_of s.globals x) ≡ true) known scope sp stars name ps code → OuterListed (lists_of s.whole) (function is_static sp stars name ps code) → AreAmong ns (code_addressed m (listed_params ps) code) → HaveSpots p s.sites (code_spots (in_function name.text ns) (after_function known name (signature_of known sp stars ps) code) m (listed_params ps) code) →
      AllAre (λ f. IsSoundFunction p home f) (code_functions s ns known m name (signature_of known sp stars ps) ps code)
  code_sound known scope m is_static sp stars name ps prototype place grown is listed marks spots = tt
  code_sound known scope m is_static sp stars name ps (defined parts at) place grown is listed marks spots =
      let f = signature_of known sp stars ps in
      let after = after_function known name f (defined parts at) in
      (definitions ns after (with_name scope name.text (function_of f)) m name f.result (listed_params ps) parts (begins after (with_name scope name.text (function_of f)) place grown) (given f.result is.signature.1) (result_plain known sp stars) listed.1 listed.2 is.params is.body marks spots, tt)

  outer_sound : (known : Known) (scope : Scope) (m : ℕ) (o : Outer) (os : List Outer) → Context' known scope m (o ∷ os) → OneOn s n whole (IsAddress p home) good ns known scope m o os → Grows (after_outer known o) final → AreAmong ns (outer_addressed m o) → HaveSpots p s.sites (outer_spots ns known m o) →
      AllAre (λ f. IsSoundFunction p home f) (outer_functions s ns known m o)
  outer_sound known scope m (structure name fs) os h one grown marks spots = tt
  outer_sound known scope m (function is_static sp stars name ps code) os h one grown marks spots =
      let f = signature_of known sp stars ps in
      let is = function_is s n whole (IsAddress p home) good ns known scope is_static sp stars name ps code h.place one.listed one.own in
      let place = function_place s n whole (IsAddress p home) good ns known scope name f code h.place is.file one.goes.place.more one.goes.place.later in
      code_sound known scope m is_static sp stars name ps code place grown is one.listed marks spots
  outer_sound known scope m (objects is_static sp xs at) os h one grown marks spots = tt

  pub all_sound : (known : Known) (scope : Scope) (m : ℕ) (os : List Outer) → Context' known scope m os → final ≡ known_after known os → AreAmong ns (outers_addressed m os) → HaveSpots p s.sites (outers_spots ns known m os) →
      AllAre (λ f. IsSoundFunction p home f) (outers_functions s ns known m os)
  all_sound known scope m [] h end marks spots = tt
  all_sound known scope m (o ∷ os) h end marks spots =
      let one = one_on s n whole (IsAddress p home) good ns known scope m o os h in
      let next = after_outer known o in
      let numbers = among_parts ns (outer_addressed m o) (outers_addressed (m + count_of_outer o) os) marks in
      let places = spots_parts p s.sites (outer_spots ns known m o) (outers_spots ns next (m + count_of_outer o) os) spots in
      all_are (λ f. IsSoundFunction p home f) (outer_functions s ns known m o) (outers_functions s ns next (m + count_of_outer o) os)
      (outer_sound known scope m o os h one (subst (λ k. Grows next k) (sym end) (outers_grow next os)) numbers.0 places.0)
      (all_sound next one.goes.scope (m + count_of_outer o) os one.rest end numbers.1 places.1)
