-- The core tree of a source without a fault is sound.
use Rattle.std.proofs.Common.{◌≡◌, ℕ, ◌+◌, ◌^◌, ◌≤◌, true, List, [], ◌∷◌, map, length, Option, Some, None, is_some, slice_get, ◌⊎◌, inl, inr, refl, sym, ap, ◌∙◌, subst, arith}
use Rattle.std.proofs.lemmas.Bool.{and_from}
use Rattle.std.proofs.lemmas.List.{length-map}
use Rattle.rr_base.specs.Words.{pack}
use Rattle.rr_base.specs.declared.layout.CellKind.{CellKind}
use Rattle.rr_base.specs.declared.layout.Site.{Site}
use Rattle.word_semantics.specs.Pointers.{base_at}
use Rattle.word_semantics.specs.Cells.{size_of}
use Rattle.word_semantics.specs.Layouts.{sites_fit}
use Rattle.rr_base.specs.Texts.{Text, entry_of}
use Rattle.c_tree.specs.Tree.{Outer}
use Rattle.c_types.specs.Scopes.{Known}
use Rattle.c_names.specs.Known.{known_at_start}
use Rattle.c_locals.specs.Addresses.{program_addressed}
use Rattle.c_locals.specs.Taken.{program_taken}
use Rattle.c_spots.specs.Spots.{Spot, known_after, program_spots}
use Rattle.c_sites.specs.Sites.{site_of, kinds_of_structs, program_sites}
use Rattle.c_sites.specs.Whole.{first_fault}
use Rattle.core_tree.specs.Core.{Program}
use Rattle.c_operators.specs.Context.{Source, global_named}
use Rattle.c_globals.specs.Globals.{global_kinds, global_bases}
use Rattle.c_elaborate.specs.Pointers.{source_pointers}
use Rattle.c_elaborate.specs.Whole.{outers_functions, outers_words, source_of, core_of_source}
use Rattle.core_tree.specs.Sound.{IsAddress, IsSoundFunction, LiesAt, AreAtHome, IsSound}
use Rattle.source_sound.proofs.Faultless.{IsFaultless, faultless}
use Rattle.source_sound.proofs.Sited.{AreSited, all_sited, counted}
use Rattle.source_sound.proofs.FileStructs.{AreStructs}
use Rattle.source_sound.proofs.Listed.{lists_of, OutersListed, after_lists, file_listed}
use Rattle.source_sound.proofs.PointerNumbers.{HavePointerTypes}
use Rattle.source_sound.proofs.PointerTargets.{types_there, all_targets}
use Rattle.source_sound.proofs.Homes.{IsHome, Apart, home_from, size_from, kinds_in, home_found, bases_length, base_is, homes_apart, globals_good, named_good, all_named, site_there, size_there}
use Rattle.source_sound.proofs.Words.{words_length, word_got}
use Rattle.source_sound.proofs.FileObjects.{IsWhole, GoesOn}
use Rattle.source_sound.proofs.Grown.{outers_grow}
use Rattle.source_sound.specs.Members.{StructsHaveMembers}
use Rattle.source_sound.proofs.FileOuters.{AreSoundFrom, words_on}
use Rattle.source_sound.proofs.FileFunctions.{AllAre, one_is, names_of, IsOfFile, all_of_file, names_on, one_main}
use Rattle.source_sound.proofs.AllStructs.{all_structs, structs_counted}
use Rattle.source_sound.proofs.Bodies.{DefinitionsAreSound}
use Rattle.source_sound.proofs.Premises.{HaveSpots}
use Rattle.source_sound.proofs.Among.{among_all}
use Rattle.source_sound.proofs.FileBodies.{all_sound}
use Rattle.source_sound.proofs.FileLayouts.{all_laid}
use Rattle.source_sound.proofs.Layouts.{AllLaidOut}

all_fit : (ks : List (List CellKind)) (xs : List Spot) → AllLaidOut ks xs → sites_fit (map (site_of ks) xs) ≡ true
all_fit ks [] h = refl
all_fit ks (x ∷ xs) h = and_from _ _ h.0 (all_fit ks xs h.1)

-- ---- the program, as it is unfolded

abbrev pub program_of : List Outer → Program
program_of os = record {
  functions = outers_functions (source_of os) (program_addressed os) (known_at_start os) 0 os;
  pointers = source_pointers (known_after (known_at_start os) os) (program_taken os);
  sites = program_sites os;
  globals = outers_words (source_of os) (known_at_start os) os;
  global_kinds = global_kinds (program_spots os) (program_sites os);
  global_bases = global_bases 0 (program_spots os) (program_sites os);
}

pub program_is : (os : List Outer) → core_of_source os ≡ program_of os
unfolding core_of_source
program_is os = refl

have_spots : (p : Program) (sites : List Site) (xs : List Spot) → p.sites ≡ sites → AreSited sites xs → HaveSpots p sites xs
have_spots p sites [] e h = tt
have_spots p sites (x ∷ xs) e h =
    let c = counted sites x.at h.0 in
    let long : length p.sites ≡ length sites = ap length e in
    ((c.0, omega (arith, c.1, long)), have_spots p sites xs e h.1)

module _ (os : List Outer) (h : IsFaultless os) (members : StructsHaveMembers os) where
  abbrev spots : List Spot
  spots = program_spots os

  abbrev kinds : List (List CellKind)
  kinds = kinds_of_structs os

  abbrev start : Known
  start = known_at_start os

  abbrev structs : ℕ
  structs = length start.struct_names

  abbrev p : Program
  p = program_of os

  -- where each global lies
  abbrev pub home : ℕ → Option ℕ
  home = base_at p.global_bases

  home_is : (s b : ℕ) → home s ≡ Some b → home_from kinds 1 0 spots s ≡ Some b
  home_is s b e = sym (base_is kinds spots s) ∙ e

  first_structs : AreStructs start
  first_structs = record { sized = record { sizes = refl; small = tt; many = refl }; members = tt }

  pub whole : IsWhole (source_of os) structs
  whole = record {
    structs = all_structs start os members (file_listed os) h.faults first_structs;
    many = ap (λ xs. length xs) (outers_grow start os).struct_names;
    kinds = refl;
  }

  many : length (source_of os).whole.structs ≡ structs
  many = structs_counted start [] os h.faults (record { names = refl; many = refl }) ∙ ap (λ xs. length xs) (outers_grow start os).struct_names

  -- ---- addresses

  address : (t b : ℕ) → home_from kinds 1 0 spots t ≡ Some b → IsAddress p home (pack t b (size_from kinds 1 spots t) 0)
  address t b e = (t, b, base_is kinds spots t ∙ e, ap (λ z. pack t b z 0) (sym (size_there kinds 0 spots t b e)))

  pub good : (name : Text) → is_some (entry_of (source_of os).globals name) ≡ true → IsAddress p home (global_named (source_of os) name)
  good name e = named_good kinds (IsAddress p home) (source_of os).globals name (globals_good kinds (IsAddress p home) 1 0 [] spots address tt) e

  from_start : AreSoundFrom (source_of os) structs whole (IsAddress p home) good (program_addressed os) start [] 0 os
  from_start = record {
    place = record { file = record { scopes = refl; structs = refl; lists = sym (after_lists start os); entries = tt }; structs = first_structs; more = (source_of os).whole.structs; later = refl };
    members = members;
    listed = subst (λ lists. OutersListed lists os) (sym (after_lists start os)) (file_listed os);
    faults = h.faults;
    names = all_named kinds 1 0 [] spots;
    following = refl;
  }

  words : GoesOn (source_of os) structs whole (IsAddress p home) good start (known_after start os) (kinds_in kinds spots) p.globals
  words = words_on (source_of os) structs whole (IsAddress p home) good (program_addressed os) start [] 0 os from_start

  cells : length p.global_kinds ≡ length p.globals
  cells = words_length (IsAddress p home) (kinds_in kinds spots) p.globals words.words_are

  lies : (s b : ℕ) (is : IsHome kinds 1 0 spots (kinds_in kinds spots) s b) → LiesAt p (site_of kinds is.spot) b
  lies s b is = record {
    within = let place = is.place in let inside = is.within in omega (arith, place, inside, cells);
    kinds = λ k cell e. let place = is.place in let at : b + k ≡ is.offset + k = omega (arith, place) in ap (λ z. slice_get p.global_kinds z) at ∙ is.kinds_are k cell e;
  }

  abbrev IsApart : (s t b c : ℕ) → Type 0
  IsApart s t b c = (b + size_of p.sites s ≤ c) ⊎ (c + size_of p.sites t ≤ b)

  apart_by : (s t b c : ℕ) → home_from kinds 1 0 spots s ≡ Some b → home_from kinds 1 0 spots t ≡ Some c → Apart kinds 1 spots s t b c → IsApart s t b c
  apart_by s t b c e g (inl le) = inl (subst (λ z. b + z ≤ c) (sym (size_there kinds 0 spots s b e)) le)
  apart_by s t b c e g (inr le) = inr (subst (λ z. c + z ≤ b) (sym (size_there kinds 0 spots t c g)) le)

  pub at_home : AreAtHome p home
  at_home = record {
    there = λ s b e. let is = home_found kinds 1 0 spots s b (home_is s b e) in (site_of kinds is.spot, site_there kinds 0 spots s b is, lies s b is);
    apart = λ s t b c e g ne. let first = home_is s b e in let second = home_is t c g in apart_by s t b c first second (homes_apart kinds 1 0 spots s t b c first second ne);
    words = λ k w e g. word_got (IsAddress p home) (kinds_in kinds spots) p.globals words.words_are k w e g;
  }

  few_cells : length p.globals ≤ 2 ^ 20
  few_cells = let count = words.count in let few = words.few (omega arith) in omega (arith, count, few)

  -- ---- functions

  of_file : AllAre (λ f. IsOfFile structs (known_after start os) f) p.functions
  of_file = all_of_file (source_of os) structs whole (IsAddress p home) good (program_addressed os) start [] 0 os from_start

  names : start.defined ≡ names_of p.functions
  names = names_on (source_of os) structs whole (IsAddress p home) good (program_addressed os) start [] 0 os from_start tt

  all_names : (known_after start os).defined ≡ names_of p.functions
  all_names = (outers_grow start os).defined ∙ names

  -- calls through pointers are there
  pointer_types : HavePointerTypes p structs (lists_of (known_after start os))
  pointer_types = types_there p structs (known_after start os) words.scope (program_taken os) words.place.file.scopes all_names refl

  laid_out : AllLaidOut kinds spots
  laid_out = all_laid (source_of os) structs whole whole.structs.sized.small (whole.structs.sized.many ∙ many) (IsAddress p home) good (program_addressed os) start [] 0 os from_start

  -- where definitions are sound
  module _ (definitions : DefinitionsAreSound p home structs (source_of os)) (few : length p.functions + length p.pointers ≤ 2 ^ 20) where
    all_functions : AllAre (λ f. IsSoundFunction p home f) p.functions
    all_functions =
        all_sound p home (source_of os) structs whole many good (program_addressed os) (known_after start os) all_names of_file refl definitions pointer_types start [] 0 os from_start refl
        (among_all (program_addressed os)) (have_spots p p.sites spots refl (all_sited kinds spots))

    pub program_sound : IsSound p
    program_sound = record {
      homes = at_home;
      functions = λ k f e. one_is (λ z. IsSoundFunction p home z) p.functions all_functions k f e;
      targets = all_targets p structs (known_after start os) words.scope (program_taken os) words.place.file.scopes all_names refl of_file;
      one_main = one_main os p.functions names h.main;
      main_alone = λ k f e is. (one_is (λ z. IsOfFile structs (known_after start os) z) p.functions of_file k f e).alone is;
      cell_kinds = cells;
      bases = bases_length kinds 0 spots;
      layouts = all_fit kinds spots laid_out;
      few_functions = few;
      few_sites = let long = length-map spots (site_of kinds) in let le = h.sites in omega (arith, long, le);
      few_cells = few_cells;
    }

-- where each definition without a fault is sound, the core tree of a source without one is
pub law_sound : ((p : Program) (home : ℕ → Option ℕ) (n : ℕ) (s : Source) → DefinitionsAreSound p home n s) → (os : List Outer) → StructsHaveMembers os → first_fault os ≡ None → length (core_of_source os).functions + length (core_of_source os).pointers ≤ 2 ^ 20 → IsSound (core_of_source os)
law_sound definitions os members none few =
    let h = faultless os none in
    subst (λ p. IsSound p) (sym (program_is os)) (program_sound os h members (definitions (program_of os) (home os h members) (length (known_at_start os).struct_names) (source_of os)) (subst (λ p. length p.functions + length p.pointers ≤ 2 ^ 20) (program_is os) few))
