-- The core tree of a function that is defined is sound where its definition has no fault.
use Rattle.std.proofs.Common.{◌≡◌, ℕ, ◌+◌, ◌-◌, ◌<◌, ◌≤◌, ◌==◌, nat_le, Bool, true, false, ◌&&◌, if◌then◌else◌, List, [], ◌∷◌, ◌++◌, length, map, Option, Some, None, is_none, slice_get, refl, sym, ap, ◌∙◌, subst, arith, leb-true, append_assoc, length-append}
use Rattle.std.proofs.lemmas.List.{length-map}
use Rattle.rr_base.specs.declared.layout.Site.{Site}
use Rattle.c_names.specs.Sources.{param_name}
use Rattle.rr_base.specs.Texts.{Text}
use Rattle.c_tree.specs.declared.name.Name.{Name}
use Rattle.c_tree.specs.Tree.{Formal, formal, formal_pointer, Parts}
use Rattle.c_types.specs.declared.types.ObjectType.{ObjectType}
use Rattle.c_types.specs.declared.library.StarredType.{StarredType}
use Rattle.c_types.specs.Scopes.{Known, member_of, cells_of_type, opened}
use Rattle.c_rules.specs.Faults.{mismatch, specifier_faults}
use Rattle.c_programs.specs.Declarators.{place_by, param_name_faults, param_faults, params_faults, after_param, after_params}
use Rattle.c_names.specs.Signatures.{cannot_pass}
use Rattle.c_programs.specs.Statements.{parts_faults}
use Rattle.c_numbers.specs.Numbered.{Numbered}
use Rattle.c_locals.specs.Addresses.{is_among, numbered_from, parts_addressed}
use Rattle.c_spots.specs.Spots.{in_function, formals_spots, parts_spots, definition_spots}
use Rattle.core_tree.specs.Core as core
use Rattle.core_tree.specs.Core.{Function, Program, Arrival}
use Rattle.c_frames.specs.declared.local.Local.{Local}
use Rattle.c_operators.specs.Context.{Source, Frame, context_in, home_numbered, site_at}
use Rattle.c_frames.specs.Locals.{parts_locals}
use Rattle.c_frames.specs.Frames.{formal_of, marked, one_if, kept_count, local_pointers, pointers_of, sites_of, arrivals_of, frame_of}
use Rattle.c_elaborate.specs.Functions.{definition}
use Rattle.core_tree.specs.Sound.{HasSite, IsSoundArrival, IsSoundStatement, IsSoundFunction}
use Rattle.source_sound.proofs.Among.{AreAmong}
use Rattle.source_sound.proofs.Environment.{IsFormed, IsKept}
use Rattle.source_sound.proofs.NoFaults.{append_nil, four_nil, matches}
use Rattle.source_sound.proofs.Premises.{HaveSpots, spots_parts, AreAllKept, AreValuesSound, AreWantedSound}
use Rattle.source_sound.proofs.Listed.{lists_of, FormalsListed, PartsListed}
use Rattle.source_sound.proofs.PointerNumbers.{HavePointerTypes}
use Rattle.source_sound.proofs.Results.{IsPlainResult}
use Rattle.source_sound.proofs.Inside.{FileFits, Inside}
use Rattle.source_sound.proofs.Locals.{HomesFit, AreHome, home_left, home_right, unmarked, marked_append, marked_length, marked_kept, kept_append, sites_count, homes_fit, all_home}
use Rattle.source_sound.proofs.Declarations.{next_after_formals, formals_inside}
use Rattle.source_sound.proofs.Statements.{parts_sound}
use Rattle.source_sound.proofs.Sites.{Each, each_at, each_both, sites_there, parts_sited, AreNamed, formals_sited}

-- ---- arrivals

-- the register and the object of each are below these numbers
abbrev ArrivesBelow : ℕ → ℕ → Arrival → Type 0
ArrivesBelow registers objects (core.arrives r k at) = (r < registers) × (k < objects)

one_arrives : (registers objects r k : ℕ) (l : Local) (b : Bool) → l.is_kept ≡ b → r < registers → k + one_if l.is_kept ≤ objects
    → Each (ArrivesBelow registers objects) (if b then core.arrives r k l.at ∷ [] else [])
one_arrives registers objects r k l true is lt le = let one : one_if l.is_kept ≡ 1 = ap one_if is in ((lt, omega (arith, le, one)), tt)
one_arrives registers objects r k l false is lt le = tt

all_arrive : (registers objects r k : ℕ) (ls : List Local) → r + length ls ≤ registers → k + kept_count ls ≤ objects → Each (ArrivesBelow registers objects) (arrivals_of r k ls)
all_arrive registers objects r k [] few kept = tt
all_arrive registers objects r k (l ∷ ls) few kept =
    each_both (ArrivesBelow registers objects) (if l.is_kept then core.arrives r k l.at ∷ [] else []) (arrivals_of (r + 1) (k + one_if l.is_kept) ls)
    (one_arrives registers objects r k l l.is_kept refl (omega (arith, few)) (omega (arith, kept)))
    (all_arrive registers objects (r + 1) (k + one_if l.is_kept) ls (omega (arith, few)) (omega (arith, kept)))

arrival_sound : (p : Program) (home : ℕ → Option ℕ) (f : Function) (a : Arrival) → ArrivesBelow (length f.pointers) (length f.objects) a → IsSoundArrival p home f a
arrival_sound p home f (core.arrives r k at) below = below

-- the formals are among the registers
formals_few : (formals locals : List Local) → length formals ≤ length (pointers_of formals locals)
formals_few formals locals =
    let all : length (pointers_of formals locals) ≡ length (map (λ (l : Local). l.is_pointer) formals) + length (local_pointers locals) = length-append (map (λ (l : Local). l.is_pointer) formals) (local_pointers locals) in
    let own : length (map (λ (l : Local). l.is_pointer) formals) ≡ length formals = length-map formals (λ (l : Local). l.is_pointer) in
    omega (arith, all, own)

-- ---- what `&` is applied to

kept_by : (b : Bool) (frame : Frame) (m : ℕ) → nat_le frame.first m ≡ b → (b ≡ true → IsKept (slice_get frame.homes (m - frame.first))) → IsKept (if b then slice_get frame.homes (m - frame.first) else None)
kept_by true frame m e there = there refl
kept_by false frame m e there = tt

module _ (pointers : List Bool) (many : ℕ) (ns : List ℕ) (ls : List Local) (frame : Frame) (fit : HomesFit pointers many frame.homes (marked ns frame.first ls)) where
  kept_number : (m : ℕ) → is_among ns m ≡ true → IsKept (home_numbered frame (Some m))
  kept_number m is = kept_by (nat_le frame.first m) frame m refl (λ e. marked_kept pointers many ns frame.first frame.homes ls (m - frame.first) fit (there e))
    where
      there : nat_le frame.first m ≡ true → is_among ns (frame.first + (m - frame.first)) ≡ true
      there e = let le : frame.first ≤ m = leb-true frame.first m e in let same : m ≡ frame.first + (m - frame.first) = omega (arith, le) in subst (λ k. is_among ns k ≡ true) same is

  all_kept : (ms : List ℕ) → AreAmong ns ms → AreAllKept frame ms
  all_kept [] are = tt
  all_kept (m ∷ ms) are = (kept_number m are.0, all_kept ms are.1)

-- ---- formals

nameless : (known : Known) (q : Formal) → param_faults known true q ≡ [] → (param_name q) ≡ None → ⊥
nameless known (formal s stars name at) none is =
    let parts = four_nil (specifier_faults known (stars == 0) s) (mismatch (cannot_pass s stars) (place_by name at)) (mismatch (true && is_none name) (place_by name at)) (param_name_faults known name) none in
    let e : is_none name ≡ false = matches (true && is_none name) (place_by name at) parts.2 in
    let t : is_none name ≡ true = ap is_none is in
    cc
nameless known (formal_pointer s stars name ps at) none is = cc

all_named : (p : Program) (sites : List Site) (ns : List ℕ) (f : Text) (known : Known) (qs : List Formal) → params_faults known true qs ≡ [] → AreNamed p sites ns f qs
all_named p sites ns f known [] none = tt
all_named p sites ns f known (q ∷ qs) none =
    let parts = append_nil (param_faults known true q) (params_faults (after_param known q) true qs) none in
    (nameless known q parts.0, all_named p sites ns f (after_param known q) qs parts.1)

-- ---- a definition

-- what is known of the file, where the definition stands
pub record FileSuits (p : Program) (home : ℕ → Option ℕ) (f : Function) (structs : ℕ) (s : Source) (known : Known) : Type 0 where
  pub sizes : (t : ObjectType) → IsFormed structs t → 1 ≤ cells_of_type s.whole t
  pub members : (k : ℕ) (name : Text) (m : Option ObjectType) → member_of known k name ≡ Some m → (t : ObjectType) × (m ≡ Some t) × IsFormed structs t
  pub struct_names : length known.struct_names ≡ structs
  pub names : FileFits p home f structs s known.defined known.scopes
  pub lists : lists_of known ≡ lists_of s.whole
  pub pointer_types : HavePointerTypes p structs (lists_of s.whole)

module _ (p : Program) (home : ℕ → Option ℕ) (structs : ℕ) (s : Source) (ns : List ℕ) (known : Known) (n : ℕ) (name : Name) (result : StarredType) (qs : List Formal) (body : Parts) where
  abbrev pub function_here : Function
  function_here = definition s ns (opened known) n name (Some result) qs body

  abbrev formals_here : List Local
  formals_here = marked ns n (map formal_of qs)

  abbrev locals_here : List Local
  locals_here = marked ns (n + length qs) (parts_locals body)

  abbrev frame_here : Frame
  frame_here = frame_of n formals_here locals_here (Some result)

  abbrev numbers_here : Numbered
  numbers_here = record { next = n; scopes = [] ∷ [] }

  -- the formals and locals are marked by their numbers, one after another
  marked_here : marked ns n (map formal_of qs ++ parts_locals body) ≡ formals_here ++ locals_here
  marked_here =
      let count : length (map formal_of qs) ≡ length qs = length-map qs formal_of in
      marked_append ns n (n + length qs) (map formal_of qs) (parts_locals body) (omega (arith, count))

  home_here : AreHome function_here.pointers (length function_here.objects) frame_here n (formals_here ++ locals_here)
  home_here = all_home s.sites frame_here formals_here locals_here refl

  formals_home : AreHome function_here.pointers (length function_here.objects) frame_here n (map formal_of qs)
  formals_home =
      unmarked function_here.pointers (length function_here.objects) frame_here n ns n (map formal_of qs)
      (home_left function_here.pointers (length function_here.objects) frame_here n formals_here locals_here home_here)

  locals_home : AreHome function_here.pointers (length function_here.objects) frame_here (numbered_from n qs).next (parts_locals body)
  locals_home =
      let next = next_after_formals p home function_here structs numbers_here qs in
      let count : length formals_here ≡ length qs = marked_length ns n (map formal_of qs) ∙ length-map qs formal_of in
      unmarked function_here.pointers (length function_here.objects) frame_here (numbered_from n qs).next ns (n + length qs) (parts_locals body)
      (home_right function_here.pointers (length function_here.objects) frame_here n (numbered_from n qs).next formals_here locals_here (omega (arith, next, count)) home_here)

  kept_here : AreAmong ns (parts_addressed (numbered_from n qs) body) → AreAllKept frame_here (parts_addressed (numbered_from n qs) body)
  kept_here are =
      let fit = homes_fit s.sites formals_here locals_here in
      all_kept function_here.pointers (length function_here.objects) ns (map formal_of qs ++ parts_locals body) frame_here
      (subst (λ ls. HomesFit function_here.pointers (length function_here.objects) frame_here.homes ls) (sym marked_here) fit)
      (parts_addressed (numbered_from n qs) body) are

  body_here : AreValuesSound p home function_here → AreWantedSound p home function_here → FileSuits p home function_here structs s known
      → IsPlainResult (Some result) → FormalsListed (lists_of s.whole) qs → PartsListed (lists_of s.whole) body → params_faults (opened known) true qs ≡ [] → parts_faults (after_params (opened known) qs) (Some result) false body ≡ []
      → AreAmong ns (parts_addressed (numbered_from n qs) body) → HaveSpots p s.sites (parts_spots (in_function name.text ns) (after_params (opened known) qs) (n + length qs) body)
      → IsSoundStatement p home function_here function_here.body
  body_here values wanted file plain formals locals no_params none among spots =
      let start : Inside p home function_here structs (context_in s frame_here (opened known) numbers_here) =
      record { sizes = file.sizes; members = file.members; struct_names = file.struct_names; lists = file.lists; pointer_types = file.pointer_types; scopes = (tt, file.names); is_open = tt; gives = refl } in
      let inside = formals_inside p home function_here structs (context_in s frame_here (opened known) numbers_here) qs start formals_home formals no_params in
      parts_sound p home function_here structs values wanted result refl plain name.text ns (context_in s frame_here (after_params (opened known) qs) (numbered_from n qs)) false body inside locals locals_home (n + length qs) (kept_here among, spots) none

  objects_here : params_faults (opened known) true qs ≡ [] → HaveSpots p s.sites (formals_spots (in_function name.text ns) (opened known) n qs)
      → HaveSpots p s.sites (parts_spots (in_function name.text ns) (after_params (opened known) qs) (n + length qs) body) → Each (HasSite p) (sites_of s.sites (formals_here ++ locals_here))
  objects_here no_params formals locals =
      let named = all_named p s.sites ns name.text (opened known) qs no_params in
      let first = sites_there p s.sites ns n (map formal_of qs) (formals_sited p s.sites ns name.text (opened known) n qs named formals) in
      let rest = sites_there p s.sites ns (n + length qs) (parts_locals body) (parts_sited p s.sites ns name.text (after_params (opened known) qs) (n + length qs) body locals) in
      subst (λ ss. Each (HasSite p) ss) (sym (sites_append formals_here locals_here)) (each_both (HasSite p) (sites_of s.sites formals_here) (sites_of s.sites locals_here) first rest)
    where
      sites_append : (xs ys : List Local) → sites_of s.sites (xs ++ ys) ≡ sites_of s.sites xs ++ sites_of s.sites ys
      sites_append [] ys = refl
      sites_append (x ∷ xs) ys =
          ap (λ zs. (if x.is_kept then site_at s.sites x.at ∷ [] else []) ++ zs) (sites_append xs ys)
          ∙ sym (append_assoc (if x.is_kept then site_at s.sites x.at ∷ [] else []) (sites_of s.sites xs) (sites_of s.sites ys))

  arrivals_here : Each (ArrivesBelow (length function_here.pointers) (length function_here.objects)) function_here.arrivals
  arrivals_here =
      let few = formals_few formals_here locals_here in
      let count = sites_count s.sites (formals_here ++ locals_here) in
      let sum = kept_append function_here.pointers 0 formals_here locals_here in
      all_arrive (length function_here.pointers) (length function_here.objects) 0 0 formals_here (omega (arith, few)) (omega (arith, count, sum))

  pub definition_sound : AreValuesSound p home function_here → AreWantedSound p home function_here → FileSuits p home function_here structs s known
      → IsPlainResult (Some result) → FormalsListed (lists_of s.whole) qs → PartsListed (lists_of s.whole) body → params_faults (opened known) true qs ≡ [] → parts_faults (after_params (opened known) qs) (Some result) false body ≡ []
      → AreAmong ns (parts_addressed (numbered_from n qs) body) → HaveSpots p s.sites (definition_spots (in_function name.text ns) (opened known) n qs body)
      → IsSoundFunction p home function_here
  definition_sound values wanted file plain formals locals no_params none among spots =
      let two = spots_parts p s.sites (formals_spots (in_function name.text ns) (opened known) n qs) (parts_spots (in_function name.text ns) (after_params (opened known) qs) (n + length qs) body) spots in
      record {
        formals = formals_few formals_here locals_here;
        objects = λ k site e. each_at (HasSite p) (sites_of s.sites (formals_here ++ locals_here)) k site (objects_here no_params two.0 two.1) e;
        arrivals = λ k a e. arrival_sound p home function_here a (each_at (ArrivesBelow (length function_here.pointers) (length function_here.objects)) function_here.arrivals k a arrivals_here e);
        body = body_here values wanted file plain formals locals no_params none among two.1;
      }
