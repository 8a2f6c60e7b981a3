-- The functions of a file without a fault: each is defined once, has the number of its name, and is called as it is declared.
use Rattle.std.proofs.Common.{◌≡◌, ℕ, zero, suc, ◌+◌, ◌<◌, cond, Bool, true, false, not, ◌&&◌, ◌||◌, nat_lt, if◌then◌else◌, List, [], ◌∷◌, ◌++◌, map, length, take, Option, Some, None, is_some, slice_get, position, bytes_eq, codes, count_by, refl, sym, ap, ap₂, ◌∙◌, subst, arith, true≢false, append_assoc, append-nil, lt-ltb}
use Rattle.std.specs.List.{position_or_len}
use Rattle.std.proofs.lemmas.Bool.{and_parts}
use Rattle.std.proofs.lemmas.List.{length-map}
use Rattle.std.proofs.lemmas.List.Sums.{sum_by-cons}
use Rattle.std.proofs.lemmas.Option.{same_Some, none-some}
use Rattle.rr_base.specs.Texts.{Text, entry_of}
use Rattle.c_tree.specs.declared.name.Name.{Name}
use Rattle.c_tree.specs.declared.ctype.Specifier.{Specifier}
use Rattle.c_tree.specs.Tree.{Formal, formal, formal_pointer, Formals, Parts, Object, Fields, Code, defined, prototype, Outer, structure, function, objects}
use Rattle.rr_base.specs.declared.position.Position.{Position}
use Rattle.c_types.specs.declared.fault.FaultKind.TheVariants as fault
use Rattle.c_types.specs.declared.library.StarredType.{StarredType}
use Rattle.c_types.specs.declared.names.Signature.{Signature}
use Rattle.c_types.specs.Found.{where_it_comes}
use Rattle.c_rules.specs.Faults.{name_place, mismatch}
use Rattle.c_types.specs.Scopes.{Known, Scope, Meaning, variable, function_of, innermost, with_text, has_name, opened}
use Rattle.c_types.specs.Standing.{is_main as is_main_name}
use Rattle.c_names.specs.Sources.{listed_params, declared_by, functions_with}
use Rattle.c_programs.specs.Declarators.{is_struct_defined, with_fields, struct_cells, after_struct}
use Rattle.c_names.specs.Signatures.{wanted_of, signature_of, result_of}
use Rattle.c_programs.specs.Statements.{after_declared, after_objects}
use Rattle.c_programs.specs.Programs.{after_function, after_outer, again_faults, is_main_signature, int_result, agree, agree_on_result, agree_on_params}
use Rattle.c_locals.specs.Addresses.{count_of_outer}
use Rattle.c_spots.specs.Spots.{known_after}
use Rattle.core_tree.specs.Core.{Function}
use Rattle.core_tree.specs.Meaning.{is_main}
use Rattle.c_frames.specs.declared.local.Local.{Local}
use Rattle.c_operators.specs.Context.{Source, global_named}
use Rattle.c_values.specs.Calls.{gives_pointer}
use Rattle.c_frames.specs.Frames.{formal_of, marked, local_pointers}
use Rattle.c_elaborate.specs.Functions.{definition}
use Rattle.c_frames.specs.Locals.{parts_locals}
use Rattle.c_elaborate.specs.Whole.{code_functions, outer_functions, outers_functions}
use Rattle.core_tree.specs.Sound.{formal_kinds}
use Rattle.source_sound.proofs.FileLists.{append_nil, where_nil, same_text, text_same}
use Rattle.source_sound.proofs.Signatures.{kinds_wanted, IsKnown, is_pointer_formal}
use Rattle.source_sound.proofs.FileScope.{IsFunction}
use Rattle.source_sound.proofs.FileObjects.{IsWhole}
use Rattle.source_sound.proofs.Grown.{found, Grows, function_grows, outer_grows, outers_grow}
use Rattle.source_sound.proofs.FileOuters.{AreSoundFrom, OneOn, one_on, function_is}

-- ---- lists of functions

abbrev pub AllAre : (Function → Type 0) → List Function → Type 0
AllAre P [] = Unit {0}
AllAre P (f ∷ fs) = P f × AllAre P fs

pub all_are : (P : Function → Type 0) (fs gs : List Function) → AllAre P fs → AllAre P gs → AllAre P (fs ++ gs)
all_are P [] gs h g = g
all_are P (f ∷ fs) gs h g = (h.0, all_are P fs gs h.1 g)

pub one_is : (P : Function → Type 0) (fs : List Function) → AllAre P fs → (k : ℕ) (f : Function) → slice_get fs k ≡ Some f → P f
one_is P [] h k f e = absurd (none-some f e)
one_is P (g ∷ fs) h zero f e = subst P (same_Some g f e) h.0
one_is P (g ∷ fs) h (suc k) f e = one_is P fs h.1 k f e

abbrev pub names_of : List Function → List Text
names_of fs = map (λ f. f.name) fs

names_parts : (fs gs : List Function) → names_of (fs ++ gs) ≡ names_of fs ++ names_of gs
names_parts [] gs = refl
names_parts (f ∷ fs) gs = ap (λ ns. f.name ∷ ns) (names_parts fs gs)

-- ---- what a name means

-- names that mean one function have one type
pub same_function : (f g : Signature) → ◌≡◌ {A = Option Meaning} (Some (function_of f)) (Some (function_of g)) → f ≡ g
same_function f g e = inside (same_Some (function_of f) (function_of g) e)
  where
    signature_in : Meaning → Signature
    signature_in (variable t) = f
    signature_in (function_of h) = h

    inside : ◌≡◌ {A = Meaning} (function_of f) (function_of g) → f ≡ g
    inside e = ap signature_in e

-- ---- the kinds of formals

marked_pointers : (ns : List ℕ) (n : ℕ) (ls : List Local) → map (λ l. l.is_pointer) (marked ns n ls) ≡ map (λ l. l.is_pointer) ls
marked_pointers ns n [] = refl
marked_pointers ns n (l ∷ ls) = ap (λ bs. l.is_pointer ∷ bs) (marked_pointers ns (n + 1) ls)

marked_length : (ns : List ℕ) (n : ℕ) (ls : List Local) → length (marked ns n ls) ≡ length ls
marked_length ns n [] = refl
marked_length ns n (l ∷ ls) = let more = marked_length ns (n + 1) ls in omega (arith, more)

formal_kind : (p : Formal) → (formal_of p).is_pointer ≡ is_pointer_formal p
formal_kind (formal s stars None at) = refl
formal_kind (formal s stars (Some name) at) = refl
formal_kind (formal_pointer s stars name ps at) = refl

formals_pointers : (ps : List Formal) → map (λ l. l.is_pointer) (map formal_of ps) ≡ map is_pointer_formal ps
formals_pointers [] = refl
formals_pointers (p ∷ ps) = ap₂ (λ b bs. b ∷ bs) (formal_kind p) (formals_pointers ps)

first_ones : (ls : List Local) (more : List Bool) → take (length ls) (map (λ l. l.is_pointer) ls ++ more) ≡ map (λ l. l.is_pointer) ls
first_ones [] more = refl
first_ones (l ∷ ls) more = ap (λ bs. l.is_pointer ∷ bs) (first_ones ls more)

pub definition_kinds : (s : Source) (ns : List ℕ) (inside : Known) (m : ℕ) (name : Name) (result : Option StarredType) (ps : List Formal) (parts : Parts) → formal_kinds (definition s ns inside m name result ps parts) ≡ map is_pointer_formal ps
definition_kinds s ns inside m name result ps parts =
    first_ones (marked ns m (map formal_of ps)) (local_pointers (marked ns (m + length ps) (parts_locals parts))) ∙ marked_pointers ns m (map formal_of ps) ∙ formals_pointers ps

pub definition_formals : (s : Source) (ns : List ℕ) (inside : Known) (m : ℕ) (name : Name) (result : Option StarredType) (ps : List Formal) (parts : Parts) → (definition s ns inside m name result ps parts).formals ≡ length ps
definition_formals s ns inside m name result ps parts = marked_length ns m (map formal_of ps) ∙ length-map ps formal_of

-- ---- `main` has no formals

no_params : (known : Known) (ps : List Formal) → agree_on_params (map (wanted_of known) ps) [] ≡ true → length ps ≡ 0
no_params known [] e = refl
no_params known (p ∷ ps) e = absurd (true≢false (sym e))

main_alone : (known : Known) (sp : Specifier) (stars : ℕ) (ps : Formals) (is : Bool) → is ≡ true → (is && not (is_main_signature (signature_of known sp stars ps))) ≡ false → length (listed_params ps) ≡ 0
main_alone known sp stars ps true e h = no_params known (listed_params ps) (and_parts (agree_on_result (result_of known sp stars) int_result) (agree_on_params (map (wanted_of known) (listed_params ps)) []) (yes_from (is_main_signature (signature_of known sp stars ps)) h)).1
  where
    yes_from : (b : Bool) → not b ≡ false → b ≡ true
    yes_from true e = refl
    yes_from false e = absurd (true≢false e)
main_alone known sp stars ps false e h = absurd (true≢false (sym e))

-- ---- each function

-- by its name after the whole file
pub record IsOfFile (n : ℕ) (final : Known) (f : Function) : Type 0 where
  pub signature : Signature
  pub means : found final f.name ≡ Some (function_of signature)
  pub known : IsKnown n signature
  pub kinds : formal_kinds f ≡ kinds_wanted signature.params
  pub gives : f.gives_pointer ≡ gives_pointer signature.result
  pub alone : is_main f ≡ true → f.formals ≡ 0

module _ (s : Source) (n : ℕ) (whole : IsWhole s n) (Good : ℕ → Type 0) (good : (name : Text) → is_some (entry_of s.globals name) ≡ true → Good (global_named s name)) (ns : List ℕ) where
  abbrev pub From : Known → Scope → ℕ → List Outer → Type 0
  From known scope m os = AreSoundFrom s n whole Good good ns known scope m os

  code_of_file : (known : Known) (scope : Scope) (m : ℕ) (sp : Specifier) (stars : ℕ) (name : Name) (ps : Formals) (code : Code) (final : Known) → Grows (after_function known name (signature_of known sp stars ps) code) final →
      IsFunction s.whole n (λ x. is_some (entry_of s.globals x) ≡ true) known scope sp stars name ps code → AllAre (λ f. IsOfFile n final f) (code_functions s ns known m name (signature_of known sp stars ps) ps code)
  code_of_file known scope m sp stars name ps prototype final grown is = tt
  code_of_file known scope m sp stars name ps (defined parts at) final grown is =
      let f = signature_of known sp stars ps in
      let after = after_function known name f (defined parts at) in
      let inside = opened after in
      let to = is.leads_to in
      let here' : found after name.text ≡ Some (function_of to.0) = ap (λ ss. entry_of (innermost ss) name.text) is.file.scopes ∙ to.1 in (
        record {
          signature = to.0;
          means = grown.names name.text (function_of to.0) here';
          known = to.2;
          kinds = definition_kinds s ns inside m name f.result (listed_params ps) parts ∙ sym is.formals ∙ sym to.3.0;
          gives = sym to.3.1;
          alone = λ e. definition_formals s ns inside m name f.result (listed_params ps) parts ∙ main_alone known sp stars ps (is_main_name name.text) e is.as_main;
        },
        tt,
      )

  outer_of_file : (known : Known) (scope : Scope) (m : ℕ) (o : Outer) (os : List Outer) → From known scope m (o ∷ os) → OneOn s n whole Good good ns known scope m o os → AllAre (λ f. IsOfFile n (known_after (after_outer known o) os) f) (outer_functions s ns known m o)
  outer_of_file known scope m (structure name fs) os h one = tt
  outer_of_file known scope m (function is_static sp stars name ps code) os h one =
      code_of_file known scope m sp stars name ps code (known_after (after_outer known (function is_static sp stars name ps code)) os) (outers_grow (after_outer known (function is_static sp stars name ps code)) os) (function_is s n whole Good good ns known scope is_static sp stars name ps code h.place one.listed one.own)
  outer_of_file known scope m (objects is_static sp xs at) os h one = tt

  pub all_of_file : (known : Known) (scope : Scope) (m : ℕ) (os : List Outer) → From known scope m os → AllAre (λ f. IsOfFile n (known_after known os) f) (outers_functions s ns known m os)
  all_of_file known scope m [] h = tt
  all_of_file known scope m (o ∷ os) h =
      let one = one_on s n whole Good good ns known scope m o os h in
      all_are (λ f. IsOfFile n (known_after (after_outer known o) os) f) (outer_functions s ns known m o) (outers_functions s ns (after_outer known o) (m + count_of_outer o) os)
      (outer_of_file known scope m o os h one) (all_of_file (after_outer known o) one.goes.scope (m + count_of_outer o) os one.rest)

  -- ---- their names, in order

  -- each function whose definition has begun is known
  abbrev pub AreFound : Known → List Text → Type 0
  AreFound known [] = Unit {0}
  AreFound known (x ∷ xs) = (is_some (found known x) ≡ true) × AreFound known xs

  found_stays : (known after : Known) (xs : List Text) → ((name : Text) (m : Meaning) → found known name ≡ Some m → found after name ≡ Some m) → AreFound known xs → AreFound after xs
  found_stays known after [] keep h = tt
  found_stays known after (x ∷ xs) keep h = (by (found known x) refl h.0, found_stays known after xs keep h.1)
    where
      by : (o : Option Meaning) → found known x ≡ o → is_some o ≡ true → is_some (found after x) ≡ true
      by None is e = absurd (true≢false (sym e))
      by (Some m) is e = ap is_some (keep x m is)

  found_more : (known : Known) (xs : List Text) (name : Text) → AreFound known xs → is_some (found known name) ≡ true → AreFound known (xs ++ name ∷ [])
  found_more known [] name h e = (e, tt)
  found_more known (x ∷ xs) name h e = (h.0, found_more known xs name h.1 e)

  found_with : (known : Known) (xs : List Text) (name : Text) → AreFound known xs → is_some (found known name) ≡ true → AreFound known (with_text xs name)
  found_with known xs name h e = by (has_name xs name)
    where
      by : (b : Bool) → AreFound known (if b then xs else xs ++ name ∷ [])
      by true = h
      by false = found_more known xs name h e

  found_has : (known : Known) (xs : List Text) (name : Text) → AreFound known xs → has_name xs name ≡ true → is_some (found known name) ≡ true
  found_has known [] name h e = absurd (true≢false (sym e))
  found_has known (x ∷ xs) name h e = by (bytes_eq name x) refl e (λ k. found_has known xs name h.1 k)
    where
      by : (b : Bool) → bytes_eq name x ≡ b → (b || has_name xs name) ≡ true → (has_name xs name ≡ true → is_some (found known name) ≡ true) → is_some (found known name) ≡ true
      by true same e rec = subst (λ z. is_some (found known z) ≡ true) (sym (same_text name x same)) h.0
      by false same e rec = rec e

  -- no function is defined twice
  once : (known : Known) (name : Name) (f : Signature) (at : Position) → AreFound known known.begun → again_faults (found known name.text) (true && has_name known.begun name.text) f at ≡ [] → has_name known.begun name.text ≡ false
  once known name f at h e = by (has_name known.begun name.text) refl e
    where
      no_more_than : (o : Option Meaning) → is_some o ≡ true → again_faults o true f at ≡ [] → ⊥
      no_more_than None is e = true≢false (sym is)
      no_more_than (Some (variable t)) is e = cc
      no_more_than (Some (function_of g)) is e = let a = append_nil (where_it_comes true fault.DuplicateName at) (mismatch (not (agree g f)) at) e in true≢false (where_nil true _ _ a.0)

      by : (b : Bool) → has_name known.begun name.text ≡ b → again_faults (found known name.text) (true && b) f at ≡ [] → b ≡ false
      by true is e = absurd (no_more_than (found known name.text) (found_has known known.begun name.text h is) e)
      by false is e = refl

  -- after a definition the names of those that have begun are there, with the new one last
  record BegunOn (known : Known) (o : Outer) (os : List Outer) (names : List Text) : Type 0 where
    are : AreFound (after_outer known o) (after_outer known o).begun
    all : functions_with known.begun (o ∷ os) ≡ functions_with (after_outer known o).begun os
    last : (after_outer known o).begun ≡ known.begun ++ names

  none_new : (known : Known) (o : Outer) (os : List Outer) → AreFound known known.begun → (after_outer known o).begun ≡ known.begun → functions_with known.begun (o ∷ os) ≡ functions_with known.begun os → BegunOn known o os []
  none_new known o os b same e = record {
    are = subst (λ xs. AreFound (after_outer known o) xs) (sym same) (found_stays known (after_outer known o) known.begun (λ name m is. (outer_grows known o).names name m is) b);
    all = e ∙ ap (λ xs. functions_with xs os) (sym same);
    last = same ∙ sym (append-nil known.begun);
  }

  struct_begun : (known : Known) (name : Name) (fs : List Fields) → (after_struct known name fs).begun ≡ known.begun
  struct_begun known name fs = by (is_struct_defined known name.text)
    where
      by : (b : Bool) → (if b then known else record known { structs = known.structs ++ with_fields known [] fs ∷ []; sizes = known.sizes ++ struct_cells known fs ∷ [] }).begun ≡ known.begun
      by true = refl
      by false = refl

  objects_begun : (known : Known) (sp : Specifier) (xs : List Object) → (after_objects known true sp xs).begun ≡ known.begun
  objects_begun known sp [] = refl
  objects_begun known sp (x ∷ xs) = objects_begun (after_declared known true sp (declared_by x)) sp xs

  function_begun : (known : Known) (scope : Scope) (m : ℕ) (is_static : Bool) (sp : Specifier) (stars : ℕ) (name : Name) (ps : Formals) (code : Code) (os : List Outer) → known.scopes ≡ scope ∷ [] →
      IsFunction s.whole n (λ x. is_some (entry_of s.globals x) ≡ true) known scope sp stars name ps code → AreFound known known.begun → BegunOn known (function is_static sp stars name ps code) os (names_of (code_functions s ns known m name (signature_of known sp stars ps) ps code))
  function_begun known scope m is_static sp stars name ps prototype os scopes is b = none_new known (function is_static sp stars name ps prototype) os b refl refl
  function_begun known scope m is_static sp stars name ps (defined parts at) os scopes is b =
      let f = signature_of known sp stars ps in
      let after = after_function known name f (defined parts at) in
      let here' : found after name.text ≡ Some (function_of is.leads_to.0) = ap (λ ss. entry_of (innermost ss) name.text) is.file.scopes ∙ is.leads_to.1 in
      let stay = found_stays known after known.begun (λ x m e. (function_grows known name f (defined parts at)).names x m e) b in
      let again' : again_faults (found known name.text) (true && has_name known.begun name.text) f (name_place name) ≡ [] = ap (λ ss. again_faults (entry_of (innermost ss) name.text) (true && has_name known.begun name.text) f (name_place name)) scopes ∙ is.again in
      record {
        are = found_with after known.begun name.text stay (ap is_some here');
        all = refl;
        last = ap (λ c. if c then known.begun else known.begun ++ name.text ∷ []) (once known name f (name_place name) b again');
      }

  begun_on : (known : Known) (scope : Scope) (m : ℕ) (o : Outer) (os : List Outer) → From known scope m (o ∷ os) → OneOn s n whole Good good ns known scope m o os → AreFound known known.begun → BegunOn known o os (names_of (outer_functions s ns known m o))
  begun_on known scope m (structure name fs) os h one b = none_new known (structure name fs) os b (struct_begun known name fs) refl
  begun_on known scope m (function is_static sp stars name ps code) os h one b = function_begun known scope m is_static sp stars name ps code os h.place.file.scopes (function_is s n whole Good good ns known scope is_static sp stars name ps code h.place one.listed one.own) b
  begun_on known scope m (objects is_static sp xs at) os h one b = none_new known (objects is_static sp xs at) os b (objects_begun known sp xs) refl

  pub names_on : (known : Known) (scope : Scope) (m : ℕ) (os : List Outer) → From known scope m os → AreFound known known.begun → functions_with known.begun os ≡ known.begun ++ names_of (outers_functions s ns known m os)
  names_on known scope m [] h b = sym (append-nil known.begun)
  names_on known scope m (o ∷ os) h b =
      let one = one_on s n whole Good good ns known scope m o os h in
      let begun = begun_on known scope m o os h one b in
      let next = after_outer known o in
      let fs = outer_functions s ns known m o in
      let gs = outers_functions s ns next (m + count_of_outer o) os in
      begun.all ∙ names_on next one.goes.scope (m + count_of_outer o) os one.rest begun.are ∙ ap (λ xs. xs ++ names_of gs) begun.last ∙ append_assoc known.begun (names_of fs) (names_of gs) ∙ ap (λ xs. known.begun ++ xs) (sym (names_parts fs gs))

-- ---- the number of a name

passed : (fs : List Function) (name : Text) → has_name (names_of fs) name ≡ true → (k : ℕ) × (f : Function) × (position_or_len (λ x. bytes_eq name x) (names_of fs) ≡ k) × (slice_get fs k ≡ Some f) × (f.name ≡ name) × (k < length (names_of fs))
passed [] name e = absurd (true≢false (sym e))
passed (g ∷ fs) name e = by (bytes_eq name g.name) refl e (λ k. passed fs name k)
  where
    by : (b : Bool) → bytes_eq name g.name ≡ b → (b || has_name (names_of fs) name) ≡ true
        → (has_name (names_of fs) name ≡ true → (k : ℕ) × (f : Function) × (position_or_len (λ x. bytes_eq name x) (names_of fs) ≡ k) × (slice_get fs k ≡ Some f) × (f.name ≡ name) × (k < length (names_of fs)))
        → (k : ℕ) × (f : Function) × (cond (not b) (1 + position_or_len (λ x. bytes_eq name x) (names_of fs)) 0 ≡ k) × (slice_get (g ∷ fs) k ≡ Some f) × (f.name ≡ name) × (k < suc (length (names_of fs)))
    by true same e rec = (0, g, refl, refl, sym (same_text name g.name same), omega arith)
    by false same e rec = let r = rec e in let at = r.2 in let lt = r.5 in (suc r.0, r.1, omega (arith, at), r.3, r.4, omega (arith, lt))

-- the function of that name has that number
pub numbered : (fs : List Function) (texts : List Text) (name : Text) → texts ≡ names_of fs → has_name texts name ≡ true → (k : ℕ) × (f : Function) × (position (λ x. bytes_eq name x) texts ≡ Some k) × (slice_get fs k ≡ Some f) × (f.name ≡ name)
numbered fs texts name same e =
    let r = passed fs name (ap (λ xs. has_name xs name) (sym same) ∙ e) in
    let at = r.2 in
    let lt = r.5 in
    let below : nat_lt (position_or_len (λ x. bytes_eq name x) (names_of fs)) (length (names_of fs)) ≡ true = lt-ltb (position_or_len (λ x. bytes_eq name x) (names_of fs)) (length (names_of fs)) (omega (arith, at, lt)) in
    (r.0, r.1, ap (λ xs. position (λ x. bytes_eq name x) xs) same ∙ ap (λ b. cond b (Some (position_or_len (λ x. bytes_eq name x) (names_of fs))) None) below ∙ ap Some at, r.3, r.4)

-- ---- one of them is `main`

abbrev mains : List Text → ℕ
mains [] = 0
mains (x ∷ xs) = cond (is_main_name x) 1 0 + mains xs

mains_more : (xs : List Text) (name : Text) → mains (xs ++ name ∷ []) ≡ mains xs + cond (is_main_name name) 1 0
mains_more [] name = omega arith
mains_more (x ∷ xs) name = let more = mains_more xs name in omega (arith, more)

has_more : (xs : List Text) (name other : Text) → has_name (xs ++ name ∷ []) other ≡ (has_name xs other || bytes_eq other name)
has_more [] name other = or_false (bytes_eq other name)
  where
    or_false : (b : Bool) → (b || false) ≡ b
    or_false true = refl
    or_false false = refl
has_more (x ∷ xs) name other = by (bytes_eq other x) (has_more xs name other)
  where
    by : (b : Bool) → has_name (xs ++ name ∷ []) other ≡ (has_name xs other || bytes_eq other name) → (b || has_name (xs ++ name ∷ []) other) ≡ (b || has_name xs other || bytes_eq other name)
    by true e = refl
    by false e = e

abbrev IsCounted : List Text → Type 0
IsCounted xs = mains xs ≡ cond (has_name xs (codes "main")) 1 0

same_way : (a b : Text) → bytes_eq a b ≡ bytes_eq b a
same_way a b = by (bytes_eq a b) (bytes_eq b a) refl refl
  where
    by : (x y : Bool) → bytes_eq a b ≡ x → bytes_eq b a ≡ y → x ≡ y
    by true true p q = refl
    by true false p q = sym (text_same a) ∙ ap (λ z. bytes_eq z a) (same_text a b p) ∙ q
    by false true p q = sym p ∙ ap (λ z. bytes_eq a z) (same_text b a q) ∙ text_same a
    by false false p q = refl

counted_with : (xs : List Text) (name : Text) → IsCounted xs → IsCounted (with_text xs name)
counted_with xs name h = by (has_name xs name) refl
  where
    main : Text
    main = codes "main"

    new : (a b : Bool) → has_name xs main ≡ a → is_main_name name ≡ b → has_name xs name ≡ false → mains xs + cond b 1 0 ≡ cond (a || b) 1 0
    new true true p q e = absurd (true≢false (sym (ap (λ z. has_name xs z) (same_text name main q) ∙ p) ∙ e))
    new true false p q e = let m = h ∙ ap (λ z. cond z 1 0) p in omega (arith, m)
    new false true p q e = let m = h ∙ ap (λ z. cond z 1 0) p in omega (arith, m)
    new false false p q e = let m = h ∙ ap (λ z. cond z 1 0) p in omega (arith, m)

    by : (b : Bool) → has_name xs name ≡ b → IsCounted (if b then xs else xs ++ name ∷ [])
    by true e = h
    by false e = mains_more xs name ∙ new (has_name xs main) (is_main_name name) refl refl e ∙ ap (λ z. cond (has_name xs main || z) 1 0) (same_way name main) ∙ ap (λ z. cond z 1 0) (sym (has_more xs name main))

pub counted_all : (xs : List Text) (os : List Outer) → IsCounted xs → IsCounted (functions_with xs os)
counted_all xs [] h = h
counted_all xs (structure name fs ∷ os) h = counted_all xs os h
counted_all xs (function is_static sp stars name ps (defined parts at) ∷ os) h = counted_all (with_text xs name.text) os (counted_with xs name.text h)
counted_all xs (function is_static sp stars name ps prototype ∷ os) h = counted_all xs os h
counted_all xs (objects is_static sp items at ∷ os) h = counted_all xs os h

mains_count : (fs : List Function) → count_by is_main fs ≡ mains (names_of fs)
mains_count [] = refl
mains_count (f ∷ fs) = sum_by-cons (λ g. cond (is_main g) 1 0) f fs ∙ ap (λ k. cond (is_main f) 1 0 + k) (mains_count fs)

pub one_main : (os : List Outer) (fs : List Function) → functions_with [] os ≡ names_of fs → has_name (functions_with [] os) (codes "main") ≡ true → count_by is_main fs ≡ 1
one_main os fs same h = mains_count fs ∙ ap mains (sym same) ∙ counted_all [] os refl ∙ ap (λ b. cond b 1 0) h
