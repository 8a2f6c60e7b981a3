-- Inside a function, after a declaration: each new name leads to the home of its local, and has a type.
use Rattle.std.proofs.Common.{◌≡◌, ℕ, ◌+◌, ◌<◌, ◌≤◌, ◌==◌, Bool, true, false, ◌&&◌, if◌then◌else◌, ℤ, List, [], ◌∷◌, ◌++◌, length, map, Option, Some, None, is_some, bytes_eq, refl, sym, ap, ◌∙◌, subst, arith}
use Rattle.std.proofs.lemmas.Option.{same_Some, none-some}
use Rattle.std.proofs.lemmas.Slice.Eq.{bytes_eq-Decides}
use Rattle.c_types.specs.declared.types.BaseType.TheVariants as base
use Rattle.c_types.specs.Types.{bare}
use Rattle.rr_base.specs.Texts.{Text, entry_of}
use Rattle.c_tree.specs.declared.name.Name.{Name}
use Rattle.c_tree.specs.declared.ctype.Specifier.{Specifier}
use Rattle.c_tree.specs.Tree.{Formal, formal, formal_pointer, Declared, declared, declared_pointer, Object, plain, initialised, Declares, declares, Start, start_declares, start_computes, Statement}
use Rattle.c_types.specs.declared.types.ObjectType.{ObjectType}
use Rattle.c_types.specs.declared.fault.FaultKind.TheVariants as fault
use Rattle.c_types.specs.Constants.{constant_named}
use Rattle.c_types.specs.Library.{library_named}
use Rattle.c_types.specs.Standing.{type_struct}
use Rattle.c_types.specs.Scopes.{Known, Scope, Meaning, variable, or_else, innermost, with_name, declared_in, declare}
use Rattle.c_types.specs.Operands.{a_place, type_operand}
use Rattle.c_rules.specs.Faults.{name_place, mismatch, specifier_faults}
use Rattle.c_names.specs.Sources.{declared_name, declared_by, global_cells_with, param_name}
use Rattle.c_programs.specs.Declarators.{declared_type, is_library_name, is_taken, declarator_faults, taken_faults, size_faults, param_type, pointer_type, pointer_faults, param_faults, params_faults, after_param, after_params, named_by}
use Rattle.c_names.specs.Signatures.{cannot_pass, pointer_of}
use Rattle.c_programs.specs.Statements.{cells_of_declared, after_declared, global_name_faults, declared_faults, object_faults, objects_faults, declares_faults, after_objects, start_of_for_faults}
use Rattle.c_numbers.specs.Numbered.{Numbered, number_seen, numbered_in, following, inside}
use Rattle.c_locals.specs.Addresses.{after_name, after_names, past_statement, after_formal, after_formals, count_of_locals}
use Rattle.rr_base.specs.declared.position.Position.{Position}
use Rattle.core_tree.specs.Core.{Function, Program}
use Rattle.c_operators.specs.declared.home.Home.{Home}
use Rattle.c_operators.specs.declared.home.Home.TheVariants as kept_in
use Rattle.c_frames.specs.declared.local.Local.{Local}
use Rattle.c_operators.specs.Denoted.{is_pointing}
use Rattle.c_operators.specs.Context.{Source, Frame, Context, home_numbered, home_of}
use Rattle.c_values.specs.Expressions.{denoted_in}
use Rattle.c_frames.specs.Locals.{local_declared, local_of, declares_locals, start_locals}
use Rattle.c_frames.specs.Frames.{formal_of}
use Rattle.c_statements.specs.Statements.{context_inside, here_after_object, here_after_declares, here_after_start, context_after}
use Rattle.core_tree.specs.Sound.{HasRegister}
use Rattle.source_sound.proofs.Environment.{IsFormed, DenotedFits}
use Rattle.source_sound.proofs.Listed.{lists_of, DeclaredListed, ObjectsListed, DeclaresListed, FormalListed, FormalsListed, StartListed}
use Rattle.source_sound.proofs.PointerNumbers.{PointsKnown, declared_number, declared_points, formal_number, formal_points}
use Rattle.source_sound.proofs.NoFaults.{append_nil, four_nil, never, matches, neither}
use Rattle.source_sound.proofs.Inside.{IsOpen, HoldsNoStruct, AtHome, EntryFits, ScopeFits, ScopesFit, EntriesFit, scope_entries, Inside, moved}
use Rattle.source_sound.proofs.Typed.{IsScalar, declared_formed, declared_known, declared_tells, scalar_no_struct, param_known}
use Rattle.source_sound.proofs.Locals.{HomeFits, AreHome}

-- ---- a new name in a scope

entry_by : {A : Type 0} (b : Bool) (v a : A) (o q : Option A) → (if b then Some v else o) ≡ None → (o ≡ None → q ≡ Some a) → (if b then Some v else q) ≡ Some a
entry_by true v a o q e rest = cc
entry_by false v a o q e rest = rest e

entry_new : {A : Type 0} (es : List (Text × A)) (name : Text) (a : A) → entry_of es name ≡ None → entry_of (es ++ (name, a) ∷ []) name ≡ Some a
entry_new [] name a e = ap (λ b. if b then Some a else None) ((bytes_eq-Decides name name).1 refl)
entry_new (x ∷ es) name a e = entry_by (bytes_eq name x.0) x.1 a (entry_of es name) (entry_of (es ++ (name, a) ∷ []) name) e (entry_new es name a)

-- a name that isn't one of the library
free_name : (name : Text) → is_library_name name ≡ false → constant_named name ≡ None
free_name name e = none_of (constant_named name) (neither (is_some (library_named name)) (is_some (constant_named name)) e).1
  where
    none_of : (o : Option ℤ) → is_some o ≡ false → o ≡ None
    none_of None is = refl
    none_of (Some z) is = cc

module _ (p : Program) (home : ℕ → Option ℕ) (f : Function) (structs : ℕ) where
  new_entry : (source : Source) (frame : Frame) (s : Scope) (x : List (Text × ℕ)) (name : Text) (m : Meaning) (n : ℕ) → ScopeFits p home f structs source frame s x → EntryFits p home f structs source frame name m n
      → ScopeFits p home f structs source frame (s ++ (name, m) ∷ []) (x ++ (name, n) ∷ [])
  new_entry source frame [] [] name m n fit new = (refl, new, tt)
  new_entry source frame [] (x ∷ xs) name m n fit new = absurd fit
  new_entry source frame (e ∷ es) [] name m n fit new = absurd fit
  new_entry source frame (e ∷ es) (x ∷ xs) name m n fit new = (fit.0, fit.1, new_entry source frame es xs name m n fit.2 new)

  no_number : (source : Source) (frame : Frame) (name : Text) (o : Option Meaning) (q : Option ℕ) → EntriesFit p home f structs source frame name o q → is_some o ≡ false → q ≡ None
  no_number source frame name None None fit e = refl
  no_number source frame name None (Some n) fit e = absurd fit
  no_number source frame name (Some m) None fit e = absurd fit
  no_number source frame name (Some m) (Some n) fit e = cc

  -- a name that isn't taken gets the number
  abbrev IsNew : Source → Frame → List Text → List (List (Text × ℕ)) → List Scope → Text → Meaning → ℕ → Type 0
  IsNew source frame defined xs ss name m n =
      ScopesFit p home f structs source frame defined (numbered_in xs name n) (declared_in ss name m) × (number_seen (numbered_in xs name n) name ≡ Some n) × IsOpen (numbered_in xs name n)

  new_name : (source : Source) (frame : Frame) (defined : List Text) (xs : List (List (Text × ℕ))) (ss : List Scope) (name : Text) (m : Meaning) (n : ℕ)
      → IsOpen xs → ScopesFit p home f structs source frame defined xs ss → is_some (entry_of (innermost ss) name) ≡ false → EntryFits p home f structs source frame name m n → IsNew source frame defined xs ss name m n
  new_name source frame defined [] ss name m n is_open fit free new = absurd is_open
  new_name source frame defined (x ∷ xs) [] name m n is_open fit free new = absurd fit
  new_name source frame defined (x ∷ xs) (s ∷ ss) name m n is_open fit free new =
      let none = no_number source frame name (entry_of s name) (entry_of x name) (scope_entries p home f structs source frame name s x fit.0) free in
      let lacks : is_some (entry_of x name) ≡ false = ap is_some none in
      let one = subst (λ b. ScopeFits p home f structs source frame (if b then s else s ++ (name, m) ∷ []) (x ++ (name, n) ∷ [])) (sym free) (new_entry source frame s x name m n fit.0 new) in
      let both = subst (λ b. ScopeFits p home f structs source frame (with_name s name m) (if b then x else x ++ (name, n) ∷ [])) (sym lacks) one in (
        (both, fit.1),
        ap (λ b. or_else (entry_of (if b then x else x ++ (name, n) ∷ []) name) (number_seen xs name)) lacks ∙ ap (λ o. or_else o (number_seen xs name)) (entry_new x name n none),
        tt,
      )

  -- ---- the home of a local

  -- the register is of the type's kind, and the object is there
  abbrev pub HomeSuits : Home → ObjectType → Type 0
  HomeSuits (kept_in.Register r) t = HasRegister p home f r (is_pointing (type_operand t)) × IsScalar t
  HomeSuits (kept_in.Object k) t = k < length f.objects

  -- a local that isn't kept in cells is of the type's kind
  abbrev Tells : Local → ObjectType → Type 0
  Tells l t = l.is_kept ≡ false → (l.is_pointer ≡ is_pointing (type_operand t)) × (type_struct t ≡ None)

  home_suits : (o : Option Home) (l : Local) (t : ObjectType) → HomeFits f.pointers (length f.objects) o l → (l.is_kept ≡ false → (l.is_pointer ≡ is_pointing (type_operand t)) × IsScalar t)
      → (x : Home) × (o ≡ Some x) × HomeSuits x t
  home_suits None l t fit tells = absurd fit
  home_suits (Some (kept_in.Register r)) l t fit tells = let two = tells fit.0 in (kept_in.Register r, refl, (fit.1 ∙ ap Some two.0, two.1))
  home_suits (Some (kept_in.Object k)) l t fit tells = (kept_in.Object k, refl, fit)

  -- so it stands for a name of the type
  at_home_by : (o : Option Home) (l : Local) (t : ObjectType) → HomeFits f.pointers (length f.objects) o l → Tells l t
      → (x : Home) × (o ≡ Some x) × ((at : Position) → DenotedFits p home f (a_place t) (denoted_in x at)) × HoldsNoStruct x t
  at_home_by None l t fit tells = absurd fit
  at_home_by (Some (kept_in.Register r)) l t fit tells = (kept_in.Register r, refl, (λ at. (tt, fit.1 ∙ ap Some (tells fit.0).0)), (tells fit.0).1)
  at_home_by (Some (kept_in.Object k)) l t fit tells = (kept_in.Object k, refl, (λ at. (tt, refl, fit)), tt)

  at_home : (frame : Frame) (n : ℕ) (l : Local) (t : ObjectType) → HomeFits f.pointers (length f.objects) (home_numbered frame (Some n)) l → Tells l t → AtHome p home f structs frame t n
  at_home frame n l t fit tells = at_home_by (home_numbered frame (Some n)) l t fit tells

  -- ---- objects of a block

  -- a local that isn't kept in cells is a scalar of the type's kind
  tells_here : (known : Known) (s : Specifier) (d : Declared) (t : ObjectType) → (local_declared s d).is_kept ≡ false → declared_type known s d ≡ Some t → ((local_declared s d).is_pointer ≡ is_pointing (type_operand t)) × IsScalar t
  tells_here known s (declared stars name lengths) t k is = declared_tells known s stars name lengths t k is
  tells_here known s (declared_pointer stars name ps) t k is = pointing (pointer_of known s stars ps) is
    where
      pointing : (o : Option ℕ) → pointer_type o ≡ Some t → (false ≡ is_pointing (type_operand t)) × IsScalar t
      pointing None is = absurd (none-some t is)
      pointing (Some n) is = subst (λ u. (false ≡ is_pointing (type_operand u)) × IsScalar u) (same_Some (bare (base.Function n)) t is) (refl, tt)

  -- the object's type is known, and its name leads to a home that suits it
  abbrev pub IsDeclared : Context → Specifier → Declared → Type 0
  IsDeclared h s d = (t : ObjectType) × (declared_type h.known s d ≡ Some t) × (x : Home) × (home_of (here_after_object h s d) (declared_name d).text ≡ Some x) × HomeSuits x t × IsFormed structs t

  -- an object whose type is known
  object_by : (h : Context) (s : Specifier) (d : Declared) (t : ObjectType) → Inside p home f structs h → HomeFits f.pointers (length f.objects) (home_numbered h.frame (Some h.numbers.next)) (local_declared s d) → declared_type h.known s d ≡ Some t → IsFormed structs t → PointsKnown (lists_of h.source.whole) structs t
      → ((local_declared s d).is_kept ≡ false → ((local_declared s d).is_pointer ≡ is_pointing (type_operand t)) × IsScalar t) → is_taken h.known (declared_name d).text ≡ false → Inside p home f structs (here_after_object h s d) × IsDeclared h s d
  unfolding following
  object_by h s d t i fit is formed points tells new_one =
      let name = declared_name d in
      let free = neither (is_library_name name.text) (is_some (entry_of (innermost h.known.scopes) name.text)) new_one in
      let fits : EntryFits p home f structs h.source h.frame name.text (variable (Some t)) h.numbers.next =
      (free_name name.text free.0, formed, at_home h.frame h.numbers.next (local_declared s d) t fit (λ k. ((tells k).0, scalar_no_struct t (tells k).1)), points) in
      let entry = subst (λ o. EntryFits p home f structs h.source h.frame name.text (variable o) h.numbers.next) (sym is) fits in
      let new = new_name h.source h.frame h.known.defined h.numbers.scopes h.known.scopes name.text (variable (declared_type h.known s d)) h.numbers.next i.is_open i.scopes free.1 entry in
      let suited = home_suits (home_numbered h.frame (Some h.numbers.next)) (local_declared s d) t fit tells in (
        moved p home f structs h (declared_in h.known.scopes name.text (variable (declared_type h.known s d))) (after_name h.numbers d) i new.0 new.2,
        (t, is, suited.0, ap (home_numbered h.frame) new.1 ∙ suited.1, suited.2, formed),
      )

  few_structs : (h : Context) → Inside p home f structs h → length h.known.struct_names ≤ structs
  few_structs h i = let e = i.struct_names in omega (arith, e)

  -- what an object's type points to, if anything
  points_here : (h : Context) (s : Specifier) (d : Declared) (t : ObjectType) → Inside p home f structs h → declarator_faults h.known s d ≡ [] → declared_type h.known s d ≡ Some t → PointsKnown (lists_of h.source.whole) structs t
  points_here h s d t i none is = subst (λ m. PointsKnown (lists_of h.source.whole) m t) i.struct_names (declared_points h.known h.source.whole i.lists s d t none is)

  pub object_inside : (h : Context) (s : Specifier) (d : Declared) → Inside p home f structs h
      → HomeFits f.pointers (length f.objects) (home_numbered h.frame (Some h.numbers.next)) (local_declared s d) → DeclaredListed (lists_of h.source.whole) s d → declared_faults h.known false s d ≡ []
      → Inside p home f structs (here_after_object h s d) × IsDeclared h s d
  object_inside h s d i fit listed none =
      let name = declared_name d in
      let parts = four_nil (declarator_faults h.known s d) (taken_faults h.known name) (size_faults (cells_of_declared h.known s d) name) (global_name_faults false (global_cells_with true h.known.global_cells (cells_of_declared h.known s d)) name) none in
      let some = declared_known h.known s d (declared_number h.known h.source.whole i.lists s d listed parts.0) parts.0 in
      object_by h s d some.0 i fit some.1 (declared_formed h.known structs (few_structs h i) s d some.0 some.1) (points_here h s d some.0 i parts.0 some.1) (λ k. tells_here h.known s d some.0 k some.1) (never (is_taken h.known name.text) fault.DuplicateName (name_place name) parts.1)

  pub object_declared : (known : Known) (s : Specifier) (o : Object) → object_faults known false s o ≡ [] → declared_faults known false s (declared_by o) ≡ []
  object_declared known s (plain d) none = none
  object_declared known s (initialised d i at) none = (append_nil (declared_faults known false s d) _ none).0

  abbrev pub here_after_objects : Context → Specifier → List Object → Context
  here_after_objects h s os = record h { known = after_objects h.known false s os; numbers = after_names h.numbers os }

  pub next_after_name : (ns : Numbered) (d : Declared) → (after_name ns d).next ≡ ns.next + 1
  unfolding following
  next_after_name ns d = refl

  -- after one object those that come have the next numbers
  pub home_after_object : (h : Context) (s : Specifier) (o : Object) (ls : List Local) → AreHome f.pointers (length f.objects) h.frame h.numbers.next (local_of s o ∷ ls)
      → AreHome f.pointers (length f.objects) h.frame (after_name h.numbers (declared_by o)).next ls
  home_after_object h s o ls come = subst (λ n. AreHome f.pointers (length f.objects) h.frame n ls) (sym (next_after_name h.numbers (declared_by o))) come.1

  pub objects_inside : (h : Context) (s : Specifier) (os : List Object) → Inside p home f structs h → AreHome f.pointers (length f.objects) h.frame h.numbers.next (map (local_of s) os)
      → ObjectsListed (lists_of h.source.whole) s os → objects_faults h.known false s os ≡ [] → Inside p home f structs (here_after_objects h s os)
  objects_inside h s [] i come listed none = i
  objects_inside h s (o ∷ os) i come listed none =
      let parts = append_nil (object_faults h.known false s o) (objects_faults (after_declared h.known false s (declared_by o)) false s os) none in
      let one = object_inside h s (declared_by o) i come.0 listed.0 (object_declared h.known s o parts.0) in
      objects_inside (here_after_object h s (declared_by o)) s os one.0 (home_after_object h s o (map (local_of s) os) come) listed.1 parts.1

  pub declares_inside : (h : Context) (d : Declares) → Inside p home f structs h → AreHome f.pointers (length f.objects) h.frame h.numbers.next (declares_locals d)
      → DeclaresListed (lists_of h.source.whole) d → declares_faults h.known d ≡ [] → Inside p home f structs (here_after_declares h d)
  declares_inside h (declares s os at) i come listed none = objects_inside h s os i come listed none

  pub start_inside : (h : Context) (s : Start) → Inside p home f structs h → AreHome f.pointers (length f.objects) h.frame h.numbers.next (start_locals s)
      → StartListed (lists_of h.source.whole) s → start_of_for_faults h.known s ≡ [] → Inside p home f structs (here_after_start h s)
  start_inside h (start_declares d) i come listed none = declares_inside h d i come listed none
  start_inside h (start_computes e) i come listed none = i

  -- ---- blocks and statements

  pub opened_inside : (h : Context) → Inside p home f structs h → Inside p home f structs (context_inside h)
  opened_inside h i = moved p home f structs h ([] ∷ h.known.scopes) (inside h.numbers) i (tt, i.scopes) tt

  pub after_inside : (h : Context) (s : Statement) → Inside p home f structs h → Inside p home f structs (context_after h s)
  unfolding following
  after_inside h s i = moved p home f structs h h.known.scopes (past_statement h.numbers s) i i.scopes i.is_open

  pub next_after : (ns : Numbered) (s : Statement) → (past_statement ns s).next ≡ ns.next + count_of_locals s
  unfolding following
  next_after ns s = refl

  -- ---- formals

  abbrev pub here_after_formals : Context → List Formal → Context
  here_after_formals h qs = record h { known = after_params h.known qs; numbers = after_formals h.numbers qs }

  -- a formal that fits, whose name is new
  typed_inside : (h : Context) (q : Formal) (name : Name) (t : ObjectType) → Inside p home f structs h → HomeFits f.pointers (length f.objects) (home_numbered h.frame (Some h.numbers.next)) (formal_of q) → param_name q ≡ Some name →
      param_type h.known q ≡ Some t → IsFormed structs t → PointsKnown (lists_of h.source.whole) structs t → Tells (formal_of q) t → taken_faults h.known name ≡ [] → Inside p home f structs (here_after_formals h (q ∷ []))
  unfolding following
  typed_inside h q name t i fit named typed formed points tells none =
      let free = neither (is_library_name name.text) (is_some (entry_of (innermost h.known.scopes) name.text)) (never (is_taken h.known name.text) fault.DuplicateName (name_place name) none) in
      let fits : EntryFits p home f structs h.source h.frame name.text (variable (Some t)) h.numbers.next = (free_name name.text free.0, formed, at_home h.frame h.numbers.next (formal_of q) t fit tells, points) in
      let new = new_name h.source h.frame h.known.defined h.numbers.scopes h.known.scopes name.text (variable (Some t)) h.numbers.next i.is_open i.scopes free.1 fits in
      let inner = moved p home f structs h (declared_in h.known.scopes name.text (variable (Some t))) (after_formal h.numbers (Some name)) i new.0 new.2 in
      subst (λ o. Inside p home f structs (record h { known = named_by h.known o (param_type h.known q); numbers = after_formal h.numbers o })) (sym named)
      (subst (λ o. Inside p home f structs (record h { known = declare h.known name.text (variable o); numbers = after_formal h.numbers (Some name) })) (sym typed) inner)

  formal_inside : (h : Context) (q : Formal) → Inside p home f structs h → HomeFits f.pointers (length f.objects) (home_numbered h.frame (Some h.numbers.next)) (formal_of q)
      → FormalListed (lists_of h.source.whole) q → param_faults h.known true q ≡ [] → Inside p home f structs (here_after_formals h (q ∷ []))
  formal_inside h (formal s stars None at) i fit listed none =
      let parts = four_nil (specifier_faults h.known (stars == 0) s) (mismatch (cannot_pass s stars) at) (mismatch (true && true) at) [] none in
      let e = matches (true && true) at parts.2 in
      let no : ⊥ = cc in absurd no
  formal_inside h (formal s stars (Some name) at) i fit listed none =
      let q = formal s stars (Some name) at in
      let parts = four_nil (specifier_faults h.known (stars == 0) s) (mismatch (cannot_pass s stars) (name_place name)) (mismatch (true && false) (name_place name)) (taken_faults h.known name) none in
      let some = param_known h.known structs (few_structs h i) s stars (Some name) at parts.0 (matches (cannot_pass s stars) (name_place name) parts.1) in
      let points = subst (λ m. PointsKnown (lists_of h.source.whole) m some.0) i.struct_names (formal_points h.known h.source.whole i.lists true q some.0 none some.1) in
      typed_inside h q name some.0 i fit refl some.1 some.2 points (λ k. (some.3, some.4)) parts.3
  formal_inside h (formal_pointer s stars name ps at) i fit listed none =
      let q = formal_pointer s stars name ps at in
      let number = formal_number h.known h.source.whole i.lists true q listed none in
      let points = subst (λ m. PointsKnown (lists_of h.source.whole) m (bare (base.Function number.0))) i.struct_names (formal_points h.known h.source.whole i.lists true q (bare (base.Function number.0)) none (ap pointer_type number.1)) in
      typed_inside h q name (bare (base.Function number.0)) i fit refl (ap pointer_type number.1) tt points (λ k. (refl, refl)) (append_nil (pointer_faults h.known s stars name ps) (taken_faults h.known name) none).1

  next_after_formal : (ns : Numbered) (o : Option Name) → (after_formal ns o).next ≡ ns.next + 1
  unfolding following
  next_after_formal ns None = refl
  next_after_formal ns (Some name) = refl

  pub formals_inside : (h : Context) (qs : List Formal) → Inside p home f structs h → AreHome f.pointers (length f.objects) h.frame h.numbers.next (map formal_of qs)
      → FormalsListed (lists_of h.source.whole) qs → params_faults h.known true qs ≡ [] → Inside p home f structs (here_after_formals h qs)
  formals_inside h [] i come listed none = i
  formals_inside h (q ∷ qs) i come listed none =
      let parts = append_nil (param_faults h.known true q) (params_faults (after_param h.known q) true qs) none in
      let rest = subst (λ n. AreHome f.pointers (length f.objects) h.frame n (map formal_of qs)) (sym (next_after_formal h.numbers (param_name q))) come.1 in
      formals_inside (here_after_formals h (q ∷ [])) qs (formal_inside h q i come.0 listed.0 parts.0) rest listed.1 parts.1

  pub next_after_formals : (ns : Numbered) (qs : List Formal) → (after_formals ns qs).next ≡ ns.next + length qs
  next_after_formals ns [] = omega arith
  next_after_formals ns (q ∷ qs) = let one = next_after_formal ns (param_name q) in let more = next_after_formals (after_formal ns (param_name q)) qs in omega (arith, one, more)
