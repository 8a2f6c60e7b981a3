-- The first values of the objects of a block are sound where they have no fault.
use Rattle.std.proofs.Common.{◌≡◌, ℕ, ◌+◌, ◌-◌, ◌<◌, Bool, true, false, not, List, [], ◌∷◌, ◌++◌, length, map, drop, Option, Some, None, is_none, refl, sym, ap, ◌∙◌, subst}
use Rattle.rr_base.specs.declared.layout.CellKind.{CellKind}
use Rattle.rr_base.specs.declared.layout.CellKind.TheVariants as cell
use Rattle.rr_base.specs.Texts.{Text}
use Rattle.c_tree.specs.declared.ctype.Specifier.{Specifier}
use Rattle.c_tree.specs.Tree.{Exp, Init, value, braces, mutex_start, cond_start, rwlock_start, Inits, no_init, and_init, Object, plain, initialised, Declares, declares}
use Rattle.rr_base.specs.declared.position.Position.{Position}
use Rattle.c_types.specs.declared.types.BaseType.{BaseType}
use Rattle.c_types.specs.declared.types.BaseType.TheVariants as base
use Rattle.c_types.specs.declared.types.Layer.{Layer}
use Rattle.c_types.specs.declared.types.Layer.TheVariants as layer
use Rattle.c_types.specs.declared.types.ObjectType.{ObjectType}
use Rattle.c_types.specs.Scopes.{Known, cells_of_some}
use Rattle.c_types.specs.Operands.{Operand, any_operand, whole, zero_operand, null_operand, pointing, function_operand, no_operand, operand_of, type_operand, accepts}
use Rattle.c_types.specs.Standing.{Target, no_target, standing}
use Rattle.c_rules.specs.Faults.{mismatch, faults}
use Rattle.c_programs.specs.Initials.{layered_part, part_at, part_type, starts_as, value_target, where_global, global_value_faults, initial_faults, inits_faults, start_faults}
use Rattle.c_names.specs.Sources.{declared_name, declared_by}
use Rattle.c_programs.specs.Declarators.{declared_type}
use Rattle.c_programs.specs.Statements.{after_declared, declared_faults, object_faults, objects_faults, declares_faults}
use Rattle.c_spots.specs.Spots.{in_function, allocations, initial_allocations, initials_allocations, declared_spots, object_spots, objects_spots, declares_spots}
use Rattle.c_locals.specs.Addresses.{addressed, initial_addressed, initials_addressed, declared_addressed, object_addressed, objects_addressed, declares_addressed, after_name}
use Rattle.core_tree.specs.Core as core
use Rattle.core_tree.specs.Core.{Function, Program}
use Rattle.core_tree.specs.Meaning.{is_pointer}
use Rattle.c_operators.specs.declared.home.Home.{Home}
use Rattle.c_operators.specs.declared.home.Home.TheVariants as kept_in
use Rattle.c_operators.specs.Denoted.{position_of, is_pointing, kind_of}
use Rattle.c_operators.specs.Context.{Context, home_numbered, home_of}
use Rattle.c_values.specs.Expressions.{kind_of_type, wanted_of}
use Rattle.c_initials.specs.Initials.{kinds_of_some, cell_stored, cell_cleared, cleared, type_of_part, started, parts_started, zero_word, first_word, first_of_braces, object_begun, begun}
use Rattle.c_frames.specs.Locals.{local_of, declares_locals}
use Rattle.c_statements.specs.Statements.{here_after_object, object_elaborated, objects_elaborated, declares_elaborated}
use Rattle.core_tree.specs.Sound.{IsSoundExp, IsSoundStatement, AreSoundStatements}
use Rattle.source_sound.proofs.Environment.{IsFormed, IsFormedTarget, Suits}
use Rattle.source_sound.proofs.NoFaults.{append_nil, three_nil, fits}
use Rattle.source_sound.proofs.Premises.{Have, have_parts, AreValuesSound, AreWantedSound, value_by_parts, wanted_by_parts}
use Rattle.source_sound.proofs.Listed.{lists_of, DeclaredListed, ObjectsListed, DeclaresListed}
use Rattle.source_sound.proofs.Inside.{Inside, suits, formed_there}
use Rattle.source_sound.proofs.Typed.{IsScalarLayered, IsScalar, target_formed}
use Rattle.source_sound.proofs.Locals.{HomeFits, AreHome}
use Rattle.source_sound.proofs.Declarations.{HomeSuits, object_inside, object_declared, home_after_object}

-- the first part of a scalar is the scalar itself
first_layered : (known : Known) (ls : List Layer) (b : BaseType) → IsScalarLayered ls b → layered_part known ls b 0 ≡ Some (Some (record { layers = ls; base = b }))
first_layered known [] base.Int is = refl
first_layered known [] (base.Function fn) is = refl
first_layered known [] base.Void is = absurd is
first_layered known [] (base.Struct k) is = absurd is
first_layered known [] base.Mutex is = absurd is
first_layered known [] base.Cond is = absurd is
first_layered known [] base.Barrier is = absurd is
first_layered known [] base.RwLock is = absurd is
first_layered known (layer.Pointer ∷ ls) b is = refl
first_layered known (layer.Array n ∷ ls) b is = absurd is

first_part : (known : Known) (t : ObjectType) → IsScalar t → part_type (part_at known (Some t) 0) ≡ Some t
first_part known t is = ap part_type (first_layered known t.layers t.base is)

module _ (p : Program) (home : ℕ → Option ℕ) (f : Function) (structs : ℕ) where
  -- one statement after another
  abbrev pub AreAllSound : List core.Statement → Type 0
  AreAllSound ss = AreSoundStatements p home f (core.listed_statements ss)

  pub both_sound : (xs ys : List core.Statement) → AreAllSound xs → AreAllSound ys → AreAllSound (xs ++ ys)
  both_sound [] ys a b = b
  both_sound (x ∷ xs) ys a b = (a.0, both_sound xs ys a.1 b)

  -- ---- the cells of an object

  stored_sound : (k : ℕ) (at : Position) (offset : ℕ) (e : core.Exp) → k < length f.objects → IsSoundExp p home f e → IsSoundStatement p home f (cell_stored k at offset e)
  stored_sound k at offset e lt sound = (refl, (refl, lt), sound)

  cell_sound : (k : ℕ) (at : Position) (offset : ℕ) (c : CellKind) → k < length f.objects → AreAllSound (cell_cleared k at offset c)
  cell_sound k at offset cell.Whole lt = ((refl, (refl, lt), tt), tt)
  cell_sound k at offset cell.Pointer lt = ((refl, (refl, lt), tt), tt)
  cell_sound k at offset cell.Mutex lt = tt
  cell_sound k at offset cell.Cond lt = tt
  cell_sound k at offset cell.Barrier lt = tt
  cell_sound k at offset cell.Rw lt = tt

  cleared_sound : (k : ℕ) (at : Position) (offset : ℕ) (cs : List CellKind) → k < length f.objects → AreAllSound (cleared k at offset cs)
  cleared_sound k at offset [] lt = tt
  cleared_sound k at offset (c ∷ cs) lt = both_sound (cell_cleared k at offset c) (cleared k at (offset + 1) cs) (cell_sound k at offset c lt) (cleared_sound k at (offset + 1) cs lt)

  module _ (values : AreValuesSound p home f) (wanted : AreWantedSound p home f) where
    -- the word of one cell, whose type may not be known
    word_sound : (h : Context) (t : Option ObjectType) (e : Exp) → Suits p home f h → Have p h.frame h.source.sites (addressed h.numbers e) (allocations h.known no_target e) → faults h.known no_target e ≡ []
        → starts_as t (operand_of (standing h.known no_target e)) ≡ true → IsSoundExp p home f (wanted_of h (kind_of_type t) no_target e)
    word_sound h None e s have none fit = value_by_parts p home f values h e s have none
    word_sound h (Some t) e s have none fit = (wanted_by_parts p home f wanted h no_target t e s tt have none fit).1

    mutual
      started_sound : (h : Context) (k : ℕ) (at : Position) (t : Option ObjectType) (offset : ℕ) (place : Position) (i : Init) → Suits p home f h → k < length f.objects
          → Have p h.frame h.source.sites (initial_addressed h.numbers i) (initial_allocations h.known no_target i) → initial_faults h.known false no_target t place i ≡ [] → AreAllSound (started h k at t offset i)
      started_sound h k at t offset place (value e) s lt have none =
          let parts = three_nil (faults h.known no_target e) (mismatch (not (starts_as t (operand_of (standing h.known no_target e)))) place) (where_global false (global_value_faults h.known t e)) none in
          let fit = fits (starts_as t (operand_of (standing h.known no_target e))) place parts.1 in
          (stored_sound k at offset (wanted_of h (kind_of_type t) no_target e) lt (word_sound h t e s have parts.0 fit), tt)
      started_sound h k at t offset place (braces is trailing end) s lt have none = parts_started_sound h k at t offset 0 offset place is s lt have none
      started_sound h k at t offset place (mutex_start end) s lt have none = tt
      started_sound h k at t offset place (cond_start end) s lt have none = tt
      started_sound h k at t offset place (rwlock_start end) s lt have none = tt

      parts_started_sound : (h : Context) (k : ℕ) (at : Position) (t : Option ObjectType) (begin i offset : ℕ) (place : Position) (is : Inits) → Suits p home f h → k < length f.objects
          → Have p h.frame h.source.sites (initials_addressed h.numbers is) (initials_allocations h.known is) → inits_faults h.known false t i place is ≡ [] → AreAllSound (parts_started h k at t begin i offset is)
      parts_started_sound h k at t begin i offset place no_init s lt have none = cleared_sound k at offset (drop (offset - begin) (kinds_of_some h.source t)) lt
      parts_started_sound h k at t begin i offset place (and_init x is) s lt have none =
          let parts = three_nil (initial_faults h.known false no_target (type_of_part h.known t i) place x) (mismatch (is_none (part_at h.known t i)) place) (inits_faults h.known false t (i + 1) place is) none in
          let two = have_parts p h.frame h.source.sites (initial_addressed h.numbers x) (initials_addressed h.numbers is) (initial_allocations h.known no_target x) (initials_allocations h.known is) have in
          both_sound (started h k at (type_of_part h.known t i) offset x) (parts_started h k at t begin (i + 1) (offset + cells_of_some h.source.whole (type_of_part h.known t i)) is)
          (started_sound h k at (type_of_part h.known t i) offset place x s lt two.0 parts.0)
          (parts_started_sound h k at t begin (i + 1) (offset + cells_of_some h.source.whole (type_of_part h.known t i)) place is s lt two.1 parts.2)

    -- ---- a register

    -- a word of the kind that is wanted
    abbrev IsWord : Bool → core.Exp → Type 0
    IsWord pointer e = (is_pointer e ≡ pointer) × IsSoundExp p home f e

    zero_sound : (a : Operand) (at : Position) → IsWord (is_pointing a) (zero_word (kind_of a) at)
    zero_sound any_operand at = (refl, tt)
    zero_sound whole at = (refl, tt)
    zero_sound zero_operand at = (refl, tt)
    zero_sound null_operand at = (refl, tt)
    zero_sound (pointing t) at = (refl, tt)
    zero_sound (function_operand k) at = (refl, tt)
    zero_sound no_operand at = (refl, tt)

    mutual
      first_sound : (h : Context) (t : ObjectType) (w : Target) (at : Position) (place : Position) (i : Init) (s : Suits p home f h) → IsFormedTarget s.structs w → IsScalar t → Have p h.frame h.source.sites (initial_addressed h.numbers i) (initial_allocations h.known w i)
          → initial_faults h.known false w (Some t) place i ≡ [] → IsWord (is_pointing (type_operand t)) (first_word h (kind_of (type_operand t)) w at i)
      first_sound h t w at place (value e) s formed scalar have none =
          let parts = three_nil (faults h.known w e) (mismatch (not (accepts t (operand_of (standing h.known w e)))) place) (where_global false (global_value_faults h.known (Some t) e)) none in
          wanted_by_parts p home f wanted h w t e s formed have parts.0 (fits (accepts t (operand_of (standing h.known w e))) place parts.1)
      first_sound h t w at place (braces is trailing end) s formed scalar have none = braces_sound h t at place is s scalar have none
      first_sound h t w at place (mutex_start end) s formed scalar have none = zero_sound (type_operand t) at
      first_sound h t w at place (cond_start end) s formed scalar have none = zero_sound (type_operand t) at
      first_sound h t w at place (rwlock_start end) s formed scalar have none = zero_sound (type_operand t) at

      braces_sound : (h : Context) (t : ObjectType) (at : Position) (place : Position) (is : Inits) → Suits p home f h → IsScalar t → Have p h.frame h.source.sites (initials_addressed h.numbers is) (initials_allocations h.known is)
          → inits_faults h.known false (Some t) 0 place is ≡ [] → IsWord (is_pointing (type_operand t)) (first_of_braces h (kind_of (type_operand t)) at is)
      braces_sound h t at place no_init s scalar have none = zero_sound (type_operand t) at
      braces_sound h t at place (and_init x is) s scalar have none =
          let parts = three_nil (initial_faults h.known false no_target (part_type (part_at h.known (Some t) 0)) place x) (mismatch (is_none (part_at h.known (Some t) 0)) place) (inits_faults h.known false (Some t) 1 place is) none in
          let two = have_parts p h.frame h.source.sites (initial_addressed h.numbers x) (initials_addressed h.numbers is) (initial_allocations h.known no_target x) (initials_allocations h.known is) have in
          let own = subst (λ o. initial_faults h.known false no_target o place x ≡ []) (first_part h.known t scalar) parts.0 in
          first_sound h t no_target at place x s tt scalar two.0 own

    -- ---- either

    object_begun_sound : (h : Context) (k : ℕ) (t : ObjectType) (at : Position) (place : Position) (i : Init) (s : Suits p home f h) → IsFormed s.structs t → k < length f.objects
        → Have p h.frame h.source.sites (initial_addressed h.numbers i) (initial_allocations h.known (value_target (Some t)) i) → start_faults h.known false (Some t) place i ≡ [] → AreAllSound (object_begun h k (Some t) i at)
    object_begun_sound h k t at place (value e) s formed lt have none =
        let w = value_target (Some t) in
        let parts = three_nil (faults h.known w e) (mismatch (not (accepts t (operand_of (standing h.known w e)))) place) (where_global false (global_value_faults h.known (Some t) e)) none in
        let word = wanted_by_parts p home f wanted h w t e s (target_formed s.structs t formed) have parts.0 (fits (accepts t (operand_of (standing h.known w e))) place parts.1) in
        ((refl, lt, word.1), tt)
    object_begun_sound h k t at place (braces is trailing end) s formed lt have none = parts_started_sound h k at (Some t) 0 0 0 place is s lt have none
    object_begun_sound h k t at place (mutex_start end) s formed lt have none = tt
    object_begun_sound h k t at place (cond_start end) s formed lt have none = tt
    object_begun_sound h k t at place (rwlock_start end) s formed lt have none = tt

    begun_sound : (h : Context) (x : Home) (t : ObjectType) (at : Position) (place : Position) (i : Init) (s : Suits p home f h) → IsFormed s.structs t → HomeSuits p home f structs x t
        → Have p h.frame h.source.sites (initial_addressed h.numbers i) (initial_allocations h.known (value_target (Some t)) i) → start_faults h.known false (Some t) place i ≡ [] → AreAllSound (begun h (Some x) (Some t) i at)
    begun_sound h (kept_in.Register n) t at place i s formed suited have none =
        let word = first_sound h t (value_target (Some t)) at place i s (target_formed s.structs t formed) suited.1 have none in
        ((suited.0 ∙ ap Some (sym word.0), word.1), tt)
    begun_sound h (kept_in.Object k) t at place i s formed suited have none = object_begun_sound h k t at place i s formed suited have none

    -- ---- the objects of a declaration

    begun_by : (h : Context) (o : Option Home) (q : Option ObjectType) (x : Home) (t : ObjectType) (at : Position) (place : Position) (i : Init) → o ≡ Some x → q ≡ Some t → (s : Suits p home f h) → IsFormed s.structs t → HomeSuits p home f structs x t
        → Have p h.frame h.source.sites (initial_addressed h.numbers i) (initial_allocations h.known (value_target q) i) → start_faults h.known false q place i ≡ [] → AreAllSound (begun h o q i at)
    begun_by h o q x t at place i is typed s formed suited have none =
        let have' = subst (λ z. Have p h.frame h.source.sites (initial_addressed h.numbers i) (initial_allocations h.known (value_target z) i)) typed have in
        let none' = subst (λ z. start_faults h.known false z place i ≡ []) typed none in
        let one = begun_sound h x t at place i s formed suited have' none' in
        subst (λ z. AreAllSound (begun h z q i at)) (sym is) (subst (λ z. AreAllSound (begun h (Some x) z i at)) (sym typed) one)

    module _ (name : Text) (ns : List ℕ) where
      object_sound : (h : Context) (n : ℕ) (s : Specifier) (o : Object) → Inside p home f structs h → HomeFits f.pointers (length f.objects) (home_numbered h.frame (Some h.numbers.next)) (local_of s o)
          → Have p h.frame h.source.sites (object_addressed h.numbers o) (object_spots (in_function name ns) h.known n s o) → DeclaredListed (lists_of h.source.whole) s (declared_by o) → object_faults h.known false s o ≡ [] → AreAllSound (object_elaborated h s o)
      object_sound h n s (plain d) i fit have listed none = tt
      object_sound h n s (initialised d x at) i fit have listed none =
          let parts = append_nil (declared_faults h.known false s d) (start_faults (after_declared h.known false s d) false (declared_type h.known s d) at x) none in
          let two = have_parts p h.frame h.source.sites (declared_addressed h.numbers d) (initial_addressed (after_name h.numbers d) x) (declared_spots (in_function name ns) h.known n s d) (initial_allocations (after_declared h.known false s d) (value_target (declared_type h.known s d)) x) have in
          let now = object_inside p home f structs h s d i fit listed parts.0 in
          begun_by (here_after_object h s d) (home_of (here_after_object h s d) (declared_name d).text) (declared_type h.known s d) now.1.2 now.1.0 (position_of at) at x now.1.3 now.1.1
          (suits p home f structs (here_after_object h s d) now.0) (formed_there p home f structs (here_after_object h s d) now.0 now.1.0 now.1.5) now.1.4 two.1 parts.1

      pub objects_sound : (h : Context) (n : ℕ) (s : Specifier) (os : List Object) → Inside p home f structs h → AreHome f.pointers (length f.objects) h.frame h.numbers.next (map (local_of s) os)
          → Have p h.frame h.source.sites (objects_addressed h.numbers os) (objects_spots (in_function name ns) h.known n s os) → ObjectsListed (lists_of h.source.whole) s os → objects_faults h.known false s os ≡ [] → AreAllSound (objects_elaborated h s os)
      objects_sound h n s [] i come have listed none = tt
      objects_sound h n s (o ∷ os) i come have listed none =
          let parts = append_nil (object_faults h.known false s o) (objects_faults (after_declared h.known false s (declared_by o)) false s os) none in
          let two = have_parts p h.frame h.source.sites (object_addressed h.numbers o) (objects_addressed (after_name h.numbers (declared_by o)) os) (object_spots (in_function name ns) h.known n s o) (objects_spots (in_function name ns) (after_declared h.known false s (declared_by o)) (n + 1) s os) have in
          let now = object_inside p home f structs h s (declared_by o) i come.0 listed.0 (object_declared p home f structs h.known s o parts.0) in
          both_sound (object_elaborated h s o) (objects_elaborated (here_after_object h s (declared_by o)) s os)
          (object_sound h n s o i come.0 two.0 listed.0 parts.0)
          (objects_sound (here_after_object h s (declared_by o)) (n + 1) s os now.0 (home_after_object p home f structs h s o (map (local_of s) os) come) two.1 listed.1 parts.1)

      pub declares_sound : (h : Context) (n : ℕ) (d : Declares) → Inside p home f structs h → AreHome f.pointers (length f.objects) h.frame h.numbers.next (declares_locals d)
          → Have p h.frame h.source.sites (declares_addressed h.numbers d) (declares_spots (in_function name ns) h.known n d) → DeclaresListed (lists_of h.source.whole) d → declares_faults h.known d ≡ [] → AreAllSound (declares_elaborated h d)
      declares_sound h n (declares s os at) i come have listed none = objects_sound h n s os i come have listed none
