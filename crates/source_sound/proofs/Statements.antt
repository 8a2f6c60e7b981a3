-- The statements of a function are sound where they have no fault.
use Rattle.std.proofs.Common.{◌≡◌, ℕ, zero, suc, ◌+◌, Bool, true, false, not, List, [], ◌∷◌, ◌++◌, length, Option, Some, None, refl, sym, ap, ◌∙◌, subst, arith}
use Rattle.rr_base.specs.Texts.{Text}
use Rattle.c_tree.specs.Tree.{Exp, Object, Declares, declares, Start, start_declares, start_computes, Statement, block, compute, break_at, continue_at, gives, branch, branch_else, while_loop, do_loop, for_loop, Parts, no_part, and_declares, and_does}
use Rattle.rr_base.specs.declared.position.Position.{Position}
use Rattle.c_types.specs.declared.library.StarredType.{StarredType}
use Rattle.c_types.specs.declared.types.BaseType.{BaseType}
use Rattle.c_types.specs.declared.types.BaseType.TheVariants as base
use Rattle.c_types.specs.Scopes.{starred, opened}
use Rattle.c_types.specs.Operands.{operand_of, type_operand, is_scalar, accepts}
use Rattle.c_types.specs.Library.{starred_type}
use Rattle.c_types.specs.Standing.{no_target, points_to_functions, standing}
use Rattle.c_rules.specs.Faults.{mismatch, expression_faults, go_faults}
use Rattle.c_names.specs.Sources.{declared_by}
use Rattle.c_programs.specs.Statements.{after_declares, declares_faults, computed_faults, condition_faults, test_faults, gives_fit, return_faults, start_of_for_faults, after_start, statement_faults, parts_faults}
use Rattle.c_spots.specs.Spots.{in_function, allocations, maybe_allocations, declares_spots, start_spots, for_spots, statement_spots, parts_spots}
use Rattle.c_numbers.specs.Numbered.{Numbered, inside}
use Rattle.c_locals.specs.Addresses.{addressed, maybe_addressed, start_addressed, for_addressed, declares_addressed, statement_addressed, parts_addressed, after_names, after_name, after_declaration, after_for_start, past_statement, count_of_declares, count_of_start, count_of_locals}
use Rattle.core_tree.specs.Core.{Function, Program}
use Rattle.core_tree.specs.Meaning.{is_pointer}
use Rattle.c_frames.specs.declared.local.Local.{Local}
use Rattle.c_operators.specs.Denoted.{is_pointing, kind_of}
use Rattle.c_operators.specs.Context.{Context}
use Rattle.c_values.specs.Calls.{gives_pointer}
use Rattle.c_values.specs.Expressions.{value_of, wanted_of}
use Rattle.c_frames.specs.Locals.{declares_locals, start_locals, statement_locals, parts_locals}
use Rattle.c_statements.specs.Statements.{context_inside, here_after_declares, here_after_start, context_after, declares_elaborated, computed, maybe_value, kind_given, given, start_elaborated, elaborated, all_elaborated}
use Rattle.core_tree.specs.Sound.{IsSoundExp, IsSoundMaybe, IsSoundResult, IsSoundStatement}
use Rattle.source_sound.proofs.NoFaults.{append_nil, three_nil, four_nil, fits}
use Rattle.source_sound.proofs.Premises.{Have, have_parts, AreValuesSound, AreWantedSound, value_by_parts, wanted_by_parts}
use Rattle.source_sound.proofs.Listed.{lists_of, StartListed, StatementListed, PartsListed}
use Rattle.source_sound.proofs.Inside.{Inside, suits}
use Rattle.source_sound.proofs.Typed.{starred_tells}
use Rattle.source_sound.proofs.Locals.{AreHome, home_left, home_right, declares_count, start_count, locals_count}
use Rattle.source_sound.proofs.Declarations.{next_after_name, declares_inside, start_inside, opened_inside, after_inside, next_after}
use Rattle.source_sound.proofs.FirstValues.{AreAllSound, both_sound, declares_sound}

-- what a function gives is no pointer to functions, so it is a pointer to an object or a number
given_kind : (stars : ℕ) (b : BaseType) → points_to_functions (starred stars b) ≡ false → kind_of (type_operand (starred stars b)) ≡ kind_given (is_pointing (type_operand (starred stars b)))
given_kind zero base.Int h = refl
given_kind zero base.Void h = refl
given_kind zero (base.Struct k) h = refl
given_kind zero (base.Function k) h = cc
given_kind zero base.Mutex h = refl
given_kind zero base.Cond h = refl
given_kind zero base.Barrier h = refl
given_kind zero base.RwLock h = refl
given_kind (suc n) b h = refl

module _ (p : Program) (home : ℕ → Option ℕ) (f : Function) (structs : ℕ) (values : AreValuesSound p home f) (wanted : AreWantedSound p home f) where
  -- ---- the numbers of those that come

  next_after_names : (ns : Numbered) (os : List Object) → (after_names ns os).next ≡ ns.next + length os
  next_after_names ns [] = omega arith
  next_after_names ns (o ∷ os) =
      let one = next_after_name p home f structs ns (declared_by o) in
      let more = next_after_names (after_name ns (declared_by o)) os in
      omega (arith, one, more)

  next_after_declares : (ns : Numbered) (d : Declares) → (after_declaration ns d).next ≡ ns.next + count_of_declares d
  next_after_declares ns (declares s os at) = next_after_names ns os

  next_after_start : (ns : Numbered) (s : Start) → (after_for_start ns s).next ≡ ns.next + count_of_start s
  next_after_start ns (start_declares d) = next_after_declares ns d
  next_after_start ns (start_computes e) = omega arith

  -- ---- expressions in statements

  value_sound : (h : Context) (e : Exp) → Inside p home f structs h → Have p h.frame h.source.sites (addressed h.numbers e) (allocations h.known no_target e) → expression_faults h.known e ≡ [] → IsSoundExp p home f (value_of h e)
  value_sound h e i have none = value_by_parts p home f values h e (suits p home f structs h i) have none

  condition_sound : (h : Context) (e : Exp) (at : Position) → Inside p home f structs h → Have p h.frame h.source.sites (addressed h.numbers e) (allocations h.known no_target e) → condition_faults h.known at e ≡ [] → IsSoundExp p home f (value_of h e)
  condition_sound h e at i have none =
      value_sound h e i have (append_nil (expression_faults h.known e) (mismatch (not (is_scalar (operand_of (standing h.known no_target e)))) at) none).0

  test_sound : (h : Context) (e : Option Exp) (at : Position) → Inside p home f structs h → Have p h.frame h.source.sites (maybe_addressed h.numbers e) (maybe_allocations h.known e) → test_faults h.known at e ≡ [] → IsSoundMaybe p home f (maybe_value h e)
  test_sound h None at i have none = tt
  test_sound h (Some e) at i have none = condition_sound h e at i have none

  step_sound : (h : Context) (e : Option Exp) → Inside p home f structs h → Have p h.frame h.source.sites (maybe_addressed h.numbers e) (maybe_allocations h.known e) → computed_faults h.known e ≡ [] → IsSoundMaybe p home f (maybe_value h e)
  step_sound h None i have none = tt
  step_sound h (Some e) i have none = value_sound h e i have (append_nil (expression_faults h.known e) (go_faults (standing h.known no_target e) e) none).0

  computed_sound : (h : Context) (e : Option Exp) → Inside p home f structs h → Have p h.frame h.source.sites (maybe_addressed h.numbers e) (maybe_allocations h.known e) → computed_faults h.known e ≡ [] → IsSoundStatement p home f (computed h e)
  computed_sound h None i have none = tt
  computed_sound h (Some e) i have none = value_sound h e i have (append_nil (expression_faults h.known e) (go_faults (standing h.known no_target e) e) none).0

  module _ (result : StarredType) (is_result : gives_pointer (Some result) ≡ f.gives_pointer) (plain : points_to_functions (starred_type result) ≡ false) where
    -- what is returned is of the kind that the function gives
    given_sound : (h : Context) (e : Option Exp) (at : Position) → Inside p home f structs h → Have p h.frame h.source.sites (maybe_addressed h.numbers e) (maybe_allocations h.known e) → return_faults h.known (Some result) at e ≡ [] → IsSoundResult p home f (given h e)
    given_sound h None at i have none = tt
    given_sound h (Some e) at i have none =
        let t = starred_type result in
        let parts = append_nil (expression_faults h.known e) (mismatch (not (gives_fit (Some result) (operand_of (standing h.known no_target e)))) at) none in
        let word = wanted_by_parts p home f wanted h no_target t e (suits p home f structs h i) tt have parts.0 (fits (accepts t (operand_of (standing h.known no_target e))) at parts.1) in
        let same : is_pointing (type_operand t) ≡ h.frame.gives_pointer = sym (starred_tells result.stars result.base) ∙ is_result ∙ sym i.gives in
        let own = given_kind result.stars result.base plain ∙ ap kind_given same in
        let here' = subst (λ k. (is_pointer (wanted_of h k no_target e) ≡ is_pointing (type_operand t)) × IsSoundExp p home f (wanted_of h k no_target e)) own word in
        (here'.0 ∙ same ∙ i.gives, here'.1)

    module _ (name : Text) (ns : List ℕ) where
      start_sound : (h : Context) (n : ℕ) (s : Start) → Inside p home f structs h → AreHome f.pointers (length f.objects) h.frame h.numbers.next (start_locals s)
          → Have p h.frame h.source.sites (start_addressed h.numbers s) (start_spots (in_function name ns) h.known n s) → StartListed (lists_of h.source.whole) s → start_of_for_faults h.known s ≡ [] → IsSoundStatement p home f (start_elaborated h s)
      start_sound h n (start_declares d) i come have listed none = declares_sound p home f structs values wanted name ns h n d i come have listed none
      start_sound h n (start_computes e) i come have listed none = computed_sound h e i have none

      -- the second of two statements, whose locals come after those of the first
      come_after : (h : Context) (a : Statement) (ls : List Local) → AreHome f.pointers (length f.objects) h.frame h.numbers.next (statement_locals a ++ ls) → AreHome f.pointers (length f.objects) h.frame (past_statement h.numbers a).next ls
      come_after h a ls come =
          let next = next_after p home f structs h.numbers a in
          let count = locals_count a in
          home_right f.pointers (length f.objects) h.frame h.numbers.next (past_statement h.numbers a).next (statement_locals a) ls (omega (arith, next, count)) come

      come_after_start : (h : Context) (s : Start) (ls : List Local) → AreHome f.pointers (length f.objects) h.frame h.numbers.next (start_locals s ++ ls) → AreHome f.pointers (length f.objects) h.frame (after_for_start h.numbers s).next ls
      come_after_start h s ls come =
          let next = next_after_start h.numbers s in
          let count = start_count s in
          home_right f.pointers (length f.objects) h.frame h.numbers.next (after_for_start h.numbers s).next (start_locals s) ls (omega (arith, next, count)) come

      come_after_declares : (h : Context) (d : Declares) (ls : List Local) → AreHome f.pointers (length f.objects) h.frame h.numbers.next (declares_locals d ++ ls) → AreHome f.pointers (length f.objects) h.frame (after_declaration h.numbers d).next ls
      come_after_declares h d ls come =
          let next = next_after_declares h.numbers d in
          let count = declares_count d in
          home_right f.pointers (length f.objects) h.frame h.numbers.next (after_declaration h.numbers d).next (declares_locals d) ls (omega (arith, next, count)) come

      mutual
        pub statement_sound : (h : Context) (in_loop : Bool) (s : Statement) → Inside p home f structs h → StatementListed (lists_of h.source.whole) s → AreHome f.pointers (length f.objects) h.frame h.numbers.next (statement_locals s)
            → (n : ℕ) → Have p h.frame h.source.sites (statement_addressed h.numbers s) (statement_spots (in_function name ns) h.known n s) → statement_faults h.known (Some result) in_loop s ≡ [] → IsSoundStatement p home f (elaborated h s)
        statement_sound h in_loop (block ps at) i listed come n have none = parts_sound (context_inside h) in_loop ps (opened_inside p home f structs h i) listed come n have none
        statement_sound h in_loop (compute e at) i listed come n have none = computed_sound h e i have none
        statement_sound h in_loop (break_at at) i listed come n have none = tt
        statement_sound h in_loop (continue_at at) i listed come n have none = tt
        statement_sound h in_loop (gives e at) i listed come n have none = given_sound h e at i have none
        statement_sound h in_loop (branch e a at) i listed come n have none =
            let parts = append_nil (condition_faults h.known at e) (statement_faults h.known (Some result) in_loop a) none in
            let two = have_parts p h.frame h.source.sites (addressed h.numbers e) (statement_addressed h.numbers a) (allocations h.known no_target e) (statement_spots (in_function name ns) h.known n a) have in
            (condition_sound h e at i two.0 parts.0, statement_sound h in_loop a i listed come n two.1 parts.1)
        statement_sound h in_loop (branch_else e a b at) i listed come n have none =
            let parts = three_nil (condition_faults h.known at e) (statement_faults h.known (Some result) in_loop a) (statement_faults h.known (Some result) in_loop b) none in
            let last = have_parts p h.frame h.source.sites (addressed h.numbers e ++ statement_addressed h.numbers a) (statement_addressed (past_statement h.numbers a) b) (allocations h.known no_target e ++ statement_spots (in_function name ns) h.known n a) (statement_spots (in_function name ns) h.known (n + count_of_locals a) b) have in
            let two = have_parts p h.frame h.source.sites (addressed h.numbers e) (statement_addressed h.numbers a) (allocations h.known no_target e) (statement_spots (in_function name ns) h.known n a) last.0 in (
              condition_sound h e at i two.0 parts.0,
              statement_sound h in_loop a i listed.0 (home_left f.pointers (length f.objects) h.frame h.numbers.next (statement_locals a) (statement_locals b) come) n two.1 parts.1,
              statement_sound (context_after h a) in_loop b (after_inside p home f structs h a i) listed.1 (come_after h a (statement_locals b) come) (n + count_of_locals a) last.1 parts.2,
            )
        statement_sound h in_loop (while_loop e a at) i listed come n have none =
            let parts = append_nil (condition_faults h.known at e) (statement_faults h.known (Some result) true a) none in
            let two = have_parts p h.frame h.source.sites (addressed h.numbers e) (statement_addressed h.numbers a) (allocations h.known no_target e) (statement_spots (in_function name ns) h.known n a) have in
            (condition_sound h e at i two.0 parts.0, statement_sound h true a i listed come n two.1 parts.1)
        statement_sound h in_loop (do_loop a e at) i listed come n have none =
            let parts = append_nil (statement_faults h.known (Some result) true a) (condition_faults h.known at e) none in
            let two = have_parts p h.frame h.source.sites (statement_addressed h.numbers a) (addressed (past_statement h.numbers a) e) (statement_spots (in_function name ns) h.known n a) (allocations h.known no_target e) have in
            (statement_sound h true a i listed come n two.0 parts.0, condition_sound (context_after h a) e at (after_inside p home f structs h a i) two.1 parts.1)
        statement_sound h in_loop (for_loop start test next a at) i listed come n have none =
            let parts = four_nil (start_of_for_faults (opened h.known) start) (test_faults (after_start (opened h.known) start) at test) (computed_faults (after_start (opened h.known) start) next) (statement_faults (after_start (opened h.known) start) (Some result) true a) none in
            let last = have_parts p h.frame h.source.sites (for_addressed (inside h.numbers) start test next) (statement_addressed (after_for_start (inside h.numbers) start) a) (for_spots (in_function name ns) (opened h.known) n start test next) (statement_spots (in_function name ns) (after_start (opened h.known) start) (n + count_of_start start) a) have in
            let more = have_parts p h.frame h.source.sites (start_addressed (inside h.numbers) start ++ maybe_addressed (after_for_start (inside h.numbers) start) test) (maybe_addressed (after_for_start (inside h.numbers) start) next) (start_spots (in_function name ns) (opened h.known) n start ++ maybe_allocations (after_start (opened h.known) start) test) (maybe_allocations (after_start (opened h.known) start) next) last.0 in
            let two = have_parts p h.frame h.source.sites (start_addressed (inside h.numbers) start) (maybe_addressed (after_for_start (inside h.numbers) start) test) (start_spots (in_function name ns) (opened h.known) n start) (maybe_allocations (after_start (opened h.known) start) test) more.0 in
            let own = home_left f.pointers (length f.objects) h.frame h.numbers.next (start_locals start) (statement_locals a) come in
            let i' = opened_inside p home f structs h i in
            let after = start_inside p home f structs (context_inside h) start i' own listed.0 parts.0 in (
              start_sound (context_inside h) n start i' own two.0 listed.0 parts.0,
              test_sound (here_after_start (context_inside h) start) test at after two.1 parts.1,
              step_sound (here_after_start (context_inside h) start) next after more.1 parts.2,
              statement_sound (here_after_start (context_inside h) start) true a after listed.1 (come_after_start (context_inside h) start (statement_locals a) come) (n + count_of_start start) last.1 parts.3,
            )

        -- what stands in a block
        pub parts_sound : (h : Context) (in_loop : Bool) (ps : Parts) → Inside p home f structs h → PartsListed (lists_of h.source.whole) ps → AreHome f.pointers (length f.objects) h.frame h.numbers.next (parts_locals ps)
            → (n : ℕ) → Have p h.frame h.source.sites (parts_addressed h.numbers ps) (parts_spots (in_function name ns) h.known n ps) → parts_faults h.known (Some result) in_loop ps ≡ [] → AreAllSound p home f structs (all_elaborated h ps)
        parts_sound h in_loop no_part i listed come n have none = tt
        parts_sound h in_loop (and_declares d ps) i listed come n have none =
            let parts = append_nil (declares_faults h.known d) (parts_faults (after_declares h.known d) (Some result) in_loop ps) none in
            let two = have_parts p h.frame h.source.sites (declares_addressed h.numbers d) (parts_addressed (after_declaration h.numbers d) ps) (declares_spots (in_function name ns) h.known n d) (parts_spots (in_function name ns) (after_declares h.known d) (n + count_of_declares d) ps) have in
            let own = home_left f.pointers (length f.objects) h.frame h.numbers.next (declares_locals d) (parts_locals ps) come in
            both_sound p home f structs (declares_elaborated h d) (all_elaborated (here_after_declares h d) ps)
            (declares_sound p home f structs values wanted name ns h n d i own two.0 listed.0 parts.0)
            (parts_sound (here_after_declares h d) in_loop ps (declares_inside p home f structs h d i own listed.0 parts.0) listed.1 (come_after_declares h d (parts_locals ps) come) (n + count_of_declares d) two.1 parts.1)
        parts_sound h in_loop (and_does s ps) i listed come n have none =
            let parts = append_nil (statement_faults h.known (Some result) in_loop s) (parts_faults h.known (Some result) in_loop ps) none in
            let two = have_parts p h.frame h.source.sites (statement_addressed h.numbers s) (parts_addressed (past_statement h.numbers s) ps) (statement_spots (in_function name ns) h.known n s) (parts_spots (in_function name ns) h.known (n + count_of_locals s) ps) have in (
              statement_sound h in_loop s i listed.0 (home_left f.pointers (length f.objects) h.frame h.numbers.next (statement_locals s) (parts_locals ps) come) n two.0 parts.0,
              parts_sound (context_after h s) in_loop ps (after_inside p home f structs h s i) listed.1 (come_after h s (parts_locals ps) come) (n + count_of_locals s) two.1 parts.1,
            )
