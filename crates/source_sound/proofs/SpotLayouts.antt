-- The layouts of all spots of a source without a fault fit: of its globals, locals and formals, and of its allocations.
use Rattle.std.proofs.Common.{◌≡◌, ℕ, ◌+◌, Bool, true, false, not, ◌&&◌, ◌==◌, List, [], ◌∷◌, ◌++◌, length, Option, Some, None, sym, subst}
use Rattle.word_semantics.specs.Layouts.{layout_fits}
use Rattle.rr_base.specs.Texts.{Text}
use Rattle.c_tree.specs.declared.ctype.Specifier.{Specifier}
use Rattle.c_tree.specs.Tree.{Exp, Declared, declared, declared_pointer, Object, plain, initialised, Declares, declares, Start, start_declares, start_computes, Statement, block, compute, break_at, continue_at, gives, branch, branch_else, while_loop, do_loop, for_loop, Parts, no_part, and_declares, and_does}
use Rattle.rr_base.specs.declared.position.Position.{Position}
use Rattle.c_types.specs.declared.library.StarredType.{StarredType}
use Rattle.c_types.specs.Scopes.{Known, Scope, Meaning, variable, declared_in, declare, opened}
use Rattle.c_types.specs.Operands.{operand_of, is_scalar}
use Rattle.c_types.specs.Standing.{no_target, standing}
use Rattle.c_rules.specs.Faults.{name_place, mismatch, specifier_faults, expression_faults, go_faults}
use Rattle.c_names.specs.Sources.{declared_name, declared_by, global_cells_with}
use Rattle.c_programs.specs.Declarators.{declared_type, declarator_faults, lengths_faults, taken_faults, size_faults}
use Rattle.c_names.specs.Signatures.{is_void_specifier}
use Rattle.c_programs.specs.Initials.{value_target, start_faults}
use Rattle.c_programs.specs.Statements.{cells_of_declared, global_name_faults, after_declared, declared_faults, object_faults, objects_faults, after_objects, declares_faults, after_declares, computed_faults, condition_faults, test_faults, gives_fit, return_faults, start_of_for_faults, after_start, statement_faults, parts_faults}
use Rattle.c_locals.specs.Addresses.{count_of_locals, count_of_start, count_of_declares}
use Rattle.c_locals.specs.Kept.{is_kept_declared}
use Rattle.c_spots.specs.Spots.{Spot, spot_named, where_kept, Where, in_function, holder_in, is_cell_in, is_global_level, declared_lengths, allocations, maybe_allocations, lengths_allocations, initial_allocations, declared_spots, object_spots, objects_spots, declares_spots, start_spots, for_spots, statement_spots, parts_spots}
use Rattle.c_sites.specs.Sites.{layout_by}
use Rattle.c_operators.specs.Context.{Source}
use Rattle.source_sound.proofs.Environment.{IsFormed}
use Rattle.source_sound.proofs.FileLists.{append_nil, nil3, nil4}
use Rattle.source_sound.proofs.Structs.{AreSmall, layout_good}
use Rattle.source_sound.proofs.DeclaredTypes.{declared_formed}
use Rattle.source_sound.proofs.Listed.{lists_of, DeclaredListed, ObjectsListed, DeclaresListed, StartListed, StatementListed, PartsListed}
use Rattle.source_sound.proofs.PointerNumbers.{PointsKnown, declared_points}
use Rattle.source_sound.proofs.FileStructs.{AllMembers}
use Rattle.source_sound.proofs.FileScope.{all_with}
use Rattle.source_sound.proofs.FileObjects.{IsWhole, HasStructs, IsObjectType, object_type}
use Rattle.source_sound.proofs.Typing.{IsGoodTarget, place_target}
use Rattle.source_sound.proofs.TypedExpressions.{IsTypedName, AreTypedScopes, AreTyped}
use Rattle.source_sound.proofs.Layouts.{AllLaidOut, laid, exp_laid, lengths_laid, initial_laid}

module _ (s : Source) (n : ℕ) (whole : IsWhole s n) (small : AreSmall s.kinds) (size : length s.kinds ≡ n) where
  abbrev pub Laid : List Spot → Type 0
  Laid xs = AllLaidOut s.kinds xs

  -- a place anywhere: names and structs are known
  pub record IsAt (known : Known) : Type 0 where
    pub names : AreTypedScopes n (lists_of s.whole) known.scopes
    pub has : HasStructs s known
    pub structs : length known.struct_names ≡ n

  typed_at : (known : Known) → IsAt known → AreTyped n known
  typed_at known h = record { names = subst (λ lists. AreTypedScopes n lists known.scopes) (sym h.has.lists) h.names; members = subst (λ k. AllMembers k 0 known.structs) h.structs h.has.structs.members; structs = h.structs }

  pub opened_at : (known : Known) → IsAt known → IsAt (opened known)
  opened_at known h = record {
    names = (tt, h.names);
    has = record { structs = record { sized = record { sizes = h.has.structs.sized.sizes; small = h.has.structs.sized.small; many = h.has.structs.sized.many }; members = h.has.structs.members }; more = h.has.more; later = h.has.later; lists = h.has.lists };
    structs = h.structs;
  }

  scopes_with : (ss : List Scope) (name : Text) (m : Meaning) → AreTypedScopes n (lists_of s.whole) ss → IsTypedName n (lists_of s.whole) name m → AreTypedScopes n (lists_of s.whole) (declared_in ss name m)
  scopes_with [] name m h g = tt
  scopes_with (x ∷ ss) name m h g = (all_with (IsTypedName n (lists_of s.whole)) x name m h.0 g, h.1)

  pub declare_at : (known : Known) (name : Text) (m : Meaning) → IsAt known → IsTypedName n (lists_of s.whole) name m → IsAt (declare known name m)
  declare_at known name m h g = record {
    names = scopes_with known.scopes name m h.names g;
    has = record { structs = record { sized = record { sizes = h.has.structs.sized.sizes; small = h.has.structs.sized.small; many = h.has.structs.sized.many }; members = h.has.structs.members }; more = h.has.more; later = h.has.later; lists = h.has.lists };
    structs = h.structs;
  }

  declared_name_typed : (known : Known) (sp : Specifier) (d : Declared) → IsAt known → IsObjectType s n whole known sp d → declarator_faults known sp d ≡ [] → IsTypedName n (lists_of s.whole) (declared_name d).text (variable (declared_type known sp d))
  declared_name_typed known sp d h o e =
      subst (λ z. IsTypedName n (lists_of s.whole) (declared_name d).text (variable z)) (sym o.is)
      (subst (λ k. IsFormed k o.t) h.structs (declared_formed known o.t o.declared), o.declared.layers, subst (λ k. PointsKnown (lists_of s.whole) k o.t) h.structs (declared_points known s.whole h.has.lists sp d o.t e o.is))

  faultless_declarator : (known : Known) (is_global : Bool) (sp : Specifier) (d : Declared) → declared_faults known is_global sp d ≡ [] → declarator_faults known sp d ≡ []
  faultless_declarator known is_global sp d e =
      (nil4 (declarator_faults known sp d) (taken_faults known (declared_name d)) (size_faults (cells_of_declared known sp d) (declared_name d)) (global_name_faults is_global (global_cells_with true known.global_cells (cells_of_declared known sp d)) (declared_name d)) e).0

  declared_at : (known : Known) (is_global : Bool) (sp : Specifier) (d : Declared) → IsAt known → DeclaredListed (lists_of s.whole) sp d → declared_faults known is_global sp d ≡ [] → IsAt (after_declared known is_global sp d)
  declared_at known is_global sp d h listed e =
      let one = declare_at known (declared_name d).text (variable (declared_type known sp d)) h (declared_name_typed known sp d h (object_type s n whole known h.has is_global sp d listed e) (faultless_declarator known is_global sp d e)) in
      record {
        names = one.names;
        has = record { structs = record { sized = record { sizes = h.has.structs.sized.sizes; small = h.has.structs.sized.small; many = h.has.structs.sized.many }; members = h.has.structs.members }; more = h.has.more; later = h.has.later; lists = h.has.lists };
        structs = h.structs;
      }

  object_declared : (known : Known) (is_global : Bool) (sp : Specifier) (x : Object) → object_faults known is_global sp x ≡ [] → declared_faults known is_global sp (declared_by x) ≡ []
  object_declared known is_global sp (plain d) e = e
  object_declared known is_global sp (initialised d i at) e = (append_nil (declared_faults known is_global sp d) (start_faults (after_declared known is_global sp d) is_global (declared_type known sp d) at i) e).0

  objects_at : (known : Known) (is_global : Bool) (sp : Specifier) (xs : List Object) → IsAt known → ObjectsListed (lists_of s.whole) sp xs → objects_faults known is_global sp xs ≡ [] → IsAt (after_objects known is_global sp xs)
  objects_at known is_global sp [] h listed e = h
  objects_at known is_global sp (x ∷ xs) h listed e =
      let p = append_nil (object_faults known is_global sp x) (objects_faults (after_declared known is_global sp (declared_by x)) is_global sp xs) e in
      objects_at (after_declared known is_global sp (declared_by x)) is_global sp xs (declared_at known is_global sp (declared_by x) h listed.0 (object_declared known is_global sp x p.0)) listed.1 p.1

  -- ---- objects

  pub kept_laid : (b : Bool) (x : Spot) → layout_fits (layout_by s.kinds x.of) ≡ true → Laid (where_kept b x)
  kept_laid true x h = (h, tt)
  kept_laid false x h = tt

  pub declared_lengths_laid : (known : Known) (sp : Specifier) (d : Declared) → IsAt known → declarator_faults known sp d ≡ [] → Laid (lengths_allocations known (declared_lengths d))
  declared_lengths_laid known sp (declared stars name lengths) h e =
      let p = nil3 (specifier_faults known (stars == 0) sp) (mismatch (is_void_specifier sp && (stars == 0)) (name_place name)) (lengths_faults known (name_place name) lengths) e in
      lengths_laid s.kinds n small size known (typed_at known h) (name_place name) lengths p.2
  declared_lengths_laid known sp (declared_pointer stars name ps) h e = tt

  declared_laid : (here' : Where) (known : Known) (m : ℕ) (is_global : Bool) (sp : Specifier) (d : Declared) → IsAt known → DeclaredListed (lists_of s.whole) sp d → declared_faults known is_global sp d ≡ [] → Laid (declared_spots here' known m sp d)
  declared_laid here' known m is_global sp d h listed e =
      let o = object_type s n whole known h.has is_global sp d listed e in
      let fits = subst (λ z. layout_fits (layout_by s.kinds z) ≡ true) (sym o.is) (layout_good s.kinds o.t o.small o.whole_within o.few) in
      let spot = spot_named (holder_in here' (declared_name d).text) (declared_name d) (declared_type known sp d) in
      let p = nil4 (declarator_faults known sp d) (taken_faults known (declared_name d)) (size_faults (cells_of_declared known sp d) (declared_name d)) (global_name_faults is_global (global_cells_with true known.global_cells (cells_of_declared known sp d)) (declared_name d)) e in
      laid s.kinds n small size (where_kept (is_cell_in here' m (is_kept_declared sp d)) spot) (lengths_allocations known (declared_lengths d)) (kept_laid (is_cell_in here' m (is_kept_declared sp d)) spot fits) (declared_lengths_laid known sp d h p.0)

  object_laid : (here' : Where) (known : Known) (m : ℕ) (sp : Specifier) (x : Object) → IsAt known → DeclaredListed (lists_of s.whole) sp (declared_by x) → object_faults known (is_global_level here') sp x ≡ [] → Laid (object_spots here' known m sp x)
  object_laid here' known m sp (plain d) h listed e = declared_laid here' known m (is_global_level here') sp d h listed e
  object_laid here' known m sp (initialised d i at) h listed e =
      let g = is_global_level here' in
      let after = after_declared known g sp d in
      let p = append_nil (declared_faults known g sp d) (start_faults after g (declared_type known sp d) at i) e in
      let o = object_type s n whole known h.has g sp d listed p.0 in
      let target : IsGoodTarget n (value_target (declared_type known sp d)) = subst (λ z. IsGoodTarget n (value_target z)) (sym o.is) (place_target n o.t.layers o.t.base (subst (λ k. IsFormed k o.t) h.structs (declared_formed known o.t o.declared)) o.declared.layers) in
      laid s.kinds n small size (declared_spots here' known m sp d) (initial_allocations after (value_target (declared_type known sp d)) i) (declared_laid here' known m g sp d h listed p.0)
      (initial_laid s.kinds n small size after (typed_at after (declared_at known g sp d h listed p.0)) g (value_target (declared_type known sp d)) target (declared_type known sp d) at i p.1)

  pub objects_laid : (here' : Where) (known : Known) (m : ℕ) (sp : Specifier) (xs : List Object) → IsAt known → ObjectsListed (lists_of s.whole) sp xs → objects_faults known (is_global_level here') sp xs ≡ [] → Laid (objects_spots here' known m sp xs)
  objects_laid here' known m sp [] h listed e = tt
  objects_laid here' known m sp (x ∷ xs) h listed e =
      let g = is_global_level here' in
      let next = after_declared known g sp (declared_by x) in
      let p = append_nil (object_faults known g sp x) (objects_faults next g sp xs) e in
      laid s.kinds n small size (object_spots here' known m sp x) (objects_spots here' next (m + 1) sp xs) (object_laid here' known m sp x h listed.0 p.0)
      (objects_laid here' next (m + 1) sp xs (declared_at known g sp (declared_by x) h listed.0 (object_declared known g sp x p.0)) listed.1 p.1)

  -- ---- statements

  one_laid : (known : Known) (e : Exp) → IsAt known → expression_faults known e ≡ [] → Laid (allocations known no_target e)
  one_laid known e h none = exp_laid s.kinds n small size known (typed_at known h) no_target tt e none

  condition_laid : (known : Known) (at : Position) (e : Exp) → IsAt known → condition_faults known at e ≡ [] → Laid (allocations known no_target e)
  condition_laid known at e h none = one_laid known e h (append_nil (expression_faults known e) (mismatch (not (is_scalar (operand_of (standing known no_target e)))) at) none).0

  test_laid : (known : Known) (at : Position) (e : Option Exp) → IsAt known → test_faults known at e ≡ [] → Laid (maybe_allocations known e)
  test_laid known at None h none = tt
  test_laid known at (Some e) h none = condition_laid known at e h none

  computed_laid : (known : Known) (e : Option Exp) → IsAt known → computed_faults known e ≡ [] → Laid (maybe_allocations known e)
  computed_laid known None h none = tt
  computed_laid known (Some e) h none = one_laid known e h (append_nil (expression_faults known e) (go_faults (standing known no_target e) e) none).0

  returned_laid : (known : Known) (result : Option StarredType) (at : Position) (e : Option Exp) → IsAt known → return_faults known result at e ≡ [] → Laid (maybe_allocations known e)
  returned_laid known result at None h none = tt
  returned_laid known result at (Some e) h none = one_laid known e h (append_nil (expression_faults known e) (mismatch (not (gives_fit result (operand_of (standing known no_target e)))) at) none).0

  module _ (f : Text) (ns : List ℕ) (result : Option StarredType) where
    abbrev inner : Where
    inner = in_function f ns

    declares_laid : (known : Known) (m : ℕ) (d : Declares) → IsAt known → DeclaresListed (lists_of s.whole) d → declares_faults known d ≡ [] → Laid (declares_spots inner known m d)
    declares_laid known m (declares sp xs at) h listed e = objects_laid inner known m sp xs h listed e

    declares_at : (known : Known) (d : Declares) → IsAt known → DeclaresListed (lists_of s.whole) d → declares_faults known d ≡ [] → IsAt (after_declares known d)
    declares_at known (declares sp xs at) h listed e = objects_at known false sp xs h listed e

    start_laid : (known : Known) (m : ℕ) (x : Start) → IsAt known → StartListed (lists_of s.whole) x → start_of_for_faults known x ≡ [] → Laid (start_spots inner known m x)
    start_laid known m (start_declares d) h listed e = declares_laid known m d h listed e
    start_laid known m (start_computes x) h listed e = computed_laid known x h e

    start_at : (known : Known) (x : Start) → IsAt known → StartListed (lists_of s.whole) x → start_of_for_faults known x ≡ [] → IsAt (after_start known x)
    start_at known (start_declares d) h listed e = declares_at known d h listed e
    start_at known (start_computes x) h listed e = h

    mutual
      statement_laid : (known : Known) (m : ℕ) (in_loop : Bool) (x : Statement) → IsAt known → StatementListed (lists_of s.whole) x → statement_faults known result in_loop x ≡ [] → Laid (statement_spots inner known m x)
      statement_laid known m in_loop (block ps at) h listed e = parts_laid (opened known) m in_loop ps (opened_at known h) listed e
      statement_laid known m in_loop (compute x at) h listed e = computed_laid known x h e
      statement_laid known m in_loop (break_at at) h listed e = tt
      statement_laid known m in_loop (continue_at at) h listed e = tt
      statement_laid known m in_loop (gives x at) h listed e = returned_laid known result at x h e
      statement_laid known m in_loop (branch x a at) h listed e =
          let p = append_nil (condition_faults known at x) (statement_faults known result in_loop a) e in
          laid s.kinds n small size (allocations known no_target x) (statement_spots inner known m a) (condition_laid known at x h p.0) (statement_laid known m in_loop a h listed p.1)
      statement_laid known m in_loop (branch_else x a b at) h listed e =
          let p = nil3 (condition_faults known at x) (statement_faults known result in_loop a) (statement_faults known result in_loop b) e in
          laid s.kinds n small size (allocations known no_target x ++ statement_spots inner known m a) (statement_spots inner known (m + count_of_locals a) b)
          (laid s.kinds n small size (allocations known no_target x) (statement_spots inner known m a) (condition_laid known at x h p.0) (statement_laid known m in_loop a h listed.0 p.1))
          (statement_laid known (m + count_of_locals a) in_loop b h listed.1 p.2)
      statement_laid known m in_loop (while_loop x a at) h listed e =
          let p = append_nil (condition_faults known at x) (statement_faults known result true a) e in
          laid s.kinds n small size (allocations known no_target x) (statement_spots inner known m a) (condition_laid known at x h p.0) (statement_laid known m true a h listed p.1)
      statement_laid known m in_loop (do_loop a x at) h listed e =
          let p = append_nil (statement_faults known result true a) (condition_faults known at x) e in
          laid s.kinds n small size (statement_spots inner known m a) (allocations known no_target x) (statement_laid known m true a h listed p.0) (condition_laid known at x h p.1)
      statement_laid known m in_loop (for_loop start test next a at) h listed e =
          let k = after_start (opened known) start in
          let p = nil4 (start_of_for_faults (opened known) start) (test_faults k at test) (computed_faults k next) (statement_faults k result true a) e in
          let i = opened_at known h in
          let j = start_at (opened known) start i listed.0 p.0 in
          laid s.kinds n small size (for_spots inner (opened known) m start test next) (statement_spots inner k (m + count_of_start start) a)
          (laid s.kinds n small size (start_spots inner (opened known) m start ++ maybe_allocations k test) (maybe_allocations k next)
          (laid s.kinds n small size (start_spots inner (opened known) m start) (maybe_allocations k test) (start_laid (opened known) m start i listed.0 p.0) (test_laid k at test j p.1))
          (computed_laid k next j p.2))
          (statement_laid k (m + count_of_start start) true a j listed.1 p.3)

      pub parts_laid : (known : Known) (m : ℕ) (in_loop : Bool) (ps : Parts) → IsAt known → PartsListed (lists_of s.whole) ps → parts_faults known result in_loop ps ≡ [] → Laid (parts_spots inner known m ps)
      parts_laid known m in_loop no_part h listed e = tt
      parts_laid known m in_loop (and_declares d ps) h listed e =
          let next = after_declares known d in
          let p = append_nil (declares_faults known d) (parts_faults next result in_loop ps) e in
          laid s.kinds n small size (declares_spots inner known m d) (parts_spots inner next (m + count_of_declares d) ps) (declares_laid known m d h listed.0 p.0) (parts_laid next (m + count_of_declares d) in_loop ps (declares_at known d h listed.0 p.0) listed.1 p.1)
      parts_laid known m in_loop (and_does x ps) h listed e =
          let p = append_nil (statement_faults known result in_loop x) (parts_faults known result in_loop ps) e in
          laid s.kinds n small size (statement_spots inner known m x) (parts_spots inner known (m + count_of_locals x) ps) (statement_laid known m in_loop x h listed.0 p.0) (parts_laid known (m + count_of_locals x) in_loop ps h listed.1 p.1)
