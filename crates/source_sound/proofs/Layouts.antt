-- The layouts of allocations fit: each `malloc` of an expression without a fault is to make objects of a type that has cells.
use Rattle.std.proofs.Common.{◌≡◌, ℕ, ◌+◌, ◌≤◌, Bool, true, false, not, ◌&&◌, List, [], ◌∷◌, ◌++◌, length, Option, Some, None, is_some, sym, subst, arith, true≢false}
use Rattle.rr_base.specs.declared.layout.CellKind.{CellKind}
use Rattle.word_semantics.specs.Layouts.{layout_fits}
use Rattle.rr_base.specs.Texts.{Text}
use Rattle.c_tree.specs.Tree.{Exp, comma, assign, conditional, binary, prefix, sizeof_exp, sizeof_type, cast, index, member, arrow, post_increment, post_decrement, named, call, number, letter, text, null, paren, Exps, no_exp, and_exp, Init, value, braces, mutex_start, cond_start, rwlock_start, Inits, no_init, and_init}
use Rattle.rr_base.specs.declared.position.Position.{Position}
use Rattle.c_types.specs.declared.types.BaseType.{BaseType}
use Rattle.c_types.specs.declared.types.Layer.{Layer}
use Rattle.c_types.specs.declared.types.Layer.TheVariants as layer
use Rattle.c_types.specs.declared.types.ObjectType.{ObjectType}
use Rattle.c_types.specs.declared.library.Wanted.{Wanted}
use Rattle.c_types.specs.declared.library.Wanted.TheVariants as wants
use Rattle.c_types.specs.declared.library.LibraryName.{LibraryName}
use Rattle.c_types.specs.declared.library.LibraryName.TheVariants as library
use Rattle.c_types.specs.declared.fault.FaultKind.TheVariants as fault
use Rattle.c_types.specs.declared.fault.Found.{Found}
use Rattle.c_types.specs.Found.{where_it_comes}
use Rattle.c_types.specs.Types.{layered_kinds}
use Rattle.c_types.specs.Scopes.{Known, Meaning, seen, type_named}
use Rattle.c_types.specs.Operands.{operand_of, takes}
use Rattle.c_types.specs.Library.{library_named}
use Rattle.c_types.specs.Standing.{Target, no_target, some_target, target_of, assigned_target, cast_target, is_sized, casts_to, can_cast, can_index, struct_of, pointed_struct, format_of, is_text, standing}
use Rattle.c_rules.specs.Faults.{mismatch, specifier_faults, member_faults, count_of, count_faults, begins_with_text, wants_of, has_no_target, unseen_call_faults, callee_faults, format_faults, argument_faults, is_judged, is_named, where_judged, one_argument_faults, condition_takes, go_faults, step_faults, place_of_first, cast_faults, assign_faults, prefix_faults, call_faults, faults, rest_faults, arguments_faults, expression_faults}
use Rattle.c_rules.specs.Sizes.{constant_faults, length_faults, is_short_length}
use Rattle.c_programs.specs.Declarators.{lengths_faults}
use Rattle.c_programs.specs.Initials.{starts_as, part_at, part_type, where_global, global_value_faults, initial_faults, inits_faults}
use Rattle.c_spots.specs.Spots.{Spot, type_of_target, is_malloc_call, is_malloc, where_malloc, allocations, all_allocations, lengths_allocations, initial_allocations, initials_allocations}
use Rattle.c_sites.specs.Sites.{layout_by}
use Rattle.std.specs.Prelude.{is_none}
use Rattle.source_sound.proofs.Environment.{IsFormed}
use Rattle.source_sound.proofs.FileLists.{append_nil, nil3, nil4, where_nil}
use Rattle.source_sound.proofs.Structs.{IsWithin, formed_within, AreSmall, small_base, layout_good}
use Rattle.source_sound.proofs.DeclaredTypes.{ArePointers}
use Rattle.source_sound.proofs.Typing.{IsGoodTarget}
use Rattle.source_sound.proofs.TypedExpressions.{AreTyped, assigned_good, cast_target_good, exp_good}

-- the layouts of the spots fit
abbrev pub AllLaidOut : List (List CellKind) → List Spot → Type 0
AllLaidOut ks [] = Unit {0}
AllLaidOut ks (x ∷ xs) = (layout_fits (layout_by ks x.of) ≡ true) × AllLaidOut ks xs

module _ (ks : List (List CellKind)) (n : ℕ) (small : AreSmall ks) (size : length ks ≡ n) where
  abbrev Laid : List Spot → Type 0
  Laid xs = AllLaidOut ks xs

  pub laid : (xs ys : List Spot) → Laid xs → Laid ys → Laid (xs ++ ys)
  laid [] ys h g = g
  laid (x ∷ xs) ys h g = (h.0, laid xs ys h.1 g)

  -- ---- targets

  few_cells : (ls : List Layer) (b : BaseType) → ArePointers ls → IsWithin (length ks) ls b → length (layered_kinds ks ls b) ≤ 65535
  few_cells [] b h g = (small_base ks b small g).1
  few_cells (layer.Pointer ∷ ls) b h g = omega arith
  few_cells (layer.Array m ∷ ls) b h g = absurd h

  pub pointers_fit : (t : ObjectType) → IsFormed n t → ArePointers t.layers → layout_fits (layout_by ks (Some t)) ≡ true
  pointers_fit t h g =
      let within = subst (λ m. IsWithin m t.layers t.base) (sym size) (formed_within n t.layers t.base h) in
      layout_good ks t small within (few_cells t.layers t.base g within)

  target_fits : (w : Target) → IsGoodTarget n w → has_no_target w ≡ false → layout_fits (layout_by ks (type_of_target w)) ≡ true
  target_fits no_target h e = absurd (true≢false e)
  target_fits some_target h e = absurd h
  target_fits (target_of t) h e = pointers_fit t h.0 h.1

  -- ---- calls

  library_laid : (c : Option LibraryName) (name : Text) (w : Target) (is_format : Bool) (format : Option ℕ) (many : ℕ) (at : Position) → IsGoodTarget n w → unseen_call_faults c name w is_format format many at ≡ [] → Laid (where_malloc (is_malloc_call c) w at)
  library_laid None name w is_format format many at target h = tt
  library_laid (Some library.Malloc) name w is_format format many at target h = (target_fits w target (where_nil _ _ _ (append_nil (where_it_comes (has_no_target w) fault.OutOfProfile at) (count_faults many 1 at) h).0), tt)
  library_laid (Some library.Create) name w is_format format many at target h = tt
  library_laid (Some library.Join) name w is_format format many at target h = tt
  library_laid (Some library.Exit) name w is_format format many at target h = tt
  library_laid (Some library.SelfNumber) name w is_format format many at target h = tt
  library_laid (Some library.SameThread) name w is_format format many at target h = tt
  library_laid (Some library.MutexInit) name w is_format format many at target h = tt
  library_laid (Some library.MutexLock) name w is_format format many at target h = tt
  library_laid (Some library.MutexUnlock) name w is_format format many at target h = tt
  library_laid (Some library.MutexTryLock) name w is_format format many at target h = tt
  library_laid (Some library.MutexDestroy) name w is_format format many at target h = tt
  library_laid (Some library.CondInit) name w is_format format many at target h = tt
  library_laid (Some library.CondWait) name w is_format format many at target h = tt
  library_laid (Some library.CondSignal) name w is_format format many at target h = tt
  library_laid (Some library.CondBroadcast) name w is_format format many at target h = tt
  library_laid (Some library.CondDestroy) name w is_format format many at target h = tt
  library_laid (Some library.BarrierInit) name w is_format format many at target h = tt
  library_laid (Some library.BarrierWait) name w is_format format many at target h = tt
  library_laid (Some library.BarrierDestroy) name w is_format format many at target h = tt
  library_laid (Some library.RwInit) name w is_format format many at target h = tt
  library_laid (Some library.RwRdLock) name w is_format format many at target h = tt
  library_laid (Some library.RwWrLock) name w is_format format many at target h = tt
  library_laid (Some library.RwUnlock) name w is_format format many at target h = tt
  library_laid (Some library.RwDestroy) name w is_format format many at target h = tt
  library_laid (Some library.Free) name w is_format format many at target h = tt
  library_laid (Some library.GetChar) name w is_format format many at target h = tt
  library_laid (Some library.PrintFormat) name w is_format format many at target h = tt
  library_laid (Some library.PutChar) name w is_format format many at target h = tt
  library_laid (Some library.PutText) name w is_format format many at target h = tt

  malloc_laid : (known : Known) (name : Text) (w : Target) (is_format : Bool) (format : Option ℕ) (many : ℕ) (at : Position) (m : Option Meaning) → IsGoodTarget n w → callee_faults known name w is_format format many at m ≡ [] → Laid (where_malloc (not (is_some m) && is_malloc_call (library_named name)) w at)
  malloc_laid known name w is_format format many at (Some m) target h = tt
  malloc_laid known name w is_format format many at None target h = library_laid (library_named name) name w is_format format many at target h

  module _ (known : Known) (typed : AreTyped n known) where
    -- an argument that is judged has no fault, and another one allocates nothing
    abbrev Judged : Exp → List Found → Type 0
    Judged e own = (own ≡ [] → Laid (allocations known no_target e)) → Laid (allocations known no_target e)

    root_judged : (e : Exp) (own : List Found) → where_judged (not (is_named e)) own ≡ [] → Judged e own
    root_judged (comma a es at) own h rec = rec h
    root_judged (assign a o b at) own h rec = rec h
    root_judged (conditional a b c at) own h rec = rec h
    root_judged (binary a o b at) own h rec = rec h
    root_judged (prefix o a at) own h rec = rec h
    root_judged (sizeof_exp a at) own h rec = rec h
    root_judged (sizeof_type t at) own h rec = rec h
    root_judged (cast t a at) own h rec = rec h
    root_judged (index a b at) own h rec = rec h
    root_judged (member a name at) own h rec = rec h
    root_judged (arrow a name at) own h rec = rec h
    root_judged (post_increment a at) own h rec = rec h
    root_judged (post_decrement a at) own h rec = rec h
    root_judged (named name at) own h rec = tt
    root_judged (call name es at) own h rec = rec h
    root_judged (number z at) own h rec = rec h
    root_judged (letter z at) own h rec = rec h
    root_judged (text bytes at) own h rec = rec h
    root_judged (null at) own h rec = rec h
    root_judged (paren a at) own h rec = rec h

    text_judged : (e : Exp) (own : List Found) → where_judged (not (is_text e)) own ≡ [] → Judged e own
    text_judged (comma a es at) own h rec = rec h
    text_judged (assign a o b at) own h rec = rec h
    text_judged (conditional a b c at) own h rec = rec h
    text_judged (binary a o b at) own h rec = rec h
    text_judged (prefix o a at) own h rec = rec h
    text_judged (sizeof_exp a at) own h rec = rec h
    text_judged (sizeof_type t at) own h rec = rec h
    text_judged (cast t a at) own h rec = rec h
    text_judged (index a b at) own h rec = rec h
    text_judged (member a name at) own h rec = rec h
    text_judged (arrow a name at) own h rec = rec h
    text_judged (post_increment a at) own h rec = rec h
    text_judged (post_decrement a at) own h rec = rec h
    text_judged (named name at) own h rec = rec h
    text_judged (call name es at) own h rec = rec h
    text_judged (number z at) own h rec = rec h
    text_judged (letter z at) own h rec = rec h
    text_judged (text bytes at) own h rec = tt
    text_judged (null at) own h rec = rec h
    text_judged (paren a at) own h rec = rec h

    judged : (x : Wanted) (e : Exp) (own : List Found) → where_judged (is_judged x e) own ≡ [] → Judged e own
    judged (wants.Fits t) e own h rec = rec h
    judged wants.Anything e own h rec = rec h
    judged wants.Attribute e own h rec = rec h
    judged wants.Root e own h rec = root_judged e own h rec
    judged wants.Text e own h rec = text_judged e own h rec

    mutual
      pub exp_laid : (w : Target) → IsGoodTarget n w → (e : Exp) → faults known w e ≡ [] → Laid (allocations known w e)
      exp_laid w target (comma e es at) h =
          let p = nil3 (faults known no_target e) (go_faults (standing known no_target e) e) (rest_faults known es) h in
          laid (allocations known no_target e) (all_allocations known es) (exp_laid no_target tt e p.0) (rest_laid es p.2)
      exp_laid w target (assign a o b at) h =
          let to = assigned_target o (standing known no_target a) in
          let p = nil3 (faults known no_target a) (faults known to b) (assign_faults known o a (standing known no_target a) (operand_of (standing known to b)) at) h in
          laid (allocations known no_target a) (allocations known to b) (exp_laid no_target tt a p.0) (exp_laid to (assigned_good n o (standing known no_target a) (exp_good n known typed no_target tt a p.0)) b p.1)
      exp_laid w target (conditional a b c at) h =
          let p = nil4 (faults known no_target a) (faults known no_target b) (faults known no_target c) (mismatch (not (condition_takes (operand_of (standing known no_target a)) (operand_of (standing known no_target b)) (operand_of (standing known no_target c)))) at) h in
          laid (allocations known no_target a ++ allocations known no_target b) (allocations known no_target c) (laid (allocations known no_target a) (allocations known no_target b) (exp_laid no_target tt a p.0) (exp_laid no_target tt b p.1)) (exp_laid no_target tt c p.2)
      exp_laid w target (binary a o b at) h =
          let p = nil3 (faults known no_target a) (faults known no_target b) (mismatch (not (takes o (operand_of (standing known no_target a)) (operand_of (standing known no_target b)))) at) h in
          laid (allocations known no_target a) (allocations known no_target b) (exp_laid no_target tt a p.0) (exp_laid no_target tt b p.1)
      exp_laid w target (prefix o a at) h = exp_laid no_target tt a (append_nil (faults known no_target a) (prefix_faults known o a (standing known no_target a) at) h).0
      exp_laid w target (sizeof_exp a at) h = exp_laid no_target tt a (append_nil (faults known no_target a) (mismatch (not (is_sized known (standing known no_target a))) at) h).0
      exp_laid w target (sizeof_type t at) h = tt
      exp_laid w target (cast t a at) h =
          let to = cast_target (type_named known t) t.stars in
          let p = append_nil (faults known to a) (cast_faults known t (operand_of (standing known to a)) at) h in
          let q = append_nil (mismatch (not (casts_to (type_named known t) t.stars && can_cast (operand_of (standing known to a)))) at) (specifier_faults known false t.specifier) p.1 in
          exp_laid to (cast_target_good n known t typed.structs q.1) a p.0
      exp_laid w target (index a b at) h =
          let p = nil3 (faults known no_target a) (faults known no_target b) (mismatch (not (can_index (operand_of (standing known no_target a)) (operand_of (standing known no_target b)))) at) h in
          laid (allocations known no_target a) (allocations known no_target b) (exp_laid no_target tt a p.0) (exp_laid no_target tt b p.1)
      exp_laid w target (member a name at) h = exp_laid no_target tt a (append_nil (faults known no_target a) (member_faults known (operand_of (standing known no_target a)) (struct_of (standing known no_target a)) name at) h).0
      exp_laid w target (arrow a name at) h = exp_laid no_target tt a (append_nil (faults known no_target a) (member_faults known (operand_of (standing known no_target a)) (pointed_struct (operand_of (standing known no_target a))) name at) h).0
      exp_laid w target (post_increment a at) h = exp_laid no_target tt a (append_nil (faults known no_target a) (step_faults known a (standing known no_target a) at) h).0
      exp_laid w target (post_decrement a at) h = exp_laid no_target tt a (append_nil (faults known no_target a) (step_faults known a (standing known no_target a) at) h).0
      exp_laid w target (named name at) h = tt
      exp_laid w target (call name es at) h =
          let ws = wants_of known name (format_of es) (seen known name) in
          let p = append_nil (call_faults known w name es at) (arguments_faults known ws at es) h in
          let q = append_nil (callee_faults known name w (begins_with_text es) (format_of es) (count_of es) at (seen known name)) (format_faults (begins_with_text es) (library_named name) (seen known name) (format_of es) (place_of_first es)) p.0 in
          laid (where_malloc (is_malloc known name) w at) (all_allocations known es) (malloc_laid known name w (begins_with_text es) (format_of es) (count_of es) at (seen known name) target q.0) (arguments_laid ws at es p.1)
      exp_laid w target (number z at) h = tt
      exp_laid w target (letter z at) h = tt
      exp_laid w target (text bytes at) h = tt
      exp_laid w target (null at) h = tt
      exp_laid w target (paren a at) h = exp_laid w target a h

      rest_laid : (es : Exps) → rest_faults known es ≡ [] → Laid (all_allocations known es)
      rest_laid no_exp h = tt
      rest_laid (and_exp e es) h =
          let p = nil3 (faults known no_target e) (go_faults (standing known no_target e) e) (rest_faults known es) h in
          laid (allocations known no_target e) (all_allocations known es) (exp_laid no_target tt e p.0) (rest_laid es p.2)

      arguments_laid : (ws : List Wanted) (at : Position) (es : Exps) → arguments_faults known ws at es ≡ [] → Laid (all_allocations known es)
      arguments_laid ws at no_exp h = tt
      arguments_laid [] at (and_exp e es) h =
          let p = append_nil (faults known no_target e) (arguments_faults known [] at es) h in
          laid (allocations known no_target e) (all_allocations known es) (exp_laid no_target tt e p.0) (arguments_laid [] at es p.1)
      arguments_laid (x ∷ ws) at (and_exp e es) h =
          let p = append_nil (one_argument_faults known x at e (faults known no_target e)) (arguments_faults known ws at es) h in
          let q = append_nil (where_judged (is_judged x e) (faults known no_target e)) (argument_faults known x e (standing known no_target e) at) p.0 in
          laid (allocations known no_target e) (all_allocations known es) (judged x e (faults known no_target e) q.0 (λ k. exp_laid no_target tt e k)) (arguments_laid ws at es p.1)

    pub lengths_laid : (at : Position) (es : List Exp) → lengths_faults known at es ≡ [] → Laid (lengths_allocations known es)
    lengths_laid at [] h = tt
    lengths_laid at (e ∷ es) h =
        let p = append_nil (length_faults known at e) (lengths_faults known at es) h in
        let q = nil3 (expression_faults known e) (constant_faults known e) (mismatch (is_short_length known e) at) p.0 in
        laid (allocations known no_target e) (lengths_allocations known es) (exp_laid no_target tt e q.0) (lengths_laid at es p.1)

    mutual
      pub initial_laid : (is_global : Bool) (w : Target) → IsGoodTarget n w → (t : Option ObjectType) (at : Position) (i : Init) → initial_faults known is_global w t at i ≡ [] → Laid (initial_allocations known w i)
      initial_laid is_global w target t at (value e) h = exp_laid w target e (nil3 (faults known w e) (mismatch (not (starts_as t (operand_of (standing known w e)))) at) (where_global is_global (global_value_faults known t e)) h).0
      initial_laid is_global w target t at (braces is trailing here') h = initials_laid is_global t 0 at is h
      initial_laid is_global w target t at (mutex_start here') h = tt
      initial_laid is_global w target t at (cond_start here') h = tt
      initial_laid is_global w target t at (rwlock_start here') h = tt

      initials_laid : (is_global : Bool) (t : Option ObjectType) (k : ℕ) (at : Position) (is : Inits) → inits_faults known is_global t k at is ≡ [] → Laid (initials_allocations known is)
      initials_laid is_global t k at no_init h = tt
      initials_laid is_global t k at (and_init i is) h =
          let p = nil3 (initial_faults known is_global no_target (part_type (part_at known t k)) at i) (mismatch (is_none (part_at known t k)) at) (inits_faults known is_global t (k + 1) at is) h in
          laid (initial_allocations known no_target i) (initials_allocations known is) (initial_laid is_global no_target tt (part_type (part_at known t k)) at i p.0) (initials_laid is_global t (k + 1) at is p.2)
