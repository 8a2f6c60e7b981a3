-- What is held by no global: allocations, and the locals and formals of functions. They have no global cells.
use Rattle.std.proofs.Common.{◌≡◌, ℕ, ◌+◌, Bool, true, false, List, [], ◌∷◌, ◌++◌, length, Option, Some, None, refl, sym, ap, ap₂, ◌∙◌, append_assoc}
use Rattle.rr_base.specs.declared.layout.CellKind.{CellKind}
use Rattle.rr_base.specs.Texts.{Text}
use Rattle.c_tree.specs.declared.name.Name.{Name}
use Rattle.c_tree.specs.declared.ctype.Specifier.{Specifier}
use Rattle.c_tree.specs.Tree.{Formal, Exp, comma, assign, conditional, binary, prefix, sizeof_exp, sizeof_type, cast, index, member, arrow, post_increment, post_decrement, named, call, number, letter, text, null, paren, Exps, no_exp, and_exp, Declared, Init, value, braces, mutex_start, cond_start, rwlock_start, Inits, no_init, and_init, Object, plain, initialised, Declares, declares, Start, start_declares, start_computes, Statement, block, compute, break_at, continue_at, gives, branch, branch_else, while_loop, do_loop, for_loop, Parts, no_part, and_declares, and_does, Code, defined, prototype, Fields, fields}
use Rattle.rr_base.specs.declared.position.Position.{Position}
use Rattle.c_types.specs.Scopes.{Known, type_named, opened}
use Rattle.c_types.specs.Standing.{Target, no_target, assigned_target, cast_target, standing}
use Rattle.c_names.specs.Sources.{declared_name, declared_by, param_name}
use Rattle.c_programs.specs.Declarators.{declared_type, param_type, after_param, after_params}
use Rattle.c_programs.specs.Initials.{value_target}
use Rattle.c_programs.specs.Statements.{after_declared, after_declares, after_start}
use Rattle.c_locals.specs.Addresses.{count_of_locals, count_of_start, count_of_declares}
use Rattle.c_locals.specs.Kept.{is_kept_formal, is_kept_declared}
use Rattle.c_spots.specs.Spots.{Holder, a_global, a_local, an_allocation, Spot, spot_named, where_malloc, is_malloc, allocations, all_allocations, maybe_allocations, lengths_allocations, initial_allocations, initials_allocations, where_kept, Where, in_function, is_cell_in, declared_lengths, declared_spots, object_spots, objects_spots, declares_spots, start_spots, for_spots, statement_spots, parts_spots, members_allocations, fields_allocations, formal_spot, formals_spots, code_spots}
use Rattle.c_sites.specs.Sites.{site_of}
use Rattle.c_globals.specs.Globals.{holder_kinds}
use Rattle.source_sound.proofs.Homes.{kinds_in}

abbrev pub IsOther : Holder → Type 0
IsOther (a_global name) = ⊥
IsOther (a_local f name) = Unit {0}
IsOther an_allocation = Unit {0}

abbrev pub AreOthers : List Spot → Type 0
AreOthers [] = Unit {0}
AreOthers (x ∷ xs) = IsOther x.holder × AreOthers xs

pub others : (xs ys : List Spot) → AreOthers xs → AreOthers ys → AreOthers (xs ++ ys)
others [] ys h g = g
others (x ∷ xs) ys h g = (h.0, others xs ys h.1 g)

-- ---- cells

module _ (ks : List (List CellKind)) where
  pub kinds_parts : (xs ys : List Spot) → kinds_in ks (xs ++ ys) ≡ kinds_in ks xs ++ kinds_in ks ys
  kinds_parts [] ys = refl
  kinds_parts (x ∷ xs) ys = ap (λ zs. holder_kinds x.holder (site_of ks x).layout.kinds ++ zs) (kinds_parts xs ys) ∙ sym (append_assoc (holder_kinds x.holder (site_of ks x).layout.kinds) (kinds_in ks xs) (kinds_in ks ys))

  no_kinds : (h : Holder) (cells : List CellKind) → IsOther h → holder_kinds h cells ≡ []
  no_kinds (a_global name) cells h = absurd h
  no_kinds (a_local f name) cells h = refl
  no_kinds an_allocation cells h = refl

  pub others_kinds : (xs : List Spot) → AreOthers xs → kinds_in ks xs ≡ []
  others_kinds [] h = refl
  others_kinds (x ∷ xs) h = ap₂ (λ a b. a ++ b) (no_kinds x.holder (site_of ks x).layout.kinds h.0) (others_kinds xs h.1)

-- ---- expressions

malloc_other : (b : Bool) (w : Target) (at : Position) → AreOthers (where_malloc b w at)
malloc_other true w at = (tt, tt)
malloc_other false w at = tt

mutual
  pub exp_others : (known : Known) (w : Target) (e : Exp) → AreOthers (allocations known w e)
  exp_others known w (comma e es at) = others (allocations known no_target e) (all_allocations known es) (exp_others known no_target e) (exps_others known es)
  exp_others known w (assign a op b at) = others (allocations known no_target a) (allocations known (assigned_target op (standing known no_target a)) b) (exp_others known no_target a) (exp_others known (assigned_target op (standing known no_target a)) b)
  exp_others known w (conditional a b c at) = others (allocations known no_target a ++ allocations known no_target b) (allocations known no_target c) (others (allocations known no_target a) (allocations known no_target b) (exp_others known no_target a) (exp_others known no_target b)) (exp_others known no_target c)
  exp_others known w (binary a op b at) = others (allocations known no_target a) (allocations known no_target b) (exp_others known no_target a) (exp_others known no_target b)
  exp_others known w (prefix op a at) = exp_others known no_target a
  exp_others known w (sizeof_exp a at) = exp_others known no_target a
  exp_others known w (sizeof_type t at) = tt
  exp_others known w (cast t a at) = exp_others known (cast_target (type_named known t) t.stars) a
  exp_others known w (index a b at) = others (allocations known no_target a) (allocations known no_target b) (exp_others known no_target a) (exp_others known no_target b)
  exp_others known w (member a name at) = exp_others known no_target a
  exp_others known w (arrow a name at) = exp_others known no_target a
  exp_others known w (post_increment a at) = exp_others known no_target a
  exp_others known w (post_decrement a at) = exp_others known no_target a
  exp_others known w (named name at) = tt
  exp_others known w (call name es at) = others (where_malloc (is_malloc known name) w at) (all_allocations known es) (malloc_other (is_malloc known name) w at) (exps_others known es)
  exp_others known w (number n at) = tt
  exp_others known w (letter n at) = tt
  exp_others known w (text bytes at) = tt
  exp_others known w (null at) = tt
  exp_others known w (paren a at) = exp_others known w a

  pub exps_others : (known : Known) (es : Exps) → AreOthers (all_allocations known es)
  exps_others known no_exp = tt
  exps_others known (and_exp e es) = others (allocations known no_target e) (all_allocations known es) (exp_others known no_target e) (exps_others known es)

maybe_others : (known : Known) (e : Option Exp) → AreOthers (maybe_allocations known e)
maybe_others known None = tt
maybe_others known (Some e) = exp_others known no_target e

pub lengths_others : (known : Known) (es : List Exp) → AreOthers (lengths_allocations known es)
lengths_others known [] = tt
lengths_others known (e ∷ es) = others (allocations known no_target e) (lengths_allocations known es) (exp_others known no_target e) (lengths_others known es)

mutual
  pub initial_others : (known : Known) (w : Target) (i : Init) → AreOthers (initial_allocations known w i)
  initial_others known w (value e) = exp_others known w e
  initial_others known w (braces is trailing at) = initials_others known is
  initial_others known w (mutex_start at) = tt
  initial_others known w (cond_start at) = tt
  initial_others known w (rwlock_start at) = tt

  initials_others : (known : Known) (is : Inits) → AreOthers (initials_allocations known is)
  initials_others known no_init = tt
  initials_others known (and_init i is) = others (initial_allocations known no_target i) (initials_allocations known is) (initial_others known no_target i) (initials_others known is)

-- ---- structs

members_others : (known : Known) (ds : List Declared) → AreOthers (members_allocations known ds)
members_others known [] = tt
members_others known (d ∷ ds) = others (lengths_allocations known (declared_lengths d)) (members_allocations known ds) (lengths_others known (declared_lengths d)) (members_others known ds)

pub fields_others : (known : Known) (fs : List Fields) → AreOthers (fields_allocations known fs)
fields_others known [] = tt
fields_others known (fields s ds at ∷ fs) = others (members_allocations known ds) (fields_allocations known fs) (members_others known ds) (fields_others known fs)

-- ---- functions

module _ (f : Text) (ns : List ℕ) where
  abbrev within : Where
  within = in_function f ns

  kept_other : (b : Bool) (name : Text) (at : Name) (t : Option _) → AreOthers (where_kept b (spot_named (a_local f name) at t))
  kept_other true name at t = (tt, tt)
  kept_other false name at t = tt

  declared_others : (known : Known) (n : ℕ) (s : Specifier) (d : Declared) → AreOthers (declared_spots within known n s d)
  declared_others known n s d = others (where_kept (is_cell_in within n (is_kept_declared s d)) (spot_named (a_local f (declared_name d).text) (declared_name d) (declared_type known s d))) (lengths_allocations known (declared_lengths d)) (kept_other (is_cell_in within n (is_kept_declared s d)) (declared_name d).text (declared_name d) (declared_type known s d)) (lengths_others known (declared_lengths d))

  object_others : (known : Known) (n : ℕ) (s : Specifier) (o : Object) → AreOthers (object_spots within known n s o)
  object_others known n s (plain d) = declared_others known n s d
  object_others known n s (initialised d i at) = others (declared_spots within known n s d) (initial_allocations (after_declared known false s d) (value_target (declared_type known s d)) i) (declared_others known n s d) (initial_others (after_declared known false s d) (value_target (declared_type known s d)) i)

  objects_others : (known : Known) (n : ℕ) (s : Specifier) (os : List Object) → AreOthers (objects_spots within known n s os)
  objects_others known n s [] = tt
  objects_others known n s (o ∷ os) = others (object_spots within known n s o) (objects_spots within (after_declared known false s (declared_by o)) (n + 1) s os) (object_others known n s o) (objects_others (after_declared known false s (declared_by o)) (n + 1) s os)

  declares_others : (known : Known) (n : ℕ) (d : Declares) → AreOthers (declares_spots within known n d)
  declares_others known n (declares s os at) = objects_others known n s os

  start_others : (known : Known) (n : ℕ) (s : Start) → AreOthers (start_spots within known n s)
  start_others known n (start_declares d) = declares_others known n d
  start_others known n (start_computes e) = maybe_others known e

  mutual
    statement_others : (known : Known) (n : ℕ) (s : Statement) → AreOthers (statement_spots within known n s)
    statement_others known n (block ps at) = parts_others (opened known) n ps
    statement_others known n (compute e at) = maybe_others known e
    statement_others known n (break_at at) = tt
    statement_others known n (continue_at at) = tt
    statement_others known n (gives e at) = maybe_others known e
    statement_others known n (branch e a at) = others (allocations known no_target e) (statement_spots within known n a) (exp_others known no_target e) (statement_others known n a)
    statement_others known n (branch_else e a b at) = others (allocations known no_target e ++ statement_spots within known n a) (statement_spots within known (n + count_of_locals a) b) (others (allocations known no_target e) (statement_spots within known n a) (exp_others known no_target e) (statement_others known n a)) (statement_others known (n + count_of_locals a) b)
    statement_others known n (while_loop e a at) = others (allocations known no_target e) (statement_spots within known n a) (exp_others known no_target e) (statement_others known n a)
    statement_others known n (do_loop a e at) = others (statement_spots within known n a) (allocations known no_target e) (statement_others known n a) (exp_others known no_target e)
    statement_others known n (for_loop start test next a at) =
        let k = after_start (opened known) start in
        let head = others (start_spots within (opened known) n start) (maybe_allocations k test) (start_others (opened known) n start) (maybe_others k test) in
        others (for_spots within (opened known) n start test next) (statement_spots within k (n + count_of_start start) a)
        (others (start_spots within (opened known) n start ++ maybe_allocations k test) (maybe_allocations k next) head (maybe_others k next))
        (statement_others k (n + count_of_start start) a)

    parts_others : (known : Known) (n : ℕ) (ps : Parts) → AreOthers (parts_spots within known n ps)
    parts_others known n no_part = tt
    parts_others known n (and_declares d ps) = others (declares_spots within known n d) (parts_spots within (after_declares known d) (n + count_of_declares d) ps) (declares_others known n d) (parts_others (after_declares known d) (n + count_of_declares d) ps)
    parts_others known n (and_does s ps) = others (statement_spots within known n s) (parts_spots within known (n + count_of_locals s) ps) (statement_others known n s) (parts_others known (n + count_of_locals s) ps)

  formal_others : (known : Known) (n : ℕ) (p : Formal) (o : Option Name) → AreOthers (formal_spot within known n p o)
  formal_others known n p None = tt
  formal_others known n p (Some name) = kept_other (is_cell_in within n (is_kept_formal p)) name.text name (param_type known p)

  formals_others : (known : Known) (n : ℕ) (ps : List Formal) → AreOthers (formals_spots within known n ps)
  formals_others known n [] = tt
  formals_others known n (p ∷ ps) = others (formal_spot within known n p (param_name p)) (formals_spots within (after_param known p) (n + 1) ps) (formal_others known n p (param_name p)) (formals_others (after_param known p) (n + 1) ps)

  pub code_others : (known : Known) (n : ℕ) (ps : List Formal) (code : Code) → AreOthers (code_spots within known n ps code)
  code_others known n ps prototype = tt
  code_others known n ps (defined parts at) = others (formals_spots within (opened known) n ps) (parts_spots within (after_params (opened known) ps) (n + length ps) parts) (formals_others (opened known) n ps) (parts_others (after_params (opened known) ps) (n + length ps) parts)
