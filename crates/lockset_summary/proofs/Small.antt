-- Cells and offsets of the paths that functions know are small.
use Rattle.std.proofs.Common.{◌≡◌, ℕ, zero, suc, ◌+◌, ◌<◌, ◌≤◌, Bool, true, false, ◌&&◌, List, [], ◌∷◌, refl, ap, ◌∙◌, subst, arith, nat_lt, nat_le, Option, Some, None, ℤ, pos, negsuc, ◌+ℤ◌, ◌*ℤ◌}
use Rattle.std.specs.Prelude.{if◌then◌else◌, slice_get}
use Rattle.std.proofs.lemmas.Bool.{and_from}
use Rattle.std.proofs.lemmas.Option.{same_Some}
use Rattle.rr_base.specs.Words.{base_of}
use Rattle.flow_code.specs.declared.act.Act.{Act}
use Rattle.flow_code.specs.declared.act.Act.TheVariants as act
use Rattle.flow_code.specs.declared.act.Instr.{Instr}
use Rattle.flow_code.specs.declared.code.Code.{Code}
use Rattle.flow_code.specs.declared.code.Function.{Function}
use Rattle.flow_code.specs.declared.work.Work.{Work}
use Rattle.flow_code.specs.declared.work.Work.TheVariants as work
use Rattle.flow_code.specs.Next.{act_in}
use Rattle.word_semantics.specs.Pointers.{directed}
use Rattle.facts.specs.Blocks.{begins_block, assigns, constant_at}
use Rattle.facts.specs.declared.locks.Held.{Held}
use Rattle.facts.specs.declared.locks.LockPath.{LockPath}
use Rattle.facts.specs.declared.locks.LockPath.TheVariants.{Cell, Formal}
use Rattle.facts.specs.declared.locks.Naming.{Naming}
use Rattle.facts.specs.declared.locks.Naming.TheVariants.{Unknown, Nowhere, Named}
use Rattle.facts.specs.Paths.{Root, global, formal, Known, is_never_assigned, known_formal, at_cells, known_on, known_on_by, known_of, known_at, most_cells, path_to, naming_of, naming_at, names_cell, actual_of, following, substituted, is_small, are_small, is_small_actual, are_small_actuals}
use Rattle.facts.specs.declared.locks.Minus.{Minus}
use Rattle.facts.specs.declared.locks.Minus.TheVariants.{All, Listed}
use Rattle.facts.specs.declared.locks.RelLocks.{RelLocks}
use Rattle.facts.specs.Locks.{has, has_held, actuals_at, minus_is_small, held_are_small, locks_are_small}
use Rattle.facts.specs.Summaries.{lock_naming, naming_in, lock_register, Knows, own, called}
use Rattle.lockset_summary.specs.Exits.{IsMinusKnown, AreLocksKnown}
use Rattle.facts.proofs.TotalOrders.{orders_paths, orders_held}
use Rattle.lockset_summary.proofs.Sets.{has_first, has_later}

-- ---- what a register is known to hold

abbrev pub IsNearRoot : Root → Type 0
IsNearRoot (global c) = c < 4194304
IsNearRoot (formal i) = Unit {0}

abbrev pub IsNearKnown : Option Known → Type 0
IsNearKnown None = Unit {0}
IsNearKnown (Some k) = IsNearRoot k.root

near_base : (w : ℕ) → base_of w < 4194304
near_base w = omega arith

near_cells : (r : Root) (z : ℤ) → IsNearRoot r → IsNearKnown (at_cells r z)
near_cells r (pos n) h = h
near_cells r (negsuc n) h = tt

near_on : (o : Option Known) (z : ℤ) → IsNearKnown o → IsNearKnown (known_on o z)
near_on None z h = tt
near_on (Some k) z h = near_cells k.root (pos k.cells +ℤ z) h

near_on_by : (o : Option Known) (z : Option ℤ) (element : ℕ) (back : Bool) → IsNearKnown o → IsNearKnown (known_on_by o z element back)
near_on_by o None element back h = tt
near_on_by o (Some z) element back h = near_on o (directed back z *ℤ pos element) h

near_work : (before : ℕ → Option Known) (constant : ℕ → Option ℤ) (into : ℕ) (w : Work) → ((q : ℕ) → IsNearKnown (before q)) → IsNearKnown (known_of before constant (Some (act.Compute into w)))
near_work before constant into (work.Address w) h = near_base w
near_work before constant into (work.Copy r) h = h r
near_work before constant into (work.Member r by) h = near_on (before r) (pos by) (h r)
near_work before constant into (work.Move r by element back) h = near_on_by (before r) (constant by) element back (h r)
near_work before constant into (work.Constant z) h = tt
near_work before constant into (work.Minus r) h = tt
near_work before constant into (work.Complement r) h = tt
near_work before constant into (work.Not r) h = tt
near_work before constant into (work.Binary o l r) h = tt
near_work before constant into (work.Between l r e) h = tt
near_work before constant into (work.ToPointer r) h = tt
near_work before constant into (work.ToNumber r) h = tt

near_of : (before : ℕ → Option Known) (constant : ℕ → Option ℤ) (o : Option Act) → ((q : ℕ) → IsNearKnown (before q)) → IsNearKnown (known_of before constant o)
near_of before constant None h = tt
near_of before constant (Some (act.Compute into w)) h = near_work before constant into w h
near_of before constant (Some (act.Alloc into site size)) h = tt
near_of before constant (Some (act.LoadCell into through)) h = tt
near_of before constant (Some (act.StoreCell through from)) h = tt
near_of before constant (Some act.Mark) h = tt
near_of before constant (Some (act.Call g arguments into)) h = tt
near_of before constant (Some (act.Library c arguments into)) h = tt
near_of before constant (Some (act.Jump to)) h = tt
near_of before constant (Some (act.Branch on then_at else_at)) h = tt
near_of before constant (Some (act.Return value)) h = tt
near_of before constant (Some (act.Take n)) h = tt
near_of before constant (Some (act.Give n)) h = tt

near_formal : (formals : ℕ) (is : List Instr) (r : ℕ) → IsNearKnown (known_formal formals is r)
near_formal formals is r = go (nat_lt r formals && is_never_assigned is r)
  where
    go : (b : Bool) → IsNearKnown (if b then Some (record { root = formal r; cells = 0 }) else None)
    go true = tt
    go false = tt

near_at : (formals : ℕ) (is : List Instr) (k r : ℕ) → IsNearKnown (known_at formals is k r)
near_at formals is zero r = near_formal formals is r
near_at formals is (suc k) r = go (begins_block is (suc k)) (assigns r (act_in (slice_get is k))) (near_of (λ q. known_at formals is k q) (λ q. constant_at is k q) (act_in (slice_get is k)) (λ q. near_at formals is k q)) (near_at formals is k r)
  where
    go : (a b : Bool) → IsNearKnown (known_of (λ q. known_at formals is k q) (λ q. constant_at is k q) (act_in (slice_get is k))) → IsNearKnown (known_at formals is k r) → IsNearKnown (if a then known_formal formals is r else if b then known_of (λ q. known_at formals is k q) (λ q. constant_at is k q) (act_in (slice_get is k)) else known_at formals is k r)
    go true b x y = near_formal formals is r
    go false true x y = x
    go false false x y = y

-- ---- paths

-- a path that a function names: its cell is a global one, or no object has as many cells
abbrev pub IsNear : LockPath → Type 0
IsNear (Cell c) = c < 4259840
IsNear (Formal i n) = n ≤ 65535

-- a path that a function knows
abbrev pub IsModest : LockPath → Type 0
IsModest (Cell c) = c < 8388608
IsModest (Formal i n) = n ≤ 65535

near_path : (r : Root) (n : ℕ) → IsNearRoot r → n ≤ 65535 → IsNear (path_to r n)
near_path (global c) n h k = omega arith
near_path (formal i) n h k = k

named : (p q : LockPath) → Named p ≡ Named q → p ≡ q
named p q h = cc

near_naming : (o : Option Known) (p : LockPath) → IsNearKnown o → naming_of o ≡ Named p → IsNear p
near_naming None p h e = cc
near_naming (Some k) p h e = go (nat_le k.cells most_cells) refl e
  where
    few : (n : ℕ) → nat_le n 65535 ≡ true → n ≤ 65535
    few n h = grind (arith, h)

    go : (b : Bool) → nat_le k.cells most_cells ≡ b → (if b then Named (path_to k.root k.cells) else Nowhere) ≡ Named p → IsNear p
    go true c x = subst IsNear (named (path_to k.root k.cells) p x) (near_path k.root k.cells h (few k.cells c))
    go false c x = cc

pub near_named : (f : Function) (k r : ℕ) (p : LockPath) → naming_at f k r ≡ Named p → IsNear p
near_named f k r p h = near_naming (known_at f.formals f.instrs k r) p (near_at f.formals f.instrs k r) h

modest_near : (p : LockPath) → IsNear p → IsModest p
modest_near (Cell c) h = omega arith
modest_near (Formal i n) h = h

-- ---- arguments

-- what is handed over for a formal
abbrev pub IsNearActual : Option LockPath → Type 0
IsNearActual None = Unit {0}
IsNearActual (Some (Cell c)) = c < 4259840
IsNearActual (Some (Formal i n)) = n ≤ 65536

near_path_actual : (p : LockPath) → IsNear p → IsNearActual (Some p)
near_path_actual (Cell c) h = h
near_path_actual (Formal i n) h = omega arith

near_actual : (n : Naming) → ((p : LockPath) → n ≡ Named p → IsNear p) → IsNearActual (actual_of n)
near_actual Unknown h = tt
near_actual Nowhere h = omega arith
near_actual (Named p) h = near_path_actual p (h p refl)

pub near_actuals : (f : Function) (k : ℕ) (arguments : List ℕ) (i : ℕ) (o : Option LockPath) → slice_get (actuals_at f k arguments) i ≡ Some o → IsNearActual o
near_actuals f k [] i o h = cc
near_actuals f k (r ∷ rs) zero o h = subst IsNearActual (same_Some (actual_of (naming_at f k r)) o h) (near_actual (naming_at f k r) (near_named f k r))
near_actuals f k (r ∷ rs) (suc i) o h = near_actuals f k rs i o h

modest_after : (n : ℕ) (o : Option (Option LockPath)) (q : LockPath) → n ≤ 65535 → ((a : Option LockPath) → o ≡ Some a → IsNearActual a) → following n o ≡ Some q → names_cell q ≡ true → IsModest q
modest_after n None q h f e c = cc
modest_after n (Some None) q h f e c = cc
modest_after n (Some (Some (Cell b))) q h f e c = subst IsModest (same_Some (Cell (b + n)) q e) (cell b (f (Some (Cell b)) refl))
  where
    cell : (b : ℕ) → b < 4259840 → b + n < 8388608
    cell b l = omega arith
modest_after n (Some (Some (Formal i m))) q h f e c = subst IsModest (same_Some (Formal i (m + n)) q e) (few (m + n) (ap names_cell (same_Some (Formal i (m + n)) q e) ∙ c))
  where
    few : (x : ℕ) → nat_le x 65535 ≡ true → x ≤ 65535
    few x g = grind (arith, g)

modest_substituted : (p q : LockPath) (f : Function) (k : ℕ) (arguments : List ℕ) → IsModest p → substituted p (actuals_at f k arguments) ≡ Some q → names_cell q ≡ true → IsModest q
modest_substituted (Cell c) q f k arguments h e n = subst IsModest (same_Some (Cell c) q e) h
modest_substituted (Formal i m) q f k arguments h e n = modest_after m (slice_get (actuals_at f k arguments) i) q h (λ o g. near_actuals f k arguments i o g) e n

-- ---- what functions know

naming_is : (f : Function) (k : ℕ) (o : Option ℕ) (q : LockPath) → naming_in f k o ≡ Named q → IsNear q
naming_is f k None q h = cc
naming_is f k (Some m) q h = near_named f k m q h

lock_near : (f : Function) (k : ℕ) (a : Act) (q : LockPath) → lock_naming f k a ≡ Named q → IsNear q
lock_near f k (act.Library c arguments into) q h = naming_is f k (lock_register c arguments) q h
lock_near f k (act.Compute into w) q h = cc
lock_near f k (act.Alloc into site size) q h = cc
lock_near f k (act.LoadCell into through) q h = cc
lock_near f k (act.StoreCell through from) q h = cc
lock_near f k act.Mark q h = cc
lock_near f k (act.Call g arguments into) q h = cc
lock_near f k (act.Jump to) q h = cc
lock_near f k (act.Branch on then_at else_at) q h = cc
lock_near f k (act.Return value) q h = cc
lock_near f k (act.Take n) q h = cc
lock_near f k (act.Give n) q h = cc

pub knows_modest : (code : Code) {f : ℕ} {p : LockPath} → Knows code f p → IsModest p
knows_modest code (own f k fn i q at is) = modest_near q (lock_near fn k i.act q is)
knows_modest code (called f k fn i g arguments into p q at is h s n) = modest_substituted p q fn k arguments (knows_modest code h) s n

-- ---- they are small

modest_small : (p : LockPath) → IsModest p → is_small p ≡ true
modest_small (Cell c) h = grind (arith, h)
modest_small (Formal i n) h = grind (arith, h)

all_small : (ps : List LockPath) → ((p : LockPath) → has p ps ≡ true → IsModest p) → are_small ps ≡ true
all_small [] h = refl
all_small (p ∷ ps) h = and_from (is_small p) (are_small ps) (modest_small p (h p (has_first orders_paths p p ps refl))) (all_small ps (λ q k. h q (has_later orders_paths q p ps k)))

held_small : (hs : List Held) → ((h : Held) → has_held h hs ≡ true → IsModest h.path) → held_are_small hs ≡ true
held_small [] f = refl
held_small (h ∷ hs) f = and_from (is_small h.path) (held_are_small hs) (modest_small h.path (f h (has_first orders_held h h hs refl))) (held_small hs (λ k i. f k (has_later orders_held k h hs i)))

small_actual : (o : Option LockPath) → IsNearActual o → is_small_actual o ≡ true
small_actual None h = refl
small_actual (Some (Cell c)) h = grind (arith, h)
small_actual (Some (Formal i n)) h = grind (arith, h)

pub small_actuals : (f : Function) (k : ℕ) (arguments : List ℕ) → are_small_actuals (actuals_at f k arguments) ≡ true
small_actuals f k [] = refl
small_actuals f k (r ∷ rs) = and_from (is_small_actual (actual_of (naming_at f k r))) (are_small_actuals (actuals_at f k rs)) (small_actual (actual_of (naming_at f k r)) (near_actual (naming_at f k r) (near_named f k r))) (small_actuals f k rs)

pub known_small : (code : Code) (f : ℕ) (p : LockPath) → Knows code f p → is_small p ≡ true
known_small code f p h = modest_small p (knows_modest code h)

small_minus : (code : Code) (f : ℕ) (m : Minus) → IsMinusKnown code f m → minus_is_small m ≡ true
small_minus code f All h = refl
small_minus code f (Listed ps) h = all_small ps (λ p k. knows_modest code (h p k))

pub locks_small : (code : Code) (f : ℕ) (l : RelLocks) → AreLocksKnown code f l → locks_are_small l ≡ true
locks_small code f l h = and_from (held_are_small l.plus) (minus_is_small l.minus) (held_small l.plus (λ p k. knows_modest code (h.plus p k))) (small_minus code f l.minus h.minus)
