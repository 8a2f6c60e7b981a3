-- Sizes: the names of locks lead to few cells behind their root, and so do the locks after an instruction.
use Rattle.std.proofs.Common.{◌≡◌, ℕ, zero, suc, ◌+◌, ◌^◌, ◌<◌, ◌≤◌, Bool, true, false, not, List, [], ◌∷◌, map, refl, subst, arith, Option, Some, None, ℤ, pos, negsuc, nat_lt, nat_le}
use Rattle.std.specs.Prelude.{◌||◌, ◌&&◌, ◌+ℤ◌, ◌*ℤ◌, if◌then◌else◌, slice_get}
use Rattle.std.specs.List.{list_all}
use Rattle.rr_base.specs.Words.{base_of}
use Rattle.flow_code.specs.declared.act.Act.{Act}
use Rattle.flow_code.specs.declared.act.Act.TheVariants as act
use Rattle.flow_code.specs.declared.act.Instr.{Instr}
use Rattle.word_semantics.specs.declared.library_call.LibraryCall.{LibraryCall}
use Rattle.word_semantics.specs.declared.library_call.LibraryCall.TheVariants as call
use Rattle.flow_code.specs.declared.code.Function.{Function}
use Rattle.flow_code.specs.declared.work.Work.TheVariants as work
use Rattle.std.proofs.lemmas.Option.{same_Some}
use Rattle.flow_code.specs.Next.{act_in}
use Rattle.word_semantics.specs.Pointers.{directed}
use Rattle.sync_objects.specs.declared.mode.Mode.{Mode}
use Rattle.sync_objects.specs.declared.mode.Mode.TheVariants.{Read, Write}
use Rattle.facts.specs.declared.locks.Held.{Held}
use Rattle.facts.specs.declared.locks.LockPath.{LockPath}
use Rattle.facts.specs.declared.locks.LockPath.TheVariants.{Cell, Formal}
use Rattle.facts.specs.declared.locks.Minus.{Minus}
use Rattle.facts.specs.declared.locks.Minus.TheVariants.{All, Listed}
use Rattle.facts.specs.declared.locks.Naming.{Naming}
use Rattle.facts.specs.declared.locks.Naming.TheVariants.{Unknown, Nowhere, Named}
use Rattle.facts.specs.declared.locks.RelLocks.{RelLocks}
use Rattle.facts.specs.Blocks.{begins_block, assigns, constant_at}
use Rattle.facts.specs.Paths.{Root, global, formal, Known, known_on, known_on_by, at_cells, known_of, known_formal, known_at, is_never_assigned, most_cells, path_to, naming_of, naming_at, actual_of, names_cell, following, substituted, is_small, are_small, is_small_actual, are_small_actuals, is_sized, are_sized}
use Rattle.facts.specs.Locks.{is_less, is_same, with, held_less, held_same, with_held, union_held, held_as, taken, is_clear, without, both, locked, unlocked, and_path, and_held, plus_seen, minus_with, listed_seen, minus_seen, through, after_call, minus_is_small, held_are_small, locks_are_small, minus_is_sized, held_are_sized, locks_are_sized}
use Rattle.lockset_flow.specs.Flow.{all_sized}
use Rattle.lockset_flow.specs.Rounds.{library_by, after_by}
use Rattle.lockset_flow.proofs.Meets.{and_both, both_and, all_with, all_union, all_filter, both_sized}

pub all_get : {X : Type 0} (t : X → Bool) (xs : List X) (k : ℕ) (x : X) → list_all t xs ≡ true → slice_get xs k ≡ Some x → t x ≡ true
all_get t [] k x h g = cc
all_get t (y ∷ ys) zero x h g = subst (λ z. t z ≡ true) (same_Some y x g) (and_both (t y) (list_all t ys) h).0
all_get t (y ∷ ys) (suc k) x h g = all_get t ys k x (and_both (t y) (list_all t ys) h).1 g

-- ---- what registers are known to hold

abbrev root_fits : Root → Bool
root_fits (global c) = nat_lt c (2 ^ 22)
root_fits (formal i) = true

abbrev known_fits : Option Known → Bool
known_fits None = true
known_fits (Some k) = root_fits k.root

at_fits : (root : Root) (z : ℤ) → root_fits root ≡ true → known_fits (at_cells root z) ≡ true
at_fits root (pos n) h = h
at_fits root (negsuc n) h = refl

on_fits : (o : Option Known) (z : ℤ) → known_fits o ≡ true → known_fits (known_on o z) ≡ true
on_fits None z h = refl
on_fits (Some k) z h = at_fits k.root (pos k.cells +ℤ z) h

by_fits : (o : Option Known) (z : Option ℤ) (element : ℕ) (back : Bool) → known_fits o ≡ true → known_fits (known_on_by o z element back) ≡ true
by_fits o None element back h = refl
by_fits o (Some z) element back h = on_fits o (directed back z *ℤ pos element) h

base_fits : (w : ℕ) → nat_lt (base_of w) (2 ^ 22) ≡ true
base_fits w = let lt : base_of w < 2 ^ 22 = omega arith in grind (arith, lt)

of_fits : (before : ℕ → Option Known) (constant : ℕ → Option ℤ) (o : Option Act) → ((r : ℕ) → known_fits (before r) ≡ true) → known_fits (known_of before constant o) ≡ true
of_fits before constant None h = refl
of_fits before constant (Some (act.Compute into (work.Address w))) h = base_fits w
of_fits before constant (Some (act.Compute into (work.Copy r))) h = h r
of_fits before constant (Some (act.Compute into (work.Member r by))) h = on_fits (before r) (pos by) (h r)
of_fits before constant (Some (act.Compute into (work.Move r by element back))) h = by_fits (before r) (constant by) element back (h r)
of_fits before constant (Some (act.Compute into (work.Constant z))) h = refl
of_fits before constant (Some (act.Compute into (work.Minus r))) h = refl
of_fits before constant (Some (act.Compute into (work.Complement r))) h = refl
of_fits before constant (Some (act.Compute into (work.Not r))) h = refl
of_fits before constant (Some (act.Compute into (work.Binary o left right))) h = refl
of_fits before constant (Some (act.Compute into (work.Between left right element))) h = refl
of_fits before constant (Some (act.Compute into (work.ToPointer r))) h = refl
of_fits before constant (Some (act.Compute into (work.ToNumber r))) h = refl
of_fits before constant (Some (act.Alloc into site size)) h = refl
of_fits before constant (Some (act.LoadCell into through)) h = refl
of_fits before constant (Some (act.StoreCell through from)) h = refl
of_fits before constant (Some act.Mark) h = refl
of_fits before constant (Some (act.Call g arguments into)) h = refl
of_fits before constant (Some (act.Library c arguments into)) h = refl
of_fits before constant (Some (act.Jump to)) h = refl
of_fits before constant (Some (act.Branch on then_at else_at)) h = refl
of_fits before constant (Some (act.Return value)) h = refl
of_fits before constant (Some (act.Take region)) h = refl
of_fits before constant (Some (act.Give region)) h = refl

formal_fits : (formals : ℕ) (is : List Instr) (r : ℕ) → known_fits (known_formal formals is r) ≡ true
formal_fits formals is r = go (nat_lt r formals && is_never_assigned is r)
  where
    go : (b : Bool) → known_fits (if◌then◌else◌ {A = Option Known} b (Some (record { root = formal r; cells = 0 })) None) ≡ true
    go true = refl
    go false = refl

at_known : (formals : ℕ) (is : List Instr) (k r : ℕ) → known_fits (known_at formals is k r) ≡ true
at_known formals is zero r = formal_fits formals is r
at_known formals is (suc k) r = go (begins_block is (suc k)) (assigns r (act_in (slice_get is k))) (λ q. at_known formals is k q)
  where
    go : (b a : Bool) → ((q : ℕ) → known_fits (known_at formals is k q) ≡ true) → known_fits (if b then known_formal formals is r else if a then known_of (λ q. known_at formals is k q) (λ q. constant_at is k q) (act_in (slice_get is k)) else known_at formals is k r) ≡ true
    go true a h = formal_fits formals is r
    go false true h = of_fits (λ q. known_at formals is k q) (λ q. constant_at is k q) (act_in (slice_get is k)) h
    go false false h = h r

-- ---- names

abbrev pub naming_fits : Naming → Bool
naming_fits Unknown = true
naming_fits Nowhere = true
naming_fits (Named (Cell c)) = nat_lt c (2 ^ 23)
naming_fits (Named (Formal i n)) = nat_le n most_cells

path_fits : (root : Root) (n : ℕ) → root_fits root ≡ true → nat_le n most_cells ≡ true → naming_fits (Named (path_to root n)) ≡ true
path_fits (global c) n h k = let a : c < 2 ^ 22 = grind (arith, h) in let b : n ≤ 65535 = grind (arith, k) in let d : c + n < 2 ^ 23 = omega arith in grind (arith, d)
path_fits (formal i) n h k = k

of_known : (o : Option Known) → known_fits o ≡ true → naming_fits (naming_of o) ≡ true
of_known None h = refl
of_known (Some k) h = go (nat_le k.cells most_cells) refl
  where
    go : (b : Bool) → nat_le k.cells most_cells ≡ b → naming_fits (if b then Named (path_to k.root k.cells) else Nowhere) ≡ true
    go true e = path_fits k.root k.cells h e
    go false e = refl

abbrev pub namings_fit : List Naming → Bool
namings_fit names = list_all naming_fits names

pub names_fit : (f : Function) (k : ℕ) (registers : List ℕ) → namings_fit (map (naming_at f k) registers) ≡ true
names_fit f k [] = refl
names_fit f k (r ∷ rest) = both_and (naming_fits (naming_at f k r)) (namings_fit (map (naming_at f k) rest)) (of_known (known_at f.formals f.instrs k r) (at_known f.formals f.instrs k r)) (names_fit f k rest)

actual_small : (n : Naming) → naming_fits n ≡ true → is_small_actual (actual_of n) ≡ true
actual_small Unknown h = refl
actual_small Nowhere h = refl
actual_small (Named (Cell c)) h = let a : c < 2 ^ 23 = grind (arith, h) in let b : c < 2 ^ 31 = omega arith in grind (arith, b)
actual_small (Named (Formal i n)) h = let a : n ≤ 65535 = grind (arith, h) in let b : n < 2 ^ 31 = omega arith in grind (arith, b)

pub actuals_small : (names : List Naming) → namings_fit names ≡ true → are_small_actuals (map actual_of names) ≡ true
actuals_small [] h = refl
actuals_small (n ∷ ns) h = let r = and_both (naming_fits n) (namings_fit ns) h in both_and (is_small_actual (actual_of n)) (are_small_actuals (map actual_of ns)) (actual_small n r.0) (actuals_small ns r.1)

-- ---- small and sized

sized_small : (p : LockPath) → is_sized p ≡ true → is_small p ≡ true
sized_small (Cell c) h = h
sized_small (Formal i n) h = let a : n ≤ 65535 = grind (arith, h) in let b : n < 2 ^ 31 = omega arith in grind (arith, b)

all_small : (ps : List LockPath) → are_sized ps ≡ true → are_small ps ≡ true
all_small [] h = refl
all_small (p ∷ ps) h = let r = and_both (is_sized p) (are_sized ps) h in both_and (is_small p) (are_small ps) (sized_small p r.0) (all_small ps r.1)

held_small : (hs : List Held) → held_are_sized hs ≡ true → held_are_small hs ≡ true
held_small [] h = refl
held_small (k ∷ ks) h = let r = and_both (is_sized k.path) (held_are_sized ks) h in both_and (is_small k.path) (held_are_small ks) (sized_small k.path r.0) (held_small ks r.1)

minus_small : (m : Minus) → minus_is_sized m ≡ true → minus_is_small m ≡ true
minus_small All h = refl
minus_small (Listed ps) h = all_small ps h

locks_small : (l : RelLocks) → locks_are_sized l ≡ true → locks_are_small l ≡ true
locks_small l h = let r = and_both (held_are_sized l.plus) (minus_is_sized l.minus) h in both_and (held_are_small l.plus) (minus_is_small l.minus) (held_small l.plus r.0) (minus_small l.minus r.1)

pub exits_small : (ls : List RelLocks) → all_sized ls ≡ true → list_all locks_are_small ls ≡ true
exits_small [] h = refl
exits_small (l ∷ ls) h = let r = and_both (locks_are_sized l) (all_sized ls) h in both_and (locks_are_small l) (list_all locks_are_small ls) (locks_small l r.0) (exits_small ls r.1)

-- ---- the locks after an instruction

named_sized : (q : LockPath) → naming_fits (Named q) ≡ true → is_sized q ≡ true
named_sized (Cell c) h = let a : c < 2 ^ 23 = grind (arith, h) in let b : c < 2 ^ 31 = omega arith in grind (arith, b)
named_sized (Formal i n) h = h

with_held_sized : (mode : Mode) (q : LockPath) (hs : List Held) → is_sized q ≡ true → held_are_sized hs ≡ true → held_are_sized (with_held (held_as mode q) hs) ≡ true
with_held_sized mode q hs h s = all_with held_less held_same (λ (k : Held). is_sized k.path) (held_as mode q) hs h s

taken_sized : (mode : Mode) (q : LockPath) (hs : List Held) → is_sized q ≡ true → held_are_sized hs ≡ true → held_are_sized (taken mode q hs) ≡ true
taken_sized Read q hs h s = with_held_sized Read q hs h s
taken_sized Write q hs h s = with_held_sized Write q (with_held (held_as Read q) hs) h (with_held_sized Read q hs h s)

locked_sized : (mode : Mode) (n : Naming) (l : RelLocks) → naming_fits n ≡ true → locks_are_sized l ≡ true → locks_are_sized (locked mode n l) ≡ true
locked_sized mode Unknown l h s = s
locked_sized mode Nowhere l h s = s
locked_sized mode (Named q) l h s = let r = and_both (held_are_sized l.plus) (minus_is_sized l.minus) s in both_and (held_are_sized (taken mode q l.plus)) (minus_is_sized l.minus) (taken_sized mode q l.plus (named_sized q h) r.0) r.1

without_sized : (m : Minus) (hs : List Held) → held_are_sized hs ≡ true → held_are_sized (without m hs) ≡ true
without_sized All hs h = refl
without_sized (Listed qs) hs h = all_filter (λ (k : Held). is_sized k.path) (λ k. is_clear qs k.path) hs h

unlocked_sized : (n : Naming) (l : RelLocks) → naming_fits n ≡ true → locks_are_sized l ≡ true → locks_are_sized (unlocked n l) ≡ true
unlocked_sized Unknown l h s = refl
unlocked_sized Nowhere l h s = s
unlocked_sized (Named q) l h s =
    let r = and_both (held_are_sized l.plus) (minus_is_sized l.minus) s in
    both_and (held_are_sized (without (Listed (q ∷ [])) l.plus)) (minus_is_sized (both l.minus (Listed (q ∷ [])))) (without_sized (Listed (q ∷ [])) l.plus r.0) (both_sized l.minus (Listed (q ∷ [])) r.1 (both_and (is_sized q) true (named_sized q h) refl))

library_sized : (c : LibraryCall) (names : List Naming) (l : RelLocks) → namings_fit names ≡ true → locks_are_sized l ≡ true → locks_are_sized (library_by c names l) ≡ true
library_sized call.MutexLock [] l h s = s
library_sized call.MutexLock (n ∷ []) l h s = locked_sized Write n l (and_both (naming_fits n) true h).0 s
library_sized call.MutexLock (n ∷ m ∷ rest) l h s = s
library_sized call.MutexUnlock [] l h s = s
library_sized call.MutexUnlock (n ∷ []) l h s = unlocked_sized n l (and_both (naming_fits n) true h).0 s
library_sized call.MutexUnlock (n ∷ m ∷ rest) l h s = s
library_sized call.CondWait [] l h s = s
library_sized call.CondWait (n ∷ []) l h s = s
library_sized call.CondWait (n ∷ m ∷ []) l h s = let r = (and_both (naming_fits m) true (and_both (naming_fits n) (namings_fit (m ∷ [])) h).1).0 in locked_sized Write m (unlocked m l) r (unlocked_sized m l r s)
library_sized call.CondWait (n ∷ m ∷ o ∷ rest) l h s = s
library_sized (call.Create g) names l h s = s
library_sized call.Join names l h s = s
library_sized call.Exit names l h s = s
library_sized call.SelfNumber names l h s = s
library_sized call.SameThread names l h s = s
library_sized call.MutexInit names l h s = s
library_sized call.MutexTryLock names l h s = s
library_sized call.MutexDestroy names l h s = s
library_sized call.CondInit names l h s = s
library_sized call.CondSignal names l h s = s
library_sized call.CondDestroy names l h s = s
library_sized call.BarrierInit names l h s = s
library_sized call.BarrierWait names l h s = s
library_sized call.BarrierDestroy names l h s = s
library_sized call.RwInit names l h s = s
library_sized call.RwRdLock [] l h s = s
library_sized call.RwRdLock (n ∷ []) l h s = locked_sized Read n l (and_both (naming_fits n) true h).0 s
library_sized call.RwRdLock (n ∷ m ∷ rest) l h s = s
library_sized call.RwWrLock [] l h s = s
library_sized call.RwWrLock (n ∷ []) l h s = locked_sized Write n l (and_both (naming_fits n) true h).0 s
library_sized call.RwWrLock (n ∷ m ∷ rest) l h s = s
library_sized call.RwUnlock [] l h s = s
library_sized call.RwUnlock (n ∷ []) l h s = unlocked_sized n l (and_both (naming_fits n) true h).0 s
library_sized call.RwUnlock (n ∷ m ∷ rest) l h s = s
library_sized call.RwDestroy names l h s = s
library_sized call.Free names l h s = s
library_sized call.GetChar names l h s = s
library_sized (call.Print format) names l h s = s
library_sized call.PutChar names l h s = s

abbrev actual_fits : Option LockPath → Bool
actual_fits None = true
actual_fits (Some (Cell c)) = nat_lt c (2 ^ 23)
actual_fits (Some (Formal i n)) = true

actuals_fit : (names : List Naming) → namings_fit names ≡ true → list_all actual_fits (map actual_of names) ≡ true
actuals_fit [] h = refl
actuals_fit (n ∷ ns) h = let r = and_both (naming_fits n) (namings_fit ns) h in both_and (actual_fits (actual_of n)) (list_all actual_fits (map actual_of ns)) (one n r.0) (actuals_fit ns r.1)
  where
    one : (n : Naming) → naming_fits n ≡ true → actual_fits (actual_of n) ≡ true
    one Unknown h = refl
    one Nowhere h = refl
    one (Named (Cell c)) h = h
    one (Named (Formal i n)) h = refl

-- a path that can lead to a cell is sized
abbrev seen_fits : Option LockPath → Bool
seen_fits None = true
seen_fits (Some q) = not (names_cell q) || is_sized q

not_or : (b : Bool) → (not b || b) ≡ true
not_or true = refl
not_or false = refl

substituted_fits : (actuals : List (Option LockPath)) (p : LockPath) → list_all actual_fits actuals ≡ true → is_sized p ≡ true → seen_fits (substituted p actuals) ≡ true
substituted_fits actuals (Cell c) h s = s
substituted_fits actuals (Formal i n) h s = go (slice_get actuals i) refl
  where
    go : (o : Option (Option LockPath)) → slice_get actuals i ≡ o → seen_fits (following n o) ≡ true
    go None e = refl
    go (Some None) e = refl
    go (Some (Some (Cell c))) e =
        let f : nat_lt c (2 ^ 23) ≡ true = all_get actual_fits actuals i (Some (Cell c)) h e in
        let a : c < 2 ^ 23 = grind (arith, f) in
        let b : n ≤ 65535 = grind (arith, s) in
        let d : c + n < 2 ^ 31 = omega arith in
        grind (arith, d)
    go (Some (Some (Formal j m))) e = not_or (nat_le (m + n) most_cells)

and_path_sized : (o : Option LockPath) (ps : List LockPath) → seen_fits o ≡ true → are_sized ps ≡ true → are_sized (and_path o ps) ≡ true
and_path_sized None ps h s = s
and_path_sized (Some q) ps h s = go (names_cell q) h
  where
    go : (b : Bool) → (not b || is_sized q) ≡ true → are_sized (if b then with q ps else ps) ≡ true
    go true e = all_with is_less is_same is_sized q ps e s
    go false e = s

and_held_sized : (mode : Mode) (o : Option LockPath) (hs : List Held) → seen_fits o ≡ true → held_are_sized hs ≡ true → held_are_sized (and_held mode o hs) ≡ true
and_held_sized mode None hs h s = s
and_held_sized mode (Some q) hs h s = go (names_cell q) h
  where
    go : (b : Bool) → (not b || is_sized q) ≡ true → held_are_sized (if b then with_held (held_as mode q) hs else hs) ≡ true
    go true e = with_held_sized mode q hs e s
    go false e = s

plus_seen_sized : (actuals : List (Option LockPath)) (hs : List Held) → list_all actual_fits actuals ≡ true → held_are_sized hs ≡ true → held_are_sized (plus_seen actuals hs) ≡ true
plus_seen_sized actuals [] h s = refl
plus_seen_sized actuals (k ∷ ks) h s = let r = and_both (is_sized k.path) (held_are_sized ks) s in and_held_sized k.mode (substituted k.path actuals) (plus_seen actuals ks) (substituted_fits actuals k.path h r.0) (plus_seen_sized actuals ks h r.1)

minus_with_sized : (o : Option LockPath) (m : Minus) → seen_fits o ≡ true → minus_is_sized m ≡ true → minus_is_sized (minus_with o m) ≡ true
minus_with_sized None m h s = refl
minus_with_sized (Some p) All h s = refl
minus_with_sized (Some p) (Listed ps) h s = and_path_sized (Some p) ps h s

listed_seen_sized : (actuals : List (Option LockPath)) (ps : List LockPath) → list_all actual_fits actuals ≡ true → are_sized ps ≡ true → minus_is_sized (listed_seen actuals ps) ≡ true
listed_seen_sized actuals [] h s = refl
listed_seen_sized actuals (p ∷ ps) h s = let r = and_both (is_sized p) (are_sized ps) s in minus_with_sized (substituted p actuals) (listed_seen actuals ps) (substituted_fits actuals p h r.0) (listed_seen_sized actuals ps h r.1)

minus_seen_sized : (actuals : List (Option LockPath)) (m : Minus) → list_all actual_fits actuals ≡ true → minus_is_sized m ≡ true → minus_is_sized (minus_seen actuals m) ≡ true
minus_seen_sized actuals All h s = refl
minus_seen_sized actuals (Listed ps) h s = listed_seen_sized actuals ps h s

through_sized : (actuals : List (Option LockPath)) (e l : RelLocks) → list_all actual_fits actuals ≡ true → locks_are_sized e ≡ true → locks_are_sized l ≡ true → locks_are_sized (through actuals e l) ≡ true
through_sized actuals e l h s t =
    let a = and_both (held_are_sized e.plus) (minus_is_sized e.minus) s in
    let b = and_both (held_are_sized l.plus) (minus_is_sized l.minus) t in
    both_and (held_are_sized (union_held (without (minus_seen actuals e.minus) l.plus) (plus_seen actuals e.plus))) (minus_is_sized (both l.minus (minus_seen actuals e.minus)))
    (all_union held_less held_same (λ (k : Held). is_sized k.path) (without (minus_seen actuals e.minus) l.plus) (plus_seen actuals e.plus) (without_sized (minus_seen actuals e.minus) l.plus b.0) (plus_seen_sized actuals e.plus h a.0))
    (both_sized l.minus (minus_seen actuals e.minus) b.1 (minus_seen_sized actuals e.minus h a.1))

call_sized : (actuals : List (Option LockPath)) (exits : List RelLocks) (g : ℕ) (l : RelLocks) → list_all actual_fits actuals ≡ true → all_sized exits ≡ true → locks_are_sized l ≡ true → locks_are_sized (after_call actuals (slice_get exits g) l) ≡ true
call_sized actuals exits g l h s t = go (slice_get exits g) refl
  where
    go : (o : Option RelLocks) → slice_get exits g ≡ o → locks_are_sized (after_call actuals o l) ≡ true
    go None e = t
    go (Some exit) e = through_sized actuals exit l h (all_get locks_are_sized exits g exit s e) t

pub after_sized : (exits : List RelLocks) (names : List Naming) (a : Act) (l : RelLocks) → namings_fit names ≡ true → all_sized exits ≡ true → locks_are_sized l ≡ true → locks_are_sized (after_by exits names a l) ≡ true
after_sized exits names (act.Library c arguments into) l h s t = library_sized c names l h t
after_sized exits names (act.Call g arguments into) l h s t = call_sized (map actual_of names) exits g l (actuals_fit names h) s t
after_sized exits names (act.Compute into work) l h s t = t
after_sized exits names (act.Alloc into site size) l h s t = t
after_sized exits names (act.LoadCell into through) l h s t = t
after_sized exits names (act.StoreCell through from) l h s t = t
after_sized exits names act.Mark l h s t = t
after_sized exits names (act.Jump to) l h s t = t
after_sized exits names (act.Branch on then_at else_at) l h s t = t
after_sized exits names (act.Return value) l h s t = t
after_sized exits names (act.Take region) l h s t = t
after_sized exits names (act.Give region) l h s t = t
