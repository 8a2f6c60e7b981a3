-- Relative locksets: which locks a function holds at each of its points beside those
-- that its caller held at its entry, and which it may have given back.
use Rattle.std.specs.Prelude.{◌≡◌, ℕ, ◌+◌, nat_lt, ◌==◌, ◌&&◌, ◌||◌, Bool, true, false, not, if◌then◌else◌, List, [], ◌∷◌, map, length, Option, Some, None, slice_get}
use Rattle.std.specs.List.{list_all, filter, Contains}
use Rattle.flow_code.specs.declared.act.Act.{Act}
use Rattle.flow_code.specs.declared.act.Act.TheVariants as act
use Rattle.flow_code.specs.declared.act.Instr.{Instr}
use Rattle.word_semantics.specs.declared.library_call.LibraryCall.{LibraryCall}
use Rattle.word_semantics.specs.declared.library_call.LibraryCall.TheVariants as call
use Rattle.flow_code.specs.declared.code.Function.{Function}
use Rattle.sync_objects.specs.declared.mode.Mode.{Mode}
use Rattle.sync_objects.specs.declared.mode.Mode.TheVariants.{Read, Write}
use Rattle.facts.specs.declared.locks.Held.{Held}
use Rattle.facts.specs.declared.locks.LockPath.{LockPath}
use Rattle.facts.specs.declared.locks.LockPath.TheVariants.{Cell, Formal}
use Rattle.facts.specs.declared.locks.Minus.{Minus}
use Rattle.facts.specs.declared.locks.Minus.TheVariants.{All, Listed}
use Rattle.facts.specs.declared.locks.RelLocks.{RelLocks}
use Rattle.facts.specs.declared.locks.Naming.{Naming}
use Rattle.facts.specs.declared.locks.Naming.TheVariants.{Unknown, Nowhere, Named}
use Rattle.facts.specs.Paths.{naming_at, names_cell, actual_of, substituted, is_small, are_small, is_sized, are_sized, may_be}
use Rattle.facts.specs.Sets as sets

-- ---- sets of paths, as lists that ascend: cells first, then formals by index and offset

-- the order in which sets list paths: global cells before formals
abbrev pub is_less : LockPath → LockPath → Bool
is_less (Cell a) (Cell b) = nat_lt a b
is_less (Cell a) (Formal j n) = true
is_less (Formal i m) (Cell b) = false
is_less (Formal i m) (Formal j n) = nat_lt i j || ((i == j) && nat_lt m n)

-- both are one path; two different ones may still be one lock
abbrev pub is_same : LockPath → LockPath → Bool
is_same (Cell a) (Cell b) = a == b
is_same (Formal i m) (Formal j n) = (i == j) && (m == n)
is_same _ _ = false

-- the path itself is in the set, not one that may be it
abbrev pub has : LockPath → List LockPath → Bool
has p qs = sets.has is_same p qs

-- the paths and one more, in its place
abbrev pub with : LockPath → List LockPath → List LockPath
with p qs = sets.with is_less is_same p qs

-- all paths of both sets
abbrev pub union : List LockPath → List LockPath → List LockPath
union ps qs = sets.union is_less is_same ps qs

-- a set's list has no path twice, and one order only
abbrev pub are_ascending : List LockPath → Bool
are_ascending ps = sets.are_ascending is_less ps

-- ---- sets of locks that are held: each path in the ways in which it is, Read before Write

-- Read before Write
abbrev pub mode_less : Mode → Mode → Bool
mode_less Read Read = false
mode_less Read Write = true
mode_less Write other = false

-- both are one way
abbrev pub mode_same : Mode → Mode → Bool
mode_same Read Read = true
mode_same Read Write = false
mode_same Write Read = false
mode_same Write Write = true

-- by path, then by mode
abbrev pub held_less : Held → Held → Bool
held_less h k = is_less h.path k.path || (is_same h.path k.path && mode_less h.mode k.mode)

-- one path in one way
abbrev pub held_same : Held → Held → Bool
held_same h k = is_same h.path k.path && mode_same h.mode k.mode

-- the lock is in the set, in this way
abbrev pub has_held : Held → List Held → Bool
has_held h ks = sets.has held_same h ks

-- the locks and one more, in its place
abbrev pub with_held : Held → List Held → List Held
with_held h ks = sets.with held_less held_same h ks

-- all locks of both sets
abbrev pub union_held : List Held → List Held → List Held
union_held hs ks = sets.union held_less held_same hs ks

-- a set's list has no lock twice in one way, and one order only
abbrev pub held_ascend : List Held → Bool
held_ascend hs = sets.are_ascending held_less hs

-- the lock of this path, held in this way
abbrev pub held_as : Mode → LockPath → Held
held_as mode p = record { path = p; mode = mode }

-- the locks and one more, held in this way; who may write may read as well
abbrev pub taken : Mode → LockPath → List Held → List Held
taken Read p hs = with_held (held_as Read p) hs
taken Write p hs = with_held (held_as Write p) (with_held (held_as Read p) hs)

-- ---- what holds after an instruction

-- the path is none of these, whatever they lead to
abbrev pub is_clear : List LockPath → LockPath → Bool
is_clear qs p = list_all (λ q. not (may_be p q)) qs

-- locks that are surely still held, in whatever way, once these may have been given back
abbrev pub without : Minus → List Held → List Held
without All hs = []
without (Listed qs) hs = filter (λ h. is_clear qs h.path) hs

-- what may have been given back by the one or by the other
abbrev pub both : Minus → Minus → Minus
both All m = All
both (Listed ps) All = All
both (Listed ps) (Listed qs) = Listed (union ps qs)

-- at a function's entry: none taken since, none given back
abbrev pub nothing : RelLocks
nothing = record { plus = []; minus = Listed [] }

-- a lock that isn't known by name tells nothing when it is taken
abbrev pub locked : Mode → Naming → RelLocks → RelLocks
locked mode (Named q) l = record { plus = taken mode q l.plus; minus = l.minus }
locked mode _ l = l

-- and any lock may be the one that is given back
abbrev pub unlocked : Naming → RelLocks → RelLocks
unlocked Unknown l = record { plus = []; minus = All }
unlocked Nowhere l = l
unlocked (Named q) l = record { plus = without (Listed (q ∷ [])) l.plus; minus = both l.minus (Listed (q ∷ [])) }

-- ---- a called function's locks as the caller sees them

-- the path is added if it is known and leads to a cell
abbrev pub and_path : Option LockPath → List LockPath → List LockPath
and_path None ps = ps
and_path (Some p) ps = if names_cell p then with p ps else ps

-- the lock is added, held in this way, if its path is known and leads to a cell
abbrev pub and_held : Mode → Option LockPath → List Held → List Held
and_held mode None hs = hs
and_held mode (Some p) hs = if names_cell p then with_held (held_as mode p) hs else hs

-- a lock whose path the caller doesn't know is left out, and so is one whose path leads to no cell
abbrev pub plus_seen : List (Option LockPath) → List Held → List Held
plus_seen actuals [] = []
plus_seen actuals (h ∷ hs) = and_held h.mode (substituted h.path actuals) (plus_seen actuals hs)

-- a path that the caller doesn't know may be any lock
abbrev pub minus_with : Option LockPath → Minus → Minus
minus_with None m = All
minus_with (Some p) All = All
minus_with (Some p) (Listed ps) = Listed (and_path (Some p) ps)

-- those that the called function may have given back, by the caller's names
abbrev pub listed_seen : List (Option LockPath) → List LockPath → Minus
listed_seen actuals [] = Listed []
listed_seen actuals (p ∷ ps) = minus_with (substituted p actuals) (listed_seen actuals ps)

-- the same where it may have given back any lock
abbrev pub minus_seen : List (Option LockPath) → Minus → Minus
minus_seen actuals All = All
minus_seen actuals (Listed ps) = listed_seen actuals ps

-- the caller's locks, where it held these as it called and the called function has had those since its entry
abbrev pub through : List (Option LockPath) → RelLocks → RelLocks → RelLocks
through actuals callee l = record {
  plus = union_held (without (minus_seen actuals callee.minus) l.plus) (plus_seen actuals callee.plus);
  minus = both l.minus (minus_seen actuals callee.minus);
}

-- the paths are small
abbrev pub minus_is_small : Minus → Bool
minus_is_small All = true
minus_is_small (Listed ps) = are_small ps

-- the paths of these locks are small
abbrev pub held_are_small : List Held → Bool
held_are_small hs = list_all (λ h. is_small h.path) hs

-- all numbers in its paths are below 2^31, so sums fit 32 bits
abbrev pub locks_are_small : RelLocks → Bool
locks_are_small l = held_are_small l.plus && minus_is_small l.minus

-- the paths are such as functions name
abbrev pub minus_is_sized : Minus → Bool
minus_is_sized All = true
minus_is_sized (Listed ps) = are_sized ps

-- the paths of these locks are such as functions name
abbrev pub held_are_sized : List Held → Bool
held_are_sized hs = list_all (λ h. is_sized h.path) hs

-- its paths are of cells that objects can have
abbrev pub locks_are_sized : RelLocks → Bool
locks_are_sized l = held_are_sized l.plus && minus_is_sized l.minus

-- what is known of each argument of the call at the k-th instruction
abbrev pub actuals_at : Function → ℕ → List ℕ → List (Option LockPath)
actuals_at f k arguments = map (λ r. actual_of (naming_at f k r)) arguments

-- ---- instructions

-- POSIX calls that take or give back a mutex or a read-write lock; a trylock tells nothing
abbrev pub after_library : Function → ℕ → LibraryCall → List ℕ → RelLocks → RelLocks
after_library f k call.MutexLock (m ∷ []) l = locked Write (naming_at f k m) l
after_library f k call.MutexUnlock (m ∷ []) l = unlocked (naming_at f k m) l
-- a wait gives its mutex back and takes it again
after_library f k call.CondWait (c ∷ m ∷ []) l = locked Write (naming_at f k m) (unlocked (naming_at f k m) l)
after_library f k call.RwRdLock (m ∷ []) l = locked Read (naming_at f k m) l
after_library f k call.RwWrLock (m ∷ []) l = locked Write (naming_at f k m) l
after_library f k call.RwUnlock (m ∷ []) l = unlocked (naming_at f k m) l
after_library f k _ _ l = l

-- without an exit the called function isn't there
abbrev pub after_call : List (Option LockPath) → Option RelLocks → RelLocks → RelLocks
after_call actuals None l = l
after_call actuals (Some exit) l = through actuals exit l

-- the locks after the k-th instruction of f, where the functions of the code have these exits
abbrev pub after : List RelLocks → Function → ℕ → Act → RelLocks → RelLocks
after exits f k (act.Library c arguments into) l = after_library f k c arguments l
after exits f k (act.Call g arguments into) l = after_call (actuals_at f k arguments) (slice_get exits g) l
after exits f k _ l = l

-- where control may go from the k-th instruction
abbrev pub successors : ℕ → Act → List ℕ
successors k (act.Jump to) = to ∷ []
successors k (act.Branch on then_at else_at) = then_at ∷ else_at ∷ []
successors k (act.Return value) = []
successors k _ = (k + 1) ∷ []

-- control leaves the function here, so these locks count for its exit
abbrev pub returns : Act → Bool
returns (act.Return value) = true
returns _ = false

-- ---- the locks at all points of a function

-- the first allows all that the second says may have been given back
abbrev pub MinusBelow : Minus → Minus → Type 0
MinusBelow All m = Unit {0}
MinusBelow (Listed ps) All = ⊥
MinusBelow (Listed ps) (Listed qs) = (p : LockPath) → has p qs ≡ true → has p ps ≡ true

-- l knows no more than m
pub record Below (l m : RelLocks) : Type 0 where
  pub plus : (h : Held) → has_held h l.plus ≡ true → has_held h m.plus ≡ true
  pub minus : MinusBelow l.minus m.minus

-- all locks that the function could know are held, none given back
abbrev pub topmost : List Held → RelLocks
topmost top = record { plus = top; minus = Listed [] }

-- the locks before each instruction, and those at the exit
pub record Points : Type 0 where
  pub before : List RelLocks
  pub exit : RelLocks

-- Nothing is known at the entry, no lock but those of `top` is held, and each point knows no more than each way to it tells.
pub record IsSolution (exits : List RelLocks) (f : Function) (top : List Held) (x : Points) : Type 0 where
  pub long : length x.before ≡ length f.instrs
  pub entry : (l : RelLocks) → slice_get x.before 0 ≡ Some l → Below l nothing
  pub within : (k : ℕ) (l : RelLocks) → slice_get x.before k ≡ Some l → Below l (topmost top)
  pub steps : (k to : ℕ) (i : Instr) (l m : RelLocks) → slice_get f.instrs k ≡ Some i → Contains (successors k i.act) to → slice_get x.before k ≡ Some l → slice_get x.before to ≡ Some m → Below m (after exits f k i.act l)
  pub exit_within : Below x.exit (topmost top)
  pub returned : (k : ℕ) (i : Instr) (l : RelLocks) → slice_get f.instrs k ≡ Some i → returns i.act ≡ true → slice_get x.before k ≡ Some l → Below x.exit l

-- at no point and not at the exit does x know more than y
pub record PointsBelow (x y : Points) : Type 0 where
  pub before : (k : ℕ) (l m : RelLocks) → slice_get x.before k ≡ Some l → slice_get y.before k ≡ Some m → Below l m
  pub exit : Below x.exit y.exit

-- the list is in the order of sets; any lock has no list
abbrev pub minus_ascends : Minus → Bool
minus_ascends All = true
minus_ascends (Listed ps) = are_ascending ps

-- both of its lists are in the order of sets
abbrev pub ascends : RelLocks → Bool
ascends l = held_ascend l.plus && minus_ascends l.minus

-- the greatest solution, its locks in order
pub record IsGreatest (exits : List RelLocks) (f : Function) (top : List Held) (x : Points) : Type 0 where
  pub solves : IsSolution exits f top x
  pub most : (y : Points) → IsSolution exits f top y → PointsBelow y x
  pub in_order : list_all ascends x.before ≡ true
  pub exit_in_order : ascends x.exit ≡ true
