-- Summaries of functions: the locks at each function's exit, and the accesses that it and those it calls make, with the
-- locks at each.
use Rattle.std.specs.Prelude.{◌≡◌, ◌↔◌, ℕ, nat_lt, ◌==◌, ◌&&◌, ◌||◌, Bool, true, false, List, [], ◌∷◌, map, length, Option, Some, None, slice_get}
use Rattle.std.specs.List.{list_all, Contains}
use Rattle.flow_code.specs.declared.act.Act.{Act}
use Rattle.flow_code.specs.declared.act.Act.TheVariants as act
use Rattle.flow_code.specs.declared.act.Instr.{Instr}
use Rattle.word_semantics.specs.declared.library_call.LibraryCall.{LibraryCall}
use Rattle.word_semantics.specs.declared.library_call.LibraryCall.TheVariants as call
use Rattle.flow_code.specs.declared.code.Code.{Code}
use Rattle.flow_code.specs.declared.code.Function.{Function}
use Rattle.facts.specs.Accesses.{Access, access_of}
use Rattle.facts.specs.declared.locks.Guarded.{Guarded}
use Rattle.facts.specs.declared.locks.Held.{Held}
use Rattle.facts.specs.declared.locks.LockPath.{LockPath}
use Rattle.facts.specs.declared.locks.Minus.{Minus}
use Rattle.facts.specs.declared.locks.Minus.TheVariants.{All, Listed}
use Rattle.facts.specs.declared.locks.RelLocks.{RelLocks}
use Rattle.facts.specs.declared.locks.Summary.{Summary}
use Rattle.facts.specs.Locks.{is_less, is_same, held_less, held_same, has_held, held_ascend, actuals_at, through, ascends, Points, PointsBelow, IsSolution}
use Rattle.facts.specs.declared.locks.Naming.{Naming}
use Rattle.facts.specs.declared.locks.Naming.TheVariants.{Unknown, Named}
use Rattle.facts.specs.Paths.{naming_at, names_cell, substituted}
use Rattle.facts.specs.Sets as sets

-- ---- the locks that a function knows by name

-- the register that points to the mutex or read-write lock of which a library call speaks
abbrev pub lock_register : LibraryCall → List ℕ → Option ℕ
lock_register call.MutexInit (m ∷ []) = Some m
lock_register call.MutexLock (m ∷ []) = Some m
lock_register call.MutexUnlock (m ∷ []) = Some m
lock_register call.MutexTryLock (m ∷ []) = Some m
lock_register call.MutexDestroy (m ∷ []) = Some m
lock_register call.CondWait (c ∷ m ∷ []) = Some m
lock_register call.RwInit (m ∷ []) = Some m
lock_register call.RwRdLock (m ∷ []) = Some m
lock_register call.RwWrLock (m ∷ []) = Some m
lock_register call.RwUnlock (m ∷ []) = Some m
lock_register call.RwDestroy (m ∷ []) = Some m
lock_register _ _ = None

-- the name of the lock in a register; unknown where there is no register
abbrev pub naming_in : Function → ℕ → Option ℕ → Naming
naming_in f k None = Unknown
naming_in f k (Some m) = naming_at f k m

-- the name of the lock that the instruction speaks of, if it does
abbrev pub lock_naming : Function → ℕ → Act → Naming
lock_naming f k (act.Library c arguments into) = naming_in f k (lock_register c arguments)
lock_naming f k _ = Unknown

-- the k-th instruction of the f-th function
pub record StandsAt (code : Code) (f k : ℕ) (fn : Function) (i : Instr) : Type 0 where
  pub function : slice_get code.functions f ≡ Some fn
  pub instr : slice_get fn.instrs k ≡ Some i

-- the function names the lock, or calls one that knows it
pub data Knows (code : Code) : ℕ → LockPath → Type 0 where
  own : (f k : ℕ) (fn : Function) (i : Instr) (q : LockPath) → StandsAt code f k fn i → lock_naming fn k i.act ≡ Named q → Knows code f q
  called : (f k : ℕ) (fn : Function) (i : Instr) (g : ℕ) (arguments : List ℕ) (into : Option ℕ) (p q : LockPath) → StandsAt code f k fn i → i.act ≡ act.Call g arguments into → Knows code g p → substituted p (actuals_at fn k arguments) ≡ Some q → names_cell q ≡ true → Knows code f q

-- the list has each lock that the function knows, in both ways and in order
pub record ListsKnown (code : Code) (f : ℕ) (hs : List Held) : Type 0 where
  pub ascending : held_ascend hs ≡ true
  pub of : (h : Held) → (has_held h hs ≡ true) ↔ Knows code f h.path

-- for each function of the code, the list of locks that it knows
abbrev pub AllListsKnown : Code → List (List Held) → Type 0
AllListsKnown code tops = (length tops ≡ length code.functions) × ((f : ℕ) (hs : List Held) → slice_get tops f ≡ Some hs → ListsKnown code f hs)

-- ---- the locks at all points of all functions

-- of each function the locks as it returns, which its callers need
abbrev pub exits_of : List Points → List RelLocks
exits_of xs = map (λ x. x.exit) xs

-- each function's points are a solution where the functions have these exits
pub record AreSolution (code : Code) (tops : List (List Held)) (xs : List Points) : Type 0 where
  pub long : length xs ≡ length code.functions
  pub each : (f : ℕ) (fn : Function) (top : List Held) (x : Points) → slice_get code.functions f ≡ Some fn → slice_get tops f ≡ Some top → slice_get xs f ≡ Some x → IsSolution (exits_of xs) fn top x

-- all lists of paths at a function's points ascend
abbrev pub in_order : Points → Bool
in_order x = list_all ascends x.before && ascends x.exit

-- of all solutions the one that knows most, so one alone
pub record AreGreatest (code : Code) (tops : List (List Held)) (xs : List Points) : Type 0 where
  pub solves : AreSolution code tops xs
  pub most : (ys : List Points) → AreSolution code tops ys → (f : ℕ) (x y : Points) → slice_get xs f ≡ Some x → slice_get ys f ≡ Some y → PointsBelow y x
  pub ordered : list_all in_order xs ≡ true

-- ---- guarded accesses

-- the locks at an access, without where it stands
abbrev pub locks_of : Guarded → RelLocks
locks_of a = record { plus = a.plus; minus = a.minus }

-- the access at function f's k-th instruction, with these locks
abbrev pub guarded_by : (f k : ℕ) → Bool → RelLocks → Guarded
guarded_by f k store l = record { function = f; instr = k; store = store; plus = l.plus; minus = l.minus }

-- an access of a called function, where the caller holds these locks as it calls
abbrev pub seen_by : List (Option LockPath) → RelLocks → Guarded → Guarded
seen_by actuals l a = guarded_by a.function a.instr a.store (through actuals (locks_of a) l)

-- the accesses that a function and those it calls make, where these are the locks at all points
pub data Guards (code : Code) (xs : List Points) : ℕ → Guarded → Type 0 where
  own : (f k : ℕ) (fn : Function) (i : Instr) (x : Points) (l : RelLocks) (a : Access) → StandsAt code f k fn i → slice_get xs f ≡ Some x → slice_get x.before k ≡ Some l → access_of i.act ≡ Some a → Guards code xs f (guarded_by f k a.store l)
  called : (f k : ℕ) (fn : Function) (i : Instr) (x : Points) (l : RelLocks) (g : ℕ) (arguments : List ℕ) (into : Option ℕ) (b : Guarded) → StandsAt code f k fn i → slice_get xs f ≡ Some x → slice_get x.before k ≡ Some l → i.act ≡ act.Call g arguments into → Guards code xs g b → Guards code xs f (seen_by (actuals_at fn k arguments) l b)

-- ---- their order: by function, instruction, loads before stores, then by the locks that are held and those that may have
-- been given back; any lock comes last

-- the order of words in a dictionary: the first different path decides
abbrev pub paths_less : List LockPath → List LockPath → Bool
paths_less ps qs = sets.list_less is_less is_same ps qs

-- the same paths one by one, and as many
abbrev pub paths_same : List LockPath → List LockPath → Bool
paths_same ps qs = sets.all_same is_same ps qs

-- the order of words, for locks that are held
abbrev pub plus_less : List Held → List Held → Bool
plus_less hs ks = sets.list_less held_less held_same hs ks

-- the same locks in the same ways, one by one, and as many
abbrev pub plus_same : List Held → List Held → Bool
plus_same hs ks = sets.all_same held_same hs ks

-- the order of those that may have been given back; any lock comes last
abbrev pub minus_less : Minus → Minus → Bool
minus_less All m = false
minus_less (Listed ps) All = true
minus_less (Listed ps) (Listed qs) = paths_less ps qs

-- first by what is held, then by what may have been given back
abbrev pub locks_less : RelLocks → RelLocks → Bool
locks_less l m = plus_less l.plus m.plus || (plus_same l.plus m.plus && minus_less l.minus m.minus)

-- by the first of the two numbers that differ
abbrev pub first_less : (x y : ℕ) → Bool → Bool
first_less x y then_less = nat_lt x y || ((x == y) && then_less)

-- loads have 0 and stores 1, so that loads come first
abbrev pub number_of : Bool → ℕ
number_of false = 0
number_of true = 1

-- the order in which a summary lists its accesses
abbrev pub guarded_less : Guarded → Guarded → Bool
guarded_less a b = first_less a.function b.function (first_less a.instr b.instr (first_less (number_of a.store) (number_of b.store) (locks_less (locks_of a) (locks_of b))))

-- each access comes before the next, so none stands twice
abbrev pub guarded_ascend : List Guarded → Bool
guarded_ascend [] = true
guarded_ascend (a ∷ []) = true
guarded_ascend (a ∷ b ∷ as') = guarded_less a b && guarded_ascend (b ∷ as')

-- ---- summaries

-- the exit is that of the function's points, and the list has each access once, in order
pub record IsSummary (code : Code) (xs : List Points) (f : ℕ) (x : Points) (s : Summary) : Type 0 where
  pub exit : s.exit ≡ x.exit
  pub ascending : guarded_ascend s.guarded ≡ true
  pub of : (a : Guarded) → Contains s.guarded a ↔ Guards code xs f a

-- the summaries of all functions
pub record AreSummaries (code : Code) (ss : List Summary) : Type 0 where
  pub tops : List (List Held)
  pub known : AllListsKnown code tops
  pub points : List Points
  pub greatest : AreGreatest code tops points
  pub long : length ss ≡ length code.functions
  pub each : (f : ℕ) (x : Points) (s : Summary) → slice_get points f ≡ Some x → slice_get ss f ≡ Some s → IsSummary code points f x s
