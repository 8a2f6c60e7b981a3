-- Rounds over a function's instructions: each point is met with what the ways to it tell, until a round changes nothing.
use Rattle.std.specs.Prelude.{◌≡◌, ℕ, zero, suc, ◌+◌, ◌-◌, ◌^◌, ◌<◌, nat_lt, Bool, true, false, List, [], ◌∷◌, ◌++◌, map, length, Some, slice_get, slice_set}
use Rattle.std.specs.List.{filter, Contains}
use Rattle.flow_code.specs.declared.act.Act.{Act}
use Rattle.flow_code.specs.declared.act.Act.TheVariants as act
use Rattle.flow_code.specs.declared.act.Instr.{Instr}
use Rattle.word_semantics.specs.declared.library_call.LibraryCall.{LibraryCall}
use Rattle.word_semantics.specs.declared.library_call.LibraryCall.TheVariants as call
use Rattle.flow_code.specs.declared.code.Function.{Function}
use Rattle.sync_objects.specs.declared.mode.Mode.TheVariants.{Read, Write}
use Rattle.facts.specs.declared.locks.Held.{Held}
use Rattle.facts.specs.declared.locks.Minus.{Minus}
use Rattle.facts.specs.declared.locks.Minus.TheVariants.{All, Listed}
use Rattle.facts.specs.declared.locks.Naming.{Naming}
use Rattle.facts.specs.declared.locks.RelLocks.{RelLocks}
use Rattle.facts.specs.Paths.{actual_of}
use Rattle.lockset_flow.specs.declared.next.Successors.{Successors}
use Rattle.lockset_flow.specs.declared.next.Successors.TheVariants as next
use Rattle.facts.specs.Locks.{has_held, both, locked, unlocked, after_call, nothing, topmost, after, successors, returns, Below, Points, PointsBelow, IsSolution, ascends, locks_are_sized}

-- ---- the locks after an instruction, where the arguments have these names

-- a condition wait unlocks its mutex and locks it again
abbrev pub library_by : LibraryCall → List Naming → RelLocks → RelLocks
library_by call.MutexLock (n ∷ []) l = locked Write n l
library_by call.MutexUnlock (n ∷ []) l = unlocked n l
library_by call.CondWait (c ∷ n ∷ []) l = locked Write n (unlocked n l)
library_by call.RwRdLock (n ∷ []) l = locked Read n l
library_by call.RwWrLock (n ∷ []) l = locked Write n l
library_by call.RwUnlock (n ∷ []) l = unlocked n l
library_by _ _ l = l

-- a call changes the locks as its function's exit tells
abbrev pub after_by : List RelLocks → List Naming → Act → RelLocks → RelLocks
after_by exits names (act.Library c arguments into) l = library_by c names l
after_by exits names (act.Call g arguments into) l = after_call (map actual_of names) (slice_get exits g) l
after_by exits names _ l = l

-- ---- meets

-- what both know
abbrev pub meet_of : RelLocks → RelLocks → RelLocks
meet_of l m = record { plus = filter (λ h. has_held h m.plus) l.plus; minus = both l.minus m.minus }

-- how much locks can still fall
abbrev pub minus_weight : Minus → ℕ
minus_weight All = 0
minus_weight (Listed ps) = 1 + (2 ^ 64 - length ps)

-- how many times, at most, the locks of one point can still fall
abbrev pub weight : RelLocks → ℕ
weight l = length l.plus + minus_weight l.minus

-- the sum over several points
abbrev pub weights : List RelLocks → ℕ
weights [] = 0
weights (l ∷ ls) = weight l + weights ls

-- the sum over all points, which falls in each round but the last
abbrev pub points_weight : Points → ℕ
points_weight x = weights x.before + weight x.exit

-- the second has more paths, or any
abbrev pub grows : Minus → Minus → Bool
grows All m = false
grows (Listed ps) All = true
grows (Listed ps) (Listed qs) = nat_lt (length ps) (length qs)

-- ---- points

-- nothing at the entry, else all locks that may be held
abbrev pub start_row : List Held → ℕ → RelLocks
start_row top zero = nothing
start_row top (suc k) = topmost top

-- the first n points as they are before the rounds
abbrev pub starts : List Held → ℕ → List RelLocks
starts top zero = []
starts top (suc n) = starts top n ++ start_row top n ∷ []

-- other locks before the k-th instruction
abbrev pub with_row : Points → ℕ → RelLocks → Points
with_row x k l = record { before = slice_set x.before k l; exit = x.exit }

-- other locks at the function's end
abbrev pub with_exit : Points → RelLocks → Points
with_exit x l = record { before = x.before; exit = l }

-- the ways from an instruction
abbrev pub HasNext : Successors → ℕ → Act → Type 0
HasNext (next.One to) k a = (successors k a ≡ to ∷ []) × (returns a ≡ false)
HasNext (next.Two to other) k a = (successors k a ≡ to ∷ other ∷ []) × (returns a ≡ false)
HasNext next.Exit k a = (successors k a ≡ []) × (returns a ≡ true)

-- the point `to` knows no more than the way from the k-th instruction tells
abbrev pub Agree : List RelLocks → Function → ℕ → ℕ → Points → Type 0
Agree exits f k to x = (i : Instr) (l m : RelLocks) → slice_get f.instrs k ≡ Some i → slice_get x.before k ≡ Some l → slice_get x.before to ≡ Some m → Below m (after exits f k i.act l)

-- the exit knows no more than the k-th point
abbrev pub Leaves : ℕ → Points → Type 0
Leaves k x = (l : RelLocks) → slice_get x.before k ≡ Some l → Below x.exit l

-- all ways from the k-th instruction are met
pub record MetAt (exits : List RelLocks) (f : Function) (k : ℕ) (x : Points) : Type 0 where
  pub flows : (to : ℕ) (i : Instr) → slice_get f.instrs k ≡ Some i → Contains (successors k i.act) to → Agree exits f k to x
  pub left : (i : Instr) → slice_get f.instrs k ≡ Some i → returns i.act ≡ true → Leaves k x

-- a round has come as far as the k-th instruction
abbrev pub MetTo : List RelLocks → Function → ℕ → Points → Type 0
MetTo exits f k x = (j : ℕ) → j < k → MetAt exits f j x

-- a round has gone through the whole function
abbrev pub MetAll : List RelLocks → Function → Points → Type 0
MetAll exits f x = (j : ℕ) → j < length f.instrs → MetAt exits f j x

-- paths in order, of sizes that can be kept
abbrev pub Good : RelLocks → Type 0
Good l = (ascends l ≡ true) × (locks_are_sized l ≡ true)

-- all paths are in order, and sized
pub record AllGood (x : Points) : Type 0 where
  pub before : (k : ℕ) (l : RelLocks) → slice_get x.before k ≡ Some l → Good l
  pub exit : Good x.exit

-- true: the points can fall less far than before; false: just as far
abbrev pub FallsTo : Bool → Points → Points → Type 0
FallsTo true old new = points_weight new < points_weight old
FallsTo false old new = points_weight new ≡ points_weight old

-- a part of a round: no solution is lost, and what holds once it changes nothing
pub record Relaxes (exits : List RelLocks) (f : Function) (Met : Points → Type 0) (old new : Points) (changed : Bool) : Type 0 where
  pub long : length new.before ≡ length old.before
  pub down : PointsBelow new old
  pub above : (top : List Held) (y : Points) → IsSolution exits f top y → PointsBelow y old → PointsBelow y new
  pub met : changed ≡ false → (new ≡ old) × Met new
  pub good : AllGood old → AllGood new
  pub falls : FallsTo changed old new

-- the first points of the rounds, and those at their end
abbrev pub starting : List Held → ℕ → Points
starting top n = record { before = starts top n; exit = topmost top }

-- what the rounds come to: all ways are met, no solution lost
pub record Settled (exits : List RelLocks) (f : Function) (old new : Points) : Type 0 where
  pub long : length new.before ≡ length old.before
  pub down : PointsBelow new old
  pub above : (top : List Held) (y : Points) → IsSolution exits f top y → PointsBelow y old → PointsBelow y new
  pub met : MetAll exits f new
  pub good : AllGood old → AllGood new
