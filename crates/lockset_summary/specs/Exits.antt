-- Points of functions from one round to the next: each round's are the greatest where the functions have the exits of the
-- round before.
use Rattle.std.specs.Prelude.{◌≡◌, ℕ, ◌+◌, ◌-◌, ◌<◌, ◌^◌, ◌&&◌, Bool, true, false, List, [], ◌∷◌, map, length, Some, slice_get}
use Rattle.std.specs.List.{list_all}
use Rattle.flow_code.specs.declared.code.Code.{Code}
use Rattle.flow_code.specs.declared.code.Function.{Function}
use Rattle.facts.specs.declared.locks.Held.{Held}
use Rattle.facts.specs.declared.locks.LockPath.{LockPath}
use Rattle.facts.specs.declared.locks.Minus.{Minus}
use Rattle.facts.specs.declared.locks.Minus.TheVariants.{All, Listed}
use Rattle.facts.specs.declared.locks.RelLocks.{RelLocks}
use Rattle.facts.specs.Locks.{has, has_held, ascends, topmost, Points, Below, IsGreatest, IsSolution}
use Rattle.facts.specs.Summaries.{exits_of, AreSolution, Knows, paths_same, plus_same}

-- each function's points are the greatest where the functions have these exits
pub record AreEachGreatest (code : Code) (tops : List (List Held)) (exits : List RelLocks) (xs : List Points) : Type 0 where
  pub long : length xs ≡ length code.functions
  pub each : (f : ℕ) (fn : Function) (top : List Held) (x : Points) → slice_get code.functions f ≡ Some fn → slice_get tops f ≡ Some top → slice_get xs f ≡ Some x → IsGreatest exits fn top x

-- each exit knows no more than the one in its place
pub record ExitsBelow (es gs : List RelLocks) : Type 0 where
  pub long : length es ≡ length gs
  pub each : (g : ℕ) (e h : RelLocks) → slice_get es g ≡ Some e → slice_get gs g ≡ Some h → Below e h

-- the most that exits may know
abbrev pub topmost_exits : List (List Held) → List RelLocks
topmost_exits tops = map topmost tops

-- where the locks that were given back are listed, the function knows each of them
abbrev pub IsMinusKnown : Code → ℕ → Minus → Type 0
IsMinusKnown code f All = Unit {0}
IsMinusKnown code f (Listed ps) = (p : LockPath) → has p ps ≡ true → Knows code f p

-- the function knows all paths of the locks
pub record AreLocksKnown (code : Code) (f : ℕ) (l : RelLocks) : Type 0 where
  pub plus : (h : Held) → has_held h l.plus ≡ true → Knows code f h.path
  pub minus : IsMinusKnown code f l.minus

-- exits that no solution exceeds, whose paths ascend, and are known to their functions
pub record AreAbove (code : Code) (tops : List (List Held)) (exits : List RelLocks) : Type 0 where
  pub long : length exits ≡ length code.functions
  pub above : (ys : List Points) → AreSolution code tops ys → ExitsBelow (exits_of ys) exits
  pub ascending : list_all ascends exits ≡ true
  pub known : (g : ℕ) (e : RelLocks) → slice_get exits g ≡ Some e → AreLocksKnown code g e

-- a round's points, and the exits with which it began
pub record AreNearing (code : Code) (tops : List (List Held)) (exits : List RelLocks) (xs : List Points) : Type 0 where
  pub from : AreAbove code tops exits
  pub each : AreEachGreatest code tops exits xs
  pub lower : ExitsBelow (exits_of xs) exits

-- ---- how far exits can still fall

-- 0 where any lock may have been given back: nothing is left to fall
abbrev pub minus_weight : Minus → ℕ
minus_weight All = 0
minus_weight (Listed ps) = 1 + (2 ^ 64 - length ps)

-- how many times, at most, the locks of one exit can still change
abbrev pub weight : RelLocks → ℕ
weight l = length l.plus + minus_weight l.minus

-- the sum over all exits, which falls in each round but the last
abbrev pub weights : List RelLocks → ℕ
weights [] = 0
weights (l ∷ ls) = weight l + weights ls

-- a listed minus has fewer than 2^64 paths, as `minus_weight` supposes
abbrev pub IsSmallMinus : Minus → Type 0
IsSmallMinus All = Unit {0}
IsSmallMinus (Listed ps) = length ps < 2 ^ 64

-- of all exits, so that their weights can fall
abbrev pub AreSmall : List RelLocks → Type 0
AreSmall [] = Unit {0}
AreSmall (l ∷ ls) = IsSmallMinus l.minus × AreSmall ls

-- exits that no solution exceeds, each of them no less than that of any solution of its function where those called have
-- these exits
pub record AreFalling (code : Code) (tops : List (List Held)) (exits : List RelLocks) : Type 0 where
  pub from : AreAbove code tops exits
  pub falling : (f : ℕ) (fn : Function) (top : List Held) (x : Points) (e : RelLocks) → slice_get code.functions f ≡ Some fn → slice_get tops f ≡ Some top → slice_get exits f ≡ Some e → IsSolution exits fn top x → Below x.exit e
  pub small : AreSmall exits

-- ---- whether exits are the same

-- that any lock may have been given back equals only itself
abbrev pub minus_same : Minus → Minus → Bool
minus_same All All = true
minus_same (Listed ps) (Listed qs) = paths_same ps qs
minus_same _ _ = false

-- the same locks are held, and the same may have been given back
abbrev pub locks_same : RelLocks → RelLocks → Bool
locks_same l m = plus_same l.plus m.plus && minus_same l.minus m.minus

-- exit by exit; then the rounds are over
abbrev pub all_same : List RelLocks → List RelLocks → Bool
all_same [] [] = true
all_same (l ∷ ls) (m ∷ ms) = locks_same l m && all_same ls ms
all_same _ _ = false
