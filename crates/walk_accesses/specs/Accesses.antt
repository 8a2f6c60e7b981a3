-- The accesses of a walk, in the order in which it makes them.
use Rattle.std.specs.Prelude.{◌≡◌, ℕ, ◌+◌, List, [], ◌∷◌, ◌++◌, length, map, drop, Option, Some, None, slice_get, Contains}
use Rattle.std.specs.List.{find}
use Rattle.sync_objects.specs.Setup.{SetupView}
use Rattle.sync_objects.specs.declared.entry.Entry.{Entry}
use Rattle.flow_code.specs.declared.code.Code.{Code}
use Rattle.thread_interpreter.specs.declared.access.Access.{Access}
use Rattle.thread_interpreter.specs.declared.access.Formula.{Formula}
use Rattle.thread_interpreter.specs.Formulas.{meets}
use Rattle.core_run.specs.Machine.{Told, machine, start_state}
use Rattle.core_run.specs.Walks.{walk_of, WalkIs}
use Rattle.core_run.specs.declared.outcome.Walk.{Walk}
use Rattle.core_run.specs.declared.outcome.Walk.TheVariants as walk
use Rattle.run_theory.specs.Steps.{State}
use Rattle.run_theory.specs.Walk.{part}
use Rattle.walk_accesses.specs.declared.seen.Seen.{Seen}
use Rattle.walk_accesses.specs.declared.seen.Seen.TheVariants as seen
use Rattle.walk_accesses.specs.declared.seen.Watched.{Watched}

-- ---- all accesses of a walk

-- an access, with the position of the entry in whose part it is
pub record Placed : Type 0 where
  pub part : ℕ
  pub access : Access

-- the accesses of a thread so far; none where the machine has no such thread
abbrev pub accesses_of : Option Told → List Access
accesses_of None = []
accesses_of (Some told) = told.accesses

-- those that the thread has made from the one state to the other
abbrev pub accesses_between : ℕ → State Told → State Told → List Access
accesses_between t before after = drop (length (accesses_of (slice_get before.threads t))) (accesses_of (slice_get after.threads t))

-- all in the part of the entry at this position
abbrev pub placed : ℕ → List Access → List Placed
placed at accesses = map (λ (a : Access). record { part = at; access = a }) accesses

module _ (code : Code) (s : SetupView) where
  abbrev pub placed_on : (State Told → List Placed) → ℕ → Entry → State Told → Option (State Told) → List Placed
  placed_on rest at e st None = []
  placed_on rest at e st (Some st1) = placed at (accesses_between e.thread st st1) ++ rest st1

  -- the accesses along the walk of these entries, of which the first has this position
  abbrev pub placed_from : ℕ → List Entry → State Told → List Placed
  placed_from at [] st = []
  placed_from at (e ∷ es) st = placed_on (placed_from (at + 1) es) at e st (part (machine code s) e st)

  -- the accesses of the walk of the entries from the start
  abbrev pub accesses_in : List Entry → List Placed
  accesses_in es = placed_from 0 es (start_state code s)

-- ---- the first that meets a formula

abbrev pub seen_at : Option Placed → Seen
seen_at None = seen.Nowhere
seen_at (Some x) = seen.Hit x.part x.access

-- the first of the accesses that meets the formula
abbrev pub first_seen : Formula → List Placed → Seen
first_seen f xs = seen_at (find (λ (x : Placed). meets f x.access) xs)

-- the same, and nothing where the walk is wrong
abbrev pub seen_of : Formula → List Placed → Walk → Seen
seen_of f xs (walk.Done out reads ends) = first_seen f xs
seen_of f xs (walk.Trapped kind thread line out reads ends) = first_seen f xs
seen_of f xs (walk.Wrong at) = seen.Nowhere

-- the walk of the entries by this formula, and the first access of it that meets the formula
pub record IsWatched (code : Code) (s : SetupView) (es : List Entry) (f : Formula) (w : Watched) : Type 0 where
  pub walk : WalkIs code s es f w.walk
  pub seen : w.seen ≡ seen_of f (accesses_in code s es) w.walk

-- ---- the access of a thread at a count

-- the entries have a walk
pub record HasWalk (code : Code) (s : SetupView) (es : List Entry) : Type 0 where
  pub end : State Told
  pub walked : walk_of code s es (start_state code s) ≡ Some end

-- in the walk of the entries the thread makes this access after so many events of its own
pub record IsMadeAt (code : Code) (s : SetupView) (es : List Entry) (t count : ℕ) (a : Access) : Type 0 where
  pub end : State Told
  pub walked : walk_of code s es (start_state code s) ≡ Some end
  pub told : Told
  pub stands : slice_get end.threads t ≡ Some told
  pub made : Contains told.accesses a
  pub counted : a.count ≡ count

-- the one access that the thread makes there; or none, where it makes none
abbrev pub AccessIs : Code → SetupView → List Entry → ℕ → ℕ → Option Access → Type 0
AccessIs code s es t count None = (a : Access) → IsMadeAt code s es t count a → ⊥
AccessIs code s es t count (Some a) = IsMadeAt code s es t count a × ((b : Access) → IsMadeAt code s es t count b → b ≡ a)
