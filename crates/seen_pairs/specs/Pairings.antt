-- For private clauses: what is noted of functions that are at work at once.
use Rattle.std.specs.Prelude.{◌≡◌, ◌≢◌, ℕ, false, List, Option, Some, None, slice_get, Contains, ◌⊎◌}
use Rattle.sync_objects.specs.Setup.{SetupView}
use Rattle.sync_objects.specs.declared.entry.Entry.{Entry}
use Rattle.flow_code.specs.declared.code.Code.{Code}
use Rattle.profiles.specs.Profile.{Pair, ordered}
use Rattle.thread_interpreter.specs.declared.access.Formula.{Formula}
use Rattle.core_run.specs.Machine.{Told, start_state}
use Rattle.core_run.specs.Walks.{walk_of}
use Rattle.run_theory.specs.Steps.{State}
use Rattle.seen_pairs.specs.Seen.{AreAtOnce, WereAtOnce, name_of}

-- no access is asked for
abbrev pub no_reads : Formula
no_reads = record { loads = false; stores = false; thread = None; low = 1; high = 0; value = None }

-- what was noted stays, and exactly these pairs of functions are noted beside it
pub record Notes (old new : List (ℕ × ℕ)) (P : ℕ → ℕ → Type 0) : Type 0 where
  pub stays : (f g : ℕ) → Contains old (f, g) → Contains new (f, g)
  pub noted : (f g : ℕ) → P f g → Contains new (f, g)
  pub only : (f g : ℕ) → Contains new (f, g) → Contains old (f, g) ⊎ P f g

-- the function is on the stack of some thread but this one
pub record IsElsewhere (stacks : List (List ℕ)) (t g : ℕ) : Type 0 where
  pub thread : ℕ
  pub other : thread ≢ t
  pub stack : List ℕ
  pub stack_is : slice_get stacks thread ≡ Some stack
  pub on_stack : Contains stack g

-- the pair is noted in one of its orders
abbrev pub IsNoted : List (ℕ × ℕ) → ℕ → ℕ → Type 0
IsNoted noted f g = Contains noted (f, g) ⊎ Contains noted (g, f)

-- where stacks have changed, what was noted stays, what is at work at once now was so before or is noted, and nothing else is
-- noted beside it
pub record Follows (before after : List (List ℕ)) (old new : List (ℕ × ℕ)) : Type 0 where
  pub stays : (f g : ℕ) → Contains old (f, g) → Contains new (f, g)
  pub noted : (f g : ℕ) → AreAtOnce after f g → AreAtOnce before f g ⊎ IsNoted new f g
  pub only : (f g : ℕ) → Contains new (f, g) → Contains old (f, g) ⊎ AreAtOnce after f g

-- the functions that were at work at once along the walk, each pair in one of its orders
pub record AreNoted (code : Code) (s : SetupView) (es : List Entry) (noted : List (ℕ × ℕ)) : Type 0 where
  pub end : State Told
  pub walked : walk_of code s es (start_state code s) ≡ Some end
  pub all : (f g : ℕ) → WereAtOnce code s es f g → IsNoted noted f g
  pub only : (f g : ℕ) → Contains noted (f, g) → WereAtOnce code s es f g

-- the same, or none where the entries have no walk
abbrev pub NotedIs : Code → SetupView → List Entry → Option (List (ℕ × ℕ)) → Type 0
NotedIs code s es None = walk_of code s es (start_state code s) ≡ None
NotedIs code s es (Some noted) = AreNoted code s es noted

-- the names of two functions, the lesser one first
abbrev pub names_of : Code → ℕ × ℕ → Pair
names_of code x = ordered (name_of code x.0) (name_of code x.1)
