-- Rows of the definitions, by hand.
use Rattle.std.specs.Prelude.{◌≡◌, ℕ, true, false, pos, List, [], ◌∷◌, ◌++◌, Some, None, refl}
use Rattle.thread_interpreter.specs.declared.access.Access.{Access}
use Rattle.thread_interpreter.specs.declared.access.Formula.{Formula}
use Rattle.core_run.specs.declared.outcome.Walk.TheVariants as walk
use Rattle.walk_accesses.specs.Accesses.{Placed, placed, first_seen, seen_of}
use Rattle.walk_accesses.specs.declared.seen.Seen.TheVariants as seen

-- thread 1 loads 0 from cell 6 and stores 1 there, thread 2 does so after it
abbrev load_of : ℕ → ℕ → ℕ → Access
load_of t count value = record { thread = t; count = count; cell = 6; value = value; store = false }

abbrev store_of : ℕ → ℕ → ℕ → Access
store_of t count value = record { thread = t; count = count; cell = 6; value = value; store = true }

abbrev accesses : List Placed
accesses = placed 11 (load_of 1 3 0 ∷ store_of 1 4 1 ∷ []) ++ placed 15 (load_of 2 3 1 ∷ store_of 2 4 2 ∷ [])

-- stores of this value in cells 6 to 6
abbrev stores : ℕ → Formula
stores value = record { loads = false; stores = true; thread = None; low = 6; high = 6; value = Some (pos value) }

the_first_store : first_seen (stores 1) accesses ≡ seen.Hit 11 (store_of 1 4 1)
the_first_store = refl

a_later_store : first_seen (stores 2) accesses ≡ seen.Hit 15 (store_of 2 4 2)
a_later_store = refl

no_store : first_seen (stores 3) accesses ≡ seen.Nowhere
no_store = refl

a_wrong_walk : seen_of (stores 1) accesses (walk.Wrong 12) ≡ seen.Nowhere
a_wrong_walk = refl
