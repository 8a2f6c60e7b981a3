-- Chains over the entries of a log: each link is an operation that passes its object to a later one.
use Rattle.std.specs.Prelude.{ℕ, nat_lt, nat_le, ◌==◌, ◌&&◌, ◌||◌, Bool, true, false, List, [], ◌∷◌, take, Option, Some, None, slice_get}
use Rattle.run_theory.specs.Same.{same_object}
use Rattle.sync_objects.specs.Modes.{excludes}
use Rattle.sync_objects.specs.declared.entry.Entry.{Entry}
use Rattle.sync_objects.specs.declared.mode.Mode.{Mode}
use Rattle.sync_objects.specs.declared.operation.OpName.{OpName}
use Rattle.sync_objects.specs.declared.operation.OpName.TheVariants as name
use Rattle.chain_report.specs.declared.point.Point.{Point}
use Rattle.chain_report.specs.Replayed.{released, acquired}

-- a lock that was let go in the one mode is got in the other: readers hand nothing to readers
abbrev pub exclude : Option Mode → Option Mode → Bool
exclude (Some a) (Some b) = excludes a b
exclude (Some a) None = false
exclude None b = false

-- the start of a thread hands it to its begin, and its end to its join
abbrev pub hands_thread : OpName → OpName → Bool
hands_thread name.Start name.Begin = true
hands_thread name.End name.Join = true
hands_thread _ _ = false

-- the entry x at position a passes its object to the entry y at position b
abbrev pub passes_to : List Entry → ℕ → Entry → ℕ → Entry → Bool
passes_to es a x b y = nat_lt a b && same_object x.obj y.obj && (hands_thread x.op y.op || exclude (released (take a es) x) (acquired (take b es) y))

abbrev pub passes_entries : List Entry → ℕ → ℕ → Option Entry → Option Entry → Bool
passes_entries es a b (Some x) (Some y) = passes_to es a x b y
passes_entries es a b (Some x) None = false
passes_entries es a b None y = false

-- the entries at these positions, the first one passes to the second
abbrev pub passes : List Entry → ℕ → ℕ → Bool
passes es a b = passes_entries es a b (slice_get es a) (slice_get es b)

-- the entry is of the point's thread, and after the point
abbrev pub is_after : Point → Option Entry → Bool
is_after p None = false
is_after p (Some e) = (e.thread == p.thread) && nat_lt p.count e.count

-- the entry is of the point's thread, and before the point
abbrev pub is_before : Point → Option Entry → Bool
is_before p None = false
is_before p (Some e) = (e.thread == p.thread) && nat_le e.count p.count

-- two entries of one thread
abbrev pub is_of_one : Option Entry → Option Entry → Bool
is_of_one (Some x) (Some y) = x.thread == y.thread
is_of_one (Some x) None = false
is_of_one None y = false

-- a chain goes on with the entry at position a: first after its first point, then in the thread that the last pass led to, after it
abbrev pub goes_on : List Entry → Point → Option ℕ → ℕ → Bool
goes_on es from None a = is_after from (slice_get es a)
goes_on es from (Some b) a = nat_lt b a && is_of_one (slice_get es b) (slice_get es a)

-- a chain may end where the last pass led: there has to be one
abbrev pub ends : List Entry → Point → Option ℕ → Bool
ends es to None = false
ends es to (Some b) = is_before to (slice_get es b)

-- the passes are the rest of a chain between the points, where the last pass before them led to this position
abbrev pub chain_from : List Entry → Point → Point → Option ℕ → List (ℕ × ℕ) → Bool
chain_from es from to at [] = ends es to at
chain_from es from to at (x ∷ rest) = goes_on es from at x.0 && passes es x.0 x.1 && chain_from es from to (Some x.1) rest

-- the passes are a chain from the first point to the second one
abbrev pub is_chain : List Entry → Point → Point → List (ℕ × ℕ) → Bool
is_chain es from to passes = chain_from es from to None passes
