-- The counts of jobs and crews. They never fall, and they end at the greatest u64.
use Rattle.std.specs.Prelude.{◌≡◌, ℕ, ◌+◌, ◌-◌, ◌^◌, ◌≤◌, min, List, [], ◌∷◌}
use Rattle.rr_base.specs.Faults.{Rose}
use Rattle.crew.specs.declared.crew.CrewEnd.{CrewEnd}
use Rattle.crew.specs.declared.crew.CrewEnd.TheVariants as crew_end

-- the count has risen by this number, or stands at its end
pub record RoseBy (by old new : ℕ) : Type 0 where
  pub kept : old ≤ new
  pub rises : new ≡ min (old + by) (2 ^ 64 - 1)

-- by this number or more
abbrev pub RoseAtLeast : (by old new : ℕ) → Type 0
RoseAtLeast by old new = min (old + by) (2 ^ 64 - 1) ≤ new

-- only what is answered as a fault is one: want of memory raises no count
abbrev pub CrewFaults : CrewEnd → ℕ → ℕ → Type 0
CrewFaults crew_end.Failed old new = Rose old new
CrewFaults crew_end.OutOfMemory old new = new ≡ old

-- how far the numbers of the jobs' turns rose, in sum
abbrev pub rises : {J : Type 0} → (turns : J → ℕ) → (given later : List J) → ℕ
rises turns [] laters = 0
rises turns (job ∷ jobs) [] = 0
rises turns (job ∷ jobs) (later ∷ laters) = (turns later - turns job) + rises turns jobs laters

-- the numbers of the jobs' turns, in sum
abbrev pub total : {J : Type 0} → (turns : J → ℕ) → List J → ℕ
total turns [] = 0
total turns (job ∷ jobs) = turns job + total turns jobs
