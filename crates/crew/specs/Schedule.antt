-- In which order the jobs of a crew on one thread get their turns.
use Rattle.std.specs.Prelude.{◌≡◌, ◌≢◌, ℕ, ◌+◌, ◌-◌, ◌%◌, ◌<◌, Bool, false, List, length, replicate, slice_get, slice_set, Some}
use Rattle.std.specs.Option.{unwrap_or}
use Rattle.std.specs.List.{AllPass}
use Rattle.crew.specs.Counts.{RoseBy, rises}
use Rattle.crew.specs.Turns.{Turned}
use Rattle.crew.specs.declared.job.Job as Job

-- chances are counted from 0: that of this number is that of the job that the order names there; after the order they go
-- round all jobs, from the first one on
abbrev pub whose : (order : List ℕ) → (jobs chance : ℕ) → ℕ
whose order jobs chance = unwrap_or (slice_get order chance) ((chance - length order) % jobs)

-- the jobs as they stand, which of them are known to have ended, and how many turns are left
pub record PlayState (J : Type 0) : Type 0 where
  pub jobs : List J
  pub over : List Bool
  pub left : ℕ

-- no job is known to have ended, and all turns are left
abbrev pub begin : {J : Type 0} → (jobs : List J) → (most : ℕ) → PlayState J
begin jobs most = record { jobs = jobs; over = replicate (length jobs) false; left = most }

-- all jobs have ended
abbrev pub IsOver : {J : Type 0} → PlayState J → Type 0
IsOver s = AllPass (λ ended. ended) s.over

-- no turn is left, and it isn't known of some job that it has ended
abbrev pub IsSpent : {J : Type 0} → PlayState J → Type 0
IsSpent s = (s.left ≡ 0) × ((at : ℕ) × (slice_get s.over at ≡ Some false))

module _ {J : Type 0} (g : Job.Ghosts J) where
  -- a chance passes where the number names no job, or one that has ended; else the job gets a turn
  pub data Chance (at : ℕ) (s : PlayState J) : PlayState J → Type 0 where
    passes : slice_get s.over at ≢ Some false → Chance at s s
    gives : (job later : J) → slice_get s.over at ≡ Some false → slice_get s.jobs at ≡ Some job → 0 < s.left → Turned g job later
        → Chance at s (record { jobs = slice_set s.jobs at later; over = slice_set s.over at (g.ended later); left = s.left - 1 })

  -- how it stands after so many chances, of which each is that of the job with this number
  pub data Reached (number : ℕ → ℕ) (start : PlayState J) : ℕ → PlayState J → Type 0 where
    begins : Reached number start 0 start
    goes_on : (k : ℕ) (s t : PlayState J) → Reached number start k s → Chance (number k) s t → Reached number start (k + 1) t

  -- all jobs were led to their end, or a turn was missing
  pub record Ends (number : ℕ → ℕ) (start : PlayState J) (IsEnd : PlayState J → Type 0) (last : PlayState J) : Type 0 where
    pub chances : ℕ
    pub reached : Reached number start chances last
    pub ended : IsEnd last

  -- what became of jobs that got their turns by this order
  pub record Played (order : List ℕ) (most : ℕ) (IsEnd : PlayState J → Type 0) (jobs later : List J) : Type 0 where
    pub last : PlayState J
    pub ends : Ends (whose order (length jobs)) (begin jobs most) IsEnd last
    pub same : last.jobs ≡ later

  -- the same of jobs whose turns didn't suffice, with the count of turns before and after
  pub record FellShort (order : List ℕ) (most : ℕ) (jobs : List J) (old new : ℕ) : Type 0 where
    pub last : List J
    pub played : Played order most IsSpent jobs last
    pub turns : RoseBy (rises g.turns jobs last) old new
