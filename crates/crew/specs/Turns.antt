-- What jobs become by their turns.
use Rattle.std.specs.Prelude.{◌≡◌, ◌≤◌, ℕ, true, List, Some, slice_get, IsTrue}
use Rattle.crew.specs.Counts.{RoseBy}
use Rattle.crew.specs.declared.job.Job as Job

module _ {J : Type 0} (g : Job.Ghosts J) where
  -- a turn makes the second of the first
  pub record Turned (job later : J) : Type 0 where
    pub stays : IsTrue (g.ended job) → IsTrue (g.ended later)
    pub rose : RoseBy 1 (g.turns job) (g.turns later)
    pub leads : g.leads_to job later

  -- the second is the first one, led to its end by turns
  pub record Finished (job later : J) : Type 0 where
    pub leads : g.leads_to job later
    pub kept : g.turns job ≤ g.turns later
    pub ended : g.ended later ≡ true

  -- the same of the given job with this number
  pub record FinishedAt (given : List J) (at : ℕ) (later : J) : Type 0 where
    pub job : J
    pub is : slice_get given at ≡ Some job
    pub finished : Finished job later
