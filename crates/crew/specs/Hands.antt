-- Who has a job while a crew with a thread for each job runs it.
use Rattle.std.specs.Prelude.{◌≡◌, ◌≤◌, List, true, Some, slice_get, IsTrue}
use Rattle.crew.specs.declared.job.Job as Job
use Rattle.crew.specs.declared.hand.Hand.{Hand}
use Rattle.crew.specs.declared.hand.Hand.TheVariants.{There, Here}

-- nothing is left to do with the job but to wait for its thread
abbrev pub IsReady : {J G : Type 0} → Hand J G → Type 0
IsReady (There handle) = Unit {0}
IsReady (Here job over) = over ≡ true

module _ {J : Type 0} (g : Job.Ghosts J) where
  -- the job of these is in this hand: by its number in a thread, or led on by turns
  abbrev pub IsHandOf : {G : Type 0} → (given : List J) → J → Hand J G → Type 0
  IsHandOf given job (There handle) = slice_get given handle.promise.at ≡ Some job
  IsHandOf given job (Here later over) = g.leads_to job later × (g.turns job ≤ g.turns later) × (IsTrue over → g.ended later ≡ true)

  abbrev pub IsReadyHandOf : {G : Type 0} → (given : List J) → J → Hand J G → Type 0
  IsReadyHandOf given job hand = IsHandOf given job hand × IsReady hand
