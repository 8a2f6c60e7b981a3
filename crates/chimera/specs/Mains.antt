-- How the program may end.
use Rattle.std.specs.Prelude.{◌≡◌, ℕ, List, None}
use Rattle.command_line.specs.Endings.{Sight}
use Rattle.command_line.specs.Jobs.{job_of}
use Rattle.job_laws.specs.Moments.{EndsFor, Moment}

-- A call with these words ends with this status, on files and streams that don't tell what they hold: on some files and some input
-- the words have the outcome that is told, or a fault or want of memory is.
pub record IsEndOf (words : List (List ℕ)) (status : ℕ) : Type 0 where
  pub old : Moment
  pub new : Moment
  pub out_old : Sight
  pub out_new : Sight
  pub untold_files : old.files ≡ None
  pub untold_input : old.left ≡ None
  pub ends : EndsFor (job_of words) old new out_old out_new status
