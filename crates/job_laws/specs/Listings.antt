-- The listings of a source: of its race pairs, and of its weak locks.
use Rattle.std.specs.Prelude.{◌≡◌, List}
use Rattle.command_line.specs.declared.answer.Answer.TheVariants as answer
use Rattle.c_tree.specs.Tree.{Outer}
use Rattle.profiles.specs.declared.profile.Profile.{Profile}
use Rattle.profiles.specs.declared.profile.Profile.TheVariants as profile
use Rattle.listing.specs.Text.{races_text_of}
use Rattle.listing.specs.WeakText.{weak_text_of}
use Rattle.lock_sound.specs.Weakened.{Analysed}
use Rattle.job_outcomes.specs.Outcomes.{answers}
use Rattle.job_outcomes.specs.declared.outcome.Outcome.{Outcome}
use Rattle.job_laws.specs.Sources.{IsFound}

-- the listing of the race pairs, which are the same for every profile
pub record ListsRaces (os : List Outer) (o : Outcome) : Type 0 where
  pub found : Analysed
  pub is : IsFound os profile.All found
  pub told : o ≡ answers (answer.Done (races_text_of found.plain found.pairs))

-- the listing of the weak locks and of the racy accesses for a profile
pub record ListsWeakLocks (p : Profile) (os : List Outer) (o : Outcome) : Type 0 where
  pub found : Analysed
  pub is : IsFound os p found
  pub told : o ≡ answers (answer.Done (weak_text_of found.plain found.weak.locks found.grains.rows))
