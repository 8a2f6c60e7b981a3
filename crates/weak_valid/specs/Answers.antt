-- The answers of the analyses on which weak locks rest.
use Rattle.std.specs.Prelude.{◌≡◌, List}
use Rattle.flow_code.specs.declared.code.Code.{Code}
use Rattle.facts.specs.declared.locks.Summary.{Summary}
use Rattle.facts.specs.declared.pair.Pair.{Pair}
use Rattle.profiles.specs.declared.profile.Profile.{Profile}
use Rattle.facts.specs.Pairs.{ArePairs}
use Rattle.facts.specs.PointsTo.{Tables, IsPointsTo}
use Rattle.weak_lock_facts.specs.declared.grain.Grained.{Grained}
use Rattle.weak_lock_facts.specs.declared.range.Range.{Range}
use Rattle.weak_lock_facts.specs.Grains.{AreGrains}
use Rattle.weak_lock_facts.specs.Ranges.{ranges_of}

-- where the code's pointers point, its race pairs by its summaries, its ranges, and its grains by a profile
pub record AreAnswers (code : Code) (t : Tables) (ss : List Summary) (vs : List Pair) (rs : List Range) (profile : Profile) (rows : List Grained) : Type 0 where
  pub points : IsPointsTo code t
  pub pairs : ArePairs code t ss vs
  pub ranges : rs ≡ ranges_of code t
  pub grains : AreGrains code vs rs profile rows
