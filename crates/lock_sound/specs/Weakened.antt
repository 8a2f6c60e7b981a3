-- A code beside what the analyses find of it, and its weakened code.
use Rattle.std.specs.Prelude.{◌≡◌, true, List}
use Rattle.facts.specs.declared.locks.Summary.{Summary}
use Rattle.facts.specs.declared.pair.Pair.{Pair}
use Rattle.profiles.specs.declared.profile.Profile.{Profile}
use Rattle.facts.specs.Pairs.{ArePairs}
use Rattle.facts.specs.PointsTo.{Tables, IsPointsTo}
use Rattle.facts.specs.Summaries.{AreSummaries}
use Rattle.flow_code.specs.declared.code.Code.{Code}
use Rattle.flow_code.specs.Constants.{constants_fit}
use Rattle.flow_code.specs.Valid.{is_valid}
use Rattle.weak_lock_facts.specs.declared.grain.Grains.{Grains}
use Rattle.weak_lock_facts.specs.Grains.{AreGrains}
use Rattle.weak_lock_facts.specs.Ranges.{ranges_of}
use Rattle.weak_code.specs.Stripped.{is_plain}
use Rattle.weak_code.specs.Weakened.{weakened}
use Rattle.weak_valid.specs.Apart.{loops_are_apart}
use Rattle.guard_paths.specs.LoopsClosed.{loops_are_closed}

-- the code, where its pointers point, the summaries of its functions, its race pairs, which functions may be at work at
-- once, the grains of its racy accesses by them, and the code with its weak locks
pub record Analysed : Type 0 where
  pub plain : Code
  pub points : Tables
  pub summaries : List Summary
  pub pairs : List Pair
  pub profile : Profile
  pub grains : Grains
  pub weak : Code

-- the code is valid and has no weak locks, its loops are as those of a source, and each of the others but the profile is the
-- one that the code and the profile have
pub record IsAnalysed (a : Analysed) : Type 0 where
  pub valid : is_valid a.plain ≡ true
  pub without_locks : is_plain a.plain ≡ true
  pub constants : constants_fit a.plain ≡ true
  pub apart : loops_are_apart a.plain ≡ true
  pub closed : loops_are_closed a.plain ≡ true
  pub points : IsPointsTo a.plain a.points
  pub summaries : AreSummaries a.plain a.summaries
  pub pairs : ArePairs a.plain a.points a.summaries a.pairs
  pub grains : AreGrains a.plain a.pairs (ranges_of a.plain a.points) a.profile a.grains.rows
  pub weak : a.weak ≡ weakened a.plain a.points a.pairs (ranges_of a.plain a.points) a.grains.rows
