-- The answers of the analyses fit each other.
use Rattle.std.proofs.Common.{◌≡◌, List, true, subst}
use Rattle.facts.specs.declared.locks.Summary.{Summary}
use Rattle.facts.specs.declared.pair.Pair.{Pair}
use Rattle.profiles.specs.declared.profile.Profile.{Profile}
use Rattle.facts.specs.Pairs.{pairs_ascend, ArePairs}
use Rattle.facts.specs.PointsTo.{Tables, HasRegisters, IsPointsTo}
use Rattle.facts.specs.Summaries.{AreSummaries}
use Rattle.flow_code.specs.declared.code.Code.{Code}
use Rattle.flow_code.specs.Constants.{constants_fit}
use Rattle.flow_code.specs.Valid.{is_valid}
use Rattle.weak_lock_facts.specs.declared.grain.Grained.{Grained}
use Rattle.weak_lock_facts.specs.declared.grain.Grains.{Grains}
use Rattle.weak_lock_facts.specs.declared.range.Range.{Range}
use Rattle.weak_lock_facts.specs.Grains.{AreGrains}
use Rattle.weak_lock_facts.specs.Ranges.{ranges_of}
use Rattle.weak_code.specs.Stripped.{is_plain}
use Rattle.weak_code.specs.Weakened.{weakened}
use Rattle.weak_valid.specs.Apart.{loops_are_apart}
use Rattle.guard_paths.specs.LoopsClosed.{loops_are_closed}
use Rattle.lock_sound.specs.Weakened.{IsAnalysed}

pub has_registers : (code : Code) (t : Tables) → IsPointsTo code t → HasRegisters code t
has_registers code t h = record { functions = h.functions; registers = h.registers }

pub ascending : (code : Code) (t : Tables) (ss : List Summary) (vs : List Pair) → ArePairs code t ss vs → pairs_ascend vs ≡ true
ascending code t ss vs h = h.ascending

pub grains_by : (code : Code) (t : Tables) (vs : List Pair) (profile : Profile) (rs : List Range) (rows : List Grained) → rs ≡ ranges_of code t → AreGrains code vs rs profile rows → AreGrains code vs (ranges_of code t) profile rows
grains_by code t vs profile rs rows r g = subst (λ (xs : List Range). AreGrains code vs xs profile rows) r g

pub weak_by : (code : Code) (t : Tables) (vs : List Pair) (rs : List Range) (rows : List Grained) (weak : Code) → rs ≡ ranges_of code t → weak ≡ weakened code t vs rs rows → weak ≡ weakened code t vs (ranges_of code t) rows
weak_by code t vs rs rows weak r w = subst (λ (xs : List Range). weak ≡ weakened code t vs xs rows) r w

pub analysed : (code : Code) (t : Tables) (ss : List Summary) (vs : List Pair) (profile : Profile) (grains : Grains) (weak : Code) → is_valid code ≡ true → is_plain code ≡ true → constants_fit code ≡ true → loops_are_apart code ≡ true → loops_are_closed code ≡ true → IsPointsTo code t → AreSummaries code ss → ArePairs code t ss vs → AreGrains code vs (ranges_of code t) profile grains.rows → weak ≡ weakened code t vs (ranges_of code t) grains.rows → IsAnalysed (record { plain = code; points = t; summaries = ss; pairs = vs; profile = profile; grains = grains; weak = weak })
analysed code t ss vs profile grains weak valid plain constants apart closed points sums pairs g w = record {
  valid = valid;
  without_locks = plain;
  constants = constants;
  apart = apart;
  closed = closed;
  points = points;
  summaries = sums;
  pairs = pairs;
  grains = g;
  weak = w;
}
