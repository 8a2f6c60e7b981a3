-- Grains by the lists that they are read from.
use Rattle.std.specs.Prelude.{◌≡◌, ℕ, ◌&&◌, Bool, true, if◌then◌else◌, List, is_none, filter}
use Rattle.std.specs.BTreeMap as tree
use Rattle.flow_code.specs.declared.code.Code.{Code}
use Rattle.facts.specs.declared.pair.AccessAt.{AccessAt}
use Rattle.facts.specs.declared.pair.Pair.{Pair}
use Rattle.profiles.specs.declared.profile.Profile.{Profile}
use Rattle.facts.specs.Pairs.{act_of}
use Rattle.weak_lock_facts.specs.declared.grain.Grain.{Grain}
use Rattle.weak_lock_facts.specs.declared.grain.Grain.TheVariants as grain
use Rattle.weak_lock_facts.specs.declared.grain.Grained.{Grained}
use Rattle.weak_lock_facts.specs.declared.range.Range.{Range}
use Rattle.weak_lock_facts.specs.Grains.{is_met, loop_of, is_load_or_store, loop_grain, together}
use Rattle.grain_choice.specs.declared.rows.Basis.{Basis}
use Rattle.grain_choice.specs.Listed.{is_listed, ascend}
use Rattle.grain_choice.specs.Loops.{loop_at}
use Rattle.grain_choice.specs.Tables.{HaveFirsts, beside}

-- it has no loop grain, and may have that of its block
abbrev pub may_share : Code → tree.BTreeMap (ℕ × ℕ) ℕ → AccessAt → Bool
may_share code loops a = is_none (loop_at loops a) && is_load_or_store (act_of code a)

-- the accesses of pairs of which the profile has the functions, in order; those of them that may have the grain of their
-- blocks; and the blocks of the code
pub record IsBasis (code : Code) (b : Basis) : Type 0 where
  pub ascending : ascend b.met.items ≡ true
  pub narrow : b.narrow.items ≡ filter (λ a. may_share code b.loops a) b.met.items
  pub firsts : HaveFirsts code b.firsts

-- it is that of these pairs, ranges and profile
pub record IsBasisOf (code : Code) (ps : List Pair) (rs : List Range) (profile : Profile) (b : Basis) : Type 0 where
  pub basis : IsBasis code b
  pub met : (a : AccessAt) → is_listed b.met.items a ≡ is_met code ps profile a
  pub loops : (a : AccessAt) → loop_at b.loops a ≡ loop_of rs a

-- the access's grain by the lists that its basis has
abbrev pub grain_by : Code → Basis → AccessAt → Grain
grain_by code b a = if is_listed b.met.items a then loop_grain (loop_at b.loops a) (if is_load_or_store (act_of code a) then together (beside code b.narrow.items a) else grain.Instruction) else grain.Function

-- a row of the listing: the access with its grain
abbrev pub row_by : Code → Basis → AccessAt → Grained
row_by code b a = record { access = a; grain = grain_by code b a }
