-- Tables that are filled one access or region after the other, and what they hold in the end.
use Rattle.std.specs.Prelude.{◌≡◌, ℕ, ◌<◌, Bool, true, false, if◌then◌else◌, ℤ, List, [], ◌++◌, length, option_map, option_to_list, Option, Some, slice_get, slice_index_or}
use Rattle.flow_code.specs.declared.act.Act.{Act}
use Rattle.flow_code.specs.declared.act.Act.TheVariants as act
use Rattle.flow_code.specs.declared.act.Instr.{Instr}
use Rattle.flow_code.specs.declared.code.Code.{Code}
use Rattle.flow_code.specs.declared.region.Span.{Span}
use Rattle.weak_lock_facts.specs.declared.grain.Grain.TheVariants as grain
use Rattle.weak_lock_facts.specs.declared.grain.Grained.{Grained}
use Rattle.weak_lock_facts.specs.declared.range.Range.{Range}
use Rattle.weak_code.specs.declared.stretch.RacyAccess.{RacyAccess}
use Rattle.weak_code.specs.declared.stretch.Stretch.{Stretch}
use Rattle.weak_code.specs.Stretches.{same_grain, shift_of, span_of, with_all, all_locks, with_grain, last_of}
use Rattle.weak_code.specs.Places.{beginning, ending, left, place_of}
use Rattle.weaken.specs.Registers.{access_through}
use Rattle.weaken.specs.declared.plan.Plan.{Plan}
use Rattle.weaken.specs.declared.plan.Part.{Part}

-- the shift that the first range in a group tells
abbrev pub shift_in : List (List Range) → (instr : ℕ) → Option ℤ
shift_in groups instr = option_map (λ r. r.shift) (slice_get (slice_index_or groups instr []) 0)

-- that in the group of each row's instruction is the row's, where an access stands there
abbrev pub AreShifts : Code → List Range → List (List Range) → List Grained → Type 0
AreShifts code rs groups rows = (k r : ℕ) (g : Grained) → slice_get rows k ≡ Some g → access_through code g.access ≡ Some r → shift_in groups g.access.instr ≡ shift_of rs g.access

-- the spans of the loop with this Mark, and that of one more access
abbrev pub with_span : List Instr → (mark : ℕ) → RacyAccess → List Span → List Span
with_span is mark a spans = if same_grain (grain.Loop mark) a.grain then spans ++ option_to_list (span_of is a) else spans

-- ---- blocks

-- what is known of a block, from the accesses so far that are guarded with it, and one more access
abbrev pub grown : (first : ℕ) → RacyAccess → Part → Part
grown first a p = if same_grain (grain.Block first) a.grain then record { last = a.instr; locks = with_all p.locks a.locks } else p

-- the end and the locks of the block's region
abbrev pub part_of : (first : ℕ) → List RacyAccess → Part
part_of first accesses = record { last = last_of first (with_grain (grain.Block first) accesses); locks = all_locks (with_grain (grain.Block first) accesses) }

-- ---- what stands before each instruction

-- the action ends its function's frame (C99 6.8.6.4)
abbrev pub returns : Act → Bool
returns (act.Return value) = true
returns _ = false

-- for each instruction of the function the numbers of the regions that begin with it, end before it and are left there,
-- and its place
pub record IsPlan (ss : List Stretch) (is : List Instr) (p : Plan) : Type 0 where
  pub begins : length p.begins.items ≡ length is
  pub ends : length p.ends.items ≡ length is
  pub left_long : length p.left.items ≡ length is
  pub long : length p.places.items ≡ length is
  pub beginning : (k : ℕ) → k < length is → slice_index_or p.begins.items k [] ≡ beginning ss k
  pub ending : (k : ℕ) → k < length is → slice_index_or p.ends.items k [] ≡ ending ss k
  pub left : (k : ℕ) (i : Instr) → slice_get is k ≡ Some i → slice_index_or p.left.items k [] ≡ left ss k i.act
  pub places : (k : ℕ) → k < length is → slice_index_or p.places.items k 0 ≡ place_of ss is k
