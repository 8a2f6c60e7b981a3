-- The regions of a function, and the instructions during which each is open: one for the accesses that are guarded with the
-- function, one for each loop and each block with accesses that are guarded with it, and one for each other access that may
-- race. They are numbered in this order, so a region within another has the greater number.
use Rattle.std.specs.Prelude.{ℕ, ◌+◌, ◌-◌, ◌==◌, ◌&&◌, Bool, true, false, if◌then◌else◌, ℤ, List, [], ◌∷◌, ◌++◌, length, map, filter, find, slice_get, Option, Some, None, option_map}
use Rattle.std.specs.List.{filter_map}
use Rattle.rr_base.specs.Words.{site_of}
use Rattle.rr_base.specs.declared.layout.Place.{Place}
use Rattle.flow_code.specs.declared.act.Act.{Act}
use Rattle.flow_code.specs.declared.act.Act.TheVariants as act
use Rattle.flow_code.specs.declared.act.Instr.{Instr}
use Rattle.flow_code.specs.declared.code.Code.{Code}
use Rattle.flow_code.specs.declared.code.Function.{Function}
use Rattle.flow_code.specs.declared.code.LoopInfo.{LoopInfo}
use Rattle.flow_code.specs.declared.region.Base.{Base}
use Rattle.flow_code.specs.declared.region.Base.TheVariants as base
use Rattle.flow_code.specs.declared.region.Region.TheVariants as region
use Rattle.flow_code.specs.declared.region.Span.{Span}
use Rattle.flow_code.specs.declared.work.Work.TheVariants as work
use Rattle.flow_code.specs.Next.{act_in}
use Rattle.flow_code.specs.Threads.{objects_of}
use Rattle.facts.specs.declared.pair.AccessAt.{AccessAt}
use Rattle.facts.specs.Accesses.{Access}
use Rattle.facts.specs.PointsTo.{Tables}
use Rattle.facts.specs.Pairs.{access_in, act_of, places_of}
use Rattle.weak_lock_facts.specs.declared.grain.Grain.{Grain}
use Rattle.weak_lock_facts.specs.declared.grain.Grain.TheVariants as grain
use Rattle.weak_lock_facts.specs.declared.grain.Grained.{Grained}
use Rattle.weak_lock_facts.specs.declared.range.Range.{Range}
use Rattle.weak_lock_facts.specs.Ranges.{last_maker, made_at}
use Rattle.weak_code.specs.declared.stretch.RacyAccess.{RacyAccess}
use Rattle.weak_code.specs.declared.stretch.Stretch.{Stretch}
use Rattle.weak_code.specs.WeakLocks.{with_number, locks_of}

-- ---- the accesses of a function that may race

-- the range is known of just this access
abbrev pub is_range_of : AccessAt → Range → Bool
is_range_of a r = (r.function == a.function) && (r.instr == a.instr)

-- how far the element of an access is from the counter of its loop, where its range is known
abbrev pub shift_of : List Range → AccessAt → Option ℤ
shift_of rs a = option_map (λ r. r.shift) (find (is_range_of a) rs)

-- an access with the weak locks of all places that it may touch
abbrev pub racy_through : Code → Tables → (locked : List Place) → List Range → Grained → Access → RacyAccess
racy_through code t locked rs g a = record {
  instr = g.access.instr;
  grain = g.grain;
  through = a.through;
  shift = shift_of rs g.access;
  locks = locks_of locked (places_of code t g.access);
}

-- none where the row names an instruction that makes no access
abbrev pub racy_access : Code → Tables → (locked : List Place) → List Range → Grained → Option RacyAccess
racy_access code t locked rs g = option_map (racy_through code t locked rs g) (access_in (act_of code g.access))

-- those of function f
abbrev pub racy_accesses : Code → Tables → (locked : List Place) → List Range → List Grained → (f : ℕ) → List RacyAccess
racy_accesses code t locked rs rows f = filter_map (racy_access code t locked rs) (filter (λ g. g.access.function == f) rows)

-- ---- some of them

-- the same width, and for a loop or a block the same one
abbrev pub same_grain : Grain → Grain → Bool
same_grain grain.Function grain.Function = true
same_grain (grain.Loop m) (grain.Loop n) = m == n
same_grain (grain.Block m) (grain.Block n) = m == n
same_grain grain.Instruction grain.Instruction = true
same_grain _ _ = false

-- those that are guarded at just this grain
abbrev pub with_grain : Grain → List RacyAccess → List RacyAccess
with_grain x accesses = filter (λ a. same_grain x a.grain) accesses

-- numbers in ascending order, with several more, and none of them twice
abbrev pub with_all : (found more : List ℕ) → List ℕ
with_all found [] = found
with_all found (n ∷ ns) = with_all (with_number n found) ns

-- the locks that were found, and those of these accesses
abbrev pub with_their_locks : (found : List ℕ) → List RacyAccess → List ℕ
with_their_locks found [] = found
with_their_locks found (a ∷ more) = with_their_locks (with_all found a.locks) more

-- all their locks, in ascending order
abbrev pub all_locks : List RacyAccess → List ℕ
all_locks accesses = with_their_locks [] accesses

-- the instruction of the last of them, the one before being at this place
abbrev pub last_of : ℕ → List RacyAccess → ℕ
last_of at [] = at
last_of at (a ∷ more) = last_of a.instr more

-- ---- the region of the function: from after the making of its objects on to its end

-- no region where no access is guarded with the function
abbrev pub function_stretch : Function → List RacyAccess → List Stretch
function_stretch fn [] = []
function_stretch fn (a ∷ more) = record { first = length (objects_of fn.instrs); last = length fn.instrs - 1; region = region.Whole (all_locks (a ∷ more)) } ∷ []

-- ---- the region of a counted loop: from its Mark on to its jump back

-- the register from which a moved pointer was made
abbrev pub moved_from : Option Act → Option ℕ
moved_from (Some (act.Compute into (work.Move pointer by element back))) = Some pointer
moved_from _ = None

-- where the pointer in a register comes from: a global, or a register that the loop keeps
abbrev pub origin_of : ℕ → Option Act → Base
origin_of r (Some (act.Compute into (work.Address w))) = base.Site (site_of w)
origin_of r _ = base.Register r

-- what the q-th instruction moves: the pointer in a register, or none
abbrev pub origin_after : List Instr → (q through : ℕ) → Option ℕ → Base
origin_after is q through None = base.Register through
origin_after is q through (Some pointer) = origin_of pointer (made_at is q pointer)

-- the base by the instruction that last assigned the register, if any did
abbrev pub base_after : List Instr → (through : ℕ) → Option ℕ → Base
base_after is through None = base.Register through
base_after is through (Some q) = origin_after is q through (moved_from (act_in (slice_get is q)))

-- the base B of an access B[i + shift] at the k-th instruction, as its range has it: that of the pointer that was moved, as
-- it was in the block in which it was moved
abbrev pub element_base : List Instr → (k through : ℕ) → Base
element_base is k through = base_after is through (last_maker is k through)

-- the elements that the access touches in all turns of its loop
abbrev pub span_with : List Instr → RacyAccess → ℤ → Span
span_with is a shift = record { base = element_base is a.instr a.through; shift = shift; locks = a.locks }

-- none where the distance from the counter isn't known
abbrev pub span_of : List Instr → RacyAccess → Option Span
span_of is a = option_map (span_with is a) a.shift

-- of the accesses that are guarded with the loop of this Mark
abbrev pub spans_of : List Instr → (mark : ℕ) → List RacyAccess → List Span
spans_of is mark accesses = filter_map (span_of is) (with_grain (grain.Loop mark) accesses)

-- no region where no access is guarded with the loop
abbrev pub loop_stretch : LoopInfo → List Span → Option Stretch
loop_stretch l [] = None
loop_stretch l (s ∷ spans) = Some (record { first = l.at; last = l.last + 1; region = region.Ranged l.counter l.bound (s ∷ spans) })

-- those of all loops, in the order in which the function lists them
abbrev pub loop_stretches : Function → List RacyAccess → List Stretch
loop_stretches fn accesses = filter_map (λ l. loop_stretch l (spans_of fn.instrs l.at accesses)) fn.loops

-- ---- the region of a block: from the first to the last of its accesses that are guarded with it

-- a block takes the locks of all its accesses at once
abbrev pub block_stretch : ℕ → List RacyAccess → Stretch
block_stretch first accesses = record { first = first; last = last_of first accesses; region = region.Whole (all_locks accesses) }

-- that of the block of which the access is the first
abbrev pub block_from : List RacyAccess → RacyAccess → Option Stretch
block_from accesses a = if same_grain (grain.Block a.instr) a.grain then Some (block_stretch a.instr (with_grain (grain.Block a.instr) accesses)) else None

-- one for each block that guards an access
abbrev pub block_stretches : List RacyAccess → List Stretch
block_stretches accesses = filter_map (block_from accesses) accesses

-- ---- the region of an access alone

-- open for one instruction, on the one cell that it touches
abbrev pub access_stretch : RacyAccess → Stretch
access_stretch a = record { first = a.instr; last = a.instr; region = region.Cell (base.Register a.through) a.locks }

-- one for each access that no wider region guards
abbrev pub access_stretches : List RacyAccess → List Stretch
access_stretches accesses = map access_stretch (with_grain grain.Instruction accesses)

-- ---- all of them

-- regions in the order of their numbers: function, loops, blocks, accesses alone
abbrev pub stretches_of : Function → List RacyAccess → List Stretch
stretches_of fn accesses = function_stretch fn (with_grain grain.Function accesses) ++ (loop_stretches fn accesses ++ (block_stretches accesses ++ access_stretches accesses))
