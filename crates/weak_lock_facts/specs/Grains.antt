-- The grain at which each racy access is guarded: the widest that it may have of its function, its counted loop, its block
-- and the access alone.
use Rattle.std.specs.Prelude.{◌≡◌, ℕ, zero, suc, ◌==◌, ◌&&◌, ◌||◌, Bool, true, false, if◌then◌else◌, List, [], ◌∷◌, ◌++◌, length, Option, Some, None, is_none, slice_get, filter}
use Rattle.std.specs.List.{list_any, Contains}
use Rattle.std.specs.Ordering.{is_eq}
use Rattle.flow_code.specs.declared.act.Act.{Act}
use Rattle.flow_code.specs.declared.act.Act.TheVariants as act
use Rattle.flow_code.specs.declared.act.Instr.{Instr}
use Rattle.flow_code.specs.declared.code.Code.{Code}
use Rattle.flow_code.specs.declared.code.Function.{Function}
use Rattle.flow_code.specs.Threads.{instrs_in}
use Rattle.facts.specs.declared.pair.AccessAt.{AccessAt}
use Rattle.facts.specs.declared.pair.Pair.{Pair}
use Rattle.profiles.specs.declared.profile.Profile.{Profile}
use Rattle.profiles.specs.declared.profile.Profile.TheVariants as profile
use Rattle.facts.specs.Blocks.{begins_block}
use Rattle.facts.specs.Pairs.{access_less, access_same, act_of}
use Rattle.profiles.specs.Profile.{Text, ordered, pair_order}
use Rattle.weak_lock_facts.specs.declared.grain.Grain.{Grain}
use Rattle.weak_lock_facts.specs.declared.grain.Grain.TheVariants as grain
use Rattle.weak_lock_facts.specs.declared.grain.Grained.{Grained}
use Rattle.weak_lock_facts.specs.declared.range.Range.{Range}

-- ---- racy accesses

-- the access is one of the two that may race
abbrev pub stands_in : AccessAt → Pair → Bool
stands_in a p = access_same p.first a || access_same p.second a

-- some pair has the access
abbrev pub is_racy : List Pair → AccessAt → Bool
is_racy ps a = list_any (λ p. stands_in a p) ps

-- ---- functions at work at once

-- a function that isn't there has the empty name
abbrev pub named : Option Function → Text
named None = []
named (Some fn) = fn.name

-- the name in the source, by which a profile names the function
abbrev pub name_of : Code → ℕ → Text
name_of code f = named (slice_get code.functions f)

-- a profile of all counts any two functions as at work at once
abbrev pub has_names : Profile → Text × Text → Bool
has_names profile.All q = true
has_names (profile.Pairs qs) q = list_any (λ r. is_eq (pair_order r q)) qs

-- the profile has the functions in which the accesses of the pair stand
abbrev pub is_seen : Code → Profile → Pair → Bool
is_seen code profile p = has_names profile (ordered (name_of code p.first.function) (name_of code p.second.function))

-- a pair of which the profile has the functions has the access
abbrev pub is_met : Code → List Pair → Profile → AccessAt → Bool
is_met code ps profile a = is_racy (filter (λ p. is_seen code profile p) ps) a

-- ---- loops

-- the range is known of just this access
abbrev pub is_range_of : AccessAt → Range → Bool
is_range_of a r = (r.function == a.function) && (r.instr == a.instr)

-- the Mark of the loop for which the range of the access is known
abbrev pub loop_of : List Range → AccessAt → Option ℕ
loop_of [] a = None
loop_of (r ∷ rs) a = if is_range_of a r then Some r.loop_at else loop_of rs a

-- ---- blocks

-- the first instruction of the block in which the k-th stands
abbrev pub block_at : List Instr → ℕ → ℕ
block_at is zero = zero
block_at is (suc k) = if begins_block is (suc k) then suc k else block_at is k

-- only these can share a block; a library call stands alone
abbrev pub is_load_or_store : Option Act → Bool
is_load_or_store (Some (act.LoadCell into through)) = true
is_load_or_store (Some (act.StoreCell through from)) = true
is_load_or_store _ = false

-- a racy load or store that is guarded neither with its function nor with a loop
abbrev pub is_narrow : Code → List Pair → List Range → Profile → AccessAt → Bool
is_narrow code ps rs profile a = is_met code ps profile a && (is_none (loop_of rs a) && is_load_or_store (act_of code a))

-- the numbers below n that pass the test, in order
abbrev pub those_below : (ℕ → Bool) → ℕ → List ℕ
those_below test zero = []
those_below test (suc n) = if test n then those_below test n ++ n ∷ [] else those_below test n

-- those of function f; none where the code has no such function
abbrev pub instrs_of : Code → ℕ → List Instr
instrs_of code f = instrs_in (slice_get code.functions f)

-- one of these stands at the k-th instruction, in the block of the access
abbrev pub is_beside : Code → List Pair → List Range → Profile → AccessAt → ℕ → Bool
is_beside code ps rs profile a k = is_narrow code ps rs profile (record { function = a.function; instr = k }) && (block_at (instrs_of code a.function) k == block_at (instrs_of code a.function) a.instr)

-- all of these in the block of the access
abbrev pub all_beside : Code → List Pair → List Range → Profile → AccessAt → List ℕ
all_beside code ps rs profile a = those_below (λ k. is_beside code ps rs profile a k) (length (instrs_of code a.function))

-- two or more are guarded together, from the first on
abbrev pub together : List ℕ → Grain
together (first ∷ second ∷ more) = grain.Block first
together _ = grain.Instruction

-- ---- grains

-- the loop where there is one, else what is narrower
abbrev pub loop_grain : Option ℕ → Grain → Grain
loop_grain None narrow = narrow
loop_grain (Some at) narrow = grain.Loop at

-- the grain where neither the function nor a loop guards the access
abbrev pub narrow_grain : Code → List Pair → List Range → Profile → AccessAt → Grain
narrow_grain code ps rs profile a = if is_load_or_store (act_of code a) then together (all_beside code ps rs profile a) else grain.Instruction

-- the grain of a racy access
abbrev pub grain_of : Code → List Pair → List Range → Profile → AccessAt → Grain
grain_of code ps rs profile a = if is_met code ps profile a then loop_grain (loop_of rs a) (narrow_grain code ps rs profile a) else grain.Function

-- each row's access comes before that of the next
abbrev pub rows_ascend : List Grained → Bool
rows_ascend [] = true
rows_ascend (x ∷ []) = true
rows_ascend (x ∷ y ∷ xs) = access_less x.access y.access && rows_ascend (y ∷ xs)

-- the rows have each racy access once, in order, with its grain
pub record AreGrains (code : Code) (ps : List Pair) (rs : List Range) (profile : Profile) (rows : List Grained) : Type 0 where
  pub ascending : rows_ascend rows ≡ true
  pub racy : (x : Grained) → Contains rows x → is_racy ps x.access ≡ true
  pub grains : (x : Grained) → Contains rows x → x.grain ≡ grain_of code ps rs profile x.access
  pub all : (a : AccessAt) → is_racy ps a ≡ true → (x : Grained) × Contains rows x × (x.access ≡ a)
