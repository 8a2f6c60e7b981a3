-- Tables of a function's instructions: what is asked again and again of them, found once.
use Rattle.std.specs.Prelude.{◌≡◌, ℕ, zero, suc, nat_eq, ◌==◌, if◌then◌else◌, ◌<◌, ◌≤◌, nat_lt, Bool, true, List, [], ◌∷◌, length, take, drop, Option, Some, None, slice_get, slice_index_or}
use Rattle.std.specs.HashMap.{HashMap, get}
use Rattle.std.specs.List.{filter}
use Rattle.flow_code.specs.declared.act.Instr.{Instr}
use Rattle.flow_code.specs.declared.code.LoopInfo.{LoopInfo}
use Rattle.facts.specs.Blocks.{is_target, assigns}
use Rattle.loop_bounds.specs.declared.ways.Ways.{Ways}
use Rattle.weak_lock_facts.specs.Loops.{loop_code, nth}
use Rattle.weak_lock_facts.specs.Ranges.{mark_before, calls_nothing, moved_of, maker_at}

-- each is the place after the last jump or branch that goes to the instruction in its place, or 0 if none does
abbrev pub AreEnds : List Instr → List ℕ → Type 0
AreEnds is ends = (m k : ℕ) → m < length is → is_target (drop k is) m ≡ nat_lt k (slice_index_or ends m 0)

-- each is the first jump or branch that goes to the instruction in its place, or their number if none does
abbrev pub AreFirsts : List Instr → List ℕ → Type 0
AreFirsts is firsts = (m k : ℕ) → m < length is → k ≤ length is → is_target (take k is) m ≡ nat_lt (slice_index_or firsts m 0) k

-- of each instruction, the first and the last jump or branch to it
pub record AreWays (is : List Instr) (w : Ways) : Type 0 where
  pub firsts_long : length w.firsts.items ≡ length is
  pub ends_long : length w.ends.items ≡ length is
  pub firsts : AreFirsts is w.firsts.items
  pub ends : AreEnds is w.ends.items

-- the place after, or 0 where there is none
abbrev pub following : Option ℕ → ℕ
following None = 0
following (Some m) = suc m

-- each is the Mark of the innermost loop round the instruction in its place
abbrev pub AreRounds : List Instr → List (Option ℕ) → Type 0
AreRounds is rounds = (k : ℕ) → k < length rounds → slice_get rounds k ≡ Some (mark_before is k k)

-- nothing is called in a loop
abbrev pub is_calm : List Instr → LoopInfo → Bool
is_calm is l = calls_nothing (loop_code is l)

-- only these can have accesses with ranges
abbrev pub calm_loops : List Instr → List LoopInfo → List LoopInfo
calm_loops is ls = filter (is_calm is) ls

-- none of the loops calls a function or the library
abbrev pub AreCalm : List Instr → List LoopInfo → Type 0
AreCalm is ls = (k : ℕ) (l : LoopInfo) → slice_get ls k ≡ Some l → is_calm is l ≡ true

-- the first of the loops that begins at the place
abbrev pub first_at : List LoopInfo → ℕ → Option LoopInfo
first_at [] m = None
first_at (l ∷ ls) m = if l.at == m then Some l else first_at ls m

-- the only one of the first n instructions that assigns the register, or that there are several, if any does
abbrev pub one_more : ℕ → Option (Option ℕ) → Option (Option ℕ)
one_more n None = Some (Some n)
one_more n (Some o) = Some None

-- no maker; just one; or several, which count as unknown
abbrev pub makers_in : List Instr → (n r : ℕ) → Option (Option ℕ)
makers_in is zero r = None
makers_in is (suc n) r = if assigns r (nth is n) then one_more n (makers_in is n r) else makers_in is n r

-- none where there is no maker, or more than one
abbrev pub the_one : Option (Option ℕ) → Option ℕ
the_one None = None
the_one (Some o) = o

-- the instruction that alone assigns the register
abbrev pub sole_maker : List Instr → ℕ → Option ℕ
sole_maker is r = the_one (makers_in is (length is) r)

module _ {S : Type 0} where
  -- the table tells which instruction alone assigns each register
  abbrev pub AreMakers : List Instr → HashMap ℕ (Option ℕ) S → Type 0
  AreMakers is makers = (r : ℕ) → get nat_eq makers r ≡ makers_in is (length is) r

  -- the table tells which loop is the first that begins at each place
  abbrev pub AreHeads : List LoopInfo → HashMap ℕ LoopInfo S → Type 0
  AreHeads ls heads = (m : ℕ) → get nat_eq heads m ≡ first_at ls m

-- each has the last instructions before the move in its place, in its block, that assign the move's pointer and its number
abbrev pub AreOperands : List Instr → List (Option ℕ × Option ℕ) → Type 0
AreOperands is makers = (k : ℕ) (m : ℕ × ℕ) → k < length is → moved_of (nth is k) ≡ Some m → slice_get makers k ≡ Some (maker_at is k m.0, maker_at is k m.1)
