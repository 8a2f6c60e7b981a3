-- The counted loops of a code: those of the loops that a function lists which its instructions bear out. The code of
--     for (..; i < b; i += c) ..
-- is a Mark; the condition, which puts b into a register where it is a number, compares i with it, and branches to the body or
-- after the loop; the body; the last part, which copies i, puts c into a register, adds the two, copies the sum to i, and
-- gives the expression's value, which nothing uses, a register of its own; and a jump back to the Mark. The code of `i++` and
-- `++i` is the same but for that value, and that of `i = i + c` has no copy of i, which it adds itself. No other form need be
-- known.
use Rattle.std.specs.Prelude.{ℕ, ◌+◌, ◌-◌, ◌==◌, nat_lt, nat_le, ◌&&◌, ◌||◌, Bool, true, false, not, if◌then◌else◌, ℤ, pos, int_lt, List, [], ◌∷◌, ◌++◌, map, take, drop, Option, Some, None, slice_get, slice_range}
use Rattle.std.specs.List.{filter, list_all}
use Rattle.std.specs.Option.{option_and_then}
use Rattle.std.specs.Ordering.{int_eq}
use Rattle.flow_code.specs.declared.act.Act.{Act}
use Rattle.flow_code.specs.declared.act.Act.TheVariants as act
use Rattle.flow_code.specs.declared.act.Instr.{Instr}
use Rattle.flow_code.specs.declared.code.Code.{Code}
use Rattle.flow_code.specs.declared.code.Function.{Function}
use Rattle.flow_code.specs.declared.code.LoopInfo.{LoopInfo}
use Rattle.flow_code.specs.declared.region.Bound.{Bound}
use Rattle.flow_code.specs.declared.region.Bound.TheVariants as bound
use Rattle.flow_code.specs.declared.work.Work.TheVariants as work
use Rattle.word_semantics.specs.declared.operator.BinaryOp.TheVariants as op
use Rattle.flow_code.specs.Kinds.{has_whole}
use Rattle.flow_code.specs.Next.{act_in}
use Rattle.flow_code.specs.Order.{is_mark}
use Rattle.flow_code.specs.Regions.{bound_is_whole}
use Rattle.facts.specs.Paths.{is_never_assigned}
use Rattle.weak_lock_facts.specs.declared.loop_at.LoopAt.{LoopAt}

infixl 10 ◌>>=◌
-- for `do`: the first that isn't found ends the search
abbrev pub ◌>>=◌ : {A B : Type 0} → Option A → (A → Option B) → Option B
o >>= f = option_and_then f o

-- what the k-th instruction does; none past the end
abbrev pub nth : List Instr → ℕ → Option Act
nth is k = act_in (slice_get is k)

-- the instructions of a loop, from its Mark to its jump back
abbrev pub loop_code : List Instr → LoopInfo → List Instr
loop_code is l = slice_range is l.at (l.last + 2)

-- ---- single instructions

-- the register into which register r is copied
abbrev pub copy_into : ℕ → Option Act → Option ℕ
copy_into r (Some (act.Compute into (work.Copy q))) = if q == r then Some into else None
copy_into r _ = None

-- the register into which the number is put
abbrev pub number_into : ℤ → Option Act → Option ℕ
number_into z (Some (act.Compute into (work.Constant y))) = if int_eq y z then Some into else None
number_into z _ = None

-- the register that has the bound, which an instruction puts there only where it is a number
abbrev pub bound_into : Bound → Option Act → Option ℕ
bound_into (bound.Number z) a = number_into z a
bound_into (bound.Register r) a = Some r

-- how many instructions put the bound into a register
abbrev pub bound_size : Bound → ℕ
bound_size (bound.Number z) = 1
bound_size (bound.Register r) = 0

-- the operands are these two registers, and not one register twice
abbrev pub are_apart : (x y left right : ℕ) → Bool
are_apart x y left right = (left == x) && (right == y) && not (x == y)

-- the register into which it is put whether register x is less than y, another register
abbrev pub less_into : (x y : ℕ) → Option Act → Option ℕ
less_into x y (Some (act.Compute into (work.Binary op.Less left right))) = if are_apart x y left right then Some into else None
less_into x y _ = None

-- the register into which the sum of register x and of y, another register, is put
abbrev pub sum_into : (x y : ℕ) → Option Act → Option ℕ
sum_into x y (Some (act.Compute into (work.Binary op.Add left right))) = if are_apart x y left right then Some into else None
sum_into x y _ = None

-- the instruction adds something to register x
abbrev pub is_sum_of : (x : ℕ) → Option Act → Bool
is_sum_of x (Some (act.Compute into (work.Binary op.Add left right))) = left == x
is_sum_of x _ = false

-- the instruction branches on the register
abbrev pub is_branch : (on : Option ℕ) → (then_at else_at : ℕ) → Option Act → Bool
is_branch (Some r) m n (Some (act.Branch on then_at else_at)) = (on == r) && (then_at == m) && (else_at == n)
is_branch _ m n _ = false

-- the instruction copies the register into register r
abbrev pub is_copy : (from : Option ℕ) → (r : ℕ) → Option Act → Bool
is_copy (Some q) r (Some (act.Compute into (work.Copy from))) = (from == q) && (into == r)
is_copy _ r _ = false

-- the instruction copies some register
abbrev pub is_any_copy : Option Act → Bool
is_any_copy (Some (act.Compute into (work.Copy from))) = true
is_any_copy _ = false

-- a jump without a condition, to just this place
abbrev pub is_jump : (to : ℕ) → Option Act → Bool
is_jump k (Some (act.Jump to)) = to == k
is_jump k _ = false

-- ---- ways in

-- after the a-th and not after the b-th instruction
abbrev pub is_within : (a b k : ℕ) → Bool
is_within a b k = nat_lt a k && nat_le k b

-- a jump or branch goes to an instruction after a and not after b
abbrev pub goes_into : (a b : ℕ) → Act → Bool
goes_into a b (act.Jump to) = is_within a b to
goes_into a b (act.Branch on then_at else_at) = is_within a b then_at || is_within a b else_at
goes_into a b _ = false

-- none of these leads past the a-th instruction into those up to b
abbrev pub none_goes_into : (a b : ℕ) → List Instr → Bool
none_goes_into a b is = list_all (λ i. not (goes_into a b i.act)) is

-- of the instructions from a to b, jumps and branches of others go only to a
abbrev pub is_entered_at : List Instr → (a b : ℕ) → Bool
is_entered_at is a b = none_goes_into a b (take a is) && none_goes_into a b (drop (b + 1) is)

-- ---- counted loops

-- the counter is a whole number, as the bound is, and is raised by more than 0
abbrev pub are_numbers : Function → LoopInfo → Bool
are_numbers fn l = has_whole fn l.counter && bound_is_whole fn l.bound && int_lt (pos 0) l.step

-- the last part adds the counter itself, and not a copy
abbrev pub adds_itself : List Instr → LoopInfo → Bool
adds_itself is l = is_sum_of l.counter (nth is (l.last - 2))

-- where the last part begins
abbrev pub last_part_at : List Instr → LoopInfo → ℕ
last_part_at is l = if adds_itself is l then l.last - 3 else l.last - 4

-- where the condition ends
abbrev pub condition_end : LoopInfo → ℕ
condition_end l = l.at + 2 + bound_size l.bound

-- the condition stands after the Mark, and the last part after the body
abbrev pub has_places : List Instr → LoopInfo → Bool
has_places is l = (l.first == condition_end l + 1) && nat_le l.first (last_part_at is l)

-- the register that tells whether the counter is less than the bound
abbrev pub tested : List Instr → LoopInfo → Option ℕ
tested is l = do
  b ← bound_into l.bound (nth is (l.at + 1))
  less_into l.counter b (nth is (l.at + 1 + bound_size l.bound))

-- a Mark and the condition
abbrev pub begins_so : List Instr → LoopInfo → Bool
begins_so is l = is_mark (nth is l.at) && is_branch (tested is l) l.first (l.last + 2) (nth is (condition_end l))

-- the register that has the counter in the last part
abbrev pub added : List Instr → LoopInfo → Option ℕ
added is l = if adds_itself is l then Some l.counter else copy_into l.counter (nth is (l.last - 4))

-- the register that gets the counter and the step together
abbrev pub raised : List Instr → LoopInfo → Option ℕ
raised is l = do
  i ← added is l
  c ← number_into l.step (nth is (l.last - 3))
  sum_into i c (nth is (l.last - 2))

-- the last part and the jump back
abbrev pub ends_so : List Instr → LoopInfo → Bool
ends_so is l = is_copy (raised is l) l.counter (nth is (l.last - 1)) && is_any_copy (nth is l.last) && is_jump l.at (nth is (l.last + 1))

-- only the last part assigns the counter
abbrev pub keeps_counter : List Instr → LoopInfo → Bool
keeps_counter is l = is_never_assigned (slice_range is l.at (l.last - 1)) l.counter && is_never_assigned (slice_range is l.last (l.last + 2)) l.counter

-- nothing of the loop assigns the register
abbrev pub keeps : List Instr → LoopInfo → ℕ → Bool
keeps is l r = is_never_assigned (loop_code is l) r

-- a number never changes; a register mustn't be assigned in the loop
abbrev pub keeps_bound : List Instr → LoopInfo → Bound → Bool
keeps_bound is l (bound.Number z) = true
keeps_bound is l (bound.Register r) = keeps is l r

-- the loop is entered at its Mark, as its condition is, and its last part where it begins
abbrev pub is_entered_so : List Instr → LoopInfo → Bool
is_entered_so is l = is_entered_at is l.at (l.last + 1) && is_entered_at is l.at (condition_end l) && is_entered_at is (last_part_at is l) (l.last + 1)

-- its instructions stand as those of such a `for` (C99 6.8.5.3)
abbrev pub has_form : List Instr → LoopInfo → Bool
has_form is l = has_places is l && begins_so is l && ends_so is l

-- the body changes neither the counter nor the bound
abbrev pub keeps_numbers : List Instr → LoopInfo → Bool
keeps_numbers is l = keeps_counter is l && keeps_bound is l l.bound

-- its counter goes from the entry to the bound in equal steps
abbrev pub is_counted : Function → LoopInfo → Bool
is_counted fn l = are_numbers fn l && has_form fn.instrs l && keeps_numbers fn.instrs l && is_entered_so fn.instrs l

-- ---- their list

-- those of a function, in the order in which it lists them
abbrev pub counted_of : Function → List LoopInfo
counted_of fn = filter (is_counted fn) fn.loops

-- the loop with the number of its function
abbrev pub loop_in : (f : ℕ) → LoopInfo → LoopAt
loop_in f l = record { function = f; counted = l }

-- those of these functions, numbered from f on
abbrev pub counted_from : (f : ℕ) → List Function → List LoopAt
counted_from f [] = []
counted_from f (fn ∷ fns) = map (loop_in f) (counted_of fn) ++ counted_from (f + 1) fns

-- those of all functions, in the order of their numbers
abbrev pub counted_loops_of : Code → List LoopAt
counted_loops_of code = counted_from 0 code.functions
