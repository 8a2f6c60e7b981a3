-- Blocks of a function's instructions, and the constants in them. A block begins at the first instruction, where a jump or
-- branch goes, and after each jump, branch, call, library call and return.
use Rattle.std.specs.Prelude.{◌≡◌, ℕ, zero, suc, ◌<◌, ◌==◌, ◌||◌, Bool, true, false, if◌then◌else◌, ℤ, List, length, Option, Some, None, slice_get}
use Rattle.std.specs.List.{list_any}
use Rattle.flow_code.specs.declared.act.Act.{Act}
use Rattle.flow_code.specs.declared.act.Act.TheVariants as act
use Rattle.flow_code.specs.declared.act.Instr.{Instr}
use Rattle.flow_code.specs.declared.work.Work.TheVariants as work
use Rattle.flow_code.specs.Next.{act_in}

-- ---- blocks

-- a block ends with this instruction
abbrev pub ends_block : Act → Bool
ends_block (act.Jump to) = true
ends_block (act.Branch on then_at else_at) = true
ends_block (act.Call g arguments into) = true
ends_block (act.Library c arguments into) = true
ends_block (act.Return value) = true
ends_block _ = false

-- a jump, or one way of a branch, leads to the k-th instruction
abbrev pub goes_to : ℕ → Act → Bool
goes_to k (act.Jump to) = to == k
goes_to k (act.Branch on then_at else_at) = (then_at == k) || (else_at == k)
goes_to k _ = false

-- a jump or branch goes there
abbrev pub is_target : List Instr → ℕ → Bool
is_target is k = list_any (λ i. goes_to k i.act) is

-- a block ends here, as it does behind the last instruction
abbrev pub may_end_block : Option Act → Bool
may_end_block None = true
may_end_block (Some a) = ends_block a

-- nothing stands before it, or a block ends there
abbrev pub follows_end : List Instr → ℕ → Bool
follows_end is zero = true
follows_end is (suc k) = may_end_block (act_in (slice_get is k))

-- control may come here from elsewhere than the instruction before
abbrev pub begins_block : List Instr → ℕ → Bool
begins_block is k = follows_end is k || is_target is k

-- each tells whether a block begins at the instruction in its place
abbrev pub AreStarts : List Instr → List Bool → Type 0
AreStarts is starts = (k : ℕ) → k < length is → slice_get starts k ≡ Some (begins_block is k)

-- ---- assignments

-- the register that an instruction assigns, if it assigns one
abbrev pub assigned : Act → Option ℕ
assigned (act.Compute into w) = Some into
assigned (act.Alloc into site size) = Some into
assigned (act.LoadCell into through) = Some into
assigned (act.Call g arguments into) = into
assigned (act.Library c arguments into) = into
assigned _ = None

-- an assigned register is this one; none is no register
abbrev pub is_register : ℕ → Option ℕ → Bool
is_register r None = false
is_register r (Some q) = q == r

-- the instruction may change what register r holds
abbrev pub assigns : ℕ → Option Act → Bool
assigns r None = false
assigns r (Some a) = is_register r (assigned a)

-- ---- constants

-- the constant that an instruction puts in its register, if it is one
abbrev pub constant_of : Option Act → Option ℤ
constant_of (Some (act.Compute into (work.Constant z))) = Some z
constant_of _ = None

-- The constant that a register holds at the k-th instruction: what the last instruction before it in its block that
-- assigns the register computes, if that is a constant.
abbrev pub constant_at : List Instr → ℕ → ℕ → Option ℤ
constant_at is zero r = None
constant_at is (suc k) r =
    if begins_block is (suc k) then None
    else if assigns r (act_in (slice_get is k)) then constant_of (act_in (slice_get is k)) else constant_at is k r

-- the register that tells how far an instruction moves a pointer, or how much it adds or subtracts
abbrev pub amount_register : Option Act → Option ℕ
amount_register (Some (act.Compute into (work.Move r by element back))) = Some by
amount_register (Some (act.Compute into (work.Binary op left right))) = Some right
amount_register _ = None

-- the constant in a register, where there is a register and it is known
abbrev pub constant_of_register : (ℕ → Option ℤ) → Option ℕ → Option ℤ
constant_of_register constant None = None
constant_of_register constant (Some r) = constant r

-- how far or how much, where that is a constant
abbrev pub amount_by : (ℕ → Option ℤ) → Option Act → Option ℤ
amount_by constant a = constant_of_register constant (amount_register a)

-- the constant amount of the k-th instruction, if its block tells it
abbrev pub amount_at : List Instr → ℕ → Option ℤ
amount_at is k = amount_by (constant_at is k) (act_in (slice_get is k))

-- each is the constant by which the instruction in its place moves a pointer, or that it adds or subtracts
abbrev pub AreAmounts : List Instr → List (Option ℤ) → Type 0
AreAmounts is amounts = (k : ℕ) → k < length is → slice_get amounts k ≡ Some (amount_at is k)
