-- Which locks a function knows by name. A path is a global cell, or so many cells after that to which a formal points
-- which the function never assigns.
use Rattle.std.specs.Prelude.{ℕ, zero, suc, ◌+◌, ◌^◌, ◌==◌, nat_lt, nat_le, ◌&&◌, ◌||◌, Bool, true, not, if◌then◌else◌, ℤ, pos, negsuc, ◌+ℤ◌, ◌*ℤ◌, List, [], ◌∷◌, map, Option, Some, None, slice_get}
use Rattle.std.specs.List.{list_all}
use Rattle.rr_base.specs.Words.{base_of}
use Rattle.flow_code.specs.declared.act.Act.{Act}
use Rattle.flow_code.specs.declared.act.Act.TheVariants as act
use Rattle.flow_code.specs.declared.act.Instr.{Instr}
use Rattle.flow_code.specs.declared.code.Function.{Function}
use Rattle.flow_code.specs.declared.work.Work.TheVariants as work
use Rattle.flow_code.specs.Next.{act_in}
use Rattle.word_semantics.specs.Pointers.{directed}
use Rattle.facts.specs.Blocks.{begins_block, assigns, constant_at}
use Rattle.facts.specs.declared.locks.LockPath.{LockPath}
use Rattle.facts.specs.declared.locks.LockPath.TheVariants.{Cell, Formal}
use Rattle.facts.specs.declared.locks.Naming.{Naming}
use Rattle.facts.specs.declared.locks.Naming.TheVariants.{Unknown, Nowhere, Named}

-- ---- what a register is known to hold

-- the first cell of a global object, or what a formal points to
pub data Root : Type 0 where
  global : ℕ → Root
  formal : ℕ → Root

-- a register points for sure to this cell, counted from a root
pub record Known : Type 0 where
  pub root : Root
  -- how many cells after it
  pub cells : ℕ

-- all through the function the register holds what it held at entry
abbrev pub is_never_assigned : List Instr → ℕ → Bool
is_never_assigned is r = list_all (λ i. not (assigns r (Some i.act))) is

-- a formal that is never assigned points where the caller's argument pointed
abbrev pub known_formal : (formals : ℕ) → List Instr → ℕ → Option Known
known_formal formals is r = if nat_lt r formals && is_never_assigned is r then Some (record { root = formal r; cells = 0 }) else None

-- so many cells on; nothing is known in front of the root
abbrev pub at_cells : Root → ℤ → Option Known
at_cells root (pos n) = Some (record { root = root; cells = n })
at_cells root (negsuc n) = None

-- what is known of a pointer moved by so many cells
abbrev pub known_on : Option Known → ℤ → Option Known
known_on None by = None
known_on (Some k) by = at_cells k.root (pos k.cells +ℤ by)

-- the same by elements of so many cells, if their number is a constant
abbrev pub known_on_by : Option Known → Option ℤ → (element : ℕ) → Bool → Option Known
known_on_by k None element back = None
known_on_by k (Some z) element back = known_on k (directed back z *ℤ pos element)

-- what an instruction gives, from what was known and which constants there were before it
abbrev pub known_of : (ℕ → Option Known) → (ℕ → Option ℤ) → Option Act → Option Known
known_of before constant (Some (act.Compute into (work.Address w))) = Some (record { root = global (base_of w); cells = 0 })
known_of before constant (Some (act.Compute into (work.Copy r))) = before r
known_of before constant (Some (act.Compute into (work.Member r by))) = known_on (before r) (pos by)
known_of before constant (Some (act.Compute into (work.Move r by element back))) = known_on_by (before r) (constant by) element back
known_of before constant _ = None

-- What a register is known to hold at the k-th instruction: a formal that is never assigned is known everywhere, and
-- another register by the last instruction before it in its block that assigns the register.
abbrev pub known_at : (formals : ℕ) → List Instr → ℕ → ℕ → Option Known
known_at formals is zero r = known_formal formals is r
known_at formals is (suc k) r =
    if begins_block is (suc k) then known_formal formals is r
    else if assigns r (act_in (slice_get is k)) then known_of (λ q. known_at formals is k q) (λ q. constant_at is k q) (act_in (slice_get is k))
    else known_at formals is k r

-- ---- names of locks

-- no object has more cells
abbrev pub most_cells : ℕ
most_cells = 65535

-- the name of the lock that lies n cells after a root
abbrev pub path_to : Root → ℕ → LockPath
path_to (global c) n = Cell (c + n)
path_to (formal i) n = Formal i n

-- the lock's name from what is known; past 65,535 cells there is none
abbrev pub naming_of : Option Known → Naming
naming_of None = Unknown
naming_of (Some k) = if nat_le k.cells most_cells then Named (path_to k.root k.cells) else Nowhere

-- how function f names the lock to which a register points at its k-th instruction
abbrev pub naming_at : Function → ℕ → ℕ → Naming
naming_at f k r = naming_of (known_at f.formals f.instrs k r)

-- the registers that a call of a function or of the library hands over
abbrev pub arguments_of : Act → List ℕ
arguments_of (act.Call g arguments into) = arguments
arguments_of (act.Library c arguments into) = arguments
arguments_of _ = []

-- the names of the arguments of these instructions, the first of which is the function's k-th
abbrev pub namings_from : Function → ℕ → List Instr → List (List Naming)
namings_from f k [] = []
namings_from f k (i ∷ is) = map (naming_at f k) (arguments_of i.act) ∷ namings_from f (suc k) is

-- the names of the arguments of each instruction
abbrev pub argument_namings : Function → List (List Naming)
argument_namings f = namings_from f 0 f.instrs

-- ---- paths of a called function, as the caller sees them

-- the path may lead to a cell, as no object has over 65,535
abbrev pub names_cell : LockPath → Bool
names_cell (Cell c) = true
names_cell (Formal i n) = nat_le n most_cells

-- what is handed over for a formal: nothing that is known, or a path
abbrev pub actual_of : Naming → Option LockPath
actual_of Unknown = None
actual_of Nowhere = Some (Formal 0 (most_cells + 1))
actual_of (Named p) = Some p

-- the path n cells after an argument's, if that is there and known
abbrev pub following : ℕ → Option (Option LockPath) → Option LockPath
following n (Some (Some (Cell c))) = Some (Cell (c + n))
following n (Some (Some (Formal i m))) = Some (Formal i (m + n))
following n _ = None

-- a path of the called function, where these are known of its arguments; none where the argument isn't known
abbrev pub substituted : LockPath → List (Option LockPath) → Option LockPath
substituted (Cell c) actuals = Some (Cell c)
substituted (Formal i n) actuals = following n (slice_get actuals i)

-- ---- sizes

-- a cell or an offset below 2^31: the sum of two is a number of 32 bits
abbrev pub is_small : LockPath → Bool
is_small (Cell c) = nat_lt c (2 ^ 31)
is_small (Formal i n) = nat_lt n (2 ^ 31)

-- all numbers in these paths are below 2^31
abbrev pub are_small : List LockPath → Bool
are_small ps = list_all is_small ps

-- an unknown argument is small, as it has no path
abbrev pub is_small_actual : Option LockPath → Bool
is_small_actual None = true
is_small_actual (Some p) = is_small p

-- the same for all arguments of a call
abbrev pub are_small_actuals : List (Option LockPath) → Bool
are_small_actuals actuals = list_all is_small_actual actuals

-- a cell below 2^31, or one of an object behind a formal: such are all paths that functions name
abbrev pub is_sized : LockPath → Bool
is_sized (Cell c) = nat_lt c (2 ^ 31)
is_sized (Formal i n) = nat_le n most_cells

-- all these paths are such as functions can name
abbrev pub are_sized : List LockPath → Bool
are_sized ps = list_all is_sized ps

-- ---- which paths may be one lock

-- two paths may lead to one lock but where they are two global cells, or two cells behind one formal
abbrev pub may_be : LockPath → LockPath → Bool
may_be (Cell a) (Cell b) = a == b
may_be (Formal i m) (Formal j n) = not (i == j) || (m == n)
may_be _ _ = true
