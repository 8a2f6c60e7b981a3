-- Which codes are valid.
use Rattle.std.specs.Prelude.{ℕ, ◌^◌, ◌==◌, nat_le, ◌&&◌, ◌||◌, Bool, not, List, length, count_by, Some}
use Rattle.std.specs.List.{list_all}
use Rattle.flow_code.specs.declared.act.Instr.{Instr}
use Rattle.flow_code.specs.declared.code.Code.{Code}
use Rattle.flow_code.specs.declared.code.Function.{Function}
use Rattle.flow_code.specs.declared.code.LockInfo.{LockInfo}
use Rattle.flow_code.specs.declared.code.LoopInfo.{LoopInfo}
use Rattle.flow_code.specs.declared.region.Region.{Region}
use Rattle.word_semantics.specs.Layouts.{sites_fit}
use Rattle.flow_code.specs.Threads.{is_main_in}
use Rattle.flow_code.specs.Kinds.{act_fits}
use Rattle.flow_code.specs.Order.{order_fits}
use Rattle.flow_code.specs.Regions.{loop_fits, region_fits, lock_fits}
use Rattle.flow_code.specs.Addresses.{globals_fit}

-- formals are registers, and each register has a kind
abbrev pub registers_fit : Function → Bool
registers_fit f = nat_le f.formals f.registers && (length f.pointers == f.registers)

-- the function's instructions name what is there, with registers of the right kinds
abbrev pub acts_fit : Code → Function → List Instr → Bool
acts_fit code f is = list_all (λ i. act_fits code f i.act) is

-- the function's loops name its own instructions and registers
abbrev pub loops_fit : Function → List LoopInfo → Bool
loops_fit f loops = list_all (loop_fits f) loops

-- each region names what is there, with its locks in order
abbrev pub regions_fit : Code → Function → List Region → Bool
regions_fit code f regions = list_all (region_fits code f) regions

-- all that a valid code asks of one function
abbrev pub function_fits : Code → Function → Bool
function_fits code f = registers_fit f && order_fits f.instrs && acts_fit code f f.instrs && loops_fit f f.loops && regions_fit code f f.regions

-- the same for each of the code's functions
abbrev pub functions_fit : Code → List Function → Bool
functions_fit code fs = list_all (function_fits code) fs

-- each weak lock has a site of the code and 1 or 8 stripes
abbrev pub all_locks_fit : Code → List LockInfo → Bool
all_locks_fit code locks = list_all (lock_fits code) locks

-- the program's first function, by its name (C99 5.1.2.2.1)
abbrev pub is_main_function : Function → Bool
is_main_function f = is_main_in (Some f)

-- how many functions are named `main`; a valid code has 1
abbrev pub mains_in : List Function → ℕ
mains_in fs = count_by is_main_function fs

-- `main` is declared without `argc` and `argv`
abbrev pub mains_have_no_formals : List Function → Bool
mains_have_no_formals fs = list_all (λ f. not (is_main_function f) || (f.formals == 0)) fs

-- exactly one function is `main`, and it has no formals (C99 5.1.2.2.1)
abbrev pub has_one_main : List Function → Bool
has_one_main fs = (mains_in fs == 1) && mains_have_no_formals fs

-- the most weak locks: one for each of 64 classes of each of 1,023 sites
abbrev pub most_locks : ℕ
most_locks = 65472

-- at most 2^20 functions, 1,023 sites, 2^20 global cells, 65,472 weak locks
abbrev pub is_within_limits : Code → Bool
is_within_limits code = nat_le (length code.functions) (2 ^ 20) && nat_le (length code.sites) 1023 && nat_le (length code.globals) (2 ^ 20) && nat_le (length code.locks) most_locks

-- a code is valid where it is within the limits; the cells of each site have kinds; each weak lock has a site and 1 or 8
-- stripes; one function is `main`; what each function names is there, each register is used as the kind that it is, and
-- control stays in the function (Kinds.antt, Order.antt, Regions.antt); and the objects of globals lie within the
-- global cells, and apart (Addresses.antt)
abbrev pub is_valid : Code → Bool
is_valid code = is_within_limits code && sites_fit code.sites && all_locks_fit code code.locks && has_one_main code.functions && functions_fit code code.functions && globals_fit code
