-- Which registers, functions and sites an instruction of a valid code names, and the kind of each register.
use Rattle.std.specs.Prelude.{ℕ, ◌==◌, nat_lt, nat_le, ◌&&◌, ◌||◌, Bool, true, false, not, ℤ, pos, negsuc, List, [], ◌∷◌, length, take, Option, Some, None, slice_get, is_some}
use Rattle.flow_code.specs.declared.act.Act.{Act}
use Rattle.flow_code.specs.declared.act.Act.TheVariants as act
use Rattle.word_semantics.specs.declared.library_call.LibraryCall.{LibraryCall}
use Rattle.word_semantics.specs.declared.library_call.LibraryCall.TheVariants as call
use Rattle.flow_code.specs.declared.code.Code.{Code}
use Rattle.flow_code.specs.declared.code.Function.{Function}
use Rattle.flow_code.specs.declared.work.Work.{Work}
use Rattle.flow_code.specs.declared.work.Work.TheVariants as work
use Rattle.word_semantics.specs.declared.operator.BinaryOp.{BinaryOp}
use Rattle.flow_code.specs.Works.{is_pointer}
use Rattle.flow_code.specs.Threads.{is_main_in}
use Rattle.flow_code.specs.Addresses.{is_address}
use Rattle.word_semantics.specs.Kinds.{is_comparison, library_kinds}

-- ---- registers

-- registers are numbered from 0, so r is below their count
abbrev pub has_register : Function → ℕ → Bool
has_register f r = nat_lt r f.registers

-- the function has the register, and it is a pointer
abbrev pub has_pointer : Function → ℕ → Bool
has_pointer f r = has_register f r && is_pointer f.pointers r

-- the function has the register, and it is a whole number
abbrev pub has_whole : Function → ℕ → Bool
has_whole f r = has_register f r && not (is_pointer f.pointers r)

-- the function has the register, and whether it is a pointer is as said
abbrev pub has_kind : Function → Bool → ℕ → Bool
has_kind f true r = has_pointer f r
has_kind f false r = has_whole f r

-- both registers are there, and both are pointers or both whole numbers
abbrev pub same_register_kind : Function → ℕ → ℕ → Bool
same_register_kind f r q = has_kind f (is_pointer f.pointers r) q && has_register f r

-- the registers are as many as the kinds, and of these
abbrev pub have_kinds : Function → List ℕ → List Bool → Bool
have_kinds f [] [] = true
have_kinds f (r ∷ rs) (k ∷ ks) = has_kind f k r && have_kinds f rs ks
have_kinds f _ _ = false

-- ---- what an instruction computes (C99 6.5.2.3 to 6.5.12)

-- the only number that a constant pointer may have (C99 6.3.2.3)
abbrev pub is_null : ℤ → Bool
is_null (pos n) = n == 0
is_null (negsuc n) = false

-- the code has the site; the first one has number 1
abbrev pub is_site : Code → ℕ → Bool
is_site code s = nat_le 1 s && nat_le s (length code.sites)

-- two pointers compare; every other operator takes whole numbers
abbrev pub binary_fits : Function → ℕ → BinaryOp → ℕ → ℕ → Bool
binary_fits f into o left right = has_whole f into && (not (is_pointer f.pointers left) || is_comparison o) && same_register_kind f left right

-- an element has at least one cell
abbrev pub move_fits : Function → ℕ → (pointer by element : ℕ) → Bool
move_fits f into pointer by element = has_pointer f into && has_pointer f pointer && has_whole f by && nat_le 1 element

-- the difference of two pointers, in elements, is a whole number (C99 6.5.6)
abbrev pub between_fits : Function → ℕ → (left right element : ℕ) → Bool
between_fits f into left right element = has_whole f into && has_pointer f left && has_pointer f right && nat_le 1 element

-- the registers of a work are of the kinds that it takes and gives; a constant pointer is null
abbrev pub work_fits : Code → Function → ℕ → Work → Bool
work_fits code f into (work.Constant z) = has_register f into && (is_null z || not (is_pointer f.pointers into))
work_fits code f into (work.Address w) = has_pointer f into && is_address code w
work_fits code f into (work.Copy r) = same_register_kind f into r
work_fits code f into (work.Minus r) = has_whole f into && has_whole f r
work_fits code f into (work.Complement r) = has_whole f into && has_whole f r
work_fits code f into (work.Not r) = has_whole f into && has_register f r
work_fits code f into (work.Binary o left right) = binary_fits f into o left right
work_fits code f into (work.Move pointer by element back) = move_fits f into pointer by element
work_fits code f into (work.Member pointer by) = has_pointer f into && has_pointer f pointer
work_fits code f into (work.Between left right element) = between_fits f into left right element
work_fits code f into (work.ToPointer r) = has_pointer f into && has_whole f r
work_fits code f into (work.ToNumber r) = has_whole f into && has_pointer f r

-- ---- calls

-- the kinds of a function's formals
abbrev pub formal_kinds : Function → List Bool
formal_kinds f = take f.formals f.pointers

-- the register that gets a value, if one does, is of the value's kind
abbrev pub value_fits : Function → Option ℕ → Bool → Bool
value_fits f None kind = true
value_fits f (Some r) kind = has_kind f kind r

-- a call of a function other than `main`, with an argument for each formal
abbrev pub call_fits : Function → List ℕ → Option ℕ → Option Function → Bool
call_fits f arguments into None = false
call_fits f arguments into (Some g) = not (is_main_in (Some g)) && have_kinds f arguments (formal_kinds g) && value_fits f into g.gives_pointer

-- a function other than `main`, with one formal, a pointer, that gives a pointer (POSIX pthread_create)
abbrev pub may_start : Option Function → Bool
may_start None = false
may_start (Some g) = not (is_main_in (Some g)) && (g.formals == 1) && is_pointer g.pointers 0 && g.gives_pointer

-- a function that `pthread_create` names is one that a thread may run
abbrev pub starts_fit : Code → LibraryCall → Bool
starts_fit code (call.Create g) = may_start (slice_get code.functions g)
starts_fit code _ = true

-- a value of a library call is a whole number; two calls have none
abbrev pub library_value_fits : Function → Option ℕ → LibraryCall → Bool
library_value_fits f into call.Exit = not (is_some into)
library_value_fits f into call.Free = not (is_some into)
library_value_fits f into _ = value_fits f into false

-- the call's started function, arguments and value are of the kinds that POSIX asks
abbrev pub library_fits : Code → Function → LibraryCall → List ℕ → Option ℕ → Bool
library_fits code f c arguments into = starts_fit code c && have_kinds f arguments (library_kinds c) && library_value_fits f into c

-- ---- instructions

-- jumps, branches and loops may name only instructions of their own function
abbrev pub has_instr : Function → ℕ → Bool
has_instr f k = nat_lt k (length f.instrs)

-- a Take or Give may name only a region of its own function
abbrev pub has_region : Function → ℕ → Bool
has_region f k = nat_lt k (length f.regions)

-- all that an instruction names is there, and its registers are of the kinds that it takes and gives
abbrev pub act_fits : Code → Function → Act → Bool
act_fits code f (act.Compute into w) = work_fits code f into w
act_fits code f (act.Alloc into site size) = has_pointer f into && is_site code site && value_fits f size false
act_fits code f (act.LoadCell into through) = has_register f into && has_pointer f through
act_fits code f (act.StoreCell through from) = has_pointer f through && has_register f from
act_fits code f act.Mark = true
act_fits code f (act.Call g arguments into) = call_fits f arguments into (slice_get code.functions g)
act_fits code f (act.Library c arguments into) = library_fits code f c arguments into
act_fits code f (act.Jump to) = has_instr f to
act_fits code f (act.Branch on then_at else_at) = has_register f on && has_instr f then_at && has_instr f else_at
act_fits code f (act.Return value) = value_fits f value f.gives_pointer
act_fits code f (act.Take region) = has_region f region
act_fits code f (act.Give region) = has_region f region
