-- What an instruction that computes gives, from the registers of its frame.
use Rattle.std.specs.Prelude.{ℕ, ◌-◌, ◌*◌, ◌^◌, ◌==◌, Bool, false, pos, ◌-ℤ◌, ◌*ℤ◌, List, slice_index_or, Result, Ok}
use Rattle.rr_base.specs.declared.trap.Trap.{Trap}
use Rattle.rr_base.specs.declared.layout.Site.{Site}
use Rattle.flow_code.specs.declared.work.Work.{Work}
use Rattle.flow_code.specs.declared.work.Work.TheVariants as work
use Rattle.word_semantics.specs.declared.operator.BinaryOp.{BinaryOp}
use Rattle.word_semantics.specs.declared.operator.BinaryOp.TheVariants as op
use Rattle.word_semantics.specs.Values.{number, word, fitting, truth, binary_of}
use Rattle.word_semantics.specs.Pointers.{moved, moved_by, directed, compared, elements_between, pointer_to, number_from}
use Rattle.word_semantics.specs.Registers.{register}
use Rattle.word_semantics.specs.Operators.{based, either_binary_of}

-- whether a register holds a pointer
abbrev pub is_pointer : List Bool → ℕ → Bool
is_pointer pointers r = slice_index_or pointers r false

-- what a work gives: its word, or its trap
abbrev pub work_of : ℕ → List Site → List Bool → List ℕ → Work → Result ℕ Trap
work_of slots sites pointers registers (work.Constant z) = Ok (word z)
work_of slots sites pointers registers (work.Address address) = Ok (based slots address)
work_of slots sites pointers registers (work.Copy r) = Ok (register registers r)
work_of slots sites pointers registers (work.Minus r) = fitting (pos 0 -ℤ number (register registers r))
work_of slots sites pointers registers (work.Complement r) = Ok (2 ^ 64 - 1 - register registers r)
work_of slots sites pointers registers (work.Not r) = Ok (truth (register registers r == 0))
work_of slots sites pointers registers (work.Binary o left right) = either_binary_of (is_pointer pointers left) sites o (register registers left) (register registers right)
work_of slots sites pointers registers (work.Move pointer by element back) = moved_by sites (register registers pointer) (directed back (number (register registers by)) *ℤ pos element)
work_of slots sites pointers registers (work.Member pointer by) = moved sites (register registers pointer) (pos by)
work_of slots sites pointers registers (work.Between left right element) = compared sites (register registers left) (register registers right) (elements_between (register registers left) (register registers right) element)
work_of slots sites pointers registers (work.ToPointer r) = pointer_to (number (register registers r))
work_of slots sites pointers registers (work.ToNumber r) = number_from sites (register registers r)
