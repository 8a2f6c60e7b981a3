-- Pieces of code that need no tree, only the registers of its operands.
use Rattle.std.specs.Prelude.{ℕ, ◌+◌, if◌then◌else◌, pos, List, [], ◌∷◌, Some, None}
use Rattle.flow_code.specs.declared.act.Act.{Act}
use Rattle.flow_code.specs.declared.act.Act.TheVariants as act
use Rattle.flow_code.specs.declared.act.Instr.{Instr}
use Rattle.word_semantics.specs.declared.library_call.LibraryCall.{LibraryCall}
use Rattle.flow_code.specs.declared.work.Work.{Work}
use Rattle.flow_code.specs.declared.work.Work.TheVariants as work
use Rattle.rr_base.specs.declared.position.Position.{Position}
use Rattle.core_tree.specs.declared.value.UnaryOp.{UnaryOp}
use Rattle.core_tree.specs.declared.value.UnaryOp.TheVariants as unary_op
use Rattle.core_tree.specs.declared.value.Change.{Change}
use Rattle.core_tree.specs.declared.value.Change.TheVariants as change
use Rattle.lowering_parts.specs.Sizes.{gives_nothing}

-- the instruction's place in the source is that of its tree
abbrev pub instr : Position → Act → Instr
instr at a = record { at = at; act = a }

-- for a part of a tree that needs a single instruction
abbrev pub one : Position → Act → List Instr
one at a = instr at a ∷ []

-- one instruction, whose result goes to the register `into`
abbrev pub computes : Position → ℕ → Work → List Instr
computes at into w = one at (act.Compute into w)

-- of the word in register r
abbrev pub unary_work : UnaryOp → ℕ → Work
unary_work unary_op.Minus r = work.Minus r
unary_work unary_op.Complement r = work.Complement r
unary_work unary_op.Not r = work.Not r

-- of the word in register r, by the one in register `by`
abbrev pub change_work : Change → ℕ → ℕ → Work
change_work (change.Compute o) r by = work.Binary o r by
change_work (change.Move element back) r by = work.Move r by element back

-- 1 or 0 for the register r, from the place pc on, where the word in the register x is tested
abbrev pub truth_code : Position → ℕ → ℕ → ℕ → List Instr
truth_code at r x pc = instr at (act.Branch x (pc + 1) (pc + 3)) ∷ instr at (act.Compute r (work.Constant (pos 1))) ∷ instr at (act.Jump (pc + 4)) ∷ instr at (act.Compute r (work.Constant (pos 0))) ∷ []

-- a call of the library; where it gives nothing, the register r gets 0 after it
abbrev pub library_code : Position → ℕ → LibraryCall → List ℕ → List Instr
library_code at r c arguments = if gives_nothing c then instr at (act.Library c arguments None) ∷ computes at r (work.Constant (pos 0)) else one at (act.Library c arguments (Some r))
