-- Operators on two words, which may be pointers, and the addresses of globals (C99 6.5.5 to 6.5.12).
use Rattle.std.specs.Prelude.{ℕ, ◌+◌, ◌*◌, ◌%◌, ◌^◌, nat_lt, nat_le, Bool, true, false, List, Result}
use Rattle.rr_base.specs.Words.{offset_of}
use Rattle.rr_base.specs.declared.trap.Trap.{Trap}
use Rattle.rr_base.specs.declared.layout.Site.{Site}
use Rattle.word_semantics.specs.declared.operator.BinaryOp.{BinaryOp}
use Rattle.word_semantics.specs.declared.operator.BinaryOp.TheVariants as op
use Rattle.word_semantics.specs.Values.{truth, binary_of}
use Rattle.word_semantics.specs.Pointers.{compared}

-- the address with its base counted from cell 0 in place of the first global cell
abbrev pub based : ℕ → ℕ → ℕ
based slots address = (address + 2 * slots * 2 ^ 32) % 2 ^ 64

-- an operator on two pointers: they compare by their offsets
abbrev pub pointer_binary_of : List Site → BinaryOp → ℕ → ℕ → Result ℕ Trap
pointer_binary_of sites op.Less v w = compared sites v w (truth (nat_lt (offset_of v) (offset_of w)))
pointer_binary_of sites op.LessEqual v w = compared sites v w (truth (nat_le (offset_of v) (offset_of w)))
pointer_binary_of sites op.Greater v w = compared sites v w (truth (nat_lt (offset_of w) (offset_of v)))
pointer_binary_of sites op.GreaterEqual v w = compared sites v w (truth (nat_le (offset_of w) (offset_of v)))
pointer_binary_of sites o v w = binary_of o v w

-- an operator whose operands are both pointers, or both whole numbers
abbrev pub either_binary_of : Bool → List Site → BinaryOp → ℕ → ℕ → Result ℕ Trap
either_binary_of true sites o v w = pointer_binary_of sites o v w
either_binary_of false sites o v w = binary_of o v w
