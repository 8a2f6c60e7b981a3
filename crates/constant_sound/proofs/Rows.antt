-- Worked rows: what folding gives of a constant expression, and what its core tree as it is written gives when it runs.
use Rattle.std.proofs.Common.{◌≡◌, ℕ, ◌^◌, ◌-◌, pos, negsuc, List, [], ◌∷◌, map, Ok, Err, refl}
use Rattle.rr_base.specs.Positions.{position_at}
use Rattle.rr_base.specs.declared.trap.Trap.TheVariants as trap
use Rattle.sync_objects.specs.Setup.{SetupView}
use Rattle.c_tree.specs.declared.expr.BinaryOp.{BinaryOp}
use Rattle.c_tree.specs.declared.expr.BinaryOp.TheVariants as op
use Rattle.c_tree.specs.declared.expr.PrefixOp.TheVariants as prefix_op
use Rattle.c_tree.specs.Tree.{Exp, conditional, binary, prefix, number}
use Rattle.c_constants.specs.Values.{value_here}
use Rattle.core_tree.specs.Core.{Program}
use Rattle.core_tree.specs.Meaning.{Calls, value}
use Rattle.core_tree.specs.Runs.{result_at}
use Rattle.c_operators.specs.Context.{Context}
use Rattle.constant_sound.specs.Written.{written_of}

-- operators at their column of line 1
abbrev k : ℕ → ℕ → Exp
k n column = number (pos n) (position_at 1 column)

abbrev b : Exp → BinaryOp → ℕ → Exp → Exp
b left o column right = binary left o right (position_at 1 column)

abbrev minus : Exp → Exp
minus e = prefix prefix_op.Minus e (position_at 1 1)

-- `-7 / 2`, `-7 % 2`, `~5 ^ 3`, `2 < 1 || 4`, `0 && 1 / 0`, `1 ? 2 : 1 / 0`; `1 / 0`, `1 << 63`, `1 << 64`, `-9223372036854775807 - 2`
pub rows : List Exp
rows =
    b (minus (k 7 2)) op.Divide 4 (k 2 6)
    ∷ b (minus (k 7 2)) op.Remainder 4 (k 2 6)
    ∷ b (prefix prefix_op.Complement (k 5 2) (position_at 1 1)) op.Xor 4 (k 3 6)
    ∷ b (b (k 2 1) op.Less 3 (k 1 5)) op.LogicalOr 7 (k 4 10)
    ∷ b (k 0 1) op.LogicalAnd 3 (b (k 1 6) op.Divide 8 (k 0 10))
    ∷ conditional (k 1 1) (k 2 5) (b (k 1 9) op.Divide 11 (k 0 13)) (position_at 1 3)
    ∷ b (k 1 1) op.Divide 3 (k 0 5)
    ∷ b (k 1 1) op.ShiftLeft 3 (k 63 6)
    ∷ b (k 1 1) op.ShiftLeft 3 (k 64 6)
    ∷ b (minus (k (2 ^ 63 - 1) 2)) op.Subtract 22 (k 2 24)
    ∷ []

pub folded_rows : (h : Context) → map (value_here h.known) rows
    ≡ Ok (negsuc 2) ∷ Ok (negsuc 0) ∷ Ok (negsuc 6) ∷ Ok (pos 1) ∷ Ok (pos 0) ∷ Ok (pos 2) ∷ Err trap.DivideByZero ∷ Err trap.Overflow ∷ Err trap.ShiftRange ∷ Err trap.Overflow ∷ []
unfolding rows
folded_rows h = refl

pub run_rows : (p : Program) (s : SetupView) (t : ℕ) (calls : Calls) (h : Context) → map (λ e. value p s t calls (written_of h e)) rows
    ≡ map (result_at 1) (Ok (2 ^ 64 - 3) ∷ Ok (2 ^ 64 - 1) ∷ Ok (2 ^ 64 - 7) ∷ Ok 1 ∷ Ok 0 ∷ Ok 2 ∷ Err trap.DivideByZero ∷ Err trap.Overflow ∷ Err trap.ShiftRange ∷ Err trap.Overflow ∷ [])
unfolding rows
run_rows p s t calls h = refl
