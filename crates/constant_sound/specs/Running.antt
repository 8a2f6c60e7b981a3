-- What folding gives, as running code gives it.
use Rattle.std.specs.Prelude.{◌≡◌, ℕ, Bool, true, false, Result, Ok, Err}
use Rattle.rr_base.specs.declared.trap.Trap.{Trap}
use Rattle.sync_objects.specs.Setup.{SetupView}
use Rattle.word_semantics.specs.Values.{word}
use Rattle.c_tree.specs.declared.expr.BinaryOp.{BinaryOp}
use Rattle.c_tree.specs.declared.expr.BinaryOp.TheVariants as op
use Rattle.c_types.specs.Numbers.{Computed, fits}
use Rattle.core_tree.specs.Core.{Exp, Program}
use Rattle.core_tree.specs.Meaning.{Calls, value}
use Rattle.core_tree.specs.Runs.{result_at}

-- the number's word, or the same trap
abbrev pub worded : Computed → Result ℕ Trap
worded (Ok n) = Ok (word n)
worded (Err t) = Err t

-- the number fits 64 bits
abbrev pub fit : Computed → Bool
fit (Ok n) = fits n
fit (Err t) = true

-- may leave its second operand unevaluated (C99 6.5.13, 6.5.14)
abbrev pub is_logical : BinaryOp → Bool
is_logical op.LogicalOr = true
is_logical op.LogicalAnd = true
is_logical _ = false

-- running the tree gives the number's word, or traps with the same cause at some line, and does nothing else
abbrev pub Computes : Program → SetupView → ℕ → Calls → Exp → Computed → Type 0
Computes p s t calls e c = (line : ℕ) × (value p s t calls e ≡ result_at line (worded c))
