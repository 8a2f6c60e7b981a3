-- What expressions with commas between them do (C99 6.5.17), however they are joined: one after another is computed, and what
-- the last one gives is the whole's.
use Rattle.std.specs.Prelude.{◌≡◌, ℕ}
use Rattle.rr_base.specs.declared.position.Position.{Position}
use Rattle.sync_objects.specs.Setup.{SetupView}
use Rattle.c_tree.specs.Tree.{Exp, comma, Exps, no_exp, and_exp}
use Rattle.core_tree.specs.Core.{Program}
use Rattle.core_tree.specs.Runs.{M, ◌>>◌}
use Rattle.core_tree.specs.Meaning.{Calls, value}
use Rattle.c_operators.specs.Context.{Context}
use Rattle.c_values.specs.Expressions.{value_of}

module _ (p : Program) (s : SetupView) (t : ℕ) (calls : Calls) (h : Context) where
  -- what is done first, and after it one expression after another
  abbrev pub one_by_one : M ℕ → Exps → M ℕ
  one_by_one before no_exp = before
  one_by_one before (and_exp e es) = one_by_one (before >> value p s t calls (value_of h e)) es

-- left to right, each with all that it does before the next one
abbrev pub CommasGoInTurn : Type 0
CommasGoInTurn =
    (p : Program) (s : SetupView) (t : ℕ) (calls : Calls) (h : Context) (e : Exp) (es : Exps) (at : Position) →
    value p s t calls (value_of h (comma e es at)) ≡ one_by_one p s t calls h (value p s t calls (value_of h e)) es
