use Rattle.std.proofs.Common.{◌≡◌, ◌∷◌, None, sym, subst, rules}
use Rattle.snapshot_lines.specs.Fields.{IsValue}
use Rattle.snapshot_lines.proofs.Values.{minus_none, minus_some}
use Rattle.snapshot_lines.proofs.value.below_zero.Goals as goal

pub returns-in_err-number : goal.returns-in_err-number
returns-in_err-number c =
    let none : c.from_residual.result ≡ None = search rules in
    subst (IsValue (45 ∷ c.args.digits.now)) (sym none) (minus_none c.args.digits.now c.in_err-number.ensures)

pub returns : goal.returns
returns c = subst (IsValue (45 ∷ c.args.digits.now)) (sym c.high.ensures) (minus_some c.args.digits.now c.in_ok-number.field-0 c.in_ok-number.ensures)
