use Rattle.std.proofs.Common.{◌≡◌, None, sym, subst, rules}
use Rattle.snapshot_lines.specs.Fields.{IsValue}
use Rattle.snapshot_lines.proofs.Values.{plain_none, plain_some}
use Rattle.snapshot_lines.proofs.value.from_zero.Goals as goal

pub returns-in_err-number : goal.returns-in_err-number
returns-in_err-number c other =
    let none : c.from_residual.result ≡ None = search rules in
    subst (IsValue c.args.field.now) (sym none) (plain_none c.args.field.now other c.in_err-number.ensures)

pub returns : goal.returns
returns c other = subst (IsValue c.args.field.now) (sym c.low.ensures) (plain_some c.args.field.now c.in_ok-number.field-0 other c.in_ok-number.ensures)
