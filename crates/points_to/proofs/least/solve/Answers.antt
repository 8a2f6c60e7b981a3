use Rattle.std.proofs.Common.{sym, subst, length, ◌+◌}
use Rattle.facts.specs.PointsTo.{IsPointsTo}
use Rattle.points_to.specs.Ascending.{AreAscending}
use Rattle.points_to.proofs.Listed.{IsTable, are_tables}
use Rattle.points_to.proofs.Validity.{valid_there}
use Rattle.points_to.proofs.least.solve.Goals as goal

pub constraints_of-requires-clause-elements : goal.constraints_of-requires-clause-elements
constraints_of-requires-clause-elements c = (valid_there c.args.code.now c.requires).elements

pub fill-requires-clause-there : goal.fill-requires-clause-there
fill-requires-clause-there c = valid_there c.args.code.now c.requires

pub returns : goal.returns
returns c =
    let registers = subst (λ n. IsTable c.fill.new.sets 1 n c.in_ok-registers.registers) c.len-functions.ensures record { long = c.in_ok-registers.ensures.length; each = c.in_ok-registers.ensures.each } in
    let cells = subst (λ n. IsTable c.fill.new.sets (n + 1) (length c.args.code.now.sites) c.in_ok-cells.cells) c.len-functions.ensures (subst (λ n. IsTable c.fill.new.sets (c.len-functions.result + 1) n c.in_ok-cells.cells) c.len.ensures record { long = c.in_ok-cells.ensures.length; each = c.in_ok-cells.ensures.each }) in
    subst (IsPointsTo c.args.code.now) (sym c.new.ensures)
    (are_tables c.args.code.now c.fill.new.sets _ (valid_there c.args.code.now c.requires) c.in_ok-fill.ensures.wide c.in_ok-fill.ensures.fine c.in_ok-fill.ensures.met (subst AreAscending c.sets.view_is c.sets.invariant) registers cells)
