use Rattle.std.proofs.Common.{◌≡◌, ◌-◌, ◌<◌, slice_get, Some, None, sym, arith}
use Rattle.c_types.specs.Scopes.{members_of}
use Rattle.c_types.specs.Shown.{shown_maybe}
use Rattle.c_names.specs.Table.{known_of}
use Rattle.c_operators.proofs.Offsets.{cells_after, cells_met}
use Rattle.c_operators.proofs.context.Source.cells_of_first.Goals as goal

pub returns-in-None : goal.returns-in-None
returns-in-None c =
    let known = known_of c.args.self.now.whole in
    let ts = members_of (slice_get known.structs c.args.number) in
    let none : slice_get ts c.loop-index.index ≡ None = sym c.in-None.ensures in
    omega (arith, cells_after known ts (c.args.many - c.loop-index.index) c.loop-index.index none)

pub loop-index-preserved : goal.loop-index-preserved
loop-index-preserved c =
    let known = known_of c.args.self.now.whole in
    let ts = members_of (slice_get known.structs c.args.number) in
    let lt : c.loop-index.index < c.args.many = omega arith in
    let met : slice_get ts c.loop-index.index ≡ Some (shown_maybe c.in-Some.of) = sym c.in-Some.ensures in
    omega (arith, cells_met known ts c.args.many c.loop-index.index (shown_maybe c.in-Some.of) lt met)
