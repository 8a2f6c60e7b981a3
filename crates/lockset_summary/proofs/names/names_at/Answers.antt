use Rattle.std.proofs.Common.{arith, ◌∙◌}
use Rattle.lockset_summary.proofs.Naming.{names_long, names_there}
use Rattle.lockset_summary.proofs.names.names_at.Goals as goal

pub row_at-requires : goal.row_at-requires
row_at-requires c = omega (arith, c.requires.within, names_long c.args._function.now c.args.names.now c.requires.names)

pub returns : goal.returns
returns c i at = c.as_slice.ensures ∙ names_there c.args._function.now c.args.names.now c.args.k c.row_at.result.now i c.requires.names c.row_at.ensures at
