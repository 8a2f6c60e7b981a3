use Rattle.std.proofs.Common.{rules}
use Rattle.snapshot_lines.proofs.Blanks.{over_tells}
use Rattle.snapshot_lines.proofs.fields.Fields.is_over.Goals as goal

pub returns : goal.returns
returns c = over_tells c.args.self.now.rest c.is_none.result (search rules)
