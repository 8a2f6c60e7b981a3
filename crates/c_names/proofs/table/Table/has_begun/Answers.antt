use Rattle.std.proofs.Common.{◌∙◌}
use Rattle.c_names.proofs.Tables.{has_text}
use Rattle.c_names.proofs.table.Table.has_begun.Goals as goal

pub returns : goal.returns
returns c = c.contains.ensures ∙ has_text c.args.self.now.begun.keys c.args.name.now
