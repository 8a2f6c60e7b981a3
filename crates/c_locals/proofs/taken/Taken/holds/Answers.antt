use Rattle.std.proofs.Common.{◌∙◌}
use Rattle.c_names.proofs.Tables.{has_text}
use Rattle.c_locals.proofs.taken.Taken.holds.Goals as goal

pub returns : goal.returns
returns c = c.contains.ensures ∙ has_text c.args.self.now.names.keys c.args.name.now
