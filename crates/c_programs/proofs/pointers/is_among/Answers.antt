use Rattle.std.proofs.Common.{◌∙◌}
use Rattle.c_names.proofs.Tables.{has_text}
use Rattle.c_programs.proofs.pointers.is_among.Goals as goal

pub returns : goal.returns
returns c = c.contains.ensures ∙ has_text c.args.names.now.keys c.args.name.now
