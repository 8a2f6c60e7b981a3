use Rattle.std.proofs.Common.{◌∙◌}
use Rattle.c_names.proofs.Tables.{position_of_member}
use Rattle.c_names.proofs.table.index_in.Goals as goal

pub returns : goal.returns
returns c = c.get_index_of.ensures.index ∙ position_of_member c.args.members.now.entries c.args.name.now
