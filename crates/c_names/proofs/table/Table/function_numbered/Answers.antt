use Rattle.std.proofs.Common.{◌∙◌}
use Rattle.c_names.proofs.Tables.{position_of_text}
use Rattle.c_names.proofs.table.Table.function_numbered.Goals as goal

pub returns : goal.returns
returns c = c.get_index_of.ensures.index ∙ position_of_text c.args.self.now.defined.keys c.args.name.now
