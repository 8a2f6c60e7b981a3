use Rattle.std.proofs.Common.{◌∙◌}
use Rattle.c_names.proofs.Tables.{position_of_text}
use Rattle.c_names.proofs.table.TableNames.struct_numbered.Goals as goal

pub returns : goal.returns
returns c = c.get_index_of.ensures.index ∙ position_of_text c.args.self.now.struct_names.keys c.args.name.now
