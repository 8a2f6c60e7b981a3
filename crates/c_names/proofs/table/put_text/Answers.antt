use Rattle.std.proofs.Common.{ap, ◌∙◌}
use Rattle.c_names.specs.Table.{texts_of}
use Rattle.c_names.proofs.Tables.{with_text_of}
use Rattle.c_names.proofs.table.put_text.Goals as goal

pub returns : goal.returns
returns c = ap texts_of c.in_ok-insert.ensures.keys ∙ with_text_of c.args.names.now.keys c.args.name
