use Rattle.std.proofs.Common.{arith, refl}
use Rattle.snapshot_grammar.specs.Parts.{left}
use Rattle.snapshot_grammar.proofs.Whole.{no_title, opening_reads}
use Rattle.snapshot_grammar.proofs.draft.read_opening.Goals as goal

pub returns-then-not-takes_text : goal.returns-then-not-takes_text
returns-then-not-takes_text c = no_title (left c.args.reader.now) c.args.reader.now.line refl (omega arith) c.if-not-takes_text.ensures

pub returns : goal.returns
returns c = opening_reads (left c.args.reader.now) (left c.takes_text.new.self) (left c.read_number.new.reader) c.read_number.result c.if-not-takes_text.ensures c.read_number.ensures
