use Rattle.snapshot_grammar.specs.Parts.{left}
use Rattle.snapshot_grammar.proofs.Grammar.{no_text_left, text_taken}
use Rattle.snapshot_grammar.proofs.reader.Reader.takes_text.Goals as goal

pub returns-in-Some : goal.returns-in-Some
returns-in-Some c = text_taken c.args.text.now c.in-Some.line.now (left c.args.self.now) (left c.next_line.new.self) c.eq.result c.in-Some.ensures c.eq.ensures

pub returns-in-None : goal.returns-in-None
returns-in-None c more e = no_text_left c.args.text.now (left c.args.self.now).whole more c.in-None.ensures e
