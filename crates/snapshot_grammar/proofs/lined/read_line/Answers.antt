use Rattle.std.proofs.Common.{Option, refl, subst, arith}
use Rattle.snapshot_lines.specs.Lines.{ReadsAs}
use Rattle.snapshot_grammar.specs.Parts.{left}
use Rattle.snapshot_grammar.proofs.Grammar.{line_lost, line_wrong}
use Rattle.snapshot_grammar.proofs.lined.read_line.Goals as goal

pub returns-in_default : goal.returns-in_default
returns-in_default g c = line_lost g.row.T.Denot g.T.Lined.stands g.T.Lined.line g.T.Lined.some g.met.T.Lined.some_stands (left c.args.reader.now) c.args.reader.now.line refl (omega arith) c.in_default.ensures

pub returns-in-None : goal.returns-in-None
returns-in-None g c =
    line_wrong g.row.T.Denot g.T.Lined.stands g.T.Lined.line g.T.Lined.clip g.T.Lined.some g.met.T.Lined.some_stands (left c.args.reader.now) (left c.next_line.new.self) c.args.reader.now.line c.in-Some.text.now refl (omega arith) c.in-Some.ensures.0
    (subst (λ (o : Option g.row.T.Denot). ReadsAs g.T.Lined.stands g.T.Lined.line g.T.Lined.clip c.in-Some.text.now o) c.in-None.is c.in_ok-item.ensures)
