use Rattle.std.proofs.Common.{sym, subst, None, List}
use Rattle.snapshot_grammar.specs.Parts.{TakesLine, left}
use Rattle.snapshot_grammar.proofs.Grammar.{line_none, line_taken}
use Rattle.snapshot_grammar.proofs.reader.Reader.next_line.Goals as goal

pub returns-in_err-line : goal.returns-in_err-line
returns-in_err-line c = subst (λ o. TakesLine (left c.args.self.now) o (left c.args.self.now)) (sym c.from_residual.ensures) (line_none c.args.self.now.line c.args.self.now.bytes.now c.in_err-line.ensures)

pub returns : goal.returns
returns c = line_taken c.args.self.now.line c.saturating_add-self.result c.args.self.now.bytes.now c.in_ok-line.line.now c.in_ok-line.rest.now c.in_ok-line.ensures c.saturating_add-self.ensures
