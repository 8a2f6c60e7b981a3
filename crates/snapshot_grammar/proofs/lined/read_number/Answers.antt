use Rattle.std.proofs.Common.{ℕ, Option, ◌++◌, min, refl, subst, arith}
use Rattle.order_log.specs.Text.{number_text}
use Rattle.snapshot_lines.specs.Lines.{IsAny, ReadsAs, long_most}
use Rattle.snapshot_grammar.specs.Parts.{left}
use Rattle.snapshot_grammar.proofs.Grammar.{line_lost, line_wrong}
use Rattle.snapshot_grammar.proofs.lined.read_number.Goals as goal

pub returns-in_default : goal.returns-in_default
returns-in_default c = line_lost ℕ IsAny (λ n. c.args.word.now ++ number_text n) 0 tt (left c.args.reader.now) c.args.reader.now.line refl (omega arith) c.in_default.ensures

pub returns-in-None : goal.returns-in-None
returns-in-None c =
    line_wrong ℕ IsAny (λ n. c.args.word.now ++ number_text n) (λ n. min n long_most) 0 tt (left c.args.reader.now) (left c.next_line.new.self) c.args.reader.now.line c.in-Some.text.now refl (omega arith) c.in-Some.ensures.0 c.in-None.ensures
