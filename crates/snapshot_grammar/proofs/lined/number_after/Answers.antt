use Rattle.std.proofs.Common.{ℕ, Option, None, sym, subst, ◌++◌, min}
use Rattle.order_log.specs.Text.{number_text}
use Rattle.snapshot_lines.specs.Lines.{IsAny, ReadsAs, long_most}
use Rattle.snapshot_grammar.proofs.OneLine.{no_word, number_reads}
use Rattle.snapshot_grammar.proofs.lined.number_after.Goals as goal

pub returns-in_err-after_word : goal.returns-in_err-after_word
returns-in_err-after_word c =
    subst (λ (o : Option ℕ). ReadsAs {A = ℕ} IsAny (λ n. c.args.word.now ++ number_text n) (λ n. min n long_most) c.args.text.now o) (sym c.from_residual.ensures)
    (λ n is e. no_word c.args.word.now c.args.text.now n c.in_err-after_word.ensures e)

pub returns : goal.returns
returns c = number_reads c.args.word.now c.args.text.now c.in_ok-after_word.field-0.now c.number.result c.in_ok-after_word.ensures c.number.ensures
