use Rattle.std.proofs.Common.{[], Ok, sym, ap, subst, ◌∙◌, arith}
use Rattle.std.proofs.lemmas.Result.{err_from_is_err_and}
use Rattle.order_log.specs.Recogniser.{Fails, lines_in, pairs_from}
use Rattle.order_log.proofs.Loops.{pairs_from-capped, pairs_are_right}
use Rattle.order_log.proofs.pairs.function_pairs.Goals as goal

pub returns-in_err-pairs : goal.returns-in_err-pairs
returns-in_err-pairs c n e =
    let p = err_from_is_err_and c.from_residual.result c.from_residual.ensures.1 in
    let r = c.args.reader.now in
    let same = ap (λ k. pairs_from k [] (lines_in r.line r.bytes.now)) e ∙ pairs_from-capped n r.line r.bytes.now (omega arith) in
    rw (p.1, p.2) (subst (λ x. Fails c.in_err-pairs.field-0.0 x) same c.in_err-pairs.ensures)

pub new-requires : goal.new-requires
new-requires c = pairs_are_right c.args.count (lines_in c.args.reader.now.line c.args.reader.now.bytes.now) c.in_ok-pairs.field-0 _ c.in_ok-pairs.ensures

pub returns : goal.returns
returns c n e =
    let r = c.args.reader.now in
    let same = ap (λ k. pairs_from k [] (lines_in r.line r.bytes.now)) e ∙ pairs_from-capped n r.line r.bytes.now (omega arith) in
    sym same ∙ c.in_ok-pairs.ensures ∙ ap (λ ps. Ok (ps, lines_in c.pairs.new.reader.line c.pairs.new.reader.bytes.now)) (sym c.new.ensures)
