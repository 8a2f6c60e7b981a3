use Rattle.std.proofs.Common.{◌-◌, List, [], ◌∷◌, ◌++◌, ap, ◌∙◌, arith}
use Rattle.profiles.specs.Profile.{Pair}
use Rattle.order_log.specs.Line.{pair_in}
use Rattle.order_log.specs.Recogniser.{lines_in, pairs_from}
use Rattle.order_log.proofs.Loops.{pairs_more}
use Rattle.order_log.proofs.pairs.pairs.Goals as goal

pub loop-left-preserved : goal.loop-left-preserved
loop-left-preserved c =
    let after = lines_in c.next_line.new.reader.line c.next_line.new.reader.bytes.now in
    let pushed = c.in_ok-push.ensures.ok ∙ (λ i. c.loop-left.found ++ (c.in_ok-from_slice.ensures i, c.in_ok-from_slice-2.ensures i) ∷ []) in
    let more =
    pairs_more c.loop-left.left c.loop-left.found (lines_in c.loop-left.reader.line c.loop-left.reader.bytes.now) after c.in_ok-line.line.now (c.in-Some.first.now, c.in-Some.second.now) _
    (omega arith) c.in_ok-line.ensures (c.in-Some.ensures ∙ ap (λ (ps : List Pair). pair_in ps c.in_ok-line.line.now) c.as_slice.ensures) c.loop-left.invariant in
    ap (λ (ps : List Pair). pairs_from (c.loop-left.left - 1) ps after) pushed ∙ more
