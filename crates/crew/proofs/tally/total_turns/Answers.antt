use Rattle.std.proofs.Common.{◌≡◌, get_or, add-one, ap, ◌∙◌, arith}
use Rattle.crew.specs.Counts.{total}
use Rattle.crew.proofs.Totals.{total_more}
use Rattle.crew.proofs.tally.total_turns.Goals as goal

pub loop-job-preserved : goal.loop-job-preserved
loop-job-preserved g c =
    let k = c.loop-job.job-index in
    let more = total_more g.J.Job.turns c.args.jobs.now k c.job-item.result c.loop-job-test.true in
    let turns : c.from-sum.result ≡ g.J.Job.turns (get_or c.args.jobs.now k c.job-item.result) = c.from-sum.ensures ∙ (c.turns.ensures ∙ ap g.J.Job.turns c.job-item.is) in
    let before = c.loop-job.invariant in
    (rw add-one (omega arith), omega arith)
