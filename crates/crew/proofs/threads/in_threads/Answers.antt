use Rattle.std.proofs.Common.{◌≡◌, ap, ◌∙◌, arith}
use Rattle.crew.specs.Counts.{rises, total}
use Rattle.crew.proofs.Reaching.{rises_finished}
use Rattle.crew.proofs.threads.in_threads.Goals as goal

pub overflow_sub-rose : goal.overflow_sub-rose
overflow_sub-rose g c =
    let turns = g.J.Job.turns in let jobs = c.args.jobs.items in let back = c.in_ok-back.back.items in
    let more = rises_finished g.J.Job jobs back c.in_ok-back.ensures in
    let before : c.total_turns-before.result ≡ total turns jobs = c.total_turns-before.ensures ∙ ap (total turns) c.as_slice.ensures.value in
    let now : c.total_turns-now.result ≡ total turns back = c.total_turns-now.ensures ∙ ap (total turns) c.as_slice-2.ensures.value in
    omega arith

pub returns-clause-rose : goal.returns-clause-rose
returns-clause-rose g c =
    let turns = g.J.Job.turns in let jobs = c.args.jobs.items in let back = c.in_ok-back.back.items in
    let more = rises_finished g.J.Job jobs back c.in_ok-back.ensures in
    let before : c.total_turns-before.result ≡ total turns jobs = c.total_turns-before.ensures ∙ ap (total turns) c.as_slice.ensures.value in
    let now : c.total_turns-now.result ≡ total turns back = c.total_turns-now.ensures ∙ ap (total turns) c.as_slice-2.ensures.value in
    omega arith
