use Rattle.std.proofs.Common.{◌≡◌, ◌-◌, subst, sym, ap, ◌∙◌, arith}
use Rattle.std.specs.List.{AllZip}
use Rattle.crew.specs.Counts.{RoseBy, rises, total}
use Rattle.crew.specs.Turns.{Finished}
use Rattle.crew.specs.Schedule.{IsSpent}
use Rattle.crew.proofs.Reaching.{finished, rose, played}
use Rattle.crew.proofs.sched.SchedCrew.play.Goals as goal

pub count_turns-requires : goal.count_turns-requires
count_turns-requires g c =
    let turns = g.J.Job.turns in let laws = g.met.J.Job in
    let more = rose g.J.Job laws.reflexive laws.transitive c.as_slice-2.result.now c.args.jobs.items c.args.self.now.most c.in_ok-play.play c.play-is_done.new.self
    c.play-is_done.result c.in_ok-play.ensures c.play-is_done.ensures in
    let before : c.total_turns-before.result ≡ total turns c.args.jobs.items = c.total_turns-before.ensures ∙ ap (total turns) c.as_slice.ensures.value in
    let now : c.total_turns.result ≡ total turns c.play-is_done.new.self.jobs = c.total_turns.ensures ∙ ap (total turns) (c.as_slice-3.ensures.value ∙ c.into_jobs-jobs.ensures) in
    omega arith

pub returns-then-not-is_done-clause-fell_short : goal.returns-then-not-is_done-clause-fell_short
returns-then-not-is_done-clause-fell_short g c _ =
    let turns = g.J.Job.turns in let laws = g.met.J.Job in let last = c.play-is_done.new.self in
    let more = rose g.J.Job laws.reflexive laws.transitive c.as_slice-2.result.now c.args.jobs.items c.args.self.now.most c.in_ok-play.play last
    c.play-is_done.result c.in_ok-play.ensures c.play-is_done.ensures in
    let before : c.total_turns-before.result ≡ total turns c.args.jobs.items = c.total_turns-before.ensures ∙ ap (total turns) c.as_slice.ensures.value in
    let now : c.total_turns.result ≡ total turns last.jobs = c.total_turns.ensures ∙ ap (total turns) (c.as_slice-3.ensures.value ∙ c.into_jobs-jobs.ensures) in
    let by : c.total_turns.result - c.total_turns-before.result ≡ rises turns c.args.jobs.items last.jobs = omega arith in
    record {
      last = last.jobs;
      played = played g.J.Job c.args.self.now.order c.as_slice-2.result.now c.args.jobs.items c.args.self.now.most IsSpent c.in_ok-play.play last
          c.as_slice-2.ensures c.in_ok-play.ensures c.if-not-is_done.ensures;
      turns = subst (λ n. RoseBy n c.args.self.now.tally.turns c.count_turns.new.self.turns) by c.count_turns.ensures.turns;
    }

pub returns-clause-finished : goal.returns-clause-finished
returns-clause-finished g c =
    let laws = g.met.J.Job in
    subst (λ back. AllZip (Finished g.J.Job) c.args.jobs.items back) (sym c.into_jobs-jobs.ensures)
    (finished g.J.Job laws.reflexive laws.transitive c.as_slice-2.result.now c.args.jobs.items c.args.self.now.most c.in_ok-play.play c.play-is_done.new.self c.in_ok-play.ensures
    c.if-not-is_done.ensures)

pub returns-clause-turns : goal.returns-clause-turns
returns-clause-turns g c =
    let turns = g.J.Job.turns in let laws = g.met.J.Job in let last = c.play-is_done.new.self in
    let more = rose g.J.Job laws.reflexive laws.transitive c.as_slice-2.result.now c.args.jobs.items c.args.self.now.most c.in_ok-play.play last
    c.play-is_done.result c.in_ok-play.ensures c.play-is_done.ensures in
    let before : c.total_turns-before.result ≡ total turns c.args.jobs.items = c.total_turns-before.ensures ∙ ap (total turns) c.as_slice.ensures.value in
    let now : c.total_turns.result ≡ total turns last.jobs = c.total_turns.ensures ∙ ap (total turns) (c.as_slice-3.ensures.value ∙ c.into_jobs-jobs.ensures) in
    let by : c.total_turns.result - c.total_turns-before.result ≡ rises turns c.args.jobs.items last.jobs = omega arith in
    let counted : RoseBy (rises turns c.args.jobs.items last.jobs) c.args.self.now.tally.turns c.count_turns.new.self.turns
    = subst (λ n. RoseBy n c.args.self.now.tally.turns c.count_turns.new.self.turns) by c.count_turns.ensures.turns in
    let counted : RoseBy (rises turns c.args.jobs.items last.jobs) c.args.self.now.tally.turns c.count_jobs.new.self.turns
    = subst (λ n. RoseBy (rises turns c.args.jobs.items last.jobs) c.args.self.now.tally.turns n) (sym c.count_jobs.ensures.turns) counted in
    subst (λ back. RoseBy (rises turns c.args.jobs.items back) c.args.self.now.tally.turns c.count_jobs.new.self.turns) (sym c.into_jobs-jobs.ensures) counted
