use Rattle.std.proofs.Common.{IsTrue, false, refl}
use Rattle.crew.specs.Schedule.{passes}
use Rattle.crew.proofs.Reaching.{gave}
use Rattle.crew.proofs.play.Play.chance.Goals as goal

pub returns-then-not-is_open : goal.returns-then-not-is_open
returns-then-not-is_open g c = passes (λ is. let e : IsTrue false = c.if-not-is_open.ensures.waiting.1 is in cc)

pub returns : goal.returns
returns g c =
    let named = c.if-not-is_open.ensures in let t = c.turn.ensures in
    gave g.J.Job (record { jobs = c.self.inside.jobs.items; over = c.self.inside.over.items; left = c.self.inside.left }) c.args.self.now c.args.at c.index_mut-job.result.now
    c.turn.new.self c.turn.result c.self.view_is (named.waiting.0 refl) (named.within refl) c.index_mut-job.ensures.value c.if-self-eq0.false
    (record { stays = t.stays; rose = t.turns; leads = t.leads }) t.ended
