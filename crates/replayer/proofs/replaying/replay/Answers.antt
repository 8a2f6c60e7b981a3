use Rattle.std.proofs.Common.{sym, ◌∙◌}
use Rattle.replayer.specs.Replays.{entries_taken}
use Rattle.replayer.proofs.Counting.{turns_rose}
use Rattle.replayer.proofs.Gathering.{done_by}
use Rattle.replayer.proofs.replaying.replay.Goals as goal

pub conclude-requires-clause-followed : goal.conclude-requires-clause-followed
conclude-requires-clause-followed g c = (c.in-Ok-gather.ensures c.in-Ok.made.0 c.args.entries.now (done_by _ c.in-Ok.made.0 c.args.entries.now c.in-Ok-followers.jobs.items c.in-Ok-run.jobs.items c.in-Ok-followers.ensures.followers c.in-Ok-run.ensures.finished (λ f h z. (z.leads, z.ended)))).0

pub returns-in-Ok-conclude-clause-turns : goal.returns-in-Ok-conclude-clause-turns
returns-in-Ok-conclude-clause-turns g c =
    let cells = c.in-Ok.made.0 in
    let es = c.args.entries.now in
    let jobs = c.in-Ok-followers.jobs.items in
    let backs = c.in-Ok-run.jobs.items in
    let done = done_by _ cells es jobs backs c.in-Ok-followers.ensures.followers c.in-Ok-run.ensures.finished (λ f h z. (z.leads, z.ended)) in
    let both = c.in-Ok-gather.ensures cells es done in
    turns_rose cells es c.in-Ok-gather.gathered.seats.items c.in-Ok-gather.gathered.remains.items c.in-Ok-gather.gathered.all_ended jobs backs both.0 both.1 (done.followers.count ∙ sym c.in-Ok-followers.ensures.followers.count) c.in-Ok-followers.ensures.fresh (entries_taken es c.in-Ok-conclude.walk) (g.C.Crew.turns c.args.crew.now) (g.C.Crew.turns c.run.new.self) (c.in-Ok-conclude.ensures.taken both.0) c.in-Ok-run.ensures.turns
