use Rattle.std.proofs.Common.{ap, ◌∙◌}
use Rattle.replayer.specs.Following.{Following}
use Rattle.replayer.proofs.Follows.{sound_known}
use Rattle.replayer.proofs.follower.Follower.put_known.Goals as goal

pub invariant_of-self : goal.invariant_of-self
invariant_of-self c =
    let i = c.self.inside in
    let f : Following = record { cells = i.cells.now; seat = i.seat; run = i.run; wanted = i.wanted; made = i.made; bound = i.bound; turns = i.turns; has_departed = i.has_departed; is_out = i.is_out; known = i.known } in
    sound_known f c.least.new.seat c.args.position c.least.result c.self.invariant (ap (λ (z : Following). z.known) c.self.view_is ∙ c.requires.none) (ap (λ (z : Following). z.has_departed) c.self.view_is ∙ c.requires.stays) c.least.ensures.seat c.least.ensures.view c.least.ensures.marks
