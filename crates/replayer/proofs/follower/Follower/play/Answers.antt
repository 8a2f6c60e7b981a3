use Rattle.std.proofs.Common.{◌<◌, length, refl, sym, subst, ap, ◌∙◌, arith}
use Rattle.std.proofs.lemmas.Bool.{true≢false}
use Rattle.std.proofs.lemmas.Option.{slice_get_within}
use Rattle.replayer.specs.Following.{Following, next_of, is_over}
use Rattle.replayer.proofs.Follows.{is_going, sound_makes}
use Rattle.replayer.proofs.follower.Follower.play.Goals as goal

pub overflow_add-self : goal.overflow_add-self
overflow_add-self c =
    let inside : c.self.inside.made < length c.self.inside.wanted = slice_get_within c.self.inside.wanted c.self.inside.made c.args.next (ap next_of c.self.view_is ∙ c.requires.next) in
    let few = c.self.invariant.few in
    omega (arith, inside, few)

pub invariant_of-self-in-Makes : goal.invariant_of-self-in-Makes
invariant_of-self-in-Makes c =
    let i = c.self.inside in
    let f : Following = record { cells = i.cells.now; seat = i.seat; run = i.run; wanted = i.wanted; made = i.made; bound = i.bound; turns = i.turns; has_departed = i.has_departed; is_out = i.is_out; known = i.known } in
    let next = ap next_of c.self.view_is ∙ c.requires.next in
    let going = is_going f c.args.next c.self.invariant (ap is_over c.self.view_is ∙ c.requires.open) next in
    sound_makes f c.args.next c.self.invariant next going c.try_next.new.seat c.try_next.new.run c.in-Some.tried c.in-Some.ensures.tried (subst (λ (z : Following). z.made < z.turns) (sym c.self.view_is) c.requires.room) c.in-Makes.is

pub invariant_of-self : goal.invariant_of-self
invariant_of-self c =
    let i = c.self.invariant in
    let now = c.in_default.ensures in
    record {
      runnable = i.runnable;
      limits = i.limits;
      carrying = now.carrying;
      own = λ k w e. i.own k w e ∙ sym now.thread;
      within = i.within;
      few = i.few;
      listed = i.listed;
      on_track = λ alive. absurd (true≢false alive);
      cause = λ out. now.out refl;
    }
