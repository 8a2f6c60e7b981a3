use Rattle.std.proofs.Common.{refl, subst, ap, ◌∙◌}
use Rattle.std.specs.List.{list_all}
use Rattle.replayer.specs.Replays.{AreWhole, has_ended_in}
use Rattle.replayer.proofs.replaying.gather.Goals as goal

pub returns : goal.returns
returns c = λ cells es done. (
  record {
    fs = c.args.followers.items;
    done = done;
    whole = subst AreWhole c.deref.ensures.value (c.some_is_out.ensures c.if-some_is_out.false);
    seats_are = c.in_ok-seats.ensures.seats;
    remains_are = c.in_ok-seats.ensures.remains;
    ended = c.all_have_ended-all_ended.ensures ∙ ap (list_all has_ended_in) c.deref-2.ensures.value;
  },
  refl,
)
