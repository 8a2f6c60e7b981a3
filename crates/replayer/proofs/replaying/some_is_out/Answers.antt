use Rattle.std.proofs.Common.{◌<◌, length, sym, arith, rules}
use Rattle.std.proofs.lemmas.Option.{slice_get_within}
use Rattle.replayer.proofs.Gathering.{whole_below}
use Rattle.replayer.proofs.replaying.some_is_out.Goals as goal

pub loop-k-preserved : goal.loop-k-preserved
loop-k-preserved c =
    let inside : c.loop-k.k < length c.args.followers.now = search rules in
    whole_below c.args.followers.now c.loop-k.k c.index-followers-k.result inside c.index-followers-k.is (sym c.if-is_out.ensures.value) c.is_out.ensures.sound c.loop-k.invariant

pub returns : goal.returns
returns c = λ _ j f at. let inside = slice_get_within c.args.followers.now j f at in c.loop-k.invariant j f (omega (arith, inside)) at
