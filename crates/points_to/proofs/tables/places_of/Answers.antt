use Rattle.std.proofs.Common.{sym, map}
use Rattle.points_to.specs.Ascending.{row_at}
use Rattle.points_to.specs.Nodes.{place_from}
use Rattle.points_to.proofs.Pushed.{place_pushed}
use Rattle.points_to.proofs.tables.places_of.Goals as goal

pub loop-k-preserved : goal.loop-k-preserved
loop-k-preserved c = place_pushed (row_at c.args.sets.now c.args.spot.block c.args.spot.at) c.loop-k.k c.in-Some.number c.loop-k.places c.push.new.self (map place_from (row_at c.args.sets.now c.args.spot.block c.args.spot.at)) c.place_at.result (sym c.in-Some.ensures) c.place_at.ensures c.in_ok-push.ensures.ok c.loop-k.invariant
