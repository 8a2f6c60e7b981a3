use Rattle.std.specs.Vec.Iter.{into_iter_items}
use Rattle.snapshot_reader.proofs.PartsMade.{part_made, parts_can}
use Rattle.snapshot_reader.proofs.making.parts_of.Goals as goal

pub loop-draft-preserved : goal.loop-draft-preserved
loop-draft-preserved c =
    let items = into_iter_items c.loop-draft.draft-iterator in
    let rest = into_iter_items c.next.new.self in
    let can = parts_can c.loop-draft.found c.push.new.self c.part_of.result c.in-Some.draft items rest c.in-Some.ensures.steps.0 c.in_ok-push.ensures.ok c.loop-draft.invariant.can in
    record {
      can_next = tt;
      is_finite = tt;
      can = can.1;
      made = part_made c.loop-draft.found c.push.new.self c.part_of.result c.in-Some.draft items rest _ c.in-Some.ensures.steps.0 c.in_ok-push.ensures.ok (c.part_of.ensures _ can.0) c.loop-draft.invariant.made;
    }
