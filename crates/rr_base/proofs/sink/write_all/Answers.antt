use Rattle.std.proofs.Common.{◌≤◌, ◌∙◌, take, drop, length, arith}
use Rattle.std.proofs.lemmas.List.{take_rest, length-drop}
use Rattle.rr_base.proofs.Lists.{take-add}
use Rattle.rr_base.proofs.StreamLaws.{Took-more}
use Rattle.rr_base.specs.Streams.{Took}
use Rattle.rr_base.proofs.sink.write_all.Goals as goal

pub loop-at-preserved : goal.loop-at-preserved
loop-at-preserved g c =
    let before = c.loop-at.invariant in let now = c.in_ok-at.ensures in
    let n = c.in_ok-at.field-0 in let bytes = c.args.bytes.now in
    let rest = take_rest bytes c.loop-at.at in
    let fits : n ≤ length (drop c.loop-at.at bytes) = rw rest at now.fits in
    let more : Took (take n (drop c.loop-at.at bytes)) (g.O.Sink.held c.loop-at.sink) (g.O.Sink.held c.write.new.self) = rw rest at now.bytes in
    (omega (arith, length-drop c.loop-at.at bytes), rw (take-add c.loop-at.at n bytes) (Took-more _ _ _ _ _ before.1 more), now.faults ∙ before.2)
