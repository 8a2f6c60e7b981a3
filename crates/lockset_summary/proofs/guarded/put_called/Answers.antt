use Rattle.std.proofs.Common.{arith, ap, length, List}
use Rattle.facts.specs.declared.locks.Guarded.{Guarded}
use Rattle.lockset_summary.specs.Rounds.{room}
use Rattle.lockset_summary.specs.Guarding.{accesses_of, IsSeenAccess, AreMade}
use Rattle.lockset_summary.proofs.Making.{read_small, seen_made, seen_one}
use Rattle.lockset_summary.proofs.Rounds.{more, all_of}
use Rattle.lockset_summary.proofs.guarded.put_called.Goals as goal

pub seen_at-requires-clause-callee : goal.seen_at-requires-clause-callee
seen_at-requires-clause-callee c b h = read_small c.args.code.now c.args.points.now c.loop-j.rows.items c.deref-in-loop-j.result.now c.args.g c.loop-j.j b c.requires.ready (c.loop-j.invariant.sound c.requires.sound) c.deref-in-loop-j.ensures.value h

pub put_if-requires-clause-makes : goal.put_if-requires-clause-makes
put_if-requires-clause-makes c a h = seen_made c.args.code.now c.args.points.now c.loop-j.rows.items c.deref-in-loop-j.result.now c.args.f c.args.g c.loop-j.j c.args.actuals.now c.args.locks.now c.in_ok-access.access a (c.loop-j.invariant.sound c.requires.sound) c.deref-in-loop-j.ensures.value c.requires.makes c.in_ok-access.ensures h

pub loop-j-preserved : goal.loop-j-preserved
loop-j-preserved c = more (List (List Guarded)) (room Guarded) (AreMade c.args.code.now c.args.points.now) Guarded (λ r. accesses_of r c.args.g) (λ i b r. IsSeenAccess c.args.f c.args.actuals.now c.args.locks.now b r) c.loop-j.j c.args.rows.now.items c.loop-j.rows.items c.put_if.new.rows.items c.loop-j.added c.in_ok-added.field-0 c.loop-j.invariant
    (seen_one c.args.code.now c.args.points.now c.loop-j.rows.items c.put_if.new.rows.items c.args.f c.deref-in-loop-j.result.now c.args.g c.loop-j.j c.args.actuals.now c.args.locks.now c.in_ok-access.access c.in_ok-added.field-0 c.deref-in-loop-j.ensures.value c.in_ok-access.ensures c.in_ok-added.ensures)

pub returns : goal.returns
returns c = all_of (List (List Guarded)) (room Guarded) (AreMade c.args.code.now c.args.points.now) Guarded (λ r. accesses_of r c.args.g) (λ i b r. IsSeenAccess c.args.f c.args.actuals.now c.args.locks.now b r) c.loop-j.j c.args.rows.now.items c.loop-j.rows.items c.loop-j.added (omega (arith, c.loop-j-test.false, c.length_of-j-end.ensures, ap (λ (z : List (List Guarded)). length (accesses_of z c.args.g)) c.deref.ensures.value)) c.loop-j.invariant
