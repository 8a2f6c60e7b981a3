use Rattle.std.proofs.Common.{arith, ap, length, List}
use Rattle.facts.specs.declared.locks.LockPath.{LockPath}
use Rattle.lockset_summary.specs.Rounds.{room}
use Rattle.lockset_summary.specs.Known.{row_of, IsSeen, AreKnown}
use Rattle.lockset_summary.proofs.Rounds.{more, all_of}
use Rattle.lockset_summary.proofs.universe.put_all_called.Goals as goal

pub put_called-requires-clause-within : goal.put_called-requires-clause-within
put_called-requires-clause-within c = omega (arith, (c.loop-j.invariant.sound c.requires.known).long, c.requires.known.long, c.requires.within)

pub put_called-requires-clause-known : goal.put_called-requires-clause-known
put_called-requires-clause-known c = c.loop-j.invariant.sound c.requires.known

pub loop-j-preserved : goal.loop-j-preserved
loop-j-preserved c = more (List (List LockPath)) (room LockPath) (AreKnown c.args.code.now) LockPath (λ r. row_of r c.args.g) (λ i p r. IsSeen c.args.f c.args.actuals.now p r) c.loop-j.j c.args.rows.now.items c.loop-j.rows.items c.put_called.new.rows.items c.loop-j.added c.in_ok-added.field-0 c.loop-j.invariant c.in_ok-added.ensures

pub returns : goal.returns
returns c = all_of (List (List LockPath)) (room LockPath) (AreKnown c.args.code.now) LockPath (λ r. row_of r c.args.g) (λ i p r. IsSeen c.args.f c.args.actuals.now p r) c.loop-j.j c.args.rows.now.items c.loop-j.rows.items c.loop-j.added (omega (arith, c.loop-j-test.false, c.length_of-j-end.ensures, ap (λ (z : List (List LockPath)). length (row_of z c.args.g)) c.deref.ensures.value)) c.loop-j.invariant
