use Rattle.std.proofs.Common.{arith, List}
use Rattle.flow_code.specs.declared.act.Instr.{Instr}
use Rattle.facts.specs.declared.locks.LockPath.{LockPath}
use Rattle.lockset_summary.specs.Rounds.{room}
use Rattle.lockset_summary.specs.Known.{IsTold, AreKnown}
use Rattle.lockset_summary.proofs.Rounds.{more, all_of}
use Rattle.lockset_summary.proofs.universe.tell_all.Goals as goal

pub loop-k-preserved : goal.loop-k-preserved
loop-k-preserved c = more (List (List LockPath)) (room LockPath) (AreKnown c.args.code.now) Instr (λ r. c.args.function.now.instrs) (λ k i r. IsTold c.args.f k c.args.function.now i r) c.loop-k.k c.args.rows.now.items c.loop-k.rows.items c.tell.new.rows.items c.loop-k.added c.in_ok-added.field-0 c.loop-k.invariant c.in_ok-added.ensures

pub returns : goal.returns
returns c = all_of (List (List LockPath)) (room LockPath) (AreKnown c.args.code.now) Instr (λ r. c.args.function.now.instrs) (λ k i r. IsTold c.args.f k c.args.function.now i r) c.loop-k.k c.args.rows.now.items c.loop-k.rows.items c.loop-k.added (omega (arith, c.loop-k-test.false, c.len-k-end.ensures)) c.loop-k.invariant
