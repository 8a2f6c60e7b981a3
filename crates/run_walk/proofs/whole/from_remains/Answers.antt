use Rattle.run_walk.proofs.Ended.{shows, traps}
use Rattle.run_walk.proofs.whole.from_remains.Goals as goal

pub returns-in-None : goal.returns-in-None
returns-in-None c = λ code s f kept w. (w.end, shows code s f c.args.entries.now c.args.remains.now kept w c.in_ok-out.out c.in_ok-reads.reads c.in_ok-ends.ends c.in_ok-out.ensures c.in_ok-reads.ensures c.in_ok-ends.ensures, traps code s f c.args.entries.now c.args.remains.now kept w _ c.in-None.ensures)

pub returns-in-Some : goal.returns-in-Some
returns-in-Some c = λ code s f kept w. (w.end, shows code s f c.args.entries.now c.args.remains.now kept w c.in_ok-out.out c.in_ok-reads.reads c.in_ok-ends.ends c.in_ok-out.ensures c.in_ok-reads.ensures c.in_ok-ends.ensures, traps code s f c.args.entries.now c.args.remains.now kept w _ c.in-Some.ensures)
