use Rattle.std.proofs.Common.{Option, ℕ, subst}
use Rattle.snapshots.specs.Conditions.{thread_judged, threads_judged}
use Rattle.snapshot_reader.specs.Misfits.{Misfits}
use Rattle.snapshot_reader.proofs.ThreadSteps.{few_left, next_thread, numbered_left, thread_misfit}
use Rattle.snapshot_reader.proofs.threads.misfit_thread.Goals as goal

pub returns-in-Some : goal.returns-in-Some
returns-in-Some c =
    let code = c.args.code.now in
    let s = c.args.setup.now in
    let at = c.loop-rest.line in
    let h = subst (λ (o : Option ℕ). Misfits (thread_judged code s c.loop-rest.number c.thread-item.result) at o) c.in-Some.is c.in_ok-misfit.ensures in
    thread_misfit code s (threads_judged code s 0 c.args.threads.now) c.loop-rest.number c.loop-rest.rest.now c.thread-item.result c.args.first at c.in-Some.misfit
    c.in-len1-up.len_at_least c.thread-item.is c.loop-rest.invariant.judging h

pub loop-rest-preserved : goal.loop-rest-preserved
loop-rest-preserved c =
    let code = c.args.code.now in
    let s = c.args.setup.now in
    let at = c.loop-rest.line in
    let fits = subst (λ (o : Option ℕ). Misfits (thread_judged code s c.loop-rest.number c.thread-item.result) at o) c.in_default-2.is c.in_ok-misfit.ensures in
    record {
      judging = next_thread code s (threads_judged code s 0 c.args.threads.now) c.loop-rest.number c.loop-rest.rest.now c.thread-item.result c.args.first at c.line_after_thread-line.result
          c.in-len1-up.len_at_least c.thread-item.is c.loop-rest.invariant.judging fits c.line_after_thread-line.ensures;
      few = few_left c.loop-rest.rest.now c.loop-rest.invariant.few;
      numbered = numbered_left c.loop-rest.number c.loop-rest.rest.now _ c.in-len1-up.len_at_least c.loop-rest.invariant.numbered;
    }
