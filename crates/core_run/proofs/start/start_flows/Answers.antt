use Rattle.std.proofs.Common.{◌≡◌, ◌∙◌, ◌∷◌, ◌++◌, [], sym, subst, ap, arith, map}
use Rattle.core_run.specs.Shown.{RunAll, running_thread}
use Rattle.core_run.proofs.Starting.{run_all_push, threads_push}
use Rattle.core_run.proofs.start.start_flows.Goals as goal

pub loop-k-preserved : goal.loop-k-preserved
loop-k-preserved c =
    let inv = c.loop-k.invariant in
    let f = c.in_ok-flow.ensures in
    let r = c.in_ok-flow.flow in
    let items : c.push.new.self.items ≡ c.loop-k.flows.items ++ r ∷ [] = cc (c.in_ok-push.ensures.items) in
    record {
      all = subst (RunAll c.args.code.now c.args.setup.now 0) (sym items) (run_all_push c.args.code.now c.args.setup.now 0 c.loop-k.flows.items r inv.all f.0 f.1 (f.2 ∙ omega (arith, inv.len)));
      len = omega (arith, inv.len, c.in_ok-push.ensures.len);
      threads = ap (map running_thread) items ∙ threads_push c.args.code.now c.args.setup.now c.loop-k.k c.loop-k.flows.items r inv.threads f.3;
    }
