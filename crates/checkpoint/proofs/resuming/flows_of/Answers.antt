use Rattle.std.proofs.Common.{◌≡◌, ◌∙◌, ◌+◌, ◌∷◌, ◌++◌, [], sym, subst, ap, arith, length, map}
use Rattle.flow_code.specs.Ranges.{InRange}
use Rattle.thread_interpreter.specs.Flows.{most_extra}
use Rattle.thread_interpreter.specs.Parts.{thread_of}
use Rattle.core_run.specs.Shown.{RunAll, running_thread}
use Rattle.core_run.proofs.Starting.{run_all_push}
use Rattle.checkpoint.proofs.Fronts.{first_is, place_rest, range_first, range_rest, threads_more}
use Rattle.checkpoint.proofs.resuming.flows_of.Goals as goal

pub loop-rest-init : goal.loop-rest-init
loop-rest-init c = record {
  all = subst (RunAll c.args.code.now c.args.setup.now 0) (sym c.new-flows.ensures.items) tt;
  len = ap length c.new-flows.ensures.items;
  place = omega arith;
  range = λ t p at. let same : t ≡ 0 + t = omega arith in subst (λ n. InRange c.args.code.now c.args.setup.now most_extra n (thread_of p)) same (c.requires.range t p at);
  threads = ap (λ z. map running_thread z ++ map thread_of c.args.parts.now) c.new-flows.ensures.items;
}

pub resumed-requires-clause-range : goal.resumed-requires-clause-range
resumed-requires-clause-range c =
    let e = first_is c.loop-rest.rest.now c.part-item.result c.in-len1-up.len_at_least c.part-item.is in
    range_first c.args.code.now c.args.setup.now c.loop-rest.thread c.loop-rest.rest.now _ c.part-item.result e c.loop-rest.invariant.range

pub loop-rest-preserved : goal.loop-rest-preserved
loop-rest-preserved c =
    let inv = c.loop-rest.invariant in
    let f = c.in_ok-flow.ensures in
    let r = c.in_ok-flow.flow in
    let e = first_is c.loop-rest.rest.now c.part-item.result c.in-len1-up.len_at_least c.part-item.is in
    let items : c.push.new.self.items ≡ c.loop-rest.flows.items ++ r ∷ [] = cc (c.in_ok-push.ensures.items) in
    record {
      all = subst (RunAll c.args.code.now c.args.setup.now 0) (sym items) (run_all_push c.args.code.now c.args.setup.now 0 c.loop-rest.flows.items r inv.all f.0 f.1 (f.2 ∙ omega (arith, inv.len)));
      len = omega (arith, inv.len, c.in_ok-push.ensures.len);
      place = place_rest c.loop-rest.thread (length c.args.parts.now) c.loop-rest.rest.now _ c.part-item.result e inv.place;
      range = range_rest c.args.code.now c.args.setup.now c.loop-rest.thread c.loop-rest.rest.now _ c.part-item.result e inv.range;
      threads = threads_more c.loop-rest.flows.items c.push.new.self.items r c.loop-rest.rest.now _ c.args.parts.now c.part-item.result items e f.3 inv.threads;
    }
