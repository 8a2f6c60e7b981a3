use Rattle.std.proofs.Common.{◌≡◌, false, map}
use Rattle.thread_interpreter.specs.Flows.{Running}
use Rattle.thread_interpreter.specs.Parts.{is_loaded, part_of}
use Rattle.checkpoint.specs.Resuming.{KeepsWords}
use Rattle.checkpoint.proofs.Fronts.{first_is, parts_more, each_more, each_rest}
use Rattle.checkpoint.proofs.taking.parts_of.Goals as goal

pub loop-rest-preserved : goal.loop-rest-preserved
loop-rest-preserved c =
    let inv = c.loop-rest.invariant in
    let x = c.flow-item.result in
    let e = first_is c.loop-rest.rest.now x c.in-len1-up.len_at_least c.flow-item.is in
    record {
      parts = parts_more c.loop-rest.parts c.push.new.self c.in_ok-parts.field-0 c.loop-rest.rest.now _ (map (λ (r : Running). part_of r.kept.thread) c.args.flows.now) x c.in_ok-push.ensures.ok e c.in_ok-parts.ensures.part inv.parts;
      entered = each_rest (λ (r : Running). is_loaded r.kept.thread.phase ≡ false) c.loop-rest.rest.now _ x e inv.entered;
      words = λ keeps. inv.words (each_more (λ (r : Running). KeepsWords r.kept.thread) c.loop-rest.rest.now _ x e c.in_ok-parts.ensures.words keeps);
    }
