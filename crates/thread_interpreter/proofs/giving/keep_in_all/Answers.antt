use Rattle.std.proofs.Common.{ap, ◌∙◌, filter}
use Rattle.std.specs.Prelude.{slice_get}
use Rattle.flow_code.specs.Threads.{OpenRegion}
use Rattle.flow_code.specs.Holding.{number_of_pair, is_listed, with_pairs}
use Rattle.thread_interpreter.specs.Flows.{changed_at}
use Rattle.thread_interpreter.proofs.Changing.{change_step}
use Rattle.thread_interpreter.proofs.giving.keep_in_all.Goals as goal

pub loop-at-preserved : goal.loop-at-preserved
loop-at-preserved c =
    let f : OpenRegion → OpenRegion = λ r. with_pairs r (filter (λ x. is_listed c.args.stripes.now (number_of_pair x)) r.stripes) in
    c.keep_at.ensures ∙ ap (λ z. changed_at f (slice_get z c.loop-at.at) z c.loop-at.at) c.loop-at.invariant ∙ change_step f _ c.loop-at.at
