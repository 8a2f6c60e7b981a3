use Rattle.std.proofs.Common.{◌≡◌, sym, subst, ◌∙◌}
use Rattle.flow_code.specs.Ranges.{InRange}
use Rattle.thread_interpreter.specs.Flows.{most_extra}
use Rattle.thread_interpreter.specs.Parts.{thread_of}
use Rattle.thread_interpreter.proofs.flow.Flow.resumed.Goals as goal

pub invariant_of-result : goal.invariant_of-result
invariant_of-result c =
    let is : c.reserve.new.self.thread ≡ thread_of c.args.part.now = c.reserve.ensures.same ∙ c.in_ok-state.ensures in
    record {
      runnable = c.requires.runnable;
      limits = c.slots-slots.ensures.within;
      number = c.requires.thread;
      range = subst (InRange c.args.code.now c.args.setup.now most_extra c.args.thread) (sym is) c.requires.range;
    }
