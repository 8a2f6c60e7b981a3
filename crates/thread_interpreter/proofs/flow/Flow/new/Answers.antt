use Rattle.std.proofs.Common.{◌≡◌}
use Rattle.thread_interpreter.specs.Starts.{start_thread}
use Rattle.thread_interpreter.proofs.FlowFacts.{sound_begun}
use Rattle.thread_interpreter.proofs.flow.Flow.new.Goals as goal

pub invariant_of-result : goal.invariant_of-result
invariant_of-result c =
    let is : c.reserve.new.self.thread ≡ start_thread c.args.code.now c.args.setup.now c.args.thread = cc in
    sound_begun _ _ _ _ c.requires.runnable c.arena_start-arena.ensures.within c.requires.thread is
