use Rattle.std.proofs.Common.{◌<◌, ap, arith}
use Rattle.word_semantics.specs.Limits.{most_entries, most_revokes}
use Rattle.thread_interpreter.specs.Flows.{Running}
use Rattle.thread_interpreter.proofs.FlowFacts.{sound_given_up}
use Rattle.thread_interpreter.proofs.flow.Flow.give_up.Goals as goal

pub invariant_of-self : goal.invariant_of-self
invariant_of-self c =
    let entries_are = ap (λ (r : Running). r.kept.thread.entries) c.self.view_is in
    let revokes_are = ap (λ (r : Running). r.kept.thread.revokes) c.self.view_is in
    let entries : c.self.inside.state.thread.entries < most_entries = omega (arith, entries_are, c.requires.entries) in
    let revokes : c.self.inside.state.thread.revokes < most_revokes = omega (arith, revokes_are, c.requires.revokes) in
    sound_given_up _ _ _ _ _ _ _ c.self.invariant entries revokes c.give_up.ensures
