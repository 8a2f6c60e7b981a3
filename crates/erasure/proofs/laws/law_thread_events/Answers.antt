use Rattle.lowering_simulation.proofs.Parts.{parts}
use Rattle.erasure.specs.Erased.{IsAnywhere}
use Rattle.erasure.proofs.laws.law_thread_events.Goals as goal

pub returns : goal.returns
returns c = λ p setup transitions t run. parts p setup IsAnywhere transitions t run
