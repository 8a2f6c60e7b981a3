use Rattle.lowering_simulation.specs.SourceRuns.{IsBeforeEntry}
use Rattle.lowering_simulation.proofs.Parts.{parts}
use Rattle.lowering_simulation.proofs.laws.law_own_events.Goals as goal

pub returns : goal.returns
returns c = λ p setup transitions t run. parts p setup IsBeforeEntry transitions t run
