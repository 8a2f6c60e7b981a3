use Rattle.core_run.specs.Machine.{machine, start_state}
use Rattle.core_run.proofs.Lawful.{lawful}
use Rattle.lock_sound.proofs.Running.{weakened_runs}
use Rattle.race_free.proofs.Beginnings.{begins, stops}
use Rattle.race_free.proofs.laws.law_first_part.Goals as goal

pub returns : goal.returns
returns c = λ a setup first more middle end h limits runs whole.
    let lawful_here = lawful a.weak setup (weakened_runs a h) limits in (
      begins (machine a.weak setup) lawful_here first more (start_state a.weak setup) middle runs,
      stops (machine a.weak setup) lawful_here first more (start_state a.weak setup) middle end runs whole,
    )
