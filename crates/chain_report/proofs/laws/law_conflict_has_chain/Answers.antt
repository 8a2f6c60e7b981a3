use Rattle.std.proofs.Common.{sym, ◌∙◌}
use Rattle.lowering_simulation.specs.WalkEvents.{labels_of_walk}
use Rattle.lowering_simulation.proofs.WalkRuns.{walk_is_run}
use Rattle.lock_sound.proofs.Running.{weakened_runs}
use Rattle.happens_before.proofs.Ordering.{ordered}
use Rattle.chain_report.proofs.Exists.{chain_exists}
use Rattle.chain_report.proofs.laws.law_conflict_has_chain.Goals as goal

pub returns : goal.returns
returns c = λ a s es end first second i j h limits walked earlier later lt apart conflict.
    chain_exists a.weak s es end first second i j (weakened_runs a h) limits walked earlier later
    (ordered a s (labels_of_walk a.weak s es) i j earlier.event later.event end h limits (walk_is_run a.weak s es end walked) lt earlier.happens later.happens (λ e. apart (sym earlier.own ∙ e ∙ later.own)) conflict)
