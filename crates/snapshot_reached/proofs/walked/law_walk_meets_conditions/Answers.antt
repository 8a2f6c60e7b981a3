use Rattle.std.proofs.Common.{length}
use Rattle.std.specs.Prelude.{take}
use Rattle.core_run.specs.Machine.{start_state}
use Rattle.checkpoint.proofs.Aside.{walk_reached}
use Rattle.checkpoint.proofs.Between.{start_between, walk_between}
use Rattle.snapshot_reached.proofs.Meets.{meets}
use Rattle.snapshot_reached.proofs.walked.law_walk_meets_conditions.Goals as goal

pub returns : goal.returns
returns c = λ a setup entries at state is limits after stored.
    let reached = walk_reached a.weak setup (take at entries) state after.walked in
    let between = walk_between a.weak setup (take at entries) (start_state a.weak setup) state after.walked (start_between a.weak setup) in
    meets a is setup limits (length entries) at state reached after.within (λ t told there. between.entered t told there) after.words stored
