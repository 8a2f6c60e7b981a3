use Rattle.std.proofs.Common.{length, subst, sym}
use Rattle.snapshots.specs.Snapshots.{IsResumable}
use Rattle.sync_objects.specs.Setup.{IsWithinLimits}
use Rattle.walk_checkpoints.proofs.going.walked_rest.Goals as goal

pub resume-requires-clause-resumable : goal.resume-requires-clause-resumable
resume-requires-clause-resumable c =
    let code = c.args.weakened.now.weak in
    let s = c.args.log.now.setup in
    let x = c.args.snapshot.now in
    let within : IsWithinLimits s = subst IsWithinLimits c.setup.ensures c.slots-slots.ensures.within in
    let can : IsResumable code s (length c.args.log.now.entries) x = c.law_resumable.ensures code s (length c.args.log.now.entries) x (c.law_weakened_runs.ensures c.args.weakened.now c.code.ensures.kept) within c.requires in
    subst (λ y. IsResumable y c.setup-2.result.now (length c.entries.result.now) x) (sym c.code.ensures.value)
    (subst (λ y. IsResumable code y (length c.entries.result.now) x) (sym c.setup-2.ensures)
    (subst (λ ys. IsResumable code s (length ys) x) (sym c.entries.ensures.value) can))
