use Rattle.std.proofs.Common.{subst, sym}
use Rattle.checkpoint.specs.Resuming.{TakenIs}
use Rattle.sync_objects.specs.Setup.{IsWithinLimits}
use Rattle.walk_checkpoints.proofs.FilePut.{state_put}
use Rattle.walk_checkpoints.proofs.taking.taken_checkpoint.Goals as goal

pub returns-in-State : goal.returns-in-State
returns-in-State c =
    let a = c.args.weakened.now in
    let s = c.args.log.now.setup in
    let es = c.args.log.now.entries in
    let k = c.args.count in
    let within : IsWithinLimits s = subst IsWithinLimits c.setup.ensures c.slots-slots.ensures.within in
    let takes = subst (TakenIs a.weak s es k) c.in-State.is
    (subst (λ y. TakenIs y s es k c.in_ok-snapshot.field-0) c.code.ensures.value
    (subst (λ y. TakenIs c.code.result.now y es k c.in_ok-snapshot.field-0) c.setup-2.ensures
    (subst (λ ys. TakenIs c.code.result.now c.setup-2.result.now ys k c.in_ok-snapshot.field-0) c.entries.ensures.value c.in_ok-snapshot.ensures))) in
    state_put a.weak s es k c.args.name.now (λ st. c.law_walk_meets_conditions.ensures a s es k st c.code.ensures.kept within) c.in-State.snapshot takes c.read_numbers.ensures c.file_of.result c.file_of.ensures
