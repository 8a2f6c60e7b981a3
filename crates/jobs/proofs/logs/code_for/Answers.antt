use Rattle.std.proofs.Common.{sym, subst, length, ◌≤◌}
use Rattle.sync_objects.specs.Setup.{IsWithinLimits}
use Rattle.weak_lock_facts.specs.Ranges.{ranges_of}
use Rattle.jobs.proofs.Found.{compiles_purely}
use Rattle.jobs.proofs.OfLog.{code_for}
use Rattle.jobs.proofs.Replayed.{walks_as_source}
use Rattle.jobs.proofs.logs.code_for.Goals as goal

pub compiled-requires : goal.compiled-requires
compiled-requires c = subst (λ xs. length xs ≤ 1048576) (sym c.as_slice.ensures) c.requires

pub returns-clause-code : goal.returns-clause-code
returns-clause-code c =
    let log = c.args.log.now in
    let within : IsWithinLimits log.setup = subst IsWithinLimits c.setup.ensures c.slots-slots.ensures.within in
    code_for c.args.source.now c.as_slice.result.now log c.profile.result.now c.compiled.result c.as_slice.ensures c.profile.ensures.value
    (λ w h. walks_as_source h.0 log.setup log.entries w h.2.is h.2.of
    (λ end walks. c.law_text_erased_walk.ensures c.args.source.now h.0 w.points w.pairs (ranges_of w.plain w.points) w.grains.rows log.setup log.entries end c.requires h.1 within walks)
    (λ end walks. c.law_ordered_walk.ensures w log.setup log.entries end h.2.is within walks))
    c.compiled.ensures

pub returns-clause-pure : goal.returns-clause-pure
returns-clause-pure c = compiles_purely c.as_slice.result.now c.profile.result.now c.compiled.result c.compiled.ensures
