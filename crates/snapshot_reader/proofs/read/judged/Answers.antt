use Rattle.std.proofs.Common.{Option, ℕ, subst}
use Rattle.snapshots.specs.Conditions.{judgements}
use Rattle.snapshot_reader.specs.Misfits.{Misfits}
use Rattle.snapshot_reader.proofs.Answering.{accepted, can_be, few_threads, refused}
use Rattle.snapshot_reader.proofs.read.judged.Goals as goal

pub misfit_line-requires-clause-threads : goal.misfit_line-requires-clause-threads
misfit_line-requires-clause-threads c = let given = c.requires.form in few_threads c.args.setup.now.slots given.0 c.args.draft c.slots-slots.ensures.within.few_slots given.1 given.2

pub misfit_line-requires-clause-few : goal.misfit_line-requires-clause-few
misfit_line-requires-clause-few c = c.is_small.ensures.few c.if-not-is_small.false

pub snapshot_of-requires : goal.snapshot_of-requires
snapshot_of-requires c =
    let code = c.args.code.now in
    let s = c.args.setup.now in
    let fit = subst (λ (o : Option ℕ). Misfits (judgements code s c.args.entries c.args.draft) 1 o) c.in-None.is c.in_ok-line.ensures in
    let given = c.requires.form in
    can_be code s c.args.entries c.requires.runnable c.slots-slots.ensures.within c.requires.locks c.requires.few (c.is_small.ensures.short c.if-not-is_small.false) given.0 c.args.draft given.1 given.2 (c.is_small.ensures.few c.if-not-is_small.false) fit

pub returns-in-Some : goal.returns-in-Some
returns-in-Some c = λ d bytes form text e.
    let code = c.args.code.now in
    let s = c.args.setup.now in
    let misfit = subst (λ (o : Option ℕ). Misfits (judgements code s c.args.entries c.args.draft) 1 o) c.in-Some.is c.in_ok-line.ensures in
    refused code s c.args.entries c.requires.runnable c.slots-slots.ensures.within c.requires.locks c.requires.few (c.is_small.ensures.short c.if-not-is_small.false) d c.args.draft form e (c.is_small.ensures.few c.if-not-is_small.false) bytes c.in-Some.line text misfit

pub returns-in_ok-snapshot_of-in-None : goal.returns-in_ok-snapshot_of-in-None
returns-in_ok-snapshot_of-in-None c = λ d bytes form text e.
    let code = c.args.code.now in
    let s = c.args.setup.now in
    let fit = subst (λ (o : Option ℕ). Misfits (judgements code s c.args.entries c.args.draft) 1 o) c.in-None.is c.in_ok-line.ensures in
    accepted code s c.args.entries c.requires.runnable c.slots-slots.ensures.within c.requires.locks c.requires.few (c.is_small.ensures.short c.if-not-is_small.false) d c.args.draft form e (c.is_small.ensures.few c.if-not-is_small.false) bytes c.in_ok-snapshot_of-in-None.field-0 text fit c.in_ok-snapshot_of-in-None.ensures
