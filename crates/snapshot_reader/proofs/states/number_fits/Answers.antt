use Rattle.std.proofs.Common.{rules, arith, refl, sym, ap, ◌∙◌}
use Rattle.std.proofs.lemmas.Grind.{common_steps}
use Rattle.std.proofs.lemmas.Bool.Decides.{nat_tests}
use Rattle.sync_objects.specs.declared.kind.ObjKind.{ObjKind}
use Rattle.snapshots.specs.Conditions.{number_fits}
use Rattle.snapshot_reader.proofs.StateNumbers.{cond_number, halt_number, output_number}
use Rattle.snapshot_reader.proofs.states.number_fits.Goals as goal

pub returns-in-Mutex : goal.returns-in-Mutex
returns-in-Mutex c = c.lock_fits.ensures.mutex ∙ ap (λ (k : ObjKind). number_fits c.args.code.now c.args.setup.now c.args.operations k c.args.state) (sym c.in-Mutex.is)

pub returns-in-Barrier : goal.returns-in-Barrier
returns-in-Barrier c = c.barrier_fits.ensures ∙ ap (λ (k : ObjKind). number_fits c.args.code.now c.args.setup.now c.args.operations k c.args.state) (sym c.in-Barrier.is)

pub returns-in-Rw : goal.returns-in-Rw
returns-in-Rw c = c.rw_fits.ensures ∙ ap (λ (k : ObjKind). number_fits c.args.code.now c.args.setup.now c.args.operations k c.args.state) (sym c.in-Rw.is)

pub returns-in-Slot : goal.returns-in-Slot
returns-in-Slot c = c.slot_fits.ensures ∙ ap (λ (k : ObjKind). number_fits c.args.code.now c.args.setup.now c.args.operations k c.args.state) (sym c.in-Slot.is)

pub returns-in-Threads : goal.returns-in-Threads
returns-in-Threads c = c.threads_fit.ensures ∙ ap (λ (k : ObjKind). number_fits c.args.code.now c.args.setup.now c.args.operations k c.args.state) (sym c.in-Threads.is)

pub returns-in-Input : goal.returns-in-Input
returns-in-Input c = c.input_fits.ensures ∙ ap (λ (k : ObjKind). number_fits c.args.code.now c.args.setup.now c.args.operations k c.args.state) (sym c.in-Input.is)

pub returns-in-Weak : goal.returns-in-Weak
returns-in-Weak c = rw c.in-Weak.is (search rules)

pub returns-in-Cond : goal.returns-in-Cond
returns-in-Cond c = rw c.in-Cond.is (rw (cond_number c.args.code.now c.args.setup.now c.args.operations c.args.state) refl)

pub returns-in-Halt : goal.returns-in-Halt
returns-in-Halt c = rw c.in-Halt.is (rw (halt_number c.args.code.now c.args.setup.now c.args.operations c.args.state) (first_of (search rules, grind (arith, common_steps), grind (arith, nat_tests))))

pub returns-in-Output : goal.returns-in-Output
returns-in-Output c = rw c.in-Output.is (rw (output_number c.args.code.now c.args.setup.now c.args.operations c.args.state) (first_of (search rules, grind (arith, common_steps), grind (arith, nat_tests))))
