use Rattle.std.proofs.Common.{◌∙◌, arith}
use Rattle.std.proofs.lemmas.Bool.{le-ltb}
use Rattle.snapshot_reader.proofs.StateNumbers.{rw_low, rw_high}
use Rattle.snapshot_reader.proofs.states.rw_fits.Goals as goal

pub returns-then-state-slots : goal.returns-then-state-slots
returns-then-state-slots c = rw_low c.args.code.now c.args.setup.now c.args.operations c.args.state c.from-slots.result (c.from-slots.ensures ∙ c.slots.ensures.value) (omega arith) c.if-state-slots.true

pub returns-else-state-slots : goal.returns-else-state-slots
returns-else-state-slots c = le-ltb _ _ c.if-state-slots.false ∙ rw_high c.args.code.now c.args.setup.now c.args.operations c.args.state c.from-slots.result (c.from-slots.ensures ∙ c.slots.ensures.value) (omega arith) c.if-state-slots.false
