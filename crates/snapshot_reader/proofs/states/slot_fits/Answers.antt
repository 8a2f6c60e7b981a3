use Rattle.std.proofs.Common.{ap, ◌∙◌}
use Rattle.std.proofs.lemmas.Bool.{lt-ltb}
use Rattle.flow_code.specs.Kinds.{may_start}
use Rattle.snapshot_reader.proofs.StateNumbers.{slot_early, slot_started}
use Rattle.snapshot_reader.proofs.states.slot_fits.Goals as goal

pub returns-then-state-lt6 : goal.returns-then-state-lt6
returns-then-state-lt6 c = lt-ltb _ _ c.if-state-lt6.true ∙ slot_early c.args.code.now c.args.setup.now c.args.operations c.args.state c.if-state-lt6.true

pub returns-else-state-lt6 : goal.returns-else-state-lt6
returns-else-state-lt6 c = c.may_start.ensures ∙ ap may_start c.function_at.ensures ∙ slot_started c.args.code.now c.args.setup.now c.args.operations c.args.state c.if-state-lt6.false
