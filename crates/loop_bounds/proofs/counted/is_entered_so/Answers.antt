use Rattle.std.proofs.Common.{arith}
use Rattle.loop_bounds.proofs.Entered.{form_last, form_condition}
use Rattle.loop_bounds.proofs.counted.is_entered_so.Goals as goal

pub is_entered_at-requires-clause-to : goal.is_entered_at-requires-clause-to
is_entered_at-requires-clause-to c = form_last c.args.instrs.now c.args.counted.now c.requires.form

pub is_entered_at-requires-then-is_entered_at-clause-to : goal.is_entered_at-requires-then-is_entered_at-clause-to
is_entered_at-requires-then-is_entered_at-clause-to c = omega (arith, form_condition c.args.instrs.now c.args.counted.now c.requires.form, c.condition_end.ensures.place)

pub is_entered_at-requires-then-is_entered_at-2-clause-to : goal.is_entered_at-requires-then-is_entered_at-2-clause-to
is_entered_at-requires-then-is_entered_at-2-clause-to c = form_last c.args.instrs.now c.args.counted.now c.requires.form
