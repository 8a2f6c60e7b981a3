use Rattle.std.proofs.Common.{sym, length}
use Rattle.points_to.specs.Filling.{IsSwept}
use Rattle.points_to.proofs.Adding.{for_one, ok_map, read_in}
use Rattle.points_to.proofs.filling.sweep_at.Goals as goal

pub sweep_from-requires-clause-place : goal.sweep_from-requires-clause-place
sweep_from-requires-clause-place c = (c.requires.fine c.args.from c.in-Some.p c.requires.from.0 (read_in (length c.args.code.now.functions) c.args.sets.now c.args.from c.args.k c.in-Some.p (sym c.in-Some.ensures))).0

pub sweep_from-requires-clause-gives : goal.sweep_from-requires-clause-gives
sweep_from-requires-clause-gives c class r = c.requires.gives c.in-Some.p class (c.requires.fine c.args.from c.in-Some.p c.requires.from.0 (read_in (length c.args.code.now.functions) c.args.sets.now c.args.from c.args.k c.in-Some.p (sym c.in-Some.ensures))) r

pub returns-in-Some : goal.returns-in-Some
returns-in-Some c = ok_map c.sweep_from.result _ _ (λ a s. for_one c.args.code.now c.args.from c.args.k c.in-Some.p (IsSwept c.args.code.now c.args.to c.args.stride) c.args.sets.now c.sweep_from.new.sets a (sym c.in-Some.ensures) s) c.sweep_from.ensures
