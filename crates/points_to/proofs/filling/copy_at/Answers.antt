use Rattle.std.proofs.Common.{sym, length}
use Rattle.points_to.specs.Nodes.{Has}
use Rattle.points_to.proofs.Adding.{for_one, ok_map, read_in}
use Rattle.points_to.proofs.filling.copy_at.Goals as goal

pub put-requires-clause-fine : goal.put-requires-clause-fine
put-requires-clause-fine c f = c.requires.gives c.in-Some.p (f c.args.from c.in-Some.p c.requires.from.0 (read_in (length c.args.code.now.functions) c.args.sets.now c.args.from c.args.k c.in-Some.p (sym c.in-Some.ensures)))

pub returns-in-Some : goal.returns-in-Some
returns-in-Some c = ok_map c.put.result _ _ (λ a s. for_one c.args.code.now c.args.from c.args.k c.in-Some.p (λ p r. Has (length c.args.code.now.functions) r c.args.to p) c.args.sets.now c.put.new.sets a (sym c.in-Some.ensures) s) c.put.ensures
