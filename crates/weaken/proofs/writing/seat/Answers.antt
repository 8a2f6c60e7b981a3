use Rattle.weaken.proofs.Nexts.{ok_map}
use Rattle.weaken.proofs.Lengths.{seat_in}
use Rattle.weaken.proofs.writing.seat.Goals as goal

pub returns : goal.returns
returns c = ok_map c.instr_number.result _ _ (λ n e. seat_in c.args._stretches.now c.args.instrs.now c.args.plan.now.ends.items c.args.plan.now.begins.items c.args.plan.now.left.items c.args.plan.now.places.items c.args.at c.in_ok-turned.turned c.len.result c.in_ok-before.before c.index-2.result.now n c.index.result.now c.requires.at c.requires.plan.left_long c.requires.plan.long (c.requires.plan.ending c.args.at c.requires.at) (c.requires.plan.beginning c.args.at c.requires.at) (c.requires.plan.left c.args.at) (c.requires.plan.places c.args.at c.requires.at) c.in_ok-turned.ensures c.index.ensures c.len.ensures c.in_ok-before.ensures.is c.index-2.ensures e) c.instr_number.ensures
