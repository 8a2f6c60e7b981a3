use Rattle.std.proofs.Common.{◌∙◌, sym}
use Rattle.grain_choice.proofs.Putting.{put_first}
use Rattle.grain_choice.proofs.loops.put.Goals as goal

pub returns-in_ok-insert : goal.returns-in_ok-insert
returns-in_ok-insert c a = put_first c.args.loops.now c.insert.new.self c.args.range.now a (sym c.contains_key.ensures ∙ c.if-not-contains_key.true) (c.in_ok-insert.ensures.updates.0 (a.function, a.instr))
