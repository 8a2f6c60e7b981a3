use Rattle.std.proofs.Common.{sym, subst, ◌∙◌, List}
use Rattle.facts.specs.declared.locks.Guarded.{Guarded}
use Rattle.race_pairs.specs.Gains.{Gains}
use Rattle.race_pairs.specs.Touches.{TouchesOf}
use Rattle.race_pairs.proofs.Touching.{root_is}
use Rattle.race_pairs.proofs.access.touch_root.Goals as goal

pub returns-in_ok-touch_all : goal.returns-in_ok-touch_all
returns-in_ok-touch_all c = root_is c.args.code.now c.args.points.now c.args.root c.args.summary.now c.args.touches.now.items c.touch_all.new.touches.items (sym c.is_root.ensures ∙ c.if-is_root.true) (subst (λ (gs : List Guarded). Gains (TouchesOf c.args.code.now c.args.points.now c.args.root gs) c.args.touches.now.items c.touch_all.new.touches.items) c.as_slice.ensures c.in_ok-touch_all.ensures)
