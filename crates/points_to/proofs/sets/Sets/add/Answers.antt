use Rattle.std.proofs.Common.{Result, Ok, Err}
use Rattle.std.specs.Prelude.{IfOk}
use Rattle.points_to.proofs.Blocks.{there, widths_after, in_after, from_after, falls_after}
use Rattle.points_to.proofs.sets.Sets.add.Goals as goal

if_ok : {A E : Type 0} (r : Result A E) (P Q : A → Type 0) → ((a : A) → P a → Q a) → IfOk r P → IfOk r Q
if_ok (Ok a) P Q f h = f a h
if_ok (Err e) P Q f h = h

pub returns-clause-widths : goal.returns-clause-widths
returns-clause-widths c = widths_after c.self.inside.blocks.items c.args.self.now c.args.spot.block c.index_mut.result.now c.add.new.self c.self.view_is (there c.self.inside.blocks.items c.args.self.now c.args.spot.block c.args.spot.at c.self.view_is c.requires) c.index_mut.ensures.value c.add.ensures.length

pub returns-clause-in_it : goal.returns-clause-in_it
returns-clause-in_it c = if_ok c.add.result _ _ (λ a h. in_after c.self.inside.blocks.items c.args.self.now c.args.spot.block c.index_mut.result.now c.add.new.self c.self.view_is (there c.self.inside.blocks.items c.args.self.now c.args.spot.block c.args.spot.at c.self.view_is c.requires) c.index_mut.ensures.value c.args.spot.at c.args.p h) c.add.ensures.in_it

pub returns-clause-from : goal.returns-clause-from
returns-clause-from c = from_after c.self.inside.blocks.items c.args.self.now c.args.spot.block c.index_mut.result.now c.add.new.self c.self.view_is (there c.self.inside.blocks.items c.args.self.now c.args.spot.block c.args.spot.at c.self.view_is c.requires) c.index_mut.ensures.value c.args.spot.at c.args.p c.add.ensures.from

pub returns-clause-falls : goal.returns-clause-falls
returns-clause-falls c = if_ok c.add.result _ _ (λ a h e. falls_after c.self.inside.blocks.items c.args.self.now c.args.spot.block c.index_mut.result.now c.add.new.self c.self.view_is (there c.self.inside.blocks.items c.args.self.now c.args.spot.block c.args.spot.at c.self.view_is c.requires) c.index_mut.ensures.value (h e)) c.add.ensures.falls
