use Rattle.std.proofs.Common.{◌∙◌, sym, ap, subst, arith}
use Rattle.std.specs.Option.{option_copied}
use Rattle.race_pairs.specs.Groups.{AreGroups}
use Rattle.race_pairs.proofs.Elements.{gets}
use Rattle.race_pairs.proofs.Parts.{grouped, skipped}
use Rattle.race_pairs.proofs.grouping.add_group.Goals as goal

pub returns-in_ok-push-in-Some : goal.returns-in_ok-push-in-Some
returns-in_ok-push-in-Some c =
    let ss = c.args.summaries.now in
    let ws = c.args.touches.now in
    subst (AreGroups ss ws c.args.to) (sym c.in_ok-push-in-Some.ensures.items)
    (grouped ss ws c.args.from c.args.to c.in-Some.guarded.now c.in_ok-group-in-Some.group c.args.all.now.items _ c.requires.bound.0 c.requires.sorted c.requires.alike (gets ws c.args.from _ (omega (arith, c.requires.bound.0, c.requires.bound.1))) (sym c.guarded_at.ensures ∙ ap option_copied c.in-Some.is) c.in_ok-group-in-Some.ensures c.requires.before)

pub returns-in-None : goal.returns-in-None
returns-in-None c =
    let ss = c.args.summaries.now in
    let ws = c.args.touches.now in
    skipped ss ws c.args.from c.args.to c.args.all.now.items _ c.requires.bound.0 c.requires.alike (gets ws c.args.from _ (omega (arith, c.requires.bound.0, c.requires.bound.1))) (sym c.guarded_at.ensures ∙ ap option_copied c.in-None.is) c.requires.before
