use Rattle.std.proofs.Common.{ℕ, ◌-◌, [], ◌∷◌, ◌++◌, Ok, sym, ap, subst, ◌∙◌, arith}
use Rattle.sync_objects.specs.declared.entry.Entry.{Entry}
use Rattle.order_log.specs.Text.{stripe_of}
use Rattle.order_log.specs.Recogniser.{may_follow}
use Rattle.order_log.proofs.Pushing.{Pushed, stripe_next, first_beyond, first_pushed, next_beyond, next_pushed, all_pushed}
use Rattle.order_log.proofs.body.push_group.Goals as goal

pub returns-then-not-branch : goal.returns-then-not-branch
returns-then-not-branch c r is_group shown counted =
    first_beyond c.args.setup.now r c.args.found.now _ _ _ c.args.group c.requires shown (sym c.if-not-branch.true ∙ c.in_ok-push_entry.ensures.told counted)

pub loop-left-init : goal.loop-left-init
loop-left-init c = (
  omega (arith, c.saturating_sub-left.ensures, c.stripe_of.ensures),
  λ r is_group shown counted. let all = c.in_ok-push_entry.was ∙ ap Ok c.if-not-branch.false in
      first_pushed c.args.setup.now r c.args.found.now _ _ _ c.args.group c.saturating_sub-left.result c.requires is_group shown (sym c.if-not-branch.false ∙ c.in_ok-push_entry.ensures.told counted)
      (c.push_entry.ensures.put all) (c.push_entry.ensures.counted counted all) (c.saturating_sub-left.ensures ∙ ap (λ (k : ℕ). c.args.group.last - k) c.stripe_of.ensures),
)

pub returns-then-not-branch-2 : goal.returns-then-not-branch-2
returns-then-not-branch-2 c r is_group shown counted =
    let p = c.loop-left.invariant.1 r is_group shown counted in
    let beyond = sym c.if-not-branch-2.true ∙ c.in_ok-push_entry-2.ensures.told p.counted ∙ ap (may_follow c.args.setup.now c.loop-left.found) c.next_entry-entry.ensures in
    next_beyond c.args.setup.now r c.args.found.now c.loop-left.found _ _ _ _ _ c.loop-left.entry c.loop-left.left c.loop-left-test.true p beyond

pub loop-left-preserved : goal.loop-left-preserved
loop-left-preserved c = (
  let low = c.loop-left.invariant.0 in
      let some = c.loop-left-test.true in
      let next = stripe_next c.loop-left.entry.obj in
      let same = ap (λ (e : Entry). stripe_of e.obj) c.next_entry-entry.ensures in
      omega arith,
  λ r is_group shown counted. let p = c.loop-left.invariant.1 r is_group shown counted in
      let next = c.next_entry-entry.ensures in
      let all = c.in_ok-push_entry-2.was ∙ ap Ok c.if-not-branch-2.false in
      let fits = sym c.if-not-branch-2.false ∙ c.in_ok-push_entry-2.ensures.told p.counted ∙ ap (may_follow c.args.setup.now c.loop-left.found) next in
      let put = c.push_entry-in-loop-left.ensures.put all ∙ ap (λ (e : Entry). c.loop-left.found ++ e ∷ []) next in
      subst (λ (e : Entry). Pushed c.args.setup.now r c.args.found.now c.push_entry-in-loop-left.new.found c.push_entry-in-loop-left.new.counts.others c.push_entry-in-loop-left.new.counts.endings e (c.loop-left.left - 1)) (sym next)
      (next_pushed c.args.setup.now r c.args.found.now c.loop-left.found _ _ _ _ _ c.loop-left.entry c.loop-left.left c.loop-left-test.true p fits put (c.push_entry-in-loop-left.ensures.counted p.counted all)),
)

pub returns : goal.returns
returns c r is_group shown counted = all_pushed c.args.setup.now r c.args.found.now c.loop-left.found _ _ c.loop-left.entry c.loop-left.left c.loop-left-test.false (c.loop-left.invariant.1 r is_group shown counted)
