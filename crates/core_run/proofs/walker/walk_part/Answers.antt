use Rattle.std.proofs.Common.{◌∙◌, ap, subst, arith, true, false}
use Rattle.std.specs.Prelude.{slice_get}
use Rattle.core_run.specs.Shown.{OwnSteps, EntryStep}
use Rattle.core_run.proofs.EntryParts.{still_sound, outside, end_outside, left_is, end_refused, end_missing, end_inside, part_is}
use Rattle.core_run.proofs.walker.walk_part.Goals as goal

pub make_in-requires-clause-words : goal.make_in-requires-clause-words
make_in-requires-clause-words c = still_sound c.args.code.now c.args.setup.now _ c.args.cells c.args.words.now.items c.own_steps_in.new.words.items c.requires.cells c.own_steps_in.ensures.keeps c.requires.words

pub returns-then-from-len-clause-part : goal.returns-then-from-len-clause-part
returns-then-from-len-clause-part c = λ st shown. end_outside c.args.code.now c.args.setup.now c.args.formula.now c.args.entry st (outside c.args.code.now c.args.setup.now c.args.formula.now c.args.entry st c.args.flows.now.items c.args.words.now.items c.args.reads.now.items shown (omega (arith, c.from.ensures, c.len.ensures, c.if-from-len.true)))

pub returns-in-Refused-clause-part : goal.returns-in-Refused-clause-part
returns-in-Refused-clause-part c = λ st shown.
    let left = left_is c.args.code.now c.args.setup.now c.args.formula.now c.args.entry st c.args.flows.now.items c.args.words.now.items c.args.reads.now.items shown (omega (arith, c.from.ensures, c.len.ensures, c.if-from-len.false)) c.saturating_sub-count.result c.count_in.result (λ r at. c.count_in.ensures r (ap (λ z. slice_get z c.args.entry.thread) c.deref.ensures.value ∙ at)) c.saturating_sub-count.ensures in
    end_refused c.args.code.now c.args.setup.now c.args.formula.now c.args.entry st c.saturating_sub-count.result left (subst (OwnSteps c.args.code.now c.args.setup.now c.args.formula.now c.saturating_sub-count.result c.args.entry.thread st c.own_steps_in.new.flows.items c.own_steps_in.new.words.items c.own_steps_in.new.reads.items) c.in-Refused.is (c.in_ok-end.ensures.steps st shown))

pub returns-in-Outside-clause-part : goal.returns-in-Outside-clause-part
returns-in-Outside-clause-part c = λ st shown.
    let left = left_is c.args.code.now c.args.setup.now c.args.formula.now c.args.entry st c.args.flows.now.items c.args.words.now.items c.args.reads.now.items shown (omega (arith, c.from.ensures, c.len.ensures, c.if-from-len.false)) c.saturating_sub-count.result c.count_in.result (λ r at. c.count_in.ensures r (ap (λ z. slice_get z c.args.entry.thread) c.deref.ensures.value ∙ at)) c.saturating_sub-count.ensures in
    end_missing c.args.code.now c.args.setup.now c.args.formula.now c.args.entry st c.saturating_sub-count.result left (subst (OwnSteps c.args.code.now c.args.setup.now c.args.formula.now c.saturating_sub-count.result c.args.entry.thread st c.own_steps_in.new.flows.items c.own_steps_in.new.words.items c.own_steps_in.new.reads.items) c.in-Outside.is (c.in_ok-end.ensures.steps st shown))

pub returns-then-made-clause-part : goal.returns-then-made-clause-part
returns-then-made-clause-part c = λ st shown.
    let left = left_is c.args.code.now c.args.setup.now c.args.formula.now c.args.entry st c.args.flows.now.items c.args.words.now.items c.args.reads.now.items shown (omega (arith, c.from.ensures, c.len.ensures, c.if-from-len.false)) c.saturating_sub-count.result c.count_in.result (λ r at. c.count_in.ensures r (ap (λ z. slice_get z c.args.entry.thread) c.deref.ensures.value ∙ at)) c.saturating_sub-count.ensures in
    let goes = subst (OwnSteps c.args.code.now c.args.setup.now c.args.formula.now c.saturating_sub-count.result c.args.entry.thread st c.own_steps_in.new.flows.items c.own_steps_in.new.words.items c.own_steps_in.new.reads.items) c.in-Made.is (c.in_ok-end.ensures.steps st shown) in
    let makes = subst (EntryStep c.args.code.now c.args.setup.now c.args.formula.now c.args.entry goes.next c.make_in.new.flows.items c.make_in.new.words.items c.own_steps_in.new.reads.items c.args.out.now c.make_in.new.out) c.if-made.true (c.in_ok-made.ensures.made c.args.formula.now c.own_steps_in.new.reads.items goes.next goes.shown) in (
      part_is c.args.code.now c.args.setup.now c.args.formula.now c.args.entry st c.saturating_sub-count.result c.own_steps_in.new.flows.items c.own_steps_in.new.words.items c.own_steps_in.new.reads.items c.make_in.new.flows.items c.make_in.new.words.items c.args.out.now c.make_in.new.out true left goes makes,
      end_inside c.args.code.now c.args.setup.now c.args.formula.now c.args.entry st c.saturating_sub-count.result left goes.inside,
    )

pub returns-else-made-clause-part : goal.returns-else-made-clause-part
returns-else-made-clause-part c = λ st shown.
    let left = left_is c.args.code.now c.args.setup.now c.args.formula.now c.args.entry st c.args.flows.now.items c.args.words.now.items c.args.reads.now.items shown (omega (arith, c.from.ensures, c.len.ensures, c.if-from-len.false)) c.saturating_sub-count.result c.count_in.result (λ r at. c.count_in.ensures r (ap (λ z. slice_get z c.args.entry.thread) c.deref.ensures.value ∙ at)) c.saturating_sub-count.ensures in
    let goes = subst (OwnSteps c.args.code.now c.args.setup.now c.args.formula.now c.saturating_sub-count.result c.args.entry.thread st c.own_steps_in.new.flows.items c.own_steps_in.new.words.items c.own_steps_in.new.reads.items) c.in-Made.is (c.in_ok-end.ensures.steps st shown) in
    let makes = subst (EntryStep c.args.code.now c.args.setup.now c.args.formula.now c.args.entry goes.next c.make_in.new.flows.items c.make_in.new.words.items c.own_steps_in.new.reads.items c.args.out.now c.make_in.new.out) c.if-made.false (c.in_ok-made.ensures.made c.args.formula.now c.own_steps_in.new.reads.items goes.next goes.shown) in (
      part_is c.args.code.now c.args.setup.now c.args.formula.now c.args.entry st c.saturating_sub-count.result c.own_steps_in.new.flows.items c.own_steps_in.new.words.items c.own_steps_in.new.reads.items c.make_in.new.flows.items c.make_in.new.words.items c.args.out.now c.make_in.new.out false left goes makes,
      end_inside c.args.code.now c.args.setup.now c.args.formula.now c.args.entry st c.saturating_sub-count.result left goes.inside,
    )
