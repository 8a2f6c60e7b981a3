use Rattle.std.proofs.Common.{◌+◌, ◌++◌, ap, ◌∙◌, arith}
use Rattle.std.proofs.lemmas.Result.{on_ok_weaker, IfOk-weaker}
use Rattle.std.proofs.lemmas.Grind.{common_steps}
use Rattle.core_tree.specs.View.{exp_of}
use Rattle.core_tree.proofs.Views.{exps_of_row-list}
use Rattle.core_tree.specs.Meaning.{is_pointer}
use Rattle.lowering_parts.specs.Kept.{kept}
use Rattle.flow_lower.specs.Lowered.{exp_kinds}
use Rattle.flow_lower.proofs.Joins.{six, choice_code, choice_registers}
use Rattle.flow_lower.proofs.expression.+exp_code.Goals as goal

pub push_call-returns-in_ok-registers-in-Function-clause-register : goal.push_call-returns-in_ok-registers-in-Function-clause-register
push_call-returns-in_ok-registers-in-Function-clause-register t c = rw (c.in-Function.is, exps_of_row-list) (grind (arith, common_steps))

pub push_call-returns-in_ok-registers-in-Function-clause-place : goal.push_call-returns-in_ok-registers-in-Function-clause-place
push_call-returns-in_ok-registers-in-Function-clause-place t c = rw (c.in-Function.is, exps_of_row-list) (grind (arith, common_steps))

pub push_call-returns-in_ok-registers-in-Function-clause-out : goal.push_call-returns-in_ok-registers-in-Function-clause-out
push_call-returns-in_ok-registers-in-Function-clause-out t c = rw (c.in-Function.is, exps_of_row-list) (grind (arith, common_steps))

pub push_call-returns-in_ok-copy-in-Library-clause-register : goal.push_call-returns-in_ok-copy-in-Library-clause-register
push_call-returns-in_ok-copy-in-Library-clause-register t c = rw (c.in-Library.is, exps_of_row-list) (grind (arith, common_steps))

pub push_call-returns-in_ok-copy-in-Library-clause-place : goal.push_call-returns-in_ok-copy-in-Library-clause-place
push_call-returns-in_ok-copy-in-Library-clause-place t c = rw (c.in-Library.is, exps_of_row-list) (grind (arith, common_steps))

pub push_call-returns-in_ok-copy-in-Library-clause-out : goal.push_call-returns-in_ok-copy-in-Library-clause-out
push_call-returns-in_ok-copy-in-Library-clause-out t c = rw (c.in-Library.is, exps_of_row-list) (grind (arith, common_steps))

pub push_choice-returns-in_ok-other-in-Conditional-clause-register : goal.push_choice-returns-in_ok-other-in-Conditional-clause-register
push_choice-returns-in_ok-other-in-Conditional-clause-register t c =
    let test = kept (exp_of c.in-Conditional.test.value) in
    let yes' = kept (exp_of c.in-Conditional.yes.value) in
    let no' = kept (exp_of c.in-Conditional.no.value) in
    let all = choice_registers (is_pointer yes') (exp_kinds test) (exp_kinds yes') (exp_kinds no') c.args.from.register
    c.in_ok-tested-in-Conditional.tested.following.register c.in_ok-second-in-Conditional.second.register c.in_ok-third-in-Conditional.third.register c.in_ok-other-in-Conditional.other.following.register
    (rw c.deref-in-Conditional.ensures at c.in_ok-tested-in-Conditional.ensures.register) c.in_ok-second-in-Conditional.ensures.register
    (c.in_ok-third-in-Conditional.ensures.register ∙ rw c.deref-in-Conditional-4.ensures at c.in_ok-one-in-Conditional.ensures.register)
    (rw c.deref-in-Conditional-5.ensures at c.in_ok-other-in-Conditional.ensures.register) in
    rw c.in-Conditional.is (IfOk-weaker c.push_computed.result _ _ (λ o e. e ∙ all) c.push_computed.ensures.register)

pub push_choice-returns-in_ok-other-in-Conditional-clause-out : goal.push_choice-returns-in_ok-other-in-Conditional-clause-out
push_choice-returns-in_ok-other-in-Conditional-clause-out t c =
    let test = kept (exp_of c.in-Conditional.test.value) in
    let yes' = kept (exp_of c.in-Conditional.yes.value) in
    let no' = kept (exp_of c.in-Conditional.no.value) in
    let tested = rw c.deref-in-Conditional.ensures at c.in_ok-tested-in-Conditional.ensures.out in
    let first' = rw c.deref-in-Conditional-4.ensures at c.in_ok-one-in-Conditional.ensures.out in
    let second' = rw c.deref-in-Conditional-5.ensures at c.in_ok-other-in-Conditional.ensures.out in
    let whole = choice_code c.args.first test yes' no' c.in-Conditional.at c.args.from.register c.args.from.place
    c.in_ok-tested-in-Conditional.tested.register c.in_ok-tested-in-Conditional.tested.following.register c.in_ok-tested-in-Conditional.tested.following.place
    c.in_ok-then_at-in-Conditional.then_at c.in_ok-then_at-in-Conditional.else_at c.in_ok-then_at-in-Conditional.to
    c.in_ok-second-in-Conditional.second.register c.in_ok-second-in-Conditional.second.place c.in_ok-one-in-Conditional.one.register
    c.in_ok-third-in-Conditional.third.register c.in_ok-third-in-Conditional.third.place c.in_ok-other-in-Conditional.other.register
    (rw c.deref-in-Conditional.ensures at c.in_ok-tested-in-Conditional.ensures.value)
    (rw c.deref-in-Conditional.ensures at c.in_ok-tested-in-Conditional.ensures.register) (rw c.deref-in-Conditional.ensures at c.in_ok-tested-in-Conditional.ensures.place)
    c.in_ok-then_at-in-Conditional.ensures.then_at (rw c.deref-in-Conditional-2.ensures at c.in_ok-then_at-in-Conditional.ensures.else_at)
    (rw (c.deref-in-Conditional-2.ensures, c.deref-in-Conditional-3.ensures) at c.in_ok-then_at-in-Conditional.ensures.to)
    c.in_ok-second-in-Conditional.ensures.register c.in_ok-second-in-Conditional.ensures.place
    (rw c.deref-in-Conditional-4.ensures at c.in_ok-one-in-Conditional.ensures.value)
    (c.in_ok-third-in-Conditional.ensures.register ∙ rw c.deref-in-Conditional-4.ensures at c.in_ok-one-in-Conditional.ensures.register)
    (c.in_ok-third-in-Conditional.ensures.place ∙ ap (λ n. n + 2) (rw c.deref-in-Conditional-4.ensures at c.in_ok-one-in-Conditional.ensures.place))
    (rw c.deref-in-Conditional-5.ensures at c.in_ok-other-in-Conditional.ensures.value) in
    rw c.in-Conditional.is
    (on_ok_weaker c.push_computed.result (λ e. six _ _ _ _ _ _ _ _ _ _ _ _ _ tested c.in_ok-second-in-Conditional.ensures.out first' c.in_ok-third-in-Conditional.ensures.out second' e ∙ ap (λ l. c.args.out.now ++ l) whole) c.push_computed.ensures.out)
