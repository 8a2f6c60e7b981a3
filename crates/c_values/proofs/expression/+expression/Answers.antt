use Rattle.std.proofs.Common.{◌≡◌, true, IfOk, map, refl, sym, ap, ◌∙◌, subst}
use Rattle.std.specs.Option.{option_map}
use Rattle.c_tree.specs.Tree.{listed}
use Rattle.c_tree.specs.View as tree
use Rattle.c_tree.proofs.Views.{exps_of_row-list}
use Rattle.c_types.specs.Shown.{shown_standing, shown_target, shown_wants}
use Rattle.c_types.specs.Standing.{no_target}
use Rattle.c_types.specs.Standing as standings
use Rattle.core_tree.specs.View.{exp_of}
use Rattle.c_operators.specs.Denoted.{Part, denoted_value, part_by}
use Rattle.c_operators.specs.Operators.{stepped_in}
use Rattle.c_operators.specs.Views.{denoted_of, context_of, maybe_word, part_of, places_of, source_in}
use Rattle.c_values.specs.Expressions as spec
use Rattle.c_values.proofs.ExpressionLists.{comma_is, followed_is, call_is, call_made, tail_step, tail_standing_step, argument_step, fit_step}
use Rattle.c_values.proofs.expression.+expression.Goals as goal

pub part-returns-in_ok-tail-in-Comma-clause-part : goal.part-returns-in_ok-tail-in-Comma-clause-part
part-returns-in_ok-tail-in-Comma-clause-part t c =
    let h = context_of c.args.context in
    let first = spec.part h no_target (tree.exp_of c.deref.result.now) in
    let rest = listed (map tree.exp_of c.as_slice.result.now) in
    subst (λ (x : Part). IfOk c.before_tail.result (λ p. part_of p ≡ x))
    (followed_is h first rest c.place_of-at.result (option_map shown_standing c.in_ok-tail-in-Comma.last) (maybe_word c.in_ok-tail-in-Comma.tail)
    c.in_ok-tail-in-Comma.ensures.last c.in_ok-tail-in-Comma.ensures.value
    ∙ comma_is h (shown_target c.args.target) (tree.exp_of c.args.e.now) _ _ rest _ first c.place_of-at.result
    (ap tree.exp_of c.in-Comma.is)
    c.place_of-at.ensures
    (ap (λ z. listed (map tree.exp_of z)) c.as_slice.ensures ∙ sym (exps_of_row-list c.in-Comma.rest))
    (ap (λ z. spec.part h no_target (tree.exp_of z)) c.deref.ensures))
    c.before_tail.ensures.part

pub part-returns-in-Call-clause-part : goal.part-returns-in-Call-clause-part
part-returns-in-Call-clause-part t c =
    subst (λ (x : Part). IfOk c.call_of.result (λ p. part_of p ≡ x))
    (call_is (context_of c.args.context) (shown_target c.args.target) (tree.exp_of c.args.e.now) _ c.as_slice-in-Call.result.now _ (listed (map tree.exp_of c.as_slice-in-Call-2.result.now)) _ c.place_of-at.result
    (ap tree.exp_of c.in-Call.is)
    c.place_of-at.ensures
    c.as_slice-in-Call.ensures
    (ap (λ z. listed (map tree.exp_of z)) c.as_slice-in-Call-2.ensures ∙ sym (exps_of_row-list c.in-Call.arguments)))
    c.call_of.ensures.part

pub tail_of-loop-e-preserved : goal.tail_of-loop-e-preserved
tail_of-loop-e-preserved t c = record {
  value = tail_step (context_of c.args.context) c.args.es.now c.loop-e.e-index c.e-item.result (part_of c.in_ok-next.next) (exp_of c.in_ok-next-2.next.value) (places_of c.loop-e.so_far) _ c.args.at _ c.loop-e-test.true c.e-item.is c.in_ok-next.ensures.part c.in_ok-next-2.ensures c.in_ok-push_last.ensures c.loop-e.invariant.value;
  last = tail_standing_step (context_of c.args.context) c.args.es.now c.loop-e.e-index c.e-item.result (part_of c.in_ok-next.next) (option_map shown_standing c.loop-e.last) (shown_standing c.let_go.result) (shown_standing c.one_more-met.result) _ c.loop-e-test.true c.e-item.is c.in_ok-next.ensures.part c.let_go.ensures c.one_more-met.ensures c.loop-e.invariant.last;
}

pub arguments-loop-e-preserved : goal.arguments-loop-e-preserved
arguments-loop-e-preserved t c = record {
  values = argument_step (context_of c.args.context) c.in-Some.next (shown_wants c.in-Some.others) (shown_wants c.loop-e.wants) c.args.es.now c.loop-e.e-index c.e-item.result (part_of c.in_ok-operand-in-Some.operand) (map exp_of c.loop-e.out) _ _ c.loop-e-test.true c.e-item.is c.in-Some.ensures c.in_ok-operand-in-Some.ensures.part c.in_ok-push_argument-in-Some.ensures c.loop-e.invariant.values;
  fit = fit_step (context_of c.args.context) c.in-Some.next (shown_wants c.in-Some.others) (shown_wants c.loop-e.wants) c.args.es.now c.loop-e.e-index c.e-item.result (part_of c.in_ok-operand-in-Some.operand) c.loop-e.fit c.fits_wanted.result _ _ c.loop-e-test.true c.e-item.is c.in-Some.ensures c.in_ok-operand-in-Some.ensures.part c.fits_wanted.ensures refl c.loop-e.invariant.fit;
}

pub call_of-returns-clause-part : goal.call_of-returns-clause-part
call_of-returns-clause-part t c =
    c.changing.ensures.part
    ∙ call_made (context_of c.args.context) (shown_target c.args.target) c.args.name.now c.args.es.now c.args.at c.format_of-format.result (shown_wants c.wants_of-wants.result) (map exp_of c.in_ok-operands.operands) c.in_ok-operands.fit (shown_standing c.given_by_call-gives.result) (shown_standing c.call_standing.result) (denoted_of c.in_ok-denoted.denoted)
    c.format_of-format.ensures c.wants_of-wants.ensures c.in_ok-operands.ensures.values c.in_ok-operands.ensures.fit c.in_ok-denoted.ensures c.given_by_call-gives.ensures c.call_standing.ensures

pub post-returns-clause-part : goal.post-returns-clause-part
post-returns-clause-part t c =
    subst (λ (p : Part). IfOk c.stepping.result (λ r. part_of r ≡ part_by (standings.stepped p.standing) (denoted_value (stepped_in (source_in c.args.context.source.now) c.args.op p true c.args.at))))
    c.in_ok-place.ensures.part c.stepping.ensures.part
