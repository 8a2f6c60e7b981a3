use Rattle.std.proofs.Common.{map, ◌∙◌, sym, arith}
use Rattle.std.proofs.lemmas.List.{map_push}
use Rattle.std.proofs.lemmas.Result.{err_from_is_err_and}
use Rattle.c_tree.specs.View.{formal_of}
use Rattle.c_parse_rules.specs.Gives.{lexemes}
use Rattle.c_grammar.specs.Phrase as phrase
use Rattle.c_parse_rules.proofs.Rounds.{no_longer, params_turn, params_stuck, params_over}
use Rattle.c_parse_rules.proofs.HeadSteps.{stops_from}
use Rattle.c_declarations.proofs.param.+params.Goals as goal

pub more_params-params-preserved : goal.more_params-params-preserved
more_params-params-preserved t c =
    let comma = rw c.in-Some.is at c.in_ok-following.ensures in
    rw (c.in_ok-push.ensures.ok, map_push)
    (sym (params_turn c.args.level (map formal_of c.params.found) (lexemes c.params.rest.now) (lexemes c.in-Some.following.now) (lexemes c.in_ok-next.following.now) _ (formal_of c.in_ok-next.next) comma.0 comma.1 c.in_ok-next.ensures) ∙ c.params.invariant)

pub more_params-params-smaller : goal.more_params-params-smaller
more_params-params-smaller t c =
    let comma = rw c.in-Some.is at c.in_ok-following.ensures in
    omega (arith, comma.3, no_longer (phrase.param c.args.level) c.in-Some.following.now c.in_ok-next.following.now (formal_of c.in_ok-next.next) c.in_ok-next.ensures)

pub more_params-returns-in_err-next : goal.more_params-returns-in_err-next
more_params-returns-in_err-next t c =
    let p = err_from_is_err_and c.from_residual-in_err-next.result c.from_residual-in_err-next.ensures.1 in
    let comma = rw c.in-Some.is at c.in_ok-following.ensures in
    rw (p.1, p.2)
    (stops_from c.in_err-next.field-0.0 _ _ (λ f r e. sym c.params.invariant ∙ params_stuck c.args.level (map formal_of c.params.found) (lexemes c.params.rest.now) (lexemes c.in-Some.following.now) _ f r comma.0 comma.1 e) c.in_err-next.ensures)

pub more_params-returns : goal.more_params-returns
more_params-returns t c = sym c.params.invariant ∙ params_over c.args.level (map formal_of c.params.found) (lexemes c.params.rest.now) (rw c.in_default.is at c.in_ok-following.ensures)
