use Rattle.std.proofs.Common.{map, ◌∙◌, sym, arith}
use Rattle.std.proofs.lemmas.List.{map_push}
use Rattle.c_tree.specs.View.{declared_of}
use Rattle.c_parse_rules.specs.Gives.{lexemes}
use Rattle.c_grammar.specs.Phrase as phrase
use Rattle.c_parse_rules.proofs.Rounds.{no_longer, declared_turn, declared_stuck, declared_over}
use Rattle.std.proofs.lemmas.Result.{err_from_is_err_and}
use Rattle.c_parse_rules.proofs.HeadSteps.{stops_from}
use Rattle.c_parser.proofs.external.more_declared.Goals as goal

pub declarators-preserved : goal.declarators-preserved
declarators-preserved c =
    let comma = rw c.in-Some.is at c.in_ok-following.ensures in
    rw (c.in_ok-push.ensures.ok, map_push)
    (sym (declared_turn (map declared_of c.declarators.found) (lexemes c.declarators.rest.now) (lexemes c.in-Some.following.now) (lexemes c.in_ok-next.following.now) _ (declared_of c.in_ok-next.next) comma.0 comma.1 c.in_ok-next.ensures) ∙ c.declarators.invariant)

pub declarators-smaller : goal.declarators-smaller
declarators-smaller c =
    let comma = rw c.in-Some.is at c.in_ok-following.ensures in
    omega (arith, comma.3, no_longer (phrase.declarator 0) c.in-Some.following.now c.in_ok-next.following.now (declared_of c.in_ok-next.next) c.in_ok-next.ensures)

pub returns-in_err-next : goal.returns-in_err-next
returns-in_err-next c =
    let p = err_from_is_err_and c.from_residual-in_err-next.result c.from_residual-in_err-next.ensures.1 in
    let comma = rw c.in-Some.is at c.in_ok-following.ensures in
    rw (p.1, p.2)
    (stops_from c.in_err-next.field-0.0 _ _ (λ f r e. sym c.declarators.invariant ∙ declared_stuck (map declared_of c.declarators.found) (lexemes c.declarators.rest.now) (lexemes c.in-Some.following.now) _ f r comma.0 comma.1 e) c.in_err-next.ensures)

pub returns : goal.returns
returns c = sym c.declarators.invariant ∙ declared_over (map declared_of c.declarators.found) (lexemes c.declarators.rest.now) (rw c.in_default.is at c.in_ok-following.ensures)
