use Rattle.std.proofs.Common.{map, ◌+◌, sym, ◌∙◌, arith}
use Rattle.std.proofs.lemmas.List.{map_push}
use Rattle.std.proofs.lemmas.Result.{err_from_is_err_and}
use Rattle.c_tree.specs.View.{exp_of}
use Rattle.c_parse_rules.specs.Gives.{lexemes}
use Rattle.c_grammar.specs.Phrase as phrase
use Rattle.c_parse_rules.proofs.Turns.{no_longer, more_turn, enclosed_stop, opened_stop, member_turn, arrow_turn}
use Rattle.c_expressions.proofs.expression.+read.Goals as goal

pub more-loop-found-smaller : goal.more-loop-found-smaller
more-loop-found-smaller t c =
    let comma = rw c.in-Some.is at c.in_ok-following.ensures in
    omega (arith, comma.3, no_longer (phrase.assignment c.args.level) c.in-Some.following.now c.in_ok-e.next.now (exp_of c.in_ok-e.e) c.in_ok-e.ensures)

pub more-loop-found-preserved : goal.more-loop-found-preserved
more-loop-found-preserved t c =
    let comma = rw c.in-Some.is at c.in_ok-following.ensures in
    rw (c.in_ok-push.ensures.ok, map_push)
    (sym (more_turn c.args.level (map exp_of c.loop-found.found) (lexemes c.loop-found.rest.now) (lexemes c.in-Some.following.now) (lexemes c.in_ok-e.next.now) _ (exp_of c.in_ok-e.e) comma.0 comma.1 c.in_ok-e.ensures) ∙ c.loop-found.invariant)

pub enclosed-returns-in_err-rest : goal.enclosed-returns-in_err-rest
enclosed-returns-in_err-rest t c =
    let p = err_from_is_err_and c.from_residual-in_err-rest.result c.from_residual-in_err-rest.ensures.1 in
    rw (p.1, p.2)
    (enclosed_stop c.in_err-rest.field-0.0 c.args.level (c.args.level + 1) c.args.at (lexemes c.args.tokens.now) (lexemes c.in_ok-inner.rest.now) (exp_of c.in_ok-inner.inner) (omega arith) c.in_ok-inner.ensures c.in_err-rest.ensures.taken)

pub opened-returns-in_err-rest : goal.opened-returns-in_err-rest
opened-returns-in_err-rest t c =
    let p = err_from_is_err_and c.from_residual-in_err-rest.result c.from_residual-in_err-rest.ensures.1 in
    rw (p.1, p.2)
    (opened_stop c.in_err-rest.field-0.0 c.args.level (c.args.level + 1) c.args.at (lexemes c.args.tokens.now) (lexemes c.in_ok-to.rest.now) c.in_ok-to.to (omega arith) (sym c.begins_type.ensures ∙ c.if-begins_type.true) c.in_ok-to.ensures c.in_err-rest.ensures.taken)

pub postfix-returns-then-begins_with-2 : goal.postfix-returns-then-begins_with-2
postfix-returns-then-begins_with-2 t c =
    let bracket = sym c.begins_with.ensures ∙ c.if-begins_with.false in
    let dot = sym c.begins_with-2.ensures ∙ c.if-begins_with-2.true in
    rw (member_turn c.args.level (c.args.level + 2) (c.args.level + 1) (omega arith) (omega arith) (exp_of c.args.base) (lexemes c.args.tokens.now) bracket (lexemes c.in_ok-at-2.rest.now) (lexemes c.in_ok-name.rest.now) _ _ dot c.in_ok-at-2.ensures.taken c.in_ok-name.ensures.taken, ← c.in_ok-base-2.ensures.ok)
    c.postfix-then-begins_with-2.ensures

pub postfix-returns-then-begins_with-3 : goal.postfix-returns-then-begins_with-3
postfix-returns-then-begins_with-3 t c =
    let bracket = sym c.begins_with.ensures ∙ c.if-begins_with.false in
    let dot = sym c.begins_with-2.ensures ∙ c.if-begins_with-2.false in
    let sign = sym c.begins_with-3.ensures ∙ c.if-begins_with-3.true in
    rw (arrow_turn c.args.level (c.args.level + 2) (c.args.level + 1) (omega arith) (omega arith) (exp_of c.args.base) (lexemes c.args.tokens.now) bracket dot (lexemes c.in_ok-at-3.rest.now) (lexemes c.in_ok-name-2.rest.now) _ _ sign c.in_ok-at-3.ensures.taken c.in_ok-name-2.ensures.taken, ← c.in_ok-base-3.ensures.ok)
    c.postfix-then-begins_with-3.ensures
