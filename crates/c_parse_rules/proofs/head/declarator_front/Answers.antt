use Rattle.std.proofs.Common.{◌-◌, ◌∙◌, ap, arith}
use Rattle.std.proofs.lemmas.List.{drop-map}
use Rattle.std.proofs.lemmas.Result.{err_from_is_err_and}
use Rattle.c_parse_rules.specs.Gives.{lexeme_of, lexemes}
use Rattle.c_grammar.specs.Grammar.{name_place}
use Rattle.c_grammar.specs.Parse.{Stuck, Nesting}
use Rattle.c_parse_rules.proofs.HeadSteps.{stars_small, stars_never, open_never, front_pointer, front_nameless, front_object, front_deep, stops_from}
use Rattle.c_parse_rules.proofs.head.declarator_front.Goals as goal

pub returns-in_err-stars-clause-front : goal.returns-in_err-stars-clause-front
returns-in_err-stars-clause-front c =
    let p = err_from_is_err_and c.from_residual.result c.from_residual.ensures.1 in
    rw (p.1, p.2) (stops_from c.in_err-stars.field-0.0 _ _ (λ f r e. stars_never c.args.level (omega arith) (lexemes c.args.tokens.now) f r e) c.in_err-stars.ensures)

pub returns-in_err-inside-clause-front : goal.returns-in_err-inside-clause-front
returns-in_err-inside-clause-front c =
    let p = err_from_is_err_and c.from_residual-in_err-inside.result c.from_residual-in_err-inside.ensures.1 in
    rw (p.1, p.2)
    (stops_from c.in_err-inside.field-0.0 _ _ (λ f r e. open_never c.args.level (omega arith) (lexemes c.in_ok-stars.rest.now) f r c.in_err-inside.ensures.0 e) c.in_err-inside.ensures.1)

pub returns-in-Some-clause-front : goal.returns-in-Some-clause-front
returns-in-Some-clause-front c =
    let open_paren = rw c.in-Some.is at c.in_ok-inside.ensures in
    front_pointer c.args.level (omega arith) (lexemes c.args.tokens.now) (lexemes c.in_ok-stars.rest.now) c.in_ok-stars.stars c.in_ok-stars.ensures (lexemes c.in-Some.inside.now) _ open_paren.0 open_paren.1

pub returns-in_err-name-clause-front : goal.returns-in_err-name-clause-front
returns-in_err-name-clause-front c =
    let p = err_from_is_err_and c.from_residual-in_err-name.result c.from_residual-in_err-name.ensures.1 in
    let plain = rw c.in_default.is at c.in_ok-inside.ensures in
    rw (p.1, p.2)
    (stops_from c.in_err-name.field-0.0 _ _ (λ f r e. front_nameless c.args.level (omega arith) (lexemes c.args.tokens.now) (lexemes c.in_ok-stars.rest.now) c.in_ok-stars.stars c.in_ok-stars.ensures plain f r e) c.in_err-name.ensures.taken)

pub tokens_from-requires : goal.tokens_from-requires
tokens_from-requires c = omega (arith, stars_small c.args.level (omega arith) c.args.tokens.now c.in_ok-stars.stars (lexemes c.in_ok-stars.rest.now) c.in_ok-stars.ensures)

pub returns-then-stars-room-clause-front : goal.returns-then-stars-room-clause-front
returns-then-stars-room-clause-front c =
    let plain = rw c.in_default.is at c.in_ok-inside.ensures in
    rw c.tokens_from.ensures
    (front_deep c.args.level (omega arith) (lexemes c.args.tokens.now) (lexemes c.in_ok-stars.rest.now) c.in_ok-stars.stars c.in_ok-stars.ensures plain c.in_ok-name.name.text (name_place c.in_ok-name.name) (lexemes c.in_ok-name.rest.now) c.in_ok-name.ensures.taken (omega arith)
    ∙ ap (λ z. Stuck Nesting z) (drop-map lexeme_of (256 - c.args.level) c.args.tokens.now))

pub returns-clause-front : goal.returns-clause-front
returns-clause-front c =
    let plain = rw c.in_default.is at c.in_ok-inside.ensures in
    front_object c.args.level (omega arith) (lexemes c.args.tokens.now) (lexemes c.in_ok-stars.rest.now) c.in_ok-stars.stars c.in_ok-stars.ensures plain c.in_ok-name.name.text (name_place c.in_ok-name.name) (lexemes c.in_ok-name.rest.now) c.in_ok-name.ensures.taken (omega arith)
