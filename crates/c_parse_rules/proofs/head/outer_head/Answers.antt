use Rattle.std.proofs.Common.{◌∙◌, ap, arith}
use Rattle.std.proofs.lemmas.List.{drop-map}
use Rattle.std.proofs.lemmas.Result.{err_from_is_err_and}
use Rattle.c_parse_rules.specs.Gives.{lexeme_of, lexemes}
use Rattle.c_grammar.specs.Grammar.{name_place}
use Rattle.c_grammar.specs.Parse.{Stuck, Nesting}
use Rattle.c_parse_rules.proofs.HeadSteps.{stars_small, stars_never, a_pointer, nameless, a_function, neither, an_object, too_many, stops_from}
use Rattle.c_parse_rules.proofs.head.outer_head.Goals as goal

pub returns-in_err-stars-clause-head : goal.returns-in_err-stars-clause-head
returns-in_err-stars-clause-head c =
    let p = err_from_is_err_and c.from_residual.result c.from_residual.ensures.1 in
    rw (p.1, p.2) (stops_from c.in_err-stars.field-0.0 _ _ (λ f r e. stars_never 0 (omega arith) (lexemes c.args.tokens.now) f r e) c.in_err-stars.ensures)

pub returns-in-Some-clause-head : goal.returns-in-Some-clause-head
returns-in-Some-clause-head c =
    let open_paren = rw c.in-Some.is at c.in_ok-inside.ensures in
    a_pointer (lexemes c.args.tokens.now) (lexemes c.in_ok-stars.rest.now) c.in_ok-stars.stars c.in_ok-stars.ensures (lexemes c.in-Some.inside.now) _ open_paren.0 open_paren.1

pub returns-in_err-name-clause-head : goal.returns-in_err-name-clause-head
returns-in_err-name-clause-head c =
    let p = err_from_is_err_and c.from_residual-in_err-name.result c.from_residual-in_err-name.ensures.1 in
    let plain = rw c.in_default.is at c.in_ok-inside.ensures in
    rw (p.1, p.2)
    (stops_from c.in_err-name.field-0.0 _ _ (λ f r e. nameless (lexemes c.args.tokens.now) (lexemes c.in_ok-stars.rest.now) c.in_ok-stars.stars c.in_ok-stars.ensures plain f r e) c.in_err-name.ensures.taken)

pub returns-in-Some-2-clause-head : goal.returns-in-Some-2-clause-head
returns-in-Some-2-clause-head c =
    let plain = rw c.in_default.is at c.in_ok-inside.ensures in
    let open_paren = rw c.in-Some-2.is at c.in_ok-following.ensures in
    a_function (lexemes c.args.tokens.now) (lexemes c.in_ok-stars.rest.now) c.in_ok-stars.stars c.in_ok-stars.ensures plain c.in_ok-name.name.text (name_place c.in_ok-name.name) (lexemes c.in_ok-name.rest.now) c.in_ok-name.ensures.taken (lexemes c.in-Some-2.following.now) _ open_paren.0 open_paren.1

pub returns-then-not-follows_declarator-clause-head : goal.returns-then-not-follows_declarator-clause-head
returns-then-not-follows_declarator-clause-head c =
    let plain = rw c.in_default.is at c.in_ok-inside.ensures in
    let none = rw c.in_default-2.is at c.in_ok-following.ensures in
    neither (lexemes c.args.tokens.now) (lexemes c.in_ok-stars.rest.now) c.in_ok-stars.stars c.in_ok-stars.ensures plain c.in_ok-name.name.text (name_place c.in_ok-name.name) (lexemes c.in_ok-name.rest.now) c.in_ok-name.ensures.taken none cc

pub tokens_from-requires : goal.tokens_from-requires
tokens_from-requires c = omega (arith, stars_small 0 (omega arith) c.args.tokens.now c.in_ok-stars.stars (lexemes c.in_ok-stars.rest.now) c.in_ok-stars.ensures)

pub returns-then-stars-clause-head : goal.returns-then-stars-clause-head
returns-then-stars-clause-head c =
    let plain = rw c.in_default.is at c.in_ok-inside.ensures in
    let none = rw c.in_default-2.is at c.in_ok-following.ensures in
    rw c.tokens_from.ensures
    (too_many (lexemes c.args.tokens.now) (lexemes c.in_ok-stars.rest.now) c.in_ok-stars.stars c.in_ok-stars.ensures plain c.in_ok-name.name.text (name_place c.in_ok-name.name) (lexemes c.in_ok-name.rest.now) c.in_ok-name.ensures.taken none (cc) (omega arith)
    ∙ ap (λ z. Stuck Nesting z) (drop-map lexeme_of 256 c.args.tokens.now))

pub returns-clause-head : goal.returns-clause-head
returns-clause-head c =
    let plain = rw c.in_default.is at c.in_ok-inside.ensures in
    let none = rw c.in_default-2.is at c.in_ok-following.ensures in
    an_object (lexemes c.args.tokens.now) (lexemes c.in_ok-stars.rest.now) c.in_ok-stars.stars c.in_ok-stars.ensures plain c.in_ok-name.name.text (name_place c.in_ok-name.name) (lexemes c.in_ok-name.rest.now) c.in_ok-name.ensures.taken none (cc) (omega arith)
