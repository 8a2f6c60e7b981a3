use Rattle.std.proofs.Common.{map, ◌+◌, ◌∙◌, sym, subst, arith}
use Rattle.std.proofs.lemmas.List.{map_push}
use Rattle.std.proofs.lemmas.Result.{err_from_is_err_and}
use Rattle.c_tree.specs.declared.statement.Stmt.{Stmt}
use Rattle.c_tree.specs.Tree.{Statement}
use Rattle.c_tree.specs.View.{exp_of, stmt_of, part_of}
use Rattle.c_parse_rules.specs.Gives.{lexemes, Gives}
use Rattle.c_grammar.specs.Parse.{Outcome}
use Rattle.c_parse_rules.proofs.After.{if_then, no_block}
use Rattle.c_parse_rules.proofs.HeadSteps.{stops_from}
use Rattle.c_parse_rules.proofs.Rounds.{part_shorter, parts_turn, parts_stuck, parts_over}
use Rattle.c_parser.proofs.statement.+statements.Goals as goal

pub parts-parts-preserved : goal.parts-parts-preserved
parts-parts-preserved t c =
    rw (c.in_ok-push.ensures.ok, map_push)
    (sym (parts_turn c.args.level (map part_of c.parts.found) (lexemes c.parts.rest.now) (cc) (part_of c.in_ok-next.next) (lexemes c.in_ok-next.following.now) c.in_ok-next.ensures) ∙ c.parts.invariant)

pub parts-parts-smaller : goal.parts-parts-smaller
parts-parts-smaller t c = omega (arith, part_shorter c.args.level c.parts.rest.now c.in_ok-next.following.now (part_of c.in_ok-next.next) c.in_ok-next.ensures)

pub parts-returns-in_err-next : goal.parts-returns-in_err-next
parts-returns-in_err-next t c =
    let p = err_from_is_err_and c.from_residual.result c.from_residual.ensures.1 in
    rw (p.1, p.2)
    (stops_from c.in_err-next.field-0.0 _ _ (λ f r e. sym c.parts.invariant ∙ parts_stuck c.args.level (map part_of c.parts.found) (lexemes c.parts.rest.now) (cc) f r e) c.in_err-next.ensures)

pub parts-returns : goal.parts-returns
parts-returns t c = sym c.parts.invariant ∙ parts_over c.args.level (map part_of c.parts.found) (lexemes c.parts.rest.now) (cc)

pub branch-returns : goal.branch-returns
branch-returns t c =
    let P : Outcome Statement → Type 0 = λ o. Gives (λ (s : Stmt). stmt_of s) c.otherwise.result o in
    subst P
    (sym (if_then c.args.level c.args.place (lexemes c.args.tokens.now) (lexemes c.in_ok-test.rest.now) (lexemes c.in_ok-yes.rest.now) (exp_of c.in_ok-test.test.value) (stmt_of c.in_ok-yes.yes.value) c.in_ok-test.ensures c.in_ok-yes.ensures))
    c.otherwise.ensures

pub statement-returns-in_err-found : goal.statement-returns-in_err-found
statement-returns-in_err-found t c =
    let p = err_from_is_err_and c.from_residual-in_err-found.result c.from_residual-in_err-found.ensures.1 in
    let none = rw c.in_default.is at c.in_ok-place.ensures in
    rw (p.1, p.2)
    (stops_from c.in_err-found.field-0.0 _ _ (λ f r e. no_block c.args.level (c.args.level + 1) (lexemes c.args.tokens.now) (omega arith) none ∙ e) c.in_err-found.ensures)

pub statement-returns-in-Some-2 : goal.statement-returns-in-Some-2
statement-returns-in-Some-2 t c =
    let none = rw c.in_default.is at c.in_ok-place.ensures in
    let found = rw c.in-Some-2.is at c.in_ok-found.ensures in
    no_block c.args.level (c.args.level + 1) (lexemes c.args.tokens.now) (omega arith) none ∙ found

pub statement-returns-in-None : goal.statement-returns-in-None
statement-returns-in-None t c =
    let P : Outcome Statement → Type 0 = λ o. Gives (λ (s : Stmt). stmt_of s) c.control.result o in
    let none = rw c.in_default.is at c.in_ok-place.ensures in
    let found = rw c.in-None.is at c.in_ok-found.ensures in
    subst P (sym (no_block c.args.level (c.args.level + 1) (lexemes c.args.tokens.now) (omega arith) none ∙ found)) c.control.ensures
