use Rattle.c_grammar.specs.Parse.{Syntax, Nesting}
use Rattle.c_parse_rules.specs.Gives.{lexemes}
use Rattle.c_parser.proofs.Answering.{none, stops}
use Rattle.c_parser.proofs.source.fault_of.Goals as goal

pub returns-then-begins_refused-clause-fault : goal.returns-then-begins_refused-clause-fault
returns-then-begins_refused-clause-fault c =
    let e = rw c.in-Syntax.is at c.requires.stopped in
    (lexemes c.in-Syntax.rest.now, stops c.args.tokens.now Syntax (lexemes c.in-Syntax.rest.now) e, cc, c.stands_at-at.ensures)

pub returns-then-begins_refused-clause-only : goal.returns-then-begins_refused-clause-only
returns-then-begins_refused-clause-only c os h =
    let e = rw c.in-Syntax.is at c.requires.stopped in none c.args.tokens.now os Syntax (lexemes c.in-Syntax.rest.now) e h

pub returns-else-begins_refused-clause-fault : goal.returns-else-begins_refused-clause-fault
returns-else-begins_refused-clause-fault c =
    let e = rw c.in-Syntax.is at c.requires.stopped in
    (lexemes c.in-Syntax.rest.now, stops c.args.tokens.now Syntax (lexemes c.in-Syntax.rest.now) e, cc, c.stands_at-at.ensures)

pub returns-else-begins_refused-clause-only : goal.returns-else-begins_refused-clause-only
returns-else-begins_refused-clause-only c os h =
    let e = rw c.in-Syntax.is at c.requires.stopped in none c.args.tokens.now os Syntax (lexemes c.in-Syntax.rest.now) e h

pub returns-in-Nesting-clause-fault : goal.returns-in-Nesting-clause-fault
returns-in-Nesting-clause-fault c =
    let e = rw c.in-Nesting.is at c.requires.stopped in
    (lexemes c.in-Nesting.rest.now, stops c.args.tokens.now Nesting (lexemes c.in-Nesting.rest.now) e, c.stands_at-at-in-Nesting.ensures)

pub returns-in-Nesting-clause-only : goal.returns-in-Nesting-clause-only
returns-in-Nesting-clause-only c os h =
    let e = rw c.in-Nesting.is at c.requires.stopped in none c.args.tokens.now os Nesting (lexemes c.in-Nesting.rest.now) e h

pub returns-then-begins_refused-clause-answer : goal.returns-then-begins_refused-clause-answer
returns-then-begins_refused-clause-answer c =
    let e = rw c.in-Syntax.is at c.requires.stopped in
    (lexemes c.in-Syntax.rest.now, e, cc, c.stands_at-at.ensures)

pub returns-else-begins_refused-clause-answer : goal.returns-else-begins_refused-clause-answer
returns-else-begins_refused-clause-answer c =
    let e = rw c.in-Syntax.is at c.requires.stopped in
    (lexemes c.in-Syntax.rest.now, e, cc, c.stands_at-at.ensures)

pub returns-in-Nesting-clause-answer : goal.returns-in-Nesting-clause-answer
returns-in-Nesting-clause-answer c =
    let e = rw c.in-Nesting.is at c.requires.stopped in
    (lexemes c.in-Nesting.rest.now, e, c.stands_at-at-in-Nesting.ensures)
