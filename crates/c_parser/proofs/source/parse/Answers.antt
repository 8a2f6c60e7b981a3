use Rattle.std.proofs.Common.{map}
use Rattle.c_tree.specs.View.{outer_of}
use Rattle.c_parse_rules.specs.Gives.{lexemes}
use Rattle.c_parser.proofs.Answering.{found, only, printed}
use Rattle.c_parser.proofs.source.parse.Goals as goal

pub returns-in-Ok-clause-found : goal.returns-in-Ok-clause-found
returns-in-Ok-clause-found c =
    rw (← c.as_slice-tokens.ensures) (found c.as_slice-tokens.result.now (map outer_of c.in-Ok.externals) (lexemes c.in-Ok.field-0-1.now) c.in-Ok.ensures)

pub returns-in-Ok-clause-only : goal.returns-in-Ok-clause-only
returns-in-Ok-clause-only c = rw (← c.as_slice-tokens.ensures) (λ os h. only c.as_slice-tokens.result.now os (map outer_of c.in-Ok.externals) (lexemes c.in-Ok.field-0-1.now) c.in-Ok.ensures h)

pub returns-in-Ok-clause-prints : goal.returns-in-Ok-clause-prints
returns-in-Ok-clause-prints c =
    rw (← c.as_slice-tokens.ensures)
    (printed c.as_slice-tokens.result.now (map outer_of c.in-Ok.externals) (found c.as_slice-tokens.result.now (map outer_of c.in-Ok.externals) (lexemes c.in-Ok.field-0-1.now) c.in-Ok.ensures))

pub returns-in-Err-clause-only : goal.returns-in-Err-clause-only
returns-in-Err-clause-only c = rw (← c.as_slice-tokens.ensures) (λ os h. rw (c.fault_of.ensures.only os h) tt)

pub returns-in-Ok-clause-answer : goal.returns-in-Ok-clause-answer
returns-in-Ok-clause-answer c = rw (← c.as_slice-tokens.ensures) (lexemes c.in-Ok.field-0-1.now, c.in-Ok.ensures)

pub returns-in-Err-clause-answer : goal.returns-in-Err-clause-answer
returns-in-Err-clause-answer c = rw (← c.as_slice-tokens.ensures) c.fault_of.ensures.answer
