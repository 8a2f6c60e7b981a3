-- How a `for` begins, as which one of the code shows.
use Rattle.c_tree.specs.View.{start_of, maybe_of}
use Rattle.c_parser.specs.declared.short.ForHead.{ForHead as CodeForHead}
use Rattle.c_grammar.specs.Rules.{ForHead, for_head}

-- the three clauses of a `for`, what the crate calls a step being `next`
abbrev pub for_head_of : CodeForHead → ForHead
for_head_of h = for_head (start_of h.start.value) (maybe_of h.test.value) (maybe_of h.step.value)
