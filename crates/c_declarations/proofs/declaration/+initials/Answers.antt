use Rattle.std.proofs.Common.{map, ◌∙◌, sym, arith}
use Rattle.std.proofs.lemmas.List.{map_push}
use Rattle.c_tree.specs.View.{init_of}
use Rattle.c_parse_rules.specs.Gives.{lexemes}
use Rattle.c_grammar.specs.Phrase as phrase
use Rattle.c_parse_rules.proofs.Turns.{no_longer, more_initials_turn}
use Rattle.c_declarations.proofs.declaration.+initials.Goals as goal

pub more_initials-loop-found-smaller : goal.more_initials-loop-found-smaller
more_initials-loop-found-smaller t c =
    let comma = rw c.in-Some.is at c.in_ok-following.ensures in
    omega (arith, comma.3, no_longer (phrase.initial c.args.level) c.in-Some.following.now c.in_ok-i.next.now (init_of c.in_ok-i.i) c.in_ok-i.ensures)

pub more_initials-loop-found-preserved : goal.more_initials-loop-found-preserved
more_initials-loop-found-preserved t c =
    let comma = rw c.in-Some.is at c.in_ok-following.ensures in
    rw (c.in_ok-push.ensures.ok, map_push)
    (sym (more_initials_turn c.args.level (map init_of c.loop-found.found) (lexemes c.loop-found.rest.now) (lexemes c.in-Some.following.now) (lexemes c.in_ok-i.next.now) _ (init_of c.in_ok-i.i) comma.0 comma.1 (sym c.begins_with.ensures ∙ c.if-begins_with.false) c.in_ok-i.ensures) ∙ c.loop-found.invariant)
