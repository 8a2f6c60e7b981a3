use Rattle.std.proofs.Common.{map, ◌∙◌, sym, arith}
use Rattle.std.proofs.lemmas.List.{map_push}
use Rattle.c_tree.specs.View.{object_of}
use Rattle.c_parse_rules.specs.Gives.{lexemes}
use Rattle.c_grammar.specs.Phrase as phrase
use Rattle.c_parse_rules.proofs.Turns.{no_longer, more_objects_turn}
use Rattle.c_declarations.proofs.declaration.more_objects.Goals as goal

pub loop-found-smaller : goal.loop-found-smaller
loop-found-smaller c =
    let comma = rw c.in-Some.is at c.in_ok-following.ensures in
    omega (arith, comma.3, no_longer (phrase.object c.args.level) c.in-Some.following.now c.in_ok-item.next.now (object_of c.in_ok-item.item) c.in_ok-item.ensures)

pub loop-found-preserved : goal.loop-found-preserved
loop-found-preserved c =
    let comma = rw c.in-Some.is at c.in_ok-following.ensures in
    rw (c.in_ok-push.ensures.ok, map_push)
    (sym (more_objects_turn c.args.level (map object_of c.loop-found.found) (lexemes c.loop-found.rest.now) (lexemes c.in-Some.following.now) (lexemes c.in_ok-item.next.now) _ (object_of c.in_ok-item.item) comma.0 comma.1 c.in_ok-item.ensures) ∙ c.loop-found.invariant)
