use Rattle.std.proofs.Common.{map, ◌+◌, ◌∙◌, sym, arith}
use Rattle.std.proofs.lemmas.List.{map_push}
use Rattle.std.proofs.lemmas.Result.{err_from_is_err_and}
use Rattle.c_lexer.specs.declared.token.Punct.TheVariants as punct
use Rattle.c_tree.specs.View.{exp_of}
use Rattle.c_parse_rules.specs.Gives.{lexemes}
use Rattle.c_grammar.specs.Phrase as phrase
use Rattle.c_grammar.specs.Parse.{sign}
use Rattle.c_parse_rules.proofs.Turns.{no_longer, shorter, lengths_turn, lengths_stop}
use Rattle.c_declarations.proofs.declaration.lengths.Goals as goal

pub loop-found-preserved : goal.loop-found-preserved
loop-found-preserved c =
    let bracket = rw c.in-Some.is at c.in_ok-following.ensures in
    record {
      read = rw (c.in_ok-push.ensures.ok, map_push)
          (sym (lengths_turn c.loop-found.above (c.loop-found.above + 1) (map exp_of c.loop-found.found) (lexemes c.loop-found.rest.now) (lexemes c.in-Some.following.now) (lexemes c.in_ok-e.next.now) (lexemes c.in_ok-next.next.now) _ _ (exp_of c.in_ok-e.e) (omega arith) bracket.0 bracket.1 c.in_ok-e.ensures c.in_ok-next.ensures.taken) ∙ c.loop-found.invariant.read);
      within = bracket.2;
    }

pub loop-found-smaller : goal.loop-found-smaller
loop-found-smaller c =
    let bracket = rw c.in-Some.is at c.in_ok-following.ensures in
    omega (arith, bracket.3, no_longer (phrase.conditional_part c.loop-found.above) c.in-Some.following.now c.in_ok-e.next.now (exp_of c.in_ok-e.e) c.in_ok-e.ensures, shorter (sign punct.CloseBracket) (c.loop-found.above + 1) c.in_ok-e.next.now c.in_ok-next.next.now _ c.in_ok-next.ensures.taken)

pub returns-in_err-next : goal.returns-in_err-next
returns-in_err-next c =
    let bracket = rw c.in-Some.is at c.in_ok-following.ensures in
    let p = err_from_is_err_and c.from_residual-in_err-next.result c.from_residual-in_err-next.ensures.1 in
    rw (p.1, p.2, ← c.loop-found.invariant.read)
    (lengths_stop c.in_err-next.field-0.0 c.loop-found.above (c.loop-found.above + 1) (map exp_of c.loop-found.found) (lexemes c.loop-found.rest.now) (lexemes c.in-Some.following.now) (lexemes c.in_ok-e.next.now) _ (exp_of c.in_ok-e.e) (omega arith) bracket.0 bracket.1 c.in_ok-e.ensures c.in_err-next.ensures.taken)
