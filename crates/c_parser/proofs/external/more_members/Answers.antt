use Rattle.std.proofs.Common.{map, refl, ◌∙◌, sym, arith}
use Rattle.std.proofs.lemmas.List.{map_push}
use Rattle.c_tree.specs.View.{fields_of}
use Rattle.c_parse_rules.specs.Gives.{lexemes}
use Rattle.c_grammar.specs.Phrase as phrase
use Rattle.c_parse_rules.proofs.Rounds.{shorter, members_turn, members_stuck, members_over}
use Rattle.std.proofs.lemmas.Result.{err_from_is_err_and}
use Rattle.c_parse_rules.proofs.HeadSteps.{stops_from}
use Rattle.c_parser.proofs.external.more_members.Goals as goal

pub members-preserved : goal.members-preserved
members-preserved c =
    rw (c.in_ok-push.ensures.ok, map_push)
    (sym (members_turn (map fields_of c.members.found) (lexemes c.members.rest.now) (lexemes c.in_ok-next.following.now) (fields_of c.in_ok-next.next) (cc) c.in_ok-next.ensures) ∙ c.members.invariant)

pub members-smaller : goal.members-smaller
members-smaller c = omega (arith, shorter phrase.member c.members.rest.now c.in_ok-next.following.now (fields_of c.in_ok-next.next) refl c.in_ok-next.ensures)

pub returns-in_err-next : goal.returns-in_err-next
returns-in_err-next c =
    let p = err_from_is_err_and c.from_residual.result c.from_residual.ensures.1 in
    rw (p.1, p.2)
    (stops_from c.in_err-next.field-0.0 _ _ (λ f r e. sym c.members.invariant ∙ members_stuck (map fields_of c.members.found) (lexemes c.members.rest.now) f r (cc) e) c.in_err-next.ensures)

pub returns : goal.returns
returns c = sym c.members.invariant ∙ members_over (map fields_of c.members.found) (lexemes c.members.rest.now) (cc)
