use Rattle.std.proofs.Common.{◌≡◌, [], map, refl, ◌∙◌, sym, arith}
use Rattle.std.proofs.lemmas.Grind.{common_steps}
use Rattle.std.proofs.lemmas.List.{map_push}
use Rattle.std.proofs.lemmas.Result.{err_from_is_err_and}
use Rattle.c_tree.specs.View.{outer_of}
use Rattle.c_parse_rules.specs.Gives.{lexemes}
use Rattle.c_grammar.specs.Phrase as phrase
use Rattle.c_parse_rules.proofs.HeadSteps.{stops_from}
use Rattle.c_parse_rules.proofs.Rounds.{shorter, program_next, program_stops, program_ends}
use Rattle.c_parser.proofs.external.program.Goals as goal

pub externals-preserved : goal.externals-preserved
externals-preserved c =
    rw (c.in_ok-push.ensures.ok, map_push)
    (sym (program_next (map outer_of c.externals.found) c.externals.rest.now (lexemes c.in_ok-next.following.now) (outer_of c.in_ok-next.next) (λ e. grind (arith, common_steps)) c.in_ok-next.ensures) ∙ c.externals.invariant)

pub externals-smaller : goal.externals-smaller
externals-smaller c = omega (arith, shorter phrase.outer c.externals.rest.now c.in_ok-next.following.now (outer_of c.in_ok-next.next) refl c.in_ok-next.ensures)

pub returns-in_err-next : goal.returns-in_err-next
returns-in_err-next c =
    let p = err_from_is_err_and c.from_residual.result c.from_residual.ensures.1 in
    rw (p.1, p.2)
    (stops_from c.in_err-next.field-0.0 _ _ (λ f r e. sym c.externals.invariant ∙ program_stops (map outer_of c.externals.found) c.externals.rest.now f r (λ e. grind (arith, common_steps)) e) c.in_err-next.ensures)

pub returns : goal.returns
returns c =
    let end : c.externals.rest.now ≡ [] = grind (arith, common_steps) in
    sym c.externals.invariant ∙ program_ends (map outer_of c.externals.found) c.externals.rest.now end
