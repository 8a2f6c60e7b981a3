use Rattle.std.proofs.Common.{map}
use Rattle.std.proofs.lemmas.Result.{err_from_is_err_and}
use Rattle.c_tree.specs.View.{declared_of, object_of}
use Rattle.c_parse_rules.specs.Gives.{lexemes}
use Rattle.c_parse_rules.proofs.HeadSteps.{stops_from}
use Rattle.c_parse_rules.proofs.Rounds.{objects_stuck}
use Rattle.c_parser.proofs.external.objects_after.Goals as goal

pub returns-in_err-rest : goal.returns-in_err-rest
returns-in_err-rest c =
    let p = err_from_is_err_and c.from_residual-in_err-rest.result c.from_residual-in_err-rest.ensures.1 in
    let items = rw (c.in_ok-push.ensures.ok, c.new-found.ensures) at c.in_ok-items.ensures in
    rw (p.1, p.2)
    (stops_from c.in_err-rest.field-0.0 _ _ (λ f r e. objects_stuck c.args.is_static c.args.specifier c.args.at (declared_of c.args.declarator) (lexemes c.args.tokens.now) (lexemes c.in_ok-first.rest.now) (lexemes c.in_ok-items.rest.now) (object_of c.in_ok-first.first) (map object_of c.in_ok-items.items) f r c.in_ok-first.ensures items e) c.in_err-rest.ensures.taken)
