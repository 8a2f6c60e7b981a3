use Rattle.std.proofs.Common.{subst, option_map}
use Rattle.seen_pairs.specs.Pairings.{NotedIs}
use Rattle.seen_pairs.proofs.Names.{seen_of}
use Rattle.seen_pairs.proofs.seen_pairs.Goals as goal

pub returns-in_ok-gathered-in-Some : goal.returns-in_ok-gathered-in-Some
returns-in_ok-gathered-in-Some c =
    seen_of c.args.code.now c.args.setup.now c.args.entries.now c.in-Some.pairs.keys c.in_ok-named-in-Some.field-0 c.in_ok-gathered-in-Some.field-0
    (subst (λ o. NotedIs c.args.code.now c.args.setup.now c.args.entries.now (option_map (λ set. set.keys) o)) c.in-Some.is c.in_ok-pairs.ensures)
    c.in_ok-named-in-Some.ensures c.in_ok-gathered-in-Some.ensures
