use Rattle.std.proofs.Common.{◌≡◌, rules, tests, position, ◌∙◌}
use Rattle.std.proofs.lemmas.Iterator.{YieldsList-from_slice}
use Rattle.std.proofs.lemmas.Iterator.Search.{position_from_yields_List}
use Rattle.thread_interpreter.specs.Formulas.{meets}
use Rattle.watch_calls.proofs.hit.first_hit.Goals as goal

pub returns : goal.returns
returns g c =
    let first : c.position-at.result ≡ position (meets c.args.watch.now) c.args.accesses.now =
    position_from_yields_List (meets c.args.watch.now) _ _ c.position-at.result c.position-at.ensures.ran (YieldsList-from_slice c.args.accesses.now cc) (λ x b q k. search (rules, tests)) in
    let same : c.map.result ≡ c.position-at.result = search rules in
    same ∙ first
