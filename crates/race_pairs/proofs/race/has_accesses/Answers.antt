use Rattle.std.proofs.Common.{◌≡◌, List, refl, subst}
use Rattle.std.specs.Prelude.{◌↔◌, IsTrue}
use Rattle.facts.specs.declared.pair.AccessAt.{AccessAt}
use Rattle.race_pairs.proofs.Pairing.{accesses_same}
use Rattle.race_pairs.proofs.race.has_accesses.Goals as goal

pub returns : goal.returns
returns c = subst (λ (xs : List AccessAt). IsTrue c.eq.result ↔ (xs ≡ c.args.accesses.now)) c.as_slice.ensures (accesses_same _ c.as_slice.result.now c.args.accesses.now c.eq.result c.eq.ensures (λ a b. refl))
