use Rattle.std.proofs.Common.{rules, ◌≡◌, ◌∙◌}
use Rattle.std.proofs.lemmas.Fn.{always_returns_same}
use Rattle.profiles.specs.Profile.{pair_order}
use Rattle.grain_choice.proofs.Names.{searched}
use Rattle.grain_choice.proofs.seen.has_pair.Goals as goal

pub returns : goal.returns
returns c =
    c.is_ok.ensures.value
    ∙ searched c.args.pairs.now (c.args.lesser.now, c.args.greater.now) c.binary_search_by.result c.requires c.binary_search_by.ensures.bound
    (c.binary_search_by.ensures.position (λ p. pair_order p (c.args.lesser.now, c.args.greater.now)) (always_returns_same _ (λ a r. r ≡ pair_order a.0.now (c.args.lesser.now, c.args.greater.now)) _ (λ a r f h. search rules)))
