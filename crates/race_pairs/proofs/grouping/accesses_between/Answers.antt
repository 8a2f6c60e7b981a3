use Rattle.std.proofs.Common.{◌∙◌}
use Rattle.std.proofs.lemmas.List.Filters.{dedup_is}
use Rattle.facts.specs.Pairs.{access_same}
use Rattle.race_pairs.specs.Gains.{Below}
use Rattle.race_pairs.specs.Groups.{StandsFrom}
use Rattle.race_pairs.proofs.Parts.{gains_deduped}
use Rattle.race_pairs.proofs.grouping.accesses_between.Goals as goal

pub returns : goal.returns
returns c = gains_deduped (Below c.args.to (StandsFrom c.args.touches.now c.args.from)) c.in_ok-all.all.items c.from_vec.result (c.from_vec.ensures ∙ dedup_is access_same c.in_ok-all.all.items c.dedup.new.self.items c.dedup.ensures.filtered) c.in_ok-all.ensures
