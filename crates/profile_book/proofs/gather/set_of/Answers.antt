use Rattle.std.proofs.Common.{rules}
use Rattle.std.specs.BTreeSet.{IsFromIterResult}
use Rattle.std.proofs.lemmas.Iterator.Adapters.{YieldsList-from_vec, fact_from_collect}
use Rattle.profiles.specs.Profile.{pair_order}
use Rattle.profile_book.proofs.gather.set_of.Goals as goal

pub returns : goal.returns
returns c =
    fact_from_collect (λ ps set. IsFromIterResult pair_order ps set) c.collect.result c.collect.ensures.ran
    (YieldsList-from_vec {s = c.into_iter.result} c.args.pairs.items (search rules) (search rules))
