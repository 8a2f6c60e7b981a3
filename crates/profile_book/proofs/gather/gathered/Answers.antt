use Rattle.std.proofs.Common.{List, sym, ◌∙◌, subst}
use Rattle.profiles.specs.Profile.{Pair}
use Rattle.profile_book.specs.Listing.{IsSetOf}
use Rattle.profile_book.proofs.PairOrder.{set_of_pairs}
use Rattle.profile_book.proofs.gather.gathered.Goals as goal

pub returns : goal.returns
returns c =
    let made = set_of_pairs c.into_vec.result.items c.in_ok-set.set c.in_ok-set.ensures in
    let given = subst (λ (xs : List Pair). IsSetOf xs c.in_ok-set.set.keys) c.into_vec.ensures made in
    subst (λ (ps : List Pair). IsSetOf c.args.pairs ps) (sym (c.from_vec.ensures ∙ c.in_ok-in_order.ensures)) given
