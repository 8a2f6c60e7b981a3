use Rattle.std.proofs.Common.{arith}
use Rattle.std.proofs.lemmas.Grind.{common_steps}
use Rattle.profile_book.proofs.Values.{no_pair}
use Rattle.profile_book.proofs.listing.pair_in.Goals as goal
use Rattle.profile_book.proofs.listing.pair_in.Goals.{in_default-via-then-as_slice-lt2, in_default-via-else-as_slice-lt2+else-this-lt3}

pub returns-in_default : goal.returns-in_default
returns-in_default c =
    no_pair _ _ c.in_ok-as_array.ensures
    (λ e. elim c.in_default.branch [ in_default-via-then-as_slice-lt2 w ↦ grind (arith, common_steps) | in_default-via-else-as_slice-lt2+else-this-lt3 w ↦ grind (arith, common_steps) ])
