use Rattle.profiles.specs.Profile.{AreTexts, IsLesserFirst}
use Rattle.serde_json.specs.View.{view}
use Rattle.profile_book.proofs.PairOrder.{All-IsSetOf}
use Rattle.profile_book.proofs.Values.{lesser_first-pairs_of}
use Rattle.profile_book.proofs.read.read_profile.Goals as goal

pub new-requires : goal.new-requires
new-requires c =
    let set = c.in_ok-gathered.ensures in
    record {
      ascending = set.ascending;
      lesser_first = All-IsSetOf IsLesserFirst _ _ set (lesser_first-pairs_of (view c.in_ok-value.value) _ c.in_ok-pairs.ensures.pairs);
      texts = All-IsSetOf AreTexts _ _ set c.in_ok-pairs.ensures.texts;
    }
