use Rattle.std.proofs.Common.{◌≡◌, ◌++◌, drop, option_map}
use Rattle.std.specs.List.{AllByRecursion}
use Rattle.profiles.specs.Profile.{AreTexts}
use Rattle.serde_json.specs.View.{items_view}
use Rattle.profile_book.specs.Listing as spec
use Rattle.profile_book.proofs.listing.pairs_in.Given as goal

abbrev pub invariant-loop-item : goal.invariant-loop-item
invariant-loop-item l = record {
  pairs : spec.pairs_in (items_view l.items) ≡ option_map (λ rest. l.found ++ rest) (spec.pairs_in (items_view (drop l.item-index l.items)));
  texts : AllByRecursion AreTexts l.found;
}
