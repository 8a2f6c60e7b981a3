use Rattle.std.proofs.Common.{◌≡◌, map, take}
use Rattle.serde_json.specs.View.{view}
use Rattle.profile_book.specs.Writing as spec
use Rattle.profile_book.proofs.write.pair_values.Given as goal

abbrev pub invariant-loop-pair : goal.invariant-loop-pair
invariant-loop-pair l = map view l.values.items ≡ map spec.pair_value (take l.pair-index l.pairs)
