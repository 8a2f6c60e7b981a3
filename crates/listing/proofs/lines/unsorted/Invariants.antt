use Rattle.std.proofs.Common.{◌≡◌, map, take}
use Rattle.listing.specs.Lines.{line_of}
use Rattle.listing.proofs.lines.unsorted.Given as goal

abbrev pub invariant-loop-pair : goal.invariant-loop-pair
invariant-loop-pair l = l.all.items ≡ map (line_of l.code) (take l.pair-index l.pairs)
