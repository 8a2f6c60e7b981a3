use Rattle.std.proofs.Common.{◌≡◌, ◌++◌, map, take}
use Rattle.reads_text.specs.Text.{value_text}
use Rattle.snapshots.specs.Text.{spaced}
use Rattle.snapshots.proofs.write.push_words.Given as goal

abbrev pub invariant-loop-word : goal.invariant-loop-word
invariant-loop-word l = l.out ≡ l.fn.out ++ spaced (map value_text (take l.word-index l.words))
