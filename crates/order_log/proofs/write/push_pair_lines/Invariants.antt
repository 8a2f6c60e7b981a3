use Rattle.std.proofs.Common.{◌≡◌, ◌∷◌, ◌++◌, length, map, take}
use Rattle.std.specs.Prelude.{codes}
use Rattle.order_log.specs.Text.{text_of, number_text, pair_line}
use Rattle.order_log.proofs.write.push_pair_lines.Given as goal

abbrev pub invariant-loop-pair : goal.invariant-loop-pair
invariant-loop-pair l = l.out ≡ l.fn.out ++ text_of ((codes "profile " ++ number_text (length l.pairs)) ∷ map pair_line (take l.pair-index l.pairs))
