use Rattle.std.proofs.Common.{◌≡◌, ◌++◌, take}
use Rattle.listing.specs.Text.{lines_text}
use Rattle.listing.proofs.text.push_lines.Given as goal

abbrev pub invariant-loop-line : goal.invariant-loop-line
invariant-loop-line l = l.out ≡ l.fn.out ++ lines_text l.code (take l.line-index l.lines)
