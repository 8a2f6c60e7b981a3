use Rattle.std.proofs.Common.{◌∙◌, ap, List}
use Rattle.listing.specs.declared.line.Line.{Line}
use Rattle.listing.specs.Lines.{sorted_lines}
use Rattle.listing.proofs.Sorted.{lines_are}
use Rattle.listing.proofs.lines.sorted.Goals as goal

pub returns : goal.returns
returns c = lines_are c.in_ok-all.all.items c.sort.new.self.items c.in_ok-sort.ensures.sorted c.in_ok-sort.ensures.stable ∙ ap (λ (ls : List Line). sorted_lines ls) c.in_ok-all.ensures
