use Rattle.std.proofs.Common.{take, replicate, false}
use Rattle.std.specs.List.{list_any}
use Rattle.facts.specs.Pairs as facts_pairs
use Rattle.race_pairs.specs.Roots.{Marks}
use Rattle.race_pairs.proofs.roots.started.Given as goal

abbrev pub invariant-loop-function : goal.invariant-loop-function
invariant-loop-function l = Marks (λ g. list_any (λ fn. list_any (λ i. facts_pairs.creates g i.act) fn.instrs) (take l.function-index l.code.functions)) (replicate l.count false) l.marks.items
