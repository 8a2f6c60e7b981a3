use Rattle.std.proofs.Common.{take}
use Rattle.std.specs.List.{list_any}
use Rattle.facts.specs.Pairs as facts_pairs
use Rattle.race_pairs.specs.Roots.{Marks}
use Rattle.race_pairs.proofs.roots.mark_all.Given as goal

abbrev pub invariant-loop-instr : goal.invariant-loop-instr
invariant-loop-instr l = Marks (λ g. list_any (λ i. facts_pairs.creates g i.act) (take l.instr-index l.instrs)) l.initial.marks l.marks
