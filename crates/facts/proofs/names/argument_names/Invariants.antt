use Rattle.std.proofs.Common.{◌≡◌, ◌++◌, ℕ, drop}
use Rattle.std.specs.Prelude.{if◌then◌else◌}
use Rattle.facts.specs.Blocks.{begins_block}
use Rattle.facts.specs.Carried.{known_in}
use Rattle.facts.specs.Paths.{namings_from, argument_namings, known_formal, known_at}
use Rattle.facts.proofs.names.argument_names.Given as goal

abbrev pub invariant-loop-at : goal.invariant-loop-at
invariant-loop-at l = record {
  rows : l.names ++ namings_from l.function l.at (drop l.at l.function.instrs) ≡ argument_namings l.function;
  held : (r : ℕ) → (if begins_block l.function.instrs l.at then known_formal l.function.formals l.function.instrs r else known_in l.held l.fixed.items r) ≡ known_at l.function.formals l.function.instrs l.at r;
}
