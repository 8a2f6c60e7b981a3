use Rattle.std.proofs.Common.{◌≡◌, ◌<◌, ℕ, length, Some, None}
use Rattle.std.specs.Prelude.{if◌then◌else◌, slice_get}
use Rattle.facts.specs.Blocks.{begins_block, constant_at, amount_at}
use Rattle.facts.specs.Carried.{constant_in}
use Rattle.facts.proofs.moves.amounts.Given as goal

abbrev pub invariant-loop-at : goal.invariant-loop-at
invariant-loop-at l = record {
  long : length l.amounts.items ≡ l.at;
  each : (k : ℕ) → k < l.at → slice_get l.amounts.items k ≡ Some (amount_at l.instrs k);
  held : (r : ℕ) → (if begins_block l.instrs l.at then None else constant_in l.held r) ≡ constant_at l.instrs l.at r;
}
