use Rattle.std.proofs.Common.{◌≡◌, ◌<◌, ℕ, length, Some, None}
use Rattle.std.specs.Prelude.{if◌then◌else◌, nat_eq, slice_get}
use Rattle.std.specs.HashMap.{get}
use Rattle.facts.specs.Blocks.{begins_block}
use Rattle.weak_lock_facts.specs.Loops.{nth}
use Rattle.weak_lock_facts.specs.Ranges.{maker_at, moved_of}
use Rattle.loop_bounds.proofs.operands.operand_makers.Given as goal

abbrev pub invariant-loop-at : goal.invariant-loop-at
invariant-loop-at l = record {
  long : length l.makers.items ≡ l.at;
  each : (k : ℕ) (m : ℕ × ℕ) → k < l.at → moved_of (nth l.instrs k) ≡ Some m → slice_get l.makers.items k ≡ Some (maker_at l.instrs k m.0, maker_at l.instrs k m.1);
  places : (r : ℕ) → (if begins_block l.instrs l.at then None else get nat_eq l.places r) ≡ maker_at l.instrs l.at r;
}
