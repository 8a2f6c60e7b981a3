use Rattle.std.proofs.Common.{◌≡◌, take}
use Rattle.facts.specs.declared.pair.AccessAt.{AccessAt}
use Rattle.weak_lock_facts.specs.Grains.{loop_of}
use Rattle.grain_choice.specs.Loops.{loop_at}
use Rattle.grain_choice.proofs.loops.loops.Given as goal

abbrev pub invariant-loop-range : goal.invariant-loop-range
invariant-loop-range l = (a : AccessAt) → loop_at l.loops a ≡ loop_of (take l.range-index l.ranges) a
