use Rattle.std.proofs.Common.{◌≡◌, take}
use Rattle.facts.specs.declared.pair.AccessAt.{AccessAt}
use Rattle.weak_lock_facts.specs.Grains.{is_racy}
use Rattle.grain_choice.specs.Listed.{is_listed, Agree}
use Rattle.grain_choice.proofs.accesses.both_of_all.Given as goal

abbrev pub invariant-loop-pair : goal.invariant-loop-pair
invariant-loop-pair l = Agree l.known l.listed.items × ((a : AccessAt) → is_listed l.listed.items a ≡ is_racy (take l.pair-index l.pairs) a)
