use Rattle.std.proofs.Common.{◌≡◌, take}
use Rattle.lock_sound.proofs.profile.copied_list.Given as goal

abbrev pub invariant-loop-pair : goal.invariant-loop-pair
invariant-loop-pair l = l.copy ≡ take l.pair-index l.pairs
