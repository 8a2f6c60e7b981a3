use Rattle.std.proofs.Common.{◌≡◌, take}
use Rattle.rr_base.specs.Memory.{content_of}
use Rattle.rr_base.proofs.mem_shelf.last_named.Given as goal

abbrev pub invariant-loop-at : goal.invariant-loop-at
invariant-loop-at l = content_of l.files l.name ≡ content_of (take l.at l.files) l.name
