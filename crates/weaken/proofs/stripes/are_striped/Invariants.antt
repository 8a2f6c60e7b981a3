use Rattle.std.proofs.Common.{take, length, replicate, false}
use Rattle.weak_code.specs.WeakLocks as spec
use Rattle.weaken.specs.Marks.{Marks}
use Rattle.weaken.proofs.stripes.are_striped.Given as goal

abbrev pub invariant-loop-row : goal.invariant-loop-row
invariant-loop-row l = Marks l.locked (spec.is_striped l.code l.points (take l.row-index l.rows)) (replicate (length l.locked) false) l.striped.items
