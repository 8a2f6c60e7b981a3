use Rattle.std.proofs.Common.{take}
use Rattle.weak_code.specs.WeakLocks as spec
use Rattle.weaken.specs.Marks.{Marks}
use Rattle.weaken.proofs.stripes.mark_all.Given as goal

abbrev pub invariant-loop-place : goal.invariant-loop-place
invariant-loop-place l = Marks l.locked (λ q. spec.has_place q (take l.place-index l.places)) l.initial.striped.items l.striped.items
