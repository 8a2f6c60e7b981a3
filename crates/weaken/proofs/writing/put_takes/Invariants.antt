use Rattle.std.proofs.Common.{◌≡◌, ◌++◌, take, map}
use Rattle.weak_code.specs.Places as places
use Rattle.weak_code.specs.Weakened as spec
use Rattle.weaken.proofs.writing.put_takes.Given as goal

abbrev pub invariant-loop-region : goal.invariant-loop-region
invariant-loop-region l = l.written ≡ l.initial.written ++ map (spec.at_instr l.instr) (places.takes (take l.region-index l.regions))
