use Rattle.std.proofs.Common.{◌≡◌, ◌++◌, drop, map}
use Rattle.core_tree.specs.View.{arrival_of}
use Rattle.c_frames.specs.Frames as spec
use Rattle.c_frames.proofs.frames.arrivals_of.Given as goal

-- what is pushed and the rest make the whole
abbrev pub invariant-loop-local : goal.invariant-loop-local
invariant-loop-local l = map arrival_of l.arrivals ++ spec.arrivals_of l.register l.object (drop l.local-index l.formals) ≡ spec.arrivals_of 0 0 l.fn.formals
