use Rattle.std.proofs.Common.{◌≡◌, ◌++◌, drop}
use Rattle.c_frames.specs.Frames as spec
use Rattle.c_frames.proofs.frames.marked.Given as goal

-- what is marked and the rest make the whole
abbrev pub invariant-loop-local : goal.invariant-loop-local
invariant-loop-local l = l.out ++ spec.marked l.marks.numbers l.number (drop l.local-index l.locals) ≡ spec.marked l.fn.marks.numbers l.fn.first l.fn.locals
