use Rattle.std.proofs.Common.{◌≡◌, ◌++◌, drop}
use Rattle.c_frames.specs.Frames.{local_homes}
use Rattle.c_frames.proofs.frames.push_local_homes.Given as goal

-- what is done and the rest make the whole
abbrev pub invariant-loop-local : goal.invariant-loop-local
invariant-loop-local l = l.out ++ local_homes l.register l.object (drop l.local-index l.locals) ≡ l.fn.out ++ local_homes l.fn.register l.fn.object l.fn.locals
