use Rattle.std.proofs.Common.{◌≡◌, ◌++◌, drop, map}
use Rattle.c_frames.specs.Frames as spec
use Rattle.c_frames.proofs.frames.pointers_of.Given as goal

-- what is pushed and the rest make the whole
abbrev pub invariant-loop-formal : goal.invariant-loop-formal
invariant-loop-formal l = l.pointers ++ map (λ l. l.is_pointer) (drop l.formal-index l.formals) ≡ map (λ l. l.is_pointer) l.fn.formals

abbrev pub invariant-loop-local : goal.invariant-loop-local
invariant-loop-local l = l.pointers ++ spec.local_pointers (drop l.local-index l.locals) ≡ spec.pointers_of l.fn.formals l.fn.locals
