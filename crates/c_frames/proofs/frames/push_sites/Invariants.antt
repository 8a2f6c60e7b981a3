use Rattle.std.proofs.Common.{◌≡◌, ◌++◌, drop}
use Rattle.c_frames.specs.Frames.{sites_of}
use Rattle.c_frames.proofs.frames.push_sites.Given as goal

-- what is pushed and the rest make the whole
abbrev pub invariant-loop-local : goal.invariant-loop-local
invariant-loop-local l = l.out ++ sites_of l.sites (drop l.local-index l.locals) ≡ l.fn.out ++ sites_of l.fn.sites l.fn.locals
