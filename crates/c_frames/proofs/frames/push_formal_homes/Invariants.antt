use Rattle.std.proofs.Common.{◌≡◌, ◌+◌, ◌++◌, drop}
use Rattle.c_frames.specs.Frames.{formal_homes, kept_count}
use Rattle.c_frames.proofs.frames.push_formal_homes.Given as goal

-- what is done and the rest make the whole
abbrev pub invariant-loop-local : goal.invariant-loop-local
invariant-loop-local l = record {
  homes : l.out ++ formal_homes l.register l.object (drop l.local-index l.formals) ≡ l.fn.out ++ formal_homes 0 0 l.fn.formals;
  kept : l.object + kept_count (drop l.local-index l.formals) ≡ kept_count l.fn.formals;
}
