use Rattle.std.proofs.Common.{◌≡◌, ◌++◌, take}
use Rattle.walk_chains.specs.Telling.{passes_text}
use Rattle.walk_chains.proofs.told.push_passes.Given as goal

-- the lines of the passes so far
abbrev pub invariant-loop-pass : goal.invariant-loop-pass
invariant-loop-pass l = l.out ≡ l.fn.out ++ passes_text (take l.pass-index l.passes)
