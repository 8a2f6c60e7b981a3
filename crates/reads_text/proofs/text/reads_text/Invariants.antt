use Rattle.std.proofs.Common.{◌≡◌, take}
use Rattle.reads_text.specs.Text.{reads_text_of}
use Rattle.reads_text.proofs.text.reads_text.Given as goal

-- the lines of the accesses so far
abbrev pub invariant-loop-read : goal.invariant-loop-read
invariant-loop-read l = l.out ≡ reads_text_of (take l.read-index l.reads)
