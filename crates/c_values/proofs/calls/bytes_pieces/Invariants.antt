use Rattle.std.proofs.Common.{◌≡◌, ◌++◌, drop}
use Rattle.c_values.specs.Calls as spec
use Rattle.c_values.proofs.calls.bytes_pieces.Given as goal

-- what is pushed and the rest make the whole
abbrev pub invariant-loop-byte : goal.invariant-loop-byte
invariant-loop-byte l = l.pieces ++ spec.bytes_pieces (drop l.byte-index l.text) ≡ spec.bytes_pieces l.fn.text
