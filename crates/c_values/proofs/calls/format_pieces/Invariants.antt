use Rattle.std.proofs.Common.{◌≡◌, ◌++◌, drop}
use Rattle.c_values.specs.Calls as spec
use Rattle.c_values.proofs.calls.format_pieces.Given as goal

-- what is pushed and the rest make the whole
abbrev pub invariant-loop-byte : goal.invariant-loop-byte
invariant-loop-byte l = l.pieces ++ spec.pieces_from l.inside (drop l.byte-index l.text) ≡ spec.format_pieces l.fn.text
