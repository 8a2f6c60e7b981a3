use Rattle.std.proofs.Common.{◌≡◌, ◌++◌, take}
use Rattle.order_log.specs.Text.{hex_text}
use Rattle.order_log.proofs.write.push_hex.Given as goal

abbrev pub invariant-loop-byte : goal.invariant-loop-byte
invariant-loop-byte l = l.out ≡ l.fn.out ++ hex_text (take l.byte-index l.bytes)
