use Rattle.std.proofs.Common.{◌≡◌, length}
use Rattle.word_semantics.specs.Kinds as kinds
use Rattle.flow_code.specs.Kinds as spec
use Rattle.flow_code.proofs.kinds.fit_format.Given as goal

abbrev pub invariant-loop-pieces : goal.invariant-loop-pieces
invariant-loop-pieces l = spec.have_kinds l.function l.rest (kinds.format_kinds l.pieces) ≡ spec.have_kinds l.function l.arguments (kinds.format_kinds l.format)

abbrev pub decreases-loop-pieces : goal.decreases-loop-pieces
decreases-loop-pieces l = length l.pieces
