use Rattle.std.proofs.Common.{◌≡◌, ◌++◌, length}
use Rattle.core_run.specs.Words.{start_globals}
use Rattle.core_run.proofs.start.push_globals.Given as goal

abbrev pub invariant-loop-kinds : goal.invariant-loop-kinds
invariant-loop-kinds l = record { words : l.initial.words.items ++ start_globals l.slots l.code.global_kinds l.code.globals ≡ l.words.items ++ start_globals l.slots l.kinds l.globals }

abbrev pub decreases-loop-kinds : goal.decreases-loop-kinds
decreases-loop-kinds l = length l.kinds
