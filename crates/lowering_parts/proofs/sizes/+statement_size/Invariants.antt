use Rattle.std.proofs.Common.{◌≡◌, ◌+◌, drop, map}
use Rattle.core_tree.specs.Core.{listed_statements}
use Rattle.core_tree.specs.View.{stmt_of}
use Rattle.lowering_parts.specs.Kept.{statements_kept}
use Rattle.lowering_parts.specs.Sizes.{statements_size}
use Rattle.lowering_parts.proofs.sizes.+statement_size.Given as goal

-- what is counted and the rest make the whole
abbrev pub invariant-statements_size-loop-stmt : goal.invariant-statements_size-loop-stmt
invariant-statements_size-loop-stmt l = l.size + statements_size (statements_kept (listed_statements (map stmt_of (drop l.stmt-index l.stmts)))) ≡ statements_size (statements_kept (listed_statements (map stmt_of l.fn.stmts)))
