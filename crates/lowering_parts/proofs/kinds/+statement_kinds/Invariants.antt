use Rattle.std.proofs.Common.{◌≡◌, ◌++◌, drop, map}
use Rattle.core_tree.specs.Core.{listed_statements}
use Rattle.core_tree.specs.View.{stmt_of}
use Rattle.lowering_parts.specs.Kept.{statements_kept}
use Rattle.lowering_parts.specs.Kinds.{statements_kinds}
use Rattle.lowering_parts.proofs.kinds.+statement_kinds.Given as goal

-- what is pushed and the rest make the whole
abbrev pub invariant-push_statements_kinds-loop-stmt : goal.invariant-push_statements_kinds-loop-stmt
invariant-push_statements_kinds-loop-stmt l = l.out ++ statements_kinds (statements_kept (listed_statements (map stmt_of (drop l.stmt-index l.stmts)))) ≡ l.fn.out ++ statements_kinds (statements_kept (listed_statements (map stmt_of l.fn.stmts)))
