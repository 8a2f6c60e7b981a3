use Rattle.std.proofs.Common.{◌≡◌, ◌+◌, ◌++◌, drop, map, length}
use Rattle.core_tree.specs.Core.{listed_statements}
use Rattle.core_tree.specs.View.{stmt_of}
use Rattle.lowering_parts.specs.Kept.{statements_kept}
use Rattle.flow_lower.specs.Lowered.{statements_kinds, statements_size, statements_code}
use Rattle.flow_lower.proofs.statement.+statement_code.Given as goal

-- what is done and the rest make the whole
abbrev pub invariant-push_statements-loop-stmt : goal.invariant-push_statements-loop-stmt
invariant-push_statements-loop-stmt l = record {
  register : l.next.register + length (statements_kinds (statements_kept (listed_statements (map stmt_of (drop l.stmt-index l.stmts))))) ≡ l.fn.from.register + length (statements_kinds (statements_kept (listed_statements (map stmt_of l.fn.stmts))));
  place : l.next.place + statements_size (statements_kept (listed_statements (map stmt_of (drop l.stmt-index l.stmts)))) ≡ l.fn.from.place + statements_size (statements_kept (listed_statements (map stmt_of l.fn.stmts)));
  out : l.out ++ statements_code l.first (statements_kept (listed_statements (map stmt_of (drop l.stmt-index l.stmts)))) l.next.register l.next.place l.around.out l.around.on ≡ l.fn.out ++ statements_code l.fn.first (statements_kept (listed_statements (map stmt_of l.fn.stmts))) l.fn.from.register l.fn.from.place l.fn.around.out l.fn.around.on;
}
