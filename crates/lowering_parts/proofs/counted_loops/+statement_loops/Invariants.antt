use Rattle.std.proofs.Common.{◌≡◌, ◌+◌, ◌++◌, drop, map}
use Rattle.core_tree.specs.Core.{listed_statements}
use Rattle.core_tree.specs.View.{stmt_of}
use Rattle.lowering_parts.specs.Kept.{statements_kept}
use Rattle.lowering_parts.specs.Sizes.{statements_size}
use Rattle.lowering_parts.specs.Loops.{statements_loops}
use Rattle.lowering_parts.proofs.counted_loops.+statement_loops.Given as goal

-- what is done and the rest make the whole
abbrev pub invariant-push_loops-loop-stmt : goal.invariant-push_loops-loop-stmt
invariant-push_loops-loop-stmt l = record {
  end : l.next + statements_size (statements_kept (listed_statements (map stmt_of (drop l.stmt-index l.stmts)))) ≡ l.fn.place + statements_size (statements_kept (listed_statements (map stmt_of l.fn.stmts)));
  out : l.out ++ statements_loops (listed_statements (map stmt_of (drop l.stmt-index l.stmts))) l.next ≡ l.fn.out ++ statements_loops (listed_statements (map stmt_of l.fn.stmts)) l.fn.place;
}
