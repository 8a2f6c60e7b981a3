use Rattle.std.proofs.Common.{◌≡◌, ◌≤◌, length}
use Rattle.c_types.specs.Scopes.{seen_in}
use Rattle.c_names.specs.Table.{scopes_of}
use Rattle.c_names.proofs.table.seen_in.Given as goal

abbrev pub invariant-loop-left : goal.invariant-loop-left
invariant-loop-left l = record {
  same : seen_in (scopes_of l.left) l.name ≡ seen_in (scopes_of l.fn.scopes) l.name;
  within : length l.left ≤ length l.fn.scopes;
}

abbrev pub decreases-loop-left : goal.decreases-loop-left
decreases-loop-left l = length l.left
