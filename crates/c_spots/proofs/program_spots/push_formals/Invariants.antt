use Rattle.std.proofs.Common.{◌≡◌, ◌+◌, ◌++◌, drop, length, map}
use Rattle.c_tree.specs.View.{formal_of}
use Rattle.c_programs.specs.Declarators.{after_params}
use Rattle.c_spots.specs.Spots.{formals_spots}
use Rattle.c_spots.specs.SpotViews.{shown_owner, shown_spots}
use Rattle.c_names.specs.Table.{known_of}
use Rattle.c_spots.proofs.program_spots.push_formals.Given as goal

-- what is done and the rest make the whole
abbrev pub invariant-loop-param : goal.invariant-loop-param
invariant-loop-param l = record {
  known : after_params (known_of l.table) (map formal_of (drop l.param-index l.params)) ≡ after_params (known_of l.fn.table) (map formal_of l.params);
  next : l.next + length (map formal_of (drop l.param-index l.params)) ≡ l.fn.next + length (map formal_of l.params);
  out :
      shown_spots l.out ++ formals_spots (shown_owner l.owner) (known_of l.table) l.next (map formal_of (drop l.param-index l.params))
      ≡ shown_spots l.fn.out ++ formals_spots (shown_owner l.fn.owner) (known_of l.fn.table) l.fn.next (map formal_of l.params);
}
