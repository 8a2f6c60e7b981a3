use Rattle.std.specs.Option.{option_map}
use Rattle.c_values.specs.Tails.{all_past}
use Rattle.std.proofs.Common.{◌≡◌, ◌&&◌, None, [], ◌++◌, drop, map}
use Rattle.c_tree.specs.Tree.{listed}
use Rattle.c_tree.specs.View as tree
use Rattle.c_types.specs.Shown.{shown_standing, shown_wants}
use Rattle.c_types.specs.Standing.{fit_wanted}
use Rattle.core_tree.specs.View.{exp_of}
use Rattle.c_operators.specs.Views.{context_of, places_of}
use Rattle.c_values.specs.Expressions as spec
use Rattle.c_values.proofs.expression.+expression.Given as goal

-- what is computed and the rest make the whole
abbrev pub invariant-tail_of-loop-e : goal.invariant-tail_of-loop-e
invariant-tail_of-loop-e l = record {
  value :
      spec.tail_of (context_of l.context) (listed (map tree.exp_of (drop l.e-index l.es))) (places_of l.so_far) l.at
      ≡ spec.tail_of (context_of l.fn.context) (listed (map tree.exp_of l.fn.es)) [] l.fn.at;
  last :
      all_past (context_of l.context).known (option_map shown_standing l.last) (listed (map tree.exp_of (drop l.e-index l.es)))
      ≡ all_past (context_of l.fn.context).known None (listed (map tree.exp_of l.fn.es));
}

-- what is pushed and the rest make the whole
abbrev pub invariant-arguments-loop-e : goal.invariant-arguments-loop-e
invariant-arguments-loop-e l = record {
  values :
      map exp_of l.out ++ spec.arguments (context_of l.context) (shown_wants l.wants) (listed (map tree.exp_of (drop l.e-index l.es)))
      ≡ spec.arguments (context_of l.fn.context) (shown_wants l.fn.wanted) (listed (map tree.exp_of l.fn.es));
  fit :
      (l.fit && fit_wanted (context_of l.context).known (shown_wants l.wants) (listed (map tree.exp_of (drop l.e-index l.es))))
      ≡ fit_wanted (context_of l.fn.context).known (shown_wants l.fn.wanted) (listed (map tree.exp_of l.fn.es));
}
