use Rattle.std.proofs.Common.{◌≡◌, ◌&&◌, drop, map}
use Rattle.c_tree.specs.Tree.{listed}
use Rattle.c_tree.specs.View.{exp_of}
use Rattle.c_types.specs.Found.{first_among}
use Rattle.c_types.specs.Shown.{shown_standing, shown_wants}
use Rattle.c_types.specs.Standing.{last_standing, fit_wanted}
use Rattle.c_rules.specs.Faults.{rest_faults, arguments_faults}
use Rattle.c_rules.proofs.judging.+judge.Given as goal

-- what was met and what the rest makes of it
abbrev pub invariant-judge_rest-loop-e : goal.invariant-judge_rest-loop-e
invariant-judge_rest-loop-e g l = record {
  standing : last_standing (g.N.Names.known l.names) (shown_standing l.last) (listed (map exp_of (drop l.e-index l.rest))) ≡ last_standing (g.N.Names.known l.names) (shown_standing l.fn.head) (listed (map exp_of l.fn.rest));
  faults : first_among l.first (rest_faults (g.N.Names.known l.names) (listed (map exp_of (drop l.e-index l.rest)))) ≡ first_among l.fn.first (rest_faults (g.N.Names.known l.names) (listed (map exp_of l.fn.rest)));
}

abbrev pub invariant-judge_arguments-loop-e : goal.invariant-judge_arguments-loop-e
invariant-judge_arguments-loop-e g l = record {
  fit : (l.fit && fit_wanted (g.N.Names.known l.names) (shown_wants l.wants) (listed (map exp_of (drop l.e-index l.arguments)))) ≡ fit_wanted (g.N.Names.known l.names) (shown_wants l.fn.wanted) (listed (map exp_of l.fn.arguments));
  faults : first_among l.first (arguments_faults (g.N.Names.known l.names) (shown_wants l.wants) l.at (listed (map exp_of (drop l.e-index l.arguments)))) ≡ first_among l.fn.first (arguments_faults (g.N.Names.known l.names) (shown_wants l.fn.wanted) l.at (listed (map exp_of l.fn.arguments)));
}
