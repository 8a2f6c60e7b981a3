use Rattle.std.proofs.Common.{◌≡◌, ◌∷◌, map, sym, ap, ◌∙◌, rules}
use Rattle.c_tree.specs.Tree.{listed}
use Rattle.c_tree.specs.View.{exp_of}
use Rattle.c_tree.proofs.Views.{exps_of_row-list}
use Rattle.c_types.specs.Found.{first_among}
use Rattle.c_types.specs.Standing.{fit_wanted}
use Rattle.c_rules.specs.Faults.{arguments_faults}
use Rattle.c_types.specs.Shown.{shown_standing, shown_target, shown_wants}
use Rattle.c_rules.proofs.Judged.{comma_standing, comma_faults, rest_standing, rest_faulty, wanted_fits, wanted_faulty, unwanted_fits, unwanted_faulty, call_is, call_faulty, call_shown, call_blamed}
use Rattle.c_rules.proofs.judging.+judge.Goals as goal
use Rattle.c_rules.proofs.judging.+judge.Goals.{judge_arguments-in-Some, judge_arguments-in-None}

pub judge-returns-in-Comma-clause-standing : goal.judge-returns-in-Comma-clause-standing
judge-returns-in-Comma-clause-standing g t c =
    rw (c.in-Comma.is, exps_of_row-list) (comma_standing (g.N.Names.known c.args.names.now) c.in-Comma.a.value c.deref.result.now c.in-Comma.rest c.as_slice.result.now (shown_standing c.judge_going-of.result) (shown_standing c.judge_rest.result) (search rules) c.as_slice.ensures c.judge_going-of.ensures.standing c.judge_rest.ensures.standing)

pub judge-returns-in-Comma-clause-first : goal.judge-returns-in-Comma-clause-first
judge-returns-in-Comma-clause-first g t c =
    rw (c.in-Comma.is, exps_of_row-list) (comma_faults (g.N.Names.known c.args.names.now) c.in-Comma.a.value c.deref.result.now c.in-Comma.rest c.as_slice.result.now c.args.first.now c.judge_going-of.new.first c.judge_rest.new.first (search rules) c.as_slice.ensures c.judge_going-of.ensures.first c.judge_rest.ensures.first)

pub judge-returns-in-Call-clause-standing : goal.judge-returns-in-Call-clause-standing
judge-returns-in-Call-clause-standing g t c =
    rw (c.in-Call.is, exps_of_row-list) (call_shown (g.N.Names.known c.args.names.now) (shown_target c.args.target) c.in-Call.name c.in-Call.arguments c.as_slice-in-Call.result.now c.in-Call.at (shown_standing c.judge_call.result) c.as_slice-in-Call.ensures c.judge_call.ensures.standing)

pub judge-returns-in-Call-clause-first : goal.judge-returns-in-Call-clause-first
judge-returns-in-Call-clause-first g t c =
    rw (c.in-Call.is, exps_of_row-list) (call_blamed (g.N.Names.known c.args.names.now) (shown_target c.args.target) c.in-Call.name c.in-Call.arguments c.as_slice-in-Call.result.now c.in-Call.at c.args.first.now c.judge_call.new.first c.as_slice-in-Call.ensures c.judge_call.ensures.first)

pub judge_call-returns-clause-standing : goal.judge_call-returns-clause-standing
judge_call-returns-clause-standing g t c =
    rw (sym c.as_slice-name.ensures) (call_is (g.N.Names.known c.args.names.now) (shown_target c.args.target) c.as_slice-name.result.now c.args.arguments.now c.format_of-format.result (shown_wants c.wants_of-wants.result) c.judge_arguments-fit.result (shown_standing c.given_by_call-gives.result) (shown_standing c.call_standing.result) c.format_of-format.ensures c.given_by_call-gives.ensures c.wants_of-wants.ensures c.judge_arguments-fit.ensures.fit c.call_standing.ensures)

pub judge_call-returns-clause-first : goal.judge_call-returns-clause-first
judge_call-returns-clause-first g t c =
    rw (sym c.as_slice-name.ensures) (call_faulty (g.N.Names.known c.args.names.now) (shown_target c.args.target) c.as_slice-name.result.now c.args.arguments.now c.args.at c.format_of-format.result (shown_wants c.wants_of-wants.result) c.args.first.now c.note_call.new.first c.judge_arguments-fit.new.first c.format_of-format.ensures c.wants_of-wants.ensures c.note_call.ensures c.judge_arguments-fit.ensures.first)

pub judge_rest-loop-e-preserved : goal.judge_rest-loop-e-preserved
judge_rest-loop-e-preserved g t c = record {
  standing = rest_standing (g.N.Names.known c.args.names.now) c.args.rest.now c.loop-e.e-index c.e-item.result (shown_standing c.loop-e.last) (shown_standing c.judge_going.result) (shown_standing c.following-last.result) _ c.loop-e-test.true c.e-item.is c.judge_going.ensures.standing c.following-last.ensures c.loop-e.invariant.standing;
  faults = rest_faulty (g.N.Names.known c.args.names.now) c.args.rest.now c.loop-e.e-index c.e-item.result c.loop-e.first c.judge_going.new.first _ c.loop-e-test.true c.e-item.is c.judge_going.ensures.first c.loop-e.invariant.faults;
}

pub judge_arguments-loop-e-preserved : goal.judge_arguments-loop-e-preserved
judge_arguments-loop-e-preserved g t c = elim c.match-next.branch [
  | judge_arguments-in-Some w ↦
      let wanted : shown_wants c.loop-e.wants ≡ w.in-Some.next ∷ shown_wants c.match-next.wants = w.in-Some.ensures ∙ sym (ap (λ z. w.in-Some.next ∷ shown_wants z) w.wants-is) in
      record {
        fit = wanted_fits (g.N.Names.known c.args.names.now) w.in-Some.next (shown_wants c.match-next.wants) (shown_wants c.loop-e.wants) c.args.arguments.now c.loop-e.e-index c.e-item.result c.loop-e.fit w.judge_argument-fit.result c.match-next.fit (fit_wanted (g.N.Names.known c.args.names.now) (shown_wants c.args.wanted) (listed (map exp_of c.args.arguments.now))) c.loop-e-test.true c.e-item.is wanted w.judge_argument-fit.ensures.fits w.fit-is c.loop-e.invariant.fit;
        faults = wanted_faulty (g.N.Names.known c.args.names.now) w.in-Some.next (shown_wants c.match-next.wants) (shown_wants c.loop-e.wants) c.args.at c.args.arguments.now c.loop-e.e-index c.e-item.result c.loop-e.first w.judge_argument-fit.new.first c.match-next.first (first_among c.args.first.now (arguments_faults (g.N.Names.known c.args.names.now) (shown_wants c.args.wanted) c.args.at (listed (map exp_of c.args.arguments.now)))) c.loop-e-test.true c.e-item.is wanted w.first-is w.judge_argument-fit.ensures.first c.loop-e.invariant.faults;
      }
  | judge_arguments-in-None w ↦
      rw w.wants-is (record {
        fit = unwanted_fits (g.N.Names.known c.args.names.now) (shown_wants c.loop-e.wants) c.args.arguments.now c.loop-e.e-index c.e-item.result c.loop-e.fit c.match-next.fit (fit_wanted (g.N.Names.known c.args.names.now) (shown_wants c.args.wanted) (listed (map exp_of c.args.arguments.now))) c.loop-e-test.true c.e-item.is w.in-None.ensures w.fit-is c.loop-e.invariant.fit;
        faults = unwanted_faulty (g.N.Names.known c.args.names.now) (shown_wants c.loop-e.wants) c.args.at c.args.arguments.now c.loop-e.e-index c.e-item.result c.loop-e.first w.judge.new.first c.match-next.first (first_among c.args.first.now (arguments_faults (g.N.Names.known c.args.names.now) (shown_wants c.args.wanted) c.args.at (listed (map exp_of c.args.arguments.now)))) c.loop-e-test.true c.e-item.is w.in-None.ensures w.first-is w.judge.ensures.first c.loop-e.invariant.faults;
      })
]
