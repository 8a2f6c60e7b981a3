use Rattle.lockset_flow.proofs.Relaxed.{ways_of, one_within, two_within, met_one, met_two, met_exit, ok_map}
use Rattle.lockset_flow.proofs.flow.step.Goals as goal

pub relax-requires-clause-to : goal.relax-requires-clause-to
relax-requires-clause-to c =
    let f = c.args.function.now in
    one_within f c.args.k c.in-One.to c.next_of.result c.requires.flows c.requires.from (ways_of c.as_slice.result.now f c.args.k c.next_of.result c.as_slice.ensures c.next_of.ensures) c.in-One.is

pub relax-requires-in-Two-clause-to : goal.relax-requires-in-Two-clause-to
relax-requires-in-Two-clause-to c =
    let f = c.args.function.now in
    (two_within f c.args.k c.in-Two.to c.in-Two.other c.next_of.result c.requires.flows c.requires.from (ways_of c.as_slice.result.now f c.args.k c.next_of.result c.as_slice.ensures c.next_of.ensures) c.in-Two.is).0

pub relax-requires-in-Two-2-clause-to : goal.relax-requires-in-Two-2-clause-to
relax-requires-in-Two-2-clause-to c =
    let f = c.args.function.now in
    (two_within f c.args.k c.in-Two.to c.in-Two.other c.next_of.result c.requires.flows c.requires.from (ways_of c.as_slice.result.now f c.args.k c.next_of.result c.as_slice.ensures c.next_of.ensures) c.in-Two.is).1

pub returns-in-One : goal.returns-in-One
returns-in-One c =
    let f = c.args.function.now in
    ok_map c.relax.result _ _ (λ changed s. met_one c.args.exits.now f c.args.k c.in-One.to c.next_of.result c.args.facts.now c.relax.new.facts changed (ways_of c.as_slice.result.now f c.args.k c.next_of.result c.as_slice.ensures c.next_of.ensures) c.in-One.is s) c.relax.ensures

pub returns-in_ok-changed-in-Two-2 : goal.returns-in_ok-changed-in-Two-2
returns-in_ok-changed-in-Two-2 c =
    let f = c.args.function.now in
    met_two c.args.exits.now f c.args.k c.in-Two.to c.in-Two.other c.next_of.result c.args.facts.now c.relax-in-Two.new.facts c.relax-in-Two-2.new.facts c.in_ok-changed-in-Two.changed c.in_ok-changed-in-Two-2.field-0 (ways_of c.as_slice.result.now f c.args.k c.next_of.result c.as_slice.ensures c.next_of.ensures) c.in-Two.is c.in_ok-changed-in-Two.ensures c.in_ok-changed-in-Two-2.ensures

pub returns-in-Exit : goal.returns-in-Exit
returns-in-Exit c =
    let f = c.args.function.now in
    ok_map c.leave.result _ _ (λ changed s. met_exit c.args.exits.now f c.args.k c.next_of.result c.args.facts.now c.leave.new.facts changed c.requires.from (ways_of c.as_slice.result.now f c.args.k c.next_of.result c.as_slice.ensures c.next_of.ensures) c.in-Exit.is s) c.leave.ensures
