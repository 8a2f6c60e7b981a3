use Rattle.std.proofs.Common.{◌≡◌, ◌∙◌, ◌≤◌, ◌+◌, ◌*◌, inl, inr, sym, ap, subst, arith, [], length}
use Rattle.std.specs.Prelude.{replicate}
use Rattle.core_run.specs.Walks.{WalkIs}
use Rattle.core_run.specs.Words.{cells_of}
use Rattle.core_run.specs.Shown.{PartStep, all_ended, ShownAs}
use Rattle.std.proofs.lemmas.Result.{IfOk-weaker}
use Rattle.core_run.proofs.WalkLoop.{Walked, rest_is, walked_as, walked_start, walked_more, walked_wrong, walked_usable, walked_threads, walked_len, no_rest, walked_unfinished, walked_done}
use Rattle.core_run.proofs.walking.walk.Goals as goal

pub loop-at-init : goal.loop-at-init
loop-at-init c = record { walked = subst (Walked c.args.code.now c.args.setup.now c.args.entries.now c.args.formula.now 0 c.args.entries.now c.in_ok-flows.flows.items c.in_ok-words.words.items c.in_ok-reads.reads.items) (sym c.new-out.ensures) (walked_start c.args.code.now c.args.setup.now c.args.entries.now c.args.formula.now c.in_ok-flows.flows.items c.in_ok-words.words.items c.in_ok-reads.reads.items c.in_ok-flows.ensures c.in_ok-words.ensures (c.in_ok-reads.ensures ∙ ap (λ n. replicate n []) c.slots-slots.ensures.value)); few = omega arith }

pub make_part-requires-clause-threads : goal.make_part-requires-clause-threads
make_part-requires-clause-threads c = walked_threads c.args.code.now c.args.setup.now c.args.entries.now c.args.formula.now c.loop-at.at c.loop-at.flows.items c.loop-at.words.items c.loop-at.reads.items c.loop-at.out _ c.requires.runnable c.slots-slots.ensures.within c.loop-at.invariant.walked

pub make_part-requires-clause-words : goal.make_part-requires-clause-words
make_part-requires-clause-words c = walked_usable c.args.code.now c.args.setup.now c.args.entries.now c.args.formula.now c.loop-at.at c.loop-at.flows.items c.loop-at.words.items c.loop-at.reads.items c.loop-at.out _ c.requires.runnable c.slots-slots.ensures.within c.loop-at.invariant.walked

pub make_part-requires-clause-len : goal.make_part-requires-clause-len
make_part-requires-clause-len c =
    let same : 2 * c.from.result + c.len.result + c.from-2.result * c.cells.result ≡ cells_of c.args.code.now c.args.setup.now = cc (c.from.ensures, c.len.ensures, c.from-2.ensures, c.cells.ensures.value, c.slots-slots.ensures.value) in
    subst (λ n. n ≤ length c.loop-at.words.items) (sym same) (walked_len c.args.code.now c.args.setup.now c.args.entries.now c.args.formula.now c.loop-at.at c.loop-at.flows.items c.loop-at.words.items c.loop-at.reads.items c.loop-at.out _ c.requires.runnable c.slots-slots.ensures.within c.loop-at.invariant.walked)

pub loop-at-preserved : goal.loop-at-preserved
loop-at-preserved c =
    let split = rest_is c.args.entries.now c.loop-at.at c.at-entry.result.now c.at-entry.ensures in
    let w = walked_as c.args.code.now c.args.setup.now c.args.entries.now c.args.formula.now c.loop-at.at _ _ c.loop-at.flows.items c.loop-at.words.items c.loop-at.reads.items c.loop-at.out split c.loop-at.invariant.walked in
    record {
      walked = walked_more c.args.code.now c.args.setup.now c.args.entries.now c.args.formula.now c.loop-at.at c.loop-at.flows.items c.loop-at.words.items c.loop-at.reads.items c.loop-at.out _ _ c.make_part.new.flows.items c.make_part.new.words.items c.make_part.new.reads.items c.make_part.new.out c.make_part.ensures.all w (subst (PartStep c.args.code.now c.args.setup.now c.args.formula.now c.at-entry.result.now w.state c.make_part.new.flows.items c.make_part.new.words.items c.make_part.new.reads.items c.loop-at.out c.make_part.new.out) c.if-not-made.false (c.in_ok-made.ensures.part w.state w.shown));
      few = omega (arith, c.loop-at-test.true);
    }

pub returns-then-not-made : goal.returns-then-not-made
returns-then-not-made c =
    let split = rest_is c.args.entries.now c.loop-at.at c.at-entry.result.now c.at-entry.ensures in
    let w = walked_as c.args.code.now c.args.setup.now c.args.entries.now c.args.formula.now c.loop-at.at _ _ c.loop-at.flows.items c.loop-at.words.items c.loop-at.reads.items c.loop-at.out split c.loop-at.invariant.walked in
    (c.loop-at.at, omega arith, inl (walked_wrong c.args.code.now c.args.setup.now c.args.entries.now c.args.formula.now c.loop-at.at c.loop-at.flows.items c.loop-at.words.items c.loop-at.reads.items c.loop-at.out _ _ w (subst (PartStep c.args.code.now c.args.setup.now c.args.formula.now c.at-entry.result.now w.state c.make_part.new.flows.items c.make_part.new.words.items c.make_part.new.reads.items c.loop-at.out c.make_part.new.out) c.if-not-made.true (c.in_ok-made.ensures.part w.state w.shown))))

pub returns-then-not-have_ended : goal.returns-then-not-have_ended
returns-then-not-have_ended c =
    let past : length c.args.entries.now ≤ c.loop-at.at = omega (arith, c.len-in-loop-at.ensures, c.loop-at-test.false) in
    let w = walked_as c.args.code.now c.args.setup.now c.args.entries.now c.args.formula.now c.loop-at.at _ _ c.loop-at.flows.items c.loop-at.words.items c.loop-at.reads.items c.loop-at.out (no_rest c.args.entries.now c.loop-at.at past) c.loop-at.invariant.walked in
    (c.loop-at.at, omega arith, inr (walked_unfinished c.args.code.now c.args.setup.now c.args.entries.now c.args.formula.now c.loop-at.at c.loop-at.flows.items c.loop-at.words.items c.loop-at.reads.items c.loop-at.out w (ap all_ended (sym c.deref.ensures.value) ∙ sym c.have_ended.ensures ∙ c.if-not-have_ended.true)))

pub shown-requires : goal.shown-requires
shown-requires c =
    let threads = walked_threads c.args.code.now c.args.setup.now c.args.entries.now c.args.formula.now c.loop-at.at c.loop-at.flows.items c.loop-at.words.items c.loop-at.reads.items c.loop-at.out _ c.requires.runnable c.slots-slots.ensures.within c.loop-at.invariant.walked in
    omega (arith, ap length c.deref-2.ensures.value, threads, c.slots-slots.ensures.within.few_slots)

pub returns : goal.returns
returns c =
    let past : length c.args.entries.now ≤ c.loop-at.at = omega (arith, c.len-in-loop-at.ensures, c.loop-at-test.false) in
    let w = walked_as c.args.code.now c.args.setup.now c.args.entries.now c.args.formula.now c.loop-at.at _ _ c.loop-at.flows.items c.loop-at.words.items c.loop-at.reads.items c.loop-at.out (no_rest c.args.entries.now c.loop-at.at past) c.loop-at.invariant.walked in
    let ended = ap all_ended (sym c.deref.ensures.value) ∙ sym c.have_ended.ensures ∙ c.if-not-have_ended.false in
    IfOk-weaker c.shown.result (ShownAs c.deref-2.result.now c.deref-3.result.now c.loop-at.out) (WalkIs c.args.code.now c.args.setup.now c.args.entries.now c.args.formula.now)
    (λ x q. walked_done c.args.code.now c.args.setup.now c.args.entries.now c.args.formula.now c.loop-at.at c.loop-at.flows.items c.loop-at.words.items c.loop-at.reads.items c.loop-at.out w ended x (subst (λ z. ShownAs z c.loop-at.reads.items c.loop-at.out x) c.deref-2.ensures.value (subst (λ z. ShownAs c.deref-2.result.now z c.loop-at.out x) c.deref-3.ensures.value q)))
    c.shown.ensures
