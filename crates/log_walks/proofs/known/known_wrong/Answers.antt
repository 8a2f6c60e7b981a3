use Rattle.std.proofs.Common.{◌<◌, ◌^◌, ◌-◌, rules, sym, ap, ◌∙◌, arith}
use Rattle.log_walks.specs.Known.{known_advance}
use Rattle.log_walks.proofs.KnownWords.{none_at_first, one_more}
use Rattle.log_walks.proofs.known.known_wrong.Goals as goal

pub loop-k-init : goal.loop-k-init
loop-k-init c = none_at_first c.args.setup.now.slots c.args.entries.now c.new-words.result (λ o. search rules)

pub loop-k-preserved : goal.loop-k-preserved
loop-k-preserved c =
    let slots = c.args.setup.now.slots in
    let e = c.at-entry.result.now in
    let within = c.slots-slots.ensures.within in
    let some = within.some_slot in
    let few = within.few_slots in
    let m = c.in-Some.ensures in
    let is = c.slots-slots.ensures.value in
    let room : c.loop-k.k < 2 ^ 32 - 1 = omega arith in
    one_more slots c.args.entries.now c.loop-k.words c.loop-k.k c.loop-k.invariant e c.at-entry.ensures c.in-Some.next m.1 m.0
    (ap (λ w. known_advance slots e w) (sym c.word_of-word.ensures) ∙ ap (λ n. known_advance n e c.word_of-word.result) (sym is) ∙ m.2)
    c.put_word.new.words c.in_ok-put_word.ensures some few (c.requires.threads c.loop-k.k e c.at-entry.ensures) room

pub returns : goal.returns
returns c = λ j less. let end = c.len-k-end.ensures in let past = c.loop-k-test.false in c.loop-k.invariant.none j (omega (arith, less, end, past))
