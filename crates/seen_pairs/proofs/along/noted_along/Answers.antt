use Rattle.std.proofs.Common.{◌≡◌, ◌≤◌, ◌+◌, ◌*◌, true, List, [], drop, length, sym, ap, subst, ◌∙◌, arith}
use Rattle.std.specs.Prelude.{replicate}
use Rattle.core_run.specs.Shown.{IsShown, PartStep}
use Rattle.core_run.specs.Words.{cells_of}
use Rattle.core_run.proofs.WalkLoop.{walked_threads, walked_usable, walked_len, rest_is, no_rest}
use Rattle.sync_objects.specs.declared.entry.Entry.{Entry}
use Rattle.seen_pairs.specs.Pairings.{no_reads}
use Rattle.seen_pairs.proofs.Walks.{Along, along_start, along_wrong, is_thread, stacks_count, along_next, along_all}
use Rattle.seen_pairs.proofs.along.noted_along.Goals as goal

pub loop-at-init : goal.loop-at-init
loop-at-init c = record {
  along = along_start c.args.code.now c.args.setup.now c.args.entries.now c.in_ok-flows.flows.items c.in_ok-words.words.items c.in_ok-reads.reads.items c.new-out.result c.in_ok-stacks.stacks c.new-pairs.result.keys c.in_ok-flows.ensures c.in_ok-words.ensures
      (c.in_ok-reads.ensures ∙ ap (λ n. replicate n []) c.slots-slots.ensures.value) (c.in_ok-stacks.ensures ∙ ap (λ n. replicate n []) c.slots-slots.ensures.value) c.new-out.ensures c.new-pairs.ensures.empty;
  few = omega arith;
}

pub make_part-requires-clause-threads : goal.make_part-requires-clause-threads
make_part-requires-clause-threads c = walked_threads c.args.code.now c.args.setup.now c.args.entries.now no_reads c.loop-at.invariant.along.at c.loop-at.flows.items c.loop-at.words.items c.loop-at.reads.items c.loop-at.out _ c.requires c.slots-slots.ensures.within c.loop-at.invariant.along.walked

pub make_part-requires-clause-words : goal.make_part-requires-clause-words
make_part-requires-clause-words c = walked_usable c.args.code.now c.args.setup.now c.args.entries.now no_reads c.loop-at.invariant.along.at c.loop-at.flows.items c.loop-at.words.items c.loop-at.reads.items c.loop-at.out _ c.requires c.slots-slots.ensures.within c.loop-at.invariant.along.walked

pub make_part-requires-clause-len : goal.make_part-requires-clause-len
make_part-requires-clause-len c =
    let same : 2 * c.from.result + c.len.result + c.from-2.result * c.cells.result ≡ cells_of c.args.code.now c.args.setup.now = cc (c.from.ensures, c.len.ensures, c.from-2.ensures, c.cells.ensures.value, c.slots-slots.ensures.value) in
    subst (λ n. n ≤ length c.loop-at.words.items) (sym same) (walked_len c.args.code.now c.args.setup.now c.args.entries.now no_reads c.loop-at.invariant.along.at c.loop-at.flows.items c.loop-at.words.items c.loop-at.reads.items c.loop-at.out _ c.requires c.slots-slots.ensures.within c.loop-at.invariant.along.walked)

pub note_change-requires-clause-thread : goal.note_change-requires-clause-thread
note_change-requires-clause-thread c =
    let e = c.at-entry.result.now in
    let rest = drop (c.loop-at.at + 1) c.args.entries.now in
    let a = subst (λ (r : List Entry). Along c.args.code.now c.args.setup.now c.args.entries.now r c.loop-at.flows.items c.loop-at.words.items c.loop-at.reads.items c.loop-at.out c.loop-at.stacks c.loop-at.pairs.keys) (rest_is c.args.entries.now c.loop-at.at e c.at-entry.ensures) c.loop-at.invariant.along in
    let shown = subst (λ f. IsShown f c.loop-at.flows.items c.loop-at.words.items c.loop-at.reads.items a.walked.state) (sym c.no_reads-formula.ensures) a.walked.shown in
    let p = subst (λ f. PartStep c.args.code.now c.args.setup.now f e a.walked.state c.make_part.new.flows.items c.make_part.new.words.items c.make_part.new.reads.items c.loop-at.out c.make_part.new.out true) c.no_reads-formula.ensures
    (subst (PartStep c.args.code.now c.args.setup.now c.no_reads-formula.result e a.walked.state c.make_part.new.flows.items c.make_part.new.words.items c.make_part.new.reads.items c.loop-at.out c.make_part.new.out) c.if-not-made.false (c.in_ok-made.ensures.part a.walked.state shown)) in
    let lt = is_thread c.args.code.now c.args.setup.now c.args.entries.now e rest c.loop-at.flows.items c.loop-at.words.items c.loop-at.reads.items c.loop-at.out c.loop-at.stacks c.loop-at.pairs.keys a c.make_part.new.flows.items c.make_part.new.words.items c.make_part.new.reads.items c.make_part.new.out c.make_part.ensures.all p in
    omega (arith, lt, ap length c.deref.ensures.value)

pub note_change-requires-clause-stacks : goal.note_change-requires-clause-stacks
note_change-requires-clause-stacks c =
    let e = c.at-entry.result.now in
    let rest = drop (c.loop-at.at + 1) c.args.entries.now in
    let a = subst (λ (r : List Entry). Along c.args.code.now c.args.setup.now c.args.entries.now r c.loop-at.flows.items c.loop-at.words.items c.loop-at.reads.items c.loop-at.out c.loop-at.stacks c.loop-at.pairs.keys) (rest_is c.args.entries.now c.loop-at.at e c.at-entry.ensures) c.loop-at.invariant.along in
    let shown = subst (λ f. IsShown f c.loop-at.flows.items c.loop-at.words.items c.loop-at.reads.items a.walked.state) (sym c.no_reads-formula.ensures) a.walked.shown in
    let p = subst (λ f. PartStep c.args.code.now c.args.setup.now f e a.walked.state c.make_part.new.flows.items c.make_part.new.words.items c.make_part.new.reads.items c.loop-at.out c.make_part.new.out true) c.no_reads-formula.ensures
    (subst (PartStep c.args.code.now c.args.setup.now c.no_reads-formula.result e a.walked.state c.make_part.new.flows.items c.make_part.new.words.items c.make_part.new.reads.items c.loop-at.out c.make_part.new.out) c.if-not-made.false (c.in_ok-made.ensures.part a.walked.state shown)) in
    stacks_count c.args.code.now c.args.setup.now c.args.entries.now e rest c.loop-at.flows.items c.loop-at.words.items c.loop-at.reads.items c.loop-at.out c.loop-at.stacks c.loop-at.pairs.keys a c.make_part.new.flows.items c.make_part.new.words.items c.make_part.new.reads.items c.make_part.new.out c.make_part.ensures.all p ∙ sym (ap length c.deref.ensures.value)

pub loop-at-preserved : goal.loop-at-preserved
loop-at-preserved c =
    let e = c.at-entry.result.now in
    let rest = drop (c.loop-at.at + 1) c.args.entries.now in
    let a = subst (λ (r : List Entry). Along c.args.code.now c.args.setup.now c.args.entries.now r c.loop-at.flows.items c.loop-at.words.items c.loop-at.reads.items c.loop-at.out c.loop-at.stacks c.loop-at.pairs.keys) (rest_is c.args.entries.now c.loop-at.at e c.at-entry.ensures) c.loop-at.invariant.along in
    let shown = subst (λ f. IsShown f c.loop-at.flows.items c.loop-at.words.items c.loop-at.reads.items a.walked.state) (sym c.no_reads-formula.ensures) a.walked.shown in
    let p = subst (λ f. PartStep c.args.code.now c.args.setup.now f e a.walked.state c.make_part.new.flows.items c.make_part.new.words.items c.make_part.new.reads.items c.loop-at.out c.make_part.new.out true) c.no_reads-formula.ensures
    (subst (PartStep c.args.code.now c.args.setup.now c.no_reads-formula.result e a.walked.state c.make_part.new.flows.items c.make_part.new.words.items c.make_part.new.reads.items c.loop-at.out c.make_part.new.out) c.if-not-made.false (c.in_ok-made.ensures.part a.walked.state shown)) in
    record {
      along = along_next c.args.code.now c.args.setup.now c.args.entries.now e rest c.loop-at.flows.items c.loop-at.words.items c.loop-at.reads.items c.loop-at.out c.loop-at.stacks c.loop-at.pairs.keys a c.make_part.new.flows.items c.make_part.new.words.items c.make_part.new.reads.items c.make_part.new.out c.make_part.ensures.all p
          c.deref.result.now c.note_change.new.stacks c.note_change.new.pairs.keys c.deref.ensures.value c.in_ok-note_change.ensures.stacks c.in_ok-note_change.ensures.pairs;
      few = omega (arith, c.len-in-loop-at.ensures, c.loop-at-test.true);
    }

pub returns-then-not-made : goal.returns-then-not-made
returns-then-not-made c =
    let e = c.at-entry.result.now in
    let rest = drop (c.loop-at.at + 1) c.args.entries.now in
    let a = subst (λ (r : List Entry). Along c.args.code.now c.args.setup.now c.args.entries.now r c.loop-at.flows.items c.loop-at.words.items c.loop-at.reads.items c.loop-at.out c.loop-at.stacks c.loop-at.pairs.keys) (rest_is c.args.entries.now c.loop-at.at e c.at-entry.ensures) c.loop-at.invariant.along in
    let shown = subst (λ f. IsShown f c.loop-at.flows.items c.loop-at.words.items c.loop-at.reads.items a.walked.state) (sym c.no_reads-formula.ensures) a.walked.shown in
    along_wrong c.args.code.now c.args.setup.now c.args.entries.now e rest c.loop-at.flows.items c.loop-at.words.items c.loop-at.reads.items c.loop-at.out c.loop-at.stacks c.loop-at.pairs.keys a
    (subst (PartStep c.args.code.now c.args.setup.now c.no_reads-formula.result e a.walked.state c.make_part.new.flows.items c.make_part.new.words.items c.make_part.new.reads.items c.loop-at.out c.make_part.new.out) c.if-not-made.true (c.in_ok-made.ensures.part a.walked.state shown))

pub returns : goal.returns
returns c =
    let past : length c.args.entries.now ≤ c.loop-at.at = omega (arith, c.len-in-loop-at.ensures, c.loop-at-test.false) in
    let a = subst (λ (r : List Entry). Along c.args.code.now c.args.setup.now c.args.entries.now r c.loop-at.flows.items c.loop-at.words.items c.loop-at.reads.items c.loop-at.out c.loop-at.stacks c.loop-at.pairs.keys) (no_rest c.args.entries.now c.loop-at.at past) c.loop-at.invariant.along in
    along_all c.args.code.now c.args.setup.now c.args.entries.now c.loop-at.flows.items c.loop-at.words.items c.loop-at.reads.items c.loop-at.out c.loop-at.stacks c.loop-at.pairs.keys a
