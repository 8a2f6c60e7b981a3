use Rattle.std.proofs.Common.{◌≡◌, ◌≤◌, ◌+◌, ◌*◌, true, List, [], drop, length, sym, ap, subst, ◌∙◌, arith}
use Rattle.std.specs.Prelude.{replicate, slice_get}
use Rattle.sync_objects.specs.declared.entry.Entry.{Entry}
use Rattle.core_run.specs.Shown.{PartStep}
use Rattle.core_run.specs.Words.{cells_of}
use Rattle.core_run.proofs.WalkLoop.{walked_threads, walked_usable, walked_len, rest_is, no_rest}
use Rattle.walk_accesses.specs.Kept.{first_of}
use Rattle.walk_accesses.proofs.Firsts.{Along, along_start, along_wrong, along_hit, along_next, along_all}
use Rattle.walk_accesses.proofs.first.seen_along.Goals as goal

pub loop-part-init : goal.loop-part-init
loop-part-init c = record {
  along = along_start c.args.code.now c.args.setup.now c.args.entries.now c.args.formula.now c.in_ok-flows.flows.items c.in_ok-words.words.items c.in_ok-reads.reads.items c.new-out.result c.in_ok-flows.ensures c.in_ok-words.ensures
      (c.in_ok-reads.ensures ∙ ap (λ n. replicate n []) c.slots-slots.ensures.value) c.new-out.ensures;
  few = omega arith;
}

pub make_part-requires-clause-threads : goal.make_part-requires-clause-threads
make_part-requires-clause-threads c = walked_threads c.args.code.now c.args.setup.now c.args.entries.now c.args.formula.now c.loop-part.part c.loop-part.flows.items c.loop-part.words.items c.loop-part.reads.items c.loop-part.out _ c.requires.runnable c.slots-slots.ensures.within c.loop-part.invariant.along.walked

pub make_part-requires-clause-len : goal.make_part-requires-clause-len
make_part-requires-clause-len c =
    let same : 2 * c.from.result + c.len.result + c.from-2.result * c.cells.result ≡ cells_of c.args.code.now c.args.setup.now = cc (c.from.ensures, c.len.ensures, c.from-2.ensures, c.cells.ensures.value, c.slots-slots.ensures.value) in
    subst (λ n. n ≤ length c.loop-part.words.items) (sym same) (walked_len c.args.code.now c.args.setup.now c.args.entries.now c.args.formula.now c.loop-part.part c.loop-part.flows.items c.loop-part.words.items c.loop-part.reads.items c.loop-part.out _ c.requires.runnable c.slots-slots.ensures.within c.loop-part.invariant.along.walked)

pub make_part-requires-clause-words : goal.make_part-requires-clause-words
make_part-requires-clause-words c = walked_usable c.args.code.now c.args.setup.now c.args.entries.now c.args.formula.now c.loop-part.part c.loop-part.flows.items c.loop-part.words.items c.loop-part.reads.items c.loop-part.out _ c.requires.runnable c.slots-slots.ensures.within c.loop-part.invariant.along.walked

pub returns-then-not-made : goal.returns-then-not-made
returns-then-not-made c =
    let e = c.at-entry.result.now in
    let rest = drop (c.loop-part.part + 1) c.args.entries.now in
    let a = subst (λ (r : List Entry). Along c.args.code.now c.args.setup.now c.args.entries.now c.args.formula.now c.loop-part.part r c.loop-part.flows.items c.loop-part.words.items c.loop-part.reads.items c.loop-part.out) (rest_is c.args.entries.now c.loop-part.part e c.at-entry.ensures) c.loop-part.invariant.along in
    sym (along_wrong c.args.code.now c.args.setup.now c.args.entries.now c.args.formula.now c.loop-part.part e rest c.loop-part.flows.items c.loop-part.words.items c.loop-part.reads.items c.loop-part.out a
    (subst (PartStep c.args.code.now c.args.setup.now c.args.formula.now e a.walked.state c.make_part.new.flows.items c.make_part.new.words.items c.make_part.new.reads.items c.loop-part.out c.make_part.new.out) c.if-not-made.true (c.in_ok-made.ensures.part a.walked.state a.walked.shown)))

pub returns-in-Some : goal.returns-in-Some
returns-in-Some c =
    let e = c.at-entry.result.now in
    let rest = drop (c.loop-part.part + 1) c.args.entries.now in
    let a = subst (λ (r : List Entry). Along c.args.code.now c.args.setup.now c.args.entries.now c.args.formula.now c.loop-part.part r c.loop-part.flows.items c.loop-part.words.items c.loop-part.reads.items c.loop-part.out) (rest_is c.args.entries.now c.loop-part.part e c.at-entry.ensures) c.loop-part.invariant.along in
    let p = subst (PartStep c.args.code.now c.args.setup.now c.args.formula.now e a.walked.state c.make_part.new.flows.items c.make_part.new.words.items c.make_part.new.reads.items c.loop-part.out c.make_part.new.out) c.if-not-made.false (c.in_ok-made.ensures.part a.walked.state a.walked.shown) in
    let kept = ap (λ zs. first_of (slice_get zs e.thread)) (sym c.deref.ensures.value) ∙ sym c.first_kept.ensures ∙ c.in-Some.is in
    sym (along_hit c.args.code.now c.args.setup.now c.args.entries.now c.args.formula.now c.loop-part.part e rest c.loop-part.flows.items c.loop-part.words.items c.loop-part.reads.items c.loop-part.out a c.requires.runnable c.slots-slots.ensures.within c.make_part.new.flows.items c.make_part.new.words.items c.make_part.new.reads.items c.make_part.new.out c.make_part.ensures.all p c.in-Some.access kept)

pub loop-part-preserved : goal.loop-part-preserved
loop-part-preserved c =
    let e = c.at-entry.result.now in
    let rest = drop (c.loop-part.part + 1) c.args.entries.now in
    let a = subst (λ (r : List Entry). Along c.args.code.now c.args.setup.now c.args.entries.now c.args.formula.now c.loop-part.part r c.loop-part.flows.items c.loop-part.words.items c.loop-part.reads.items c.loop-part.out) (rest_is c.args.entries.now c.loop-part.part e c.at-entry.ensures) c.loop-part.invariant.along in
    let p = subst (PartStep c.args.code.now c.args.setup.now c.args.formula.now e a.walked.state c.make_part.new.flows.items c.make_part.new.words.items c.make_part.new.reads.items c.loop-part.out c.make_part.new.out) c.if-not-made.false (c.in_ok-made.ensures.part a.walked.state a.walked.shown) in
    let kept = ap (λ zs. first_of (slice_get zs e.thread)) (sym c.deref.ensures.value) ∙ sym c.first_kept.ensures ∙ c.in_default.is in
    record {
      along = along_next c.args.code.now c.args.setup.now c.args.entries.now c.args.formula.now c.loop-part.part e rest c.loop-part.flows.items c.loop-part.words.items c.loop-part.reads.items c.loop-part.out a c.requires.runnable c.slots-slots.ensures.within c.make_part.new.flows.items c.make_part.new.words.items c.make_part.new.reads.items c.make_part.new.out c.make_part.ensures.all p kept;
      few = omega (arith, c.len-in-loop-part.ensures, c.loop-part-test.true);
    }

pub returns : goal.returns
returns c =
    let past : length c.args.entries.now ≤ c.loop-part.part = omega (arith, c.len-in-loop-part.ensures, c.loop-part-test.false) in
    let a = subst (λ (r : List Entry). Along c.args.code.now c.args.setup.now c.args.entries.now c.args.formula.now c.loop-part.part r c.loop-part.flows.items c.loop-part.words.items c.loop-part.reads.items c.loop-part.out) (no_rest c.args.entries.now c.loop-part.part past) c.loop-part.invariant.along in
    sym (along_all c.args.code.now c.args.setup.now c.args.entries.now c.args.formula.now c.loop-part.part c.loop-part.flows.items c.loop-part.words.items c.loop-part.reads.items c.loop-part.out a)
