use Rattle.std.proofs.Common.{◌≡◌, ◌≤◌, ◌<◌, ◌+◌, ◌*◌, true, List, [], drop, length, sym, ap, subst, ◌∙◌, arith}
use Rattle.std.specs.Prelude.{replicate}
use Rattle.sync_objects.specs.declared.entry.Entry.{Entry}
use Rattle.core_run.specs.Shown.{PartStep}
use Rattle.core_run.specs.Words.{cells_of}
use Rattle.core_run.proofs.Walked.{run_all_here}
use Rattle.core_run.proofs.WalkLoop.{walked_threads, walked_usable, walked_len, rest_is, no_rest}
use Rattle.walk_accesses.proofs.Counts.{NotYet, asks_none, answered, never, never_wrong, not_yet_next, not_yet_start}
use Rattle.walk_accesses.proofs.at_count.access_at.Goals as goal
use Rattle.walk_accesses.proofs.at_count.access_at.Goals.{else-entry-thread-via-then-entry-thread+else-entry-count, else-entry-thread-via-else-entry-thread}

pub loop-at-init : goal.loop-at-init
loop-at-init c = record {
  not_yet = not_yet_start c.args.code.now c.args.setup.now c.args.entries.now c.args.thread c.args.count asks_none c.in_ok-flows.flows.items c.in_ok-words.words.items c.in_ok-reads.reads.items c.new-out.result c.in_ok-flows.ensures c.in_ok-words.ensures
      (c.in_ok-reads.ensures ∙ ap (λ n. replicate n []) c.slots-slots.ensures.value) c.new-out.ensures;
  few = omega arith;
}

pub access_of-requires : goal.access_of-requires
access_of-requires c = record { number = λ r at. (run_all_here c.args.code.now c.args.setup.now c.args.thread c.loop-at.flows.items r c.loop-at.invariant.not_yet.walked.all at).2 }

pub returns-then-entry-count : goal.returns-then-entry-count
returns-then-entry-count c =
    let e = c.at-entry.result.now in
    let rest = drop (c.loop-at.at + 1) c.args.entries.now in
    let n = subst (λ (r : List Entry). NotYet c.args.code.now c.args.setup.now c.args.entries.now c.args.thread c.args.count asks_none c.loop-at.at r c.loop-at.flows.items c.loop-at.words.items c.loop-at.reads.items c.loop-at.out) (rest_is c.args.entries.now c.loop-at.at e c.at-entry.ensures) c.loop-at.invariant.not_yet in
    let own : e.thread ≡ c.args.thread = omega (arith, c.if-entry-thread.true) in
    let late : c.args.count < e.count = omega (arith, c.if-entry-count.true) in
    answered c.args.code.now c.args.setup.now c.args.entries.now c.args.thread c.args.count asks_none c.loop-at.at e rest c.loop-at.flows.items c.loop-at.words.items c.loop-at.reads.items c.loop-at.out n c.requires.runnable c.slots-slots.ensures.within c.requires.walked own late c.access_of.result c.access_of.ensures

pub make_part-requires-clause-threads : goal.make_part-requires-clause-threads
make_part-requires-clause-threads c = walked_threads c.args.code.now c.args.setup.now c.args.entries.now asks_none c.loop-at.at c.loop-at.flows.items c.loop-at.words.items c.loop-at.reads.items c.loop-at.out _ c.requires.runnable c.slots-slots.ensures.within c.loop-at.invariant.not_yet.walked

pub make_part-requires-clause-len : goal.make_part-requires-clause-len
make_part-requires-clause-len c =
    let same : 2 * c.from.result + c.len.result + c.from-2.result * c.cells.result ≡ cells_of c.args.code.now c.args.setup.now = cc (c.from.ensures, c.len.ensures, c.from-2.ensures, c.cells.ensures.value, c.slots-slots.ensures.value) in
    subst (λ n. n ≤ length c.loop-at.words.items) (sym same) (walked_len c.args.code.now c.args.setup.now c.args.entries.now asks_none c.loop-at.at c.loop-at.flows.items c.loop-at.words.items c.loop-at.reads.items c.loop-at.out _ c.requires.runnable c.slots-slots.ensures.within c.loop-at.invariant.not_yet.walked)

pub make_part-requires-clause-words : goal.make_part-requires-clause-words
make_part-requires-clause-words c = walked_usable c.args.code.now c.args.setup.now c.args.entries.now asks_none c.loop-at.at c.loop-at.flows.items c.loop-at.words.items c.loop-at.reads.items c.loop-at.out _ c.requires.runnable c.slots-slots.ensures.within c.loop-at.invariant.not_yet.walked

pub returns-then-not-made : goal.returns-then-not-made
returns-then-not-made c =
    let e = c.at-entry.result.now in
    let rest = drop (c.loop-at.at + 1) c.args.entries.now in
    let n = subst (λ (r : List Entry). NotYet c.args.code.now c.args.setup.now c.args.entries.now c.args.thread c.args.count asks_none c.loop-at.at r c.loop-at.flows.items c.loop-at.words.items c.loop-at.reads.items c.loop-at.out) (rest_is c.args.entries.now c.loop-at.at e c.at-entry.ensures) c.loop-at.invariant.not_yet in
    absurd (never_wrong c.args.code.now c.args.setup.now c.args.entries.now c.args.thread c.args.count asks_none c.loop-at.at e rest c.loop-at.flows.items c.loop-at.words.items c.loop-at.reads.items c.loop-at.out n c.requires.walked
    (subst (PartStep c.args.code.now c.args.setup.now asks_none e n.walked.state c.make_part.new.flows.items c.make_part.new.words.items c.make_part.new.reads.items c.loop-at.out c.make_part.new.out) c.if-not-made.true (c.in_ok-made.ensures.part n.walked.state n.walked.shown)))

pub loop-at-preserved : goal.loop-at-preserved
loop-at-preserved c =
    let e = c.at-entry.result.now in
    let rest = drop (c.loop-at.at + 1) c.args.entries.now in
    let n = subst (λ (r : List Entry). NotYet c.args.code.now c.args.setup.now c.args.entries.now c.args.thread c.args.count asks_none c.loop-at.at r c.loop-at.flows.items c.loop-at.words.items c.loop-at.reads.items c.loop-at.out) (rest_is c.args.entries.now c.loop-at.at e c.at-entry.ensures) c.loop-at.invariant.not_yet in
    let p = subst (PartStep c.args.code.now c.args.setup.now asks_none e n.walked.state c.make_part.new.flows.items c.make_part.new.words.items c.make_part.new.reads.items c.loop-at.out c.make_part.new.out) c.if-not-made.false (c.in_ok-made.ensures.part n.walked.state n.walked.shown) in
    let early : e.thread ≡ c.args.thread → e.count ≤ c.args.count = elim c.else-entry-thread.branch [
      | else-entry-thread-via-then-entry-thread+else-entry-count w ↦ (λ same. omega arith)
      | else-entry-thread-via-else-entry-thread w ↦ (λ same. absurd (omega arith))
    ] in
    record {
      not_yet = not_yet_next c.args.code.now c.args.setup.now c.args.entries.now c.args.thread c.args.count asks_none c.loop-at.at e rest c.loop-at.flows.items c.loop-at.words.items c.loop-at.reads.items c.loop-at.out n c.requires.runnable c.slots-slots.ensures.within c.make_part.new.flows.items c.make_part.new.words.items c.make_part.new.reads.items c.make_part.new.out c.make_part.ensures.all p early;
      few = omega (arith, c.len-in-loop-at.ensures, c.loop-at-test.true);
    }

pub returns : goal.returns
returns c =
    let past : length c.args.entries.now ≤ c.loop-at.at = omega (arith, c.len-in-loop-at.ensures, c.loop-at-test.false) in
    let n = subst (λ (r : List Entry). NotYet c.args.code.now c.args.setup.now c.args.entries.now c.args.thread c.args.count asks_none c.loop-at.at r c.loop-at.flows.items c.loop-at.words.items c.loop-at.reads.items c.loop-at.out) (no_rest c.args.entries.now c.loop-at.at past) c.loop-at.invariant.not_yet in
    never c.args.code.now c.args.setup.now c.args.entries.now c.args.thread c.args.count asks_none c.loop-at.at c.loop-at.flows.items c.loop-at.words.items c.loop-at.reads.items c.loop-at.out n
