use Rattle.std.proofs.Common.{◌≡◌, ◌∙◌, ◌≤◌, ◌+◌, ◌*◌, List, Some, ap, sym, subst, arith, drop, length, take}
use Rattle.std.specs.Prelude.{slice_get}
use Rattle.sync_objects.specs.declared.entry.Entry.{Entry}
use Rattle.core_run.specs.Shown.{PartEndIs, IsShown}
use Rattle.core_run.specs.Words.{cells_of}
use Rattle.core_run.specs.declared.outcome.PartEnd.TheVariants as end
use Rattle.checkpoint.specs.Going.{no_reads, standing}
use Rattle.checkpoint.proofs.Gone.{Gone, part_told, gone_as, gone_start, gone_reads, gone_len, gone_usable, gone_more, gone_refused, gone_outside, gone_all, stretch_few, next_is, none_left}
use Rattle.checkpoint.proofs.going.go_on.Goals as goal

pub loop-at-init : goal.loop-at-init
loop-at-init c = record {
  gone = gone_start c.args.code.now c.args.setup.now (drop c.args.first (take c.args.last c.args.entries.now)) c.args.first c.args.flows.now.items c.args.words.now.items c.args.reads.now.items c.args.out.now c.requires.all c.requires.threads c.requires.reads c.requires.words c.requires.sound c.requires.out;
  len = c.requires.threads;
  from = omega arith;
  to = c.requires.order;
}

pub walk_part-requires-clause-threads : goal.walk_part-requires-clause-threads
walk_part-requires-clause-threads c = c.loop-at.invariant.len

pub walk_part-requires-clause-reads : goal.walk_part-requires-clause-reads
walk_part-requires-clause-reads c = gone_reads c.args.code.now c.args.setup.now _ _ c.args.first c.loop-at.at c.loop-at.flows.items c.loop-at.words.items c.loop-at.reads.items c.loop-at.out _ c.loop-at.invariant.gone

pub walk_part-requires-clause-words : goal.walk_part-requires-clause-words
walk_part-requires-clause-words c = gone_usable c.args.code.now c.args.setup.now _ _ c.args.first c.loop-at.at c.loop-at.flows.items c.loop-at.words.items c.loop-at.reads.items c.loop-at.out _ (stretch_few c.args.entries.now c.args.first c.args.last c.requires.order c.requires.within c.requires.few) c.loop-at.invariant.gone

pub walk_part-requires-clause-len : goal.walk_part-requires-clause-len
walk_part-requires-clause-len c =
    let same : 2 * c.from.result + c.len.result + c.from-2.result * c.cells.result ≡ cells_of c.args.code.now c.args.setup.now = cc (c.from.ensures, c.len.ensures, c.from-2.ensures, c.cells.ensures.value, c.slots-slots.ensures.value) in
    subst (λ n. n ≤ length c.loop-at.words.items) (sym same) (gone_len c.args.code.now c.args.setup.now _ _ c.args.first c.loop-at.at c.loop-at.flows.items c.loop-at.words.items c.loop-at.reads.items c.loop-at.out _ c.loop-at.invariant.gone)

pub loop-at-preserved : goal.loop-at-preserved
loop-at-preserved c =
    let split = next_is c.args.entries.now c.loop-at.at c.args.last c.at-entry.result.now c.loop-at-test.true c.at-entry.ensures in
    let w = gone_as c.args.code.now c.args.setup.now (standing c.args.flows.now.items c.args.words.now.items) (drop c.args.first (take c.args.last c.args.entries.now)) c.args.first c.loop-at.at c.loop-at.flows.items c.loop-at.words.items c.loop-at.reads.items c.loop-at.out _ _ split c.loop-at.invariant.gone in
    record {
      gone = gone_more c.args.code.now c.args.setup.now (standing c.args.flows.now.items c.args.words.now.items) (drop c.args.first (take c.args.last c.args.entries.now)) c.args.first c.loop-at.at c.loop-at.flows.items c.loop-at.words.items c.loop-at.reads.items c.loop-at.out c.requires.runnable c.slots-slots.ensures.within c.at-entry.result.now _ c.walk_part.new.flows.items c.walk_part.new.words.items c.walk_part.new.reads.items c.walk_part.new.out (stretch_few c.args.entries.now c.args.first c.args.last c.requires.order c.requires.within c.requires.few) c.walk_part.ensures.all w (part_told c.args.code.now c.args.setup.now c.no_reads-formula.result c.at-entry.result.now c.loop-at.flows.items c.walk_part.new.flows.items c.loop-at.words.items c.walk_part.new.words.items c.loop-at.reads.items c.walk_part.new.reads.items c.loop-at.out c.walk_part.new.out c.in_ok-end.end end.Made c.no_reads-formula.ensures c.in-Made.is c.in_ok-end.ensures.part w.state w.shown);
      len = c.walk_part.ensures.flows ∙ c.loop-at.invariant.len;
      from = omega (arith, c.loop-at.invariant.from);
      to = omega (arith, c.loop-at-test.true);
    }

pub returns-in-Refused-clause-went : goal.returns-in-Refused-clause-went
returns-in-Refused-clause-went c =
    let split = next_is c.args.entries.now c.loop-at.at c.args.last c.at-entry.result.now c.loop-at-test.true c.at-entry.ensures in
    let w = gone_as c.args.code.now c.args.setup.now (standing c.args.flows.now.items c.args.words.now.items) (drop c.args.first (take c.args.last c.args.entries.now)) c.args.first c.loop-at.at c.loop-at.flows.items c.loop-at.words.items c.loop-at.reads.items c.loop-at.out _ _ split c.loop-at.invariant.gone in
    gone_refused c.args.code.now c.args.setup.now (standing c.args.flows.now.items c.args.words.now.items) (drop c.args.first (take c.args.last c.args.entries.now)) c.args.first c.loop-at.at c.loop-at.flows.items c.loop-at.words.items c.loop-at.reads.items c.loop-at.out c.at-entry.result.now _ w c.walk_part.new.flows.items c.walk_part.new.words.items c.walk_part.new.reads.items c.walk_part.new.out (part_told c.args.code.now c.args.setup.now c.no_reads-formula.result c.at-entry.result.now c.loop-at.flows.items c.walk_part.new.flows.items c.loop-at.words.items c.walk_part.new.words.items c.loop-at.reads.items c.walk_part.new.reads.items c.loop-at.out c.walk_part.new.out c.in_ok-end.end end.Refused c.no_reads-formula.ensures c.in-Refused.is c.in_ok-end.ensures.part w.state w.shown)

pub returns-in-Outside-clause-went : goal.returns-in-Outside-clause-went
returns-in-Outside-clause-went c =
    let split = next_is c.args.entries.now c.loop-at.at c.args.last c.at-entry.result.now c.loop-at-test.true c.at-entry.ensures in
    let w = gone_as c.args.code.now c.args.setup.now (standing c.args.flows.now.items c.args.words.now.items) (drop c.args.first (take c.args.last c.args.entries.now)) c.args.first c.loop-at.at c.loop-at.flows.items c.loop-at.words.items c.loop-at.reads.items c.loop-at.out _ _ split c.loop-at.invariant.gone in
    gone_outside c.args.code.now c.args.setup.now (standing c.args.flows.now.items c.args.words.now.items) (drop c.args.first (take c.args.last c.args.entries.now)) c.args.first c.loop-at.at c.loop-at.flows.items c.loop-at.words.items c.loop-at.reads.items c.loop-at.out c.at-entry.result.now _ w c.walk_part.new.flows.items c.walk_part.new.words.items c.walk_part.new.reads.items c.walk_part.new.out (part_told c.args.code.now c.args.setup.now c.no_reads-formula.result c.at-entry.result.now c.loop-at.flows.items c.walk_part.new.flows.items c.loop-at.words.items c.walk_part.new.words.items c.loop-at.reads.items c.walk_part.new.reads.items c.loop-at.out c.walk_part.new.out c.in_ok-end.end end.Outside c.no_reads-formula.ensures c.in-Outside.is c.in_ok-end.ensures.part w.state w.shown)

pub returns-clause-went : goal.returns-clause-went
returns-clause-went c =
    let none = none_left c.args.entries.now c.loop-at.at c.args.last c.requires.within c.loop-at-test.false in
    gone_all c.args.code.now c.args.setup.now (standing c.args.flows.now.items c.args.words.now.items) (drop c.args.first (take c.args.last c.args.entries.now)) c.args.first c.loop-at.at c.loop-at.flows.items c.loop-at.words.items c.loop-at.reads.items c.loop-at.out (gone_as c.args.code.now c.args.setup.now (standing c.args.flows.now.items c.args.words.now.items) (drop c.args.first (take c.args.last c.args.entries.now)) c.args.first c.loop-at.at c.loop-at.flows.items c.loop-at.words.items c.loop-at.reads.items c.loop-at.out _ _ none c.loop-at.invariant.gone)
