use Rattle.std.proofs.Common.{◌≡◌, ◌∙◌, ap, sym, subst, arith, [], ◌+◌, ◌*◌, drop, length, map, min, take}
use Rattle.std.specs.Prelude.{replicate, slice_get}
use Rattle.std.proofs.lemmas.List.{length-map, length-take-le}
use Rattle.thread_interpreter.specs.Flows.{Running}
use Rattle.thread_interpreter.specs.Parts.{part_of}
use Rattle.core_run.specs.Shown.{running_thread, told_thread}
use Rattle.core_run.specs.Kept.{AreSound, most_operations}
use Rattle.core_run.specs.Machine.{start_state}
use Rattle.core_run.specs.Words.{cells_of, start_words}
use Rattle.core_run.proofs.Reached.{start_length}
use Rattle.core_run.proofs.SoundWords.{sound_more, sound_start}
use Rattle.snapshots.specs.Snapshots.{cells_from, objects_at}
use Rattle.checkpoint.specs.Going.{standing, WentIs}
use Rattle.checkpoint.proofs.Finishing.{start_stands}
use Rattle.checkpoint.proofs.StateTaken.{cells_first, few_words, short_front, refused_there, outside_there, fewer_there, length_there, entered_there, state_there}
use Rattle.checkpoint.proofs.taking.state_after.Goals as goal

pub go_on-requires-clause-threads : goal.go_on-requires-clause-threads
go_on-requires-clause-threads c = sym (length-map c.in_ok-flows.flows.items running_thread) ∙ ap length c.in_ok-flows.ensures.threads ∙ length-map (start_state c.args.code.now c.args.setup.now).threads told_thread ∙ start_length c.args.code.now c.args.setup.now 0 c.args.setup.now.slots

pub go_on-requires-clause-reads : goal.go_on-requires-clause-reads
go_on-requires-clause-reads c = c.in_ok-reads.ensures ∙ ap (λ n. replicate n []) c.slots-slots.ensures.value

pub go_on-requires-clause-words : goal.go_on-requires-clause-words
go_on-requires-clause-words c = ap length c.in_ok-words.ensures

pub go_on-requires-clause-sound : goal.go_on-requires-clause-sound
go_on-requires-clause-sound c = subst (AreSound c.args.code.now c.args.setup.now most_operations) (sym c.in_ok-words.ensures) (sound_more c.args.code.now c.args.setup.now 0 most_operations (start_words c.args.code.now c.args.setup.now) (omega arith) (sound_start c.args.code.now c.args.setup.now c.slots-slots.ensures.within))

pub returns-in-Refused : goal.returns-in-Refused
returns-in-Refused c = refused_there c.args.code.now c.args.setup.now c.args.entries.now c.args.count c.min-taken.result (c.min-taken.ensures ∙ ap (min c.args.count) c.len-2.ensures) c.in_ok-flows.flows.items c.in_ok-words.words.items (start_stands c.args.code.now c.args.setup.now c.in_ok-flows.flows.items c.in_ok-words.words.items c.in_ok-flows.ensures c.in_ok-words.ensures) c.go_on.new.flows.items c.go_on.new.words.items c.go_on.new.reads.items c.go_on.new.out c.in-Refused.at (subst (WentIs c.args.code.now c.args.setup.now (standing c.in_ok-flows.flows.items c.in_ok-words.words.items) 0 (drop 0 (take c.min-taken.result c.args.entries.now)) c.go_on.new.flows.items c.go_on.new.words.items c.go_on.new.reads.items c.go_on.new.out) c.in-Refused.is c.in_ok-went.ensures.went)

pub returns-in-Outside : goal.returns-in-Outside
returns-in-Outside c = outside_there c.args.code.now c.args.setup.now c.args.entries.now c.args.count c.min-taken.result (c.min-taken.ensures ∙ ap (min c.args.count) c.len-2.ensures) c.in_ok-flows.flows.items c.in_ok-words.words.items (start_stands c.args.code.now c.args.setup.now c.in_ok-flows.flows.items c.in_ok-words.words.items c.in_ok-flows.ensures c.in_ok-words.ensures) c.go_on.new.flows.items c.go_on.new.words.items c.go_on.new.reads.items c.go_on.new.out c.in-Outside.at _ (subst (WentIs c.args.code.now c.args.setup.now (standing c.in_ok-flows.flows.items c.in_ok-words.words.items) 0 (drop 0 (take c.min-taken.result c.args.entries.now)) c.go_on.new.flows.items c.go_on.new.words.items c.go_on.new.reads.items c.go_on.new.out) c.in-Outside.is c.in_ok-went.ensures.went)

pub returns-then-taken-count : goal.returns-then-taken-count
returns-then-taken-count c = fewer_there c.args.code.now c.args.setup.now c.args.entries.now c.args.count c.min-taken.result (c.min-taken.ensures ∙ ap (min c.args.count) c.len-2.ensures) c.in_ok-flows.flows.items c.in_ok-words.words.items (start_stands c.args.code.now c.args.setup.now c.in_ok-flows.flows.items c.in_ok-words.words.items c.in_ok-flows.ensures c.in_ok-words.ensures) c.go_on.new.flows.items c.go_on.new.words.items c.go_on.new.reads.items c.go_on.new.out (subst (WentIs c.args.code.now c.args.setup.now (standing c.in_ok-flows.flows.items c.in_ok-words.words.items) 0 (drop 0 (take c.min-taken.result c.args.entries.now)) c.go_on.new.flows.items c.go_on.new.words.items c.go_on.new.reads.items c.go_on.new.out) c.in-On.is c.in_ok-went.ensures.went) c.if-taken-count.true

pub cells_in-requires : goal.cells_in-requires
cells_in-requires c =
    let few = few_words c.from.result c.len.result c.from-2.result c.cells.result (omega (arith, c.from.ensures, c.slots-slots.ensures.value, c.slots-slots.ensures.within.few_slots)) (omega (arith, c.len.ensures, c.requires.runnable.few_globals)) (omega (arith, c.from-2.ensures, c.slots-slots.ensures.value, c.slots-slots.ensures.within.few_slots)) (omega (arith, c.cells.ensures.value, c.slots-slots.ensures.within.few_cells)) in
    short_front (2 * c.from.result + c.len.result + c.from-2.result * c.cells.result) c.deref.result.now few

pub slice_bounds-cells_in-end : goal.slice_bounds-cells_in-end
slice_bounds-cells_in-end c =
    let same : 2 * c.from.result + c.len.result + c.from-2.result * c.cells.result ≡ cells_of c.args.code.now c.args.setup.now = cc (c.from.ensures, c.len.ensures, c.from-2.ensures, c.cells.ensures.value, c.slots-slots.ensures.value) in
    let len : length c.deref.result.now ≡ length (start_words c.args.code.now c.args.setup.now) = ap length c.deref.ensures.value ∙ length_there c.args.code.now c.args.setup.now c.args.entries.now c.args.count c.min-taken.result (c.min-taken.ensures ∙ ap (min c.args.count) c.len-2.ensures) c.in_ok-flows.flows.items c.in_ok-words.words.items (start_stands c.args.code.now c.args.setup.now c.in_ok-flows.flows.items c.in_ok-words.words.items c.in_ok-flows.ensures c.in_ok-words.ensures) c.go_on.new.flows.items c.go_on.new.words.items c.go_on.new.reads.items c.go_on.new.out (subst (WentIs c.args.code.now c.args.setup.now (standing c.in_ok-flows.flows.items c.in_ok-words.words.items) 0 (drop 0 (take c.min-taken.result c.args.entries.now)) c.go_on.new.flows.items c.go_on.new.words.items c.go_on.new.reads.items c.go_on.new.out) c.in-On.is c.in_ok-went.ensures.went) c.requires.runnable c.slots-slots.ensures.within in
    sym (length-take-le (2 * c.from.result + c.len.result + c.from-2.result * c.cells.result) c.deref.result.now (cells_first c.args.code.now c.args.setup.now (2 * c.from.result + c.len.result + c.from-2.result * c.cells.result) c.deref.result.now same len))

pub list_objects-requires-clause-words : goal.list_objects-requires-clause-words
list_objects-requires-clause-words c = ap length c.deref-2.ensures.value ∙ length_there c.args.code.now c.args.setup.now c.args.entries.now c.args.count c.min-taken.result (c.min-taken.ensures ∙ ap (min c.args.count) c.len-2.ensures) c.in_ok-flows.flows.items c.in_ok-words.words.items (start_stands c.args.code.now c.args.setup.now c.in_ok-flows.flows.items c.in_ok-words.words.items c.in_ok-flows.ensures c.in_ok-words.ensures) c.go_on.new.flows.items c.go_on.new.words.items c.go_on.new.reads.items c.go_on.new.out (subst (WentIs c.args.code.now c.args.setup.now (standing c.in_ok-flows.flows.items c.in_ok-words.words.items) 0 (drop 0 (take c.min-taken.result c.args.entries.now)) c.go_on.new.flows.items c.go_on.new.words.items c.go_on.new.reads.items c.go_on.new.out) c.in-On.is c.in_ok-went.ensures.went) c.requires.runnable c.slots-slots.ensures.within

pub parts_of-requires : goal.parts_of-requires
parts_of-requires c = λ k r at. entered_there c.args.code.now c.args.setup.now c.args.entries.now c.args.count c.min-taken.result (c.min-taken.ensures ∙ ap (min c.args.count) c.len-2.ensures) c.in_ok-flows.flows.items c.in_ok-words.words.items (start_stands c.args.code.now c.args.setup.now c.in_ok-flows.flows.items c.in_ok-words.words.items c.in_ok-flows.ensures c.in_ok-words.ensures) c.go_on.new.flows.items c.go_on.new.words.items c.go_on.new.reads.items c.go_on.new.out (subst (WentIs c.args.code.now c.args.setup.now (standing c.in_ok-flows.flows.items c.in_ok-words.words.items) 0 (drop 0 (take c.min-taken.result c.args.entries.now)) c.go_on.new.flows.items c.go_on.new.words.items c.go_on.new.reads.items c.go_on.new.out) c.in-On.is c.in_ok-went.ensures.went) k r (ap (λ z. slice_get z k) (sym c.deref-3.ensures.value) ∙ at)

pub returns : goal.returns
returns c =
    let same : 2 * c.from.result + c.len.result + c.from-2.result * c.cells.result ≡ cells_of c.args.code.now c.args.setup.now = cc (c.from.ensures, c.len.ensures, c.from-2.ensures, c.cells.ensures.value, c.slots-slots.ensures.value) in
    state_there c.args.code.now c.args.setup.now c.args.entries.now c.args.count c.min-taken.result (c.min-taken.ensures ∙ ap (min c.args.count) c.len-2.ensures) c.in_ok-flows.flows.items c.in_ok-words.words.items (start_stands c.args.code.now c.args.setup.now c.in_ok-flows.flows.items c.in_ok-words.words.items c.in_ok-flows.ensures c.in_ok-words.ensures) c.go_on.new.flows.items c.go_on.new.words.items c.go_on.new.reads.items c.go_on.new.out (subst (WentIs c.args.code.now c.args.setup.now (standing c.in_ok-flows.flows.items c.in_ok-words.words.items) 0 (drop 0 (take c.min-taken.result c.args.entries.now)) c.go_on.new.flows.items c.go_on.new.words.items c.go_on.new.reads.items c.go_on.new.out) c.in-On.is c.in_ok-went.ensures.went) c.if-taken-count.false
    (λ k r at. c.in_ok-parts_of.ensures.words k r (ap (λ z. slice_get z k) c.deref-3.ensures.value ∙ at))
    (2 * c.from.result + c.len.result + c.from-2.result * c.cells.result) c.in_ok-cells_in.field-0 c.in_ok-list_objects.field-0 c.in_ok-parts_of.field-0 same
    (c.in_ok-cells_in.ensures ∙ ap (λ z. cells_from 0 (take (2 * c.from.result + c.len.result + c.from-2.result * c.cells.result) z)) c.deref.ensures.value)
    (c.in_ok-list_objects.ensures ∙ ap (objects_at c.args.code.now c.args.setup.now) c.deref-2.ensures.value)
    (c.in_ok-parts_of.ensures.parts ∙ ap (map (λ (r : Running). part_of r.kept.thread)) c.deref-3.ensures.value)
