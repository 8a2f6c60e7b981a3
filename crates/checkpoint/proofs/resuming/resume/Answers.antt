use Rattle.std.proofs.Common.{◌≡◌, ◌∙◌, ap, sym, subst, arith, [], drop, length, map, take}
use Rattle.std.specs.Prelude.{replicate, slice_get}
use Rattle.std.proofs.lemmas.List.{length-map}
use Rattle.std.proofs.lemmas.Result.{IfOk-weaker}
use Rattle.thread_interpreter.specs.Parts.{thread_of}
use Rattle.core_run.specs.Kept.{AreSound, most_operations}
use Rattle.core_run.specs.Shown.{all_ended, running_thread, ShownAs}
use Rattle.checkpoint.specs.Going.{standing, WentIs}
use Rattle.checkpoint.proofs.Finishing.{resumed_stands}
use Rattle.checkpoint.proofs.Putting.{put_length, put_sound}
use Rattle.checkpoint.proofs.Returning.{refused_on, outside_on, open_on, ended_on}
use Rattle.checkpoint.proofs.resuming.resume.Goals as goal

pub flows_of-requires-clause-range : goal.flows_of-requires-clause-range
flows_of-requires-clause-range c = λ t p at. c.requires.resumable.in_range t p (ap (λ z. slice_get z t) (sym c.as_slice.ensures) ∙ at)

pub go_on-requires-clause-threads : goal.go_on-requires-clause-threads
go_on-requires-clause-threads c = sym (length-map c.in_ok-flows.flows.items running_thread) ∙ ap length c.in_ok-flows.ensures.threads ∙ length-map c.as_slice.result.now thread_of ∙ ap length c.as_slice.ensures ∙ c.requires.resumable.threads

pub go_on-requires-clause-reads : goal.go_on-requires-clause-reads
go_on-requires-clause-reads c = c.in_ok-reads.ensures ∙ ap (λ n. replicate n []) c.slots.ensures.value

pub go_on-requires-clause-words : goal.go_on-requires-clause-words
go_on-requires-clause-words c = ap length c.in_ok-words.ensures ∙ put_length c.args.code.now c.args.setup.now c.slots.ensures.within c.args.snapshot.now

pub go_on-requires-clause-sound : goal.go_on-requires-clause-sound
go_on-requires-clause-sound c = subst (AreSound c.args.code.now c.args.setup.now most_operations) (sym c.in_ok-words.ensures) (put_sound c.args.code.now c.args.setup.now c.slots.ensures.within c.args.snapshot.now c.requires.resumable.cells c.requires.resumable.objects)

pub shown-requires : goal.shown-requires
shown-requires c = omega (arith, ap length c.deref-2.ensures.value, c.in_ok-went.ensures.threads, c.slots.ensures.within.few_slots)

pub returns-in-Refused : goal.returns-in-Refused
returns-in-Refused c = refused_on c.args.code.now c.args.setup.now c.args.snapshot.now c.args.entries.now c.len-last.result c.in_ok-flows.flows.items c.in_ok-words.words.items (resumed_stands c.args.code.now c.args.setup.now c.args.snapshot.now c.in_ok-flows.flows.items c.in_ok-words.words.items (c.in_ok-flows.ensures.threads ∙ ap (map thread_of) c.as_slice.ensures) c.in_ok-words.ensures) c.len-last.ensures c.go_on.new.flows.items c.go_on.new.words.items c.go_on.new.reads.items c.go_on.new.out c.in-Refused.at (subst (WentIs c.args.code.now c.args.setup.now (standing c.in_ok-flows.flows.items c.in_ok-words.words.items) c.args.snapshot.now.at (drop c.args.snapshot.now.at (take c.len-last.result c.args.entries.now)) c.go_on.new.flows.items c.go_on.new.words.items c.go_on.new.reads.items c.go_on.new.out) c.in-Refused.is c.in_ok-went.ensures.went)

pub returns-in-Outside : goal.returns-in-Outside
returns-in-Outside c = outside_on c.args.code.now c.args.setup.now c.args.snapshot.now c.args.entries.now c.len-last.result c.in_ok-flows.flows.items c.in_ok-words.words.items (resumed_stands c.args.code.now c.args.setup.now c.args.snapshot.now c.in_ok-flows.flows.items c.in_ok-words.words.items (c.in_ok-flows.ensures.threads ∙ ap (map thread_of) c.as_slice.ensures) c.in_ok-words.ensures) c.len-last.ensures c.go_on.new.flows.items c.go_on.new.words.items c.go_on.new.reads.items c.go_on.new.out _ c.in-Outside.thread (subst (WentIs c.args.code.now c.args.setup.now (standing c.in_ok-flows.flows.items c.in_ok-words.words.items) c.args.snapshot.now.at (drop c.args.snapshot.now.at (take c.len-last.result c.args.entries.now)) c.go_on.new.flows.items c.go_on.new.words.items c.go_on.new.reads.items c.go_on.new.out) c.in-Outside.is c.in_ok-went.ensures.went)

pub returns-then-not-have_ended : goal.returns-then-not-have_ended
returns-then-not-have_ended c = open_on c.args.code.now c.args.setup.now c.args.snapshot.now c.args.entries.now c.len-last.result c.in_ok-flows.flows.items c.in_ok-words.words.items (resumed_stands c.args.code.now c.args.setup.now c.args.snapshot.now c.in_ok-flows.flows.items c.in_ok-words.words.items (c.in_ok-flows.ensures.threads ∙ ap (map thread_of) c.as_slice.ensures) c.in_ok-words.ensures) c.len-last.ensures c.go_on.new.flows.items c.go_on.new.words.items c.go_on.new.reads.items c.go_on.new.out c.requires.resumable.within (subst (WentIs c.args.code.now c.args.setup.now (standing c.in_ok-flows.flows.items c.in_ok-words.words.items) c.args.snapshot.now.at (drop c.args.snapshot.now.at (take c.len-last.result c.args.entries.now)) c.go_on.new.flows.items c.go_on.new.words.items c.go_on.new.reads.items c.go_on.new.out) c.in-On.is c.in_ok-went.ensures.went) (ap all_ended (sym c.deref.ensures.value) ∙ sym c.have_ended.ensures ∙ c.if-not-have_ended.true)

pub returns : goal.returns
returns c =
    let ended = ap all_ended (sym c.deref.ensures.value) ∙ sym c.have_ended.ensures ∙ c.if-not-have_ended.false in
    ended_on c.args.code.now c.args.setup.now c.args.snapshot.now c.args.entries.now c.len-last.result c.in_ok-flows.flows.items c.in_ok-words.words.items (resumed_stands c.args.code.now c.args.setup.now c.args.snapshot.now c.in_ok-flows.flows.items c.in_ok-words.words.items (c.in_ok-flows.ensures.threads ∙ ap (map thread_of) c.as_slice.ensures) c.in_ok-words.ensures) c.len-last.ensures c.go_on.new.flows.items c.go_on.new.words.items c.go_on.new.reads.items c.go_on.new.out (subst (WentIs c.args.code.now c.args.setup.now (standing c.in_ok-flows.flows.items c.in_ok-words.words.items) c.args.snapshot.now.at (drop c.args.snapshot.now.at (take c.len-last.result c.args.entries.now)) c.go_on.new.flows.items c.go_on.new.words.items c.go_on.new.reads.items c.go_on.new.out) c.in-On.is c.in_ok-went.ensures.went) ended c.in_ok-walk.walk (subst (λ z. ShownAs z c.go_on.new.reads.items c.go_on.new.out c.in_ok-walk.walk) c.deref-2.ensures.value (subst (λ z. ShownAs c.deref-2.result.now z c.go_on.new.out c.in_ok-walk.walk) c.deref-3.ensures.value c.in_ok-walk.ensures))
