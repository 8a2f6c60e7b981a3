use Rattle.std.proofs.Common.{◌∙◌, ◌++◌, sym, ap, subst}
use Rattle.sync_objects.specs.Setup.{IsWithinLimits}
use Rattle.flow_code.specs.Settle.{IsRunnable}
use Rattle.core_run.specs.Words.{cells_of}
use Rattle.core_run.specs.Parts.{AreUsable}
use Rattle.core_run.proofs.WalkSteps.{still_run, code_is, setup_is, number_is, refused_here, silent_here, printed_here}
use Rattle.core_run.proofs.walker.make_in.Goals as goal

pub make_entry-requires-clause-runnable : goal.make_entry-requires-clause-runnable
make_entry-requires-clause-runnable c =
    subst IsRunnable (sym (code_is c.args.code.now c.args.setup.now c.args.flows.now.items c.args.entry.thread c.from.result c.index_mut-flow.result.now c.index_mut-flow.result.now c.requires.all c.requires.thread c.from.ensures c.index_mut-flow.ensures.value)) c.requires.runnable

pub make_entry-requires-clause-limits : goal.make_entry-requires-clause-limits
make_entry-requires-clause-limits c =
    subst IsWithinLimits (sym (setup_is c.args.code.now c.args.setup.now c.args.flows.now.items c.args.entry.thread c.from.result c.index_mut-flow.result.now c.index_mut-flow.result.now c.requires.all c.requires.thread c.from.ensures c.index_mut-flow.ensures.value)) c.requires.limits

pub make_entry-requires-clause-cells : goal.make_entry-requires-clause-cells
make_entry-requires-clause-cells c =
    let r = c.index_mut-flow.result.now in
    c.requires.cells ∙ sym (ap (λ z. cells_of z r.setup) (code_is c.args.code.now c.args.setup.now c.args.flows.now.items c.args.entry.thread c.from.result r r c.requires.all c.requires.thread c.from.ensures c.index_mut-flow.ensures.value) ∙ ap (cells_of c.args.code.now) (setup_is c.args.code.now c.args.setup.now c.args.flows.now.items c.args.entry.thread c.from.result r r c.requires.all c.requires.thread c.from.ensures c.index_mut-flow.ensures.value))

pub make_entry-requires-clause-number : goal.make_entry-requires-clause-number
make_entry-requires-clause-number c =
    number_is c.args.code.now c.args.setup.now c.args.flows.now.items c.args.entry.thread c.from.result c.index_mut-flow.result.now c.index_mut-flow.result.now c.requires.all c.requires.thread c.from.ensures c.index_mut-flow.ensures.value

pub make_entry-requires-clause-sound : goal.make_entry-requires-clause-sound
make_entry-requires-clause-sound c =
    let r = c.index_mut-flow.result.now in
    subst (λ z. AreUsable z r.setup c.args.words.now.items) (sym (code_is c.args.code.now c.args.setup.now c.args.flows.now.items c.args.entry.thread c.from.result r r c.requires.all c.requires.thread c.from.ensures c.index_mut-flow.ensures.value))
    (subst (λ z. AreUsable c.args.code.now z c.args.words.now.items) (sym (setup_is c.args.code.now c.args.setup.now c.args.flows.now.items c.args.entry.thread c.from.result r r c.requires.all c.requires.thread c.from.ensures c.index_mut-flow.ensures.value)) c.requires.words)

pub returns-in_err-made-clause-all : goal.returns-in_err-made-clause-all
returns-in_err-made-clause-all c = still_run c.args.code.now c.args.setup.now c.args.flows.now.items c.args.entry.thread c.from.result c.index_mut-flow.result.now c.make_entry.new.flow c.requires.all c.requires.thread c.from.ensures c.index_mut-flow.ensures.value c.make_entry.ensures.code c.make_entry.ensures.setup c.make_entry.ensures.number

pub returns-in_err-extend_from_slice-in-Printed-clause-all : goal.returns-in_err-extend_from_slice-in-Printed-clause-all
returns-in_err-extend_from_slice-in-Printed-clause-all c = still_run c.args.code.now c.args.setup.now c.args.flows.now.items c.args.entry.thread c.from.result c.index_mut-flow.result.now c.make_entry.new.flow c.requires.all c.requires.thread c.from.ensures c.index_mut-flow.ensures.value c.make_entry.ensures.code c.make_entry.ensures.setup c.make_entry.ensures.number

pub returns-in-Refused-clause-all : goal.returns-in-Refused-clause-all
returns-in-Refused-clause-all c = still_run c.args.code.now c.args.setup.now c.args.flows.now.items c.args.entry.thread c.from.result c.index_mut-flow.result.now c.make_entry.new.flow c.requires.all c.requires.thread c.from.ensures c.index_mut-flow.ensures.value c.make_entry.ensures.code c.make_entry.ensures.setup c.make_entry.ensures.number

pub returns-in-Silent-clause-all : goal.returns-in-Silent-clause-all
returns-in-Silent-clause-all c = still_run c.args.code.now c.args.setup.now c.args.flows.now.items c.args.entry.thread c.from.result c.index_mut-flow.result.now c.make_entry.new.flow c.requires.all c.requires.thread c.from.ensures c.index_mut-flow.ensures.value c.make_entry.ensures.code c.make_entry.ensures.setup c.make_entry.ensures.number

pub returns-in_ok-extend_from_slice-in-Printed-clause-all : goal.returns-in_ok-extend_from_slice-in-Printed-clause-all
returns-in_ok-extend_from_slice-in-Printed-clause-all c = still_run c.args.code.now c.args.setup.now c.args.flows.now.items c.args.entry.thread c.from.result c.index_mut-flow.result.now c.make_entry.new.flow c.requires.all c.requires.thread c.from.ensures c.index_mut-flow.ensures.value c.make_entry.ensures.code c.make_entry.ensures.setup c.make_entry.ensures.number

pub returns-in-Refused-clause-made : goal.returns-in-Refused-clause-made
returns-in-Refused-clause-made c = λ f reads st shown. refused_here c.args.code.now c.args.setup.now c.args.flows.now.items c.args.entry c.from.result c.index_mut-flow.result.now c.make_entry.new.flow c.requires.all c.requires.thread c.from.ensures c.index_mut-flow.ensures.value f c.args.words.now.items c.make_entry.new.words.items reads st shown c.in_ok-made.made c.in-Refused.is c.in_ok-made.ensures.made

pub returns-in-Silent-clause-made : goal.returns-in-Silent-clause-made
returns-in-Silent-clause-made c = λ f reads st shown. silent_here c.args.code.now c.args.setup.now c.args.flows.now.items c.args.entry c.from.result c.index_mut-flow.result.now c.make_entry.new.flow c.requires.all c.requires.thread c.from.ensures c.index_mut-flow.ensures.value f c.args.words.now.items c.make_entry.new.words.items reads st shown c.in_ok-made.made c.args.out.now c.in-Silent.is c.in_ok-made.ensures.made

pub returns-in_ok-extend_from_slice-in-Printed-clause-made : goal.returns-in_ok-extend_from_slice-in-Printed-clause-made
returns-in_ok-extend_from_slice-in-Printed-clause-made c = λ f reads st shown. printed_here c.args.code.now c.args.setup.now c.args.flows.now.items c.args.entry c.from.result c.index_mut-flow.result.now c.make_entry.new.flow c.requires.all c.requires.thread c.from.ensures c.index_mut-flow.ensures.value f c.args.words.now.items c.make_entry.new.words.items reads st shown c.in_ok-made.made c.in-Printed.bytes c.args.out.now c.extend_from_slice.new.self c.in-Printed.is c.in_ok-made.ensures.made (c.in_ok-extend_from_slice-in-Printed.ensures.ok ∙ ap (λ z. c.args.out.now ++ z) c.as_slice.ensures)
