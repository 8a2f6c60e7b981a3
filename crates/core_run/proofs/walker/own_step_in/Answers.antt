use Rattle.std.proofs.Common.{sym, ap, ◌∙◌, arith, length, ◌<◌, get_or, []}
use Rattle.core_run.specs.Words.{cells_of}
use Rattle.core_run.proofs.WalkSteps.{still_run, code_is, setup_is, number_is, stays_here, marked_here, accessed_here, outside_here, reads_at}
use Rattle.core_run.proofs.walker.own_step_in.Goals as goal

pub own_step-requires-clause-cells : goal.own_step-requires-clause-cells
own_step-requires-clause-cells c =
    let r = c.index_mut-flow.result.now in
    c.requires.cells ∙ sym (ap (λ z. cells_of z r.setup) (code_is c.args.code.now c.args.setup.now c.args.flows.now.items c.args.thread c.from.result c.index_mut-flow.result.now r c.requires.all c.requires.thread c.from.ensures c.index_mut-flow.ensures.value) ∙ ap (cells_of c.args.code.now) (setup_is c.args.code.now c.args.setup.now c.args.flows.now.items c.args.thread c.from.result c.index_mut-flow.result.now r c.requires.all c.requires.thread c.from.ensures c.index_mut-flow.ensures.value))

pub own_step-requires-clause-number : goal.own_step-requires-clause-number
own_step-requires-clause-number c =
    let r = c.index_mut-flow.result.now in
    number_is c.args.code.now c.args.setup.now c.args.flows.now.items c.args.thread c.from.result c.index_mut-flow.result.now r c.requires.all c.requires.thread c.from.ensures c.index_mut-flow.ensures.value

pub returns-in_err-own-clause-all : goal.returns-in_err-own-clause-all
returns-in_err-own-clause-all c = still_run c.args.code.now c.args.setup.now c.args.flows.now.items c.args.thread c.from.result c.index_mut-flow.result.now c.own_step.new.flow c.requires.all c.requires.thread c.from.ensures c.index_mut-flow.ensures.value c.own_step.ensures.code c.own_step.ensures.setup c.own_step.ensures.number

pub returns-in_err-keep-in-Accessed-clause-all : goal.returns-in_err-keep-in-Accessed-clause-all
returns-in_err-keep-in-Accessed-clause-all c = still_run c.args.code.now c.args.setup.now c.args.flows.now.items c.args.thread c.from.result c.index_mut-flow.result.now c.own_step.new.flow c.requires.all c.requires.thread c.from.ensures c.index_mut-flow.ensures.value c.own_step.ensures.code c.own_step.ensures.setup c.own_step.ensures.number

pub returns-in-Stays-clause-all : goal.returns-in-Stays-clause-all
returns-in-Stays-clause-all c = still_run c.args.code.now c.args.setup.now c.args.flows.now.items c.args.thread c.from.result c.index_mut-flow.result.now c.own_step.new.flow c.requires.all c.requires.thread c.from.ensures c.index_mut-flow.ensures.value c.own_step.ensures.code c.own_step.ensures.setup c.own_step.ensures.number

pub returns-in-Outside-clause-all : goal.returns-in-Outside-clause-all
returns-in-Outside-clause-all c = still_run c.args.code.now c.args.setup.now c.args.flows.now.items c.args.thread c.from.result c.index_mut-flow.result.now c.own_step.new.flow c.requires.all c.requires.thread c.from.ensures c.index_mut-flow.ensures.value c.own_step.ensures.code c.own_step.ensures.setup c.own_step.ensures.number

pub returns-in-Marked-clause-all : goal.returns-in-Marked-clause-all
returns-in-Marked-clause-all c = still_run c.args.code.now c.args.setup.now c.args.flows.now.items c.args.thread c.from.result c.index_mut-flow.result.now c.own_step.new.flow c.requires.all c.requires.thread c.from.ensures c.index_mut-flow.ensures.value c.own_step.ensures.code c.own_step.ensures.setup c.own_step.ensures.number

pub returns-in_ok-keep-in-Accessed-clause-all : goal.returns-in_ok-keep-in-Accessed-clause-all
returns-in_ok-keep-in-Accessed-clause-all c = still_run c.args.code.now c.args.setup.now c.args.flows.now.items c.args.thread c.from.result c.index_mut-flow.result.now c.own_step.new.flow c.requires.all c.requires.thread c.from.ensures c.index_mut-flow.ensures.value c.own_step.ensures.code c.own_step.ensures.setup c.own_step.ensures.number

pub returns-in-Stays-clause-step : goal.returns-in-Stays-clause-step
returns-in-Stays-clause-step c = λ st shown. stays_here c.args.code.now c.args.setup.now c.args.flows.now.items c.args.thread c.from.result c.index_mut-flow.result.now c.own_step.new.flow c.requires.all c.requires.thread c.from.ensures c.index_mut-flow.ensures.value c.args.formula.now c.args.words.now.items c.own_step.new.words.items c.args.reads.now.items st shown c.in_ok-own.own c.in-Stays.is c.in_ok-own.ensures.own

pub returns-in-Outside-clause-step : goal.returns-in-Outside-clause-step
returns-in-Outside-clause-step c = λ st shown. outside_here c.args.code.now c.args.setup.now c.args.flows.now.items c.args.thread c.from.result c.index_mut-flow.result.now c.own_step.new.flow c.requires.all c.requires.thread c.from.ensures c.index_mut-flow.ensures.value c.args.formula.now c.args.words.now.items c.own_step.new.words.items c.args.reads.now.items st shown c.in_ok-own.own c.in-Outside.is c.in_ok-own.ensures.own

pub returns-in-Marked-clause-step : goal.returns-in-Marked-clause-step
returns-in-Marked-clause-step c = λ st shown. marked_here c.args.code.now c.args.setup.now c.args.flows.now.items c.args.thread c.from.result c.index_mut-flow.result.now c.own_step.new.flow c.requires.all c.requires.thread c.from.ensures c.index_mut-flow.ensures.value c.args.formula.now c.args.words.now.items c.own_step.new.words.items c.args.reads.now.items st shown c.in_ok-own.own c.in-Marked.is c.in_ok-own.ensures.own

pub returns-in_ok-keep-in-Accessed-clause-step : goal.returns-in_ok-keep-in-Accessed-clause-step
returns-in_ok-keep-in-Accessed-clause-step c = λ st shown.
    let within : c.args.thread < length c.args.reads.now.items = omega arith in
    let here = reads_at c.args.reads.now.items c.args.thread within in
    accessed_here c.args.code.now c.args.setup.now c.args.flows.now.items c.args.thread c.from.result c.index_mut-flow.result.now c.own_step.new.flow c.requires.all c.requires.thread c.from.ensures c.index_mut-flow.ensures.value c.args.formula.now c.args.words.now.items c.own_step.new.words.items c.args.reads.now.items st shown c.in_ok-own.own c.in-Accessed.access (get_or c.args.reads.now.items c.args.thread []) c.keep.new.reads.items c.in-Accessed.is c.in_ok-own.ensures.own here (c.in_ok-keep-in-Accessed.ensures.kept _ here)
