use Rattle.std.proofs.Common.{◌≡◌, true, false, sym, ◌∙◌}
use Rattle.sync_objects.specs.Names.{name_of}
use Rattle.run_theory.specs.Same.{same_entry}
use Rattle.core_run.specs.Machine.{entry_of}
use Rattle.core_run.proofs.Performed.{not_operating, other_operation, this_operation}
use Rattle.core_run.proofs.making.make_own.Goals as goal

pub returns-in-Load-clause-made : goal.returns-in-Load-clause-made
returns-in-Load-clause-made c = λ told is. not_operating _ _ _ _ _ _ c.args.entry told _ _ _ c.settle.ensures.code c.settle.ensures.setup c.settle.ensures.number c.requires.number is c.in_ok-settle.ensures.thread c.next_action.ensures c.requires.label _ (λ o obj e. let clash = sym c.in-Load.is ∙ e in cc)

pub returns-in-Store-clause-made : goal.returns-in-Store-clause-made
returns-in-Store-clause-made c = λ told is. not_operating _ _ _ _ _ _ c.args.entry told _ _ _ c.settle.ensures.code c.settle.ensures.setup c.settle.ensures.number c.requires.number is c.in_ok-settle.ensures.thread c.next_action.ensures c.requires.label _ (λ o obj e. let clash = sym c.in-Store.is ∙ e in cc)

pub returns-in-Mark-clause-made : goal.returns-in-Mark-clause-made
returns-in-Mark-clause-made c = λ told is. not_operating _ _ _ _ _ _ c.args.entry told _ _ _ c.settle.ensures.code c.settle.ensures.setup c.settle.ensures.number c.requires.number is c.in_ok-settle.ensures.thread c.next_action.ensures c.requires.label _ (λ o obj e. let clash = sym c.in-Mark.is ∙ e in cc)

pub returns-in-Ended-clause-made : goal.returns-in-Ended-clause-made
returns-in-Ended-clause-made c = λ told is. not_operating _ _ _ _ _ _ c.args.entry told _ _ _ c.settle.ensures.code c.settle.ensures.setup c.settle.ensures.number c.requires.number is c.in_ok-settle.ensures.thread c.next_action.ensures c.requires.label _ (λ o obj e. let clash = sym c.in-Ended.is ∙ e in cc)

pub returns-then-not-same_entry-clause-made : goal.returns-then-not-same_entry-clause-made
returns-then-not-same_entry-clause-made c = λ told is.
    let differ : same_entry (entry_of c.args.entry.thread c.settle.new.self.kept.thread (name_of c.in-Operate.op) c.in-Operate.obj) c.args.entry ≡ false = cc in
    other_operation _ _ _ _ _ _ c.args.entry told _ _ _ c.settle.ensures.code c.settle.ensures.setup c.settle.ensures.number c.requires.number is c.in_ok-settle.ensures.thread c.next_action.ensures c.requires.label _ c.in-Operate.op c.in-Operate.obj c.in-Operate.is differ

pub returns-in_ok-made-in-Operate-clause-made : goal.returns-in_ok-made-in-Operate-clause-made
returns-in_ok-made-in-Operate-clause-made c = λ told is.
    let same : same_entry (entry_of c.args.entry.thread c.settle.new.self.kept.thread (name_of c.in-Operate.op) c.in-Operate.obj) c.args.entry ≡ true = cc in
    this_operation _ _ _ _ _ _ c.args.entry told _ _ _ c.settle.ensures.code c.settle.ensures.setup c.settle.ensures.number c.requires.number is c.in_ok-settle.ensures.thread c.next_action.ensures c.requires.label _ _ _ c.in-Operate.op c.in-Operate.obj _ c.in-Operate.is same (c.in_ok-made-in-Operate.ensures.made told)
