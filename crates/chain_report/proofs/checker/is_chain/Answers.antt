use Rattle.std.proofs.Common.{ap, sym, ◌∙◌}
use Rattle.lock_sound.proofs.Running.{weakened_runs}
use Rattle.chain_report.specs.Chains.{is_chain as is_chain_of}
use Rattle.chain_report.proofs.Ordering.{chain_orders}
use Rattle.chain_report.proofs.checker.is_chain.Goals as goal

pub returns-clause-ordered : goal.returns-clause-ordered
returns-clause-ordered c = λ yes.
    chain_orders c.args.w.now.weak c.args.setup.now c.args.entries.now c.args.first c.args.second c.args.passes.now
    (weakened_runs c.args.w.now c.code-code.ensures.kept) c.slots-slots.ensures.within (ap (is_chain_of c.args.entries.now c.args.first c.args.second) (sym c.as_slice.ensures) ∙ sym c.are_chain.ensures ∙ yes)
