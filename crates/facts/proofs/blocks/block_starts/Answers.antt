use Rattle.std.proofs.Common.{sym, ap, ◌∙◌, Some, arith}
use Rattle.std.specs.Prelude.{◌||◌}
use Rattle.std.proofs.lemmas.Option.{slice_get-get_or}
use Rattle.facts.specs.Blocks as spec
use Rattle.facts.proofs.Marked.{target_marked, are_starts, first_marked, take_all}
use Rattle.facts.proofs.blocks.block_starts.Goals as goal

pub loop-instr-init : goal.loop-instr-init
loop-instr-init c = record { long = c.in_ok-starts.ensures.length; each = λ k lt. first_marked c.args.instrs.now k _ (c.in_ok-starts.ensures.each k lt) }

pub loop-instr-preserved : goal.loop-instr-preserved
loop-instr-preserved c = record {
  long = c.mark_targets.ensures.length ∙ c.loop-instr.invariant.long;
  each = λ k lt. target_marked c.args.instrs.now c.loop-instr.instr-index k c.instr-item.result _ _ (spec.follows_end c.args.instrs.now k) c.loop-instr-test.true (slice_get-get_or c.args.instrs.now c.loop-instr.instr-index c.instr-item.result c.loop-instr-test.true ∙ ap Some (sym c.instr-item.is)) (c.mark_targets.ensures.each k (omega (arith, c.loop-instr.invariant.long))) (c.loop-instr.invariant.each k lt);
}

pub returns-clause-each : goal.returns-clause-each
returns-clause-each c = are_starts c.args.instrs.now c.loop-instr.starts.items c.loop-instr.invariant.long (λ k lt. c.loop-instr.invariant.each k lt ∙ ap (λ n. spec.follows_end c.args.instrs.now k || spec.is_target n k) (take_all c.args.instrs.now c.loop-instr.instr-index (omega arith)))
