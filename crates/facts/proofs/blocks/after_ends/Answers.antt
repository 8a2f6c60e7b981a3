use Rattle.std.proofs.Common.{arith, length-append, [], ◌∷◌, ◌≡◌, length, sym, subst, ap, ◌∙◌, List, Bool, false, Some}
use Rattle.std.specs.Prelude.{slice_index_or}
use Rattle.std.proofs.lemmas.Option.{slice_get-get_or}
use Rattle.facts.specs.Blocks as spec
use Rattle.facts.proofs.Marked.{follows_next, each_pushed}
use Rattle.facts.proofs.blocks.after_ends.Goals as goal

pub loop-instr-preserved : goal.loop-instr-preserved
loop-instr-preserved c = record {
  long = omega (arith, ap (λ (z : List Bool). length z) c.in_ok-push.ensures.items, length-append c.loop-instr.starts.items (c.loop-instr.begins ∷ []), c.loop-instr.invariant.long);
  each = λ k lt. subst (λ (z : List Bool). slice_index_or z k false ≡ spec.follows_end c.args.instrs.now k) (sym c.in_ok-push.ensures.items) (each_pushed c.loop-instr.starts.items c.loop-instr.begins (spec.follows_end c.args.instrs.now) c.loop-instr.instr-index k c.loop-instr.invariant.long c.loop-instr.invariant.each c.loop-instr.invariant.begins lt);
  begins = c.ends_block-begins.ensures ∙ sym (follows_next c.args.instrs.now c.loop-instr.instr-index c.instr-item.result (slice_get-get_or c.args.instrs.now c.loop-instr.instr-index c.instr-item.result c.loop-instr-test.true ∙ ap Some (sym c.instr-item.is)));
}
