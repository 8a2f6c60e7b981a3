use Rattle.std.proofs.Common.{arith, ap, sym, ◌∙◌}
use Rattle.std.specs.Prelude.{if◌then◌else◌}
use Rattle.weak_lock_facts.specs.declared.grain.Grain.TheVariants as grains
use Rattle.weak_code.specs.Stretches as spec
use Rattle.weaken.proofs.Nexts.{here}
use Rattle.weaken.proofs.Parts.{locks_next}
use Rattle.weaken.proofs.stretches.locks_of_function.Goals as goal

pub loop-access-preserved : goal.loop-access-preserved
loop-access-preserved c = record {
  up = c.put_whole.ensures.ascending;
  same = c.in_ok-put_whole.ensures.value ∙ ap (λ z. if spec.same_grain grains.Function c.access-item.result.grain then spec.with_all z c.access-item.result.locks else z) c.loop-access.invariant.same ∙ sym (locks_next grains.Function c.args.accesses.now c.loop-access.access-index c.access-item.result (here c.args.accesses.now c.loop-access.access-index c.access-item.result (omega arith) c.access-item.is));
}
