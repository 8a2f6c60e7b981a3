use Rattle.std.proofs.Common.{◌≡◌, ◌∙◌, ℕ, ◌<◌, sym, ap, subst, arith, Some, List, [], ◌∷◌, length, length-append}
use Rattle.std.specs.Prelude.{slice_index_or}
use Rattle.std.proofs.lemmas.Option.{slice_get-get_or}
use Rattle.weak_lock_facts.specs.Grains.{block_at}
use Rattle.grain_choice.proofs.Firsts.{first_next, before_next, each_pushed}
use Rattle.grain_choice.proofs.blocks.firsts_of.Goals as goal

pub loop-at-preserved : goal.loop-at-preserved
loop-at-preserved c =
    let lt : c.loop-at.at < length c.in_ok-starts.starts.items = omega arith in
    let within : c.loop-at.at < length c.args.instrs.now = omega (arith, c.in_ok-starts.ensures.length) in
    let first : c.first_at-first.result ≡ block_at c.args.instrs.now c.loop-at.at = first_next c.args.instrs.now c.loop-at.at c.loop-at.first c.first_at-first.result c.index.result.now (ap Some c.index.ensures ∙ sym (slice_get-get_or c.in_ok-starts.starts.items c.loop-at.at c.index.result.now lt) ∙ c.in_ok-starts.ensures.each c.loop-at.at within) c.loop-at.invariant.first c.first_at-first.ensures in
    record {
      long = ap (λ (z : List ℕ). length z) c.in_ok-push.ensures.ok ∙ (omega (arith, length-append c.loop-at.firsts (c.first_at-first.result ∷ []), c.loop-at.invariant.long));
      each = λ k l. subst (λ (z : List ℕ). slice_index_or z k 0 ≡ block_at c.args.instrs.now k) (sym c.in_ok-push.ensures.ok) (each_pushed c.loop-at.firsts c.first_at-first.result (block_at c.args.instrs.now) c.loop-at.at k c.loop-at.invariant.long c.loop-at.invariant.each first l);
      first = before_next c.args.instrs.now c.loop-at.at c.first_at-first.result first;
    }
