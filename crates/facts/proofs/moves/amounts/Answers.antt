use Rattle.std.proofs.Common.{◌≡◌, ◌<◌, [], ◌∷◌, ℕ, ℤ, List, Option, Some, sym, subst, ap, arith, length, length-append, false}
use Rattle.std.specs.Prelude.{slice_get, slice_index_or}
use Rattle.std.proofs.lemmas.Option.{slice_get-get_or}
use Rattle.facts.specs.Blocks.{amount_at, constant_at}
use Rattle.facts.specs.Carried.{constant_in}
use Rattle.facts.proofs.Carrying.{start_is, constants_entered, constants_next, amount_here, amounts_pushed}
use Rattle.facts.proofs.moves.amounts.Goals as goal

pub loop-at-preserved : goal.loop-at-preserved
loop-at-preserved c =
    let is = c.args.instrs.now in
    let at = c.loop-at.at in
    let i = slice_index_or is at c.index-instrs-at.result in
    let lt : at < length is = omega arith in
    let there : slice_get is at ≡ Some i = slice_get-get_or is at c.index-instrs-at.result lt in
    let held : (r : ℕ) → constant_in c.entered-held.result r ≡ constant_at is at r = constants_entered is at (slice_index_or c.args.starts.now at false) (constant_in c.loop-at.held) (constant_in c.entered-held.result) (start_is is c.args.starts.now at false c.requires.starts lt c.requires.length) c.entered-held.ensures c.loop-at.invariant.held in
    let new : c.amount.result ≡ amount_at is at = amount_here is at i (constant_in c.entered-held.result) c.amount.result there held c.amount.ensures in
    record {
      long = omega (arith, ap (λ (z : List (Option ℤ)). length z) c.in_ok-push.ensures.items, length-append c.loop-at.amounts.items (c.amount.result ∷ []), c.loop-at.invariant.long);
      each = λ k l. subst (λ (z : List (Option ℤ)). slice_get z k ≡ Some (amount_at is k)) (sym c.in_ok-push.ensures.items) (amounts_pushed is c.loop-at.amounts.items at k c.amount.result c.loop-at.invariant.long c.loop-at.invariant.each new l);
      held = constants_next is at i (constant_in c.entered-held.result) (constant_in c.pass.new.held) there held c.in_ok-pass.ensures;
    }
