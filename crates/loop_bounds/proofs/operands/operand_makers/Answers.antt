use Rattle.std.proofs.Common.{◌≡◌, ◌<◌, ◌∷◌, [], ℕ, List, Option, Some, sym, subst, ap, arith, length, length-append, false}
use Rattle.std.specs.Prelude.{nat_eq, slice_get, slice_index_or}
use Rattle.std.specs.HashMap.{get}
use Rattle.std.proofs.lemmas.Option.{slice_get-get_or}
use Rattle.weak_lock_facts.specs.Ranges.{maker_at}
use Rattle.facts.proofs.Carrying.{start_is}
use Rattle.loop_bounds.proofs.Placed.{places_entered, places_next, operands_pushed}
use Rattle.loop_bounds.proofs.operands.operand_makers.Goals as goal

pub loop-at-preserved : goal.loop-at-preserved
loop-at-preserved c =
    let is = c.args.instrs.now in
    let at = c.loop-at.at in
    let i = slice_index_or is at c.index-instrs-at.result in
    let lt : at < length is = omega arith in
    let there : slice_get is at ≡ Some i = slice_get-get_or is at c.index-instrs-at.result lt in
    let held : (r : ℕ) → get nat_eq c.entered-places.result r ≡ maker_at is at r = places_entered is at (slice_index_or c.args.starts.now at false) (get nat_eq c.loop-at.places) (get nat_eq c.entered-places.result) (start_is is c.args.starts.now at false c.requires.starts lt c.requires.length) c.entered-places.ensures c.loop-at.invariant.places in
    record {
      long = omega (arith, ap (λ (z : List (Option ℕ × Option ℕ)). length z) c.in_ok-push.ensures.items, length-append c.loop-at.makers.items (c.operands.result ∷ []), c.loop-at.invariant.long);
      each = λ k m l moves. subst (λ (z : List (Option ℕ × Option ℕ)). slice_get z k ≡ Some (maker_at is k m.0, maker_at is k m.1)) (sym c.in_ok-push.ensures.items) (operands_pushed is c.loop-at.makers.items at i (get nat_eq c.entered-places.result) c.operands.result c.loop-at.invariant.long there held c.operands.ensures c.loop-at.invariant.each k m l moves);
      places = places_next is at i (get nat_eq c.entered-places.result) (get nat_eq c.pass.new.places) there held c.in_ok-pass.ensures;
    }
