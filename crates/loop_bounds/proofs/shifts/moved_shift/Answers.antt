use Rattle.std.proofs.Common.{◌≡◌, ℕ, Option, Some, sym, ap, ◌∙◌}
use Rattle.weak_lock_facts.specs.Loops.{nth}
use Rattle.weak_lock_facts.specs.Ranges.{moved_of}
use Rattle.loop_bounds.proofs.Placed.{operand_at, maker_fits, not_moved, moved_by}
use Rattle.loop_bounds.proofs.shifts.moved_shift.Goals as goal

pub returns-in_err-base_at : goal.returns-in_err-base_at
returns-in_err-base_at c =
    let is = c.args.instrs.now in
    let at = c.args.at in
    let moves : moved_of (nth is at) ≡ Some (c.in_ok-pointer.pointer, c.in_ok-pointer.by) = ap moved_of (sym c.nth.ensures) ∙ sym c.moved_of.ensures ∙ c.in_ok-pointer.was in
    let os = operand_at is c.args.operands.now at c.in_ok-pointer.pointer c.in_ok-pointer.by c.requires.operands c.requires.operands_length c.requires.at moves in
    let base = sym (c.base_at.ensures at (ap (λ (x : Option ℕ × Option ℕ). x.0) os)) ∙ c.in_err-base_at.was in
    c.from_residual-in_err-base_at.ensures ∙ sym (not_moved is c.args.counted.now at c.in_ok-pointer.pointer c.in_ok-pointer.by moves base)

pub shift_at-requires-clause-within : goal.shift_at-requires-clause-within
shift_at-requires-clause-within c =
    let is = c.args.instrs.now in
    let at = c.args.at in
    let moves : moved_of (nth is at) ≡ Some (c.in_ok-pointer.pointer, c.in_ok-pointer.by) = ap moved_of (sym c.nth.ensures) ∙ sym c.moved_of.ensures ∙ c.in_ok-pointer.was in
    let os = operand_at is c.args.operands.now at c.in_ok-pointer.pointer c.in_ok-pointer.by c.requires.operands c.requires.operands_length c.requires.at moves in
    maker_fits is at c.in_ok-pointer.by _ (ap (λ (x : Option ℕ × Option ℕ). x.1) os) c.requires.at

pub returns : goal.returns
returns c =
    let is = c.args.instrs.now in
    let at = c.args.at in
    let moves : moved_of (nth is at) ≡ Some (c.in_ok-pointer.pointer, c.in_ok-pointer.by) = ap moved_of (sym c.nth.ensures) ∙ sym c.moved_of.ensures ∙ c.in_ok-pointer.was in
    let os = operand_at is c.args.operands.now at c.in_ok-pointer.pointer c.in_ok-pointer.by c.requires.operands c.requires.operands_length c.requires.at moves in
    let base = sym (c.base_at.ensures at (ap (λ (x : Option ℕ × Option ℕ). x.0) os)) ∙ c.in_ok-base_at.was in
    c.shift_at.ensures at (ap (λ (x : Option ℕ × Option ℕ). x.1) os) ∙ sym (moved_by is c.args.counted.now at c.in_ok-pointer.pointer c.in_ok-pointer.by c.in_ok-base_at.field-0 moves base)
