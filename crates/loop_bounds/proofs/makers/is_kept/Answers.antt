use Rattle.std.proofs.Common.{◌≡◌, length, sym, ap, ◌∙◌, Some, None}
use Rattle.loop_bounds.specs.Tables.{makers_in}
use Rattle.loop_bounds.proofs.Placed.{kept_without, kept_by_one}
use Rattle.loop_bounds.proofs.makers.is_kept.Goals as goal

pub returns-in-None : goal.returns-in-None
returns-in-None c =
    let is = c.args.instrs.now in
    let r = c.args.register in
    let none : makers_in is (length is) r ≡ None = sym (c.requires r) ∙ sym c.get.ensures.value ∙ sym c.copied.ensures ∙ c.in-None.is in
    sym (kept_without is c.args.counted.now r none)

pub returns-in-Some-Some : goal.returns-in-Some-Some
returns-in-Some-Some c =
    let is = c.args.instrs.now in
    let r = c.args.register in
    let one : makers_in is (length is) r ≡ Some (Some c.in-Some-Some.maker) = sym (c.requires r) ∙ sym c.get.ensures.value ∙ sym c.copied.ensures ∙ c.in-Some-Some.is ∙ ap Some c.in-Some-Some.field-0-is in
    c.is_outside.ensures ∙ sym (kept_by_one is c.args.counted.now r c.in-Some-Some.maker one)
