use Rattle.std.proofs.Common.{◌≡◌, arith, ◌∙◌, sym, ap, refl, length, ℕ, List, Bor, Some, option_map}
use Rattle.std.specs.List.{position_or_len}
use Rattle.command_line.specs.Predicates.{cells_asked, is_dash}
use Rattle.command_line.proofs.PredicateParts.{no_dash}
use Rattle.command_line.proofs.predicate.cells_asked.Goals as goal

pub returns-in_err-low : goal.returns-in_err-low
returns-in_err-low c =
    let text = c.in-Some.text.now in
    let place : position_or_len is_dash text ≡ length text = c.in_err-low.ensures.byte (omega arith) (λ w o h. h) in
    let given : option_map (λ (t : Bor (List ℕ)). t.now) c.args.given ≡ Some text = rw c.in-Some.is refl in
    c.from_residual.ensures ∙ no_dash text place ∙ ap cells_asked (sym given)
