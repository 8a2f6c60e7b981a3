use Rattle.std.proofs.Common.{◌≡◌, sym, ◌∙◌, arith, bytes_eq, decimal}
use Rattle.std.proofs.lemmas.Slice.Eq.{bytes_eq-Decides}
use Rattle.std.proofs.lemmas.Bool.{both_ways}
use Rattle.command_line.proofs.Numbers.{within, unparsed, misread}
use Rattle.command_line.proofs.number.number_within.Goals as goal
use Rattle.command_line.proofs.number.number_within.Goals.{else-eq-via-then-eq+then-low-number+else-number-high, else-eq-via-then-eq+else-low-number, else-eq-via-else-eq}

pub returns-in_default-clause-number : goal.returns-in_default-clause-number
returns-in_default-clause-number c =
    unparsed c.args.low c.args.high c.args.text.now c.parse.result c.in_default.field-0 (omega arith) c.parse.ensures.value.0 c.in_default.is

pub returns-then-number-high-clause-number : goal.returns-then-number-high-clause-number
returns-then-number-high-clause-number c =
    let same : decimal c.in-Ok.number ≡ c.args.text.now =
    sym c.format.ensures.text ∙ (bytes_eq-Decides c.format.result.now c.args.text.now).0 (sym c.eq.ensures ∙ c.if-eq.true) in
    within c.args.low c.args.high c.in-Ok.number c.args.text.now (omega arith) same c.if-low-number.true c.if-number-high.true

pub returns-else-eq-clause-number : goal.returns-else-eq-clause-number
returns-else-eq-clause-number c =
    misread c.args.low c.args.high c.in-Ok.number c.args.text.now c.parse.result (omega arith) c.parse.ensures.value.0 c.in-Ok.is
    (λ same low high.
    elim c.else-eq.branch [
      | else-eq-via-then-eq+then-low-number+else-number-high w ↦ omega arith
      | else-eq-via-then-eq+else-low-number w ↦ omega arith
      | else-eq-via-else-eq w ↦
          both_ways (bytes_eq c.format.result.now c.args.text.now) (sym c.eq.ensures ∙ w.if-eq.false) ((bytes_eq-Decides c.format.result.now c.args.text.now).1 (c.format.ensures.text ∙ same))
    ])
