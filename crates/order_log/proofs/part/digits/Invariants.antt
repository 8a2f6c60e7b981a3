use Rattle.std.proofs.Common.{◌≡◌, ◌≤◌, drop}
use Rattle.std.specs.Option.{option_map}
use Rattle.order_log.specs.Line.{digits_from, capped}
use Rattle.order_log.proofs.part.digits.Given as goal

abbrev pub invariant-loop-b : goal.invariant-loop-b
invariant-loop-b l =
    (l.value ≤ 18446744073709551615) × (option_map capped (digits_from l.value (drop l.b-index l.text)) ≡ option_map capped (digits_from 0 l.text))
