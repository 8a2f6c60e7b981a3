-- In valid code no weak instruction stands among those that make a function's objects.
use Rattle.std.proofs.Common.{◌≡◌, true, Option, Some, None, refl, ap, ◌∙◌}
use Rattle.std.specs.Prelude.{slice_get, option_map, ◌&&◌}
use Rattle.std.proofs.lemmas.Option.{slice_get-map}
use Rattle.flow_code.specs.declared.code.Code.{Code}
use Rattle.flow_code.specs.declared.code.Function.{Function}
use Rattle.flow_code.specs.Order.{ends_in_itself, jumps_fit, objects_are_first}
use Rattle.flow_code.specs.Threads.{objects_of, instrs_in}
use Rattle.flow_code.specs.Valid.{is_valid}
use Rattle.flow_code.proofs.ValidParts.{right, function_is_fit, order_is_fit}
use Rattle.weak_code.specs.Stripped.{plain_of, strip_function}
use Rattle.erasure.proofs.Bare.{HasObjects}
use Rattle.erasure.proofs.Kept.{same_objects}

pub valid_objects : (w : Code) → is_valid w ≡ true → HasObjects w
valid_objects w valid f = ap (λ o. objects_of (instrs_in o)) (slice_get-map strip_function w.functions f) ∙ by (slice_get w.functions f) refl
  where
    by : (o : Option Function) → slice_get w.functions f ≡ o → objects_of (instrs_in (option_map strip_function o)) ≡ objects_of (instrs_in o)
    by None e = refl
    by (Some fn) e = same_objects (plain_of fn.instrs) fn.instrs (right (ends_in_itself fn.instrs && jumps_fit fn.instrs 0 fn.instrs) (objects_are_first fn.instrs) (order_is_fit w fn (function_is_fit w valid f fn e)))
