use Rattle.std.proofs.Common.{◌≡◌, ◌≤◌, take}
use Rattle.std.specs.Prelude.{count_by}
use Rattle.flow_code.specs.Valid.{is_main_function}
use Rattle.flow_code.proofs.valid.mains_in.Given as goal

abbrev pub invariant-loop-function : goal.invariant-loop-function
invariant-loop-function l = (l.mains ≡ count_by is_main_function (take l.function-index l.functions)) × (l.mains ≤ l.function-index)
