use Rattle.std.proofs.Common.{◌≡◌, ◌-◌, ◌&&◌, not}
use Rattle.flow_code.specs.Stripes.{wants_number, first_from}
use Rattle.flow_code.specs.Holding.{is_listed}
use Rattle.thread_interpreter.proofs.stripes.first_lacked.Given as goal

abbrev pub invariant-loop-number : goal.invariant-loop-number
invariant-loop-number l = first_from (λ n. wants_number l.code l.registers l.region n && not (is_listed l.stripes n)) (l.to - l.number) l.number ≡ first_from (λ n. wants_number l.code l.registers l.region n && not (is_listed l.stripes n)) (l.to - l.from) l.from
