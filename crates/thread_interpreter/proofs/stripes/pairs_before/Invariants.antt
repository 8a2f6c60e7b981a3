use Rattle.std.proofs.Common.{◌≡◌, ◌≤◌, ◌+◌, ◌-◌, ◌++◌, vec_len, vec_capacity}
use Rattle.flow_code.specs.Stripes.{wants_number, stripes_from}
use Rattle.thread_interpreter.proofs.stripes.pairs_before.Given as goal

abbrev pub invariant-loop-number : goal.invariant-loop-number
invariant-loop-number l = record {
  items : l.pairs.items ++ stripes_from (wants_number l.code l.registers l.region) (l.to - l.number) l.number ≡ l.taken ++ stripes_from (wants_number l.code l.registers l.region) (l.to - l.from) l.from;
  room : vec_len l.pairs + (l.to - l.number) ≤ vec_capacity l.pairs;
}
