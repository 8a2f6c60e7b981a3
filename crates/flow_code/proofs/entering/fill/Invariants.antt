use Rattle.std.proofs.Common.{◌≡◌, ◌≤◌, vec_len, vec_capacity}
use Rattle.flow_code.specs.Threads.{with_arguments}
use Rattle.word_semantics.specs.Registers.{words_of}
use Rattle.flow_code.proofs.entering.fill.Given as goal

abbrev pub invariant-loop-k : goal.invariant-loop-k
invariant-loop-k l = record {
  items : l.into.items ≡ with_arguments l.k (words_of l.registers l.arguments);
  len : vec_len l.into ≡ l.k;
  room : l.count ≤ vec_capacity l.into;
}
