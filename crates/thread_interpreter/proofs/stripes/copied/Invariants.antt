use Rattle.std.proofs.Common.{◌≡◌, ◌≤◌, take, vec_len, vec_capacity}
use Rattle.thread_interpreter.proofs.stripes.copied.Given as goal

abbrev pub invariant-loop-pair : goal.invariant-loop-pair
invariant-loop-pair l = record {
  items : l.into.items ≡ take l.pair-index l.taken;
  len : vec_len l.into ≡ l.pair-index;
  capacity : vec_capacity l.fn.into ≤ vec_capacity l.into;
}
