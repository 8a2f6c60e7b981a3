use Rattle.std.proofs.Common.{◌≡◌, ◌+◌, drop, length}
use Rattle.c_sites.specs.Functions.{registers_from}
use Rattle.c_sites.proofs.function_info.count_registers.Given as goal

-- what is counted and the rest make the whole
abbrev pub invariant-loop-by_type : goal.invariant-loop-by_type
invariant-loop-by_type l = record {
  count : l.count + registers_from l.marks.numbers l.next (drop l.by_type-index l.kept) ≡ registers_from l.fn.marks.numbers l.fn.next l.fn.kept;
  next : l.next + length (drop l.by_type-index l.kept) ≡ l.fn.next + length l.fn.kept;
}
