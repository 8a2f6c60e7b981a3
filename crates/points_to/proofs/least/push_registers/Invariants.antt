use Rattle.std.proofs.Common.{◌≡◌, ◌++◌, ℕ, [], drop, map}
use Rattle.flow_code.specs.declared.code.Function.{Function}
use Rattle.points_to.specs.Ascending.{row_at, widths}
use Rattle.points_to.proofs.least.push_registers.Given as goal

-- what is pushed and the rest make the whole
abbrev pub invariant-loop-function : goal.invariant-loop-function
invariant-loop-function l = record {
  wide : widths l.sets ++ map (λ (f : Function). f.registers) (drop l.function-index l.functions) ≡ widths l.fn.sets ++ map (λ (f : Function). f.registers) l.functions;
  empty : ((b n : ℕ) → row_at l.fn.sets b n ≡ []) → (b n : ℕ) → row_at l.sets b n ≡ [];
}
