-- Jumps of a function's instructions.
use Rattle.std.specs.Prelude.{ℕ, nat_lt, ◌&&◌, Bool, true, List}
use Rattle.std.specs.List.{list_all}
use Rattle.flow_code.specs.declared.act.Act.{Act}
use Rattle.flow_code.specs.declared.act.Act.TheVariants as act
use Rattle.flow_code.specs.declared.act.Instr.{Instr}

-- its targets are among the first n instructions
abbrev pub jumps_within : ℕ → Act → Bool
jumps_within n (act.Jump to) = nat_lt to n
jumps_within n (act.Branch on then_at else_at) = nat_lt then_at n && nat_lt else_at n
jumps_within n _ = true

-- no jump or branch leads outside of n instructions
abbrev pub all_jumps_within : ℕ → List Instr → Bool
all_jumps_within n is = list_all (λ i. jumps_within n i.act) is
