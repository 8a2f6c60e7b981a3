-- Loops that are left and gone back to as those of a source are.
use Rattle.std.specs.Prelude.{ℕ, ◌+◌, ◌==◌, nat_lt, nat_le, ◌&&◌, ◌||◌, Bool, true, not, if◌then◌else◌, List, [], ◌∷◌}
use Rattle.std.specs.List.{list_all}
use Rattle.flow_code.specs.declared.act.Act.{Act}
use Rattle.flow_code.specs.declared.act.Act.TheVariants as act
use Rattle.flow_code.specs.declared.act.Instr.{Instr}
use Rattle.flow_code.specs.declared.code.Code.{Code}
use Rattle.flow_code.specs.declared.code.LoopInfo.{LoopInfo}

-- one of the instructions from the a-th to the b-th
abbrev pub is_inside : (a b k : ℕ) → Bool
is_inside a b k = nat_le a k && nat_le k b

-- A jump of one of the instructions from a to b goes to one of them or to the first after them. A later instruction doesn't
-- jump back to the first of them.
abbrev pub jump_keeps : (a b k to : ℕ) → Bool
jump_keeps a b k to = if is_inside a b k then is_inside a b to || (to == b + 1) else (nat_lt k a || not (to == a))

-- all its jumps keep to that; an action without jumps does anyway
abbrev pub act_keeps : (a b k : ℕ) → Act → Bool
act_keeps a b k (act.Jump to) = jump_keeps a b k to
act_keeps a b k (act.Branch on then_at else_at) = jump_keeps a b k then_at && jump_keeps a b k else_at
act_keeps a b k _ = true

-- those of the last instructions, the first of which is the k-th
abbrev pub instrs_keep : (a b k : ℕ) → List Instr → Bool
instrs_keep a b k [] = true
instrs_keep a b k (i ∷ is) = act_keeps a b k i.act && instrs_keep a b (k + 1) is

-- a loop stands from its Mark to its jump back
abbrev pub loop_is_closed : List Instr → LoopInfo → Bool
loop_is_closed is l = instrs_keep l.at (l.last + 1) 0 is

-- so each loop is left to where it ends, and only from inside one goes back to its Mark
abbrev pub loops_are_closed : Code → Bool
loops_are_closed code = list_all (λ fn. list_all (loop_is_closed fn.instrs) fn.loops) code.functions
