-- The order of a valid function's instructions: it ends in itself, its jumps back go to Marks, and its objects are made first.
use Rattle.std.specs.Prelude.{ℕ, ◌+◌, ◌-◌, nat_lt, ◌&&◌, ◌||◌, Bool, true, false, if◌then◌else◌, List, [], ◌∷◌, length, Option, Some, is_none, slice_get}
use Rattle.std.specs.List.{list_all}
use Rattle.flow_code.specs.declared.act.Act.{Act}
use Rattle.flow_code.specs.declared.act.Act.TheVariants as act
use Rattle.flow_code.specs.declared.act.Instr.{Instr}
use Rattle.flow_code.specs.Threads.{object_of}
use Rattle.flow_code.specs.Next.{act_in}

-- the instruction doesn't go on to the next one
abbrev pub is_end : Option Act → Bool
is_end (Some (act.Jump to)) = true
is_end (Some (act.Branch on then_at else_at)) = true
is_end (Some (act.Return value)) = true
is_end _ = false

-- no function runs on past its last instruction
abbrev pub ends_in_itself : List Instr → Bool
ends_in_itself is = is_end (act_in (slice_get is (length is - 1)))

-- a Mark counts as an event, so no loop runs for ever quietly
abbrev pub is_mark : Option Act → Bool
is_mark (Some act.Mark) = true
is_mark _ = false

-- a jump to its own or an earlier instruction goes to a Mark
abbrev pub jump_fits : List Instr → ℕ → ℕ → Bool
jump_fits is at to = nat_lt at to || is_mark (act_in (slice_get is to))

-- both ways of a branch obey the rule for jumps back
abbrev pub jumps_fit_at : List Instr → ℕ → Act → Bool
jumps_fit_at is at (act.Jump to) = jump_fits is at to
jumps_fit_at is at (act.Branch on then_at else_at) = jump_fits is at then_at && jump_fits is at else_at
jumps_fit_at is at _ = true

-- those of the last instructions, the first of which stands at this place
abbrev pub jumps_fit : List Instr → ℕ → List Instr → Bool
jumps_fit is at [] = true
jumps_fit is at (i ∷ rest) = jumps_fit_at is at i.act && jumps_fit is (at + 1) rest

-- the instruction makes no object of the function's entry
abbrev pub makes_no_object : Instr → Bool
makes_no_object i = is_none (object_of i.act)

-- for the instructions behind those that make the function's own objects
abbrev pub make_no_objects : List Instr → Bool
make_no_objects is = list_all makes_no_object is

-- once an instruction makes none, no later one does
abbrev pub objects_are_first : List Instr → Bool
objects_are_first [] = true
objects_are_first (i ∷ is) = if makes_no_object i then make_no_objects is else objects_are_first is

-- so runs stay in the function, quiet steps end, and objects are made first
abbrev pub order_fits : List Instr → Bool
order_fits is = ends_in_itself is && jumps_fit is 0 is && objects_are_first is
