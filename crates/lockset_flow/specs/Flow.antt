-- What a function must be for its locks to be found, and the sizes of paths.
use Rattle.std.specs.Prelude.{◌≡◌, ℕ, ◌<◌, Bool, true, List, length, Some, slice_get}
use Rattle.std.specs.List.{list_all, Contains}
use Rattle.flow_code.specs.declared.act.Instr.{Instr}
use Rattle.flow_code.specs.declared.code.Function.{Function}
use Rattle.facts.specs.declared.locks.RelLocks.{RelLocks}
use Rattle.facts.specs.Locks.{successors, locks_are_sized, Points}

-- control stays in the function, as it does in each of a valid code
abbrev pub FlowsWithin : Function → Type 0
FlowsWithin f = (k to : ℕ) (i : Instr) → slice_get f.instrs k ≡ Some i → Contains (successors k i.act) to → to < length f.instrs

-- of the exits of all functions
abbrev pub all_sized : List RelLocks → Bool
all_sized exits = list_all locks_are_sized exits

-- the paths at all points are such as functions name
pub record AreSized (x : Points) : Type 0 where
  pub before : all_sized x.before ≡ true
  pub exit : locks_are_sized x.exit ≡ true
