-- A map from accesses, by their functions and instructions, to loops.
use Rattle.std.specs.Prelude.{ℕ, Option, Some, None}
use Rattle.std.specs.BTreeMap as tree
use Rattle.std.specs.declared.cmp.Ordering.{Ordering}
use Rattle.std.specs.Ordering.{nat_cmp, ordering_then}
use Rattle.facts.specs.declared.pair.AccessAt.{AccessAt}

-- by function, and in a function by instruction
abbrev pub key_order : ℕ × ℕ → ℕ × ℕ → Ordering
key_order x y = ordering_then (nat_cmp x.0 y.0) (nat_cmp x.1 y.1)

-- the Mark of the loop that guards the access, if one does
abbrev pub loop_at : tree.BTreeMap (ℕ × ℕ) ℕ → AccessAt → Option ℕ
loop_at m a = tree.get key_order m (a.function, a.instr)

-- what was found first stays
abbrev pub first_of : Option ℕ → Option ℕ → Option ℕ
first_of (Some x) o = Some x
first_of None o = o
