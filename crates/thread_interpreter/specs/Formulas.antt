-- Which accesses a formula asks for.
use Rattle.std.specs.Prelude.{ℕ, ◌==◌, nat_le, ◌&&◌, Bool, true, false, if◌then◌else◌, ℤ, pos, negsuc, Option, Some, None}
use Rattle.word_semantics.specs.Values.{number}
use Rattle.thread_interpreter.specs.declared.access.Access.{Access}
use Rattle.thread_interpreter.specs.declared.access.Formula.{Formula}

-- equal whole numbers, with their signs
abbrev pub same_number : ℤ → ℤ → Bool
same_number (pos a) (pos b) = a == b
same_number (negsuc a) (negsuc b) = a == b
same_number _ _ = false

-- a formula that names no thread asks for all
abbrev pub is_of_thread : Option ℕ → ℕ → Bool
is_of_thread None t = true
is_of_thread (Some u) t = u == t

-- a formula without a value asks for all; words are read with signs
abbrev pub has_value : Option ℤ → ℕ → Bool
has_value None w = true
has_value (Some z) w = same_number z (number w)

-- the access is of the kind, the thread, the cells and the value that the formula asks for
abbrev pub meets : Formula → Access → Bool
meets f a = (if a.store then f.stores else f.loads) && is_of_thread f.thread a.thread && nat_le f.low a.cell && nat_le a.cell f.high && has_value f.value a.value
