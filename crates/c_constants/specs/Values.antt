-- The values of constant expressions at their place, with the sizes of what `sizeof` is applied to (C99 6.5.3.4, 6.6).
use Rattle.std.specs.Prelude.{ℕ, if◌then◌else◌}
use Rattle.c_tree.specs.Tree.{Exp, sizeof_exp, sizeof_type}
use Rattle.c_types.specs.Numbers.{Computed, is_zero}
use Rattle.c_types.specs.Constants.{and_then, value_of}
use Rattle.c_types.specs.Scopes.{Known, type_named, cells_of_type, cells_of_some}
use Rattle.c_types.specs.Operands.{Standing, no_type, zero_literal, null_literal, a_value, a_place}
use Rattle.c_types.specs.Standing.{no_target, standing}

-- how many cells what an expression is takes
abbrev pub cells_of_standing : Known → Standing → ℕ
cells_of_standing known no_type = 0
cells_of_standing known zero_literal = 1
cells_of_standing known null_literal = 1
cells_of_standing known (a_value t) = cells_of_type known t
cells_of_standing known (a_place t) = cells_of_type known t

-- what a `sizeof` gives, in cells
abbrev pub size_here : Known → Exp → ℕ
size_here known (sizeof_exp a at) = cells_of_standing known (standing known no_target a)
size_here known (sizeof_type t at) = cells_of_some known (type_named known t)
size_here known _ = 0

-- the value of a constant expression with the sizes known here
abbrev pub value_here : Known → Exp → Computed
value_here known e = value_of (size_here known) e

-- of the last two values the one that the first chooses
abbrev pub chosen_value : Computed → Computed → Computed → Computed
chosen_value a b c = and_then a (λ n. if is_zero n then c else b)
