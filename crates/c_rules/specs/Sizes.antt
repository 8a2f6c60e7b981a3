-- Constant expressions at their place: which are refused (C99 6.6, 6.7.5.2).
use Rattle.std.specs.Prelude.{ℕ, nat_lt, Bool, true, false, not, ◌&&◌, ◌||◌, if◌then◌else◌, ℤ, pos, negsuc, List, ◌++◌, Option, Some, None, is_none, Ok, Err}
use Rattle.c_types.specs.declared.fault.Found.{Found}
use Rattle.c_types.specs.declared.fault.FaultKind.TheVariants as fault
use Rattle.c_tree.specs.Tree.{Exp}
use Rattle.rr_base.specs.declared.position.Position.{Position}
use Rattle.c_types.specs.Numbers.{Computed}
use Rattle.c_types.specs.Constants.{is_constant}
use Rattle.c_types.specs.Scopes.{Known}
use Rattle.c_types.specs.Found.{first_among, where_it_comes}
use Rattle.c_constants.specs.Values.{value_here}
use Rattle.c_rules.specs.Faults.{first_place, mismatch, expression_faults}

-- computing it overflows, divides by zero or shifts too far
abbrev pub is_trap : Computed → Bool
is_trap (Ok n) = false
is_trap (Err t) = true

-- it breaks no rule
abbrev pub is_sound : Known → Exp → Bool
is_sound known e = is_none (first_among None (expression_faults known e))

-- it has no form of a constant, or its computing traps
abbrev pub constant_faults : Known → Exp → List Found
constant_faults known e = where_it_comes (not (is_constant e) || (is_sound known e && is_trap (value_here known e))) fault.NotConstant (first_place e)

-- ---- the length of an array

-- C has no arrays without elements (C99 6.7.5.2)
abbrev pub is_positive : ℤ → Bool
is_positive (pos n) = nat_lt 0 n
is_positive (negsuc n) = false

-- a value has been computed, which is below 1
abbrev pub is_short : Computed → Bool
is_short (Ok n) = not (is_positive n)
is_short (Err t) = false

-- a sound constant, but no length that an array can have
abbrev pub is_short_length : Known → Exp → Bool
is_short_length known e = is_constant e && is_sound known e && is_short (value_here known e)

-- a length below 1 is refused at the declared name
abbrev pub length_faults : Known → Position → Exp → List Found
length_faults known at e = expression_faults known e ++ constant_faults known e ++ mismatch (is_short_length known e) at

-- the same number, as one that can count elements
abbrev pub positive : ℤ → Option ℕ
positive (pos n) = if nat_lt 0 n then Some n else None
positive (negsuc n) = None

-- none of a trap, which has its own fault
abbrev pub positive_value : Computed → Option ℕ
positive_value (Ok n) = positive n
positive_value (Err t) = None

-- the number of elements, where nothing is wrong with it
abbrev pub length_of : Known → Exp → Option ℕ
length_of known e = if is_constant e && is_sound known e then positive_value (value_here known e) else None
