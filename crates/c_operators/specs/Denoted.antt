-- What stands for an expression of a source, and the word that it gives where a number or a pointer is wanted (C99 6.3.2).
use Rattle.std.specs.Prelude.{ℕ, Bool, true, false, if◌then◌else◌, pos}
use Rattle.rr_base.specs.declared.position.Position.{Position}
use Rattle.c_types.specs.Operands.{Standing, no_type, zero_literal, null_literal, a_value, a_place, Operand, any_operand, whole, zero_operand, null_operand, pointing, function_operand, no_operand, operand_of, are_whole, are_functions}
use Rattle.c_types.specs.Types.{layered_is_array}
use Rattle.core_tree.specs.Core as core
use Rattle.c_operators.specs.declared.denoted.WordKind.{WordKind}
use Rattle.c_operators.specs.declared.denoted.WordKind.TheVariants as kind

-- the place in the type of the core tree
abbrev pub position_of : Position → Position
position_of at = record { line = at.line; column = at.column }

-- an expression before it is known whether its word, pointer or place is wanted
pub data Denoted : Type 0 where
  -- a local or formal that is a register
  denoted_register : ℕ → Position → Denoted
  -- an object in cells: the pointer to it, and where it is loaded
  denoted_cells : core.Exp → Position → Denoted
  -- the literal `0`, which is a null pointer where a pointer is wanted
  denoted_zero : Position → Denoted
  -- `NULL`, which is 0 where a pointer to functions is wanted
  denoted_null : Position → Denoted
  denoted_value : core.Exp → Denoted

-- an expression with what it is
pub record Part : Type 0 where
  pub standing : Standing
  pub denoted : Denoted

-- the type side and the value side of one expression
abbrev pub part_by : Standing → Denoted → Part
part_by s h = record { standing = s; denoted = h }

-- its type as operators judge it, after C99 6.3.2.1
abbrev pub operand_in : Part → Operand
operand_in p = operand_of p.standing

-- a pointer to a known type, so neither `NULL` nor a literal `0`
abbrev pub is_pointing : Operand → Bool
is_pointing (pointing t) = true
is_pointing any_operand = false
is_pointing whole = false
is_pointing zero_operand = false
is_pointing null_operand = false
is_pointing (function_operand k) = false
is_pointing no_operand = false

-- what the word of an object or a value is
abbrev pub kind_of : Operand → WordKind
kind_of (pointing t) = kind.Pointer
kind_of (function_operand k) = kind.Function
kind_of any_operand = kind.Number
kind_of whole = kind.Number
kind_of zero_operand = kind.Number
kind_of null_operand = kind.Number
kind_of no_operand = kind.Number

-- what two words are that are compared, or of which one is chosen
abbrev pub kind_of_both : Operand → Operand → WordKind
kind_of_both a b = if are_whole a b then kind.Number else if are_functions a b then kind.Function else kind.Pointer

-- such an object is not loaded but gives its address (C99 6.3.2.1)
abbrev pub is_array : Standing → Bool
is_array (a_place t) = layered_is_array t.layers
is_array no_type = false
is_array zero_literal = false
is_array null_literal = false
is_array (a_value t) = false

-- the word that it gives: an array gives the pointer to its first element, and any other object what it holds
abbrev pub value_by : Standing → Denoted → core.Exp
value_by s (denoted_register n at) = core.register n (is_pointing (operand_of s)) at
value_by s (denoted_cells e at) = if is_array s then e else core.load e (is_pointing (operand_of s)) at
value_by s (denoted_zero at) = core.number (pos 0) at
value_by s (denoted_null at) = core.null at
value_by s (denoted_value e) = e

-- where a pointer to an object is wanted: the literal `0` becomes null (C99 6.3.2.3)
abbrev pub pointer_by : Standing → Denoted → core.Exp
pointer_by s (denoted_register n at) = value_by s (denoted_register n at)
pointer_by s (denoted_cells e at) = value_by s (denoted_cells e at)
pointer_by s (denoted_zero at) = core.null at
pointer_by s (denoted_null at) = core.null at
pointer_by s (denoted_value e) = e

-- where a pointer to functions is wanted, which is a number: `NULL` becomes 0
abbrev pub function_by : Standing → Denoted → core.Exp
function_by s (denoted_register n at) = value_by s (denoted_register n at)
function_by s (denoted_cells e at) = value_by s (denoted_cells e at)
function_by s (denoted_zero at) = core.number (pos 0) at
function_by s (denoted_null at) = core.number (pos 0) at
function_by s (denoted_value e) = e

-- where no pointer is wanted
abbrev pub value_in : Part → core.Exp
value_in p = value_by p.standing p.denoted

-- the word where one of the kind is wanted
abbrev pub wanted_in : WordKind → Part → core.Exp
wanted_in kind.Number p = value_in p
wanted_in kind.Pointer p = pointer_by p.standing p.denoted
wanted_in kind.Function p = function_by p.standing p.denoted
