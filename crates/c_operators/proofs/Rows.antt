-- Worked rows of words where one of some kind is wanted.
use Rattle.std.proofs.Common.{◌≡◌, false, pos, Some, None, refl}
use Rattle.rr_base.specs.declared.position.Position.{Position}
use Rattle.rr_base.specs.Positions.{position_at}
use Rattle.word_semantics.specs.declared.operator.BinaryOp.TheVariants as flow
use Rattle.c_types.specs.declared.types.BaseType.TheVariants as base
use Rattle.c_types.specs.Types.{bare, int_type}
use Rattle.c_types.specs.Operands.{zero_literal, null_literal, a_value, a_place, whole, zero_operand, null_operand, pointing, function_operand}
use Rattle.core_tree.specs.Core as core
use Rattle.c_operators.specs.declared.denoted.WordKind.TheVariants as kind
use Rattle.c_operators.specs.Denoted.{denoted_register, denoted_zero, denoted_null, denoted_value, Part, part_by, kind_of_both, wanted_in}
use Rattle.c_operators.specs.Context.{function_word}
use Rattle.c_operators.specs.Operators.{operated_in, conditional_in}

abbrev at : Position
at = position_at 1 1

-- a local that points to functions, kept in the register 3, and the name of function 4
abbrev held : Part
held = part_by (a_place (bare (base.Function 0))) (denoted_register 3 at)

abbrev named : Part
named = part_by (a_value (bare (base.Function 0))) (denoted_value (core.number (pos 5) at))

abbrev nothing : Part
nothing = part_by null_literal (denoted_null at)

-- the pointer to a function is one more than its number, since 0 is null
pub words_of_functions : (function_word None ≡ 0) × (function_word (Some 0) ≡ 1) × (function_word (Some 4) ≡ 5)
words_of_functions = (refl, refl, refl)

pub kinds_of_both : (kind_of_both (function_operand 0) null_operand ≡ kind.Function) × (kind_of_both zero_operand (function_operand 0) ≡ kind.Function) ×
    (kind_of_both (function_operand 0) (function_operand 0) ≡ kind.Function) × (kind_of_both whole zero_operand ≡ kind.Number) ×
    (kind_of_both (pointing int_type) null_operand ≡ kind.Pointer) × (kind_of_both null_operand null_operand ≡ kind.Pointer)
kinds_of_both = (refl, refl, refl, refl, refl, refl)

-- `NULL` is a null pointer, or 0 where a pointer to functions is wanted; so is the literal `0`
pub nulls_are : (wanted_in kind.Pointer nothing ≡ core.null at) × (wanted_in kind.Function nothing ≡ core.number (pos 0) at) ×
    (wanted_in kind.Pointer (part_by zero_literal (denoted_zero at)) ≡ core.null at) × (wanted_in kind.Function (part_by zero_literal (denoted_zero at)) ≡ core.number (pos 0) at)
nulls_are = (refl, refl, refl, refl)

-- `p == NULL` and `p == f` compare numbers
pub pointers_are_compared : (operated_in flow.Equal held nothing at ≡ core.binary flow.Equal (core.register 3 false at) (core.number (pos 0) at) at) ×
    (operated_in flow.Equal held named at ≡ core.binary flow.Equal (core.register 3 false at) (core.number (pos 5) at) at)
pointers_are_compared = (refl, refl)

-- `p ? f : NULL`
pub pointers_are_chosen : conditional_in held named nothing at ≡ core.conditional (core.register 3 false at) (core.number (pos 5) at) (core.number (pos 0) at) at
pointers_are_chosen = refl
