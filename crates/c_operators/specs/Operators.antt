-- What C's operators make of their operands (C99 6.5). An operator is judged by what its operands are; which cases there
-- are is decided by the types.
use Rattle.std.specs.Prelude.{ℕ, Bool, true, false, ◌&&◌, if◌then◌else◌, pos}
use Rattle.word_semantics.specs.declared.operator.BinaryOp.{BinaryOp as FlowOp}
use Rattle.word_semantics.specs.declared.operator.BinaryOp.TheVariants as flow
use Rattle.c_tree.specs.declared.expr.BinaryOp.{BinaryOp}
use Rattle.c_tree.specs.declared.expr.BinaryOp.TheVariants as op
use Rattle.c_tree.specs.declared.expr.PrefixOp.{PrefixOp}
use Rattle.c_tree.specs.declared.expr.PrefixOp.TheVariants as prefix_op
use Rattle.c_tree.specs.declared.expr.AssignOp.{AssignOp}
use Rattle.c_tree.specs.declared.expr.AssignOp.TheVariants as assign_op
use Rattle.c_types.specs.Operands.{Operand, pointing, null_operand, is_whole, are_whole}
use Rattle.rr_base.specs.declared.position.Position.{Position}
use Rattle.core_tree.specs.declared.value.UnaryOp.TheVariants as unary
use Rattle.core_tree.specs.declared.value.Change.{Change}
use Rattle.core_tree.specs.declared.value.Change.TheVariants as change
use Rattle.core_tree.specs.Core as core
use Rattle.c_operators.specs.declared.denoted.WordKind.TheVariants as kind
use Rattle.c_operators.specs.Denoted.{Denoted, denoted_register, denoted_cells, denoted_zero, denoted_null, denoted_value, Part, operand_in, is_pointing, kind_of, kind_of_both, value_in, wanted_in}
use Rattle.c_operators.specs.Context.{Source, element_of}

-- an operator on two words; `&&` and `||` are none of these
abbrev pub flow_operator : BinaryOp → FlowOp
flow_operator op.LogicalOr = flow.Or
flow_operator op.LogicalAnd = flow.And
flow_operator op.Or = flow.Or
flow_operator op.Xor = flow.Xor
flow_operator op.And = flow.And
flow_operator op.Equal = flow.Equal
flow_operator op.NotEqual = flow.NotEqual
flow_operator op.Less = flow.Less
flow_operator op.Greater = flow.Greater
flow_operator op.LessEqual = flow.LessEqual
flow_operator op.GreaterEqual = flow.GreaterEqual
flow_operator op.ShiftLeft = flow.ShiftLeft
flow_operator op.ShiftRight = flow.ShiftRight
flow_operator op.Add = flow.Add
flow_operator op.Subtract = flow.Subtract
flow_operator op.Multiply = flow.Multiply
flow_operator op.Divide = flow.Divide
flow_operator op.Remainder = flow.Remainder

-- the operator of a compound assignment; `=` has none
abbrev pub changing_operator : AssignOp → FlowOp
changing_operator assign_op.Assign = flow.Add
changing_operator assign_op.Add = flow.Add
changing_operator assign_op.Subtract = flow.Subtract
changing_operator assign_op.Multiply = flow.Multiply
changing_operator assign_op.Divide = flow.Divide
changing_operator assign_op.Remainder = flow.Remainder
changing_operator assign_op.And = flow.And
changing_operator assign_op.Or = flow.Or
changing_operator assign_op.Xor = flow.Xor
changing_operator assign_op.ShiftLeft = flow.ShiftLeft
changing_operator assign_op.ShiftRight = flow.ShiftRight

-- ---- operators with two operands

-- a pointer moves by elements, whichever side it stands on
abbrev pub sum_in : Source → Part → Part → Position → core.Exp
sum_in s a b at =
    if is_pointing (operand_in a) then core.move (value_in a) (value_in b) (element_of s (operand_in a)) false at
    else if is_pointing (operand_in b) then core.advance (value_in a) (value_in b) (element_of s (operand_in b)) at
    else core.binary flow.Add (value_in a) (value_in b) at

-- the element of the one that points
abbrev pub element_of_either : Source → Operand → Operand → ℕ
element_of_either s a b = if is_pointing a then element_of s a else element_of s b

-- a pointer less a number, two numbers, or the distance of two pointers
abbrev pub difference_in : Source → Part → Part → Position → core.Exp
difference_in s a b at =
    if is_pointing (operand_in a) && is_whole (operand_in b) then core.move (value_in a) (value_in b) (element_of s (operand_in a)) true at
    else if are_whole (operand_in a) (operand_in b) then core.binary flow.Subtract (value_in a) (value_in b) at
    else core.between (wanted_in kind.Pointer a) (wanted_in kind.Pointer b) (element_of_either s (operand_in a) (operand_in b)) at

-- two numbers, or two pointers that are compared, to objects or to functions
abbrev pub operated_in : FlowOp → Part → Part → Position → core.Exp
operated_in o a b at =
    core.binary o (wanted_in (kind_of_both (operand_in a) (operand_in b)) a) (wanted_in (kind_of_both (operand_in a) (operand_in b)) b) at

-- each operator between two operands, C99 6.5.5 to 6.5.14
abbrev pub binary_in : Source → BinaryOp → Part → Part → Position → core.Exp
binary_in s op.LogicalOr a b at = core.either (value_in a) (value_in b) at
binary_in s op.LogicalAnd a b at = core.both (value_in a) (value_in b) at
binary_in s op.Add a b at = sum_in s a b at
binary_in s op.Subtract a b at = difference_in s a b at
binary_in s o a b at = operated_in (flow_operator o) a b at

-- `a ? b : c`, whose results both are numbers, or both are pointers to objects or to functions
abbrev pub conditional_in : Part → Part → Part → Position → core.Exp
conditional_in a b c at =
    core.conditional (value_in a) (wanted_in (kind_of_both (operand_in b) (operand_in c)) b) (wanted_in (kind_of_both (operand_in b) (operand_in c)) c) at

-- an element of an array: the place is the moved pointer
abbrev pub index_in : Source → Part → Part → Position → Denoted
index_in s a b at = denoted_cells (sum_in s a b at) at

-- ---- changes

-- a pointer changes by elements, a number by the operator
abbrev pub change_of : Source → Operand → FlowOp → Change
change_of s a o = if is_pointing a then change.Move (element_of s a) (goes_back o) else change.Compute o
  where
    goes_back : FlowOp → Bool
    goes_back flow.Subtract = true
    goes_back _ = false

-- the object changes by the operand; the expression gives what it held before or holds then
abbrev pub changed_by : Change → Denoted → core.Exp → Bool → Position → core.Exp
changed_by c (denoted_register n loaded) by old at = core.change_register n c by old at
changed_by c (denoted_cells e loaded) by old at = core.change_cell e loaded c by old at
changed_by c (denoted_zero loaded) by old at = by
changed_by c (denoted_null loaded) by old at = by
changed_by c (denoted_value e) by old at = by

-- for `++`, `--` and compound assignments: the left side is evaluated once
abbrev pub changed_in : Source → FlowOp → Part → core.Exp → Bool → Position → core.Exp
changed_in s o a by old at = changed_by (change_of s (operand_in a) o) a.denoted by old at

-- `++` and `--`
abbrev pub stepped_in : Source → FlowOp → Part → Bool → Position → core.Exp
stepped_in s o a old at = changed_in s o a (core.number (pos 1) at) old at

-- the object gets the word
abbrev pub stored_in : Denoted → core.Exp → Position → core.Exp
stored_in (denoted_register n loaded) e at = core.set_register n e at
stored_in (denoted_cells to loaded) e at = core.store to e at
stored_in (denoted_zero loaded) e at = e
stored_in (denoted_null loaded) e at = e
stored_in (denoted_value v) e at = e

-- `=` stores the right side, and all others change the left side by it
abbrev pub assigned_in : Source → AssignOp → Part → Part → Position → core.Exp
assigned_in s assign_op.Assign a b at = stored_in a.denoted (wanted_in (kind_of (operand_in a)) b) at
assigned_in s o a b at = changed_in s (changing_operator o) a (value_in b) false at

-- ---- operators with one operand

-- the pointer to an object in cells
abbrev pub address_in : Denoted → Denoted
address_in (denoted_cells e loaded) = denoted_value e
address_in (denoted_register n at) = denoted_zero at
address_in (denoted_zero at) = denoted_zero at
address_in (denoted_null at) = denoted_zero at
address_in (denoted_value e) = denoted_value e

-- the unary operators of C99 6.5.3, with `++` and `--` before their operand
abbrev pub prefix_in : Source → PrefixOp → Part → Position → Denoted
prefix_in s prefix_op.Address a at = address_in a.denoted
prefix_in s prefix_op.Indirect a at = denoted_cells (value_in a) at
prefix_in s prefix_op.Plus a at = denoted_value (core.copy (value_in a) at)
prefix_in s prefix_op.Minus a at = denoted_value (core.unary unary.Minus (value_in a) at)
prefix_in s prefix_op.Not a at = denoted_value (core.unary unary.Not (value_in a) at)
prefix_in s prefix_op.Complement a at = denoted_value (core.unary unary.Complement (value_in a) at)
prefix_in s prefix_op.Increment a at = denoted_value (stepped_in s flow.Add a false at)
prefix_in s prefix_op.Decrement a at = denoted_value (stepped_in s flow.Subtract a false at)

-- a pointer or `NULL`, but not the literal `0`
abbrev pub is_some_address : Operand → Bool
is_some_address (pointing t) = true
is_some_address null_operand = true
is_some_address _ = false

-- a cast between numbers and pointers; one that changes no kind copies the word
abbrev pub cast_in : Bool → Part → Position → core.Exp
cast_in to_pointer a at =
    if to_pointer
    then (if is_some_address (operand_in a) then core.copy (value_in a) at else core.to_pointer (value_in a) at)
    else (if is_some_address (operand_in a) then core.to_number (value_in a) at else core.copy (value_in a) at)

-- ---- members

-- the struct stands in cells, or a pointer to it is given
abbrev pub member_in : Denoted → ℕ → Position → Denoted
member_in (denoted_cells e loaded) by at = denoted_cells (core.member e by at) at
member_in (denoted_register n loaded) by at = denoted_zero at
member_in (denoted_zero loaded) by at = denoted_zero at
member_in (denoted_null loaded) by at = denoted_zero at
member_in (denoted_value e) by at = denoted_value e

-- the member so many cells into the struct to which the operand points
abbrev pub arrow_in : Part → ℕ → Position → Denoted
arrow_in a by at = denoted_cells (core.member (value_in a) by at) at
