-- What an expression's operands say of its value, where it is a constant one (C99 6.6).
use Rattle.std.specs.Prelude.{false, ◌&&◌, pos, Ok}
use Rattle.c_tree.specs.declared.ctype.CType.{CType}
use Rattle.c_tree.specs.declared.expr.BinaryOp.{BinaryOp}
use Rattle.c_tree.specs.declared.expr.PrefixOp.{PrefixOp}
use Rattle.c_tree.specs.Tree.{Exp}
use Rattle.c_types.specs.Numbers.{prefixed}
use Rattle.c_types.specs.Constants.{is_constant, is_int, is_of_numbers, and_then, binary_value}
use Rattle.c_types.specs.Scopes.{Known}
use Rattle.c_constants.specs.Values.{chosen_value, value_here}
use Rattle.c_operators.specs.declared.constant.Constant.{Constant}

-- whether an expression has the form of a constant one, and the value that counts where it has
abbrev pub constant_of : Known → Exp → Constant
constant_of known e = record { is_formed = is_constant e; value = value_here known e }

-- of an expression that C99 6.6 doesn't allow as a constant
abbrev pub no_constant : Constant
no_constant = record { is_formed = false; value = Ok (pos 0) }

-- of `a ? b : c`, which needs the form in all three
abbrev pub choice_constant : Constant → Constant → Constant → Constant
choice_constant a b c = record { is_formed = a.is_formed && b.is_formed && c.is_formed; value = chosen_value a.value b.value c.value }

-- of an operator with two operands, both of which need the form
abbrev pub operation_constant : BinaryOp → Constant → Constant → Constant
operation_constant o a b = record { is_formed = a.is_formed && b.is_formed; value = binary_value o a.value b.value }

-- `&`, `*`, `++` and `--` make no constants
abbrev pub prefix_constant : PrefixOp → Constant → Constant
prefix_constant o a = record { is_formed = is_of_numbers o && a.is_formed; value = and_then a.value (prefixed o) }

-- only a cast to a number, such as `int` or `long`, keeps a constant
abbrev pub cast_constant : CType → Constant → Constant
cast_constant t a = record { is_formed = is_int t && a.is_formed; value = a.value }
