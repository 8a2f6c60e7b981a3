-- The core tree of a constant expression as it is written, in which nothing is folded.
use Rattle.std.specs.Prelude.{◌≡◌, Bool, true, ◌&&◌, pos, Some, None}
use Rattle.rr_base.specs.Texts.{Text}
use Rattle.c_tree.specs.Tree.{Exp, conditional, binary, prefix, cast, number, letter, paren}
use Rattle.c_types.specs.Numbers.{fits}
use Rattle.c_types.specs.Constants.{constant_named}
use Rattle.c_types.specs.Scopes.{Known, Meaning, seen, type_named}
use Rattle.c_types.specs.Standing.{Target, no_target, cast_target, standing}
use Rattle.core_tree.specs.Core as core
use Rattle.c_operators.specs.Denoted.{position_of, Denoted, denoted_value, part_by, value_by}
use Rattle.c_operators.specs.Context.{Context}
use Rattle.c_operators.specs.Operators.{binary_in, conditional_in, prefix_in, cast_in}
use Rattle.c_values.specs.Expressions.{is_pointer_type, denoted}

-- each operator stays; what has none is a number
abbrev pub written : Context → Target → Exp → Denoted
written h w (conditional a b c at) =
    denoted_value (conditional_in (part_by (standing h.known no_target a) (written h no_target a)) (part_by (standing h.known no_target b) (written h no_target b)) (part_by (standing h.known no_target c) (written h no_target c)) (position_of at))
written h w (binary a op b at) =
    denoted_value (binary_in h.source op (part_by (standing h.known no_target a) (written h no_target a)) (part_by (standing h.known no_target b) (written h no_target b)) (position_of at))
written h w (prefix op a at) = prefix_in h.source op (part_by (standing h.known no_target a) (written h no_target a)) (position_of at)
written h w (cast t a at) =
    denoted_value (cast_in (is_pointer_type (type_named h.known t)) (part_by (standing h.known (cast_target (type_named h.known t) t.stars) a) (written h (cast_target (type_named h.known t) t.stars) a)) (position_of at))
written h w (paren a at) = written h w a
written h w e = denoted h w e

-- of a whole constant expression, for its value (C99 6.6)
abbrev pub written_of : Context → Exp → core.Exp
written_of h e = value_by (standing h.known no_target e) (written h no_target e)

-- no declared name is one of the library's constants: a source that declares one has a fault
abbrev pub HidesNoConstant : Known → Type 0
HidesNoConstant known = (name : Text) (m : Meaning) → seen known name ≡ Some m → constant_named name ≡ None

-- each number that is written fits 64 bits: a text with another has a fault
abbrev pub literals_fit : Exp → Bool
literals_fit (conditional a b c at) = literals_fit a && literals_fit b && literals_fit c
literals_fit (binary a op b at) = literals_fit a && literals_fit b
literals_fit (prefix op a at) = literals_fit a
literals_fit (cast t a at) = literals_fit a
literals_fit (paren a at) = literals_fit a
literals_fit (number n at) = fits n
literals_fit (letter n at) = fits (pos n)
literals_fit _ = true
