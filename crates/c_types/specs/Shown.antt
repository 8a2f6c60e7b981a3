-- How types and operands that borrow from declarations show.
use Rattle.std.specs.Prelude.{List, [], ◌∷◌, ◌++◌, replicate, Option, Some, None}
use Rattle.c_types.specs.declared.types.BaseType.{BaseType}
use Rattle.c_types.specs.declared.types.Layer.{Layer}
use Rattle.c_types.specs.declared.types.Layer.TheVariants as layer
use Rattle.c_types.specs.declared.types.ObjectType.{ObjectType}
use Rattle.c_types.specs.declared.type_ref.TypeRef.{TypeRef}
use Rattle.c_types.specs.declared.operand.Standing.{Standing as RustStanding}
use Rattle.c_types.specs.declared.operand.Standing.TheVariants as standing
use Rattle.c_types.specs.declared.operand.Operand.{Operand as RustOperand}
use Rattle.c_types.specs.declared.operand.Operand.TheVariants as operand
use Rattle.c_types.specs.declared.names.Meaning.{Meaning as RustMeaning}
use Rattle.c_types.specs.declared.names.Meaning.TheVariants as meaning
use Rattle.c_types.specs.Scopes.{Meaning, variable, function_of}
use Rattle.c_types.specs.declared.standing.Target.{Target as RustTarget}
use Rattle.c_types.specs.declared.standing.Target.TheVariants as target
use Rattle.c_types.specs.declared.library.Wanted.{Wanted}
use Rattle.c_types.specs.declared.wants.Wants.{Wants}
use Rattle.c_types.specs.Library.{an_int}
use Rattle.c_types.specs.Standing.{Target, no_target, some_target, target_of}
use Rattle.c_types.specs.Types.{bare, int_type, pointer_to}
use Rattle.c_types.specs.Operands.{Standing, no_type, zero_literal, null_literal, a_value, a_place, Operand, any_operand, whole, zero_operand, null_operand, pointing, function_operand, no_operand}

-- so many pointers round the layers
abbrev pub shown_type : TypeRef → ObjectType
shown_type t = record { layers = replicate t.stars layer.Pointer ++ t.layers.now; base = t.base }

-- what the program's form of a standing means
abbrev pub shown_standing : RustStanding → Standing
shown_standing standing.NoType = no_type
shown_standing standing.Zero = zero_literal
shown_standing standing.Null = null_literal
shown_standing standing.Whole = a_value int_type
shown_standing (standing.Pointer t) = a_value (pointer_to (shown_type t))
shown_standing (standing.Bare b) = a_value (bare b)
shown_standing (standing.Place t) = a_place (shown_type t)

-- what the program's form of an operand means
abbrev pub shown_operand : RustOperand → Operand
shown_operand operand.Any = any_operand
shown_operand operand.Whole = whole
shown_operand operand.Zero = zero_operand
shown_operand operand.Null = null_operand
shown_operand (operand.Pointing t) = pointing (shown_type t)
shown_operand (operand.Function k) = function_operand k
shown_operand operand.Unfit = no_operand

-- a type that isn't known shows as none too
abbrev pub shown_maybe : Option TypeRef → Option ObjectType
shown_maybe None = None
shown_maybe (Some t) = Some (shown_type t)

-- what a look-up of a member gives: whether there is one, then its type
abbrev pub shown_member : Option (Option TypeRef) → Option (Option ObjectType)
shown_member None = None
shown_member (Some m) = Some (shown_maybe m)

-- what a look-up of an ordinary name gives
abbrev pub shown_meaning : Option RustMeaning → Option Meaning
shown_meaning None = None
shown_meaning (Some (meaning.Variable t)) = Some (variable (shown_maybe t))
shown_meaning (Some (meaning.Function f)) = Some (function_of f.now)

-- the outermost layer, and what it is laid round
abbrev pub Peeled : Type 0
Peeled = Option (Layer × ObjectType)

-- none of a type without layers
abbrev pub peeled : ObjectType → Peeled
peeled t = peeled_by t.layers t.base
  where
    peeled_by : List Layer → BaseType → Peeled
    peeled_by [] b = None
    peeled_by (l ∷ ls) b = Some (l, record { layers = ls; base = b })

-- the same of a type that borrows from its declaration
abbrev pub shown_peeled : Option (Layer × TypeRef) → Peeled
shown_peeled None = None
shown_peeled (Some p) = Some (p.0, shown_type p.1)

-- what the program's form of a `malloc` target means
abbrev pub shown_target : RustTarget → Target
shown_target target.No = no_target
shown_target target.Some = some_target
shown_target (target.Of t) = target_of (shown_type t)

-- the arguments that are listed, and so many numbers
abbrev pub shown_wants : Wants → List Wanted
shown_wants w = w.listed.now ++ replicate w.numbers an_int
