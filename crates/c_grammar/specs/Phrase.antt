-- The phrases of which the parser's rules speak, and the tree that each gives.
use Rattle.std.specs.Prelude.{ℕ, Bool, List, Option}
use Rattle.c_lexer.specs.declared.token.Punct.{Punct}
use Rattle.c_tree.specs.declared.ctype.Specifier.{Specifier}
use Rattle.c_tree.specs.declared.ctype.CType.{CType}
use Rattle.c_tree.specs.declared.name.Name.{Name}
use Rattle.c_tree.specs.Tree.{Exp, Formal, Formals, Declared, Init, Object, Declares, Start, Statement, Part, Code, Fields, Outer}
use Rattle.rr_base.specs.declared.position.Position.{Position}

-- What is declared at file level, by its stars: a function, with its name, the name's place and the parenthesis after it;
-- an object, with its name and the place; or a pointer to a function, with the parenthesis before it.
pub data Head : Type 0 where
  function_head : ℕ → List ℕ → Position → Head
  object_head : ℕ → List ℕ → Position → Head
  pointer_head : ℕ → Head

-- What a declarator is of, by its stars: an object, with its name and the place, or a pointer to a function, with the
-- parenthesis before it.
pub data Front : Type 0 where
  object_front : ℕ → List ℕ → Position → Front
  pointer_front : ℕ → Front

-- initials, and whether a comma stands after the last
pub data Initials : Type 0 where
  initials : List Init → Bool → Initials

-- The first number is a level: that of the context, or for types that at which the tokens stand. What is a list, a tree or a number
-- after it was read before.
pub data Phrase : Type 0 where
  specifier : ℕ → Phrase
  stars : ℕ → ℕ → Phrase
  type_name : ℕ → Phrase
  expression : ℕ → Phrase
  -- assignments, each with a comma before it
  more : ℕ → List Exp → Phrase
  assignment : ℕ → Phrase
  conditional_part : ℕ → Phrase
  operands : ℕ → Phrase
  -- operators and operands after a left operand
  chain : ℕ → Exp → Phrase
  unary : ℕ → Phrase
  -- one that begins with no parenthesis
  unary_plain : ℕ → Phrase
  -- after a parenthesis at that place: a cast, or an expression and what follows it
  opened : ℕ → Position → Phrase
  enclosed : ℕ → Position → Phrase
  atom : ℕ → Phrase
  postfix : ℕ → Exp → Phrase
  -- with the parenthesis that closes them
  arguments : ℕ → Phrase
  -- an expression, or none before this token
  maybe_expression : ℕ → Punct → Phrase
  -- a pointer to a function after the parenthesis before it: its name and its parameters
  pointer : ℕ → Phrase
  declarator : ℕ → Phrase
  lengths : ℕ → List Exp → Phrase
  initial : ℕ → Phrase
  more_initials : ℕ → List Init → Phrase
  object : ℕ → Phrase
  object_past : ℕ → Declared → Phrase
  more_objects : ℕ → List Object → Phrase
  declaration : ℕ → Phrase
  start : ℕ → Phrase
  statement : ℕ → Phrase
  parts : ℕ → List Part → Phrase
  param : ℕ → Phrase
  param_after : ℕ → Specifier → Phrase
  more_params : ℕ → List Formal → Phrase
  params : ℕ → Phrase
  code : Phrase
  more_declared : List Declared → Phrase
  member : Phrase
  more_members : List Fields → Phrase
  outer : Phrase
  outer_after : Bool → Specifier → Position → Phrase
  program : List Outer → Phrase

-- the type of what is found when the phrase is read
abbrev pub TreeOf : Phrase → Type 0
TreeOf (specifier l) = Specifier
TreeOf (stars l n) = ℕ
TreeOf (type_name l) = CType
TreeOf (expression l) = Exp
TreeOf (more l es) = List Exp
TreeOf (assignment l) = Exp
TreeOf (conditional_part l) = Exp
TreeOf (operands l) = Exp
TreeOf (chain l e) = Exp
TreeOf (unary l) = Exp
TreeOf (unary_plain l) = Exp
TreeOf (opened l place) = Exp
TreeOf (enclosed l place) = Exp
TreeOf (atom l) = Exp
TreeOf (postfix l e) = Exp
TreeOf (arguments l) = List Exp
TreeOf (maybe_expression l stop) = Option Exp
TreeOf (pointer l) = Name × Formals
TreeOf (declarator l) = Declared
TreeOf (lengths l es) = List Exp
TreeOf (initial l) = Init
TreeOf (more_initials l is) = Initials
TreeOf (object l) = Object
TreeOf (object_past l d) = Object
TreeOf (more_objects l os) = List Object
TreeOf (declaration l) = Declares
TreeOf (start l) = Start
TreeOf (statement l) = Statement
TreeOf (parts l ps) = List Part
TreeOf (param l) = Formal
TreeOf (param_after l s) = Formal
TreeOf (more_params l xs) = List Formal
TreeOf (params l) = Formals
TreeOf code = Code
TreeOf (more_declared ds) = List Declared
TreeOf member = Fields
TreeOf (more_members fs) = List Fields
TreeOf outer = Outer
TreeOf (outer_after is_static s place) = Outer
TreeOf (program os) = List Outer
