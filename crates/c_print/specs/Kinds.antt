-- The kinds of the tokens that a tree stands for.
use Rattle.std.specs.Prelude.{ℕ, zero, suc, Bool, true, false, List, [], ◌∷◌, ◌++◌, Option, Some, None}
use Rattle.c_lexer.specs.declared.token.Kind.{Kind}
use Rattle.c_lexer.specs.declared.token.Kind.TheVariants as kind
use Rattle.c_lexer.specs.declared.token.Punct.{Punct}
use Rattle.c_lexer.specs.declared.token.Punct.TheVariants as punct
use Rattle.c_lexer.specs.declared.token.Word.{Word}
use Rattle.c_lexer.specs.declared.token.Word.TheVariants as word
use Rattle.c_tree.specs.declared.name.Name.{Name}
use Rattle.c_tree.specs.declared.ctype.Specifier.{Specifier}
use Rattle.c_tree.specs.declared.ctype.Specifier.TheVariants as specifier
use Rattle.c_tree.specs.declared.ctype.CType.{CType}
use Rattle.c_tree.specs.declared.expr.PrefixOp.{PrefixOp}
use Rattle.c_tree.specs.declared.expr.PrefixOp.TheVariants as prefix_op
use Rattle.c_tree.specs.declared.expr.BinaryOp.{BinaryOp}
use Rattle.c_tree.specs.declared.expr.BinaryOp.TheVariants as binary_op
use Rattle.c_tree.specs.declared.expr.AssignOp.{AssignOp}
use Rattle.c_tree.specs.declared.expr.AssignOp.TheVariants as assign_op
use Rattle.c_tree.specs.Tree.{Exp, comma, assign, conditional, binary, prefix, sizeof_exp, sizeof_type, cast, index, member, arrow, post_increment, post_decrement, named, call, number, letter, text, null, paren, Exps, no_exp, and_exp, Formal, formal, formal_pointer, Formals, no_formals, void_formals, listed_formals, FormalRow, no_formal, and_formal, Declared, declared, declared_pointer, Init, value, braces, mutex_start, cond_start, rwlock_start, Inits, no_init, and_init, Object, plain, initialised, Declares, declares, Start, start_declares, start_computes, Statement, block, compute, break_at, continue_at, gives, branch, branch_else, while_loop, do_loop, for_loop, Parts, no_part, and_declares, and_does, Code, defined, prototype, Fields, fields, Outer, structure, function, objects}

-- the sign of an operator that stands before its operand (C99 6.5.3)
abbrev pub prefix_punct : PrefixOp → Punct
prefix_punct prefix_op.Address = punct.And
prefix_punct prefix_op.Indirect = punct.Star
prefix_punct prefix_op.Plus = punct.Plus
prefix_punct prefix_op.Minus = punct.Minus
prefix_punct prefix_op.Not = punct.Not
prefix_punct prefix_op.Complement = punct.Tilde
prefix_punct prefix_op.Increment = punct.PlusPlus
prefix_punct prefix_op.Decrement = punct.MinusMinus

-- the sign of an operator between two operands (C99 6.5.5 to 6.5.14)
abbrev pub binary_punct : BinaryOp → Punct
binary_punct binary_op.LogicalOr = punct.OrOr
binary_punct binary_op.LogicalAnd = punct.AndAnd
binary_punct binary_op.Or = punct.Or
binary_punct binary_op.Xor = punct.Caret
binary_punct binary_op.And = punct.And
binary_punct binary_op.Equal = punct.EqualEqual
binary_punct binary_op.NotEqual = punct.NotEqual
binary_punct binary_op.Less = punct.Less
binary_punct binary_op.Greater = punct.Greater
binary_punct binary_op.LessEqual = punct.LessEqual
binary_punct binary_op.GreaterEqual = punct.GreaterEqual
binary_punct binary_op.ShiftLeft = punct.ShiftLeft
binary_punct binary_op.ShiftRight = punct.ShiftRight
binary_punct binary_op.Add = punct.Plus
binary_punct binary_op.Subtract = punct.Minus
binary_punct binary_op.Multiply = punct.Star
binary_punct binary_op.Divide = punct.Slash
binary_punct binary_op.Remainder = punct.Percent

-- the sign of an assignment, simple or compound (C99 6.5.16)
abbrev pub assign_punct : AssignOp → Punct
assign_punct assign_op.Assign = punct.Assign
assign_punct assign_op.Add = punct.PlusAssign
assign_punct assign_op.Subtract = punct.MinusAssign
assign_punct assign_op.Multiply = punct.StarAssign
assign_punct assign_op.Divide = punct.SlashAssign
assign_punct assign_op.Remainder = punct.PercentAssign
assign_punct assign_op.And = punct.AndAssign
assign_punct assign_op.Or = punct.OrAssign
assign_punct assign_op.Xor = punct.CaretAssign
assign_punct assign_op.ShiftLeft = punct.ShiftLeftAssign
assign_punct assign_op.ShiftRight = punct.ShiftRightAssign

-- short for a sign
abbrev pub p : Punct → Kind
p = λ x. kind.Punct x

-- short for a word of the language
abbrev pub w : Word → Kind
w = λ x. kind.Word x

-- a name as the lexer gives it, without its place
abbrev pub name_kind : Name → Kind
name_kind n = kind.Name n.text

-- one token, or none where the source leaves it out
abbrev pub if_there : Bool → Kind → List Kind
if_there true k = k ∷ []
if_there false k = []

-- a specifier as it was written: `long` has four forms (C99 6.7.2)
abbrev pub specifier_kinds : Specifier → List Kind
specifier_kinds (specifier.Int at) = w word.Int ∷ []
specifier_kinds (specifier.Long second int at) = w word.Long ∷ (if_there second (w word.Long) ++ if_there int (w word.Int))
specifier_kinds (specifier.Void at) = w word.Void ∷ []
specifier_kinds (specifier.Struct name at) = w word.Struct ∷ name_kind name ∷ []
specifier_kinds (specifier.PthreadT at) = w word.PthreadT ∷ []
specifier_kinds (specifier.PthreadMutexT at) = w word.PthreadMutexT ∷ []
specifier_kinds (specifier.PthreadCondT at) = w word.PthreadCondT ∷ []
specifier_kinds (specifier.PthreadBarrierT at) = w word.PthreadBarrierT ∷ []
specifier_kinds (specifier.PthreadRwlockT at) = w word.PthreadRwlockT ∷ []

-- so many stars, one for each level of pointer
abbrev pub stars_kinds : ℕ → List Kind
stars_kinds zero = []
stars_kinds (suc n) = p punct.Star ∷ stars_kinds n

-- a type name, as in a cast (C99 6.7.6)
abbrev pub type_kinds : CType → List Kind
type_kinds t = specifier_kinds t.specifier ++ stars_kinds t.stars

abbrev mutual
  pub exp_kinds : Exp → List Kind
  exp_kinds (comma e es place) = exp_kinds e ++ rest_kinds es
  exp_kinds (assign a op b place) = exp_kinds a ++ p (assign_punct op) ∷ exp_kinds b
  exp_kinds (conditional a b c place) = exp_kinds a ++ p punct.Question ∷ (exp_kinds b ++ p punct.Colon ∷ exp_kinds c)
  exp_kinds (binary a op b place) = exp_kinds a ++ p (binary_punct op) ∷ exp_kinds b
  exp_kinds (prefix op a place) = p (prefix_punct op) ∷ exp_kinds a
  exp_kinds (sizeof_exp a place) = w word.Sizeof ∷ exp_kinds a
  exp_kinds (sizeof_type t place) = w word.Sizeof ∷ p punct.OpenParen ∷ (type_kinds t ++ p punct.CloseParen ∷ [])
  exp_kinds (cast t a place) = p punct.OpenParen ∷ (type_kinds t ++ p punct.CloseParen ∷ exp_kinds a)
  exp_kinds (index a b place) = exp_kinds a ++ p punct.OpenBracket ∷ (exp_kinds b ++ p punct.CloseBracket ∷ [])
  exp_kinds (member a name place) = exp_kinds a ++ p punct.Dot ∷ name_kind name ∷ []
  exp_kinds (arrow a name place) = exp_kinds a ++ p punct.Arrow ∷ name_kind name ∷ []
  exp_kinds (post_increment a place) = exp_kinds a ++ p punct.PlusPlus ∷ []
  exp_kinds (post_decrement a place) = exp_kinds a ++ p punct.MinusMinus ∷ []
  exp_kinds (named name place) = kind.Name name ∷ []
  exp_kinds (call name es place) = kind.Name name ∷ p punct.OpenParen ∷ (exps_kinds es ++ p punct.CloseParen ∷ [])
  exp_kinds (number n place) = kind.Number n ∷ []
  exp_kinds (letter n place) = kind.Letter n ∷ []
  exp_kinds (text bytes place) = kind.Text bytes ∷ []
  exp_kinds (null place) = w word.Null ∷ []
  exp_kinds (paren a place) = p punct.OpenParen ∷ (exp_kinds a ++ p punct.CloseParen ∷ [])

  -- with commas between them
  pub exps_kinds : Exps → List Kind
  exps_kinds no_exp = []
  exps_kinds (and_exp e es) = exp_kinds e ++ rest_kinds es

  -- each with a comma before it
  pub rest_kinds : Exps → List Kind
  rest_kinds no_exp = []
  rest_kinds (and_exp e es) = p punct.Comma ∷ (exp_kinds e ++ rest_kinds es)

-- an expression that is left out has no tokens
abbrev pub maybe_kinds : Option Exp → List Kind
maybe_kinds None = []
maybe_kinds (Some e) = exp_kinds e

-- ---- parameters

-- the name of a parameter, which need have none
abbrev pub named_kinds : Option Name → List Kind
named_kinds None = []
named_kinds (Some n) = name_kind n ∷ []

-- a pointer to a function, as `** (*name)(parameters)`: the stars of its result, its name, the tokens of its parameters
abbrev pub pointer_kinds : ℕ → Name → List Kind → List Kind
pointer_kinds stars name xs = stars_kinds stars ++ p punct.OpenParen ∷ p punct.Star ∷ name_kind name ∷ p punct.CloseParen ∷ p punct.OpenParen ∷ (xs ++ p punct.CloseParen ∷ [])

abbrev mutual
  -- one parameter, without a comma (C99 6.7.5.3)
  pub formal_kinds : Formal → List Kind
  formal_kinds (formal s stars name place) = specifier_kinds s ++ (stars_kinds stars ++ named_kinds name)
  formal_kinds (formal_pointer s stars name xs place) = specifier_kinds s ++ pointer_kinds stars name (formals_kinds xs)

  -- what stands in a function's parentheses (C99 6.7.5.3)
  pub formals_kinds : Formals → List Kind
  formals_kinds no_formals = []
  formals_kinds void_formals = w word.Void ∷ []
  formals_kinds (listed_formals xs) = formal_row_kinds xs

  -- the parameters with commas between them
  pub formal_row_kinds : FormalRow → List Kind
  formal_row_kinds no_formal = []
  formal_row_kinds (and_formal x xs) = formal_kinds x ++ rest_formals_kinds xs

  -- the parameters after the first, each with a comma before it
  pub rest_formals_kinds : FormalRow → List Kind
  rest_formals_kinds no_formal = []
  rest_formals_kinds (and_formal x xs) = p punct.Comma ∷ (formal_kinds x ++ rest_formals_kinds xs)

-- ---- declarations

-- array lengths, each in brackets of its own (C99 6.7.5.2)
abbrev pub length_kinds : List Exp → List Kind
length_kinds [] = []
length_kinds (e ∷ es) = p punct.OpenBracket ∷ (exp_kinds e ++ p punct.CloseBracket ∷ length_kinds es)

-- a declarator (C99 6.7.5), without its specifier
abbrev pub declared_kinds : Declared → List Kind
declared_kinds (declared stars name lengths) = stars_kinds stars ++ name_kind name ∷ length_kinds lengths
declared_kinds (declared_pointer stars name xs) = pointer_kinds stars name (formals_kinds xs)

abbrev mutual
  pub init_kinds : Init → List Kind
  init_kinds (value e) = exp_kinds e
  init_kinds (braces is trailing place) = p punct.OpenBrace ∷ (inits_kinds is ++ (if_there trailing (p punct.Comma) ++ p punct.CloseBrace ∷ []))
  init_kinds (mutex_start place) = w word.PthreadMutexInitializer ∷ []
  init_kinds (cond_start place) = w word.PthreadCondInitializer ∷ []
  init_kinds (rwlock_start place) = w word.PthreadRwlockInitializer ∷ []

  pub inits_kinds : Inits → List Kind
  inits_kinds no_init = []
  inits_kinds (and_init i is) = init_kinds i ++ rest_init_kinds is

  pub rest_init_kinds : Inits → List Kind
  rest_init_kinds no_init = []
  rest_init_kinds (and_init i is) = p punct.Comma ∷ (init_kinds i ++ rest_init_kinds is)

-- a declarator, and `=` with its first value, if any
abbrev pub object_kinds : Object → List Kind
object_kinds (plain d) = declared_kinds d
object_kinds (initialised d i place) = declared_kinds d ++ p punct.Assign ∷ init_kinds i

-- the objects after the first, each with a comma before it
abbrev pub rest_objects_kinds : List Object → List Kind
rest_objects_kinds [] = []
rest_objects_kinds (o ∷ os) = p punct.Comma ∷ (object_kinds o ++ rest_objects_kinds os)

-- the objects of one specifier, with commas between them
abbrev pub objects_kinds : List Object → List Kind
objects_kinds [] = []
objects_kinds (o ∷ os) = object_kinds o ++ rest_objects_kinds os

-- a declaration of objects, with its semicolon (C99 6.7)
abbrev pub declares_kinds : Declares → List Kind
declares_kinds (declares s os place) = specifier_kinds s ++ (objects_kinds os ++ p punct.Semicolon ∷ [])

-- ---- statements

-- up to the first semicolon
abbrev pub start_kinds : Start → List Kind
start_kinds (start_declares d) = declares_kinds d
start_kinds (start_computes e) = maybe_kinds e ++ p punct.Semicolon ∷ []

abbrev mutual
  pub stmt_kinds : Statement → List Kind
  stmt_kinds (block ps place) = p punct.OpenBrace ∷ (parts_kinds ps ++ p punct.CloseBrace ∷ [])
  stmt_kinds (compute e place) = maybe_kinds e ++ p punct.Semicolon ∷ []
  stmt_kinds (break_at place) = w word.Break ∷ p punct.Semicolon ∷ []
  stmt_kinds (continue_at place) = w word.Continue ∷ p punct.Semicolon ∷ []
  stmt_kinds (gives e place) = w word.Return ∷ (maybe_kinds e ++ p punct.Semicolon ∷ [])
  stmt_kinds (branch e a place) = w word.If ∷ p punct.OpenParen ∷ (exp_kinds e ++ p punct.CloseParen ∷ stmt_kinds a)
  stmt_kinds (branch_else e a b place) = w word.If ∷ p punct.OpenParen ∷ (exp_kinds e ++ p punct.CloseParen ∷ (stmt_kinds a ++ w word.Else ∷ stmt_kinds b))
  stmt_kinds (while_loop e a place) = w word.While ∷ p punct.OpenParen ∷ (exp_kinds e ++ p punct.CloseParen ∷ stmt_kinds a)
  stmt_kinds (do_loop a e place) = w word.Do ∷ (stmt_kinds a ++ w word.While ∷ p punct.OpenParen ∷ (exp_kinds e ++ p punct.CloseParen ∷ p punct.Semicolon ∷ []))
  stmt_kinds (for_loop s test next a place) =
      w word.For ∷ p punct.OpenParen ∷ (start_kinds s ++ (maybe_kinds test ++ p punct.Semicolon ∷ (maybe_kinds next ++ p punct.CloseParen ∷ stmt_kinds a)))

  pub parts_kinds : Parts → List Kind
  parts_kinds no_part = []
  parts_kinds (and_declares d ps) = declares_kinds d ++ parts_kinds ps
  parts_kinds (and_does s ps) = stmt_kinds s ++ parts_kinds ps

-- ---- the outermost level

-- a body in braces, or the semicolon of a prototype
abbrev pub code_kinds : Code → List Kind
code_kinds (defined ps place) = p punct.OpenBrace ∷ (parts_kinds ps ++ p punct.CloseBrace ∷ [])
code_kinds prototype = p punct.Semicolon ∷ []

-- the members after the first, each with a comma before it
abbrev pub rest_declared_kinds : List Declared → List Kind
rest_declared_kinds [] = []
rest_declared_kinds (d ∷ ds) = p punct.Comma ∷ (declared_kinds d ++ rest_declared_kinds ds)

-- the members of one specifier, with commas between them
abbrev pub all_declared_kinds : List Declared → List Kind
all_declared_kinds [] = []
all_declared_kinds (d ∷ ds) = declared_kinds d ++ rest_declared_kinds ds

-- members of one specifier, with their semicolon (C99 6.7.2.1)
abbrev pub fields_kinds : Fields → List Kind
fields_kinds (fields s ds place) = specifier_kinds s ++ (all_declared_kinds ds ++ p punct.Semicolon ∷ [])

-- all that stands in a struct's braces
abbrev pub all_fields_kinds : List Fields → List Kind
all_fields_kinds [] = []
all_fields_kinds (f ∷ fs) = fields_kinds f ++ all_fields_kinds fs

-- an external declaration (C99 6.9), with what ends it
abbrev pub outer_kinds : Outer → List Kind
outer_kinds (structure name fs) = w word.Struct ∷ name_kind name ∷ p punct.OpenBrace ∷ (all_fields_kinds fs ++ p punct.CloseBrace ∷ p punct.Semicolon ∷ [])
outer_kinds (function is_static s stars name xs code) =
    if_there is_static (w word.Static) ++ (specifier_kinds s ++ (stars_kinds stars ++ name_kind name ∷ p punct.OpenParen ∷ (formals_kinds xs ++ p punct.CloseParen ∷ code_kinds code)))
outer_kinds (objects is_static s os place) = if_there is_static (w word.Static) ++ (specifier_kinds s ++ (objects_kinds os ++ p punct.Semicolon ∷ []))

-- a whole source, in the order of the text
abbrev pub kinds_of : List Outer → List Kind
kinds_of [] = []
kinds_of (o ∷ os) = outer_kinds o ++ kinds_of os
