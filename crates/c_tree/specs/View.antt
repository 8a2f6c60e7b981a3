-- The plain tree as which a tree of the crate shows.
use Rattle.std.specs.Prelude.{List, Option, Some, None, map}
use Rattle.c_tree.specs.declared.expr.Expr.{Expr, Comma', Assign', Conditional', Binary', Prefix', SizeofExpr', SizeofType, Cast', Index', Member', Arrow', PostIncrement', PostDecrement', Name, Call', Number, Letter, Text, Null, Paren', Row_of-Expr, end_of-Expr, more_of-Expr}
use Rattle.c_tree.specs.declared.param.Param.{Param}
use Rattle.c_tree.specs.declared.param.Param.TheBlock.{Object as ObjectParam, Pointer as PointerParam, Nothing, Void, Listed', Row_of-Param, end_of-Param, more_of-Param}
use Rattle.c_tree.specs.declared.param.Params.{Params}
use Rattle.c_tree.specs.declared.declaration.Declarator.{Declarator}
use Rattle.c_tree.specs.declared.declaration.Declarator.TheVariants as declarator
use Rattle.c_tree.specs.declared.declaration.Initial.{Initial, Value, Braces', Mutex, Cond, RwLock, Row_of-Initial, end_of-Initial, more_of-Initial}
use Rattle.c_tree.specs.declared.declaration.Item.{Item}
use Rattle.c_tree.specs.declared.declaration.Item.TheVariants as item
use Rattle.c_tree.specs.declared.declaration.Declaration.{Declaration}
use Rattle.c_tree.specs.declared.statement.ForStart.{ForStart}
use Rattle.c_tree.specs.declared.statement.ForStart.TheVariants as start
use Rattle.c_tree.specs.declared.statement.Stmt.{Stmt}
use Rattle.c_tree.specs.declared.statement.Part.{Part as RustPart}
use Rattle.c_tree.specs.declared.statement.Part.TheBlock.{Declares as DeclaresPart, Does, Block', Expression, Break, Continue, Return, If', While', Do', For', Row_of-Part, end_of-Part, more_of-Part, Held-Stmt-If-2, None', Some'}
use Rattle.c_tree.specs.declared.program.Body.{Body}
use Rattle.c_tree.specs.declared.program.Body.TheVariants as body
use Rattle.c_tree.specs.declared.program.Member.{Member}
use Rattle.c_tree.specs.declared.program.External.{External}
use Rattle.c_tree.specs.declared.program.External.TheVariants as external
use Rattle.c_tree.specs.declared.program.Program.{Program}
use Rattle.c_tree.specs.Tree.{Exp, comma, assign, conditional, binary, prefix, sizeof_exp, sizeof_type, cast, index, member, arrow, post_increment, post_decrement, named, call, number, letter, text, null, paren, Exps, no_exp, and_exp, Formal, formal, formal_pointer, Formals, no_formals, void_formals, listed_formals, FormalRow, no_formal, and_formal, Declared, declared, declared_pointer, Init, value, braces, mutex_start, cond_start, rwlock_start, Inits, no_init, and_init, Object, plain, initialised, Declares, declares, Start, start_declares, start_computes, Statement, block, compute, break_at, continue_at, gives, branch, branch_else, while_loop, do_loop, for_loop, Parts, no_part, Code, defined, prototype, Fields, fields, Outer, structure, function, objects, Part, part_declares, part_does, with_part, listed_parts}
use Rattle.rr_base.specs.declared.position.Position.{Position}

abbrev mutual
  pub exp_of : Expr → Exp
  exp_of (Comma' p e shape row at) = comma (exp_of e) (exps_of_row row) at
  exp_of (Assign' p a op q b at) = assign (exp_of a) op (exp_of b) at
  exp_of (Conditional' p a q b r c at) = conditional (exp_of a) (exp_of b) (exp_of c) at
  exp_of (Binary' p a op q b at) = binary (exp_of a) op (exp_of b) at
  exp_of (Prefix' op p a at) = prefix op (exp_of a) at
  exp_of (SizeofExpr' p a at) = sizeof_exp (exp_of a) at
  exp_of (SizeofType t at) = sizeof_type t at
  exp_of (Cast' t p a at) = cast t (exp_of a) at
  exp_of (Index' p a q b at) = index (exp_of a) (exp_of b) at
  exp_of (Member' p a name at) = member (exp_of a) name at
  exp_of (Arrow' p a name at) = arrow (exp_of a) name at
  exp_of (PostIncrement' p a at) = post_increment (exp_of a) at
  exp_of (PostDecrement' p a at) = post_decrement (exp_of a) at
  exp_of (Name name at) = named name at
  exp_of (Call' name shape row at) = call name (exps_of_row row) at
  exp_of (Number n at) = number n at
  exp_of (Letter n at) = letter n at
  exp_of (Text bytes at) = text bytes at
  exp_of (Null at) = null at
  exp_of (Paren' p a at) = paren (exp_of a) at

  pub exps_of_row : {n : _} → Row_of-Expr n → Exps
  exps_of_row end_of-Expr = no_exp
  exps_of_row (more_of-Expr e row) = and_exp (exp_of e) (exps_of_row row)

abbrev mutual
  -- a parameter (C99 6.7.5.3)
  pub formal_of : Param → Formal
  formal_of (ObjectParam s stars name at) = formal s stars name at
  formal_of (PointerParam s stars name xs at) = formal_pointer s stars name (formals_of xs) at

  -- what stands in a function's parentheses
  pub formals_of : Params → Formals
  formals_of Nothing = no_formals
  formals_of Void = void_formals
  formals_of (Listed' shape row) = listed_formals (formals_of_row row)

  pub formals_of_row : {n : _} → Row_of-Param n → FormalRow
  formals_of_row end_of-Param = no_formal
  formals_of_row (more_of-Param x row) = and_formal (formal_of x) (formals_of_row row)

-- a declarator without its specifier (C99 6.7.5)
abbrev pub declared_of : Declarator → Declared
declared_of (declarator.Object stars name lengths) = declared stars name (map exp_of lengths)
declared_of (declarator.Pointer stars name xs) = declared_pointer stars name (formals_of xs)

abbrev mutual
  pub init_of : Initial → Init
  init_of (Value e) = value (exp_of e)
  init_of (Braces' shape row trailing at) = braces (inits_of_row row) trailing at
  init_of (Mutex at) = mutex_start at
  init_of (Cond at) = cond_start at
  init_of (RwLock at) = rwlock_start at

  pub inits_of_row : {n : _} → Row_of-Initial n → Inits
  inits_of_row end_of-Initial = no_init
  inits_of_row (more_of-Initial i row) = and_init (init_of i) (inits_of_row row)

-- one object of a declaration, with its first value, if any
abbrev pub object_of : Item → Object
object_of (item.Plain d) = plain (declared_of d)
object_of (item.Initialised d i at) = initialised (declared_of d) (init_of i) at

-- a declaration of objects (C99 6.7)
abbrev pub declares_of : Declaration → Declares
declares_of d = declares d.specifier (map object_of d.items) d.at

-- an expression that the source may leave out
abbrev pub maybe_of : Option Expr → Option Exp
maybe_of None = None
maybe_of (Some e) = Some (exp_of e)

-- the first clause of a `for` (C99 6.8.5.3)
abbrev pub start_of : ForStart → Start
start_of (start.Declares d) = start_declares (declares_of d)
start_of (start.Computes e) = start_computes (maybe_of e)

-- the crate has one `if`; here one with an `else` is another
abbrev pub branch_by : Exp → Statement → Option Statement → Position → Statement
branch_by e a None place = branch e a place
branch_by e a (Some b) place = branch_else e a b place

abbrev mutual
  pub stmt_of : Stmt → Statement
  stmt_of (Block' shape row at) = block (parts_of_row row) at
  stmt_of (Expression e at) = compute (maybe_of e) at
  stmt_of (Break at) = break_at at
  stmt_of (Continue at) = continue_at at
  stmt_of (Return e at) = gives (maybe_of e) at
  stmt_of (If' e p a held at) = branch_by (exp_of e) (stmt_of a) (held_of held) at
  stmt_of (While' e p a at) = while_loop (exp_of e) (stmt_of a) at
  stmt_of (Do' p a e at) = do_loop (stmt_of a) (exp_of e) at
  stmt_of (For' begin test next p a at) = for_loop (start_of begin) (maybe_of test) (maybe_of next) (stmt_of a) at

  pub held_of : Held-Stmt-If-2 → Option Statement
  held_of None' = None
  held_of (Some' p s) = Some (stmt_of s)

  pub part_of : RustPart → Part
  part_of (DeclaresPart d) = part_declares (declares_of d)
  part_of (Does s) = part_does (stmt_of s)

  pub parts_of_row : {n : _} → Row_of-Part n → Parts
  parts_of_row end_of-Part = no_part
  parts_of_row (more_of-Part p row) = with_part (part_of p) (parts_of_row row)

-- a function's body; a prototype has none
abbrev pub code_of : Body → Code
code_of (body.Block parts at) = defined (listed_parts (map part_of parts)) at
code_of body.Prototype = prototype

-- members of one specifier (C99 6.7.2.1)
abbrev pub fields_of : Member → Fields
fields_of m = fields m.specifier (map declared_of m.declarators) m.at

-- an external declaration (C99 6.9)
abbrev pub outer_of : External → Outer
outer_of (external.Struct name members) = structure name (map fields_of members)
outer_of (external.Function is_static specifier stars name params code) = function is_static specifier stars name (formals_of params) (code_of code)
outer_of (external.Objects is_static specifier items at) = objects is_static specifier (map object_of items) at

-- a whole source, in the order of the text
abbrev pub program_of : Program → List Outer
program_of p = map outer_of p.externals
