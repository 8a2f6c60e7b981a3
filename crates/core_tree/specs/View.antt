-- The plain tree as which a tree of the crate shows.
use Rattle.std.specs.Prelude.{Option, Some, None, map}
use Rattle.rr_base.specs.declared.position.Position.{Position}
use Rattle.core_tree.specs.declared.value.Simple.{Simple as RustSimple}
use Rattle.core_tree.specs.declared.value.Simple.TheVariants as simple
use Rattle.core_tree.specs.declared.value.Value.{Value}
use Rattle.core_tree.specs.declared.value.Operation.{Operation}
use Rattle.core_tree.specs.declared.value.Choice.{Choice}
use Rattle.core_tree.specs.declared.value.Assignment.{Assignment}
use Rattle.core_tree.specs.declared.value.Call.{Call}
use Rattle.core_tree.specs.declared.value.Assignment.TheBlock.{Simple, Operates, Chooses, Assigns, Calls, Load', Unary', Binary', Move', Advance', Member', Between', ToPointer', ToNumber', Copy', And', Or', Conditional', Comma', Set', Store', ChangeRegister', ChangeCell', Function', Library', Allocate', Row_of-Value, end_of-Value, more_of-Value}
use Rattle.core_tree.specs.declared.statement.Statement.{Statement as RustStatement, Block', Compute, If', IfElse', While', Do', For', Break, Continue, Return, Row_of-Statement, end_of-Statement, more_of-Statement}
use Rattle.core_tree.specs.declared.program.Arrival.{Arrival as RustArrival}
use Rattle.core_tree.specs.declared.program.CoreFunction.{CoreFunction}
use Rattle.core_tree.specs.declared.program.PointerType.{PointerType}
use Rattle.core_tree.specs.declared.program.Core.{Core}
use Rattle.core_tree.specs.Core.{Exp, number, null, register, object, global, load, unary, binary, move, advance, member, between, to_pointer, to_number, copy, both, either, conditional, comma, set_register, store, change_register, change_cell, call, library, allocate, Exps, no_exp, and_exp, Statement, block, compute, branch, branch_else, while_loop, do_loop, for_loop, break_at, continue_at, gives, Statements, no_statement, and_statement, Arrival, arrives, Function, Pointer, Program}

-- an expression without parts of its own
abbrev pub simple_of : RustSimple → Position → Exp
simple_of (simple.Number z) at = number z at
simple_of simple.Null at = null at
simple_of (simple.Register n pointer) at = register n pointer at
simple_of (simple.Object n) at = object n at
simple_of (simple.Global address) at = global address at

abbrev mutual
  pub exp_of : Value → Exp
  exp_of (Simple x at) = simple_of x at
  exp_of (Operates o) = operation_of o
  exp_of (Chooses c) = choice_of c
  exp_of (Assigns a) = assignment_of a
  exp_of (Calls c) = call_of c

  pub operation_of : Operation → Exp
  operation_of (Load' p e pointer at) = load (exp_of e) pointer at
  operation_of (Unary' op p e at) = unary op (exp_of e) at
  operation_of (Binary' op p a q b at) = binary op (exp_of a) (exp_of b) at
  operation_of (Move' p a q b element back at) = move (exp_of a) (exp_of b) element back at
  operation_of (Advance' p a q b element at) = advance (exp_of a) (exp_of b) element at
  operation_of (Member' p a by at) = member (exp_of a) by at
  operation_of (Between' p a q b element at) = between (exp_of a) (exp_of b) element at
  operation_of (ToPointer' p a at) = to_pointer (exp_of a) at
  operation_of (ToNumber' p a at) = to_number (exp_of a) at
  operation_of (Copy' p a at) = copy (exp_of a) at

  pub choice_of : Choice → Exp
  choice_of (And' p a q b at) = both (exp_of a) (exp_of b) at
  choice_of (Or' p a q b at) = either (exp_of a) (exp_of b) at
  choice_of (Conditional' p a q b r c at) = conditional (exp_of a) (exp_of b) (exp_of c) at
  choice_of (Comma' p a q b at) = comma (exp_of a) (exp_of b) at

  pub assignment_of : Assignment → Exp
  assignment_of (Set' n p a at) = set_register n (exp_of a) at
  assignment_of (Store' p a q b at) = store (exp_of a) (exp_of b) at
  assignment_of (ChangeRegister' n change p a old at) = change_register n change (exp_of a) old at
  assignment_of (ChangeCell' p a loaded change q b old at) = change_cell (exp_of a) loaded change (exp_of b) old at

  pub call_of : Call → Exp
  call_of (Function' f shape row pointer at) = call f (exps_of_row row) pointer at
  call_of (Library' c shape row at) = library c (exps_of_row row) at
  call_of (Allocate' site p a at) = allocate site (exp_of a) at

  pub exps_of_row : {n : _} → Row_of-Value n → Exps
  exps_of_row end_of-Value = no_exp
  exps_of_row (more_of-Value e row) = and_exp (exp_of e) (exps_of_row row)

-- a part of a `for` or a returned value, which may be left out
abbrev pub maybe_of : Option Value → Option Exp
maybe_of None = None
maybe_of (Some e) = Some (exp_of e)

abbrev mutual
  pub stmt_of : RustStatement → Statement
  stmt_of (Block' shape row) = block (stmts_of_row row)
  stmt_of (Compute e) = compute (exp_of e)
  stmt_of (If' e p a at) = branch (exp_of e) (stmt_of a) at
  stmt_of (IfElse' e p a q b at) = branch_else (exp_of e) (stmt_of a) (stmt_of b) at
  stmt_of (While' e p a at) = while_loop (exp_of e) (stmt_of a) at
  stmt_of (Do' p a e at) = do_loop (stmt_of a) (exp_of e) at
  stmt_of (For' p start test step q a at) = for_loop (stmt_of start) (maybe_of test) (maybe_of step) (stmt_of a) at
  stmt_of (Break at) = break_at at
  stmt_of (Continue at) = continue_at at
  stmt_of (Return e at) = gives (maybe_of e) at

  pub stmts_of_row : {n : _} → Row_of-Statement n → Statements
  stmts_of_row end_of-Statement = no_statement
  stmts_of_row (more_of-Statement s row) = and_statement (stmt_of s) (stmts_of_row row)

-- a formal that is kept in cells
abbrev pub arrival_of : RustArrival → Arrival
arrival_of a = arrives a.register a.object a.at

-- the crate's function, with plain lists and trees in place of shaped rows
abbrev pub function_of : CoreFunction → Function
function_of f = record {
  name = f.name;
  place = f.at;
  formals = f.formals;
  pointers = f.pointers;
  objects = f.objects;
  arrivals = map arrival_of f.arrivals;
  gives_pointer = f.gives_pointer;
  body = stmt_of f.body;
}

-- the crate's type of pointers to functions
abbrev pub pointer_of : PointerType → Pointer
pointer_of q = record { kinds = q.formals; gives_pointer = q.gives_pointer; place = q.at; targets = q.targets }

-- the crate's whole program, seen as the plain one
abbrev pub core_of : Core → Program
core_of c = record {
  functions = map function_of c.functions;
  pointers = map pointer_of c.pointers;
  sites = c.sites;
  globals = c.globals;
  global_kinds = c.global_kinds;
  global_bases = c.global_bases;
}
