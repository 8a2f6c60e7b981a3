-- Worked rows of what core trees do.
use Rattle.std.proofs.Common.{◌≡◌, ℕ, ℤ, pos, true, false, List, [], ◌∷◌, replicate, Some, None, refl, codes}
use Rattle.sync_objects.specs.Setup.{SetupView}
use Rattle.sync_objects.specs.declared.object.ObjId.TheVariants as object_id
use Rattle.sync_objects.specs.declared.operation.Op.TheVariants as op
use Rattle.rr_base.specs.Words.{pack}
use Rattle.rr_base.specs.declared.layout.CellKind.TheVariants as kind
use Rattle.rr_base.specs.declared.layout.Site.{Site}
use Rattle.rr_base.specs.declared.trap.Trap.TheVariants as trap
use Rattle.word_semantics.specs.declared.operator.BinaryOp.TheVariants as binary_op
use Rattle.word_semantics.specs.declared.event.Action.TheVariants as action
use Rattle.word_semantics.specs.declared.library_call.LibraryCall.TheVariants as library_call
use Rattle.word_semantics.specs.declared.library_call.Piece.TheVariants as piece
use Rattle.rr_base.specs.declared.position.Position.{Position}
use Rattle.core_tree.specs.declared.value.Change.TheVariants as change
use Rattle.core_tree.specs.Core.{Exp, number, register, object, global, load, binary, copy, both, store, set_register, change_register, change_cell, call, library, no_exp, and_exp, Statement, block, compute, gives, branch, branch_else, while_loop, do_loop, for_loop, continue_at, no_statement, and_statement, arrives, Function, Program}
use Rattle.core_tree.specs.Runs.{events, done, trapped}
use Rattle.core_tree.specs.Meaning.{run_of}

abbrev at : ℕ → Position
at line = record { line = line; column = 1 }

-- one slot, and so many events at most
abbrev setup : ℕ → SetupView
setup limit = record { slots = 1; cells = 1024; limit = limit; input = [] }

abbrev site_g : Site
site_g = record { name = codes "g"; layout = record { size = 1; element = 1; kinds = kind.Whole ∷ [] }; at = record { line = 1; column = 5 } }

abbrev g : Exp
g = global (pack 1 0 1 0) (at 1)

abbrev main_of : Statement → Function
main_of body = record { name = codes "main"; place = at 2; formals = 0; pointers = false ∷ []; objects = []; arrivals = []; gives_pointer = false; body = body }

abbrev program_of : Statement → Program
program_of body = record { functions = main_of body ∷ []; pointers = []; sites = site_g ∷ []; globals = 0 ∷ []; global_kinds = kind.Whole ∷ []; global_bases = Some 0 ∷ [] }

-- int g; int main(void) { g = 1 + 2; return g; }
abbrev first_program : Program
first_program = program_of (block (and_statement (compute (store g (binary binary_op.Add (number (pos 1) (at 3)) (number (pos 2) (at 3)) (at 3)) (at 3))) (and_statement (gives (Some (load g false (at 4))) (at 4)) no_statement)))

-- `main` is entered, the sum is stored after the two hand-off cells of the one slot, and the program ends
pub first_events_are : events (run_of first_program (setup 10) 0) (pos 0 ∷ pos 0 ∷ pos 3 ∷ pos 0 ∷ pos 0 ∷ []) ≡
    done action.Mark [] (pos 0) ∷ done (action.Store 2 3) [] (pos 0) ∷ done (action.Load 2) [] (pos 3) ∷ done (action.Operate op.HaltAll object_id.Halt) [] (pos 0) ∷ []
first_events_are = refl

-- at a count of 2 the thread may make no event more
pub limit_is_kept : events (run_of first_program (setup 2) 0) (pos 0 ∷ pos 0 ∷ pos 3 ∷ []) ≡
    done action.Mark [] (pos 0) ∷ done (action.Store 2 3) [] (pos 0) ∷ trapped trap.Limit 4 ∷ []
limit_is_kept = refl

-- int main(void) { int n; while (n) g = 1; return 0; } at first n is 0, so one turn is begun
abbrev second_program : Program
second_program = program_of (block (and_statement (while_loop (register 0 false (at 3)) (compute (store g (number (pos 1) (at 3)) (at 3))) (at 3)) no_statement))

pub second_events_are : events (run_of second_program (setup 10) 0) (pos 0 ∷ pos 0 ∷ pos 0 ∷ pos 0 ∷ []) ≡
    done action.Mark [] (pos 0) ∷ done action.Mark [] (pos 0) ∷ done (action.Operate op.HaltAll object_id.Halt) [] (pos 0) ∷ []
second_events_are = refl

abbrev n : Exp
n = register 0 false (at 3)

abbrev z : ℕ → Exp
z k = number (pos k) (at 3)

abbrev answers : ℕ → List ℤ
answers k = replicate k (pos 0)

-- int main(void) { int n; for (n = 0; n < 2; n++) { if (n) continue; g = 7; } return 0; }
abbrev for_program : Program
for_program = program_of (
    for_loop (compute (set_register 0 (z 0) (at 3))) (Some (binary binary_op.Less n (z 2) (at 3))) (Some (change_register 0 (change.Compute binary_op.Add) (z 1) true (at 3)))
    (block (and_statement (branch n (continue_at (at 4)) (at 4)) (and_statement (compute (store g (z 7) (at 5))) no_statement))) (at 3))

-- three turns are begun, and the second goes on past the store
pub for_events_are : events (run_of for_program (setup 10) 0) (answers 6) ≡
    done action.Mark [] (pos 0) ∷ done action.Mark [] (pos 0) ∷ done (action.Store 2 7) [] (pos 0) ∷ done action.Mark [] (pos 0) ∷ done action.Mark [] (pos 0) ∷ done (action.Operate op.HaltAll object_id.Halt) [] (pos 0) ∷ []
for_events_are = refl

-- int main(void) { int n; if (n) g = 1; else g = 7; if (n) g = 8; return 0; }
abbrev if_program : Program
if_program = program_of (block (and_statement
    (branch_else n (compute (store g (z 1) (at 3))) (compute (store g (z 7) (at 4))) (at 3))
    (and_statement (branch n (compute (store g (z 8) (at 5))) (at 5)) no_statement)))

-- n is 0: the second part is done, and the `if` without one does nothing
pub if_events_are : events (run_of if_program (setup 10) 0) (answers 3) ≡
    done action.Mark [] (pos 0) ∷ done (action.Store 2 7) [] (pos 0) ∷ done (action.Operate op.HaltAll object_id.Halt) [] (pos 0) ∷ []
if_events_are = refl

-- int main(void) { do g += 5; while (0); return 0; } where g holds 4
abbrev do_program : Program
do_program = program_of (do_loop (compute (change_cell g (at 3) (change.Compute binary_op.Add) (z 5) false (at 4))) (z 0) (at 3))

pub do_events_are : events (run_of do_program (setup 10) 0) (pos 0 ∷ pos 0 ∷ pos 4 ∷ pos 0 ∷ pos 0 ∷ []) ≡
    done action.Mark [] (pos 0) ∷ done action.Mark [] (pos 0) ∷ done (action.Load 2) [] (pos 4) ∷ done (action.Store 2 9) [] (pos 0) ∷ done (action.Operate op.HaltAll object_id.Halt) [] (pos 0) ∷ []
do_events_are = refl

-- what can't be computed is a trap, at the line of its operator
abbrev trap_program : Program
trap_program = program_of (compute (binary binary_op.Divide (z 1) n (at 9)))

pub trap_events_are : events (run_of trap_program (setup 10) 0) (answers 2) ≡ done action.Mark [] (pos 0) ∷ trapped trap.DivideByZero 9 ∷ []
trap_events_are = refl

-- one of two operands
abbrev short_program : Program
short_program = program_of (compute (store g (both (z 0) (binary binary_op.Divide (z 1) (z 0) (at 9)) (at 3)) (at 3)))

pub short_events_are : events (run_of short_program (setup 10) 0) (answers 3) ≡ done action.Mark [] (pos 0) ∷ done (action.Store 2 0) [] (pos 0) ∷ done (action.Operate op.HaltAll object_id.Halt) [] (pos 0) ∷ []
short_events_are = refl

-- int main(void) { g = +(g += 5); return 0; } where g holds 4
abbrev copy_program : Program
copy_program = program_of (compute (store g (copy (change_cell g (at 3) (change.Compute binary_op.Add) (z 5) false (at 3)) (at 3)) (at 4)))

-- a copy has no event of its own
pub copy_events_are : events (run_of copy_program (setup 10) 0) (pos 0 ∷ pos 4 ∷ answers 3) ≡
    done action.Mark [] (pos 0) ∷ done (action.Load 2) [] (pos 4) ∷ done (action.Store 2 9) [] (pos 0) ∷ done (action.Store 2 9) [] (pos 0) ∷ done (action.Operate op.HaltAll object_id.Halt) [] (pos 0) ∷ []
copy_events_are = refl

-- int f(int n) { return *&n + 1; } where the formal is kept in cells
abbrev f : Function
f = record {
  name = codes "f";
  place = at 1;
  formals = 1;
  pointers = false ∷ [];
  objects = 2 ∷ [];
  arrivals = arrives 0 0 (at 6) ∷ [];
  gives_pointer = false;
  body = gives (Some (binary binary_op.Add (load (object 0 (at 7)) false (at 7)) (z 1) (at 7))) (at 7);
}

-- int main(void) { g = f(6); return 0; }
abbrev call_program : Program
call_program = record {
  functions = f ∷ main_of (compute (store g (call 0 (and_exp (z 6) no_exp) false (at 8)) (at 8))) ∷ [];
  pointers = [];
  sites = site_g ∷ record { name = codes "f.n@6:1"; layout = record { size = 1; element = 1; kinds = kind.Whole ∷ [] }; at = record { line = 6; column = 1 } } ∷ [];
  globals = 0 ∷ [];
  global_kinds = kind.Whole ∷ [];
  global_bases = Some 0 ∷ None ∷ [];
}

-- the formal has the first cell of the thread's arena
pub call_events_are : events (run_of call_program (setup 10) 0) (pos 0 ∷ pos 0 ∷ pos 0 ∷ pos 6 ∷ pos 0 ∷ pos 0 ∷ []) ≡
    done action.Mark [] (pos 0) ∷ done action.Mark [] (pos 0) ∷ done (action.Store 3 6) [] (pos 0) ∷ done (action.Load 3) [] (pos 6) ∷ done (action.Store 2 7) [] (pos 0) ∷ done (action.Operate op.HaltAll object_id.Halt) [] (pos 0) ∷ []
call_events_are = refl

-- a thread that is started with `f`, and its argument 6: the value is handed over after its end
pub started_events_are : events (run_of call_program (record { slots = 2; cells = 1024; limit = 10; input = [] }) 1) (pos 0 ∷ pos 6 ∷ pos 0 ∷ pos 0 ∷ pos 6 ∷ answers 3) ≡
    done (action.Operate op.Begin (object_id.Slot 1)) [] (pos 0) ∷ done (action.Load 2) [] (pos 6) ∷ done action.Mark [] (pos 0) ∷ done (action.Store 1029 6) [] (pos 0) ∷ done (action.Load 1029) [] (pos 6)
    ∷ done (action.Store 3 7) [] (pos 0) ∷ done (action.Operate op.End (object_id.Slot 1)) [] (pos 0) ∷ done (action.Operate op.Leave object_id.Threads) [] (pos 0) ∷ []
started_events_are = refl

-- int main(void) { printf("%c<%c", 65, 66); putchar(10); return 0; }
abbrev print_program : Program
print_program = program_of (block (and_statement
    (compute (library (library_call.Print (piece.Letter ∷ piece.Byte 60 ∷ piece.Letter ∷ [])) (and_exp (z 65) (and_exp (z 66) no_exp)) (at 3)))
    (and_statement (compute (library library_call.PutChar (and_exp (z 10) no_exp) (at 4))) no_statement)))

-- each print prints its own bytes, in the order of its arguments
pub print_events_are : events (run_of print_program (setup 10) 0) (answers 4) ≡
    done action.Mark [] (pos 0) ∷ done (action.Operate op.Print object_id.Output) (codes "A<B") (pos 0) ∷ done (action.Operate op.Print object_id.Output) (codes "\n") (pos 0)
    ∷ done (action.Operate op.HaltAll object_id.Halt) [] (pos 0) ∷ []
print_events_are = refl

-- int twice(int a) { return a + a; }
abbrev twice : Function
twice = record { name = codes "twice"; place = at 1; formals = 1; pointers = false ∷ []; objects = []; arrivals = []; gives_pointer = false; body = gives (Some (binary binary_op.Add (register 0 false (at 1)) (register 0 false (at 1)) (at 1))) (at 1) }

-- int main(void) { g = f(4); return 0; } where f is a pointer with this word, declared at line 6, and the name of `twice` alone is taken
abbrev pointer_program : Exp → Program
pointer_program word = record {
  functions = twice ∷ main_of (compute (store g (call 2 (and_exp word (and_exp (z 4) no_exp)) false (at 8)) (at 8))) ∷ [];
  pointers = record { kinds = false ∷ []; gives_pointer = false; place = at 6; targets = 0 ∷ [] } ∷ [];
  sites = site_g ∷ [];
  globals = 0 ∷ [];
  global_kinds = kind.Whole ∷ [];
  global_bases = Some 0 ∷ [];
}

-- the call through the pointer makes a Mark, and then that of its target another
pub pointer_events_are : events (run_of (pointer_program (z 1)) (setup 10) 0) (answers 5) ≡
    done action.Mark [] (pos 0) ∷ done action.Mark [] (pos 0) ∷ done action.Mark [] (pos 0) ∷ done (action.Store 2 8) [] (pos 0) ∷ done (action.Operate op.HaltAll object_id.Halt) [] (pos 0) ∷ []
pointer_events_are = refl

-- a null pointer traps at the declaration, and so does one to `main`
pub null_pointer_traps : events (run_of (pointer_program (z 0)) (setup 10) 0) (answers 3) ≡ done action.Mark [] (pos 0) ∷ done action.Mark [] (pos 0) ∷ trapped trap.BadDereference 6 ∷ []
null_pointer_traps = refl

pub other_pointer_traps : events (run_of (pointer_program (z 2)) (setup 10) 0) (answers 3) ≡ done action.Mark [] (pos 0) ∷ done action.Mark [] (pos 0) ∷ trapped trap.BadDereference 6 ∷ []
other_pointer_traps = refl

-- a limit that the target reaches traps there too
pub limit_at_target : events (run_of (pointer_program (z 1)) (setup 2) 0) (answers 3) ≡ done action.Mark [] (pos 0) ∷ done action.Mark [] (pos 0) ∷ trapped trap.Limit 6 ∷ []
limit_at_target = refl
