-- Worked rows of resolved core trees.
use Rattle.std.proofs.Common.{◌≡◌, ℕ, ℤ, pos, true, false, List, [], ◌∷◌, Some, refl, codes}
use Rattle.sync_objects.specs.Setup.{SetupView}
use Rattle.sync_objects.specs.declared.object.ObjId.TheVariants as object_id
use Rattle.sync_objects.specs.declared.operation.Op.TheVariants as op
use Rattle.rr_base.specs.declared.layout.CellKind.TheVariants as kind
use Rattle.rr_base.specs.declared.trap.Trap.TheVariants as trap
use Rattle.rr_base.specs.declared.position.Position.{Position}
use Rattle.word_semantics.specs.declared.operator.BinaryOp.TheVariants as binary_op
use Rattle.word_semantics.specs.declared.event.Action.TheVariants as action
use Rattle.core_tree.specs.Core.{Exp, number, null, register, load, binary, set_register, call, no_exp, and_exp, block, compute, branch, gives, no_statement, and_statement, Function, Pointer, Program}
use Rattle.core_tree.specs.Runs.{Event, events, done, trapped}
use Rattle.core_tree.specs.Meaning.{run_of}
use Rattle.call_targets.specs.Resolved.{chooser_name, resolved}

abbrev at : ℕ → Position
at line = record { line = line; column = 1 }

abbrev setup : SetupView
setup = record { slots = 1; cells = 1024; limit = 20; input = [] }

-- int twice(int a) { return a + a; }
abbrev twice : Function
twice = record { name = codes "twice"; place = at 2; formals = 1; pointers = false ∷ []; objects = []; arrivals = []; gives_pointer = false; body = gives (Some (binary binary_op.Add (register 0 false (at 2)) (register 0 false (at 2)) (at 2))) (at 2) }

-- int next(int a) { return a / 0; }
abbrev next : Function
next = record { name = codes "next"; place = at 3; formals = 1; pointers = false ∷ []; objects = []; arrivals = []; gives_pointer = false; body = gives (Some (binary binary_op.Divide (register 0 false (at 3)) (number (pos 0) (at 3)) (at 3))) (at 3) }

-- int main(void) { int (*f)(int) = ..; return f(4); } with the word of f; f stands at line 5, its call at line 6
abbrev main_with : Exp → Function
main_with word = record {
  name = codes "main";
  place = at 4;
  formals = 0;
  pointers = false ∷ [];
  objects = [];
  arrivals = [];
  gives_pointer = false;
  body = block (and_statement (compute (set_register 0 word (at 5)))
      (and_statement (gives (Some (call 3 (and_exp (register 0 false (at 6)) (and_exp (number (pos 4) (at 6)) no_exp)) false (at 6))) (at 6)) no_statement));
}

-- both functions are of the type, and the name of the first alone is taken
abbrev pointer : Pointer
pointer = record { kinds = false ∷ []; gives_pointer = false; place = at 5; targets = 0 ∷ [] }

abbrev program_with : Exp → Program
program_with word = record { functions = twice ∷ next ∷ main_with word ∷ []; pointers = pointer ∷ []; sites = []; globals = []; global_kinds = []; global_bases = [] }

-- one function more, which tests the one that is taken
pub one_chooser : resolved (program_with (number (pos 1) (at 5))) ≡ record {
  functions = twice ∷ next ∷ main_with (number (pos 1) (at 5)) ∷ record {
    name = chooser_name 1;
    place = at 5;
    formals = 2;
    pointers = false ∷ false ∷ [];
    objects = [];
    arrivals = [];
    gives_pointer = false;
    body = block (and_statement (branch (binary binary_op.Equal (register 0 false (at 5)) (number (pos 1) (at 5)) (at 5)) (gives (Some (call 0 (and_exp (register 1 false (at 5)) no_exp) false (at 5))) (at 5)) (at 5))
        (and_statement (compute (load (null (at 5)) false (at 5))) no_statement));
  } ∷ [];
  pointers = [];
  sites = [];
  globals = [];
  global_kinds = [];
  global_bases = [];
}
one_chooser = refl

-- `main`, the call through the pointer and `twice` each make a Mark
abbrev called_events : List Event
called_events = done action.Mark [] (pos 0) ∷ done action.Mark [] (pos 0) ∷ done action.Mark [] (pos 0) ∷ done (action.Operate op.HaltAll object_id.Halt) [] (pos 0) ∷ []

abbrev answers : List ℤ
answers = pos 0 ∷ pos 0 ∷ pos 0 ∷ pos 0 ∷ pos 0 ∷ []

pub twice_is_called : events (run_of (program_with (number (pos 1) (at 5))) setup 0) answers ≡ called_events
twice_is_called = refl

pub twice_is_chosen : events (run_of (resolved (program_with (number (pos 1) (at 5)))) setup 0) answers ≡ called_events
twice_is_chosen = refl

-- a pointer to `next`, whose name is taken nowhere, traps where the pointer is declared, and so does a null pointer
abbrev trap_events : List Event
trap_events = done action.Mark [] (pos 0) ∷ done action.Mark [] (pos 0) ∷ trapped trap.BadDereference 5 ∷ []

pub next_is_no_target : events (run_of (program_with (number (pos 2) (at 5))) setup 0) answers ≡ trap_events
next_is_no_target = refl

pub next_is_not_chosen : events (run_of (resolved (program_with (number (pos 2) (at 5)))) setup 0) answers ≡ trap_events
next_is_not_chosen = refl

pub null_is_no_target : events (run_of (program_with (number (pos 0) (at 5))) setup 0) answers ≡ trap_events
null_is_no_target = refl

-- at the limit a target's own Mark traps there too
pub limit_at_target : events (run_of (program_with (number (pos 1) (at 5))) (record { slots = 1; cells = 1024; limit = 2; input = [] }) 0) answers ≡ done action.Mark [] (pos 0) ∷ done action.Mark [] (pos 0) ∷ trapped trap.Limit 5 ∷ []
limit_at_target = refl
