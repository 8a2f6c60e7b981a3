-- Worked rows of what objects start as: the first fault of each line of C, by its definition.
use Rattle.std.proofs.Common.{◌≡◌, ℕ, pos, Bool, true, false, List, [], ◌∷◌, map, Option, Some, None, refl, codes}
use Rattle.c_tree.specs.declared.expr.PrefixOp.TheVariants as prefix_op
use Rattle.c_tree.specs.Tree.{Exp, prefix, named, number, null, paren, Init, value, braces, mutex_start, rwlock_start, Inits, no_init, and_init}
use Rattle.rr_base.specs.declared.position.Position.{Position}
use Rattle.rr_base.specs.Positions.{position_at}
use Rattle.c_types.specs.declared.types.BaseType.TheVariants as base
use Rattle.c_types.specs.declared.types.ObjectType.{ObjectType}
use Rattle.c_types.specs.declared.names.Signature.{Signature}
use Rattle.c_types.specs.declared.fault.FaultKind.{FaultKind}
use Rattle.c_types.specs.declared.fault.FaultKind.TheVariants as fault
use Rattle.c_types.specs.declared.fault.Found.{Found}
use Rattle.c_types.specs.Types.{bare, int_type, pointer_to, array_of}
use Rattle.c_types.specs.Constants.{constant_named}
use Rattle.c_types.specs.Library.{library_named}
use Rattle.c_types.specs.Scopes.{Known, variable, function_of}
use Rattle.c_types.specs.Found.{first_among, found_at}
use Rattle.c_programs.specs.Initials.{start_faults}

-- the `=` stands at column 1
abbrev at : ℕ → Position
at column = position_at 1 column

-- `int (void)`
abbrev of_nothing : Signature
of_nothing = record { result = Some (record { stars = 0; base = base.Int }); params = [] }

abbrev to_function : ObjectType
to_function = bare (base.Function 0)

-- after `struct s { int m; int *q; }; int x; int a[3]; int f(void); int (*g)(void);`
abbrev known : Known
known = record {
  struct_names = codes "s" ∷ [];
  structs = ((codes "m", Some int_type) ∷ (codes "q", Some (pointer_to int_type)) ∷ []) ∷ [];
  sizes = 2 ∷ [];
  defined = codes "f" ∷ [];
  begun = [];
  pointers = record { signature = of_nothing; at = at 76 } ∷ [];
  function_types = of_nothing ∷ [];
  global_cells = 4;
  scopes = ((codes "x", variable (Some int_type)) ∷ (codes "a", variable (Some (array_of 3 int_type))) ∷ (codes "f", function_of of_nothing) ∷ (codes "g", variable (Some to_function)) ∷ []) ∷ [];
}

abbrev k : ℕ → ℕ → Init
k m column = value (number (pos m) (at column))

abbrev x : ℕ → Exp
x column = named (codes "x") (at column)

abbrev named_at : List ℕ → ℕ → Exp
named_at name column = named name (at column)

abbrev to_x : Init
to_x = value (prefix prefix_op.Address (x 4) (at 3))

abbrev in_braces : Inits → Init
in_braces is = braces is false (at 2)

abbrev one : Init → Inits
one i = and_init i no_init

abbrev struct_type : ObjectType
struct_type = bare (base.Struct 0)

abbrev started : Bool × (Option ObjectType × Init) → Option Found
started r = first_among None (start_faults known r.0 r.1.0 (at 1) r.1.1)

abbrev fault_at : FaultKind → ℕ → Option Found
fault_at kind column = Some (found_at kind (at column))

pub start_rows : List ((Bool × (Option ObjectType × Init)) × Option Found)
start_rows =
    -- int = 1; int = {1}; int = {1, 2}; int[2] = {1}; int[2] = {1, 2, 3}; int[2] = 1
    ((true, (Some int_type, k 1 3)), None) ∷
    ((true, (Some int_type, in_braces (one (k 1 3)))), None) ∷
    ((true, (Some int_type, in_braces (and_init (k 1 3) (one (k 2 5))))), fault_at fault.TypeMismatch 1) ∷
    ((true, (Some (array_of 2 int_type), in_braces (one (k 1 3)))), None) ∷
    ((true, (Some (array_of 2 int_type), in_braces (and_init (k 1 3) (and_init (k 2 5) (one (k 3 7)))))), fault_at fault.TypeMismatch 1) ∷
    ((true, (Some (array_of 2 int_type), k 1 3)), fault_at fault.TypeMismatch 1) ∷
    -- struct s = {1, &x}; struct s = {&x}; struct s = {1, &x, 2}; struct s[1] = {{1}}; struct s[1] = {1}
    ((true, (Some struct_type, in_braces (and_init (k 1 3) (one to_x)))), None) ∷
    ((true, (Some struct_type, in_braces (one to_x))), fault_at fault.TypeMismatch 1) ∷
    ((true, (Some struct_type, in_braces (and_init (k 1 3) (and_init to_x (one (k 2 7)))))), fault_at fault.TypeMismatch 1) ∷
    ((true, (Some (array_of 1 struct_type), in_braces (one (in_braces (one (k 1 4)))))), None) ∷
    ((true, (Some (array_of 1 struct_type), in_braces (one (k 1 3)))), fault_at fault.TypeMismatch 1) ∷
    -- a global and a local `int = x`; global pointers = x, &x, a, NULL, 0, 1
    ((true, (Some int_type, value (x 3))), fault_at fault.NotConstant 3) ∷
    ((false, (Some int_type, value (x 3))), None) ∷
    ((true, (Some (pointer_to int_type), value (x 3))), fault_at fault.TypeMismatch 1) ∷
    ((true, (Some (pointer_to int_type), to_x)), None) ∷
    ((true, (Some (pointer_to int_type), value (named (codes "a") (at 3)))), None) ∷
    ((true, (Some (pointer_to int_type), value (null (at 3)))), None) ∷
    ((true, (Some (pointer_to int_type), k 0 3)), None) ∷
    ((true, (Some (pointer_to int_type), k 1 3)), fault_at fault.TypeMismatch 1) ∷
    -- mutex = PTHREAD_MUTEX_INITIALIZER; int = PTHREAD_MUTEX_INITIALIZER; mutex = PTHREAD_RWLOCK_INITIALIZER; read-write lock = that; mutex = {0}
    ((true, (Some (bare base.Mutex), mutex_start (at 3))), None) ∷
    ((true, (Some int_type, mutex_start (at 3))), fault_at fault.TypeMismatch 1) ∷
    ((true, (Some (bare base.Mutex), rwlock_start (at 3))), fault_at fault.TypeMismatch 1) ∷
    ((true, (Some (bare base.RwLock), rwlock_start (at 3))), None) ∷
    ((true, (Some (bare base.Mutex), in_braces (one (k 0 3)))), fault_at fault.TypeMismatch 1) ∷
    -- of a type that isn't known: {1, x} in a local, x in a global
    ((false, (None, in_braces (and_init (k 1 3) (one (value (x 5)))))), None) ∷
    ((true, (None, value (x 3))), fault_at fault.NotConstant 3) ∷
    -- a global pointer to functions = f, (f), {f}, NULL, 0, 1, x, g; a local one = g; int = f
    ((true, (Some to_function, value (named_at (codes "f") 3))), None) ∷
    ((true, (Some to_function, value (paren (named_at (codes "f") 4) (at 3)))), None) ∷
    ((true, (Some to_function, in_braces (one (value (named_at (codes "f") 4))))), None) ∷
    ((true, (Some to_function, value (null (at 3)))), None) ∷
    ((true, (Some to_function, k 0 3)), None) ∷
    ((true, (Some to_function, k 1 3)), fault_at fault.TypeMismatch 1) ∷
    ((true, (Some to_function, value (x 3))), fault_at fault.TypeMismatch 1) ∷
    ((true, (Some to_function, value (named_at (codes "g") 3))), fault_at fault.NotConstant 3) ∷
    ((false, (Some to_function, value (named_at (codes "g") 3))), None) ∷
    ((true, (Some int_type, value (named_at (codes "f") 3))), fault_at fault.TypeMismatch 1) ∷
    []

pub starts_are : map (λ r. started r.0) start_rows ≡ map (λ r. r.1) start_rows
unfolding constant_named library_named start_rows
starts_are = refl
