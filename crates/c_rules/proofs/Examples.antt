-- Worked rows of the rules on types: what each line of C is, by its definition.
use Rattle.std.proofs.Common.{◌≡◌, ℕ, pos, negsuc, Bool, true, false, List, [], ◌∷◌, map, Option, Some, None, Ok, Err, refl, codes}
use Rattle.rr_base.specs.declared.layout.CellKind.TheVariants as cell
use Rattle.rr_base.specs.declared.trap.Trap.TheVariants as trap
use Rattle.c_tree.specs.declared.name.Name.{Name}
use Rattle.c_tree.specs.declared.ctype.Specifier.TheVariants as specifier
use Rattle.c_tree.specs.declared.ctype.CType.{CType}
use Rattle.c_tree.specs.declared.expr.BinaryOp.{BinaryOp}
use Rattle.c_tree.specs.declared.expr.BinaryOp.TheVariants as op
use Rattle.c_tree.specs.declared.expr.PrefixOp.TheVariants as prefix_op
use Rattle.c_tree.specs.declared.expr.AssignOp.TheVariants as assign_op
use Rattle.c_types.specs.declared.types.BaseType.TheVariants as base
use Rattle.c_types.specs.declared.library.StarredType.{StarredType}
use Rattle.c_types.specs.declared.library.Wanted.{Wanted}
use Rattle.c_types.specs.declared.names.Signature.{Signature}
use Rattle.c_types.specs.declared.fault.FaultKind.{FaultKind}
use Rattle.c_types.specs.declared.fault.FaultKind.TheVariants as fault
use Rattle.c_types.specs.declared.fault.Found.{Found}
use Rattle.c_tree.specs.Tree.{Exp, comma, assign, conditional, binary, prefix, sizeof_exp, sizeof_type, cast, index, member, arrow, post_increment, named, call, number, letter, text, null, paren, Exps, no_exp, and_exp}
use Rattle.rr_base.specs.declared.position.Position.{Position}
use Rattle.rr_base.specs.Positions.{position_at}
use Rattle.c_types.specs.Types.{int_type, pointer_to, array_of, bare, layout_of_type, struct_kinds}
use Rattle.c_types.specs.Numbers.{Computed}
use Rattle.c_types.specs.Constants.{constant_named, is_constant, value_of}
use Rattle.c_types.specs.Scopes.{Known, variable, function_of}
use Rattle.c_types.specs.Library.{an_int, to_one, library_named}
use Rattle.c_types.specs.Found.{first_among, found_at}
use Rattle.c_rules.specs.Faults.{expression_faults}

-- after `struct p { int a; int *q; };` the layout of `struct p v[3];`
pub row_layout : layout_of_type (struct_kinds ((int_type ∷ pointer_to int_type ∷ []) ∷ [])) (array_of 3 (bare (base.Struct 0)))
    ≡ record { size = 6; element = 2; kinds = cell.Whole ∷ cell.Pointer ∷ cell.Whole ∷ cell.Pointer ∷ cell.Whole ∷ cell.Pointer ∷ [] }
row_layout = refl

-- ---- expressions, each token at its column of line 1

abbrev at : ℕ → Position
at column = position_at 1 column

abbrev n : List ℕ → ℕ → Exp
n name column = named name (at column)

abbrev k : ℕ → ℕ → Exp
k value column = number (pos value) (at column)

abbrev b : Exp → BinaryOp → ℕ → Exp → Exp
b left op column right = binary left op right (at column)

abbrev name_at : List ℕ → ℕ → Name
name_at name column = record { text = name; at = at column }

abbrev to_int : CType
to_int = record { specifier = specifier.Int (at 2); stars = 1; at = at 2 }

abbrev int : CType
int = record { specifier = specifier.Int (at 2); stars = 0; at = at 2 }

-- ---- constants

abbrev constant_row : Exp → Bool × Computed
constant_row e = (is_constant e, value_of (λ e. 3) e)

pub constant_rows : List (Exp × (Bool × Computed))
constant_rows =
    (b (k 7 1) op.Divide 2 (prefix prefix_op.Minus (k 2 4) (at 3)), (true, Ok (negsuc 2))) ∷
    (b (k 1 1) op.Divide 2 (k 0 3), (true, Err trap.DivideByZero)) ∷
    (b (k 0 1) op.LogicalAnd 2 (b (k 1 4) op.Divide 5 (k 0 6)), (true, Ok (pos 0))) ∷
    (conditional (k 1 1) (k 5 3) (b (k 1 5) op.ShiftLeft 6 (k 64 8)) (at 2), (true, Ok (pos 5))) ∷
    (b (k 1 1) op.ShiftLeft 2 (k 63 4), (true, Err trap.Overflow)) ∷
    (n (codes "EOF") 1, (true, Ok (negsuc 0))) ∷
    (b (sizeof_type int (at 1)) op.Add 11 (letter 65 (at 12)), (true, Ok (pos 68))) ∷
    (cast int (k 4 6) (at 1), (true, Ok (pos 4))) ∷
    (cast to_int (k 4 8) (at 1), (false, Ok (pos 4))) ∷
    (comma (k 1 1) (and_exp (k 2 3) no_exp) (at 2), (false, Ok (pos 0))) ∷
    (n (codes "x") 1, (false, Ok (pos 0))) ∷
    []

pub constants_are : map (λ r. constant_row r.0) constant_rows ≡ map (λ r. r.1) constant_rows
unfolding constant_named constant_rows
constants_are = refl

-- ---- types, after these declarations:
-- int x; int *p; void *v; int a[3]; struct s { int m; } t; struct s *q; struct later *l; pthread_mutex_t mu;
-- int f(int i) { .. } void *root(void *u) { .. } int never(void); int main(void) { .. } int (*g)(int); void (*h)();

abbrev typed : StarredType → List Wanted → Signature
typed t ws = record { result = Some t; params = ws }

abbrev int_of : List Wanted → Signature
int_of ws = typed (record { stars = 0; base = base.Int }) ws

abbrev f_type : Signature
f_type = int_of (an_int ∷ [])

abbrev root_type : Signature
root_type = typed (record { stars = 1; base = base.Void }) (to_one base.Void ∷ [])

abbrev void_type : Signature
void_type = typed (record { stars = 0; base = base.Void }) []

abbrev known : Known
known = record {
  struct_names = codes "s" ∷ codes "later" ∷ [];
  structs = ((codes "m", Some int_type) ∷ []) ∷ [];
  sizes = 1 ∷ [];
  defined = codes "f" ∷ codes "root" ∷ codes "main" ∷ [];
  begun = codes "f" ∷ codes "root" ∷ [];
  pointers = record { signature = f_type; at = at 90 } ∷ record { signature = void_type; at = at 105 } ∷ [];
  function_types = f_type ∷ root_type ∷ int_of [] ∷ int_of [] ∷ [];
  global_cells = 0;
  scopes = (
      (codes "x", variable (Some int_type)) ∷
      (codes "p", variable (Some (pointer_to int_type))) ∷
      (codes "v", variable (Some (pointer_to (bare base.Void)))) ∷
      (codes "a", variable (Some (array_of 3 int_type))) ∷
      (codes "t", variable (Some (bare (base.Struct 0)))) ∷
      (codes "q", variable (Some (pointer_to (bare (base.Struct 0))))) ∷
      (codes "l", variable (Some (pointer_to (bare (base.Struct 1))))) ∷
      (codes "mu", variable (Some (bare base.Mutex))) ∷
      (codes "f", function_of f_type) ∷
      (codes "root", function_of root_type) ∷
      (codes "never", function_of (int_of [])) ∷
      (codes "main", function_of (int_of [])) ∷
      (codes "g", variable (Some (bare (base.Function 0)))) ∷
      (codes "h", variable (Some (bare (base.Function 1)))) ∷
      []
      ) ∷ [];
}

abbrev judged : Exp → Option Found
judged e = first_among None (expression_faults known e)

abbrev fault_at : FaultKind → ℕ → Option Found
fault_at kind column = Some (found_at kind (at column))

abbrev one : Exp → Exps
one e = and_exp e no_exp

pub type_rows : List (Exp × Option Found)
type_rows =
    -- x + x, p + x, x + p, p - p, p - 0, p < NULL, v == p
    (b (n (codes "x") 1) op.Add 3 (n (codes "x") 5), None) ∷
    (b (n (codes "p") 1) op.Add 3 (n (codes "x") 5), None) ∷
    (b (n (codes "x") 1) op.Add 3 (n (codes "a") 5), None) ∷
    (b (n (codes "p") 1) op.Subtract 3 (n (codes "a") 5), None) ∷
    (b (n (codes "p") 1) op.Less 3 (null (at 5)), None) ∷
    (b (n (codes "v") 1) op.Equal 3 (n (codes "p") 6), None) ∷
    -- p * x, p + p, v + x, NULL + 1, p < q, p == x, p == 0
    (b (n (codes "p") 1) op.Multiply 3 (n (codes "x") 5), fault_at fault.TypeMismatch 3) ∷
    (b (n (codes "p") 1) op.Add 3 (n (codes "p") 5), fault_at fault.TypeMismatch 3) ∷
    (b (n (codes "v") 1) op.Add 3 (n (codes "x") 5), fault_at fault.TypeMismatch 3) ∷
    (b (null (at 1)) op.Add 6 (k 1 8), fault_at fault.TypeMismatch 6) ∷
    (b (n (codes "p") 1) op.Less 3 (n (codes "q") 5), fault_at fault.TypeMismatch 3) ∷
    (b (n (codes "p") 1) op.Equal 3 (n (codes "x") 6), fault_at fault.TypeMismatch 3) ∷
    (b (n (codes "p") 1) op.Equal 3 (k 0 6), None) ∷
    -- an operand with a fault: y + x is a fault of y alone, p * y one of the operator, which stands before y
    (b (n (codes "y") 1) op.Add 3 (n (codes "x") 5), fault_at fault.UnknownName 1) ∷
    (b (n (codes "p") 1) op.Multiply 3 (n (codes "y") 5), fault_at fault.TypeMismatch 3) ∷
    -- x = p, p = 0, p = v, a = p, 5 = x, (y + 1) = x
    (assign (n (codes "x") 1) assign_op.Assign (n (codes "p") 5) (at 3), fault_at fault.TypeMismatch 3) ∷
    (assign (n (codes "p") 1) assign_op.Assign (k 0 5) (at 3), None) ∷
    (assign (n (codes "p") 1) assign_op.Assign (n (codes "v") 5) (at 3), None) ∷
    (assign (n (codes "a") 1) assign_op.Assign (n (codes "p") 5) (at 3), fault_at fault.TypeMismatch 3) ∷
    (assign (k 5 1) assign_op.Assign (n (codes "x") 5) (at 3), fault_at fault.NotPlace 3) ∷
    -- &x, &5, &(y + 1), *x, *v, *p, x[p], a[x]
    (prefix prefix_op.Address (n (codes "x") 2) (at 1), None) ∷
    (prefix prefix_op.Address (k 5 2) (at 1), fault_at fault.NotPlace 1) ∷
    (prefix prefix_op.Address (paren (b (n (codes "y") 3) op.Add 5 (k 1 7)) (at 2)) (at 1), fault_at fault.NotPlace 1) ∷
    (prefix prefix_op.Indirect (n (codes "x") 2) (at 1), fault_at fault.TypeMismatch 1) ∷
    (prefix prefix_op.Indirect (n (codes "v") 2) (at 1), fault_at fault.TypeMismatch 1) ∷
    (index (n (codes "x") 1) (n (codes "p") 3) (at 2), None) ∷
    (index (n (codes "x") 1) (n (codes "x") 3) (at 2), fault_at fault.TypeMismatch 2) ∷
    -- t.m, t.n, x.m, q->m, l->m, l + 1, sizeof *l, sizeof(struct later)
    (member (n (codes "t") 1) (name_at (codes "m") 3) (at 2), None) ∷
    (member (n (codes "t") 1) (name_at (codes "n") 3) (at 2), fault_at fault.UnknownName 3) ∷
    (member (n (codes "x") 1) (name_at (codes "m") 3) (at 2), fault_at fault.TypeMismatch 2) ∷
    (arrow (n (codes "q") 1) (name_at (codes "m") 4) (at 2), None) ∷
    (arrow (n (codes "l") 1) (name_at (codes "m") 4) (at 2), fault_at fault.UnknownName 4) ∷
    (b (n (codes "l") 1) op.Add 3 (k 1 5), None) ∷
    (sizeof_exp (prefix prefix_op.Indirect (n (codes "l") 9) (at 8)) (at 1), fault_at fault.TypeMismatch 1) ∷
    (sizeof_type (record { specifier = specifier.Struct (name_at (codes "later") 15) (at 8); stars = 0; at = at 8 }) (at 1), fault_at fault.UnknownName 15) ∷
    -- x ? p : NULL, t ? x : x, x ? p : x, mu (as a value before a comma)
    (conditional (n (codes "x") 1) (n (codes "p") 5) (null (at 9)) (at 3), None) ∷
    (conditional (n (codes "t") 1) (n (codes "x") 5) (n (codes "x") 9) (at 3), fault_at fault.TypeMismatch 3) ∷
    (conditional (n (codes "x") 1) (n (codes "p") 5) (n (codes "x") 9) (at 3), fault_at fault.TypeMismatch 3) ∷
    (comma (n (codes "x") 1) (one (n (codes "mu") 4)) (at 2), fault_at fault.TypeMismatch 4) ∷
    -- (int *)x, (int *)malloc(x), p = malloc(x), x = malloc(x), v = malloc(x)
    (cast to_int (n (codes "x") 8) (at 1), None) ∷
    (cast to_int (call (codes "malloc") (one (n (codes "x") 15)) (at 8)) (at 1), None) ∷
    (assign (n (codes "p") 1) assign_op.Assign (paren (call (codes "malloc") (one (n (codes "x") 13)) (at 6)) (at 5)) (at 3), None) ∷
    (assign (n (codes "x") 1) assign_op.Assign (call (codes "malloc") (one (n (codes "x") 12)) (at 5)) (at 3), fault_at fault.OutOfProfile 5) ∷
    (assign (n (codes "v") 1) assign_op.Assign (call (codes "malloc") (one (n (codes "x") 12)) (at 5)) (at 3), fault_at fault.OutOfProfile 5) ∷
    -- f(x), f(p), f(), f, x(), never(), EOF(), puts, nobody()
    (call (codes "f") (one (n (codes "x") 3)) (at 1), None) ∷
    (call (codes "f") (one (n (codes "p") 3)) (at 1), fault_at fault.TypeMismatch 1) ∷
    (call (codes "f") no_exp (at 1), fault_at fault.BadCall 1) ∷
    (n (codes "f") 1, None) ∷
    (call (codes "x") no_exp (at 1), fault_at fault.TypeMismatch 1) ∷
    (call (codes "never") no_exp (at 1), fault_at fault.UnknownName 1) ∷
    (n (codes "puts") 1, fault_at fault.TypeMismatch 1) ∷
    (call (codes "nobody") no_exp (at 1), fault_at fault.UnknownName 1) ∷
    -- printf("%d", x), printf("%d"), printf("%s", x), printf(x), printf("%d", p), x + "a"
    (call (codes "printf") (and_exp (text (codes "%d") (at 8)) (one (n (codes "x") 14))) (at 1), None) ∷
    (call (codes "printf") (one (text (codes "%lld") (at 8))) (at 1), fault_at fault.BadCall 1) ∷
    (call (codes "printf") (and_exp (text (codes "%s") (at 8)) (one (n (codes "x") 14))) (at 1), fault_at fault.OutOfProfile 8) ∷
    (call (codes "printf") (one (n (codes "x") 8)) (at 1), fault_at fault.OutOfProfile 8) ∷
    (call (codes "printf") (and_exp (text (codes "%d") (at 8)) (one (n (codes "p") 14))) (at 1), fault_at fault.TypeMismatch 1) ∷
    (b (n (codes "x") 1) op.Add 3 (text (codes "a") (at 5)), fault_at fault.BadCall 5) ∷
    -- pthread_create(p, NULL, root, v), with f, with (root), with x for NULL
    (call (codes "pthread_create") (and_exp (n (codes "p") 16) (and_exp (null (at 19)) (and_exp (n (codes "root") 25) (one (n (codes "v") 31))))) (at 1), None) ∷
    (call (codes "pthread_create") (and_exp (n (codes "p") 16) (and_exp (null (at 19)) (and_exp (n (codes "f") 25) (one (n (codes "v") 28))))) (at 1), fault_at fault.BadRoot 25) ∷
    (call (codes "pthread_create") (and_exp (n (codes "p") 16) (and_exp (null (at 19)) (and_exp (paren (n (codes "root") 26) (at 25)) (one (n (codes "v") 33))))) (at 1), fault_at fault.BadRoot 25) ∷
    (call (codes "pthread_create") (and_exp (n (codes "p") 16) (and_exp (n (codes "x") 19) (and_exp (n (codes "root") 22) (one (n (codes "v") 28))))) (at 1), fault_at fault.OutOfProfile 19) ∷
    (call (codes "pthread_mutex_lock") (one (prefix prefix_op.Address (n (codes "mu") 21) (at 20))) (at 1), None) ∷
    -- pthread_create(p, NULL, g, v)
    (call (codes "pthread_create") (and_exp (n (codes "p") 16) (and_exp (null (at 19)) (and_exp (n (codes "g") 25) (one (n (codes "v") 28))))) (at 1), fault_at fault.BadRoot 25) ∷
    []

pub types_are : map (λ r. judged r.0) type_rows ≡ map (λ r. r.1) type_rows
unfolding constant_named library_named type_rows
types_are = refl

-- pointers to functions, and functions' names as values
pub function_rows : List (Exp × Option Found)
function_rows =
    -- never, main, g = f, g = root, g = never, g = 0, g = NULL, g = 1, p = g, g = g = f
    (n (codes "never") 1, fault_at fault.UnknownName 1) ∷
    (n (codes "main") 1, fault_at fault.BadCall 1) ∷
    (assign (n (codes "g") 1) assign_op.Assign (n (codes "f") 5) (at 3), None) ∷
    (assign (n (codes "g") 1) assign_op.Assign (n (codes "root") 5) (at 3), fault_at fault.TypeMismatch 3) ∷
    (assign (n (codes "g") 1) assign_op.Assign (n (codes "never") 5) (at 3), fault_at fault.UnknownName 5) ∷
    (assign (n (codes "g") 1) assign_op.Assign (k 0 5) (at 3), None) ∷
    (assign (n (codes "g") 1) assign_op.Assign (null (at 5)) (at 3), None) ∷
    (assign (n (codes "g") 1) assign_op.Assign (k 1 5) (at 3), fault_at fault.TypeMismatch 3) ∷
    (assign (n (codes "p") 1) assign_op.Assign (n (codes "g") 5) (at 3), fault_at fault.TypeMismatch 3) ∷
    (assign (n (codes "g") 1) assign_op.Assign (assign (n (codes "g") 5) assign_op.Assign (n (codes "f") 9) (at 7)) (at 3), None) ∷
    -- g == f, g != NULL, g == h, f == root, root == root, g == p, g < f, g < NULL, g + 1, g += 1, g++
    (b (n (codes "g") 1) op.Equal 3 (n (codes "f") 6), None) ∷
    (b (n (codes "g") 1) op.NotEqual 3 (null (at 6)), None) ∷
    (b (n (codes "g") 1) op.Equal 3 (n (codes "h") 6), fault_at fault.TypeMismatch 3) ∷
    (b (n (codes "f") 1) op.Equal 3 (n (codes "root") 6), fault_at fault.TypeMismatch 3) ∷
    (b (n (codes "root") 1) op.Equal 6 (n (codes "root") 9), None) ∷
    (b (n (codes "g") 1) op.Equal 3 (n (codes "p") 6), fault_at fault.TypeMismatch 3) ∷
    (b (n (codes "g") 1) op.Less 3 (n (codes "f") 5), fault_at fault.TypeMismatch 3) ∷
    (b (n (codes "g") 1) op.Less 3 (null (at 5)), fault_at fault.TypeMismatch 3) ∷
    (b (n (codes "g") 1) op.Add 3 (k 1 5), fault_at fault.TypeMismatch 3) ∷
    (assign (n (codes "g") 1) assign_op.Add (k 1 6) (at 3), fault_at fault.TypeMismatch 3) ∷
    (post_increment (n (codes "g") 1) (at 2), fault_at fault.TypeMismatch 2) ∷
    -- *g, &g, &f, f = 0, (int)g, (int *)f, !g, g && f, sizeof(f)
    (prefix prefix_op.Indirect (n (codes "g") 2) (at 1), fault_at fault.TypeMismatch 1) ∷
    (prefix prefix_op.Address (n (codes "g") 2) (at 1), fault_at fault.TypeMismatch 1) ∷
    (prefix prefix_op.Address (n (codes "f") 2) (at 1), fault_at fault.NotPlace 1) ∷
    (assign (n (codes "f") 1) assign_op.Assign (k 0 5) (at 3), fault_at fault.NotPlace 3) ∷
    (cast int (n (codes "g") 6) (at 1), fault_at fault.TypeMismatch 1) ∷
    (cast to_int (n (codes "f") 8) (at 1), fault_at fault.TypeMismatch 1) ∷
    (prefix prefix_op.Not (n (codes "g") 2) (at 1), None) ∷
    (b (n (codes "g") 1) op.LogicalAnd 3 (n (codes "f") 6), None) ∷
    (sizeof_exp (paren (n (codes "f") 8) (at 7)) (at 1), None) ∷
    -- x ? f : NULL, x ? 0 : g, x ? g : f, x ? f : root, g ? x : x
    (conditional (n (codes "x") 1) (n (codes "f") 5) (null (at 9)) (at 3), None) ∷
    (conditional (n (codes "x") 1) (k 0 5) (n (codes "g") 9) (at 3), None) ∷
    (conditional (n (codes "x") 1) (n (codes "g") 5) (n (codes "f") 9) (at 3), None) ∷
    (conditional (n (codes "x") 1) (n (codes "f") 5) (n (codes "root") 9) (at 3), fault_at fault.TypeMismatch 3) ∷
    (conditional (n (codes "g") 1) (n (codes "x") 5) (n (codes "x") 9) (at 3), None) ∷
    -- g(x), g(x, x), g(p), h(), h() + 1, printf("%d", g)
    (call (codes "g") (one (n (codes "x") 3)) (at 1), None) ∷
    (call (codes "g") (and_exp (n (codes "x") 3) (one (n (codes "x") 6))) (at 1), fault_at fault.BadCall 1) ∷
    (call (codes "g") (one (n (codes "p") 3)) (at 1), fault_at fault.TypeMismatch 1) ∷
    (call (codes "h") no_exp (at 1), None) ∷
    (b (call (codes "h") no_exp (at 1)) op.Add 5 (k 1 7), fault_at fault.TypeMismatch 5) ∷
    (call (codes "printf") (and_exp (text (codes "%d") (at 8)) (one (n (codes "g") 14))) (at 1), fault_at fault.TypeMismatch 1) ∷
    []

pub functions_are : map (λ r. judged r.0) function_rows ≡ map (λ r. r.1) function_rows
unfolding constant_named library_named function_rows
functions_are = refl
