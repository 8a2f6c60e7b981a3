-- A core tree without pointers to functions: of each type of them becomes a function that chooses among the type's targets.
use Rattle.std.specs.Prelude.{ℕ, ◌+◌, Bool, false, pos, List, [], ◌∷◌, ◌++◌, length, map, codes, decimal, Some}
use Rattle.rr_base.specs.Texts.{Text}
use Rattle.rr_base.specs.declared.position.Position.{Position}
use Rattle.word_semantics.specs.declared.operator.BinaryOp.TheVariants as binary_op
use Rattle.core_tree.specs.Core.{Exp, number, null, register, load, binary, call, listed, Statement, block, compute, branch, gives, listed_statements, Function, Pointer, Program}

-- no C function has such a name
abbrev pub chooser_name : ℕ → Text
chooser_name n = codes "call#" ++ decimal n

-- the formals in the registers from r on, as arguments
abbrev pub formals_from : ℕ → List Bool → Position → List Exp
formals_from r [] at = []
formals_from r (pointer ∷ more) at = register r pointer at ∷ formals_from (r + 1) more at

-- `p == f` where p is the first formal and f the function of this number
abbrev pub is_pointer_to : Position → ℕ → Exp
is_pointer_to at n = binary binary_op.Equal (register 0 false at) (number (pos (n + 1)) at) at

-- `f(a, b)` where f is the function of this number and a, b are the formals after the first
abbrev pub target_called : Pointer → ℕ → Exp
target_called q n = call n (listed (formals_from 1 q.kinds q.place)) q.gives_pointer q.place

-- `if (p == f) return f(a, b);`
abbrev pub choice : Pointer → ℕ → Statement
choice q n = branch (is_pointer_to q.place n) (gives (Some (target_called q n)) q.place) q.place

-- a load through the null pointer
abbrev pub no_choice : Position → Statement
no_choice at = compute (load (null at) false at)

-- a choice for each target, in their order
abbrev pub choices : Pointer → List ℕ → List Statement
choices q ns = map (choice q) ns ++ no_choice q.place ∷ []

-- the whole
abbrev pub chooser_body : Pointer → Statement
chooser_body q = block (listed_statements (choices q q.targets))

-- whether each formal of a chooser is a pointer: first the pointer to a function, a whole number
abbrev pub chooser_kinds : Pointer → List Bool
chooser_kinds q = false ∷ q.kinds

-- the function that chooses for the type of this number, the first of which is 1; everything in it stands at one place
abbrev pub chooser : ℕ → Pointer → Function
chooser n q = record {
  name = chooser_name n;
  place = q.place;
  formals = length (chooser_kinds q);
  pointers = chooser_kinds q;
  objects = [];
  arrivals = [];
  gives_pointer = q.gives_pointer;
  body = chooser_body q;
}

-- for types that are numbered from n on
abbrev pub choosers : ℕ → List Pointer → List Function
choosers n [] = []
choosers n (q ∷ qs) = chooser n q ∷ choosers (n + 1) qs

-- A call through a pointer has the number that its type's chooser gets here, so no tree and no number changes.
abbrev pub resolved : Program → Program
resolved p = record p { functions = p.functions ++ choosers 1 p.pointers; pointers = [] }
