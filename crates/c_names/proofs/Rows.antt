-- Worked rows of the types of pointers to functions that a source declares, and of its functions.
use Rattle.std.proofs.Common.{◌≡◌, ℕ, Bool, true, false, List, [], ◌∷◌, map, Option, Some, None, refl, codes}
use Rattle.rr_base.specs.declared.position.Position.{Position}
use Rattle.rr_base.specs.Positions.{position_at}
use Rattle.c_tree.specs.declared.name.Name.{Name}
use Rattle.c_tree.specs.declared.ctype.Specifier.{Specifier}
use Rattle.c_tree.specs.declared.ctype.Specifier.TheVariants as specifier
use Rattle.c_tree.specs.Tree.{Formal, formal, formal_pointer, Formals, no_formals, void_formals, listed_formals, listed_row, declared_pointer, plain, declares, start_declares, block, for_loop, no_part, and_does, defined, prototype, fields, Outer, structure, function, objects}
use Rattle.c_types.specs.declared.types.BaseType.{BaseType}
use Rattle.c_types.specs.declared.types.BaseType.TheVariants as base
use Rattle.c_types.specs.declared.library.Wanted.{Wanted}
use Rattle.c_types.specs.declared.library.Wanted.TheVariants as wants
use Rattle.c_types.specs.declared.names.Signature.{Signature}
use Rattle.c_types.specs.declared.names.PointerType.{PointerType}
use Rattle.c_types.specs.Library.{fitting_type, an_int, to_one}
use Rattle.c_types.specs.Signatures.{pointer_numbered, type_numbered}
use Rattle.c_names.specs.Known.{known_at_start}

abbrev at : ℕ → Position
at column = position_at 1 column

abbrev n : List ℕ → ℕ → Name
n text column = record { text = text; at = at column }

abbrev int : Specifier
int = specifier.Int (at 0)

abbrev void : Specifier
void = specifier.Void (at 0)

-- a parameter without a name
abbrev unnamed : Specifier → ℕ → Formal
unnamed s stars = formal s stars None (at 0)

abbrev these : List Formal → Formals
these ps = listed_formals (listed_row ps)

-- struct s { int (*a)(int), (*b)(int); };
-- void f(void (*c)(), int (*d)(int));
-- int g(void) { for (void *(*e)(void *);;) {} }
-- void (*h)(void), *(*i)(int), (*j)(int (*k)(int));
abbrev source : List Outer
source =
    structure (n (codes "s") 1) (fields int (declared_pointer 0 (n (codes "a") 2) (these (unnamed int 0 ∷ [])) ∷ declared_pointer 0 (n (codes "b") 3) (these (unnamed int 0 ∷ [])) ∷ []) (at 0) ∷ []) ∷
    function false void 0 (n (codes "f") 4) (these (formal_pointer void 0 (n (codes "c") 5) no_formals (at 0) ∷ formal_pointer int 0 (n (codes "d") 6) (these (unnamed int 0 ∷ [])) (at 0) ∷ [])) prototype ∷
    function false int 0 (n (codes "g") 7) void_formals (defined (and_does (for_loop (start_declares (declares void (plain (declared_pointer 1 (n (codes "e") 8) (these (unnamed void 1 ∷ []))) ∷ []) (at 0))) None None (block no_part (at 0)) (at 0)) no_part) (at 0)) ∷
    objects false void (plain (declared_pointer 0 (n (codes "h") 9) void_formals) ∷ plain (declared_pointer 1 (n (codes "i") 10) (these (unnamed int 0 ∷ []))) ∷ plain (declared_pointer 0 (n (codes "j") 11) (these (formal_pointer int 0 (n (codes "k") 12) (these (unnamed int 0 ∷ [])) (at 0) ∷ []))) ∷ []) (at 0) ∷
    []

abbrev typed : ℕ → BaseType → List Wanted → Signature
typed stars b ws = record { result = Some (record { stars = stars; base = b }); params = ws }

abbrev shown : PointerType → Signature × ℕ
shown t = (t.signature, t.at.column)

-- the types of a, c, e, i and j; that of j has a fault, since a pointer to functions is passed
pub row_pointers : map shown (known_at_start source).pointers
    ≡ (typed 0 base.Int (an_int ∷ []), 2) ∷ (typed 0 base.Void [], 5) ∷ (typed 1 base.Void (to_one base.Void ∷ []), 8) ∷ (typed 1 base.Void (an_int ∷ []), 10) ∷ (typed 0 base.Void (wants.Anything ∷ []), 11) ∷ []
row_pointers = refl

-- of f, whose parameters have the types 1 and 0, and of g
pub row_functions : (known_at_start source).function_types
    ≡ typed 0 base.Void (fitting_type 0 (base.Function 1) ∷ fitting_type 0 (base.Function 0) ∷ []) ∷ typed 0 base.Int [] ∷ []
row_functions = refl

abbrev numbers : Signature → Option ℕ × Option ℕ
numbers f = (pointer_numbered (known_at_start source) f, type_numbered (known_at_start source) f)

-- int (int), void (void), void *(int), and int (void) to which no pointer points; as functions the last one has a number
pub row_numbers : map numbers (typed 0 base.Int (an_int ∷ []) ∷ typed 0 base.Void [] ∷ typed 1 base.Void (an_int ∷ []) ∷ typed 0 base.Int [] ∷ typed 0 base.Void (wants.Anything ∷ []) ∷ [])
    ≡ (Some 0, Some 0) ∷ (Some 1, Some 1) ∷ (Some 3, Some 3) ∷ (None, Some 6) ∷ (None, None) ∷ []
row_numbers = refl
