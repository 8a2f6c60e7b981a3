-- The levels of declarators, and of the parameters of a pointer to a function.
use Rattle.std.proofs.Common.{ℕ, [], ◌∷◌, refl}
use Rattle.c_lexer.specs.declared.token.Kind.TheVariants as kind
use Rattle.c_lexer.specs.declared.token.Punct.{Punct}
use Rattle.c_lexer.specs.declared.token.Punct.TheVariants as punct
use Rattle.c_lexer.specs.declared.token.Word.TheVariants as word
use Rattle.c_tree.specs.declared.name.Name.{Name}
use Rattle.c_tree.specs.declared.ctype.Specifier.TheVariants as specifier
use Rattle.c_tree.specs.Tree.{Formals, no_formals, formal_pointer, listed_formals, listed_row, declared, declared_pointer}
use Rattle.rr_base.specs.declared.position.Position.{Position}
use Rattle.rr_base.specs.Positions.{position_at}
use Rattle.c_print.specs.Kinds.{p, w}
use Rattle.c_grammar.specs.Marks.{Mark, mark}
use Rattle.c_grammar.specs.Grammar.{OfFormals, OfDeclared}

abbrev at : Position
at = position_at 1 1

abbrev f : Name
f = record { text = 102 ∷ []; at = at }

abbrev name_mark : ℕ → Mark
name_mark l = mark (kind.Name (102 ∷ [])) at l

abbrev sign : Punct → ℕ → Mark
sign x l = mark (p x) at l

-- `*f` in a context at level 3: the star of an object raises the level
object_row : OfDeclared 3 (declared 1 f []) (sign punct.Star 4 ∷ name_mark 4 ∷ []) []
object_row = (name_mark 4 ∷ [], (name_mark 4 ∷ [], (at, refl), refl), ([], refl, refl))

-- `*(*f)()` there: the stars raise nothing, and the parameters stand one level deeper with their parentheses
pointer_row : OfDeclared 3 (declared_pointer 1 f no_formals) (sign punct.Star 3 ∷ sign punct.OpenParen 3 ∷ sign punct.Star 3 ∷ name_mark 3 ∷ sign punct.CloseParen 3 ∷ sign punct.OpenParen 4 ∷ sign punct.CloseParen 4 ∷ []) []
pointer_row =
    let m5 = sign punct.CloseParen 4 ∷ [] in
    let m4 = sign punct.OpenParen 4 ∷ m5 in
    let m3 = sign punct.CloseParen 3 ∷ m4 in
    let m2 = name_mark 3 ∷ m3 in
    let m1 = sign punct.Star 3 ∷ m2 in
    let m0 = sign punct.OpenParen 3 ∷ m1 in
    (m0, (m0, (at, refl), refl), (m1, (at, refl), (m2, (at, refl), (m3, refl, (m4, (at, refl), (m5, (at, refl), (m5, refl, (at, refl))))))))

abbrev nested : Formals
nested = listed_formals (listed_row (formal_pointer (specifier.Int at) 0 f no_formals at ∷ []))

-- `int (*f)()` as a parameter at level 4, whose own parameters stand at level 5
nested_row : OfFormals 4 nested (mark (w word.Int) at 4 ∷ sign punct.OpenParen 4 ∷ sign punct.Star 4 ∷ name_mark 4 ∷ sign punct.CloseParen 4 ∷ sign punct.OpenParen 5 ∷ sign punct.CloseParen 5 ∷ []) []
nested_row =
    let m5 = sign punct.CloseParen 5 ∷ [] in
    let m4 = sign punct.OpenParen 5 ∷ m5 in
    let m3 = sign punct.CloseParen 4 ∷ m4 in
    let m2 = name_mark 4 ∷ m3 in
    let m1 = sign punct.Star 4 ∷ m2 in
    let m0 = sign punct.OpenParen 4 ∷ m1 in
    (refl, ([], (refl, (m0, refl, (m0, refl, (m1, (at, refl), (m2, (at, refl), (m3, refl, (m4, (at, refl), (m5, (at, refl), (m5, refl, (at, refl)))))))))), refl))
