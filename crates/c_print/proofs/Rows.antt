-- Pointers to functions as they print.
use Rattle.std.proofs.Common.{◌≡◌, List, [], ◌∷◌, None, refl}
use Rattle.c_lexer.specs.declared.token.Kind.TheVariants as kind
use Rattle.c_lexer.specs.declared.token.Punct.TheVariants as punct
use Rattle.c_lexer.specs.declared.token.Word.TheVariants as word
use Rattle.c_tree.specs.declared.name.Name.{Name}
use Rattle.c_tree.specs.declared.ctype.Specifier.TheVariants as specifier
use Rattle.c_tree.specs.Tree.{Formals, formal, void_formals, listed_formals, listed_row, declared_pointer}
use Rattle.rr_base.specs.declared.position.Position.{Position}
use Rattle.rr_base.specs.Positions.{position_at}
use Rattle.c_print.specs.Kinds.{p, w, declared_kinds}

abbrev at : Position
at = position_at 1 1

abbrev f : Name
f = record { text = 102 ∷ []; at = at }

-- `*(*f)(void)`
without : declared_kinds (declared_pointer 1 f void_formals) ≡ p punct.Star ∷ p punct.OpenParen ∷ p punct.Star ∷ kind.Name (102 ∷ []) ∷ p punct.CloseParen ∷ p punct.OpenParen ∷ w word.Void ∷ p punct.CloseParen ∷ []
without = refl

-- an `int`, and a pointer to it
abbrev two : Formals
two = listed_formals (listed_row (formal (specifier.Int at) 0 None at ∷ formal (specifier.Int at) 1 None at ∷ []))

-- `(*f)(int, int *)`
with_two : declared_kinds (declared_pointer 0 f two)
    ≡ p punct.OpenParen ∷ p punct.Star ∷ kind.Name (102 ∷ []) ∷ p punct.CloseParen ∷ p punct.OpenParen ∷ w word.Int ∷ p punct.Comma ∷ w word.Int ∷ p punct.Star ∷ p punct.CloseParen ∷ []
with_two = refl
