-- What single tokens are.
use Rattle.std.proofs.Common.{◌≡◌, ◌==◌, ℕ, Bool, true, false, List, [], ◌∷◌, Option, Some, None, is_some, refl, sym, ◌∙◌, ap}
use denote.Enum.Bare.{sameb}
use denote.Enum.Declared.{tag_of}
use Rattle.c_lexer.specs.contracts.token.Punct.{the_type}
use Rattle.c_lexer.specs.declared.token.Punct.{Punct}
use Rattle.c_lexer.specs.declared.token.Punct.TheVariants as punct
use Rattle.c_grammar.specs.Marks.{Lexeme}
use Rattle.c_grammar.specs.Parse.{Class, punct_code, some_if, grab, is_of, Syntax, Stuck, token, taken, passes}

tag_code : (x : Punct) → tag_of the_type x ≡ punct_code x
tag_code punct.Comma = refl
tag_code _ = refl

some_if-is : (b : Bool) → is_some (some_if b) ≡ b
some_if-is true = refl
some_if-is false = refl

-- the derived test is that on the codes
pub punct_same : (x y : Punct) → sameb the_type x y ≡ is_some (some_if (punct_code x == punct_code y))
punct_same x y = ap (λ n. n == tag_of the_type y) (tag_code x) ∙ ap (λ n. punct_code x == n) (tag_code y) ∙ sym (some_if-is (punct_code x == punct_code y))

taken_none : {B : Type 0} (limit l : ℕ) (o : Option B) (t : Lexeme) (ts : List Lexeme) → is_some o ≡ false → taken limit l o t ts ≡ Stuck Syntax (t ∷ ts)
taken_none limit l None t ts e = refl
taken_none limit l (Some v) t ts e = cc

-- another token
pub token_none : (limit : ℕ) (c : Class) (l : ℕ) (ts : List Lexeme) → passes (is_of c) ts ≡ false → token limit c l ts ≡ Stuck Syntax ts
token_none limit c l [] e = refl
token_none limit c l (t ∷ ts) e = taken_none limit l (grab c t.kind) t ts e
