-- What it is to parse: the one tree that the grammar has for the tokens, or the first token that fits none.
use Rattle.std.specs.Prelude.{◌≡◌, ℕ, ◌<◌, List, [], ◌∷◌, ◌++◌}
use Rattle.c_tree.specs.Tree.{Outer}
use Rattle.c_grammar.specs.Marks.{Lexeme, Mark, erase, AllLow}
use Rattle.c_grammar.specs.Grammar.{OfProgram}
use Rattle.c_grammar.specs.Phrase as phrase
use Rattle.c_grammar.specs.Parse.{Fault, Syntax, Nesting, Outcome, Got, Stuck, Spent}
use Rattle.c_grammar.specs.Rules.{read}

-- these are the tokens of the tree, with their levels
abbrev pub IsProgram : List Outer → List Mark → Type 0
IsProgram os ms = OfProgram os ms []

-- some program begins with these tokens at these levels
abbrev pub Begins : List Mark → Type 0
Begins front = (os : List Outer) × (more : List Mark) × IsProgram os (front ++ more)

-- there are tokens that complete these to a program's
abbrev pub IsViable : List Lexeme → Type 0
IsViable ts = (os : List Outer) × (ms : List Mark) × (more : List Lexeme) × IsProgram os ms × (erase ms ≡ ts ++ more)

-- the fault at the first token of the rest, where the front was read
abbrev pub IsFaultOf : ℕ → Fault → List Mark → List Lexeme → Type 0
-- at the end: some program begins with the tokens, and none has just these
IsFaultOf limit Syntax front [] = Begins front × ((os : List Outer) (ms : List Mark) → IsProgram os ms → erase ms ≡ erase front → ⊥)
-- some program begins with the front, and none with this token too
IsFaultOf limit Syntax front (t ∷ rest) = Begins front × (IsViable (erase front ++ t ∷ []) → ⊥)
IsFaultOf limit Nesting front [] = ⊥
-- some program begins with this token too, and there it stands above the limit
IsFaultOf limit Nesting front (t ∷ rest) = (v : ℕ) × (limit < v) × Begins (front ++ record { lexeme = t; level = v } ∷ [])

-- what an outcome claims of all the tokens; `Spent` is never right
abbrev pub Says : ℕ → List Lexeme → Outcome (List Outer) → Type 0
Says limit ts (Got os rest) = (rest ≡ []) × (ms : List Mark) × IsProgram os ms × AllLow limit ms × (ts ≡ erase ms)
Says limit ts (Stuck f rest) = (front : List Mark) × AllLow limit front × (ts ≡ erase front ++ rest) × IsFaultOf limit f front rest
Says limit ts Spent = ⊥

-- the whole source
abbrev pub parsed : ℕ → List Lexeme → Outcome (List Outer)
parsed limit ts = read limit (phrase.program []) ts

-- an outcome that is right, and that misses no tree within the limit
pub record IsExact (limit : ℕ) (ts : List Lexeme) (o : Outcome (List Outer)) : Type 0 where
  pub says : Says limit ts o
  -- what has its tokens within the limit is found
  pub only : (os : List Outer) (ms : List Mark) → IsProgram os ms → AllLow limit ms → ts ≡ erase ms → o ≡ Got os []
