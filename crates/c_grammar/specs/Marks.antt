-- Tokens with the levels at which they stand, and what it is to begin with some.
use Rattle.std.specs.Prelude.{◌≡◌, ℕ, ◌≤◌, Bool, true, false, List, [], ◌∷◌}
use Rattle.c_lexer.specs.declared.token.Kind.{Kind}
use Rattle.rr_base.specs.declared.position.Position.{Position}

-- a token as the grammar sees it: its kind, and where it begins
pub record Lexeme : Type 0 where
  pub kind : Kind
  pub place : Position

-- short for the record: first the kind, then the place
abbrev pub lexeme : Kind → Position → Lexeme
lexeme k p = record { kind = k; place = p }

-- a token, and its level of nesting
pub record Mark : Type 0 where
  pub lexeme : Lexeme
  pub level : ℕ

-- short for the record: the kind, the place, the level
abbrev pub mark : Kind → Position → ℕ → Mark
mark k p l = record { lexeme = record { kind = k; place = p }; level = l }

-- the tokens alone, as the lexer gives them, without levels
abbrev pub erase : List Mark → List Lexeme
erase [] = []
erase (m ∷ ms) = m.lexeme ∷ erase ms

-- the kinds alone
abbrev pub kinds_at : List Mark → List Kind
kinds_at [] = []
kinds_at (m ∷ ms) = m.lexeme.kind ∷ kinds_at ms

-- no token is nested deeper than the limit
abbrev pub AllLow : ℕ → List Mark → Type 0
AllLow limit [] = Unit {0}
AllLow limit (m ∷ ms) = (m.level ≤ limit) × AllLow limit ms

-- ---- beginnings: a list begins with something, and the second list is what is left behind it

-- the first list holds all marks from here on, the second those after it
abbrev pub Beginning : Type 1
Beginning = List Mark → List Mark → Type 0

-- the token that has its place in the tree
abbrev pub own : Kind → Position → ℕ → Beginning
own k p l ms rest = ms ≡ mark k p l ∷ rest

-- a token whose place is nowhere in the tree
abbrev pub other : Kind → ℕ → Beginning
other k l ms rest = (p : Position) × (ms ≡ mark k p l ∷ rest)

-- one after the other
infixr 10 ◌>>◌
-- the list between them is what the first leaves to the second
abbrev pub ◌>>◌ : Beginning → Beginning → Beginning
r >> s = λ ms rest. (mid : List Mark) × r ms mid × s mid rest

-- no token at all, so that the two lists are the same
abbrev pub nothing : Beginning
nothing ms rest = ms ≡ rest

-- no list begins so: for trees that the grammar doesn't have
abbrev pub never : Beginning
never ms rest = ⊥

-- a part that the source may leave out; the tree tells whether it did
abbrev pub maybe : Bool → Beginning → Beginning
maybe true r = r
maybe false r = nothing

-- and this holds
abbrev pub provided : Type 0 → Beginning → Beginning
provided P r ms rest = P × r ms rest
