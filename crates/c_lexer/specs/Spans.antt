-- Where tokens stand among each other.
use Rattle.std.specs.Prelude.{ℕ, ◌+◌, ◌-◌, ◌^◌, ◌≤◌, ◌<◌, List, [], ◌∷◌}
use Rattle.c_lexer.specs.declared.token.Token.{Token}

-- the spans lie one after another between these two, and none is empty
abbrev pub AreInOrder : ℕ → ℕ → List Token → Type 0
AreInOrder from to [] = from ≤ to
AreInOrder from to (t ∷ ts) = (from ≤ t.start) × (t.start < t.end) × AreInOrder t.end to ts

-- the token has a byte, and the column after its last one is a u32
abbrev pub IsPlaced : Token → Type 0
IsPlaced t = (t.start < t.end) × (t.at.column + (t.end - t.start) < 2 ^ 32)
