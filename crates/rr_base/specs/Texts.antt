-- Texts, and tables of spellings.
use Rattle.std.specs.Prelude.{ℕ, if◌then◌else◌, List, [], ◌∷◌, Option, Some, None}
use Rattle.std.specs.Str.{bytes_eq}

-- a source or a part of one, each byte as a number
abbrev pub Text : Type 0
Text = List ℕ

-- what stands beside this spelling in a table
abbrev pub entry_of : {A : Type 0} → List (Text × A) → Text → Option A
entry_of [] name = None
entry_of (e ∷ es) name = if bytes_eq name e.0 then Some e.1 else entry_of es name
