-- The numbers of the locals and formals that are seen at a place of a source.
use Rattle.std.specs.Prelude.{ℕ, ◌+◌, List, [], ◌∷◌, drop, Option, None}
use Rattle.rr_base.specs.Texts.{Text, entry_of}
use Rattle.c_tree.specs.declared.name.Name.{Name}
use Rattle.c_types.specs.Scopes.{or_else, with_name}

-- the numbers of the names that are seen, the innermost scope first
pub record Numbered : Type 0 where
  pub next : ℕ
  pub scopes : List (List (Text × ℕ))

-- the innermost name hides the others (C99 6.2.1); globals have no number
abbrev pub number_seen : List (List (Text × ℕ)) → Text → Option ℕ
number_seen [] name = None
number_seen (s ∷ ss) name = or_else (entry_of s name) (number_seen ss name)

-- the name is declared in the innermost scope
abbrev pub numbered_in : List (List (Text × ℕ)) → Text → ℕ → List (List (Text × ℕ))
numbered_in [] name n = []
numbered_in (s ∷ ss) name n = with_name s name n ∷ ss

-- so many numbers are used
unfoldable pub following : Numbered → ℕ → Numbered
following known many = record known { next = known.next + many }

-- the next number goes to a name
abbrev pub number_name : Numbered → Name → Numbered
number_name known name = following (record known { scopes = numbered_in known.scopes name.text known.next }) 1

-- a scope begins (C99 6.2.1)
abbrev pub inside : Numbered → Numbered
inside known = record known { scopes = [] ∷ known.scopes }

-- the innermost scope ends; its numbers stay used
abbrev pub outside : Numbered → Numbered
outside known = record known { scopes = drop 1 known.scopes }
