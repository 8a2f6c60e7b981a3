-- Contents of a bounded size.
use Rattle.std.specs.Prelude.{◌≡◌, ◌≤◌, ◌<◌, ℕ, List, Option, Some, None, length}

-- what is found where a content may have so many bytes: the content, or nothing where it has more
abbrev pub KeepsWithin : (most : ℕ) → (content : List ℕ) → (found : Option (List ℕ)) → Type 0
KeepsWithin most content (Some bytes) = (bytes ≡ content) × (length content ≤ most)
KeepsWithin most content None = most < length content

-- the same of a name that has a content
abbrev pub IsWithin : (most : ℕ) → (held : Option (List ℕ)) → (found : Option (List ℕ)) → Type 0
IsWithin most None found = ⊥
IsWithin most (Some content) found = KeepsWithin most content found
