-- The pairs of a profile: which functions were seen at work at once.
use Rattle.std.specs.Prelude.{ℕ, List, [], ◌∷◌, if◌then◌else◌, IsTrue}
use Rattle.std.specs.List.{AllByRecursion}
use Rattle.std.specs.Str.{IsUtf8}
use Rattle.std.specs.declared.cmp.Ordering.{Ordering}
use Rattle.std.specs.Ordering.{nat_cmp, ordering_then, is_le, is_lt}
use Rattle.std.specs.Cmp.Lexicographic.{slice_cmp}

-- a text, by its bytes
abbrev pub Text : Type 0
Text = List ℕ

-- two functions, by their names
abbrev pub Pair : Type 0
Pair = Text × Text

-- texts by the first byte at which they differ; a text that ends there comes first
abbrev pub text_order : Text → Text → Ordering
text_order a b = slice_cmp nat_cmp a b

-- pairs by the first text, and then by the second
abbrev pub pair_order : Pair → Pair → Ordering
pair_order p q = ordering_then (text_order p.0 q.0) (text_order p.1 q.1)

-- two texts, the lesser one first
abbrev pub ordered : Text → Text → Pair
ordered a b = if is_le (text_order a b) then (a, b) else (b, a)

-- the first text doesn't come after the second
abbrev pub IsLesserFirst : Pair → Type 0
IsLesserFirst p = IsTrue (is_le (text_order p.0 p.1))

-- the pair comes before the first of the others
abbrev pub ComesBefore : Pair → List Pair → Type 0
ComesBefore p [] = Unit {0}
ComesBefore p (q ∷ qs) = IsTrue (is_lt (pair_order p q))

-- each pair comes before the next, so none stands there twice
abbrev pub AreAscending : List Pair → Type 0
AreAscending [] = Unit {0}
AreAscending (p ∷ ps) = ComesBefore p ps × AreAscending ps

-- both are texts in UTF-8
abbrev pub AreTexts : Pair → Type 0
AreTexts p = IsUtf8 p.0 × IsUtf8 p.1

-- what each list of a profile's pairs keeps
pub record ArePairs (ps : List Pair) : Type 0 where
  pub ascending : AreAscending ps
  pub lesser_first : AllByRecursion IsLesserFirst ps
  pub texts : AllByRecursion AreTexts ps
