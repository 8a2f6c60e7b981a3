-- The head of what is declared at file level, and the front of a declarator, as which those of the code show.
use Rattle.std.specs.Prelude.{ℕ, ◌+◌, ◌≤◌}
use Rattle.c_parse_rules.specs.declared.head.Head.{Head as CodeHead}
use Rattle.c_parse_rules.specs.declared.head.Head.TheVariants as heads
use Rattle.c_parse_rules.specs.declared.head.Front.{Front as CodeFront}
use Rattle.c_parse_rules.specs.declared.head.Front.TheVariants as fronts
use Rattle.c_grammar.specs.Grammar.{name_place}
use Rattle.c_grammar.specs.Phrase.{Head, function_head, object_head, pointer_head, Front, object_front, pointer_front}
use Rattle.c_parse_rules.specs.Gives.{limit}

-- the crate's head, the name by its bytes and its place
abbrev pub head_of : CodeHead → Head
head_of (heads.Function stars name) = function_head stars name.text (name_place name)
head_of (heads.Object stars name) = object_head stars name.text (name_place name)
head_of (heads.Pointer stars) = pointer_head stars

-- the stars of an object, each of which raises the level, are within the limit
abbrev pub IsLow : CodeHead → Type 0
IsLow (heads.Function stars name) = Unit {0}
IsLow (heads.Object stars name) = stars ≤ limit
IsLow (heads.Pointer stars) = Unit {0}

-- the crate's front of a declarator
abbrev pub front_of : CodeFront → Front
front_of (fronts.Object stars name) = object_front stars name.text (name_place name)
front_of (fronts.Pointer stars) = pointer_front stars

-- from a context at that level the stars of an object are within the limit
abbrev pub IsWithin : ℕ → CodeFront → Type 0
IsWithin level (fronts.Object stars name) = level + stars ≤ limit
IsWithin level (fronts.Pointer stars) = Unit {0}
