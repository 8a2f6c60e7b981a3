-- What `#define` has made of names.
use Rattle.std.specs.Prelude.{List, ℤ}
use Rattle.rr_base.specs.Texts.{Text}

-- the names that have a value, in the order of their directives
abbrev pub Defined : Type 0
Defined = List (Text × ℤ)
