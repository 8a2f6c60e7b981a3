-- How the members of a struct show, as a map keeps them by name.
use Rattle.std.specs.Prelude.{List, map, Option}
use Rattle.std.specs.Borrow.{Bor}
use Rattle.rr_base.specs.Texts.{Text}
use Rattle.c_types.specs.declared.types.ObjectType.{ObjectType}
use Rattle.c_types.specs.Scopes.{Members}

-- in the order of their declarations, as cells are laid out
abbrev pub shown_members : List (Bor Text × Option ObjectType) → Members
shown_members ms = map (λ m. (m.0.now, m.1)) ms
