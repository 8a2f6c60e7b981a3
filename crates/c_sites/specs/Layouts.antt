-- The layout of an object of a named type (C99 6.7.6), where the structs have the members that a source gives them.
use Rattle.std.specs.Prelude.{if◌then◌else◌, List, map, ◌&&◌, Option, Some, None}
use Rattle.rr_base.specs.declared.layout.CellKind.{CellKind}
use Rattle.rr_base.specs.declared.layout.Layout.{Layout}
use Rattle.c_tree.specs.declared.ctype.CType.{CType}
use Rattle.c_tree.specs.Tree.{Outer}
use Rattle.c_types.specs.declared.types.ObjectType.{ObjectType}
use Rattle.c_types.specs.Types.{layout_of_type, struct_kinds}
use Rattle.c_types.specs.Scopes.{Known, type_named, is_complete}
use Rattle.c_names.specs.Known.{known_at_start}
use Rattle.c_spots.specs.Spots.{known_after}
use Rattle.c_sites.specs.Sites.{types_of_members, is_laid_out}

-- an object has a layout if its type is complete and it has no more cells than an object may have
abbrev pub layout_in : Known → List (List CellKind) → Option ObjectType → Option Layout
layout_in known structs None = None
layout_in known structs (Some t) = if is_complete known t && is_laid_out structs t then Some (layout_of_type structs t) else None

-- where the structs that are known have the members that are known of them
abbrev pub layout_after : Known → CType → Option Layout
layout_after known t = layout_in known (struct_kinds (map types_of_members known.structs)) (type_named known t)

-- after a source
abbrev pub layout_named : List Outer → CType → Option Layout
layout_named os t = layout_after (known_after (known_at_start os) os) t
