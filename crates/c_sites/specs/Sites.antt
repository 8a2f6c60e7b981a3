-- The sites of a source without a fault: all that has cells of its own, with its name and its layout.
use Rattle.std.specs.Prelude.{nat_le, Bool, ◌&&◌, if◌then◌else◌, List, [], ◌∷◌, ◌++◌, length, map, codes, decimal, Option, Some, None}
use Rattle.rr_base.specs.declared.layout.CellKind.{CellKind}
use Rattle.rr_base.specs.declared.layout.Layout.{Layout}
use Rattle.rr_base.specs.declared.layout.Site.{Site}
use Rattle.rr_base.specs.Texts.{Text}
use Rattle.c_tree.specs.Tree.{Outer}
use Rattle.rr_base.specs.declared.position.Position.{Position}
use Rattle.c_types.specs.declared.types.ObjectType.{ObjectType}
use Rattle.c_types.specs.Types.{kinds_of_type, layered_element, layout_of_type, struct_kinds}
use Rattle.c_types.specs.Scopes.{Members, members_of, most_cells}
use Rattle.c_names.specs.Known.{known_at_start}
use Rattle.c_spots.specs.Spots.{Holder, a_global, a_local, an_allocation, Spot, program_spots, known_after}

-- a type with a fault counts for nothing
abbrev pub known_type : Option ObjectType → List ObjectType
known_type None = []
known_type (Some t) = t ∷ []

-- the types that have no fault, in the same order
abbrev pub known_types : List (Option ObjectType) → List ObjectType
known_types [] = []
known_types (t ∷ ts) = known_type t ++ known_types ts

-- the types of members, where all have one
abbrev pub types_of_members : Members → List ObjectType
types_of_members ms = known_types (members_of (Some ms))

-- the cells of each struct that a source defines
abbrev pub kinds_of_structs : List Outer → List (List CellKind)
kinds_of_structs os = struct_kinds (map types_of_members (known_after (known_at_start os) os).structs)

-- `x`, `f.x@L:C` and `malloc@L:C`: 46 is `.`, 64 is `@`, and 58 is `:`
abbrev pub at_place : Text → Position → Text
at_place name place = name ++ 64 ∷ decimal place.line ++ 58 ∷ decimal place.column

-- `f.x@L:C`, the name of a local's or a formal's site
abbrev pub local_name : Text → Text → Position → Text
local_name f name place = at_place (f ++ 46 ∷ name) place

-- a global goes by its name, all others by their place too
abbrev pub site_name : Holder → Position → Text
site_name (a_global name) place = name
site_name (a_local f name) place = local_name f name place
site_name an_allocation place = at_place (codes "malloc") place

-- no cells: for what has no type, or too many cells
abbrev pub empty_layout : Layout
empty_layout = record { size = 0; element = 0; kinds = [] }

-- no object has more cells. Where a type has more, its source has a fault
abbrev pub is_laid_out : List (List CellKind) → ObjectType → Bool
is_laid_out structs t = nat_le (length (kinds_of_type structs t)) most_cells && nat_le (layered_element structs t.layers t.base) most_cells

-- the layout of a site; a type with a fault gets the empty one
abbrev pub layout_by : List (List CellKind) → Option ObjectType → Layout
layout_by structs None = empty_layout
layout_by structs (Some t) = if is_laid_out structs t then layout_of_type structs t else empty_layout

-- where the structs of the file have these cells
abbrev pub site_of : List (List CellKind) → Spot → Site
site_of structs spot = record {
  name = site_name spot.holder spot.at;
  layout = layout_by structs spot.of;
  at = spot.at;
}

-- the sites of a source, in the order of the text
abbrev pub program_sites : List Outer → List Site
program_sites os = map (site_of (kinds_of_structs os)) (program_spots os)
