-- How what has cells of its own shows.
use Rattle.std.specs.Prelude.{List, map}
use Rattle.c_spots.specs.declared.spot.Holder.{Holder as RustHolder}
use Rattle.c_spots.specs.declared.spot.Holder.TheVariants as holder
use Rattle.c_spots.specs.declared.spot.Owner.{Owner}
use Rattle.c_spots.specs.declared.spot.Spot.{Spot as RustSpot}
use Rattle.c_spots.specs.declared.spot.Where.{Where as RustWhere}
use Rattle.c_spots.specs.declared.spot.Where.TheVariants as place
use Rattle.c_spots.specs.Spots.{Holder, a_global, a_local, an_allocation, Spot, spot_at, Where, file_level, in_function}

-- the crate's holder, by the names that it borrows
abbrev pub shown_holder : RustHolder → Holder
shown_holder (holder.Global name) = a_global name.now
shown_holder (holder.Local f name) = a_local f.now name.now
shown_holder holder.Allocation = an_allocation

-- what has cells, with its place and its type, if any
abbrev pub shown_spot : RustSpot → Spot
shown_spot s = spot_at (shown_holder s.holder) s.at s.of

-- in the same order, that of the text
abbrev pub shown_spots : List RustSpot → List Spot
shown_spots ss = map shown_spot ss

-- a function's name, and the numbers to which `&` is applied
abbrev pub shown_owner : Owner → Where
shown_owner o = in_function o.name.now o.marks.now.numbers

-- at file level, or in the function that owns what is declared
abbrev pub shown_where : RustWhere → Where
shown_where place.FileLevel = file_level
shown_where (place.InFunction o) = shown_owner o
