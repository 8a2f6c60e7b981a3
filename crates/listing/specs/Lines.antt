-- The lines by which race pairs are listed: where each access stands in the source, and the order of lines.
use Rattle.std.specs.Prelude.{◌==◌, ◌&&◌, ◌||◌, nat_lt, Bool, true, false, not, if◌then◌else◌, List, Option, Some, None, slice_get}
use Rattle.rr_base.specs.declared.layout.Place.{Place}
use Rattle.rr_base.specs.declared.position.Position.{Position}
use Rattle.flow_code.specs.declared.act.Instr.{Instr}
use Rattle.flow_code.specs.declared.code.Code.{Code}
use Rattle.flow_code.specs.Threads.{instrs_in}
use Rattle.facts.specs.Accesses.{Access, access_of}
use Rattle.facts.specs.Pairs.{place_less, place_same}
use Rattle.facts.specs.declared.pair.AccessAt.{AccessAt}
use Rattle.facts.specs.declared.pair.Pair.{Pair}
use Rattle.listing.specs.declared.line.Line.{Line}
use Rattle.listing.specs.declared.line.Shown.{Shown}
use Rattle.listing.specs.Sorting.{sorted_by}

-- ---- an access as the source shows it

-- an instruction without an access counts as a load
abbrev pub is_store : Option Access → Bool
is_store None = false
is_store (Some a) = a.store

-- where there is no instruction, a load at line 0
abbrev pub shown_in : Option Instr → Shown
shown_in None = record { at = record { line = 0; column = 0 }; store = false }
shown_in (Some i) = record { at = i.at; store = is_store (access_of i.act) }

-- the access's line and column in the source, and its kind
abbrev pub shown : Code → AccessAt → Shown
shown code a = shown_in (slice_get (instrs_in (slice_get code.functions a.function)) a.instr)

-- loads come before stores
abbrev pub kind_less : Bool → Bool → Bool
kind_less s t = not s && t

-- both are stores, or both are loads
abbrev pub kind_same : Bool → Bool → Bool
kind_same true t = t
kind_same false t = not t

-- by line, then by column
abbrev pub position_less : Position → Position → Bool
position_less p q = nat_lt p.line q.line || ((p.line == q.line) && nat_lt p.column q.column)

-- the same line and the same column
abbrev pub position_same : Position → Position → Bool
position_same p q = (p.line == q.line) && (p.column == q.column)

-- by position, then by kind
abbrev pub shown_less : Shown → Shown → Bool
shown_less x y = position_less x.at y.at || (position_same x.at y.at && kind_less x.store y.store)

-- the listing shows both alike, though they may be two instructions
abbrev pub shown_same : Shown → Shown → Bool
shown_same x y = position_same x.at y.at && kind_same x.store y.store

-- ---- the line of a pair: its first access isn't after its second

-- the access that comes first in the source is named first
abbrev pub in_order : Place → Shown → Shown → Line
in_order p x y = if shown_less y x then record { place = p; first = y; second = x } else record { place = p; first = x; second = y }

-- how the listing shows a pair that may race
abbrev pub line_of : Code → Pair → Line
line_of code v = in_order v.place (shown code v.first) (shown code v.second)

-- ---- lines in order: by place, then by the first access, then by the second

-- whether the one line is listed before the other
abbrev pub line_less : Line → Line → Bool
line_less l m = place_less l.place m.place || (place_same l.place m.place && (shown_less l.first m.first || (shown_same l.first m.first && shown_less l.second m.second)))

-- in the order in which `races` lists them
abbrev pub sorted_lines : List Line → List Line
sorted_lines ls = sorted_by line_less ls
