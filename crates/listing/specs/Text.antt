-- The listing of race pairs as bytes: lines, each ended by a newline byte.
use Rattle.std.specs.Prelude.{ℕ, Bool, true, false, List, [], ◌∷◌, ◌++◌, length, map, codes, decimal, Option, Some, None}
use Rattle.std.specs.List.{flat_map}
use Rattle.rr_base.specs.declared.layout.Place.{Place}
use Rattle.rr_base.specs.declared.layout.Site.{Site}
use Rattle.flow_code.specs.declared.code.Code.{Code}
use Rattle.word_semantics.specs.Pointers.{site_at}
use Rattle.facts.specs.declared.pair.Pair.{Pair}
use Rattle.listing.specs.declared.line.Line.{Line}
use Rattle.listing.specs.declared.line.Shown.{Shown}
use Rattle.listing.specs.Lines.{line_of, sorted_lines}

-- the empty name where the code has no such site
abbrev pub name_in : Option Site → List ℕ
name_in None = []
name_in (Some site) = site.name

-- the name of the site, and the class: `x+0`
abbrev pub place_text : Code → Place → List ℕ
place_text code p = name_in (site_at code.sites p.site) ++ (codes "+" ++ decimal p.class)

-- with a space before and after it
abbrev pub kind_text : Bool → List ℕ
kind_text true = codes " store "
kind_text false = codes " load "

-- ` load 5:9`
abbrev pub shown_text : Shown → List ℕ
shown_text x = (kind_text x.store ++ decimal x.at.line) ++ (codes ":" ++ decimal x.at.column)

-- `race x+0 load 5:9 store 7:3`
abbrev pub line_text : Code → Line → List ℕ
line_text code l = codes "race " ++ place_text code l.place ++ shown_text l.first ++ shown_text l.second ++ 10 ∷ []

-- of all pairs, without the last line, which counts them
abbrev pub lines_text : Code → List Line → List ℕ
lines_text code ls = flat_map (line_text code) ls

-- the lines of the pairs in order, and `races 3`
abbrev pub races_text_of : Code → List Pair → List ℕ
races_text_of code vs = lines_text code (sorted_lines (map (line_of code) vs)) ++ (codes "races " ++ decimal (length vs)) ++ 10 ∷ []
