-- What a table of numbers knows.
use Rattle.std.specs.Prelude.{map, reverse}
use Rattle.c_numbers.specs.Numbered.{Numbered}
use Rattle.c_numbers.specs.declared.number_table.NumberTable.{NumberTable}

-- the table has the innermost scope last, so it is turned around
abbrev pub numbered_of : NumberTable → Numbered
numbered_of t = record { next = t.next; scopes = reverse (map (λ s. map (λ e. (e.0.now, e.1)) s.entries) t.scopes) }
