-- For private clauses: what is noted of each entry while a chain is looked for.
use Rattle.std.specs.Prelude.{◌≡◌, ℕ, suc, ◌+◌, ◌==◌, ◌&&◌, ◌||◌, Bool, true, false, if◌then◌else◌, List, [], ◌∷◌, ◌++◌, length, take, Option, Some, None}
use Rattle.run_theory.specs.Same.{same_object}
use Rattle.sync_objects.specs.declared.entry.Entry.{Entry}
use Rattle.sync_objects.specs.declared.mode.Mode.{Mode}
use Rattle.chain_report.specs.Chains.{exclude, hands_thread, is_after, is_before}
use Rattle.chain_report.specs.Replayed.{released, acquired}
use Rattle.chain_report.specs.declared.point.Point.{Point}
use Rattle.chain_report.specs.declared.row.Row.{Row}

abbrev pub is_there : {A : Type 0} → Option A → Bool
is_there None = false
is_there (Some x) = true

-- a linked entry of the thread
abbrev pub is_link_of : ℕ → Row → Bool
is_link_of t r = is_there r.link && (r.entry.thread == t)

-- a linked entry before the point
abbrev pub is_end_at : Point → Row → Bool
is_end_at to r = is_there r.link && is_before to (Some r.entry)

-- the row's entry may begin a pass to the entry, which gets its object in this mode
abbrev pub offers : Entry → Option Mode → Row → Bool
offers y got r = r.eligible && same_object r.entry.obj y.obj && (hands_thread r.entry.op y.op || exclude r.released got)

-- the position of the first row that meets the test, where the first one has this position
abbrev pub first_from : (Row → Bool) → ℕ → List Row → Option ℕ
first_from test at [] = None
first_from test at (r ∷ rs) = if test r then Some at else first_from test (at + 1) rs

-- the row of an entry after the entries and the rows before it
abbrev pub row_of : Point → List Entry → List Row → Entry → Row
row_of from before rows y = record {
  entry = y;
  eligible = is_after from (Some y) || is_there (first_from (is_link_of y.thread) 0 rows);
  released = released before y;
  link = first_from (offers y (acquired before y)) 0 rows;
}

-- the rows of all entries, of which the last ones are still to come
abbrev pub rows_from : Point → List Entry → List Row → List Entry → List Row
rows_from from es rows [] = rows
rows_from from es rows (y ∷ ys) = rows_from from es (rows ++ row_of from (take (length rows) es) rows y ∷ []) ys
