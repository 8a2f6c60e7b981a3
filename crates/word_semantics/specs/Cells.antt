-- Cells: two hand-off cells for each slot, then the globals, then one arena for each slot.
use Rattle.std.specs.Prelude.{ℕ, ◌+◌, ◌*◌, ◌%◌, ◌==◌, nat_le, ◌&&◌, Bool, true, false, not, ℤ, pos, negsuc, List, Option, Some, None}
use Rattle.rr_base.specs.declared.layout.CellKind.{CellKind}
use Rattle.rr_base.specs.declared.layout.CellKind.TheVariants as kind
use Rattle.rr_base.specs.declared.layout.Site.{Site}
use Rattle.word_semantics.specs.Pointers.{site_at}

-- the cell by which thread k is handed its argument, and the one by which it hands back its result
abbrev pub argument_cell : ℕ → ℕ
argument_cell k = 2 * k

-- `pthread_join` loads this cell; the thread stores it as it ends
abbrev pub result_cell : ℕ → ℕ
result_cell k = 2 * k + 1

-- the size of the site's objects
abbrev pub size_in : Option Site → ℕ
size_in None = 0
size_in (Some site) = site.layout.size

-- how many cells an object of site k has; 0 where it isn't there
abbrev pub size_of : List Site → ℕ → ℕ
size_of sites k = size_in (site_at sites k)

-- the kind of an access, by whether its other register is a pointer
abbrev pub access_kind : Bool → CellKind
access_kind true = kind.Pointer
access_kind false = kind.Whole

-- a size that `malloc` can give: 1 to 65,535 cells, and a whole number of the site's objects
abbrev pub is_size : ℕ → ℤ → Bool
is_size unit (pos n) = nat_le 1 n && nat_le n 65535 && not (unit == 0) && (n % unit == 0)
is_size unit (negsuc n) = false

-- how many cells `malloc` is asked for; 0 for a negative number
abbrev pub cells_in : ℤ → ℕ
cells_in (pos n) = n
cells_in (negsuc n) = 0
