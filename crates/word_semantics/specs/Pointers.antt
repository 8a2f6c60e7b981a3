-- Pointer words in a code: which cell one points to, where it is moved, and how two compare (C99 6.5.2.3, 6.5.3.2,
-- 6.5.6, 6.5.8). A site that the code doesn't have counts as none.
use Rattle.std.specs.Prelude.{ℕ, zero, suc, ◌%◌, ◌^◌, ◌==◌, nat_le, ◌&&◌, Bool, true, false, not, if◌then◌else◌, ℤ, pos, ◌-ℤ◌, int_div, List, length, Option, Some, None, slice_get, slice_index_or, Result, Ok, Err}
use Rattle.rr_base.specs.Words as pointer
use Rattle.rr_base.specs.Words.{site_of, base_of, offset_of}
use Rattle.rr_base.specs.declared.trap.Trap.{Trap}
use Rattle.rr_base.specs.declared.trap.Trap.TheVariants.{OutOfObject, BadKind, CompareObjects}
use Rattle.rr_base.specs.declared.layout.CellKind.{CellKind}
use Rattle.rr_base.specs.declared.layout.CellKind.TheVariants as kind
use Rattle.rr_base.specs.declared.layout.Layout.{Layout}
use Rattle.rr_base.specs.declared.layout.Site.{Site}
use Rattle.word_semantics.specs.Values.{fits, word}

-- the site of this number; the first has number 1
abbrev pub site_at : List Site → ℕ → Option Site
site_at sites zero = None
site_at sites (suc k) = slice_get sites k

-- the first global cell of the object of the site with this number; none of a site that is no global
abbrev pub base_at : List (Option ℕ) → ℕ → Option ℕ
base_at bases zero = None
base_at bases (suc k) = slice_index_or bases k None

-- the word as the code reads it: one of a site that the code doesn't have is read as a word of site 0
abbrev pub known : List Site → ℕ → ℕ
known sites w = if nat_le (site_of w) (length sites) then w else w % 2 ^ 54

-- a cell keeps its kind for good, so an access must be of it
abbrev pub same_kind : CellKind → CellKind → Bool
same_kind kind.Whole kind.Whole = true
same_kind kind.Pointer kind.Pointer = true
same_kind kind.Mutex kind.Mutex = true
same_kind kind.Cond kind.Cond = true
same_kind kind.Barrier kind.Barrier = true
same_kind kind.Rw kind.Rw = true
same_kind _ _ = false

-- the same of a cell that may not be there
abbrev pub is_kind : Option CellKind → CellKind → Bool
is_kind None want = false
is_kind (Some k) want = same_kind k want

-- the kind of the cell at this offset; the layout repeats
abbrev pub kind_at : Layout → ℕ → Option CellKind
kind_at layout offset = if layout.size == 0 then None else slice_get layout.kinds (offset % layout.size)

-- the kind of a cell of an object that this site made
abbrev pub kind_in : Option Site → ℕ → Option CellKind
kind_in None offset = None
kind_in (Some site) offset = kind_at site.layout offset

-- the cell, if it is of the kind
abbrev pub of_kind : Result ℕ Trap → Bool → Result ℕ Trap
of_kind (Ok c) true = Ok c
of_kind (Ok c) false = Err BadKind
of_kind (Err t) fits = Err t

-- the cell that the word points to, for an access of this kind
abbrev pub resolved : List Site → ℕ → CellKind → Result ℕ Trap
resolved sites w want = of_kind (pointer.cell_of (known sites w)) (is_kind (kind_in (site_at sites (site_of w)) (offset_of w)) want)

-- the pointer so many cells further on, within its object or right after it
abbrev pub moved : List Site → ℕ → ℤ → Result ℕ Trap
moved sites w cells = pointer.moved (known sites w) cells

-- the pointer moved by a product, which may not fit 64 bits
abbrev pub moved_by : List Site → ℕ → ℤ → Result ℕ Trap
moved_by sites w cells = if fits cells then moved sites w cells else Err OutOfObject

-- the number of elements, forwards or back
abbrev pub directed : Bool → ℤ → ℤ
directed false n = n
directed true n = pos 0 -ℤ n

-- the pointer to the first cell of a new object; in a valid code its parts fit, and it is `pack` of them
abbrev pub pointer_at : (site base cells : ℕ) → ℕ
pointer_at site base cells = pointer.pack site base cells 0 % 2 ^ 64

-- both words point into one object
abbrev pub in_one_object : ℕ → ℕ → Bool
in_one_object v w = not (site_of v == 0) && (site_of v == site_of w) && (base_of v == base_of w)

-- what is asked of two pointers into one object
abbrev pub compared : List Site → ℕ → ℕ → ℕ → Result ℕ Trap
compared sites v w answer = if in_one_object (known sites v) (known sites w) then Ok answer else Err CompareObjects

-- how many elements of so many cells lie from the second to the first, truncated towards zero
abbrev pub elements_between : ℕ → ℕ → ℕ → ℕ
elements_between v w zero = 0
elements_between v w (suc n) = word (int_div (pos (offset_of v) -ℤ pos (offset_of w)) (pos (suc n)))

-- the number as a pointer (C99 6.3.2.3)
abbrev pub pointer_to : ℤ → Result ℕ Trap
pointer_to z = pointer.of_number z

-- a number as a register holds it, or the trap in its place
abbrev pub number_word : Result ℤ Trap → Result ℕ Trap
number_word (Ok z) = Ok (word z)
number_word (Err t) = Err t

-- the pointer as a number
abbrev pub number_from : List Site → ℕ → Result ℕ Trap
number_from sites w = number_word (pointer.to_number (known sites w))
