-- Pointer words. A word of 64 bits has, from its top bit on: the site that made the object (10 bits), the object's first cell
-- (22 bits), its number of cells (16 bits), and how many cells after the first one the pointer stands (16 bits). A word of
-- site 0 points to no object: its low 54 bits are a whole number in two's complement. The word 0 is the null pointer.
use Rattle.std.specs.Prelude.{ℕ, ◌+◌, ◌-◌, ◌*◌, ◌/◌, ◌%◌, ◌^◌, ◌==◌, nat_lt, nat_le, ℤ, pos, negsuc, ◌+ℤ◌, Result, Ok, Err, if◌then◌else◌}
use Rattle.rr_base.specs.declared.trap.Trap.{Trap}
use Rattle.rr_base.specs.declared.trap.Trap.TheVariants.{BadDereference, OutOfObject, CastRange, PointerToNumber}
use Rattle.rr_base.specs.declared.layout.Place.{Place}

-- ---- the parts of a word

-- the top 10 bits: which site made the object, 0 for a whole number
abbrev pub site_of : ℕ → ℕ
site_of w = w / 2 ^ 54

-- 22 bits: the number of the object's first cell
abbrev pub base_of : ℕ → ℕ
base_of w = w / 2 ^ 32 % 2 ^ 22

-- 16 bits: how many cells the object has
abbrev pub length_of : ℕ → ℕ
length_of w = w / 2 ^ 16 % 2 ^ 16

-- the low 16 bits: how many cells past the object's first one
abbrev pub offset_of : ℕ → ℕ
offset_of w = w % 2 ^ 16

-- the word that has these parts
abbrev pub pack : (site base cells offset : ℕ) → ℕ
pack site base cells offset = site * 2 ^ 54 + base * 2 ^ 32 + cells * 2 ^ 16 + offset

-- ---- pointers into an object (C99 6.5.6)

-- a pointer may stand at each cell of its object, and right after the last one
abbrev pub moved_to : ℕ → ℤ → Result ℕ Trap
moved_to w (pos k) = if nat_le k (length_of w) then Ok (pack (site_of w) (base_of w) (length_of w) k) else Err OutOfObject
moved_to w (negsuc k) = Err OutOfObject

-- the pointer so many cells further on
abbrev pub moved : ℕ → ℤ → Result ℕ Trap
moved w by = if site_of w == 0 then Err BadDereference else moved_to w (pos (offset_of w) +ℤ by)

-- the cell to which a word points
abbrev pub cell_of : ℕ → Result ℕ Trap
cell_of w =
    if site_of w == 0 then Err BadDereference
    else if nat_lt (offset_of w) (length_of w) then Ok (base_of w + offset_of w) else Err OutOfObject

-- ---- whole numbers in a word (C99 6.3.2.3)

-- the word of a number: below zero it is the number plus 2 ^ 54
abbrev pub of_number : ℤ → Result ℕ Trap
of_number (pos n) = if nat_lt n (2 ^ 53) then Ok n else Err CastRange
of_number (negsuc n) = if nat_lt n (2 ^ 53) then Ok (2 ^ 54 - 1 - n) else Err CastRange

-- the number that a word of site 0 holds
abbrev pub to_number : ℕ → Result ℤ Trap
to_number w =
    if site_of w == 0 then Ok (if nat_lt w (2 ^ 53) then pos w else negsuc (2 ^ 54 - 1 - w)) else Err PointerToNumber

-- ---- places

-- which of the cells of one element a cell is; cells of large elements aren't told apart
abbrev pub class_of : (element offset : ℕ) → ℕ
class_of element offset = if nat_lt 64 element then 0 else offset % element

-- the place to which a word points, where the elements of its site have this size
abbrev pub place_of : (element : ℕ) → ℕ → Place
place_of element w = record { site = site_of w; class = class_of element (offset_of w) }
