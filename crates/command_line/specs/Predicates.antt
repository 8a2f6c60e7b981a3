-- Which accesses a word asks for, as `load` or `store,thread=1,cell=6-7,value=-1`.
use Rattle.std.specs.Prelude.{◌≡◌, refl, ℕ, ℤ, pos, negsuc, Bool, true, false, nat_le, ◌==◌, ◌&&◌, if◌then◌else◌, List, [], ◌∷◌, Option, Some, None, option_map, option_and_then, codes}
use Rattle.std.specs.Fmt.{digits, signed_decimal}
use Rattle.std.specs.List.{after_first, before_first, list_any}
use Rattle.std.specs.Str.{bytes_eq}
use Rattle.std.specs.Str.Parse.{signed_digits_value}
use Rattle.thread_interpreter.specs.declared.access.Formula.{Formula}
use Rattle.command_line.specs.Arguments.{number_within}

infixl 10 ◌>>=◌
abbrev ◌>>=◌ : {A B : Type 0} → Option A → (A → Option B) → Option B
o >>= f = option_and_then f o

-- ---- numbers

-- a number of 64 bits, one of which is its sign
abbrev pub is_signed : ℤ → Bool
is_signed (pos n) = nat_le n 9223372036854775807
is_signed (negsuc n) = nat_le n 9223372036854775807

-- such a number that a text is in decimal, without a leading zero, and with a minus alone before it where it is below 0
abbrev pub signed_number : List ℕ → Option ℤ
signed_number text = let z = signed_digits_value 10 text in if bytes_eq (signed_decimal z) text && is_signed z then Some z else None

-- ---- the parts of a word

abbrev pub is_comma : ℕ → Bool
is_comma b = b == 44

abbrev pub is_dash : ℕ → Bool
is_dash b = b == 45

-- what stands before the first comma of a text, and after it where there is one
abbrev pub first_part : List ℕ → List ℕ × Option (List ℕ)
first_part text = (before_first is_comma text, if list_any is_comma text then Some (after_first is_comma text) else None)

-- what stands after the name, where the text begins with it
abbrev pub after_name : (name text : List ℕ) → Option (List ℕ)
after_name [] text = Some text
after_name (n ∷ ns) [] = None
after_name (n ∷ ns) (b ∷ bs) = if b == n then after_name ns bs else None

-- a part's value where its name was found, and what stands after that part; or else there is none, and all is left
abbrev pub taken_from : (left value : Option (List ℕ)) → Option (List ℕ) × Option (List ℕ)
taken_from left None = (None, left)
taken_from left (Some text) = let p = first_part text in (Some p.0, p.1)

-- the part of this name, where it stands next
abbrev pub next_part : (name : List ℕ) → (left : Option (List ℕ)) → Option (List ℕ) × Option (List ℕ)
next_part name left = taken_from left (option_and_then (after_name name) left)

-- ---- what the parts ask for

-- loads, and stores
abbrev pub kind_asked : List ℕ → Option (Bool × Bool)
kind_asked word =
    if bytes_eq word (codes "load") then Some (true, false) else
    (if bytes_eq word (codes "store") then Some (false, true) else
    (if bytes_eq word (codes "any") then Some (true, true) else None))

-- a thread from 0 to 15, or any
abbrev pub thread_asked : Option (List ℕ) → Option (Option ℕ)
thread_asked None = Some None
thread_asked (Some text) = option_map Some (number_within 0 15 text)

-- the cells from the one to the other, both below 2 ^ 22, or all
abbrev pub cells_asked : Option (List ℕ) → Option (ℕ × ℕ)
cells_asked None = Some (0, 4294967295)
cells_asked (Some text) = do
  high ← number_within 0 4194303 (after_first is_dash text)
  low ← number_within 0 high (before_first is_dash text)
  Some (low, high)

-- a value, or any
abbrev pub value_asked : Option (List ℕ) → Option (Option ℤ)
value_asked None = Some None
value_asked (Some text) = option_map Some (signed_number text)

-- the kind, and after it a thread, cells and a value, where these are given; nothing may be left
abbrev pub asked_in : (kind : List ℕ) → (thread cells value left : Option (List ℕ)) → Option Formula
asked_in kind thread cells value (Some text) = None
asked_in kind thread cells value None = do
  k ← kind_asked kind
  t ← thread_asked thread
  c ← cells_asked cells
  v ← value_asked value
  Some (record { loads = k.0; stores = k.1; thread = t; low = c.0; high = c.1; value = v })

-- the accesses that a word asks for: its kind, and then `thread=N`, `cell=A-B` and `value=V`, each after a comma and in this order
abbrev pub accesses_asked : List ℕ → Option Formula
accesses_asked word =
    let kind = first_part word in
    let thread = next_part (codes "thread=") kind.1 in
    let cells = next_part (codes "cell=") thread.1 in
    let value = next_part (codes "value=") cells.1 in
    asked_in kind.0 thread.0 cells.0 value.0 value.1

-- ---- worked rows

all_loads : accesses_asked (codes "load") ≡ Some (record { loads = true; stores = false; thread = None; low = 0; high = 4294967295; value = None })
all_loads = refl

all_parts : accesses_asked (codes "any,thread=15,cell=6-4194303,value=-1") ≡ Some (record { loads = true; stores = true; thread = Some 15; low = 6; high = 4194303; value = Some (negsuc 0) })
unfolding digits
all_parts = refl

some_parts : accesses_asked (codes "store,cell=6-6,value=1") ≡ Some (record { loads = false; stores = true; thread = None; low = 6; high = 6; value = Some (pos 1) })
unfolding digits
some_parts = refl

one_cell : accesses_asked (codes "store,cell=6") ≡ None
unfolding digits
one_cell = refl

another_order : accesses_asked (codes "store,value=1,cell=6-6") ≡ None
unfolding digits
another_order = refl

falling_cells : accesses_asked (codes "any,cell=7-6") ≡ None
unfolding digits
falling_cells = refl

minus_zero : accesses_asked (codes "any,value=-0") ≡ None
unfolding digits
minus_zero = refl

comma_at_end : accesses_asked (codes "load,") ≡ None
comma_at_end = refl
