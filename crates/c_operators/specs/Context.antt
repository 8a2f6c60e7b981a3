-- What is known where an expression stands: of the whole source, of its function, and of its place.
use Rattle.std.specs.Prelude.{ℕ, zero, suc, ◌+◌, ◌-◌, ◌==◌, nat_le, Bool, ◌&&◌, if◌then◌else◌, List, [], ◌∷◌, length, position, slice_get, Option, Some, None}
use Rattle.rr_base.specs.declared.layout.CellKind.{CellKind}
use Rattle.rr_base.specs.declared.layout.Site.{Site}
use Rattle.rr_base.specs.Texts.{Text, entry_of}
use Rattle.rr_base.specs.declared.position.Position.{Position}
use Rattle.c_types.specs.declared.types.ObjectType.{ObjectType}
use Rattle.c_types.specs.Scopes.{Known, cells_of_some, cells_of_type, member_numbered, members_of}
use Rattle.c_numbers.specs.Numbered.{Numbered, number_seen}
use Rattle.c_types.specs.Operands.{Operand, pointing}
use Rattle.c_operators.specs.declared.home.Home.{Home}

-- what is the same wherever in the source an expression stands
pub record Source : Type 0 where
  -- what is known after the whole source: each struct has its members and sizes
  pub whole : Known
  -- the cells of each struct
  pub kinds : List (List CellKind)
  pub sites : List Site
  -- the name of each global, and the pointer to it; its base counts from the first global cell
  pub globals : List (Text × ℕ)

-- what is the same all through a function's body
pub record Frame : Type 0 where
  -- the number of the first formal, and where each formal and local is kept
  pub first : ℕ
  pub homes : List Home
  -- whether the function gives a pointer
  pub gives_pointer : Bool

-- the whole source, the function, and which names are seen at the place
pub record Context : Type 0 where
  pub source : Source
  pub frame : Frame
  pub known : Known
  pub numbers : Numbered

-- where these names are seen, with these numbers for formals and locals
abbrev pub context_in : Source → Frame → Known → Numbered → Context
context_in s f known numbers = record { source = s; frame = f; known = known; numbers = numbers }

-- ---- sites

-- a site is known by the line and column where it stands
abbrev pub stands_at : Position → Site → Bool
stands_at at s = (s.at.line == at.line) && (s.at.column == at.column)

-- the first has the number 1
abbrev pub site_counted : Option ℕ → ℕ
site_counted None = 0
site_counted (Some i) = i + 1

-- the number of the site that stands at the place
abbrev pub site_at : List Site → Position → ℕ
site_at sites at = site_counted (position (stands_at at) sites)

-- ---- names

-- a name with a number is a formal or a local
abbrev pub home_numbered : Frame → Option ℕ → Option Home
home_numbered f None = None
home_numbered f (Some n) = if nat_le f.first n then slice_get f.homes (n - f.first) else None

-- none for a name that is no formal or local, such as a global
abbrev pub home_of : Context → Text → Option Home
home_of h name = home_numbered h.frame (number_seen h.numbers.scopes name)

-- a name that no global has gives 0
abbrev pub pointer_or_null : Option ℕ → ℕ
pointer_or_null None = 0
pointer_or_null (Some w) = w

-- the pointer to the first cell of the global
abbrev pub global_named : Source → Text → ℕ
global_named s name = pointer_or_null (entry_of s.globals name)

-- ---- sizes

-- the cells of an element to which an operand points
abbrev pub element_of : Source → Operand → ℕ
element_of s (pointing t) = cells_of_type s.whole t
element_of s _ = 0

-- the cells of so many of the first members
abbrev pub cells_of_first : Known → ℕ → List (Option ObjectType) → ℕ
cells_of_first known zero ts = 0
cells_of_first known (suc n) [] = 0
cells_of_first known (suc n) (t ∷ ts) = cells_of_some known t + cells_of_first known n ts

-- in cells from the struct's begin; 0 where there is no such member
abbrev pub offset_numbered : Known → List (Option ObjectType) → Option ℕ → ℕ
offset_numbered known ts None = 0
offset_numbered known ts (Some i) = cells_of_first known i ts

-- how many cells lie before the member of the struct
abbrev pub offset_in : Source → Option ℕ → Text → ℕ
offset_in s None name = 0
offset_in s (Some k) name = offset_numbered s.whole (members_of (slice_get s.whole.structs k)) (member_numbered s.whole k name)

-- the number of a function of the source
abbrev pub function_counted : Option ℕ → ℕ
function_counted None = 0
function_counted (Some i) = i

-- a pointer to the function: one more than its number, since 0 is null
abbrev pub function_word : Option ℕ → ℕ
function_word None = 0
function_word (Some i) = i + 1

-- a call through a pointer of a type goes by the number of the type, counted on from the functions of the source
abbrev pub pointer_counted : Known → ℕ → ℕ
pointer_counted known k = length known.defined + k
