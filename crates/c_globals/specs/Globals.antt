-- The cells of globals: the pointer to each, and the words as which they start (C99 6.6, 6.7.8).
use Rattle.std.specs.Prelude.{ℕ, ◌+◌, ◌-◌, true, if◌then◌else◌, List, [], ◌∷◌, ◌++◌, length, replicate, Option, Some, None, Ok, Err}
use Rattle.rr_base.specs.declared.layout.CellKind.{CellKind}
use Rattle.rr_base.specs.declared.layout.Site.{Site}
use Rattle.rr_base.specs.Words.{pack}
use Rattle.rr_base.specs.Texts.{Text, entry_of}
use Rattle.word_semantics.specs.Values.{word}
use Rattle.c_tree.specs.declared.ctype.Specifier.{Specifier}
use Rattle.c_tree.specs.Tree.{Exp, named, prefix, paren, Init, value, braces, mutex_start, cond_start, rwlock_start, Inits, no_init, and_init, Object, plain, initialised}
use Rattle.c_types.specs.declared.types.ObjectType.{ObjectType}
use Rattle.c_types.specs.Numbers.{Computed}
use Rattle.c_types.specs.Constants.{is_constant}
use Rattle.c_constants.specs.Values.{value_here}
use Rattle.c_types.specs.Scopes.{Known, with_name, function_numbered}
use Rattle.c_programs.specs.Declarators.{declared_type}
use Rattle.c_programs.specs.Initials.{part_at, part_type}
use Rattle.c_names.specs.Sources.{declared_by}
use Rattle.c_programs.specs.Statements.{after_declared}
use Rattle.c_spots.specs.Spots.{Holder, a_global, a_local, an_allocation, Spot}
use Rattle.c_operators.specs.Context.{Source, function_word}
use Rattle.c_initials.specs.Initials.{kinds_of_some}

-- ---- addresses

-- a global is known by its name, with the pointer to its first cell
abbrev pub with_global : Holder → ℕ → List (Text × ℕ) → List (Text × ℕ)
with_global (a_global name) w gs = with_name gs name w
with_global (a_local f name) w gs = gs
with_global an_allocation w gs = gs

-- how many global cells: those of a local or a `malloc` lie in arenas
abbrev pub holder_cells : Holder → ℕ → ℕ
holder_cells (a_global name) cells = cells
holder_cells (a_local f name) cells = 0
holder_cells an_allocation cells = 0

-- the globals so far and those among these spots, the first of which has the number `site` and lies after so many global cells
abbrev pub globals_after : ℕ → ℕ → List (Text × ℕ) → List Spot → List Site → List (Text × ℕ)
globals_after site base gs [] sites = gs
globals_after site base gs (spot ∷ spots) [] = gs
globals_after site base gs (spot ∷ spots) (s ∷ sites) =
    globals_after (site + 1) (base + holder_cells spot.holder s.layout.size) (with_global spot.holder (pack site base s.layout.size 0) gs) spots sites

-- the kinds of the cells that a spot takes among the global ones
abbrev pub holder_kinds : Holder → List CellKind → List CellKind
holder_kinds (a_global name) ks = ks
holder_kinds (a_local f name) ks = []
holder_kinds an_allocation ks = []

-- the kind of each global cell
abbrev pub global_kinds : List Spot → List Site → List CellKind
global_kinds [] sites = []
global_kinds (spot ∷ spots) [] = []
global_kinds (spot ∷ spots) (s ∷ sites) = holder_kinds spot.holder s.layout.kinds ++ global_kinds spots sites

-- only a global's object has a fixed place
abbrev pub holder_base : Holder → ℕ → Option ℕ
holder_base (a_global name) base = Some base
holder_base (a_local f name) base = None
holder_base an_allocation base = None

-- for each spot the first cell of its global, where so many global cells lie before
abbrev pub global_bases : (base : ℕ) → List Spot → List Site → List (Option ℕ)
global_bases base [] sites = []
global_bases base (spot ∷ spots) [] = []
global_bases base (spot ∷ spots) (s ∷ sites) = holder_base spot.holder base ∷ global_bases (base + holder_cells spot.holder s.layout.size) spots sites

-- ---- start words

-- the pointer to the global, or to the function of this number
abbrev pub named_word : Option ℕ → Option ℕ → ℕ
named_word (Some w) f = w
named_word None f = function_word f

-- a global array, what `&` is applied to, or a function, which may be defined later; else null
abbrev pub address_word : Source → Exp → ℕ
address_word s (named name at) = named_word (entry_of s.globals name) (function_numbered s.whole name)
address_word s (prefix op e at) = address_word s e
address_word s (paren e at) = address_word s e
address_word s _ = 0

-- a constant that traps gives 0
abbrev pub computed_word : Computed → ℕ
computed_word (Ok z) = word z
computed_word (Err t) = 0

-- a number in 64 bits, or else an address constant (C99 6.6)
abbrev pub constant_word : Source → Known → Exp → ℕ
constant_word s known e = if is_constant e then computed_word (value_here known e) else address_word s e

-- so many words at least, after these
abbrev pub padded : ℕ → List ℕ → List ℕ
padded n ws = ws ++ replicate (n - length ws) 0

abbrev mutual
  -- the words of a part of the type
  pub start_words : Source → Known → Option ObjectType → Init → List ℕ
  start_words s known t (value e) = constant_word s known e ∷ []
  start_words s known t (braces is trailing at) = padded (length (kinds_of_some s t)) (parts_words s known t 0 is)
  start_words s known t (mutex_start at) = 0 ∷ []
  start_words s known t (cond_start at) = 0 ∷ []
  start_words s known t (rwlock_start at) = 0 ∷ []

  -- of its parts from the one with the number i on
  pub parts_words : Source → Known → Option ObjectType → ℕ → Inits → List ℕ
  parts_words s known t i no_init = []
  parts_words s known t i (and_init x is) = start_words s known (part_type (part_at known t i)) x ++ parts_words s known t (i + 1) is

-- a global that starts as nothing has cells of 0
abbrev pub object_words : Source → Known → Specifier → Object → List ℕ
object_words s known sp (plain d) = replicate (length (kinds_of_some s (declared_type known sp d))) 0
object_words s known sp (initialised d i at) = start_words s (after_declared known true sp d) (declared_type known sp d) i

-- the words of all globals of one declaration, in order
abbrev pub objects_words : Source → Known → Specifier → List Object → List ℕ
objects_words s known sp [] = []
objects_words s known sp (o ∷ os) = object_words s known sp o ++ objects_words s (after_declared known true sp (declared_by o)) sp os
