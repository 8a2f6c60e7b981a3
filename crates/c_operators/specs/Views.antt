-- How what the crate holds shows.
use Rattle.std.specs.Prelude.{ℕ, List, Option, Some, None, map, reverse}
use Rattle.std.specs.Borrow.{Bor}
use Rattle.std.specs.Global.{Box}
use Rattle.indexmap.specs.IndexMap.{IndexMap}
use Rattle.rr_base.specs.Texts.{Text}
use Rattle.c_types.specs.Shown.{shown_standing}
use Rattle.c_names.specs.Table.{known_of}
use Rattle.c_numbers.specs.NumberTables.{numbered_of}
use Rattle.core_tree.specs.declared.value.Value.{Value}
use Rattle.core_tree.specs.Core.{Exp}
use Rattle.core_tree.specs.View.{exp_of}
use Rattle.c_operators.specs.declared.denoted.Denoted.{Denoted as RustDenoted}
use Rattle.c_operators.specs.declared.denoted.Denoted.TheVariants as rust
use Rattle.c_operators.specs.declared.denoted.Part.{Part as RustPart}
use Rattle.c_operators.specs.declared.context.Source.{Source as RustSource}
use Rattle.c_operators.specs.declared.context.Frame.{Frame as RustFrame}
use Rattle.c_operators.specs.declared.context.Context.{Context as RustHere}
use Rattle.c_operators.specs.Denoted.{Denoted, denoted_register, denoted_cells, denoted_zero, denoted_null, denoted_value, Part, part_by}
use Rattle.c_operators.specs.Context.{Source, Frame, Context}

-- a place in the list of those behind commas, which may be empty
abbrev pub maybe_word : Option (Box Value) → Option Exp
maybe_word None = None
maybe_word (Some e) = Some (exp_of e.value)

-- the crate's denoted expression, as plain data
abbrev pub denoted_of : RustDenoted → Denoted
denoted_of (rust.Register n at) = denoted_register n at
denoted_of (rust.Cells e at) = denoted_cells (exp_of e.value) at
denoted_of (rust.Zero at) = denoted_zero at
denoted_of (rust.Null at) = denoted_null at
denoted_of (rust.Value e) = denoted_value (exp_of e.value)

-- its type shows by the view of the type crate
abbrev pub part_of : RustPart → Part
part_of p = part_by (shown_standing p.standing) (denoted_of p.denoted)

-- words so far, of which the last place stands last
abbrev pub places_of : List (Option (Box Value)) → List (Option Exp)
places_of places = map maybe_word (reverse places)

-- in the order in which the map holds them
abbrev pub globals_of : {S : Type 0} → IndexMap (Bor Text) ℕ S → List (Text × ℕ)
globals_of gs = map (λ e. (e.0.now, e.1)) gs.entries

-- what is known of the whole source
abbrev pub source_in : RustSource → Source
source_in s = record { whole = known_of s.whole; kinds = s.kinds; sites = s.sites.now; globals = globals_of s.globals }

-- what is known of the function
abbrev pub frame_in : RustFrame → Frame
frame_in f = record { first = f.first; homes = f.homes; gives_pointer = f.gives_pointer }

-- what is known at the place
abbrev pub context_of : RustHere → Context
context_of h = record { source = source_in h.source.now; frame = frame_in h.frame.now; known = known_of h.table.now; numbers = numbered_of h.numbers.now }
