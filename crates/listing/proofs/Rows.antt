-- Worked rows of listings.
use Rattle.std.proofs.Common.{◌≡◌, ℕ, true, false, List, [], ◌∷◌, None, refl, codes}
use Rattle.std.specs.Fmt.{digits}
use Rattle.rr_base.specs.declared.layout.Site.{Site}
use Rattle.flow_code.specs.declared.act.Act.{Act}
use Rattle.flow_code.specs.declared.act.Act.TheVariants as act
use Rattle.word_semantics.specs.declared.library_call.LibraryCall.TheVariants as call
use Rattle.flow_code.specs.declared.act.Instr.{Instr}
use Rattle.flow_code.specs.declared.code.Code.{Code}
use Rattle.flow_code.specs.declared.code.Function.{Function}
use Rattle.facts.specs.declared.pair.AccessAt.{AccessAt}
use Rattle.facts.specs.declared.pair.Pair.{Pair}
use Rattle.listing.specs.Lines.{shown, shown_less, line_of}
use Rattle.listing.specs.Text.{place_text, line_text, races_text_of}

abbrev site : List ℕ → Site
site name = record { name = name; layout = record { size = 1; element = 1; kinds = [] }; at = record { line = 1; column = 1 } }

abbrev instr : (line column : ℕ) → Act → Instr
instr line column a = record { at = record { line = line; column = column }; act = a }

abbrev function : List Instr → Function
function is = record { name = []; line = 1; formals = 0; registers = 2; pointers = []; gives_pointer = false; instrs = is; loops = []; regions = [] }

-- a store at 7:3, and a load at 5:9 after it; then a load at 14:16, and a `pthread_create` at 12:3
abbrev code : Code
code = record {
  functions = function (instr 7 3 (act.StoreCell 0 1) ∷ instr 5 9 (act.LoadCell 1 0) ∷ []) ∷ function (instr 14 16 (act.LoadCell 1 0) ∷ instr 12 3 (act.Library (call.Create 0) (0 ∷ 1 ∷ []) None) ∷ []) ∷ [];
  sites = site (codes "items") ∷ site (codes "x") ∷ [];
  globals = [];
  global_kinds = [];
  global_bases = [];
  locks = [];
}

abbrev at : (function instr : ℕ) → AccessAt
at f k = record { function = f; instr = k }

abbrev pair : (site class : ℕ) → AccessAt → AccessAt → Pair
pair s c a b = record { place = record { site = s; class = c }; first = a; second = b }

pub create_row : shown code (at 1 1) ≡ record { at = record { line = 12; column = 3 }; store = true }
create_row = refl

-- the code has no such instruction
pub nowhere_row : shown code (at 1 2) ≡ record { at = record { line = 0; column = 0 }; store = false }
nowhere_row = refl

pub kinds_row : shown_less (record { at = record { line = 7; column = 3 }; store = false }) (record { at = record { line = 7; column = 3 }; store = true }) ≡ true
kinds_row = refl

pub place_row : place_text code (record { site = 1; class = 12 }) ≡ codes "items+12"
unfolding digits
place_row = refl

-- the access that is first in the source comes first
pub line_row : line_text code (line_of code (pair 2 0 (at 0 0) (at 0 1))) ≡ codes "race x+0 load 5:9 store 7:3\n"
unfolding digits
line_row = refl

pub text_row : races_text_of code (pair 2 0 (at 0 0) (at 0 0) ∷ pair 2 0 (at 0 0) (at 0 1) ∷ pair 2 0 (at 0 0) (at 1 0) ∷ [])
    ≡ codes "race x+0 load 5:9 store 7:3\nrace x+0 store 7:3 store 7:3\nrace x+0 store 7:3 load 14:16\nraces 3\n"
unfolding digits
text_row = refl

-- lines of one place stand together, and equal lines are repeated
pub repeated_row : races_text_of code (pair 2 0 (at 0 0) (at 0 1) ∷ pair 1 0 (at 0 0) (at 1 1) ∷ pair 2 0 (at 0 1) (at 0 0) ∷ [])
    ≡ codes "race items+0 store 7:3 store 12:3\nrace x+0 load 5:9 store 7:3\nrace x+0 load 5:9 store 7:3\nraces 3\n"
unfolding digits
repeated_row = refl

pub none_row : races_text_of code [] ≡ codes "races 0\n"
unfolding digits
none_row = refl
