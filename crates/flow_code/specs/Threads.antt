-- A thread's own state, and where in its code it stands.
use Rattle.std.specs.Prelude.{ℕ, zero, suc, ◌+◌, ◌*◌, nat_le, Bool, false, if◌then◌else◌, ℤ, pos, List, [], ◌∷◌, length, codes, nat_eq, Option, Some, None, slice_get, slice_set}
use Rattle.std.specs.Cmp.Lexicographic.{pointwise}
use Rattle.sync_objects.specs.Setup.{SetupView}
use Rattle.rr_base.specs.declared.layout.Site.{Site}
use Rattle.flow_code.specs.declared.act.Act.{Act}
use Rattle.flow_code.specs.declared.act.Act.TheVariants as act
use Rattle.flow_code.specs.declared.act.Instr.{Instr}
use Rattle.flow_code.specs.declared.code.Code.{Code}
use Rattle.flow_code.specs.declared.code.Function.{Function}
use Rattle.flow_code.specs.declared.thread.Phase.{Phase}
use Rattle.flow_code.specs.declared.thread.Phase.TheVariants as phase
use Rattle.flow_code.specs.declared.thread.Stripe.{Stripe}
use Rattle.word_semantics.specs.Pointers.{pointer_at}
use Rattle.word_semantics.specs.Cells.{size_of}

-- a frame: its function and instruction, how many events of this instruction are made and the last answer that it
-- keeps, and its registers
pub record Frame : Type 0 where
  pub function : ℕ
  pub instr : ℕ
  pub made : ℕ
  pub kept : ℤ
  pub registers : List ℕ

-- a region that is open: the frame and the Take that opened it, and its stripes
pub record OpenRegion : Type 0 where
  pub frame : ℕ
  pub instr : ℕ
  pub stripes : List (ℕ × ℕ)

-- a thread: how many events it has made, its next free cell, its entries that aren't ending ones and those that are
-- revokes, its printed bytes, how far it is in its life, its running frame and those below, the latest last, the
-- stripes that it holds or owes, and its open regions, the outermost first
pub record Thread : Type 0 where
  pub count : ℕ
  pub arena : ℕ
  pub entries : ℕ
  pub revokes : ℕ
  pub printed : ℕ
  pub phase : Phase
  pub top : Frame
  pub below : List Frame
  pub stripes : List Stripe
  pub regions : List OpenRegion

-- cells: two hand-off cells for each slot, then the globals, then one arena for each slot

-- the first cell of the arena of thread k, and the first after it
abbrev pub arena_start : Code → SetupView → ℕ → ℕ
arena_start code s k = 2 * s.slots + length code.globals + k * s.cells

-- thread k's objects all lie before this cell
abbrev pub arena_end : Code → SetupView → ℕ → ℕ
arena_end code s k = arena_start code s k + s.cells

-- the function and the instruction

-- the function's instruction there; none past its end
abbrev pub instr_in : Option Function → ℕ → Option Instr
instr_in None at = None
instr_in (Some f) at = slice_get f.instrs at

-- the instruction at which the frame stands
abbrev pub instr_at : Code → Frame → Option Instr
instr_at code frame = instr_in (slice_get code.functions frame.function) frame.instr

-- the instruction's line in the source; 0 where there is none
abbrev pub line_in : Option Instr → ℕ
line_in None = 0
line_in (Some i) = i.at.line

-- the function's line in the source; 0 where there is no function
abbrev pub line_of_function : Option Function → ℕ
line_of_function None = 0
line_of_function (Some f) = f.line

-- the line at which a thread in this phase stands: that of its instruction, or that of the function which it is
-- about to enter
abbrev pub line_of : Code → Phase → Frame → ℕ
line_of code (phase.Begun f) top = line_of_function (slice_get code.functions f)
line_of code (phase.Loaded f w) top = line_of_function (slice_get code.functions f)
line_of code _ top = line_in (instr_at code top)

-- a function is known as `main` by its name alone
abbrev pub is_main_in : Option Function → Bool
is_main_in None = false
is_main_in (Some f) = pointwise nat_eq f.name (codes "main")

-- whether the function is the program's `main` (C99 5.1.2.2.1)
abbrev pub is_main : Code → ℕ → Bool
is_main code f = is_main_in (slice_get code.functions f)

-- entering a function

-- an object that a function has from its entry on: the register that gets its pointer, and its site
pub data Object : Type 0 where
  object : (into : ℕ) → (site : ℕ) → Object

-- the object that an instruction makes; `malloc`, which has a size, makes none here
abbrev pub object_of : Act → Option Object
object_of (act.Alloc into site None) = Some (object into site)
object_of _ = None

-- the object in front of the others, if there is one
abbrev pub and_objects : Option Object → List Object → List Object
and_objects None os = []
and_objects (Some o) os = o ∷ os

-- the objects of the first instructions: those of the function's cell formals and cell locals
abbrev pub objects_of : List Instr → List Object
objects_of [] = []
objects_of (i ∷ is) = and_objects (object_of i.act) (objects_of is)

-- the arena's next free cell once these objects have theirs, if they fit
abbrev pub fitted : List Site → ℕ → List Object → ℕ → Option ℕ
fitted sites end [] at = Some at
fitted sites end (object into site ∷ os) at = if nat_le (at + size_of sites site) end then fitted sites end os (at + size_of sites site) else None

-- the registers with the pointers to these objects
abbrev pub placed : List Site → List Object → ℕ → List ℕ → List ℕ
placed sites [] at registers = registers
placed sites (object into site ∷ os) at registers = placed sites os (at + size_of sites site) (slice_set registers into (pointer_at site at (size_of sites site)))

-- so many registers: the arguments from 0 on, and 0 in all others
abbrev pub with_arguments : ℕ → List ℕ → List ℕ
with_arguments zero arguments = []
with_arguments (suc n) [] = 0 ∷ with_arguments n []
with_arguments (suc n) (a ∷ arguments) = a ∷ with_arguments n arguments

-- the function's instructions; none where there is no function
abbrev pub instrs_in : Option Function → List Instr
instrs_in None = []
instrs_in (Some f) = f.instrs

-- how many registers the function has; 0 where there is no function
abbrev pub registers_in : Option Function → ℕ
registers_in None = 0
registers_in (Some f) = f.registers

-- the objects that function f has from its entry on
abbrev pub objects_in : Code → ℕ → List Object
objects_in code f = objects_of (instrs_in (slice_get code.functions f))

-- the frame with which a function begins, at the first instruction after those of its objects
abbrev pub first_frame : Code → ℕ → List ℕ → ℕ → Frame
first_frame code f arguments arena = record {
  function = f;
  instr = length (objects_in code f);
  made = 0;
  kept = pos 0;
  registers = placed code.sites (objects_in code f) arena (with_arguments (registers_in (slice_get code.functions f)) arguments);
}
