-- Words that point where the analysis says, and threads that hold no others.
use Rattle.std.specs.Prelude.{◌≡◌, ℕ, zero, suc, ◌+◌, ◌<◌, true, ℤ, List, [], ◌∷◌, reverse, length, Option, Some, slice_get, ◌⊎◌}
use Rattle.rr_base.specs.Words.{site_of, class_of, place_of}
use Rattle.rr_base.specs.declared.layout.CellKind.{CellKind}
use Rattle.rr_base.specs.declared.layout.CellKind.TheVariants as kind
use Rattle.rr_base.specs.declared.layout.Place.{Place}
use Rattle.sync_objects.specs.Setup.{SetupView}
use Rattle.word_semantics.specs.declared.library_call.LibraryCall.TheVariants as call
use Rattle.word_semantics.specs.Cells.{result_cell}
use Rattle.word_semantics.specs.Pointers.{site_at, kind_in}
use Rattle.word_semantics.specs.Library.{argument, slot_in}
use Rattle.word_semantics.specs.Registers.{register, words_of}
use Rattle.word_semantics.specs.Values.{number, word}
use Rattle.flow_code.specs.declared.act.Act.{Act}
use Rattle.flow_code.specs.declared.act.Act.TheVariants as act
use Rattle.flow_code.specs.declared.code.Code.{Code}
use Rattle.flow_code.specs.declared.thread.Phase.{Phase}
use Rattle.flow_code.specs.declared.thread.Phase.TheVariants as phase
use Rattle.flow_code.specs.Next.{act_in, act_at, pointers_in}
use Rattle.flow_code.specs.Threads.{Frame, Thread, instr_in, instrs_in, registers_in, is_main}
use Rattle.flow_code.specs.Works.{is_pointer}
use Rattle.facts.specs.Blocks.{constant_at}
use Rattle.facts.specs.PointsTo.{place, element_of, MayPoint}
use Rattle.facts.specs.declared.constraint.Node.{Node}
use Rattle.facts.specs.declared.constraint.Node.TheVariants.{Register, Ended, Cells}
use Rattle.points_to_sound.specs.Objects.{Object, IsObject, PointsInto}

-- the place to which a word points
abbrev pub pointed : Code → ℕ → Place
pointed code w = place_of (element_of code.sites (site_of w)) w

-- the word is good for the places to which this may point: it points nowhere, or into an object, to one of these places
pub data IsGood (code : Code) (s : SetupView) (made : List Object) (n : Node) (w : ℕ) : Type 0 where
  nowhere : site_of w ≡ 0 → IsGood code s made n w
  points : (o : Object) → IsObject code s made o → PointsInto o w → MayPoint code n (pointed code w) → IsGood code s made n w

-- the cell is one of an object, at a place to which the node may point
pub record Reaches (code : Code) (s : SetupView) (made : List Object) (n : Node) (c : ℕ) (want : CellKind) : Type 0 where
  pub object : Object
  pub is : IsObject code s made object
  pub offset : ℕ
  pub within : offset < object.cells
  pub cell : c ≡ object.base + offset
  pub kind : kind_in (site_at code.sites object.site) offset ≡ Some want
  pub may : MayPoint code n (place object.site (class_of (element_of code.sites object.site) offset))

-- ---- one thread

-- the instruction at a place of a function
abbrev pub act_of : Code → ℕ → ℕ → Option Act
act_of code f k = act_in (instr_in (slice_get code.functions f) k)

-- each pointer among the registers is good for its register's places
abbrev pub GoodRegisters : Code → SetupView → List Object → ℕ → List ℕ → Type 0
GoodRegisters code s made f registers = (r : ℕ) → is_pointer (pointers_in (slice_get code.functions f)) r ≡ true → IsGood code s made (Register f r) (register registers r)

-- the frame stands at a call of the function
pub record Calls (code : Code) (l : Frame) (g : ℕ) : Type 0 where
  pub arguments : List ℕ
  pub into : Option ℕ
  pub at : act_of code l.function l.instr ≡ Some (act.Call g arguments into)

-- some instruction starts threads with the function
pub record IsStarted (code : Code) (g : ℕ) : Type 0 where
  pub function : ℕ
  pub instr : ℕ
  pub arguments : List ℕ
  pub into : Option ℕ
  pub at : act_of code function instr ≡ Some (act.Library (call.Create g) arguments into)

-- a thread begins with the function
abbrev pub IsRoot : Code → ℕ → Type 0
IsRoot code f = (is_main code f ≡ true) ⊎ IsStarted code f

-- the frame below called this function; where there is none, the thread began with it
abbrev pub Linked : Code → ℕ → List Frame → Type 0
Linked code f [] = IsRoot code f
Linked code f (l ∷ ls) = Calls code l f

-- the frame has all its function's registers
abbrev pub IsWhole : Code → Frame → Type 0
IsWhole code f = length f.registers ≡ registers_in (slice_get code.functions f.function)

-- the frames from this one down
abbrev pub GoodFrames : Code → SetupView → List Object → List Frame → Type 0
GoodFrames code s made [] = Unit {0}
GoodFrames code s made (f ∷ fs) = GoodRegisters code s made f.function f.registers × Linked code f.function fs × IsWhole code f × GoodFrames code s made fs

-- the same, and each register that is a constant at the frame's place holds it
pub record HoldsConstants (code : Code) (f : Frame) : Type 0 where
  pub all : IsWhole code f
  pub constants : (r : ℕ) (z : ℤ) → constant_at (instrs_in (slice_get code.functions f.function)) f.instr r ≡ Some z → number (register f.registers r) ≡ z

-- the thread that a join waits for
abbrev pub joined : List ℕ → List ℕ → ℕ
joined registers arguments = slot_in (number (argument (words_of registers arguments) 0))

-- a join's thread has a slot; and what it has loaded and not yet passed on
abbrev pub GoodKept : Code → SetupView → List Object → List ℕ → Option Act → ℕ → ℤ → Type 0
GoodKept code s made registers (Some (act.Library call.Join arguments into)) (suc zero) kept = joined registers arguments < s.slots
GoodKept code s made registers (Some (act.Library call.Join arguments into)) (suc (suc n)) kept = IsGood code s made Ended (word kept)
GoodKept code s made registers _ events kept = Unit {0}

-- a thread in its frames
pub record GoodRunning (code : Code) (s : SetupView) (made : List Object) (th : Thread) : Type 0 where
  pub frames : GoodFrames code s made (th.top ∷ reverse th.below)
  pub constants : HoldsConstants code th.top
  pub kept : GoodKept code s made th.top.registers (act_at code th.top) th.top.made th.top.kept

-- a thread that has loaded its argument
pub record GoodLoaded (code : Code) (s : SetupView) (made : List Object) (f w : ℕ) : Type 0 where
  pub root : IsRoot code f
  pub argument : IsGood code s made (Register f 0) w

-- all that a thread holds is good
abbrev pub GoodPhase : Code → SetupView → List Object → Thread → Phase → Type 0
GoodPhase code s made th (phase.Begun f) = IsRoot code f
GoodPhase code s made th (phase.Loaded f w) = GoodLoaded code s made f w
GoodPhase code s made th phase.Running = GoodRunning code s made th
GoodPhase code s made th _ = Unit {0}

-- no word that the thread holds points where the analysis says it may not
abbrev pub GoodThread : Code → SetupView → List Object → Thread → Type 0
GoodThread code s made th = GoodPhase code s made th th.phase

-- ---- cells

-- each pointer in a pointer cell of an object is good for the cell's places
abbrev pub GoodCells : Code → SetupView → List Object → List ℕ → Type 0
GoodCells code s made words = (o : Object) (offset w : ℕ) →
    IsObject code s made o →
    offset < o.cells →
    kind_in (site_at code.sites o.site) offset ≡ Some kind.Pointer →
    slice_get words (o.base + offset) ≡ Some w →
    IsGood code s made (Cells (place o.site (class_of (element_of code.sites o.site) offset))) w

-- each result that a thread hands over is good for what joins store
abbrev pub GoodResults : Code → SetupView → List Object → List ℕ → Type 0
GoodResults code s made words = (k w : ℕ) → k < s.slots → slice_get words (result_cell k) ≡ Some w → IsGood code s made Ended w
