-- Weakened code: the plain code with its weak locks, with the regions of each function, and with their Takes and Gives.
use Rattle.std.specs.Prelude.{ℕ, ◌+◌, List, [], ◌∷◌, ◌++◌, map}
use Rattle.rr_base.specs.declared.layout.Place.{Place}
use Rattle.flow_code.specs.declared.act.Act.{Act}
use Rattle.flow_code.specs.declared.act.Act.TheVariants as act
use Rattle.flow_code.specs.declared.act.Instr.{Instr}
use Rattle.flow_code.specs.declared.code.Code.{Code}
use Rattle.flow_code.specs.declared.code.Function.{Function}
use Rattle.flow_code.specs.declared.code.LoopInfo.{LoopInfo}
use Rattle.facts.specs.declared.pair.Pair.{Pair}
use Rattle.facts.specs.PointsTo.{Tables}
use Rattle.weak_lock_facts.specs.declared.grain.Grained.{Grained}
use Rattle.weak_lock_facts.specs.declared.range.Range.{Range}
use Rattle.weak_code.specs.declared.stretch.Stretch.{Stretch}
use Rattle.weak_code.specs.WeakLocks.{places_in, locks_for}
use Rattle.weak_code.specs.Stretches.{racy_accesses, stretches_of}
use Rattle.weak_code.specs.Places.{before, place_of, seat_of, enter}

-- ---- instructions

-- an instruction with other targets of its jumps
abbrev pub retarget : (ℕ → ℕ) → Act → Act
retarget to (act.Jump k) = act.Jump (to k)
retarget to (act.Branch on then_at else_at) = act.Branch on (to then_at) (to else_at)
retarget to a = a

-- a Take or Give stands where the next instruction does that is neither
abbrev pub at_instr : Instr → Act → Instr
at_instr i a = record { at = i.at; act = a }

-- what stands before the k-th instruction, and then that one
abbrev pub block : List Stretch → (all : List Instr) → (k : ℕ) → Instr → List Instr
block ss all k i = map (at_instr i) (before ss k i.act) ++ at_instr i (retarget (enter ss all k) i.act) ∷ []

-- the instructions from the k-th on
abbrev pub blocks : List Stretch → (all : List Instr) → (k : ℕ) → List Instr → List Instr
blocks ss all k [] = []
blocks ss all k (i ∷ is) = block ss all k i ++ blocks ss all (k + 1) is

-- all of a function's instructions, with the Takes and Gives of its regions
abbrev pub weakened_instrs : List Stretch → List Instr → List Instr
weakened_instrs ss is = blocks ss is 0 is

-- ---- loops

-- the loop by its Mark, where its body is entered, and its last instruction
abbrev pub moved_loop : List Stretch → List Instr → LoopInfo → LoopInfo
moved_loop ss is l = record { at = seat_of ss is l.at; first = place_of ss is l.first; last = seat_of ss is l.last; counter = l.counter; bound = l.bound; step = l.step }

-- ---- functions

-- only instructions, loops and regions become others
abbrev pub with_stretches : Function → List Stretch → Function
with_stretches fn ss = record {
  name = fn.name;
  line = fn.line;
  formals = fn.formals;
  registers = fn.registers;
  pointers = fn.pointers;
  gives_pointer = fn.gives_pointer;
  instrs = weakened_instrs ss fn.instrs;
  loops = map (moved_loop ss fn.instrs) fn.loops;
  regions = map (λ s. s.region) ss;
}

-- function f of the code
abbrev pub weakened_function : Code → Tables → List Place → List Range → List Grained → (f : ℕ) → Function → Function
weakened_function code t locked rs rows f fn = with_stretches fn (stretches_of fn (racy_accesses code t locked rs rows f))

-- the functions from f on
abbrev pub weakened_functions : Code → Tables → List Place → List Range → List Grained → (f : ℕ) → List Function → List Function
weakened_functions code t locked rs rows f [] = []
weakened_functions code t locked rs rows f (fn ∷ fns) = weakened_function code t locked rs rows f fn ∷ weakened_functions code t locked rs rows (f + 1) fns

-- ---- the code

-- by where its pointers may point, by its pairs and ranges, and by the grains of its racy accesses
unfoldable pub weakened : Code → Tables → List Pair → List Range → List Grained → Code
weakened code t vs rs rows = record {
  functions = weakened_functions code t (places_in vs) rs rows 0 code.functions;
  sites = code.sites;
  globals = code.globals;
  global_kinds = code.global_kinds;
  global_bases = code.global_bases;
  locks = locks_for code t rows (places_in vs);
}
