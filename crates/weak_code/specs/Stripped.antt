-- A code without its weak locks: without Takes, Gives and regions, and with its jumps to where they lead then.
use Rattle.std.specs.Prelude.{ℕ, zero, suc, ◌==◌, ◌&&◌, Bool, true, false, if◌then◌else◌, List, [], ◌∷◌, length, map}
use Rattle.std.specs.List.{list_all}
use Rattle.flow_code.specs.declared.act.Act.{Act}
use Rattle.flow_code.specs.declared.act.Act.TheVariants as act
use Rattle.flow_code.specs.declared.act.Instr.{Instr}
use Rattle.flow_code.specs.declared.code.Code.{Code}
use Rattle.flow_code.specs.declared.code.Function.{Function}
use Rattle.flow_code.specs.declared.code.LoopInfo.{LoopInfo}
use Rattle.weak_code.specs.Weakened.{retarget, at_instr}

-- an action that no source has: weak locks alone make it
abbrev pub is_weak : Act → Bool
is_weak (act.Take r) = true
is_weak (act.Give r) = true
is_weak _ = false

-- how many instructions that aren't weak stand before a place
abbrev pub plain_of : List Instr → (place : ℕ) → ℕ
plain_of [] w = 0
plain_of (i ∷ is) zero = 0
plain_of (i ∷ is) (suc w) = if is_weak i.act then plain_of is w else suc (plain_of is w)

-- those that aren't weak, with other targets of their jumps
abbrev pub stripped : (ℕ → ℕ) → List Instr → List Instr
stripped to [] = []
stripped to (i ∷ is) = if is_weak i.act then stripped to is else at_instr i (retarget to i.act) ∷ stripped to is

-- the loop with its places as they are without Takes and Gives
abbrev pub stripped_loop : (ℕ → ℕ) → LoopInfo → LoopInfo
stripped_loop to l = record { at = to l.at; first = to l.first; last = to l.last; counter = l.counter; bound = l.bound; step = l.step }

-- the function as it was before its regions were put in
abbrev pub strip_function : Function → Function
strip_function fn = record {
  name = fn.name;
  line = fn.line;
  formals = fn.formals;
  registers = fn.registers;
  pointers = fn.pointers;
  gives_pointer = fn.gives_pointer;
  instrs = stripped (plain_of fn.instrs) fn.instrs;
  loops = map (stripped_loop (plain_of fn.instrs)) fn.loops;
  regions = [];
}

-- undoes `weakened`: what is left is the plain code
abbrev pub strip : Code → Code
strip code = record {
  functions = map strip_function code.functions;
  sites = code.sites;
  globals = code.globals;
  global_kinds = code.global_kinds;
  global_bases = code.global_bases;
  locks = [];
}

-- the code has no weak locks and no regions
abbrev pub is_plain : Code → Bool
is_plain code = (length code.locks == 0) && list_all (λ fn. length fn.regions == 0) code.functions
