-- The blocks of a code's instructions, and the accesses that may be guarded with them.
use Rattle.std.specs.Prelude.{◌≡◌, ℕ, ◌<◌, ◌==◌, ◌&&◌, Bool, false, List, [], length, Option, Some, None, slice_get, slice_index_or}
use Rattle.flow_code.specs.declared.act.Instr.{Instr}
use Rattle.flow_code.specs.declared.code.Code.{Code}
use Rattle.facts.specs.declared.pair.AccessAt.{AccessAt}
use Rattle.weak_lock_facts.specs.Grains.{block_at, instrs_of, those_below}
use Rattle.grain_choice.specs.Listed.{is_listed}

-- each is the first instruction of the block of the instruction in its place
pub record AreFirsts (is : List Instr) (firsts : List ℕ) : Type 0 where
  pub long : length firsts ≡ length is
  pub each : (k : ℕ) → k < length is → slice_index_or firsts k 0 ≡ block_at is k

-- the same of each function of the code
pub record HaveFirsts (code : Code) (firsts : List (List ℕ)) : Type 0 where
  pub each : (f : ℕ) → AreFirsts (instrs_of code f) (slice_index_or firsts f [])

-- the first instruction of the access's block
abbrev pub block_in : List (List ℕ) → AccessAt → Option ℕ
block_in firsts a = slice_get (slice_index_or firsts a.function []) a.instr

-- there is a block, and it begins at b
abbrev pub is_block : ℕ → Option ℕ → Bool
is_block b None = false
is_block b (Some c) = c == b

-- the access is in the block of the function that begins at b
abbrev pub is_in_block : List (List ℕ) → AccessAt → (f b : ℕ) → Bool
is_in_block firsts a f b = (a.function == f) && is_block b (block_in firsts a)

-- no access is in no block
abbrev pub holds_in_block : List (List ℕ) → Option AccessAt → (f b : ℕ) → Bool
holds_in_block firsts None f b = false
holds_in_block firsts (Some a) f b = is_in_block firsts a f b

-- the listed accesses of the block of the access, by their instructions
abbrev pub beside : Code → List AccessAt → AccessAt → List ℕ
beside code narrow a = those_below (λ k. is_listed narrow (record { function = a.function; instr = k }) && (block_at (instrs_of code a.function) k == block_at (instrs_of code a.function) a.instr)) (length (instrs_of code a.function))
