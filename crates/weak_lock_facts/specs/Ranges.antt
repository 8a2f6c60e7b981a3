-- The accesses of counted loops whose elements are known where the loop is entered: those of an array or a pointer that the
-- loop keeps, at the counter, or so many elements after it or before it.
use Rattle.std.specs.Prelude.{ℕ, zero, suc, ◌+◌, ◌-◌, ◌^◌, ◌==◌, nat_lt, nat_le, ◌&&◌, Bool, true, false, not, if◌then◌else◌, ℤ, pos, negsuc, neg_ℤ, List, [], ◌∷◌, ◌++◌, drop, Option, Some, None, option_to_list}
use Rattle.std.specs.List.{list_all, count_by}
use Rattle.rr_base.specs.Words.{site_of}
use Rattle.rr_base.specs.declared.layout.Place.{Place}
use Rattle.flow_code.specs.declared.act.Act.{Act}
use Rattle.flow_code.specs.declared.act.Act.TheVariants as act
use Rattle.flow_code.specs.declared.act.Instr.{Instr}
use Rattle.flow_code.specs.declared.code.Code.{Code}
use Rattle.flow_code.specs.declared.code.Function.{Function}
use Rattle.flow_code.specs.declared.code.LoopInfo.{LoopInfo}
use Rattle.flow_code.specs.declared.region.Base.{Base}
use Rattle.flow_code.specs.declared.region.Base.TheVariants as base
use Rattle.flow_code.specs.declared.work.Work.TheVariants as work
use Rattle.word_semantics.specs.declared.operator.BinaryOp.TheVariants as op
use Rattle.flow_code.specs.Order.{is_mark}
use Rattle.facts.specs.Blocks.{begins_block, assigns, constant_at, is_target}
use Rattle.facts.specs.PointsTo.{Tables, list_at, element_of}
use Rattle.weak_lock_facts.specs.declared.range.Range.{Range}
use Rattle.weak_lock_facts.specs.Loops.{◌>>=◌, nth, loop_code, keeps, is_entered_at, counted_of}

-- ---- the loop of an access

-- a loop round the k-th instruction begins with the m-th: it is a Mark to which a jump or branch from the k-th on goes back
abbrev pub begins_round : List Instr → (k m : ℕ) → Bool
begins_round is k m = is_mark (nth is m) && is_target (drop k is) m

-- the last of the first m instructions with which a loop round the k-th begins
abbrev pub mark_before : List Instr → (k m : ℕ) → Option ℕ
mark_before is k zero = None
mark_before is k (suc m) = if begins_round is k m then Some m else mark_before is k m

-- there is a number, and it is n
abbrev pub is_number : ℕ → Option ℕ → Bool
is_number n None = false
is_number n (Some m) = m == n

-- the loop is the innermost one of any kind round the k-th instruction
abbrev pub is_innermost : List Instr → ℕ → LoopInfo → Bool
is_innermost is k l = nat_le k l.last && is_number l.at (mark_before is k k)

-- of a function of the code, or of the library (C99 6.5.2.2)
abbrev pub is_call : Act → Bool
is_call (act.Call g arguments into) = true
is_call (act.Library c arguments into) = true
is_call _ = false

-- no function is called, nor the library
abbrev pub calls_nothing : List Instr → Bool
calls_nothing is = list_all (λ i. not (is_call i.act)) is

-- the first of these loops that is the innermost one round the k-th instruction and calls nothing
abbrev pub loop_round : List Instr → ℕ → List LoopInfo → Option LoopInfo
loop_round is k [] = None
loop_round is k (l ∷ ls) = if is_innermost is k l && calls_nothing (loop_code is l) then Some l else loop_round is k ls

-- ---- its pointer

-- the register by which an instruction loads or stores a cell
abbrev pub pointer_of : Act → Option ℕ
pointer_of (act.LoadCell into through) = Some through
pointer_of (act.StoreCell through from) = Some through
pointer_of _ = None

-- the last of the first k instructions that assigns the register
abbrev pub last_maker : List Instr → (k r : ℕ) → Option ℕ
last_maker is zero r = None
last_maker is (suc k) r = if assigns r (nth is k) then Some k else last_maker is k r

-- one instruction of all assigns the register
abbrev pub has_one_maker : List Instr → ℕ → Bool
has_one_maker is r = count_by (λ i. assigns r (Some i.act)) is == 1

-- the only instruction that assigns the register, if it stands in the loop before the k-th one, and each way there comes by it
abbrev pub only_maker : List Instr → LoopInfo → (k r : ℕ) → Option ℕ
only_maker is l k r = do
  q ← last_maker is k r
  if nat_lt l.at q && has_one_maker is r && is_entered_at is q k then Some q else None

-- of a pointer moved on by so many elements of one cell: the pointer, and the number
abbrev pub moved_of : Option Act → Option (ℕ × ℕ)
moved_of (Some (act.Compute into (work.Move pointer by element false))) = if element == 1 then Some (pointer, by) else None
moved_of _ = None

-- the last instruction before the k-th one in its block that assigns the register
abbrev pub maker_at : List Instr → (k r : ℕ) → Option ℕ
maker_at is zero r = None
maker_at is (suc k) r = if begins_block is (suc k) then None else if assigns r (nth is k) then Some k else maker_at is k r

-- what it does
abbrev pub made_at : List Instr → (k r : ℕ) → Option Act
made_at is k r = do
  m ← maker_at is k r
  nth is m

-- ---- its base

-- the address of a global, or a register that the loop keeps, as the pointers of local arrays are
abbrev pub base_of : List Instr → LoopInfo → (r : ℕ) → Option Act → Option Base
base_of is l r (Some (act.Compute into (work.Address w))) = Some (base.Site (site_of w))
base_of is l r _ = if keeps is l r then Some (base.Register r) else None

-- what register r has at the k-th instruction of the loop
abbrev pub base_at : List Instr → LoopInfo → (k r : ℕ) → Option Base
base_at is l k r = base_of is l r (made_at is k r)

-- ---- its index

-- the negative, which the least number of 64 bits doesn't have there
abbrev pub negative : ℤ → Option ℤ
negative (pos n) = Some (neg_ℤ (pos n))
negative (negsuc n) = if n == 2 ^ 63 - 1 then None else Some (neg_ℤ (negsuc n))

-- the distance where a constant is subtracted from the counter
abbrev pub negative_of : Option ℤ → Option ℤ
negative_of None = None
negative_of (Some d) = negative d

-- how far the sum or difference that the k-th instruction computes is after the counter i
abbrev pub shift_by : List Instr → (i k : ℕ) → Option Act → Option ℤ
shift_by is i k (Some (act.Compute into (work.Binary op.Add left right))) = if left == i then constant_at is k right else None
shift_by is i k (Some (act.Compute into (work.Binary op.Subtract left right))) = if left == i then negative_of (constant_at is k right) else None
shift_by is i k _ = None

-- that of what made register r
abbrev pub made_shift : List Instr → (i k r : ℕ) → Option ℤ
made_shift is i k r = do
  m ← maker_at is k r
  shift_by is i m (nth is m)

-- how far register r, which may be the counter itself, is after it at the k-th instruction
abbrev pub shift_at : List Instr → (i k r : ℕ) → Option ℤ
shift_at is i k r = if r == i then Some (pos 0) else made_shift is i k r

-- ---- ranges

-- how far after the counter the element is to which the k-th instruction moves a pointer
abbrev pub moved_shift : List Instr → LoopInfo → (k : ℕ) → Option ℤ
moved_shift is l k = do
  m ← moved_of (nth is k)
  b ← base_at is l k m.0
  shift_at is l.counter k m.1

-- An element of the objects at the place is one cell, as the elements that are accessed are: one of more cells doesn't
-- divide them.
abbrev pub has_single_cells : Code → Place → Bool
has_single_cells code p = element_of code.sites p.site == 1

-- wherever the pointer points, elements are single cells
abbrev pub have_single_cells : Code → List Place → Bool
have_single_cells code ps = list_all (has_single_cells code) ps

-- an access whose element is d after the loop's counter
abbrev pub range : (f k : ℕ) → LoopInfo → ℤ → Range
range f k l d = record { function = f; instr = k; loop_at = l.at; shift = d }

-- the range of the access by register p that is the k-th instruction of function f, in this loop
abbrev pub range_in : Code → Tables → (f : ℕ) → List Instr → (k p : ℕ) → LoopInfo → Option Range
range_in code t f is k p l = do
  q ← only_maker is l k p
  d ← moved_shift is l q
  if have_single_cells code (list_at t.registers f p) then Some (range f k l d) else None

-- that of the k-th instruction of function f, which has these counted loops
abbrev pub range_at : Code → Tables → (f : ℕ) → List Instr → List LoopInfo → (k : ℕ) → Act → Option Range
range_at code t f is ls k a = do
  p ← pointer_of a
  l ← loop_round is k ls
  range_in code t f is k p l

-- those of the last instructions, the first of which is the k-th
abbrev pub ranges_in : Code → Tables → (f : ℕ) → List Instr → List LoopInfo → (k : ℕ) → List Instr → List Range
ranges_in code t f is ls k [] = []
ranges_in code t f is ls k (i ∷ rest) = option_to_list (range_at code t f is ls k i.act) ++ ranges_in code t f is ls (k + 1) rest

-- those of these functions, numbered from f on
abbrev pub ranges_from : Code → Tables → (f : ℕ) → List Function → List Range
ranges_from code t f [] = []
ranges_from code t f (fn ∷ fns) = ranges_in code t f fn.instrs (counted_of fn) 0 fn.instrs ++ ranges_from code t (f + 1) fns

-- by function, and then by instruction
abbrev pub ranges_of : Code → Tables → List Range
ranges_of code t = ranges_from code t 0 code.functions
