-- The loops and regions of a valid function, and the weak locks of a valid code.
use Rattle.std.specs.Prelude.{ℕ, ◌==◌, nat_lt, ◌&&◌, ◌||◌, Bool, true, List, [], ◌∷◌, length}
use Rattle.std.specs.List.{list_all}
use Rattle.flow_code.specs.declared.code.Code.{Code}
use Rattle.flow_code.specs.declared.code.Function.{Function}
use Rattle.flow_code.specs.declared.code.LockInfo.{LockInfo}
use Rattle.flow_code.specs.declared.code.LoopInfo.{LoopInfo}
use Rattle.flow_code.specs.declared.region.Base.{Base}
use Rattle.flow_code.specs.declared.region.Base.TheVariants as base
use Rattle.flow_code.specs.declared.region.Bound.{Bound}
use Rattle.flow_code.specs.declared.region.Bound.TheVariants as bound
use Rattle.flow_code.specs.declared.region.Span.{Span}
use Rattle.flow_code.specs.declared.region.Region.{Region}
use Rattle.flow_code.specs.declared.region.Region.TheVariants as region
use Rattle.flow_code.specs.Kinds.{has_register, has_pointer, has_whole, has_instr, is_site}
use Rattle.flow_code.specs.Addresses.{is_global}

-- a loop's bound is a number, or a register of the function
abbrev pub bound_is_register : Function → Bound → Bool
bound_is_register f (bound.Number z) = true
bound_is_register f (bound.Register r) = has_register f r

-- the instructions and registers that a loop names are the function's
abbrev pub loop_fits : Function → LoopInfo → Bool
loop_fits f l = has_instr f l.at && has_instr f l.first && has_instr f l.last && has_register f l.counter && bound_is_register f l.bound

-- the numbers ascend strictly
abbrev pub ascend : List ℕ → Bool
ascend [] = true
ascend (x ∷ []) = true
ascend (x ∷ y ∷ rest) = nat_lt x y && ascend (y ∷ rest)

-- the code has a weak lock of each of these numbers
abbrev pub are_locks : Code → List ℕ → Bool
are_locks code locks = list_all (λ l. nat_lt l (length code.locks)) locks

-- weak locks of the code, each once, in the order of taking
abbrev pub locks_fit : Code → List ℕ → Bool
locks_fit code locks = ascend locks && are_locks code locks

-- cells are counted from a global's object or from a pointer register
abbrev pub base_fits : Code → Function → Base → Bool
base_fits code f (base.Site s) = is_global code s
base_fits code f (base.Register r) = has_pointer f r

-- a region's bound is a number, or a register that isn't a pointer
abbrev pub bound_is_whole : Function → Bound → Bool
bound_is_whole f (bound.Number z) = true
bound_is_whole f (bound.Register r) = has_whole f r

-- a span counts from a proper base and names weak locks of the code
abbrev pub span_fits : Code → Function → Span → Bool
span_fits code f s = base_fits code f s.base && locks_fit code s.locks

-- the same for all spans of a loop's region
abbrev pub spans_fit : Code → Function → List Span → Bool
spans_fit code f spans = list_all (span_fits code f) spans

-- all registers, globals and weak locks that a region names are there and proper
abbrev pub region_fits : Code → Function → Region → Bool
region_fits code f (region.Whole locks) = locks_fit code locks
region_fits code f (region.Ranged counter bound spans) = has_whole f counter && bound_is_whole f bound && spans_fit code f spans
region_fits code f (region.Cell base locks) = base_fits code f base && locks_fit code locks

-- a weak lock has 1 or 8 stripes, and its place is of a site
abbrev pub lock_fits : Code → LockInfo → Bool
lock_fits code l = is_site code l.site && ((l.stripes == 1) || (l.stripes == 8))
