-- Which regions guard an access.
use Rattle.std.specs.Prelude.{◌≡◌, ℕ, ℤ, true, false, List, Some, slice_get}
use Rattle.std.specs.List.{Contains}
use Rattle.flow_code.specs.declared.act.Instr.{Instr}
use Rattle.flow_code.specs.declared.code.Function.{Function}
use Rattle.flow_code.specs.declared.code.LoopInfo.{LoopInfo}
use Rattle.flow_code.specs.declared.region.Base.TheVariants as base
use Rattle.flow_code.specs.declared.region.Bound.{Bound}
use Rattle.flow_code.specs.declared.region.Region.{Region}
use Rattle.flow_code.specs.declared.region.Region.TheVariants as region
use Rattle.flow_code.specs.declared.region.Span.{Span}
use Rattle.weak_lock_facts.specs.declared.grain.Grain.TheVariants as grain
use Rattle.weak_lock_facts.specs.Loops.{is_counted}
use Rattle.weak_code.specs.declared.stretch.RacyAccess.{RacyAccess}
use Rattle.weak_code.specs.Stretches.{span_with}
use Rattle.weak_code.specs.Stripped.{is_weak, plain_of}

-- the region is that of a counted loop, by which the access is guarded, and has the span of the access
pub record IsLoopOf (fn : Function) (a : RacyAccess) (counts : ℕ) (until : Bound) (spans : List Span) : Type 0 where
  pub loop : LoopInfo
  pub listed : Contains fn.loops loop
  pub counted : is_counted fn loop ≡ true
  pub guarded : a.grain ≡ grain.Loop loop.at
  pub counter : counts ≡ loop.counter
  pub bound : until ≡ loop.bound
  pub shift : ℤ
  pub ranged : a.shift ≡ Some shift
  pub span : Contains spans (span_with fn.instrs a shift)

-- the region has all locks of the access, for its range or its cell at least
abbrev pub Guards : Function → RacyAccess → Region → Type 0
Guards fn a (region.Whole locks) = (n : ℕ) → Contains a.locks n → Contains locks n
Guards fn a (region.Ranged counter bound spans) = IsLoopOf fn a counter bound spans
Guards fn a (region.Cell from locks) = (from ≡ base.Register a.through) × (locks ≡ a.locks)

-- the instruction of weakened code that stands for the k-th of the plain one
pub record IsSeat (is : List Instr) (w k : ℕ) : Type 0 where
  pub instr : Instr
  pub at : slice_get is w ≡ Some instr
  pub own : is_weak instr.act ≡ false
  pub plain : plain_of is w ≡ k

-- one of the open regions of a weakened function guards the access of the plain one
pub record IsGuarded (fn : Function) (a : RacyAccess) (weak : Function) (opened : List ℕ) : Type 0 where
  pub number : ℕ
  pub region : Region
  pub stands : Contains opened number
  pub is : slice_get weak.regions number ≡ Some region
  pub guards : Guards fn a region
