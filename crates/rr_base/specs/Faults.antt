-- The count of faults that a part of the outside keeps. It never falls, and it ends at the greatest u64.
use Rattle.std.specs.Prelude.{◌≡◌, ℕ, ◌+◌, ◌-◌, ◌^◌, ◌≤◌, ◌<◌, min}
use Rattle.rr_base.specs.declared.sink.SinkEnd.{SinkEnd}
use Rattle.rr_base.specs.declared.sink.SinkEnd.TheVariants as sink_end
use Rattle.rr_base.specs.declared.shelf.ShelfEnd.{ShelfEnd}
use Rattle.rr_base.specs.declared.shelf.ShelfEnd.TheVariants as shelf_end

-- the count has risen by one at least, or stands at its end
pub record Rose (old new : ℕ) : Type 0 where
  pub kept : old ≤ new
  pub rises : min (old + 1) (2 ^ 64 - 1) ≤ new
  pub ends : new < 2 ^ 64

-- only what is answered as a fault is one: want of memory raises no count
abbrev pub SinkFaults : SinkEnd → ℕ → ℕ → Type 0
SinkFaults sink_end.Failed old new = Rose old new
SinkFaults sink_end.OutOfMemory old new = new ≡ old

-- the same rule where a shelf of files fails
abbrev pub ShelfFaults : ShelfEnd → ℕ → ℕ → Type 0
ShelfFaults shelf_end.Failed old new = Rose old new
ShelfFaults shelf_end.OutOfMemory old new = new ≡ old
