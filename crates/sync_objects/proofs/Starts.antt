-- The packed states at the start, kind by kind.
use Rattle.std.proofs.Common.{◌≡◌, ◌≢◌, ℕ, zero, suc, refl}
use Rattle.sync_objects.specs.declared.object.ObjId.TheVariants as object
use Rattle.sync_objects.specs.Start.{packed_start}

pub starts-Mutex : (cell : ℕ) → packed_start (object.Mutex cell) ≡ 0
unfolding packed_start
starts-Mutex cell = refl

pub starts-Cond : (cell : ℕ) → packed_start (object.Cond cell) ≡ 0
unfolding packed_start
starts-Cond cell = refl

pub starts-Barrier : (cell : ℕ) → packed_start (object.Barrier cell) ≡ 0
unfolding packed_start
starts-Barrier cell = refl

pub starts-Rw : (cell : ℕ) → packed_start (object.Rw cell) ≡ 0
unfolding packed_start
starts-Rw cell = refl

pub starts-Weak : (lock stripe : ℕ) → packed_start (object.Weak lock stripe) ≡ 0
unfolding packed_start
starts-Weak lock stripe = refl

pub starts-first_slot : packed_start (object.Slot 0) ≡ 2
unfolding packed_start
starts-first_slot = refl

pub starts-other_slot : (slot : ℕ) → slot ≢ 0 → packed_start (object.Slot slot) ≡ 0
unfolding packed_start
starts-other_slot zero ne = absurd (ne refl)
starts-other_slot (suc slot) ne = refl

pub starts-Threads : packed_start object.Threads ≡ 33
unfolding packed_start
starts-Threads = refl

pub starts-Halt : packed_start object.Halt ≡ 0
unfolding packed_start
starts-Halt = refl

pub starts-Input : packed_start object.Input ≡ 0
unfolding packed_start
starts-Input = refl

pub starts-Output : packed_start object.Output ≡ 0
unfolding packed_start
starts-Output = refl

pub ruleset starts = (starts-Mutex, starts-Cond, starts-Barrier, starts-Rw, starts-Weak, starts-first_slot, starts-other_slot, starts-Threads, starts-Halt, starts-Input, starts-Output)
