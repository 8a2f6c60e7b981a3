-- What the types of a checkpoint in memory tell of its numbers, and which states a checkpoint can keep.
use Rattle.std.specs.Prelude.{◌≡◌, ℕ, ◌<◌, ◌^◌, false, Some, slice_get}
use Rattle.std.specs.List.{AllByRecursion}
use Rattle.rr_base.specs.declared.trap.Trap.{Trap}
use Rattle.thread_interpreter.specs.Parts.{frames_in, is_loaded, AreWords}
use Rattle.thread_interpreter.specs.declared.part.FramePart.{FramePart}
use Rattle.thread_interpreter.specs.declared.part.PhasePart.TheVariants as part
use Rattle.thread_interpreter.specs.declared.part.ThreadPart.{ThreadPart}
use Rattle.core_run.specs.Machine.{Told}
use Rattle.run_theory.specs.Steps.{State}
use Rattle.snapshots.specs.declared.snapshot.Snapshot.{Snapshot}

-- the registers of a thread's frames have 64 bits, and the line of its trap 32
pub record IsStoredThread (p : ThreadPart) : Type 0 where
  pub registers : AllByRecursion (λ (f : FramePart). AllByRecursion (λ w. w < 2 ^ 64) f.registers) p.frames
  pub line : (kind : Trap) (line : ℕ) → p.phase ≡ part.Trapped kind line → line < 2 ^ 32

-- the words of its cells have 64 bits, and so do those of its threads
pub record IsStored (x : Snapshot) : Type 0 where
  pub words : AllByRecursion (λ (c : ℕ × ℕ). c.1 < 2 ^ 64) x.cells
  pub threads : AllByRecursion IsStoredThread x.threads

-- a checkpoint can keep the state: no thread stands between the load of its argument and its function, and each answer that a
-- frame keeps is a number of 64 bits
pub record CanBeKept (st : State Told) : Type 0 where
  pub entered : (t : ℕ) (told : Told) → slice_get st.threads t ≡ Some told → is_loaded told.thread.phase ≡ false
  pub words : (t : ℕ) (told : Told) → slice_get st.threads t ≡ Some told → AreWords (frames_in told.thread.phase told.thread)
