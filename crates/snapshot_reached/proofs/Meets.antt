-- A checkpoint of a state that a run of weakened code reaches is as it must be.
use Rattle.std.proofs.Common.{◌≡◌, ℕ, ◌≤◌, false, Some, ap}
use Rattle.std.specs.Prelude.{slice_get}
use Rattle.sync_objects.specs.Setup.{SetupView, IsWithinLimits}
use Rattle.thread_interpreter.specs.Parts.{frames_in, is_loaded, part_of, phase_part, AreWords}
use Rattle.core_run.specs.Histories.{IsReachable}
use Rattle.core_run.specs.Machine.{Told}
use Rattle.core_run.proofs.Reached.{kept}
use Rattle.run_theory.specs.Steps.{State}
use Rattle.lock_sound.specs.Weakened.{Analysed, IsAnalysed}
use Rattle.lock_sound.proofs.Running.{weakened_is_valid, weakened_runs}
use Rattle.snapshots.specs.Conditions.{AllFit, thread_judged, MeetsConditions}
use Rattle.snapshots.specs.Snapshots.{snapshot_of}
use Rattle.snapshots.specs.Text.{thread_draft}
use Rattle.snapshot_reached.specs.Stored.{IsStored}
use Rattle.snapshot_reached.proofs.Cells.{cells_fit}
use Rattle.snapshot_reached.proofs.FramesFit.{frames_fit}
use Rattle.snapshot_reached.proofs.Objects.{objects_fit}
use Rattle.snapshot_reached.proofs.Threads.{its_lines_fit}
use Rattle.snapshot_reached.proofs.Whole.{stored_at, whole}

module _ (a : Analysed) (is : IsAnalysed a) (s : SetupView) (limits : IsWithinLimits s) (n k : ℕ) (st : State Told) (reached : IsReachable a.weak s st) where
  -- a state in which no thread stands between the load of its argument and its function, and each frame keeps an answer of 64 bits
  pub meets : k ≤ n → ((t : ℕ) (told : Told) → slice_get st.threads t ≡ Some told → is_loaded told.thread.phase ≡ false)
      → ((t : ℕ) (told : Told) → slice_get st.threads t ≡ Some told → AreWords (frames_in told.thread.phase told.thread))
      → IsStored (snapshot_of a.weak s k st) → MeetsConditions a.weak s n (snapshot_of a.weak s k st)
  meets within entered words stored =
      let valid = weakened_is_valid a is in
      let runs = weakened_runs a is in
      whole a.weak s n k st within (kept a.weak s runs limits st reached).threads (cells_fit a.weak s k st) (objects_fit a.weak s k st valid runs limits reached) each words stored
    where
      each : (t : ℕ) (told : Told) → slice_get st.threads t ≡ Some told → AllFit (thread_judged a.weak s t (thread_draft t (part_of told.thread)))
      each t told at =
          its_lines_fit a is s limits st reached t told at (entered t told at)
          (record { small = λ kind line e. (stored_at st.threads t told stored.threads at).line kind line (ap phase_part e) })
          (frames_fit a.weak (weakened_is_valid a is) s limits st reached t told at)
