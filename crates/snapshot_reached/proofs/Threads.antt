-- The lines of each thread of a reached state are as they must be.
use Rattle.std.proofs.Common.{◌≡◌, ℕ, false, Some, None}
use Rattle.std.specs.Prelude.{slice_get}
use Rattle.sync_objects.specs.Setup.{SetupView, IsWithinLimits}
use Rattle.flow_code.specs.declared.code.Code.{Code}
use Rattle.flow_code.specs.Settle.{IsRunnable}
use Rattle.guard_paths.proofs.Threads.{reached_kept}
use Rattle.guard_paths.specs.Reached.{Reached}
use Rattle.thread_interpreter.specs.Parts.{is_loaded, part_of}
use Rattle.core_run.specs.Histories.{IsReachable}
use Rattle.core_run.specs.Machine.{Told}
use Rattle.run_theory.specs.Steps.{State}
use Rattle.lock_ownership.specs.ThreadStripes.{HasItsStripes}
use Rattle.lock_ownership.proofs.StripeLaws.{has_its, stripes_hold}
use Rattle.lock_sound.specs.Weakened.{Analysed, IsAnalysed}
use Rattle.lock_sound.proofs.Running.{weakened_is_valid, weakened_runs}
use Rattle.open_regions.proofs.Machines.{all_reached}
use Rattle.snapshots.specs.Conditions.{AllFit, frames_judged, stripes_judged, regions_judged, thread_judged}
use Rattle.snapshots.specs.Text.{thread_draft}
use Rattle.snapshot_reached.proofs.Cells.{joined}
use Rattle.snapshot_reached.proofs.Heads.{HasLine, heads_fit}
use Rattle.snapshot_reached.proofs.Known.{known, known_at}
use Rattle.snapshot_reached.proofs.Regions.{regions_fit}
use Rattle.snapshot_reached.proofs.Returns.{give_all}
use Rattle.snapshot_reached.proofs.Rising.{rising}
use Rattle.snapshot_reached.proofs.Stripes.{stripes_fit}

module _ (code : Code) (s : SetupView) (runs : IsRunnable code) (limits : IsWithinLimits s) (st : State Told) (reached : IsReachable code s st) (t : ℕ) (told : Told) (at : slice_get st.threads t ≡ Some told) where
  path : Reached code s t told.thread
  path = all_reached code s st reached t told at

  its_stripes : HasItsStripes told.thread
  its_stripes = has_its told.thread ((stripes_hold code s runs limits st reached).agree t told at)

  pub its_stripes_fit : AllFit (stripes_judged code s (part_of told.thread).regions None (part_of told.thread).stripes)
  its_stripes_fit = stripes_fit code s told.thread its_stripes (λ k x e. known_at code told.thread.stripes k x (known code s t path) e)

module _ (a : Analysed) (is : IsAnalysed a) (s : SetupView) (limits : IsWithinLimits s) (st : State Told) (reached : IsReachable a.weak s st) (t : ℕ) (told : Told) (at : slice_get st.threads t ≡ Some told) where
  pub its_regions_fit : AllFit (regions_judged a.weak (part_of told.thread).frames (part_of told.thread).stripes None (part_of told.thread).regions)
  its_regions_fit =
      let runs = weakened_runs a is in
      let way = path a.weak s runs limits st reached t told at in
      regions_fit a.weak told.thread (its_stripes a.weak s runs limits st reached t told at) (reached_kept a.weak s t (give_all a is) way) (rising a.weak s t (give_all a is) way)

  -- all lines of the thread, where those of its frames are
  pub its_lines_fit : is_loaded told.thread.phase ≡ false → HasLine a.weak s t told.thread.phase → AllFit (frames_judged a.weak s None (part_of told.thread).frames) → AllFit (thread_judged a.weak s t (thread_draft t (part_of told.thread)))
  its_lines_fit entered line frames =
      let p = part_of told.thread in (
        heads_fit a.weak (weakened_is_valid a is) s limits st reached t told at entered line,
        joined (frames_judged a.weak s None p.frames) _ frames
            (joined (stripes_judged a.weak s p.regions None p.stripes) (regions_judged a.weak p.frames p.stripes None p.regions) (its_stripes_fit a.weak s (weakened_runs a is) limits st reached t told at) its_regions_fit),
      )
