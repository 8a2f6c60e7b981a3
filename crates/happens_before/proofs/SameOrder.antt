-- Conflicting accesses come in the same order in each run of weakened code with the same lists.
use Rattle.std.proofs.Common.{◌≡◌, ◌≢◌, ℕ, ◌<◌, List, Some, sym, ◌∙◌}
use Rattle.sync_objects.specs.Setup.{SetupView, IsWithinLimits}
use Rattle.core_run.specs.Histories.{run_of, HaveEnded, list_of}
use Rattle.core_run.specs.Machine.{Told, machine, start_state}
use Rattle.core_run.proofs.Lawful.{lawful}
use Rattle.core_run.proofs.Told.{list_is}
use Rattle.lock_sound.specs.Weakened.{Analysed, IsAnalysed}
use Rattle.lock_sound.proofs.Running.{weakened_runs}
use Rattle.run_theory.specs.Labels.{Label}
use Rattle.run_theory.specs.Laws.{Conflict}
use Rattle.run_theory.specs.Ordered.{Event, event_access, event_at}
use Rattle.run_theory.specs.Places.{ComeInOrder, IsNth}
use Rattle.run_theory.specs.Steps.{State}
use Rattle.run_theory.proofs.NthEvents as events
use Rattle.run_theory.proofs.SameEvents.{same_events}
use Rattle.race_free.proofs.Meeting.{no_race}
use Rattle.happens_before.proofs.Ordering.{ordered}

module _ (a : Analysed) (setup : SetupView) (labels other : List Label) (end other_end : State Told) (i j t n u k : ℕ) (first second : Event) where
  pub same_order : IsAnalysed a → IsWithinLimits setup → run_of a.weak setup labels ≡ Some end → run_of a.weak setup other ≡ Some other_end → HaveEnded a.weak setup end → HaveEnded a.weak setup other_end → ((v : ℕ) → list_of end v ≡ list_of other_end v) → i < j →
      IsNth (event_at (machine a.weak setup) labels (start_state a.weak setup)) t n first i → IsNth (event_at (machine a.weak setup) labels (start_state a.weak setup)) u k second j → t ≢ u → Conflict (event_access first) (event_access second) →
      ComeInOrder (event_at (machine a.weak setup) other (start_state a.weak setup)) t n first u k second
  same_order h limits runs other_runs ended other_ended same lt is is_too ne conflict =
      let law = lawful a.weak setup (weakened_runs a h) limits in
      let alike = same_events (machine a.weak setup) law labels other (start_state a.weak setup) end other_end (no_race a setup h limits) runs other_runs ended other_ended (λ v. sym (list_is a.weak setup labels end v runs) ∙ same v ∙ list_is a.weak setup other other_end v other_runs) in
      events.same_order (machine a.weak setup) law labels other (start_state a.weak setup) alike i j t n u k first second
      (ordered a setup labels i j first second end h limits runs lt is.happens is_too.happens (λ e. ne (sym is.of_thread ∙ e ∙ is_too.of_thread)) conflict)
      is is_too
