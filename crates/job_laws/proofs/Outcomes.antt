-- What each job comes to, by what its own call promises.
use Rattle.std.proofs.Common.{◌≡◌, inl, inr, refl, [], List, ℕ, false, true, Option, Some, Result}
use Rattle.command_line.specs.Jobs.{RecordAsked}
use Rattle.command_line.specs.Jobs.Asked.{Races, Weaken, Record, Replay, Profile, Watch, Chain, Checkpoint, Resume, Make}
use Rattle.command_line.specs.declared.event.Event.{Event}
use Rattle.job_outcomes.specs.Steps.{Gives}
use Rattle.job_outcomes.specs.declared.outcome.Outcome.{Outcome}
use Rattle.job_outcomes.specs.declared.stop.Stop.{Stop}
use Rattle.job_profiles.specs.Profiles.{named}
use Rattle.job_runs.proofs.Worked.{all_is_idle}
use Rattle.job_runs.specs.Works.{IsIdle}
use Rattle.order_log.specs.Log.{LogView}
use Rattle.profiles.specs.declared.profile.Profile.{Profile as ProfileOf}
use Rattle.thread_interpreter.specs.declared.access.Formula.{Formula}
use Rattle.job_laws.specs.Chainings.{OrdersLog, point_of}
use Rattle.job_laws.specs.Checkpoints.{GoesOnFrom, KeepsState}
use Rattle.job_laws.specs.Jobs.{IsDone, PutsBefore}
use Rattle.job_laws.specs.Listings.{ListsRaces, ListsWeakLocks}
use Rattle.job_laws.specs.Makings.{IsMaking, Makes}
use Rattle.job_laws.specs.Moments.{ComesFor, Moment}
use Rattle.job_laws.specs.Profilings.{ShowsLog}
use Rattle.job_laws.specs.Readings.{InputIs, ReadsCheckpoint, ReadsLog, ReadsProfile, ReadsSource, no_log}
use Rattle.job_laws.specs.Recordings.{RecordsInput}
use Rattle.job_laws.specs.Replays.{Replays}
use Rattle.job_laws.specs.Watchings.{TellsLog}
use Rattle.job_laws.proofs.InOrder.{checkpoint_reads, log_reads, profile_reads, source_reads, steps}
use Rattle.job_laws.proofs.Worked.{at_once, making_reads, with_work}

module _ (old new : Moment) where
  -- ---- jobs that run no threads

  module _ (r : Result Outcome Stop) (same : new.files ≡ old.files) (idle : new.work ≡ old.work) where
    is_idle : IsIdle r old.work new.work
    is_idle = all_is_idle old.work new.work r idle

    pub races_come : (source : List ℕ) → Gives (ReadsSource old.files source ListsRaces) r → ComesFor (Races source) old new r
    races_come source gives =
        let Done = IsDone old.work new.work (Races source) in
        at_once old.work new.work old.files old.left (Races source) refl (λ s. refl) (ReadsSource old.files source ListsRaces)
        (λ o. source_reads old.files old.left source Done o ListsRaces (λ os n. n)) r gives (inr idle) is_idle new.files same

    pub weaken_come : (source : List ℕ) (name : Option (List ℕ)) → Gives (ReadsProfile old.files source name ListsWeakLocks) r → ComesFor (Weaken source name) old new r
    weaken_come source name gives =
        let Done = IsDone old.work new.work (Weaken source name) in
        at_once old.work new.work old.files old.left (Weaken source name) refl (λ s. refl) (ReadsProfile old.files source name ListsWeakLocks)
        (λ o. profile_reads old.files old.left source Done o name false ListsWeakLocks (λ p os n. steps (InputIs old.left false) (Done p no_log [] os) o [] refl n)) r gives (inr idle) is_idle new.files same

    pub profile_comes : (source log name : List ℕ) → Gives (ReadsLog old.files source log (λ view. ShowsLog view name)) r → ComesFor (Profile source log name) old new r
    profile_comes source log name gives =
        let Next = λ (view : LogView). ShowsLog view name in
        at_once old.work new.work old.files old.left (Profile source log name) refl (λ s. refl) (ReadsLog old.files source log Next)
        (λ o. log_reads old.files old.left source (IsDone old.work new.work (Profile source log name)) o log Next (λ view os n. n)) r gives (inr idle) is_idle new.files same

    pub watch_comes : (source log : List ℕ) (formula : Formula) → Gives (ReadsLog old.files source log (λ view. TellsLog view formula)) r → ComesFor (Watch source log formula) old new r
    watch_comes source log formula gives =
        let Next = λ (view : LogView). TellsLog view formula in
        at_once old.work new.work old.files old.left (Watch source log formula) refl (λ s. refl) (ReadsLog old.files source log Next)
        (λ o. log_reads old.files old.left source (IsDone old.work new.work (Watch source log formula)) o log Next (λ view os n. n)) r gives (inr idle) is_idle new.files same

    pub chain_comes : (source log : List ℕ) (one other : Event) → Gives (ReadsLog old.files source log (λ view. OrdersLog view (point_of one) (point_of other))) r → ComesFor (Chain source log one other) old new r
    chain_comes source log one other gives =
        let Next = λ (view : LogView). OrdersLog view (point_of one) (point_of other) in
        at_once old.work new.work old.files old.left (Chain source log one other) refl (λ s. refl) (ReadsLog old.files source log Next)
        (λ o. log_reads old.files old.left source (IsDone old.work new.work (Chain source log one other)) o log Next (λ view os n. n)) r gives (inr idle) is_idle new.files same

    pub checkpoint_comes : (source log : List ℕ) (count : ℕ) (name : List ℕ) → Gives (ReadsLog old.files source log (λ view. KeepsState view count name)) r → ComesFor (Checkpoint source log count name) old new r
    checkpoint_comes source log count name gives =
        let Next = λ (view : LogView). KeepsState view count name in
        at_once old.work new.work old.files old.left (Checkpoint source log count name) refl (λ s. refl) (ReadsLog old.files source log Next)
        (λ o. log_reads old.files old.left source (IsDone old.work new.work (Checkpoint source log count name)) o log Next (λ view os n. n)) r gives (inr idle) is_idle new.files same

    pub resume_comes : (source log name : List ℕ) → Gives (ReadsCheckpoint old.files source log name GoesOnFrom) r → ComesFor (Resume source log name) old new r
    resume_comes source log name gives =
        at_once old.work new.work old.files old.left (Resume source log name) refl (λ s. refl) (ReadsCheckpoint old.files source log name GoesOnFrom)
        (λ o. checkpoint_reads old.files old.left source (IsDone old.work new.work (Resume source log name)) o log name GoesOnFrom (λ view held os n. n)) r gives (inr idle) is_idle new.files same

  -- ---- jobs that run threads

  module _ (r : Result Outcome Stop) (idle : IsIdle r old.work new.work) where
    pub record_comes : (asked : RecordAsked) → Gives (ReadsProfile old.files asked.source asked.profile (λ p. RecordsInput old.work new.work old.left asked (named p))) r → new.files ≡ old.files → ComesFor (Record asked) old new r
    record_comes asked gives same =
        let Next = λ (p : ProfileOf). RecordsInput old.work new.work old.left asked (named p) in
        at_once old.work new.work old.files old.left (Record asked) refl (λ s. refl) (ReadsProfile old.files asked.source asked.profile Next)
        (λ o. profile_reads old.files old.left asked.source (IsDone old.work new.work (Record asked)) o asked.profile true Next (λ p os n. n)) r gives (inl tt) idle new.files same

    pub replay_comes : (source log : List ℕ) (reads : Option (List ℕ)) → Gives (ReadsLog old.files source log (λ view. Replays old.work new.work view reads)) r → new.files ≡ old.files → ComesFor (Replay source log reads) old new r
    replay_comes source log reads gives same =
        let Next = λ (view : LogView). Replays old.work new.work view reads in
        at_once old.work new.work old.files old.left (Replay source log reads) refl (λ s. refl) (ReadsLog old.files source log Next)
        (λ o. log_reads old.files old.left source (IsDone old.work new.work (Replay source log reads)) o log Next (λ view os n. n)) r gives (inl tt) idle new.files same

    pub make_comes : (count : ℕ) (name : List ℕ) → Makes old.work new.work count name old.files new.files r → ComesFor (Make count name) old new r
    make_comes count name makes =
        let job = Make count name in
        with_work old.work new.work old.files old.left job (IsMaking old.work new.work count name) (making_reads old.work new.work old.files old.left count name) (PutsBefore old.work new.work (Some job)) old.files new.files r makes (inl tt) idle
