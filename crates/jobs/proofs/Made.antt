-- Making a source: how long it is, what is put on the way, and what it comes to.
use Rattle.std.proofs.Common.{◌≡◌, ◌≤◌, refl, sym, ap, ◌∙◌, subst, ℕ, zero, suc, ◌+◌, ◌*◌, zero-add, List, [], ◌∷◌, length, sum_by, Option, Some, None, Result, Ok, Err, arith}
use Rattle.std.specs.Prelude.{IfOk, MatchResult, decimal, option_map}
use Rattle.std.proofs.lemmas.Fmt.{length-decimal-le}
use Rattle.std.proofs.lemmas.List.Sums.{sum_by-append}
use Rattle.command_line.specs.Jobs.{HasRecordLimits, RecordAsked}
use Rattle.core_run.specs.Histories.{run_of, HaveEnded, lists_of, entries_in}
use Rattle.core_run.specs.Machine.{Told}
use Rattle.core_run.specs.Walks.{WalkIs}
use Rattle.core_run.specs.declared.outcome.Walk.{Walk}
use Rattle.profiles.specs.declared.profile.Profile.{Profile}
use Rattle.profiles.specs.declared.profile.Profile.TheVariants as profile
use Rattle.lock_sound.specs.Weakened.{Analysed}
use Rattle.order_log.specs.Log.{LogView}
use Rattle.job_outcomes.proofs.Endings.{no_puts}
use Rattle.job_outcomes.proofs.Putting.{failed_after, partly_after, put_both}
use Rattle.job_outcomes.specs.Endings.{ComesTo, IsCutOff, IsFoundSo}
use Rattle.job_outcomes.specs.Endings.IsCutOff.{NonePut, OneFailed}
use Rattle.job_outcomes.specs.Ends.{stop_of}
use Rattle.job_outcomes.specs.Faults.{CrewShelfStops, CrewStops, IsPure}
use Rattle.job_outcomes.specs.Outcomes.{answers, following}
use Rattle.job_outcomes.specs.Puts.{Put, ArePut, ArePartlyPut}
use Rattle.job_outcomes.specs.declared.outcome.Outcome.{Outcome}
use Rattle.job_outcomes.specs.declared.stop.Stop.{Stop}
use Rattle.job_outcomes.specs.declared.stop.Stop.TheVariants as stop
use Rattle.replayer.specs.Replays.{entries_taken}
use Rattle.rr_base.specs.Faults.{ShelfFaults}
use Rattle.rr_base.specs.Files.{Files, LeavesOthers, with_file}
use Rattle.rr_base.specs.declared.shelf.ShelfEnd.{ShelfEnd}
use Rattle.rr_base.specs.declared.shelf.ShelfEnd.TheVariants as shelf_end
use Rattle.run_theory.specs.Labels.{Label}
use Rattle.run_theory.specs.Merge.{written_merge}
use Rattle.run_theory.specs.Steps.{State}
use Rattle.sync_objects.specs.Setup.{IsWithinLimits, SetupView}
use Rattle.sync_objects.specs.declared.entry.Entry.{Entry}
use Rattle.walk_answers.specs.Walking.{answer_of, no_reads, outcome_of}
use Rattle.workload.specs.Program.{numbers_below, program_text}
use Rattle.job_runs.proofs.Recorded.{setup_within}
use Rattle.jobs.proofs.Recorded.{LogsWalk, recording, recording_entries}
use Rattle.job_runs.specs.Retold.{IsReplayed, summary_told}
use Rattle.job_laws.specs.Makings.{IsMade, IsMaking, IsPutInMaking, made_log, recording_of, source_put}
use Rattle.job_laws.specs.Makings.IsPutInMaking.{Source, SourceAndLog}
use Rattle.job_runs.specs.Recordings.{IsLogged, setup_of}
use Rattle.job_laws.specs.Recordings.{IsRecording}
use Rattle.job_laws.specs.Replays.{Replays}
use Rattle.job_laws.specs.Sources.{Compiles, IsSourceWalk, RunsAsSource, WalksAsSource}
use Rattle.job_runs.specs.Works.{HasRun, IsIdle, IsOfRun, Work}
use Rattle.job_runs.proofs.Worked.{ran, summary_is_of_run, told_of_run}

-- ---- how long it is

abbrev share : ℕ → ℕ
share i = 94 + 3 * length (decimal i)

shares_short : (n : ℕ) → n ≤ 1000 → sum_by share (numbers_below n) ≤ 103 * n
shares_short zero few = omega arith
shares_short (suc n) few =
    let shares : sum_by share (numbers_below (suc n)) ≡ sum_by share (numbers_below n) + share n = sum_by-append share (numbers_below n) (n ∷ []) ∙ ap (λ s. sum_by share (numbers_below n) + s) (zero-add (share n)) in
    let before = shares_short n (omega (arith, few)) in
    let one : length (decimal n) ≤ 3 = length-decimal-le 3 n (omega arith) (omega (arith, few)) (omega (arith, few)) in
    omega (arith, shares, before, one)

pub made_short : (n : ℕ) (text : List ℕ) → n ≤ 1000 → length text ≡ 399 + sum_by (λ i. 94 + 3 * length (decimal i)) (numbers_below n) → length text ≤ 1048576
made_short n text few is = let h = shares_short n few in omega (arith, few, is, h)

-- ---- its recording

pub default_limits : (name : List ℕ) → HasRecordLimits (recording_of name)
default_limits name = record { slots_low = omega arith; slots_high = omega arith; cells_low = omega arith; cells_high = omega arith; limit_low = omega arith; limit_high = omega arith; budget_low = omega arith; budget_high = omega arith }

pub setup_is_within : (name : List ℕ) → IsWithinLimits (setup_of (recording_of name) [])
setup_is_within name = setup_within (recording_of name) [] (default_limits name) (omega arith)

pub same_logged : (a b : Work) (r q : RecordAsked) (p : Profile) (w : Analysed) (xs ys : List ℕ) (log : LogView) (o : Outcome) → r ≡ q → xs ≡ ys → IsLogged a b r p w xs log o → IsLogged a b q p w ys log o
same_logged a b r q p w xs ys log o e f h = subst (λ x. IsLogged a b q p w x log o) f (subst (λ x. IsLogged a b x p w xs log o) e h)

-- ---- its code

pub runs_as_source : (text : List ℕ) (r : Result Analysed Stop) → Compiles text profile.All r
    → ((w : Analysed) (h : Compiles text profile.All (Ok w)) (s : SetupView) (labels : List Label) (end : State Told) → IsWithinLimits s → run_of w.weak s labels ≡ Some end → HaveEnded w.weak s end → IsSourceWalk h.0 w.weak s (entries_in (written_merge (lists_of end))))
    → ((w : Analysed) (h : Compiles text profile.All (Ok w)) (s : SetupView) (entries : List Entry) → IsWithinLimits s → WalksAsSource h.0 w.weak s entries)
    → IfOk r (RunsAsSource text)
runs_as_source text (Ok w) h logs walks = record { os = h.0; tree = h.1; is = h.2; logs = logs w h; walks = walks w h }
runs_as_source text (Err s) h logs walks = tt

-- ---- before it is recorded

pub source_is_put : (count : ℕ) (name text : List ℕ) (old new : Option Files) → text ≡ program_text count → new ≡ option_map (with_file name text) old → ArePut (source_put count name ∷ []) old new
source_is_put count name text None new is e = e
source_is_put count name text (Some files) new is e = subst (λ x. new ≡ Some (with_file name x files)) is e

-- what comes of a source that was put
pub once_put : (a b : Work) (count : ℕ) (name other : List ℕ) (old between new : Option Files) (r : Result Outcome Stop) → other ≡ name
    → ((first : Option Files) → ArePut (source_put count other ∷ []) first between → ComesTo (IsMaking a b count other) (IsPutInMaking a b count other) first new r)
    → ArePut (source_put count name ∷ []) old between → ComesTo (IsMaking a b count name) (IsPutInMaking a b count name) old new r
once_put a b count name other old between new r e h put = subst (λ x. (first : Option Files) → ArePut (source_put count x ∷ []) first between → ComesTo (IsMaking a b count x) (IsPutInMaking a b count x) first new r) e h old put

module _ (a b : Work) (count : ℕ) (name : List ℕ) (old : Option Files) where
  abbrev source : Put
  source = source_put count name

  abbrev ComesSo : Option Files → Result Outcome Stop → Type 0
  ComesSo new r = ComesTo (IsMaking a b count name) (IsPutInMaking a b count name) old new r

  pub nothing_put : (new : Option Files) (s : Stop) → s ≡ stop.OutOfMemory → new ≡ old → ComesSo new (Err s)
  nothing_put new s is e = subst (λ x. ComesSo new (Err x)) (sym is) (source ∷ [], Source refl (λ e. cc e), record { made = []; rest = source ∷ []; split = refl; files = no_puts old new e })

  pub source_not_put : (new : Option Files) (end : ShelfEnd) (s : Stop) → s ≡ stop_of end → (end ≡ shelf_end.Failed → LeavesOthers name old new) → (end ≡ shelf_end.OutOfMemory → new ≡ old) → ComesSo new (Err s)
  source_not_put new shelf_end.Failed s is failed memory = subst (λ x. ComesSo new (Err x)) (sym is) (source ∷ [], Source refl (λ e. cc e), OneFailed (record { made = []; failed = source; rest = []; split = refl; before = old; files = no_puts old old refl; others = failed refl }))
  source_not_put new shelf_end.OutOfMemory s is failed memory = nothing_put new s is (memory refl)

  module _ (new : Option Files) (put : ArePut (source_put count name ∷ []) old new) where
    source_alone : ArePartlyPut (source ∷ []) old new
    source_alone = record { made = source ∷ []; rest = []; split = refl; files = put }

    pub not_made : (s : Stop) → Compiles (program_text count) profile.All (Err s) → ComesSo new (Err s)
    not_made (stop.Refused refusal) h = record { before = source ∷ []; put = put; has = record { rest = answers refusal; comes = record { step = Err refusal; is = h; next = refl }; told = refl } }
    not_made stop.ShelfFailed h = absurd h
    not_made stop.InputFailed h = absurd h
    not_made stop.CrewFailed h = absurd h
    not_made stop.OutOfMemory h = (source ∷ [], Source refl (λ e. cc e), source_alone)

    pub not_recorded : (s : Stop) (crew_old crew_new : ℕ) → CrewStops s crew_old crew_new → (s ≡ stop.CrewFailed → b.jobs ≡ a.jobs) → ComesSo new (Err s)
    not_recorded (stop.Refused refusal) crew_old crew_new h jobs = absurd h
    not_recorded stop.ShelfFailed crew_old crew_new h jobs = absurd h
    not_recorded stop.InputFailed crew_old crew_new h jobs = absurd h
    not_recorded stop.CrewFailed crew_old crew_new h jobs = (source ∷ [], Source refl (λ e. jobs refl), put)
    not_recorded stop.OutOfMemory crew_old crew_new h jobs = (source ∷ [], Source refl (λ e. cc e), source_alone)

-- ---- from the source to its summary

module _ (a work b : Work) (count : ℕ) (name : List ℕ) (old between new : Option Files) (w : Analysed) (log : LogView) (recorded : Outcome)
    (runs : RunsAsSource (program_text count) w) (logged : IsLogged a work (recording_of name) profile.All w [] log recorded)
    (put : ArePut (source_put count name ∷ []) old between) where
  abbrev logs_walk : LogsWalk a work (recording_of name) profile.All runs.os w []
  logs_walk labels end = runs.logs (setup_of (recording_of name) []) labels end (setup_is_within name)

  abbrev recording_is : IsRecording a work (recording_of name) profile.All runs.os [] recorded
  recording_is = recording a work (recording_of name) profile.All runs.os w [] recorded tt (setup_is_within name) runs.is logs_walk logged.is

  replaying_is : (walk : Walk) → WalkIs w.weak log.setup log.entries no_reads walk → HasRun log.setup.slots (entries_taken log.entries walk) work b → Replays work b (made_log name recording_is.entries) None runs.os (outcome_of [] None walk)
  replaying_is walk is worked =
      let entries : recording_is.entries ≡ logged.is.recorded.entries = recording_entries a work (recording_of name) profile.All runs.os w [] recorded tt (setup_is_within name) runs.is logs_walk logged.is in
      let same : log ≡ made_log name recording_is.entries = logged.log_is ∙ ap (made_log name) (sym entries) in
      record { found = w; is = runs.is; walk = walk; walks = subst (λ (l : LogView). WalkIs w.weak l.setup l.entries no_reads walk) same is; source = runs.walks (setup_of (recording_of name) []) recording_is.entries (setup_is_within name); crew = subst (λ (l : LogView). HasRun l.setup.slots (entries_taken l.entries walk) work b) same worked; told = refl }

  module _ (bytes : ℕ) (long : bytes ≡ length (program_text count)) where
    is_made : (o : Outcome) → IsReplayed work b count bytes w log recorded o → IsMade a b count name runs.os o
    is_made o h = record { between = work; recorded = recorded; recording = recording_is; replayed = outcome_of [] None h.walk; replaying = replaying_is h.walk h.walks h.crew; told = subst (λ n. o ≡ record { puts = recorded.puts; answer = summary_told count n recorded.answer (answer_of h.walk) }) long h.told }

    is_making : (left : Outcome) → IsFoundSo (IsReplayed work b count bytes w log recorded) between new left → IsFoundSo (IsMaking a b count name) old new left
    is_making left h =
        let rest = following h.before left in
        record { before = source_put count name ∷ h.before; put = put_both (source_put count name ∷ []) h.before old between new put h.put; has = record { rest = rest; comes = record { step = Ok runs.os; is = runs.tree; next = is_made rest h.has }; told = refl } }

    with_source : (s : Stop) (puts : List Put) → puts ≡ recorded.puts → (s ≡ stop.CrewFailed → b.jobs ≡ work.jobs) → IsPutInMaking a b count name s (source_put count name ∷ puts)
    with_source s puts e jobs = SourceAndLog work runs.os recorded runs.tree recording_is (ap (λ (xs : List Put). source_put count name ∷ xs) e) jobs

    -- a recording puts something
    some_put : (puts : List Put) → puts ≡ recorded.puts → puts ≡ [] → ⊥
    some_put puts e none = let told = ap (λ (o : Outcome). o.puts) logged.is.told in absurd (cc (sym none ∙ e ∙ told))

    cut_off : (puts : List Put) → puts ≡ recorded.puts → IsCutOff puts between new → IsCutOff (source_put count name ∷ puts) old new
    cut_off puts e (NonePut none same) = absurd (some_put puts e none)
    cut_off puts e (OneFailed h) = OneFailed (failed_after (source_put count name ∷ []) puts old between new put h)

    pub making : (r : Result Outcome Stop) (same : Type 0) (shelf_old shelf_new crew_old crew_new : ℕ) → ComesTo (IsReplayed work b count bytes w log recorded) (λ _ puts. puts ≡ recorded.puts) between new r → (r ≡ Err stop.CrewFailed → b.jobs ≡ work.jobs) → MatchResult r (λ _. same) (λ s. CrewShelfStops s shelf_old shelf_new crew_old crew_new) → ComesTo (IsMaking a b count name) (IsPutInMaking a b count name) old new r
    making (Ok left) same shelf_old shelf_new crew_old crew_new h jobs f = is_making left h
    making (Err (stop.Refused refusal)) same shelf_old shelf_new crew_old crew_new h jobs f = is_making (answers refusal) h
    making (Err stop.ShelfFailed) same shelf_old shelf_new crew_old crew_new h jobs f = (source_put count name ∷ h.0, with_source stop.ShelfFailed h.0 h.1 (λ e. cc e), cut_off h.0 h.1 h.2)
    making (Err stop.InputFailed) same shelf_old shelf_new crew_old crew_new h jobs f = absurd f
    making (Err stop.CrewFailed) same shelf_old shelf_new crew_old crew_new h jobs f = (source_put count name ∷ h.0, with_source stop.CrewFailed h.0 h.1 (λ e. jobs refl), put_both (source_put count name ∷ []) h.0 old between new put h.2)
    making (Err stop.OutOfMemory) same shelf_old shelf_new crew_old crew_new h jobs f = (source_put count name ∷ h.0, with_source stop.OutOfMemory h.0 h.1 (λ e. cc e), partly_after (source_put count name ∷ []) h.0 old between new put h.2)

-- what is told of a run that was recorded and replayed is of that run
module _ (a work b : Work) (count bytes : ℕ) (r : RecordAsked) (w : Analysed) (log : LogView) (recorded : Outcome) (logged : IsLogged a work r profile.All w [] log recorded) (between new : Option Files) where
  of_run : (left : Outcome) → IsFoundSo (IsReplayed work b count bytes w log recorded) between new left → IsOfRun left.answer
  of_run left h = subst IsOfRun (sym (ap (λ (o : Outcome). o.answer) h.has.told)) (summary_is_of_run count bytes recorded.answer (answer_of h.has.walk) (told_of_run recorded _ logged.is.recorded.walk logged.is.told refl))

  pub making_is_idle : (res : Result Outcome Stop) → ComesTo (IsReplayed work b count bytes w log recorded) (λ _ puts. puts ≡ recorded.puts) between new res → IsIdle res a b
  making_is_idle (Ok left) h = ran a b left (of_run left h)
  making_is_idle (Err (stop.Refused refusal)) h = ran a b (answers refusal) (of_run (answers refusal) h)
  making_is_idle (Err stop.ShelfFailed) h = tt
  making_is_idle (Err stop.InputFailed) h = tt
  making_is_idle (Err stop.CrewFailed) h = tt
  making_is_idle (Err stop.OutOfMemory) h = tt

-- ---- faults

module _ (shelf_old shelf_new crew_old crew_new : ℕ) where
  pub shelf_ends : (end : ShelfEnd) (s : Stop) → s ≡ stop_of end → ShelfFaults end shelf_old shelf_new → crew_new ≡ crew_old → CrewShelfStops s shelf_old shelf_new crew_old crew_new
  shelf_ends shelf_end.Failed s is h e = subst (λ x. CrewShelfStops x shelf_old shelf_new crew_old crew_new) (sym is) (h, e)
  shelf_ends shelf_end.OutOfMemory s is h e = subst (λ x. CrewShelfStops x shelf_old shelf_new crew_old crew_new) (sym is) (h, e)

  pub pure_ends : (s : Stop) → IsPure s → shelf_new ≡ shelf_old → crew_new ≡ crew_old → CrewShelfStops s shelf_old shelf_new crew_old crew_new
  pure_ends (stop.Refused a) h e f = (e, f)
  pure_ends stop.ShelfFailed h e f = absurd h
  pure_ends stop.InputFailed h e f = absurd h
  pure_ends stop.CrewFailed h e f = absurd h
  pure_ends stop.OutOfMemory h e f = (e, f)

  pub crew_ends : (s : Stop) → CrewStops s crew_old crew_new → shelf_new ≡ shelf_old → CrewShelfStops s shelf_old shelf_new crew_old crew_new
  crew_ends (stop.Refused a) h e = absurd h
  crew_ends stop.ShelfFailed h e = absurd h
  crew_ends stop.InputFailed h e = absurd h
  crew_ends stop.CrewFailed h e = (e, h)
  crew_ends stop.OutOfMemory h e = (e, h)

-- no count had risen before
pub later_ends : (r : Result Outcome Stop) (shelf_old shelf shelf_new crew_old crew crew_new : ℕ) → MatchResult r (λ _. (shelf_new ≡ shelf) × (crew_new ≡ crew)) (λ s. CrewShelfStops s shelf shelf_new crew crew_new) → shelf ≡ shelf_old → crew ≡ crew_old → MatchResult r (λ _. (shelf_new ≡ shelf_old) × (crew_new ≡ crew_old)) (λ s. CrewShelfStops s shelf_old shelf_new crew_old crew_new)
later_ends r shelf_old shelf shelf_new crew_old crew crew_new h e f =
    subst (λ x. MatchResult r (λ _. (shelf_new ≡ shelf_old) × (crew_new ≡ x)) (λ s. CrewShelfStops s shelf_old shelf_new x crew_new)) f
    (subst (λ x. MatchResult r (λ _. (shelf_new ≡ x) × (crew_new ≡ crew)) (λ s. CrewShelfStops s x shelf_new crew crew_new)) e h)
