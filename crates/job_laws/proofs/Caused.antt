-- Which cause each status has.
use Rattle.std.proofs.Common.{◌≡◌, ◌⊎◌, inl, inr, refl, sym, ap, subst, ◌∙◌, ℕ, List, [], ◌∷◌, ◌++◌, length, Option, Some, None, Result, Ok, Err}
use Rattle.command_line.specs.Answers.{shelf_fault, status_of}
use Rattle.command_line.specs.Endings.{Writes}
use Rattle.command_line.specs.Endings.Writes.{Whole, Failed, NoMemory}
use Rattle.command_line.specs.Jobs.{Asked, RecordAsked}
use Rattle.command_line.specs.Jobs.Asked.{Races, Weaken, Record, Replay, Profile, Watch, Chain, Checkpoint, Resume, Make}
use Rattle.command_line.specs.declared.answer.Answer.{Answer}
use Rattle.command_line.specs.declared.answer.Answer.TheVariants as answer
use Rattle.c_tree.specs.Tree.{Outer}
use Rattle.chain_report.specs.declared.point.Point.{Point}
use Rattle.core_run.specs.declared.outcome.Walk.{Walk}
use Rattle.core_run.specs.declared.outcome.Walk.TheVariants as walk
use Rattle.profiles.specs.declared.profile.Profile.{Profile as ProfileOf}
use Rattle.job_profiles.specs.Profiles.{named}
use Rattle.core_run.specs.Walks.{WalkIs}
use Rattle.flow_code.specs.declared.code.Code.{Code}
use Rattle.lock_sound.specs.Weakened.{Analysed}
use Rattle.order_log.specs.Log.{LogView}
use Rattle.job_outcomes.specs.Endings.{Ends, Finishes, Outside, shelf_of}
use Rattle.job_outcomes.specs.Endings.Ends.{Found, ShelfFails, InputFails, CrewFails, WantsMemory}
use Rattle.job_outcomes.specs.Endings.Finishes.{Tells, PutFails, LacksMemory as LacksForPut}
use Rattle.job_outcomes.specs.Outcomes.{answers, following}
use Rattle.job_outcomes.specs.Puts.{Put, PutFailed}
use Rattle.job_outcomes.specs.Steps.{Then}
use Rattle.job_outcomes.specs.declared.outcome.Outcome.{Outcome}
use Rattle.recorder.specs.Records.{IsWholeWalk}
use Rattle.rr_base.specs.Files.{Files}
use Rattle.sync_objects.specs.Setup.{SetupView}
use Rattle.sync_objects.specs.declared.entry.Entry.{Entry}
use Rattle.walk_answers.proofs.OneWalk.{one_walk}
use Rattle.walk_answers.specs.Walking.{answer_of, formula_of, no_reads}
use Rattle.thread_interpreter.specs.declared.access.Formula.{Formula}
use Rattle.walk_chains.specs.Telling.{lines_of}
use Rattle.walk_checkpoints.proofs.One.{one_checkpoint, one_rest}
use Rattle.walk_checkpoints.specs.Telling.{GoesOn, IsCheckpointIn, IsRefusal, TakesCheckpoint, WalksRest, rest_answer, taken_outcome}
use Rattle.checkpoint.specs.declared.outcome.Resumed.{Resumed}
use Rattle.checkpoint.specs.declared.outcome.Resumed.TheVariants as resumed
use Rattle.checkpoint.specs.declared.outcome.Taken.{Taken}
use Rattle.checkpoint.specs.declared.outcome.Taken.TheVariants as taken
use Rattle.snapshot_reader.specs.declared.fault.SnapshotFault.{SnapshotFault}
use Rattle.snapshot_reader.specs.declared.fault.SnapshotFault.TheVariants as fault
use Rattle.snapshots.specs.declared.snapshot.Snapshot.{Snapshot}
use Rattle.walk_hits.specs.Telling.{answer_of as hit_of, line_of}
use Rattle.walk_profiles.specs.Profiling.{answer_of as shown_of}
use Rattle.workload.specs.Program.{program_text}
use Rattle.job_laws.specs.Causes.{CauseOf, FollowsLog, GoesOnLog, IsDecided, IsTold as IsToldOf, MayAnswer, Walks, WentWell}
use Rattle.job_laws.specs.Causes.CauseOf.{NoJob, Refused, Answered, InputFailed, OutputFailed, ShelfFailed, CrewFailed, LacksMemory}
use Rattle.job_laws.specs.Asks.{AsksCrew, AsksInput}
use Rattle.job_laws.specs.Chainings.{OrdersLog, point_of}
use Rattle.job_laws.specs.Checkpoints.{GoesOnFrom, KeepsState}
use Rattle.job_laws.specs.Jobs.{IsDone, IsOutcome, IsOutcomeOf, PutsBefore, UsesShelf, puts_first}
use Rattle.job_laws.specs.Laws.{StatusesHaveCauses}
use Rattle.job_runs.specs.Retold.{summary_told}
use Rattle.job_laws.specs.Makings.{IsMade}
use Rattle.job_laws.specs.Readings.{IsAccepted, Refuses, reading_of}
use Rattle.job_laws.specs.Recordings.{IsRecording}
use Rattle.job_laws.specs.Replays.{Replays}
use Rattle.job_laws.specs.Profilings.{ShowsLog}
use Rattle.job_laws.specs.Sources.{IsFound}
use Rattle.job_laws.specs.Watchings.{TellsLog}
use Rattle.job_runs.specs.Works.{Work}
use Rattle.job_laws.proofs.Refused.{IsNext, answer_is, either_read, refused_reads, refuses_no_run}
use Rattle.job_laws.proofs.Unique.{found_once, input_is_once, one_refusal, reads_at}

-- ---- what the jobs answer

walk_may : (job : Asked) (w : Walk) → FollowsLog job → Walks job → MayAnswer job (answer_of w)
walk_may job (walk.Done out reads ends) follows walks = tt
walk_may job (walk.Trapped kind thread line out reads ends) follows walks = walks
walk_may job (walk.Wrong at) follows walks = follows

shown_may : (job : Asked) (w : Walk) → FollowsLog job → Walks job → MayAnswer job (shown_of w)
shown_may job (walk.Done out reads ends) follows walks = tt
shown_may job (walk.Trapped kind thread line out reads ends) follows walks = walks
shown_may job (walk.Wrong at) follows walks = follows

hit_may : (job : Asked) (line : List ℕ) (w : Walk) → FollowsLog job → Walks job → MayAnswer job (hit_of line w)
hit_may job line (walk.Done out reads ends) follows walks = tt
hit_may job line (walk.Trapped kind thread at out reads ends) follows walks = walks
hit_may job line (walk.Wrong at) follows walks = follows

whole_may : (job : Asked) (w : Walk) → IsWholeWalk w → Walks job → MayAnswer job (answer_of w)
whole_may job (walk.Done out reads ends) whole walks = tt
whole_may job (walk.Trapped kind thread line out reads ends) whole walks = walks
whole_may job (walk.Wrong at) whole walks = absurd whole

summary_may : (job : Asked) (count bytes : ℕ) (w : Walk) (b : Answer) → IsWholeWalk w → Walks job → MayAnswer job (summary_told count bytes (answer_of w) b)
summary_may job count bytes (walk.Done out reads ends) b whole walks = tt
summary_may job count bytes (walk.Trapped kind thread line out reads ends) b whole walks = walks
summary_may job count bytes (walk.Wrong at) b whole walks = absurd whole

told_may : (job : Asked) (o : Outcome) (a : Answer) → o.answer ≡ a → MayAnswer job a → MayAnswer job o.answer
told_may job o a e h = subst (MayAnswer job) (sym e) h

recording_may : (job : Asked) (a b : Work) (r : RecordAsked) (p : ProfileOf) (os : List Outer) (input : List ℕ) (o : Outcome) → Walks job → IsRecording a b r p os input o → MayAnswer job o.answer
recording_may job a b r p os input o walks h = told_may job o (answer_of h.walk) (answer_is o _ h.told) (whole_may job h.walk h.records.whole walks)

made_may : (job : Asked) (a b : Work) (count : ℕ) (name : List ℕ) (os : List Outer) (o : Outcome) → Walks job → IsMade a b count name os o → MayAnswer job o.answer
made_may job a b count name os o walks h =
    let bytes = length (program_text count) in
    let recorded : h.recorded.answer ≡ answer_of h.recording.walk = answer_is h.recorded _ h.recording.told in
    told_may job o (summary_told count bytes h.recorded.answer h.replayed.answer) (answer_is o _ h.told)
    (subst (λ x. MayAnswer job (summary_told count bytes x h.replayed.answer)) (sym recorded) (summary_may job count bytes h.recording.walk h.replayed.answer h.recording.records.whole walks))

-- taking the state answers with nothing told, or with a wrong entry
taken_may : (job : Asked) (name : List ℕ) (t : Taken) → FollowsLog job → MayAnswer job (taken_outcome name t).answer
taken_may job name (taken.State x) follows = tt
taken_may job name (taken.Wrong at) follows = follows

-- going on answers as any walk does, or refuses the checkpoint
module _ (job : Asked) (follows : FollowsLog job) (walks : Walks job) (goes : GoesOnLog job) where
  rest_may : (rest : Resumed) → MayAnswer job (rest_answer rest)
  rest_may (resumed.Walked w) = walk_may job w follows walks
  rest_may (resumed.BadCell t) = goes

  refused_may : (f : SnapshotFault) (a : Answer) → IsRefusal f a → MayAnswer job a
  refused_may (fault.Refused number line) a h = subst (MayAnswer job) (sym h) goes
  refused_may fault.OutOfMemory a h = absurd h

  goes_may : (code : Code) (s : SetupView) (es : List Entry) (held : List ℕ) (o : Outcome) → GoesOn code s es held o → MayAnswer job o.answer
  goes_may code s es held o h = by h.step h.is h.next
    where
      by : (r : Result Snapshot Answer) → IsCheckpointIn code s es held r → Then (WalksRest code s es) r o → MayAnswer job o.answer
      by (Ok x) is next = told_may job o _ (answer_is o _ next.told) (rest_may next.rest)
      by (Err a) is next = told_may job o a (answer_is o _ next) (refused_may is.0 a is.2)

done_may : (job : Asked) (a b : Work) (p : ProfileOf) (view : LogView) (held : List ℕ) (os : List Outer) (input : List ℕ) (o : Outcome) → IsDone a b job p view held os input o → MayAnswer job o.answer
done_may (Races source) a b p view held os input o h = told_may (Races source) o _ (answer_is o _ h.told) tt
done_may (Weaken source name) a b p view held os input o h = told_may (Weaken source name) o _ (answer_is o _ h.told) tt
done_may (Record r) a b p view held os input o h = recording_may (Record r) a b r (named p) os input o tt h
done_may (Replay source log reads) a b p view held os input o h = told_may (Replay source log reads) o _ (answer_is o _ h.told) (walk_may (Replay source log reads) h.walk refl tt)
done_may (Profile source log name) a b p view held os input o h = told_may (Profile source log name) o _ h.shows.told (shown_may (Profile source log name) h.shows.walk refl tt)
done_may (Watch source log formula) a b p view held os input o h = told_may (Watch source log formula) o _ (answer_is o _ h.tells.told) (hit_may (Watch source log formula) (line_of h.tells.watched.seen) h.tells.watched.walk refl tt)
done_may (Chain source log one other) a b p view held os input o h = told_may (Chain source log one other) o _ (answer_is o _ h.tells.told) (hit_may (Chain source log one other) (lines_of h.tells.found) h.tells.walk refl tt)
done_may (Checkpoint source log count name) a b p view held os input o h = told_may (Checkpoint source log count name) o _ (answer_is o _ h.takes.told) (taken_may (Checkpoint source log count name) name h.takes.found refl)
done_may (Resume source log name) a b p view held os input o h = goes_may (Resume source log name) refl tt refl h.found.weak view.setup view.entries held o h.goes
done_may (Make count name) a b p view held os input o h = made_may (Make count name) a b count name os o tt h

-- ---- jobs

module _ (files : Option Files) (left : Option (List ℕ)) (a b : Work) (job : Asked) (o : Outcome) where
  abbrev IsEither : Type 0
  IsEither = Refuses files left (reading_of job) o.answer ⊎ (IsAccepted files left (reading_of job) × MayAnswer job o.answer)

  -- each outcome is a refusal, or an answer to what was accepted
  either : IsOutcomeOf a b files left job o → IsEither
  either h = by (either_read files left (reading_of job) (IsDone a b job) h.rest h.comes)
    where
      same : o.answer ≡ h.rest.answer
      same = answer_is o _ h.told

      by : Refuses files left (reading_of job) h.rest.answer ⊎ IsNext files left (reading_of job) (IsDone a b job) h.rest → IsEither
      by (inl refused) = inl (subst (Refuses files left (reading_of job)) (sym same) refused)
      by (inr next) = inr (next.0, subst (MayAnswer job) (sym same) (done_may job a b next.0.given next.0.followed next.0.held next.0.os next.0.read h.rest next.1))

-- what is told of a refusal; a made source is put before
abbrev refusal_of : Asked → Answer → Outcome
refusal_of job a = following (puts_first job) (answers a)

refusal_is_outcome : (files : Option Files) (left : Option (List ℕ)) (w : Work) (job : Asked) (a : Answer) → Refuses files left (reading_of job) a → IsOutcomeOf w w files left job (refusal_of job a)
refusal_is_outcome files left w job a h = record { rest = answers a; comes = refused_reads files left (reading_of job) (IsDone w w job) a h; told = refl }

-- ---- the walk of a log that is read

module _ (view : LogView) (os : List Outer) (found : Analysed) (is : IsFound os view.profile found) (w : Walk) (o : Outcome) where
  replay_walked : (a b : Work) (reads : Option (List ℕ)) → WalkIs found.weak view.setup view.entries (formula_of reads) w → Replays a b view reads os o → o.answer ≡ answer_of w
  replay_walked a b reads walks h =
      let same : h.found ≡ found = found_once os view.profile h.found found h.is is in
      let other : WalkIs found.weak view.setup view.entries (formula_of reads) h.walk = subst (λ (x : Analysed). WalkIs x.weak view.setup view.entries (formula_of reads) h.walk) same h.walks in
      answer_is o _ h.told ∙ (one_walk found.weak view.setup view.entries (formula_of reads) h.walk w other walks).0

  same_status : (v : Walk) → answer_of v ≡ answer_of w → status_of (shown_of v) ≡ status_of (answer_of w)
  same_status (walk.Done out reads ends) e = ap status_of e
  same_status (walk.Trapped kind thread line out reads ends) e = ap status_of e
  same_status (walk.Wrong at) e = ap status_of e

  profile_walked : (name : List ℕ) → WalkIs found.weak view.setup view.entries no_reads w → ShowsLog view name os o → status_of o.answer ≡ status_of (answer_of w)
  profile_walked name walks h =
      let same : h.found ≡ found = found_once os view.profile h.found found h.is is in
      let other : WalkIs found.weak view.setup view.entries no_reads h.shows.walk = subst (λ (x : Analysed). WalkIs x.weak view.setup view.entries no_reads h.shows.walk) same h.shows.walks in
      ap status_of h.shows.told ∙ same_status h.shows.walk (one_walk found.weak view.setup view.entries no_reads h.shows.walk w other walks).0

  hit_status : (line : List ℕ) (v : Walk) → answer_of v ≡ answer_of w → status_of (hit_of line v) ≡ status_of (answer_of w)
  hit_status line (walk.Done out reads ends) e = ap status_of e
  hit_status line (walk.Trapped kind thread at out reads ends) e = ap status_of e
  hit_status line (walk.Wrong at) e = ap status_of e

  watch_walked : (formula : Formula) → WalkIs found.weak view.setup view.entries formula w → TellsLog view formula os o → status_of o.answer ≡ status_of (answer_of w)
  watch_walked formula walks h =
      let v = h.tells.watched.walk in
      let same : h.found ≡ found = found_once os view.profile h.found found h.is is in
      let other : WalkIs found.weak view.setup view.entries formula v = subst (λ (x : Analysed). WalkIs x.weak view.setup view.entries formula v) same h.tells.is.walk in
      ap status_of (answer_is o _ h.tells.told) ∙ hit_status (line_of h.tells.watched.seen) v (one_walk found.weak view.setup view.entries formula v w other walks).0

  chain_walked : (one other : Point) → WalkIs found.weak view.setup view.entries no_reads w → OrdersLog view one other os o → status_of o.answer ≡ status_of (answer_of w)
  chain_walked one other walks h =
      let v = h.tells.walk in
      let same : h.found ≡ found = found_once os view.profile h.found found h.is is in
      let follows : WalkIs found.weak view.setup view.entries no_reads v = subst (λ (x : Analysed). WalkIs x.weak view.setup view.entries no_reads v) same h.tells.walks in
      ap status_of (answer_is o _ h.tells.told) ∙ hit_status (lines_of h.tells.found) v (one_walk found.weak view.setup view.entries no_reads v w follows walks).0

module _ (view : LogView) (os : List Outer) (found : Analysed) (is : IsFound os view.profile found) (o : Outcome) where
  -- the state after the first entries, and the rest from a state, are one
  keeps_told : (count : ℕ) (name : List ℕ) (x : Outcome) → TakesCheckpoint found.weak view.setup view.entries count name x → KeepsState view count name os o → o.answer ≡ x.answer
  keeps_told count name x takes h =
      let same : h.found ≡ found = found_once os view.profile h.found found h.is is in
      let other : TakesCheckpoint found.weak view.setup view.entries count name o = subst (λ (y : Analysed). TakesCheckpoint y.weak view.setup view.entries count name o) same h.takes in
      answer_is o x (one_checkpoint found.weak view.setup view.entries count name o x other takes)

  goes_told : (held : List ℕ) (x : Outcome) → GoesOn found.weak view.setup view.entries held x → GoesOnFrom view held os o → o.answer ≡ x.answer
  goes_told held x goes h =
      let same : h.found ≡ found = found_once os view.profile h.found found h.is is in
      let other : GoesOn found.weak view.setup view.entries held o = subst (λ (y : Analysed). GoesOn y.weak view.setup view.entries held o) same h.goes in
      answer_is o x (one_rest found.weak view.setup view.entries held o x other goes)

done_walked : (a b : Work) (job : Asked) (p : ProfileOf) (view : LogView) (held : List ℕ) (os : List Outer) (input : List ℕ) (o : Outcome) (found : Analysed) (x : Answer) → FollowsLog job → IsFound os view.profile found → IsToldOf job view held found.weak x → IsDone a b job p view held os input o → status_of o.answer ≡ status_of x
done_walked a b (Replay source log reads) p view held os input o found x follows is told h = ap status_of (replay_walked view os found is told.0 o a b reads told.1 h ∙ sym told.2)
done_walked a b (Profile source log name) p view held os input o found x follows is told h = profile_walked view os found is told.0 o name told.1 h ∙ ap status_of (sym told.2)
done_walked a b (Watch source log formula) p view held os input o found x follows is told h = watch_walked view os found is told.0 o formula told.1 h ∙ ap status_of (sym told.2)
done_walked a b (Chain source log one other) p view held os input o found x follows is told h = chain_walked view os found is told.0 o (point_of one) (point_of other) told.1 h ∙ ap status_of (sym told.2)
done_walked a b (Checkpoint source log count name) p view held os input o found x follows is told h = ap status_of (keeps_told view os found is o count name told.0 told.1 h ∙ sym told.2)
done_walked a b (Resume source log name) p view held os input o found x follows is told h = ap status_of (goes_told view os found is o held told.0 told.1 h ∙ sym told.2)
done_walked a b _ p view held os input o found x follows is told h = absurd (cc follows)

walked : (files : Files) (left : List ℕ) (a b : Work) (o : Outcome) (job : Asked) → FollowsLog job → (by : IsAccepted (Some files) (Some left) (reading_of job)) (found : Analysed) → IsFound by.os by.followed.profile found → (x : Answer) → IsToldOf job by.followed by.held found.weak x → IsOutcomeOf a b (Some files) (Some left) job o → status_of o.answer ≡ status_of x
walked files left a b o job follows by found is x told h =
    ap status_of (answer_is o _ h.told) ∙ done_walked a b job by.given by.followed by.held by.os by.read h.rest found x follows is told (reads_at files (reading_of job) (Some left) (input_is_once left (reading_of job).input) (IsDone a b job) h.rest by h.comes)

-- ---- the statuses

-- words that are no job put nothing
no_put_fails : (o : Outcome) (old new : Option Files) → o ≡ answers answer.Usage → PutFailed o.puts old new → ⊥
no_put_fails o old new e h =
    let none : o.puts ≡ [] = ap (λ (x : Outcome). x.puts) e in
    absurd (nothing_split h.made h.failed h.rest (sym none ∙ h.split))
  where
    nothing_split : (made : List Put) (failed : Put) (rest : List Put) → [] ≡ made ++ failed ∷ rest → ⊥
    nothing_split [] failed rest e = cc e
    nothing_split (p ∷ made) failed rest e = cc e

module _ (a b : Work) (files : Files) (left : List ℕ) (old new : Outside) (status : ℕ) where
  abbrev CauseIs : Option Asked → Type 0
  CauseIs job = CauseOf files left job old new status

  abbrev EndsSo : Option Asked → Type 0
  EndsSo job = Ends (IsOutcome a b (Some files) (Some left) job) (PutsBefore a b job) (UsesShelf job) (AsksInput (Some files) job) (AsksCrew (Some files) (Some left) job) old new status

  by_writes : (job : Option Asked) (text : List ℕ) (n : ℕ) → (status ≡ n → CauseIs job) → Writes text n old.out new.out status → CauseIs job
  by_writes job text n cause (Whole e took faults) = cause e
  by_writes job text n cause (Failed e took rose) = OutputFailed rose e
  by_writes job text n cause (NoMemory e took faults) = LacksMemory e

  by_outcome : (job : Option Asked) (o : Outcome) → IsOutcome a b (Some files) (Some left) job o → status ≡ status_of o.answer → CauseIs job
  by_outcome None o h e = NoJob refl (e ∙ ap (λ (x : Outcome). status_of x.answer) h.is)
  by_outcome (Some job) o h e = by (either (Some files) (Some left) a b job o h.is)
    where
      by : IsEither (Some files) (Some left) a b job o → CauseIs (Some job)
      by (inl refused) = Refused job refl o.answer refused e
      by (inr accepted) = Answered job refl accepted.0 o.answer accepted.1 e

  uses_shelf : (job : Option Asked) (o : Outcome) → IsOutcome a b (Some files) (Some left) job o → PutFailed o.puts old.files new.files → UsesShelf job
  uses_shelf None o h failed = absurd (no_put_fails o old.files new.files h.is failed)
  uses_shelf (Some job) o h failed = tt

  by_finish : (job : Option Asked) (o : Outcome) → IsOutcome a b (Some files) (Some left) job o → Finishes o (shelf_of old) (shelf_of new) old.out new.out status → CauseIs job
  by_finish job o h (Tells puts faults w) = by_writes job _ _ (by_outcome job o h) w
  by_finish job o h (PutFails puts rose w) = by_writes job shelf_fault 9 (ShelfFailed (uses_shelf job o h puts) rose) w
  by_finish job o h (LacksForPut e same puts faults) = LacksMemory e

  cause_of : (job : Option Asked) → EndsSo job → CauseIs job
  cause_of job (Found o h only f) = by_finish job o h f
  cause_of job (ShelfFails uses puts before files rose only w) = by_writes job _ _ (ShelfFailed uses rose) w
  cause_of job (InputFails reads files rose shelf crew w) = by_writes job _ _ (InputFailed reads rose) w
  cause_of job (CrewFails runs puts before files rose shelf input w) = by_writes job _ _ (CrewFailed runs rose) w
  cause_of job (WantsMemory e puts before files counts out) = LacksMemory e

  -- ---- where all went well

  module _ (well : WentWell old new status) where
    -- an outcome was told
    abbrev IsTold : Option Asked → Type 0
    IsTold job = (o : Outcome) × IsOutcome a b (Some files) (Some left) job o × (status ≡ status_of o.answer)

    writes_whole : (text : List ℕ) (n : ℕ) → Writes text n old.out new.out status → status ≡ n
    writes_whole text n (Whole e took faults) = e
    writes_whole text n (Failed e took rose) = absurd (well.output rose)
    writes_whole text n (NoMemory e took faults) = absurd (well.memory e)

    told_by : (job : Option Asked) (o : Outcome) → IsOutcome a b (Some files) (Some left) job o → Finishes o (shelf_of old) (shelf_of new) old.out new.out status → IsTold job
    told_by job o h (Tells puts faults w) = (o, h, writes_whole _ _ w)
    told_by job o h (PutFails puts rose w) = absurd (well.shelf rose)
    told_by job o h (LacksForPut e same puts faults) = absurd (well.memory e)

    is_told : (job : Option Asked) → EndsSo job → IsTold job
    is_told job (Found o h only f) = told_by job o h f
    is_told job (ShelfFails uses puts before files rose only w) = absurd (well.shelf rose)
    is_told job (InputFails reads files rose shelf crew w) = absurd (well.input rose)
    is_told job (CrewFails runs puts before files rose shelf input w) = absurd (well.crew rose)
    is_told job (WantsMemory e puts before files counts out) = absurd (well.memory e)

    usage_status : (job : Option Asked) → job ≡ None → IsTold job → status ≡ 1
    usage_status None e told = told.2 ∙ ap (λ (x : Outcome). status_of x.answer) told.1.is
    usage_status (Some job) e told = absurd (cc e)

    refusal_status : (job : Asked) (refusal : Answer) → Refuses (Some files) (Some left) (reading_of job) refusal → IsTold (Some job) → status ≡ status_of refusal
    refusal_status job refusal h told =
        let w : Work = record { jobs = 0; turns = 0 } in
        let same : refusal_of job refusal ≡ told.0 = one_refusal w w a b files left (Some job) (refusal_of job refusal) told.0 (λ run. refuses_no_run (Some files) (Some left) (reading_of job) refusal h run) (record { is = refusal_is_outcome (Some files) (Some left) w job refusal h; idle = λ none. refl }) told.1 in
        told.2 ∙ ap (λ (x : Outcome). status_of x.answer) (sym same)

    accepted_status : (job : Asked) → IsAccepted (Some files) (Some left) (reading_of job) → IsTold (Some job) → (x : Answer) × MayAnswer job x × (status ≡ status_of x)
    accepted_status job h told = by (either (Some files) (Some left) a b job told.0 told.1.is)
      where
        by : IsEither (Some files) (Some left) a b job told.0 → (x : Answer) × MayAnswer job x × (status ≡ status_of x)
        by (inl refused) = absurd (reads_at files (reading_of job) (Some left) (input_is_once left (reading_of job).input) (λ p log held os input o. ⊥) (answers told.0.answer) h refused)
        by (inr accepted) = (told.0.answer, accepted.1, told.2)

    decided : (job : Option Asked) → IsTold job → IsDecided files left job status
    decided job told = record {
      none = λ e. usage_status job e told;
      refused = λ asked e refusal h. refusal_status asked refusal h (subst IsTold e told);
      accepted = λ asked e h. accepted_status asked h (subst IsTold e told);
      walked = λ asked e follows by found is x of_log. let t = subst IsTold e told in t.2 ∙ walked files left a b t.0 asked follows by found is x of_log t.1.is;
    }

pub statuses_have_causes : StatusesHaveCauses
statuses_have_causes a b files left job old new status h = (cause_of a b files left old new status job h, λ well. decided a b files left old new status well job (is_told a b files left old new status well job h))
