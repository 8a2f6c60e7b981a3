-- The rest of a walk from its checkpoint is the rest of the whole one.
use Rattle.std.proofs.Common.{◌≡◌, ◌≤◌, refl, sym, ◌∙◌, ap, subst, ℕ, true, List, [], ◌∷◌, ◌++◌, length, Option, Some, None, Result, Ok, if◌then◌else◌}
use Rattle.std.specs.Prelude.{drop, option_map, take}
use Rattle.std.specs.Str.{bytes_eq}
use Rattle.std.proofs.lemmas.Option.{same_Some}
use Rattle.std.proofs.lemmas.Slice.Eq.{bytes_eq-Decides}
use Rattle.checkpoint.specs.declared.outcome.Taken.{Taken}
use Rattle.checkpoint.specs.declared.outcome.Taken.TheVariants as taken
use Rattle.command_line.specs.Answers.{status_of, text_of}
use Rattle.command_line.specs.Endings.{Sight, Writes as WritesText}
use Rattle.command_line.specs.Endings.Writes.{Whole, Failed, NoMemory}
use Rattle.command_line.specs.Jobs.{Asked}
use Rattle.command_line.specs.Jobs.Asked.{Checkpoint, Resume}
use Rattle.command_line.specs.declared.answer.Answer.{Answer}
use Rattle.command_line.specs.declared.answer.Part.{Part}
use Rattle.command_line.specs.declared.answer.Part.TheVariants as part
use Rattle.core_run.specs.Machine.{Told, start_state}
use Rattle.core_run.specs.Walks.{walk_of}
use Rattle.core_run.specs.declared.outcome.Walk.{Walk}
use Rattle.core_run.specs.declared.outcome.Walk.TheVariants as walk
use Rattle.flow_code.specs.declared.code.Code.{Code}
use Rattle.job_outcomes.specs.Endings.{Finishes, shelf_of}
use Rattle.job_outcomes.specs.Endings.Ends.{Found, ShelfFails, InputFails, CrewFails, WantsMemory}
use Rattle.job_outcomes.specs.Endings.Finishes.{Tells, PutFails, LacksMemory}
use Rattle.job_outcomes.specs.Outcomes.{answers, following}
use Rattle.job_outcomes.specs.Puts.{ArePut, Put, with_puts}
use Rattle.job_outcomes.specs.Steps.{IsFile}
use Rattle.job_outcomes.specs.declared.outcome.Outcome.{Outcome}
use Rattle.job_runs.specs.Works.{Work}
use Rattle.lock_sound.specs.Weakened.{Analysed}
use Rattle.order_log.specs.Log.{LogView}
use Rattle.rr_base.specs.Files.{Files, with_file}
use Rattle.rr_base.specs.Streams.{Took}
use Rattle.run_theory.specs.Steps.{State}
use Rattle.snapshots.specs.Text.{snapshot_text}
use Rattle.sync_objects.specs.Setup.{IsWithinLimits, SetupView}
use Rattle.sync_objects.specs.declared.entry.Entry.{Entry}
use Rattle.walk_answers.specs.Walking.{answer_of, no_reads}
use Rattle.walk_checkpoints.specs.Repeats.{RestRepeats, told_from}
use Rattle.walk_checkpoints.specs.Telling.{GoesOn, TakesCheckpoint, taken_outcome}
use Rattle.job_laws.specs.Causes.{WentWell}
use Rattle.job_laws.specs.Checkpoints.{GoesOnFrom, KeepsState}
use Rattle.job_laws.specs.Jobs.{IsDone, IsOutcome, IsOutcomeOf}
use Rattle.job_laws.specs.Moments.{EndsFor, Moment, outside_of}
use Rattle.job_laws.specs.Readings.{IsAccepted, IsLogFile, IsLogOf, with_checkpoint, with_log}
use Rattle.job_laws.specs.Repeats.{HaveCheckpoint, IsReplayed, ResumeRepeats, WritesRest}
use Rattle.job_laws.proofs.Repeated.{IsPutAndTold, told_well}
use Rattle.job_laws.proofs.Unique.{found_once, log_limits, reads_at}

-- ---- a call that ended with 0 has told its outcome

module _ (text : List ℕ) (status : ℕ) (old new : Sight) where
  zero_told : WritesText text status old new 0 → 0 ≡ status
  zero_told (Whole same took faults) = same
  zero_told (Failed same took rose) = absurd (cc same)
  zero_told (NoMemory same took faults) = absurd (cc same)

module _ (old new : Moment) (first last : Sight) where
  -- an outcome was put and told, whose status is 0
  abbrev IsPutWell : Outcome → Type 0
  IsPutWell o = ArePut o.puts old.files new.files × (0 ≡ status_of o.answer)

  finished_zero : (o : Outcome) → Finishes o (shelf_of (outside_of old first)) (shelf_of (outside_of new last)) first last 0 → IsPutWell o
  finished_zero o (Tells puts faults w) = (puts, zero_told (text_of o.answer) (status_of o.answer) first last w)
  finished_zero o (PutFails puts rose w) = let e = zero_told _ 9 first last w in absurd (cc e)
  finished_zero o (LacksMemory e same puts faults) = absurd (cc e)

  ended_zero : (job : Option Asked) → EndsFor job old new first last 0 → (o : Outcome) × IsOutcome old.work new.work old.files old.left job o × IsPutWell o
  ended_zero job (Found o h only f) = (o, h, finished_zero o f)
  ended_zero job (ShelfFails uses puts before files rose only w) = let e = zero_told _ 9 first last w in absurd (cc e)
  ended_zero job (InputFails reads files rose shelf crew w) = let e = zero_told _ 7 first last w in absurd (cc e)
  ended_zero job (CrewFails runs puts before files rose shelf input w) = let e = zero_told _ 10 first last w in absurd (cc e)
  ended_zero job (WantsMemory e puts before files counts out) = absurd (cc e)

-- ---- the checkpoint that was put

-- the file of an outcome of taking that tells 0
put_by : (name : List ℕ) (t : Taken) → 0 ≡ status_of (taken_outcome name t).answer → (bytes : List ℕ) × ((taken_outcome name t).puts ≡ record { name = name; content = bytes } ∷ [])
put_by name (taken.State x) e = (snapshot_text x, refl)
put_by name (taken.Wrong at) e = absurd (cc e)

-- a file that was put last is there
there : (name bytes : List ℕ) (files made : Files) → Some made ≡ option_map (with_puts (record { name = name; content = bytes } ∷ [])) (Some files) → made name ≡ Some bytes
there name bytes files made e =
    let same : made ≡ with_file name bytes files = same_Some made (with_file name bytes files) e in
    ap (λ (m : Files). m name) same ∙ ap (λ b. if b then Some bytes else files name) ((bytes_eq-Decides name name).1 refl)

module _ (source log name : List ℕ) (count : ℕ) (files made later : Files) (run : Walk) (replay : IsReplayed files source log run) where
  abbrev view : LogView
  view = replay.accepted.followed

  abbrev weak : Code
  weak = replay.code.weak

  -- what is read is accepted whatever the input is
  accepted : (left : Option (List ℕ)) → IsAccepted (Some files) left (with_log source log)
  accepted left =
      record {
        text = replay.accepted.text;
        source = replay.accepted.source;
        given = replay.accepted.given;
        profile = replay.accepted.profile;
        followed = view;
        log = replay.accepted.log;
        held = replay.accepted.held;
        checkpoint = replay.accepted.checkpoint;
        os = replay.accepted.os;
        tree = replay.accepted.tree;
        read = replay.accepted.read;
        input = replay.accepted.input;
      }

  -- what was taken, on the code of the replay
  taken_of : (left : Option (List ℕ)) (a b : Work) (o : Outcome) → IsOutcomeOf a b (Some files) left (Checkpoint source log count name) o → TakesCheckpoint weak view.setup view.entries count name o
  unfolding accepted
  taken_of left a b o h =
      let done : KeepsState view count name replay.accepted.os h.rest = reads_at files (with_log source log) left (λ x y f g. f ∙ sym g) (IsDone a b (Checkpoint source log count name)) h.rest (accepted left) h.comes in
      let same : done.found ≡ replay.code = found_once replay.accepted.os view.profile done.found replay.code done.is replay.weakened in
      subst (λ (p : Outcome). TakesCheckpoint weak view.setup view.entries count name p) (sym h.told) (subst (λ (w : Analysed). TakesCheckpoint w.weak view.setup view.entries count name h.rest) same done.takes)

  module _ (left : Option (List ℕ)) (kept : HaveCheckpoint source log name files made later) where
    file_of : (most : ℕ) (what : Part) (at : List ℕ) (r : Result (List ℕ) Answer) → later at ≡ files at → IsFile (Some files) most what at r → IsFile (Some later) most what at r
    file_of most what at r e h = record { content = h.content; held = e ∙ h.held; within = h.within }

    -- the three files are accepted
    kept_accepted : IsAccepted (Some later) left (with_checkpoint source log name)
    kept_accepted =
        let logged = replay.accepted.log in
        record {
          text = replay.accepted.text;
          source = file_of 1048576 part.Source source (Ok replay.accepted.text) kept.same_source replay.accepted.source;
          given = replay.accepted.given;
          profile = replay.accepted.profile;
          followed = view;
          log = (logged.0, file_of 536870912 part.Log log logged.0 kept.same_log logged.1, logged.2);
          held = kept.bytes;
          checkpoint = record { content = kept.bytes; held = kept.held; within = (refl, kept.fits) };
          os = replay.accepted.os;
          tree = replay.accepted.tree;
          read = replay.accepted.read;
          input = replay.accepted.input;
        }

    -- what is told of the rest, on the code of the replay
    gone_of : (a b : Work) (o : Outcome) → IsOutcomeOf a b (Some later) left (Resume source log name) o → GoesOn weak view.setup view.entries kept.bytes o
    unfolding kept_accepted
    gone_of a b o h =
        let done : GoesOnFrom view kept.bytes replay.accepted.os h.rest = reads_at later (with_checkpoint source log name) left (λ x y f g. f ∙ sym g) (IsDone a b (Resume source log name)) h.rest kept_accepted h.comes in
        let same : done.found ≡ replay.code = found_once replay.accepted.os view.profile done.found replay.code done.is replay.weakened in
        subst (λ (p : Outcome). GoesOn weak view.setup view.entries kept.bytes p) (sym h.told) (subst (λ (w : Analysed). GoesOn w.weak view.setup view.entries kept.bytes h.rest) same done.goes)

-- ---- what is written

rest_status : (code : Code) (s : SetupView) (rest : List Entry) (st : State Told) (w : Walk) → status_of (told_from code s rest st w) ≡ status_of (answer_of w)
rest_status code s rest st (walk.Done out reads ends) = refl
rest_status code s rest st (walk.Trapped kind thread line out reads ends) = refl
rest_status code s rest st (walk.Wrong at) = refl

module _ (at after : Moment) (opens closes : Sight) (again : ℕ) (well : WentWell (outside_of at opens) (outside_of after closes) again) where
  answer_told : (a : Answer) → WritesText (text_of a) (status_of a) opens closes again → Took (text_of a) opens.held closes.held × (again ≡ status_of a)
  answer_told a (Whole same took faults) = (took, same)
  answer_told a (Failed same took rose) = absurd (well.output rose)
  answer_told a (NoMemory same took faults) = absurd (well.memory same)

  module _ (code : Code) (s : SetupView) (entries : List Entry) (count : ℕ) (run : Walk) (st : State Told) (first : walk_of code s (take count entries) (start_state code s) ≡ Some st) where
    rest_written : (o : Outcome) → o ≡ answers (told_from code s (drop count entries) st run) → IsPutAndTold at after opens closes again well o → WritesRest code s entries count run at after opens closes again
    rest_written o e h =
        let told = subst (λ p. IsPutAndTold at after opens closes again well p) e h in
        let written = answer_told (told_from code s (drop count entries) st run) told.1 in
        record { state = st; first = first; bytes = written.0; files = told.0; ends = written.1 ∙ rest_status code s (drop count entries) st run }

pub resume_repeats : RestRepeats → ResumeRepeats
resume_repeats law source log name count files made later old new at after first last opens closes again run told put_ends news replay lates kept ends well =
    let view = replay.accepted.followed in
    let code = replay.code.weak in
    let put = ended_zero old new first last (Some (Checkpoint source log count name)) put_ends in
    let is : IsOutcomeOf old.work new.work (Some files) old.left (Checkpoint source log count name) put.0 = subst (λ f. IsOutcomeOf old.work new.work f old.left (Checkpoint source log count name) put.0) told put.1.is in
    let takes = taken_of source log name count files made later run replay old.left old.work new.work put.0 is in
    let file = put_by name takes.found (put.2.1 ∙ ap (λ (o : Outcome). status_of o.answer) takes.told) in
    let puts : put.0.puts ≡ record { name = name; content = file.0 } ∷ [] = ap (λ (o : Outcome). o.puts) takes.told ∙ file.1 in
    let here : Some made ≡ option_map (with_puts (record { name = name; content = file.0 } ∷ [])) (Some files) = sym news ∙ put.2.0 ∙ ap (λ p. option_map (with_puts p) old.files) puts ∙ ap (option_map (with_puts (record { name = name; content = file.0 } ∷ []))) told in
    let same : file.0 ≡ kept.bytes = same_Some file.0 kept.bytes (sym (there name file.0 files made here) ∙ kept.put) in
    let went = told_well at after opens closes again well (Some (Resume source log name)) ends in
    let on : IsOutcomeOf at.work after.work (Some later) at.left (Resume source log name) went.0 = subst (λ f. IsOutcomeOf at.work after.work f at.left (Resume source log name) went.0) lates went.1.is in
    let goes = gone_of source log name count files made later run replay at.left kept at.work after.work went.0 on in
    let limits : IsWithinLimits view.setup = log_limits replay.accepted.log.0 view replay.accepted.log.2 in
    let rest = law replay.code view.setup view.entries count name kept.bytes no_reads run put.0 went.0 replay.weakened.is limits takes (puts ∙ ap (λ b. record { name = name; content = b } ∷ []) same) replay.alone goes in
    rest_written at after opens closes again well code view.setup view.entries count run rest.0 rest.1 went.0 rest.2 went.2
