-- The log of a recording repeats it.
use Rattle.std.proofs.Common.{◌≡◌, ◌≤◌, ◌<◌, refl, sym, ◌∙◌, ap, subst, ℕ, true, List, [], ◌∷◌, ◌++◌, length, Option, Some, Ok}
use Rattle.std.specs.List.{AllByRecursion}
use Rattle.command_line.specs.Answers.{status_of, text_of}
use Rattle.command_line.specs.Endings.{Sight, Writes as WritesText}
use Rattle.command_line.specs.Endings.Writes.{Whole, Failed, NoMemory}
use Rattle.command_line.specs.Jobs.{Asked, RecordAsked}
use Rattle.command_line.specs.Jobs.Asked.{Replay}
use Rattle.command_line.specs.declared.answer.Part.TheVariants as part
use Rattle.core_run.specs.Walks.{WalkIs}
use Rattle.core_run.specs.declared.outcome.Walk.{Walk}
use Rattle.job_outcomes.specs.Endings.{Finishes, shelf_of}
use Rattle.job_outcomes.specs.Endings.Ends.{Found, ShelfFails, InputFails, CrewFails, WantsMemory}
use Rattle.job_outcomes.specs.Endings.Finishes.{Tells, PutFails, LacksMemory}
use Rattle.job_outcomes.specs.Outcomes.{following}
use Rattle.job_outcomes.specs.Puts.{ArePut}
use Rattle.job_outcomes.specs.Steps.{IsFile}
use Rattle.job_outcomes.specs.declared.outcome.Outcome.{Outcome}
use Rattle.job_profiles.specs.Profiles.{named}
use Rattle.job_runs.specs.Recordings.{log_of}
use Rattle.job_runs.specs.Works.{Work}
use Rattle.lock_sound.specs.Weakened.{Analysed}
use Rattle.order_log.specs.Log.{IsLog, KeepsLimits, LogView}
use Rattle.order_log.specs.Text.{has_word, log_text}
use Rattle.order_log.specs.declared.version.Version.TheVariants as version
use Rattle.profiles.specs.declared.profile.Profile.TheVariants as profile
use Rattle.rr_base.specs.Files.{Files}
use Rattle.sync_objects.specs.declared.entry.Entry.{Entry}
use Rattle.walk_answers.proofs.OneWalk.{one_walk}
use Rattle.walk_answers.specs.Walking.{formula_of, outcome_of, put_of}
use Rattle.job_laws.specs.Causes.{WentWell}
use Rattle.job_laws.specs.Headline.{Recorded, Writes}
use Rattle.job_laws.specs.Jobs.{IsDone, IsOutcome, IsOutcomeOf}
use Rattle.job_laws.specs.Moments.{EndsFor, Moment, outside_of}
use Rattle.job_laws.specs.Readings.{IsAccepted, IsLogFile, with_log}
use Rattle.job_laws.specs.Replays.{Replays}
use Rattle.job_laws.specs.Repeats.{AreKept, ReplayRepeats}
use Rattle.job_laws.proofs.Unique.{found_once, reads_at}

-- ---- the log is read back

all_words : (es : List Entry) → AllByRecursion (λ (e : Entry). has_word version.Two e.op ≡ true) es
all_words [] = tt
all_words (e ∷ es) = (refl, all_words es)

-- the file of this log
log_file : (later : Files) (name : List ℕ) (v : LogView) → later name ≡ Some (log_text v) → length (log_text v) ≤ 536870912 → IsLog v → KeepsLimits v → IsLogFile (Some later) name (Ok v)
log_file later name v held fits log limits =
    (Ok (log_text v), record { content = log_text v; held = held; within = (refl, fits) }, (log, limits, (version.Two, all_words v.entries, refl)))

-- ---- a call that went well has told its outcome

module _ (at after : Moment) (opens closes : Sight) (again : ℕ) (well : WentWell (outside_of at opens) (outside_of after closes) again) where
  -- an outcome was put and told
  abbrev pub IsPutAndTold : Outcome → Type 0
  IsPutAndTold o = ArePut o.puts at.files after.files × WritesText (text_of o.answer) (status_of o.answer) opens closes again

  finished_well : (o : Outcome) → Finishes o (shelf_of (outside_of at opens)) (shelf_of (outside_of after closes)) opens closes again → IsPutAndTold o
  finished_well o (Tells puts faults w) = (puts, w)
  finished_well o (PutFails puts rose w) = absurd (well.shelf rose)
  finished_well o (LacksMemory e same puts faults) = absurd (well.memory e)

  abbrev pub IsTold : Option Asked → Type 0
  IsTold job = (o : Outcome) × IsOutcome at.work after.work at.files at.left job o × IsPutAndTold o

  pub told_well : (job : Option Asked) → EndsFor job at after opens closes again → IsTold job
  told_well job (Found o h only f) = (o, h, finished_well o f)
  told_well job (ShelfFails uses puts before files rose only w) = absurd (well.shelf rose)
  told_well job (InputFails reads files rose shelf crew w) = absurd (well.input rose)
  told_well job (CrewFails runs puts before files rose shelf input w) = absurd (well.crew rose)
  told_well job (WantsMemory e puts before files counts out) = absurd (well.memory e)

  -- .. of this walk
  walk_written : (reads : Option (List ℕ)) (walk : Walk) (o : Outcome) → o ≡ outcome_of [] reads walk → IsPutAndTold o → Writes [] reads walk at after opens closes again
  walk_written reads walk o e h = by (subst IsPutAndTold e h)
    where
      written : ArePut (outcome_of [] reads walk).puts at.files after.files → WritesText (text_of (outcome_of [] reads walk).answer) (status_of (outcome_of [] reads walk).answer) opens closes again → Writes [] reads walk at after opens closes again
      written puts (Whole same took faults) = record { bytes = took; files = puts; ends = same }
      written puts (Failed same took rose) = absurd (well.output rose)
      written puts (NoMemory same took faults) = absurd (well.memory same)

      by : IsPutAndTold (outcome_of [] reads walk) → Writes [] reads walk at after opens closes again
      by told = written told.0 told.1

-- ---- the replay

module _ (r : RecordAsked) (files later : Files) (old new : Moment) (first last : Sight) (status : ℕ) (told : old.files ≡ Some files) (recorded : Recorded r old new first last status) (bytes : AllByRecursion (λ byte. byte < 256) recorded.accepted.read) where
  -- the log that it put
  abbrev log : LogView
  log = log_of r (named recorded.accepted.given) recorded.accepted.read recorded.entries

  module _ (left : Option (List ℕ)) (kept : AreKept r (log_text log) files later) where
    source_held : IsFile (Some later) 1048576 part.Source r.source (Ok recorded.accepted.text)
    source_held =
        let file = subst (λ f. IsFile f 1048576 part.Source r.source (Ok recorded.accepted.text)) told recorded.accepted.source in
        record { content = file.content; held = kept.source ∙ file.held; within = file.within }

    -- both files are accepted
    accepted : IsAccepted (Some later) left (with_log r.source r.log)
    accepted =
        let is = recorded.log bytes in
        record {
          text = recorded.accepted.text;
          source = source_held;
          given = profile.All;
          profile = refl;
          followed = log;
          log = log_file later r.log log kept.log_held kept.fits is.0 is.1;
          held = [];
          checkpoint = refl;
          os = recorded.accepted.os;
          tree = recorded.accepted.tree;
          read = [];
          input = refl;
        }

    replayed : (a b : Work) (o : Outcome) → Replays a b log r.reads recorded.accepted.os o → o ≡ outcome_of [] r.reads recorded.walk
    replayed a b o h =
        let same : h.found ≡ recorded.code = found_once recorded.accepted.os log.profile h.found recorded.code h.is recorded.weakened in
        let walks : WalkIs recorded.code.weak log.setup log.entries (formula_of r.reads) h.walk = subst (λ (w : Analysed). WalkIs w.weak log.setup log.entries (formula_of r.reads) h.walk) same h.walks in
        let one = one_walk recorded.code.weak log.setup log.entries (formula_of r.reads) h.walk recorded.walk walks recorded.alone in
        h.told ∙ (λ i. record { puts = [] ++ put_of r.reads (one.1 i); answer = one.0 i })

    -- so it comes to the walk that was recorded
    outcome : (a b : Work) (o : Outcome) → IsOutcomeOf a b (Some later) left (Replay r.source r.log r.reads) o → o ≡ outcome_of [] r.reads recorded.walk
    unfolding accepted
    outcome a b o h =
        let done = reads_at later (with_log r.source r.log) left (λ x y f g. f ∙ sym g) (IsDone a b (Replay r.source r.log r.reads)) h.rest accepted h.comes in
        h.told ∙ ap (following []) (replayed a b h.rest done)

pub replay_repeats : ReplayRepeats
replay_repeats r files later old new at after first last opens closes status again told recorded bytes at_files kept ends well =
    let job = Replay r.source r.log r.reads in
    let it = told_well at after opens closes again well (Some job) ends in
    let is : IsOutcomeOf at.work after.work (Some later) at.left job it.0 = subst (λ f. IsOutcomeOf at.work after.work f at.left job it.0) at_files it.1.is in
    walk_written at after opens closes again well r.reads recorded.walk it.0 (outcome r files later old new first last status told recorded bytes at.left kept at.work after.work it.0 is) it.2
