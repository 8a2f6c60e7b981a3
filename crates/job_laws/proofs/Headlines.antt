-- A call that ends with the status of a run has written that run.
use Rattle.std.proofs.Common.{◌≡◌, ◌⊎◌, inl, inr, refl, sym, ap, subst, ◌∙◌, ℕ, List, [], Option, Some, arith}
use Rattle.command_line.specs.Answers.{crew_fault, read_fault, shelf_fault, status_of, text_of}
use Rattle.command_line.specs.Endings.{Sight, Writes as WritesText}
use Rattle.command_line.specs.Endings.Writes.{Whole, Failed, NoMemory}
use Rattle.command_line.specs.Jobs.{Asked, RecordAsked}
use Rattle.command_line.specs.Jobs.Asked.{Record, Replay}
use Rattle.command_line.specs.declared.answer.Answer.{Answer}
use Rattle.command_line.specs.declared.answer.Answer.TheVariants as answer
use Rattle.core_run.specs.declared.outcome.Walk.{Walk}
use Rattle.job_outcomes.specs.Endings.{Finishes, shelf_of}
use Rattle.job_outcomes.specs.Endings.Ends.{Found, ShelfFails, InputFails, CrewFails, WantsMemory}
use Rattle.job_outcomes.specs.Endings.Finishes.{Tells, PutFails, LacksMemory}
use Rattle.job_outcomes.specs.Outcomes.{following}
use Rattle.job_outcomes.specs.Puts.{ArePut, Put}
use Rattle.job_outcomes.specs.declared.outcome.Outcome.{Outcome}
use Rattle.job_runs.specs.Works.{IsOfRun}
use Rattle.rr_base.specs.Streams.{Took}
use Rattle.walk_answers.specs.Walking.{outcome_of}
use Rattle.job_laws.specs.Headline.{Headline, IsStatusOfRun, Recorded, Replayed, Writes}
use Rattle.job_laws.specs.Jobs.{IsDone, IsOutcome, IsOutcomeOf}
use Rattle.job_laws.specs.Moments.{EndsFor, Moment, outside_of}
use Rattle.job_laws.specs.Readings.{Refuses, reading_of}
use Rattle.job_laws.proofs.Refused.{IsNext, answer_is, either_read, refuses_no_run}

-- no fault has such a status
no_fault : (status n : ℕ) → IsStatusOfRun status → status ≡ n → (n ≡ 0 → ⊥) → (n ≡ 3 → ⊥) → (n ≡ 5 → ⊥) → ⊥
no_fault status n (inl e) f zero three five = zero (sym f ∙ e)
no_fault status n (inr (inl e)) f zero three five = three (sym f ∙ e)
no_fault status n (inr (inr e)) f zero three five = five (sym f ∙ e)

answer_of_run : (a : Answer) → IsStatusOfRun (status_of a) → IsOfRun a
answer_of_run (answer.Done out) h = tt
answer_of_run (answer.Trapped out kind thread line) h = tt
answer_of_run (answer.WrongEntry at) h = tt
answer_of_run answer.Usage h = absurd (no_fault 1 1 h refl (λ e. omega (arith, e)) (λ e. omega (arith, e)) (λ e. omega (arith, e)))
answer_of_run (answer.SourceRefused number line column) h = absurd (no_fault 2 2 h refl (λ e. omega (arith, e)) (λ e. omega (arith, e)) (λ e. omega (arith, e)))
answer_of_run (answer.LogRefused number line) h = absurd (no_fault 4 4 h refl (λ e. omega (arith, e)) (λ e. omega (arith, e)) (λ e. omega (arith, e)))
answer_of_run (answer.ProfileRefused number) h = absurd (no_fault 6 6 h refl (λ e. omega (arith, e)) (λ e. omega (arith, e)) (λ e. omega (arith, e)))
answer_of_run (answer.CheckpointRefused number place) h = absurd (no_fault 13 13 h refl (λ e. omega (arith, e)) (λ e. omega (arith, e)) (λ e. omega (arith, e)))
answer_of_run (answer.TooLarge what) h = absurd (no_fault 11 11 h refl (λ e. omega (arith, e)) (λ e. omega (arith, e)) (λ e. omega (arith, e)))

module _ (old new : Moment) (out_old out_new : Sight) (status : ℕ) (run : IsStatusOfRun status) where
  -- a text that is told of a fault
  no_fault_told : (text : List ℕ) (n : ℕ) → (n ≡ 0 → ⊥) → (n ≡ 3 → ⊥) → (n ≡ 5 → ⊥) → WritesText text n out_old out_new status → ⊥
  no_fault_told text n zero three five (Whole e took faults) = no_fault status n run e zero three five
  no_fault_told text n zero three five (Failed e took rose) = no_fault status 8 run e (λ f. omega (arith, f)) (λ f. omega (arith, f)) (λ f. omega (arith, f))
  no_fault_told text n zero three five (NoMemory e took faults) = no_fault status 12 run e (λ f. omega (arith, f)) (λ f. omega (arith, f)) (λ f. omega (arith, f))

  no_shelf_fault : WritesText shelf_fault 9 out_old out_new status → ⊥
  no_shelf_fault w = no_fault_told shelf_fault 9 (λ f. omega (arith, f)) (λ f. omega (arith, f)) (λ f. omega (arith, f)) w

  no_memory : status ≡ 12 → ⊥
  no_memory e = no_fault status 12 run e (λ f. omega (arith, f)) (λ f. omega (arith, f)) (λ f. omega (arith, f))

  -- an outcome that was put and told
  pub record IsWritten (o : Outcome) : Type 0 where
    pub bytes : Took (text_of o.answer) out_old.held out_new.held
    pub files : ArePut o.puts old.files new.files
    pub ends : status ≡ status_of o.answer

  whole : (o : Outcome) → ArePut o.puts old.files new.files → WritesText (text_of o.answer) (status_of o.answer) out_old out_new status → IsWritten o
  whole o puts (Whole e took faults) = record { bytes = took; files = puts; ends = e }
  whole o puts (Failed e took rose) = absurd (no_fault status 8 run e (λ f. omega (arith, f)) (λ f. omega (arith, f)) (λ f. omega (arith, f)))
  whole o puts (NoMemory e took faults) = absurd (no_memory e)

  finished_whole : (o : Outcome) → Finishes o (shelf_of (outside_of old out_old)) (shelf_of (outside_of new out_new)) out_old out_new status → IsWritten o
  finished_whole o (Tells puts faults w) = whole o puts w
  finished_whole o (PutFails puts rose w) = absurd (no_shelf_fault w)
  finished_whole o (LacksMemory e same puts faults) = absurd (no_memory e)

  abbrev IsTold : Option Asked → Type 0
  IsTold job = (o : Outcome) × IsOutcome old.work new.work old.files old.left job o × IsWritten o

  is_told : (job : Option Asked) → EndsFor job old new out_old out_new status → IsTold job
  is_told job (Found o h only f) = (o, h, finished_whole o f)
  is_told job (ShelfFails uses puts before files rose only w) = absurd (no_shelf_fault w)
  is_told job (InputFails reads files rose shelf crew w) = absurd (no_fault_told read_fault 7 (λ f. omega (arith, f)) (λ f. omega (arith, f)) (λ f. omega (arith, f)) w)
  is_told job (CrewFails runs puts before files rose shelf input w) = absurd (no_fault_told crew_fault 10 (λ f. omega (arith, f)) (λ f. omega (arith, f)) (λ f. omega (arith, f)) w)
  is_told job (WantsMemory e puts before files counts out) = absurd (no_memory e)

  -- what was told is of what was accepted
  accepted : (job : Asked) (o : Outcome) (h : IsOutcomeOf old.work new.work old.files old.left job o) → IsWritten o → IsNext old.files old.left (reading_of job) (IsDone old.work new.work job) h.rest
  accepted job o h w = by (either_read old.files old.left (reading_of job) (IsDone old.work new.work job) h.rest h.comes)
    where
      of_run : IsOfRun h.rest.answer
      of_run = subst IsOfRun (answer_is o _ h.told) (answer_of_run o.answer (subst IsStatusOfRun w.ends run))

      by : Refuses old.files old.left (reading_of job) h.rest.answer ⊎ IsNext old.files old.left (reading_of job) (IsDone old.work new.work job) h.rest → IsNext old.files old.left (reading_of job) (IsDone old.work new.work job) h.rest
      by (inl refused) = absurd (refuses_no_run old.files old.left (reading_of job) h.rest.answer refused of_run)
      by (inr next) = next

  walk_written : (puts : List Put) (reads : Option (List ℕ)) (walk : Walk) (o : Outcome) → o ≡ outcome_of puts reads walk → IsWritten o → Writes puts reads walk old new out_old out_new status
  walk_written puts reads walk o e h = let w = subst IsWritten e h in record { bytes = w.bytes; files = w.files; ends = w.ends }

  recorded : (r : RecordAsked) → IsTold (Some (Record r)) → Recorded r old new out_old out_new status
  recorded r told =
      let h = told.1.is in
      let next = accepted (Record r) told.0 h told.2 in
      let done = next.1 in
      record {
        accepted = next.0;
        code = done.found;
        weakened = done.is;
        entries = done.entries;
        walk = done.walk;
        alone = done.records.walk;
        written = walk_written _ r.reads done.walk told.0 (h.told ∙ ap (following []) done.told) told.2;
        is_run = done.source;
        log = done.log;
        crew = done.crew;
      }

  replayed : (source log : List ℕ) (reads : Option (List ℕ)) → IsTold (Some (Replay source log reads)) → Replayed source log reads old new out_old out_new status
  replayed source log reads told =
      let h = told.1.is in
      let next = accepted (Replay source log reads) told.0 h told.2 in
      let done = next.1 in
      record {
        accepted = next.0;
        code = done.found;
        weakened = done.is;
        walk = done.walk;
        alone = done.walks;
        written = walk_written _ reads done.walk told.0 (h.told ∙ ap (following []) done.told) told.2;
        is_run = done.source;
        crew = done.crew;
      }

pub headline : (job : Option Asked) (old new : Moment) (out_old out_new : Sight) (status : ℕ) → EndsFor job old new out_old out_new status → Headline job old new out_old out_new status
headline job old new out_old out_new status ends = record {
  recorded = λ r e run. recorded old new out_old out_new status run r (subst (IsTold old new out_old out_new status run) e (is_told old new out_old out_new status run job ends));
  replayed = λ source log reads e run. replayed old new out_old out_new status run source log reads (subst (IsTold old new out_old out_new status run) e (is_told old new out_old out_new status run job ends));
}
