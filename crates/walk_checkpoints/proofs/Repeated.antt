-- The rest from a checkpoint repeats the whole walk.
use Rattle.std.proofs.Common.{◌≡◌, ℕ, List, [], ◌∷◌, length, Result, Ok, Err, refl, sym, ◌∙◌, ap, subst}
use Rattle.std.specs.Prelude.{drop}
use Rattle.checkpoint.specs.Going.{LacksNone, no_reads}
use Rattle.checkpoint.specs.Resuming.{IsRest, ResumedIs}
use Rattle.checkpoint.specs.declared.outcome.Resumed.{Resumed}
use Rattle.checkpoint.specs.declared.outcome.Resumed.TheVariants as resumed
use Rattle.checkpoint.specs.declared.outcome.Taken.{Taken}
use Rattle.checkpoint.specs.declared.outcome.Taken.TheVariants as taken
use Rattle.command_line.specs.declared.answer.Answer.{Answer}
use Rattle.core_run.specs.Machine.{Told}
use Rattle.core_run.specs.Walks.{WalkFrom}
use Rattle.core_run.specs.declared.outcome.Walk.{Walk}
use Rattle.core_run.specs.declared.outcome.Walk.TheVariants as walk
use Rattle.flow_code.specs.declared.code.Code.{Code}
use Rattle.job_outcomes.specs.Outcomes.{answers}
use Rattle.job_outcomes.specs.Puts.{Put}
use Rattle.job_outcomes.specs.Steps.{Then}
use Rattle.job_outcomes.specs.declared.outcome.Outcome.{Outcome}
use Rattle.run_theory.specs.Steps.{State}
use Rattle.snapshot_reader.specs.Reading.{ReadsBack}
use Rattle.snapshots.specs.Snapshots.{resumed_state, snapshot_of}
use Rattle.snapshots.specs.Text.{snapshot_text}
use Rattle.snapshots.specs.declared.snapshot.Snapshot.{Snapshot}
use Rattle.sync_objects.specs.Setup.{SetupView}
use Rattle.sync_objects.specs.declared.entry.Entry.{Entry}
use Rattle.walk_answers.specs.Walking.{answer_of}
use Rattle.walk_checkpoints.specs.Repeats.{told_from}
use Rattle.walk_checkpoints.specs.Telling.{GoesOn, IsCheckpointIn, IsReadBack, WalksRest, rest_answer, taken_outcome}

module _ (code : Code) (s : SetupView) (es : List Entry) (k : ℕ) (st : State Told) where
  -- the walk of the rest is told so
  rest_is : (whole w : Walk) → IsRest code s st (drop k es) whole w → answer_of w ≡ told_from code s (drop k es) st whole
  rest_is (walk.Done out reads ends) w h = ap answer_of h.2
  rest_is (walk.Trapped kind thread line out reads ends) w h = ap answer_of h.2
  rest_is (walk.Wrong at) w h = ap answer_of h

  module _ (whole : Walk)
      (rests : (rest : Walk) → WalkFrom code s (resumed_state code s (snapshot_of code s k st)) k (drop k es) no_reads rest → IsRest code s st (drop k es) whole rest)
      (cells : LacksNone code s (resumed_state code s (snapshot_of code s k st)) (drop k es)) where
    resumed_is : (rest : Resumed) → ResumedIs code s (snapshot_of code s k st) es rest → rest_answer rest ≡ told_from code s (drop k es) st whole
    resumed_is (resumed.Walked w) h = rest_is whole w (rests w h.0)
    resumed_is (resumed.BadCell t) h = absurd (cells t h)

    walks : (o : Outcome) → WalksRest code s es (snapshot_of code s k st) o → o ≡ answers (told_from code s (drop k es) st whole)
    walks o h = h.told ∙ ap answers (resumed_is h.rest h.walks)

    module _ (x : Snapshot) (same : x ≡ snapshot_of code s k st) (read : IsReadBack code s es (taken.State x)) (back : ReadsBack) (o : Outcome) where
      by_step : (r : Result Snapshot Answer) → IsCheckpointIn code s es (snapshot_text x) r → Then (WalksRest code s es) r o → o ≡ answers (told_from code s (drop k es) st whole)
      by_step (Ok y) is next =
          let e = back code s (length es) x (Ok y) read.0 is in
          let here : y ≡ x = cc e in
          walks o (subst (λ (z : Snapshot). WalksRest code s es z o) (here ∙ same) next)
      by_step (Err b) is next = let e = back code s (length es) x (Err is.0) read.0 is.1 in absurd (cc e)

      pub told : GoesOn code s es (snapshot_text x) o → o ≡ answers (told_from code s (drop k es) st whole)
      told goes = by_step goes.step goes.is goes.next

-- what the first of these files holds
abbrev content_of : List Put → List ℕ
content_of [] = []
content_of (p ∷ ps) = p.content

-- a file is put where a state was taken, and it is its text
pub put_of : (name bytes : List ℕ) (found : Taken) → (taken_outcome name found).puts ≡ record { name = name; content = bytes } ∷ [] → (x : Snapshot) × (found ≡ taken.State x) × (bytes ≡ snapshot_text x)
put_of name bytes (taken.State x) e = (x, refl, sym (ap content_of e))
put_of name bytes (taken.Wrong at) e = absurd (cc e)
