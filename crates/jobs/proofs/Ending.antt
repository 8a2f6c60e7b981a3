-- How the call of a job ends.
use Rattle.std.proofs.Common.{◌≡◌, refl, sym, ap, subst, ◌∙◌, ℕ, List, [], ◌∷◌, Option, Some, None, Err, arith}
use Rattle.std.specs.Prelude.{option_map}
use Rattle.command_line.specs.Answers.{status_of, text_of, read_fault, crew_fault}
use Rattle.command_line.specs.Endings.{Sight, Writes}
use Rattle.command_line.specs.Endings.Writes.{Whole, Failed, NoMemory}
use Rattle.command_line.specs.Jobs.{Asked, told}
use Rattle.command_line.specs.Jobs.Asked.{Make}
use Rattle.command_line.specs.declared.answer.Answer.{Answer}
use Rattle.command_line.specs.declared.answer.Answer.TheVariants as answer
use Rattle.command_line.specs.declared.job.Job.{Job}
use Rattle.job_outcomes.proofs.Endings.{comes_at_once, finished, no_puts, stopped}
use Rattle.job_outcomes.specs.Endings.{ComesTo, Ends, Finishes, IsFoundSo, MayStop, Outside, ShelfSight, TellsStop, shelf_of}
use Rattle.job_outcomes.specs.Endings.Ends.{WantsMemory}
use Rattle.job_outcomes.specs.Faults.{StopCounts}
use Rattle.job_outcomes.specs.Puts.{Put}
use Rattle.job_outcomes.specs.declared.outcome.Outcome.{Outcome}
use Rattle.job_outcomes.specs.declared.stop.Stop.{Stop}
use Rattle.job_outcomes.specs.declared.stop.Stop.TheVariants as stop
use Rattle.rr_base.specs.Files.{Files}
use Rattle.job_laws.specs.Asks.{AsksCrew, AsksInput}
use Rattle.job_laws.specs.Jobs.{IsOutcome, PutsBefore, UsesShelf}
use Rattle.job_laws.specs.Makings.{source_put}
use Rattle.job_laws.specs.Makings.IsPutInMaking.{Source}
use Rattle.job_laws.specs.Wants.{LacksFile}
use Rattle.job_runs.specs.Works.{Work}

-- files that a job may have put before memory runs out
puts_before : (old new : Work) (job : Option Asked) → (puts : List Put) × PutsBefore old new job stop.OutOfMemory puts
puts_before old new (Some (Make count name)) = (source_put count name ∷ [], Source refl (λ e. cc e))
puts_before old new _ = ([], refl)

-- memory ran out for the words, before anything was done
pub memory_ends : (a b : Work) (files : Option Files) (left : Option (List ℕ)) (job : Option Asked) (old new : Outside) (result : ℕ) → new.files ≡ old.files → new.counts ≡ old.counts → TellsStop stop.OutOfMemory old.out new.out result
    → Ends (IsOutcome a b files left job) (PutsBefore a b job) (UsesShelf job) (AsksInput files job) (AsksCrew files left job) old new result
memory_ends a b files left job old new result same counts tells =
    let before = puts_before a b job in
    WantsMemory tells.0 before.0 before.1 (record { made = []; rest = before.0; split = refl; files = no_puts old.files new.files same }) counts tells.1

module _ (a b : Work) (files : Option Files) (left : Option (List ℕ)) (found : Option Job) (asked : Option Asked) (old new : Outside) (result : ℕ) (is : option_map told found ≡ asked) where
  -- how the call of these words ends
  abbrev EndsFor : Option Asked → Type 0
  EndsFor job = Ends (IsOutcome a b files left job) (PutsBefore a b job) (UsesShelf job) (AsksInput files job) (AsksCrew files left job) old new result

  -- the job that was found is that of the words
  pub for_found : (job : Option Job) → found ≡ job → EndsFor (option_map told job) → EndsFor asked
  for_found job e h = subst EndsFor (sym (ap (option_map told) e) ∙ is) h

  pub usage_ends : found ≡ None → b ≡ a → new.files ≡ old.files → new.counts ≡ old.counts → Writes (text_of answer.Usage) (status_of answer.Usage) old.out new.out result → EndsFor asked
  usage_ends e idle same counts w =
      let usage = stop.Refused answer.Usage in
      let comes = comes_at_once (IsOutcome a b files left None) (PutsBefore a b None) old.files new.files (Err usage) (λ s. refl) (record { is = refl; idle = λ _. idle }) same in
      for_found None e (stopped (IsOutcome a b files left None) (PutsBefore a b None) (UsesShelf None) (AsksInput files None) (AsksCrew files left None) old new result usage comes counts tt w)

  pub found_ends : (job : Job) (o : Outcome) (between : ShelfSight) → found ≡ Some job → IsFoundSo (IsOutcome a b files left (Some (told job))) old.files between.files o → between.faults ≡ old.counts.shelf → new.counts.input ≡ old.counts.input → new.counts.crew ≡ old.counts.crew → Finishes o between (shelf_of new) old.out new.out result → EndsFor asked
  found_ends job o between e h faults input crew f = for_found (Some job) e (finished (IsOutcome a b files left (Some (told job))) (PutsBefore a b (Some (told job))) (UsesShelf (Some (told job))) (AsksInput files (Some (told job))) (AsksCrew files left (Some (told job))) old new result o between h faults input crew f)

  pub stopped_ends : (job : Job) (s : Stop) → found ≡ Some job → ComesTo (IsOutcome a b files left (Some (told job))) (PutsBefore a b (Some (told job))) old.files new.files (Err s) → StopCounts s old.counts new.counts → MayStop (UsesShelf (Some (told job))) (AsksInput files (Some (told job))) (AsksCrew files left (Some (told job))) s → TellsStop s old.out new.out result → EndsFor asked
  stopped_ends job s e h counts may tells = for_found (Some job) e (stopped (IsOutcome a b files left (Some (told job))) (PutsBefore a b (Some (told job))) (UsesShelf (Some (told job))) (AsksInput files (Some (told job))) (AsksCrew files left (Some (told job))) old new result s h counts may tells)

-- a shelf that failed for want of a file is told by 9, and no other stop is
module _ (files : Option Files) (old new : Sight) (result : ℕ) (nine : result ≡ 9) where
  not_nine : (text : List ℕ) (status : ℕ) → (status ≡ 9 → ⊥) → Writes text status old new result → ⊥
  not_nine text status other (Whole e took faults) = other (sym e ∙ nine)
  not_nine text status other (Failed e took rose) = omega (arith, e, nine)
  not_nine text status other (NoMemory e took faults) = omega (arith, e, nine)

  no_answer : (a : Answer) → status_of a ≡ 9 → ⊥
  no_answer (answer.Done out) e = omega (arith, e)
  no_answer answer.Usage e = omega (arith, e)
  no_answer (answer.SourceRefused number line column) e = omega (arith, e)
  no_answer (answer.Trapped out kind thread line) e = omega (arith, e)
  no_answer (answer.LogRefused number line) e = omega (arith, e)
  no_answer (answer.WrongEntry at) e = omega (arith, e)
  no_answer (answer.ProfileRefused number) e = omega (arith, e)
  no_answer (answer.TooLarge what) e = omega (arith, e)
  no_answer (answer.CheckpointRefused number place) e = omega (arith, e)

  lacks_by : (job : Asked) (s : Stop) → TellsStop s old new result → (s ≡ stop.ShelfFailed → LacksFile files (Some job)) → LacksFile files (Some job)
  lacks_by job (stop.Refused a) tells h = absurd (not_nine (text_of a) (status_of a) (no_answer a) tells)
  lacks_by job stop.ShelfFailed tells h = h refl
  lacks_by job stop.InputFailed tells h = absurd (not_nine read_fault 7 (λ e. omega (arith, e)) tells)
  lacks_by job stop.CrewFailed tells h = absurd (not_nine crew_fault 10 (λ e. omega (arith, e)) tells)
  lacks_by job stop.OutOfMemory tells h = absurd (omega (arith, tells.0, nine))

  pub found_lacks : (found : Option Job) (job : Job) (s : Stop) → found ≡ Some job → TellsStop s old new result → (s ≡ stop.ShelfFailed → LacksFile files (Some (told job))) → LacksFile files (option_map told found)
  found_lacks found job s e tells h = subst (λ f. LacksFile files (option_map told f)) (sym e) (lacks_by (told job) s tells h)
