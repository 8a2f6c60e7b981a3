-- A source and a log by their names, and what is told of them.
use Rattle.std.proofs.Common.{◌≡◌, inl, inr, refl, sym, subst, List, ℕ, Option, Result, Ok, Err}
use Rattle.std.specs.Prelude.{IfOk, MatchResult}
use Rattle.std.specs.declared.alloc.AllocError.{AllocError}
use Rattle.command_line.specs.declared.answer.Part.TheVariants as part
use Rattle.c_tree.specs.Tree.{Outer}
use Rattle.job_outcomes.specs.Faults.{CrewStops, ShelfStops}
use Rattle.job_outcomes.specs.Outcomes.{answers}
use Rattle.job_outcomes.specs.Steps.{Comes, Finds, Gives, IsFile}
use Rattle.job_outcomes.specs.declared.outcome.Outcome.{Outcome}
use Rattle.job_outcomes.specs.declared.stop.Stop.{Stop}
use Rattle.job_outcomes.specs.declared.stop.Stop.TheVariants as stop
use Rattle.job_runs.specs.Logs.{IsLogIn}
use Rattle.lock_sound.specs.Weakened.{Analysed}
use Rattle.order_log.specs.Log.{LogView}
use Rattle.profiles.specs.declared.profile.Profile.{Profile}
use Rattle.rr_base.specs.Files.{Files}
use Rattle.job_laws.specs.Readings.{AreRead, IsFollowed, IsLogFile, ReadsLog}
use Rattle.job_laws.specs.Sources.{Compiles, CompilesFor, IsFound, IsTree, WalksAsSource}
use Rattle.jobs.proofs.Found.{same_compile}
use Rattle.job_laws.proofs.InOrder.{comes_map, steps}

-- ---- the code

pub code_for : (source slice : List ℕ) (log : LogView) (p : Profile) (r : Result Analysed Stop) → slice ≡ source → p ≡ log.profile → ((w : Analysed) (h : Compiles source log.profile (Ok w)) → WalksAsSource h.0 w.weak log.setup log.entries) → Compiles slice p r → CompilesFor source log r
code_for source slice log p (Ok w) e f walks h =
    let g : Compiles source log.profile (Ok w) = same_compile slice source p log.profile (Ok w) e f h in
    record { os = g.0; tree = g.1; is = g.2; walks = walks w g }
code_for source slice log p (Err s) e f walks h = same_compile slice source p log.profile (Err s) e f h

-- ---- the files

module _ (files : Option Files) (source log : List ℕ) where
  pub text_stops : (s : Stop) → Finds (IsFile files 1048576 part.Source source) (Err s) → Finds (AreRead files source log) (Err s)
  text_stops (stop.Refused a) h = inl h
  text_stops stop.ShelfFailed h = tt
  text_stops stop.InputFailed h = tt
  text_stops stop.CrewFailed h = tt
  text_stops stop.OutOfMemory h = tt

  module _ (text : List ℕ) (t : IsFile files 1048576 part.Source source (Ok text)) where
    pub bytes_stop : (s : Stop) → Finds (IsFile files 536870912 part.Log log) (Err s) → Finds (AreRead files source log) (Err s)
    bytes_stop (stop.Refused a) h = inr (text, t, (Err a, h, refl))
    bytes_stop stop.ShelfFailed h = tt
    bytes_stop stop.InputFailed h = tt
    bytes_stop stop.CrewFailed h = tt
    bytes_stop stop.OutOfMemory h = tt

    pub log_stops : (bytes : List ℕ) → IsFile files 536870912 part.Log log (Ok bytes) → (s : Stop) → Finds (IsLogIn bytes) (Err s) → Finds (AreRead files source log) (Err s)
    log_stops bytes b (stop.Refused a) h = inr (text, t, (Ok bytes, b, h))
    log_stops bytes b stop.ShelfFailed h = tt
    log_stops bytes b stop.InputFailed h = tt
    log_stops bytes b stop.CrewFailed h = tt
    log_stops bytes b stop.OutOfMemory h = tt

    pub code_stops : (view : LogView) → IsLogFile files log (Ok view) → (s : Stop) → CompilesFor text view (Err s) → Finds (IsFollowed files source log) (Err s)
    code_stops view l (stop.Refused a) h = record { step = Ok text; is = t; next = record { step = Ok view; is = l; next = record { step = Err a; is = h; next = refl } } }
    code_stops view l stop.ShelfFailed h = tt
    code_stops view l stop.InputFailed h = tt
    code_stops view l stop.CrewFailed h = tt
    code_stops view l stop.OutOfMemory h = tt

  pub read_stops : (s : Stop) → Finds (AreRead files source log) (Err s) → Finds (IsFollowed files source log) (Err s)
  read_stops (stop.Refused a) (inl h) = record { step = Err a; is = h; next = refl }
  read_stops (stop.Refused a) (inr h) = record { step = Ok h.0; is = h.1; next = record { step = Err a; is = h.2; next = refl } }
  read_stops stop.ShelfFailed h = tt
  read_stops stop.InputFailed h = tt
  read_stops stop.CrewFailed h = tt
  read_stops stop.OutOfMemory h = tt

  -- ---- what is told

  module _ (Next : LogView → List Outer → Outcome → Type 0) where
    pub followed_stops : (s : Stop) → Finds (IsFollowed files source log) (Err s) → Gives (ReadsLog files source log Next) (Err s)
    followed_stops (stop.Refused a) h =
        comes_map (IsFile files 1048576 part.Source source) (λ text. Comes (IsLogFile files log) (λ view. Comes (IsTree text) (λ os o. ⊥))) (λ text. Comes (IsLogFile files log) (λ view. Comes (IsTree text) (Next view))) (answers a)
        (λ text. comes_map (IsLogFile files log) (λ view. Comes (IsTree text) (λ os o. ⊥)) (λ view. Comes (IsTree text) (Next view)) (answers a)
        (λ view. comes_map (IsTree text) (λ os o. ⊥) (Next view) (answers a) (λ os none. absurd none))) h
    followed_stops stop.ShelfFailed h = tt
    followed_stops stop.InputFailed h = tt
    followed_stops stop.CrewFailed h = tt
    followed_stops stop.OutOfMemory h = tt

    module _ (w : Analysed) (view : LogView) (Tells : Outcome → Type 0) (by : IsFollowed files source log (Ok (w, view))) (next : (os : List Outer) (o : Outcome) → IsFound os view.profile w → WalksAsSource os w.weak view.setup view.entries → Tells o → Next view os o) where
      gives : (o : Outcome) → Tells o → ReadsLog files source log Next o
      gives o tells =
          steps (IsFile files 1048576 part.Source source) (λ text. Comes (IsLogFile files log) (λ v. Comes (IsTree text) (Next v))) o by.0 by.1
          (steps (IsLogFile files log) (λ v. Comes (IsTree by.0) (Next v)) o view by.2
          (steps (IsTree by.0) (Next view) o by.3.os by.3.tree (next by.3.os o by.3.is by.3.walks tells)))

      -- what is told, and memory may be wanting
      pub followed_gives : (f : Result Outcome AllocError) (r : Result Outcome Stop) → IfOk f Tells → MatchResult r (λ o. f ≡ Ok o) (λ end. end ≡ stop.OutOfMemory) → Gives (ReadsLog files source log Next) r
      followed_gives f (Ok o) h is = gives o (subst (λ g. IfOk g Tells) is h)
      followed_gives f (Err s) h is = subst (λ y. Gives (ReadsLog files source log Next) (Err y)) (sym is) tt

      -- .. of what a crew has run, which refuses nothing
      pub crew_gives : (r : Result Outcome Stop) (old new : ℕ) → IfOk r Tells → MatchResult r (λ _. new ≡ old) (λ end. CrewStops end old new) → Gives (ReadsLog files source log Next) r
      crew_gives (Ok o) old new h stops = gives o h
      crew_gives (Err (stop.Refused a)) old new h stops = absurd stops
      crew_gives (Err stop.ShelfFailed) old new h stops = tt
      crew_gives (Err stop.InputFailed) old new h stops = tt
      crew_gives (Err stop.CrewFailed) old new h stops = tt
      crew_gives (Err stop.OutOfMemory) old new h stops = tt

-- ---- faults

-- the shelf has had none where it was used no more, and only memory ran out
pub no_fault : (r : Result Outcome Stop) (found : Result Outcome AllocError) (old new : ℕ) → new ≡ old → MatchResult r (λ o. found ≡ Ok o) (λ end. end ≡ stop.OutOfMemory) → MatchResult r (λ _. new ≡ old) (λ end. ShelfStops end old new)
no_fault (Ok o) found old new e h = e
no_fault (Err end) found old new e h = subst (λ s. ShelfStops s old new) (sym h) e
