-- A source, a log and a checkpoint by their names, and what is told of them.
use Rattle.std.proofs.Common.{◌≡◌, inl, inr, refl, sym, subst, List, ℕ, Option, Result, Ok, Err}
use Rattle.std.specs.Prelude.{IfOk, MatchResult}
use Rattle.std.specs.declared.alloc.AllocError.{AllocError}
use Rattle.command_line.specs.declared.answer.Answer.{Answer}
use Rattle.command_line.specs.declared.answer.Part.TheVariants as part
use Rattle.c_tree.specs.Tree.{Outer}
use Rattle.job_outcomes.specs.Outcomes.{answers}
use Rattle.job_outcomes.specs.Steps.{Comes, Finds, Gives, IsFile, Lacks}
use Rattle.job_outcomes.specs.declared.outcome.Outcome.{Outcome}
use Rattle.job_outcomes.specs.declared.stop.Stop.{Stop}
use Rattle.job_outcomes.specs.declared.stop.Stop.TheVariants as stop
use Rattle.lock_sound.specs.Weakened.{Analysed}
use Rattle.order_log.specs.Log.{LogView}
use Rattle.rr_base.specs.Files.{Files}
use Rattle.job_laws.specs.Readings.{AreRead, IsCheckpointFile, IsFollowedFrom, IsLogFile, ReadsCheckpoint}
use Rattle.job_laws.specs.Sources.{CompilesFor, IsFound, IsTree, WalksAsSource}
use Rattle.job_laws.specs.Wants.{LacksCheckpoint, LacksEither}
use Rattle.job_laws.proofs.InOrder.{comes_map, steps}

module _ (files : Option Files) (source log checkpoint : List ℕ) where
  abbrev IsText : Result (List ℕ) Answer → Type 0
  IsText = IsFile files 1048576 part.Source source

  abbrev IsView : Result LogView Answer → Type 0
  IsView = IsLogFile files log

  abbrev IsHeld : Result (List ℕ) Answer → Type 0
  IsHeld = IsCheckpointFile files checkpoint

  -- ---- what is missing

  pub lacks_read : LacksEither files source (Lacks files log) → LacksEither files source (LacksCheckpoint files log checkpoint)
  lacks_read (inl h) = inl h
  lacks_read (inr h) = inr (h.0, h.1, inl h.2)

  -- ---- what is refused

  pub from_read_stops : (s : Stop) → Finds (AreRead files source log) (Err s) → Finds (IsFollowedFrom files source log checkpoint) (Err s)
  from_read_stops (stop.Refused a) (inl h) = record { step = Err a; is = h; next = refl }
  from_read_stops (stop.Refused a) (inr h) = record { step = Ok h.0; is = h.1; next = record { step = Err a; is = h.2; next = refl } }
  from_read_stops stop.ShelfFailed h = tt
  from_read_stops stop.InputFailed h = tt
  from_read_stops stop.CrewFailed h = tt
  from_read_stops stop.OutOfMemory h = tt

  module _ (text : List ℕ) (t : IsFile files 1048576 part.Source source (Ok text)) (view : LogView) (l : IsLogFile files log (Ok view)) where
    pub lacks_held : Lacks files checkpoint → LacksEither files source (LacksCheckpoint files log checkpoint)
    lacks_held h = inr (text, t, inr (view, l, h))

    pub held_stops : (s : Stop) → Finds (IsCheckpointFile files checkpoint) (Err s) → Finds (IsFollowedFrom files source log checkpoint) (Err s)
    held_stops (stop.Refused a) h = record { step = Ok text; is = t; next = record { step = Ok view; is = l; next = record { step = Err a; is = h; next = refl } } }
    held_stops stop.ShelfFailed h = tt
    held_stops stop.InputFailed h = tt
    held_stops stop.CrewFailed h = tt
    held_stops stop.OutOfMemory h = tt

    pub from_code_stops : (held : List ℕ) → IsCheckpointFile files checkpoint (Ok held) → (s : Stop) → CompilesFor text view (Err s) → Finds (IsFollowedFrom files source log checkpoint) (Err s)
    from_code_stops held c (stop.Refused a) h = record { step = Ok text; is = t; next = record { step = Ok view; is = l; next = record { step = Ok held; is = c; next = record { step = Err a; is = h; next = refl } } } }
    from_code_stops held c stop.ShelfFailed h = tt
    from_code_stops held c stop.InputFailed h = tt
    from_code_stops held c stop.CrewFailed h = tt
    from_code_stops held c stop.OutOfMemory h = tt

  -- ---- what is told

  module _ (Next : LogView → List ℕ → List Outer → Outcome → Type 0) where
    pub from_stops : (s : Stop) → Finds (IsFollowedFrom files source log checkpoint) (Err s) → Gives (ReadsCheckpoint files source log checkpoint Next) (Err s)
    from_stops (stop.Refused a) h =
        comes_map IsText (λ text. Comes IsView (λ view. Comes IsHeld (λ held. Comes (IsTree text) (λ os o. ⊥)))) (λ text. Comes IsView (λ view. Comes IsHeld (λ held. Comes (IsTree text) (Next view held)))) (answers a)
        (λ text. comes_map IsView (λ view. Comes IsHeld (λ held. Comes (IsTree text) (λ os o. ⊥))) (λ view. Comes IsHeld (λ held. Comes (IsTree text) (Next view held))) (answers a)
        (λ view. comes_map IsHeld (λ held. Comes (IsTree text) (λ os o. ⊥)) (λ held. Comes (IsTree text) (Next view held)) (answers a)
        (λ held. comes_map (IsTree text) (λ os o. ⊥) (Next view held) (answers a) (λ os none. absurd none)))) h
    from_stops stop.ShelfFailed h = tt
    from_stops stop.InputFailed h = tt
    from_stops stop.CrewFailed h = tt
    from_stops stop.OutOfMemory h = tt

    module _ (w : Analysed) (view : LogView) (held : List ℕ) (Tells : Outcome → Type 0) (by : IsFollowedFrom files source log checkpoint (Ok (w, view, held))) (next : (os : List Outer) (o : Outcome) → IsFound os view.profile w → WalksAsSource os w.weak view.setup view.entries → Tells o → Next view held os o) where
      gives : (o : Outcome) → Tells o → ReadsCheckpoint files source log checkpoint Next o
      gives o tells =
          steps IsText (λ text. Comes IsView (λ v. Comes IsHeld (λ x. Comes (IsTree text) (Next v x)))) o by.0 by.1
          (steps IsView (λ v. Comes IsHeld (λ x. Comes (IsTree by.0) (Next v x))) o view by.2
          (steps IsHeld (λ x. Comes (IsTree by.0) (Next view x)) o held by.3
          (steps (IsTree by.0) (Next view held) o by.4.os by.4.tree (next by.4.os o by.4.is by.4.walks tells))))

      -- what is told, and memory may be wanting
      pub from_gives : (f : Result Outcome AllocError) (r : Result Outcome Stop) → IfOk f Tells → MatchResult r (λ o. f ≡ Ok o) (λ end. end ≡ stop.OutOfMemory) → Gives (ReadsCheckpoint files source log checkpoint Next) r
      from_gives f (Ok o) h is = gives o (subst (λ g. IfOk g Tells) is h)
      from_gives f (Err s) h is = subst (λ y. Gives (ReadsCheckpoint files source log checkpoint Next) (Err y)) (sym is) tt
