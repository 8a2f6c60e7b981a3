-- A thread's own step in the machine is the next event of its run, or an operation on a stripe.
use Rattle.std.proofs.Common.{◌≡◌, ℕ, ◌⊎◌, inl, inr, Bool, true, false, if◌then◌else◌, List, refl, sym, ap, subst, ◌∙◌, ℤ, pos}
use Rattle.std.specs.Prelude.{slice_index}
use Rattle.std.proofs.lemmas.Bool.{true≢false}
use Rattle.std.proofs.lemmas.Option.{same_Some, get_or_from_slice_get}
use Rattle.sync_objects.specs.Setup.{SetupView, IsWithinLimits}
use Rattle.sync_objects.specs.Names.{name_of}
use Rattle.sync_objects.specs.Advance.{advanced}
use Rattle.sync_objects.specs.declared.object.ObjId.{ObjId}
use Rattle.sync_objects.specs.declared.object.ObjId.TheVariants as object
use Rattle.sync_objects.specs.declared.operation.Op.{Op}
use Rattle.sync_objects.specs.declared.operation.Op.TheVariants as op
use Rattle.rr_base.specs.declared.trap.Trap.{Trap}
use Rattle.rr_base.specs.declared.trap.Trap.TheVariants as trap
use Rattle.flow_code.specs.declared.code.Code.{Code}
use Rattle.word_semantics.specs.declared.event.Due.{Due}
use Rattle.word_semantics.specs.declared.event.Due.TheVariants as due
use Rattle.word_semantics.specs.declared.event.Action.{Action}
use Rattle.word_semantics.specs.declared.event.Action.TheVariants as action
use Rattle.word_semantics.specs.Values.{number}
use Rattle.flow_code.specs.Threads.{Thread, line_of}
use Rattle.flow_code.specs.Next.{due_of, action_of, action_at, stepped, has_ended}
use Rattle.flow_code.specs.Settle.{IsRunnable}
use Rattle.flow_code.proofs.Asked.{own_action}
use Rattle.flow_code.proofs.Counts.{stepped_is}
use Rattle.flow_code.proofs.Settle.{action_is}
use Rattle.core_tree.specs.Core.{Program}
use Rattle.core_tree.specs.Runs.{Run, does, traps, ends, Event, done, trapped}
use Rattle.core_run.specs.Words.{cells_of, place_of}
use Rattle.thread_interpreter.specs.Pieces.{piece_next}
use Rattle.core_run.specs.Machine.{Told, accessed, access_of, marked, action_effect, machine}
use Rattle.run_theory.specs.Steps.{Leaves, outcome}
use Rattle.lowering_simulation.specs.RunEvents.{answer_in, answer_of, printed_at, event_of, is_stripe, is_of_stripe}
use Rattle.lowering_simulation.specs.SourceRuns.{Progress, goes, over, World, own, operated, acted, words_after, rest_after, is_last, cell_count, Allows, IsAllowed, Answers, ComesNext, IsFull}
use Rattle.lowering_simulation.proofs.Makings.{IsAtEvent, IsAtStripe, IsAt, event, stripe, full, IsProgress}
use Rattle.lowering_simulation.proofs.Outcomes.{Operated, operated_inv, loaded_inv, stored_inv, marked_inv}
use Rattle.lowering_simulation.proofs.Phases.{event_begins, event_ends}
use Rattle.lowering_simulation.proofs.Proper.{IsEvent}
use Rattle.lowering_simulation.proofs.Worlds.{IsStripe, not_stripe, Shows, there, cell_there, shows_store, shows_operated, shows_stripe}

-- whether the operation is on a stripe, by its object
no_stripe : (o : Op) (obj : ObjId) → (IsStripe obj → ⊥) → is_stripe (action.Operate o obj) ≡ false
no_stripe o (object.Weak lock k) h = absurd (h tt)
no_stripe o (object.Mutex c) h = refl
no_stripe o (object.Cond c) h = refl
no_stripe o (object.Barrier c) h = refl
no_stripe o (object.Rw c) h = refl
no_stripe o (object.Slot k) h = refl
no_stripe o object.Threads h = refl
no_stripe o object.Halt h = refl
no_stripe o object.Input h = refl
no_stripe o object.Output h = refl

module _ (p : Program) (s : SetupView) (code : Code) (same_cells : cells_of code s ≡ cell_count p s) (limits : IsWithinLimits s) where
  -- an operation at the word that its object has
  pub allows : (words after : List ℕ) (w : World) (t : ℕ) (o : Op) (obj : ObjId) (next : ℤ → Thread) (q : Thread) (i : Operated code s words after t o obj next q) → (IsStripe obj → ⊥) → Shows p s code same_cells limits words w → Allows p s w t o obj i.answer
  allows words after w t o obj next q i not' h =
      let is = there p s code same_cells limits obj i.has not' in
      let word_is : i.old ≡ w.objects obj = same_Some i.old (w.objects obj) (sym i.at ∙ h.objects obj is) in
      (is, i.new, ap (advanced o t) (sym word_is) ∙ i.row)

  pub shows_after : (words after : List ℕ) (w : World) (t : ℕ) (o : Op) (obj : ObjId) (next : ℤ → Thread) (q : Thread) → Operated code s words after t o obj next q → (IsStripe obj → ⊥) → Shows p s code same_cells limits words w → Shows p s code same_cells limits after (operated w t o obj)
  shows_after words after w t o obj next q i not' h =
      subst (λ ws. Shows p s code same_cells limits ws (operated w t o obj)) (sym i.words_are)
      (shows_operated p s code same_cells limits words w t i.old i.new o obj i.answer i.has (there p s code same_cells limits obj i.has not') i.at i.row h)

  pub shows_passed : (words after : List ℕ) (w : World) (t : ℕ) (o : Op) (obj : ObjId) (next : ℤ → Thread) (q : Thread) → Operated code s words after t o obj next q → IsStripe obj → Shows p s code same_cells limits words w → Shows p s code same_cells limits after w
  shows_passed words after w t o obj next q i is h = subst (λ ws. Shows p s code same_cells limits ws w) (sym i.words_are) (shows_stripe p s code same_cells limits words w i.new obj i.has is h)

module _ (p : Program) (s : SetupView) (code : Code) (same_cells : cells_of code s ≡ cell_count p s) (limits : IsWithinLimits s) (runnable : IsRunnable code) (MayFill : Run → Type 0) (Makes : ℕ → Run → Thread → Type 0) (t : ℕ) where
  abbrev Shown : List ℕ → World → Type 0
  Shown words w = Shows p s code same_cells limits words w

  abbrev Stands : Progress → Thread → Type 0
  Stands = IsProgress code s MayFill Makes t

  -- the event is the run's next one, and the words and the thread are those after it
  pub record IsStep (r : Run) (w : World) (after : List ℕ) (q : Thread) (e : Event) : Type 0 where
    pub of_source : is_of_stripe (own e) ≡ false
    pub next : ComesNext p s w t r e ⊎ IsFull p s MayFill w t r e
    pub shows : Shows p s code same_cells limits after (words_after w t (own e))
    pub stands : IsProgress code s MayFill Makes t (rest_after r e) q

  -- an operation on a stripe changes nothing of the source
  pub record IsPassed (r : Run) (w : World) (after : List ℕ) (n q : Thread) (e : Event) : Type 0 where
    pub of_stripe : is_of_stripe (own e) ≡ true
    pub shows : Shows p s code same_cells limits after w
    pub phase : q.phase ≡ n.phase
    pub makes : Makes t r q

  -- ---- which event it is

  event_is : (words : List ℕ) (n : Thread) (d : Due) (a : Action) → action_of d ≡ a → IsEvent a → event_of code s words t n d ≡ done a (printed_at code n a) (answer_of code s words t a)
  event_is words n due.Nothing a e h = let same = sym e in absurd (subst IsEvent same h)
  event_is words n due.Quiet a e h = let same = sym e in absurd (subst IsEvent same h)
  event_is words n (due.Load c) a e h = ap (λ z. done z (printed_at code n z) (answer_of code s words t z)) e
  event_is words n (due.Store c v) a e h = ap (λ z. done z (printed_at code n z) (answer_of code s words t z)) e
  event_is words n due.Mark a e h = ap (λ z. done z (printed_at code n z) (answer_of code s words t z)) e
  event_is words n (due.Operate o obj) a e h = ap (λ z. done z (printed_at code n z) (answer_of code s words t z)) e
  event_is words n (due.Trap why) a e h = absurd (true≢false (subst IsEvent (sym e) h).0)

  stripe_event : (words : List ℕ) (n : Thread) (d : Due) (o : Op) (lock k : ℕ) → action_of d ≡ action.Operate o (object.Weak lock k) → is_of_stripe (own (event_of code s words t n d)) ≡ true
  stripe_event words n due.Nothing o lock k e = cc
  stripe_event words n due.Quiet o lock k e = cc
  stripe_event words n (due.Load c) o lock k e = cc
  stripe_event words n (due.Store c v) o lock k e = cc
  stripe_event words n due.Mark o lock k e = cc
  stripe_event words n (due.Operate q obj) o lock k e = ap is_stripe e
  stripe_event words n (due.Trap why) o lock k e = cc

  -- ---- the thread after it

  after_event : (a : Action) (more : ℤ → Run) (n : Thread) (answer : ℤ) → IsEvent a → has_ended n.phase ≡ false → action_at code s t n ≡ a → ((z : ℤ) → Makes t (more z) (stepped code s t n z)) →
      Stands (if is_last a then over else goes (more answer)) (stepped code s t n answer)
  after_event a more n answer h lives at makes = by (is_last a) refl
    where
      by : (b : Bool) → is_last a ≡ b → Stands (if b then over else goes (more answer)) (stepped code s t n answer)
      by true e = event_ends code s t n a answer at h ∙ e
      by false e = (event_begins code s t n a answer at h lives, event_ends code s t n a answer at h ∙ e, makes answer)

  answer_is : (words after : List ℕ) (o : Op) (obj : ObjId) (next : ℤ → Thread) (q : Thread) (i : Operated code s words after t o obj next q) → answer_of code s words t (action.Operate o obj) ≡ i.answer
  answer_is words after o obj next q i =
      ap (λ w. answer_in (advanced o t w)) (get_or_from_slice_get words (place_of (cells_of code s) obj) i.old 0 i.at) ∙ ap answer_in i.row

  module _ (words after : List ℕ) (w : World) (n : Thread) (told q : Told) (shows : Shows p s code same_cells limits words w) where
    abbrev Outcome : Action → Type 0
    Outcome a = outcome (machine code s) words (action_effect code s t told n a) ≡ Leaves after q

    -- a trap ends the thread
    record IsTrap (why : Trap) : Type 0 where
      allowed : IsAllowed p s w t op.TrapHere object.Halt
      shown : Shown after (operated w t op.TrapHere object.Halt)
      ended : has_ended q.thread.phase ≡ true

    traps_here : (why : Trap) → due_of code s t n ≡ due.Trap why → Outcome (action_at code s t n) → IsTrap why
    traps_here why is h =
        let at = action_is code s t n ∙ ap action_of is in
        let i = operated_inv code s words after t (record told { thread = n }) q op.TrapHere object.Halt (piece_next code n op.TrapHere) (λ z. stepped code s t n z) (subst Outcome at h) in
        record {
          allowed = (i.answer, allows p s code same_cells limits words after w t op.TrapHere object.Halt _ _ i (λ x. x) shows);
          shown = shows_after p s code same_cells limits words after w t op.TrapHere object.Halt _ _ i (λ x. x) shows;
          ended = ap (λ (z : Thread). has_ended z.phase) (i.thread_is ∙ stepped_is code s t n (due.Trap why) i.answer is);
        }

    -- what is done, by the action and the answer
    record IsDone (a : Action) (more : ℤ → Run) (z : ℤ) : Type 0 where
      of_source : is_stripe a ≡ false
      answers : Answers p s w t a z
      shown : Shown after (acted w t a)
      stands : Stands (if is_last a then over else goes (more z)) q.thread

    does_here : (a : Action) (more : ℤ → Run) → IsEvent a → has_ended n.phase ≡ false → action_at code s t n ≡ a → ((z : ℤ) → Makes t (more z) (stepped code s t n z)) → Outcome a → IsDone a more (answer_of code s words t a)
    does_here action.Quiet more h lives at makes out = absurd h
    does_here action.Ended more h lives at makes out = absurd h
    does_here (action.Load c) more h lives at makes out =
        let i = loaded_inv code s words after c (λ v. accessed told (stepped code s t n (number v)) (access_of t n c v false)) q out in
        let read : slice_index words c ≡ i.1 = get_or_from_slice_get words c i.1 0 i.2 in
        let word_is : i.1 ≡ w.cells c = same_Some i.1 (w.cells c) (sym i.2 ∙ shows.cells c i.0) in
        let thread_is = ap (λ (z : Told). z.thread) i.4 ∙ ap (λ v. stepped code s t n (number v)) (sym read) in
        record {
          of_source = refl;
          answers = (cell_there p s code same_cells limits c i.0, ap number (read ∙ word_is));
          shown = subst (λ ws. Shown ws w) (sym i.3) shows;
          stands = subst (Stands (goes (more (number (slice_index words c))))) (sym thread_is) (after_event (action.Load c) more n (number (slice_index words c)) h lives at makes);
        }
    does_here (action.Store c v) more h lives at makes out =
        let i = stored_inv code s words after c v (accessed told (stepped code s t n (pos 0)) (access_of t n c v true)) q out in
        record {
          of_source = refl;
          answers = (cell_there p s code same_cells limits c i.0, refl);
          shown = subst (λ ws. Shown ws (acted w t (action.Store c v))) (sym i.1) (shows_store p s code same_cells limits words w t c v i.0 shows);
          stands = subst (Stands (goes (more (pos 0)))) (sym (ap (λ (z : Told). z.thread) i.2)) (after_event (action.Store c v) more n (pos 0) h lives at makes);
        }
    does_here action.Mark more h lives at makes out =
        let i = marked_inv code s words after (marked told (stepped code s t n (pos 0))) q out in
        record {
          of_source = refl;
          answers = refl;
          shown = subst (λ ws. Shown ws w) (sym i.0) shows;
          stands = subst (Stands (goes (more (pos 0)))) (sym (ap (λ (z : Told). z.thread) i.1)) (after_event action.Mark more n (pos 0) h lives at makes);
        }
    does_here (action.Operate o obj) more h lives at makes out =
        let i = operated_inv code s words after t (record told { thread = n }) q o obj (piece_next code n o) (λ z. stepped code s t n z) out in
        let not' = not_stripe (name_of o) obj (own_action code s t n o obj runnable at).fits h.1 in
        let same = answer_is words after o obj _ _ i in
        record {
          of_source = no_stripe o obj not';
          answers = subst (Allows p s w t o obj) (sym same) (allows p s code same_cells limits words after w t o obj _ _ i not' shows);
          shown = shows_after p s code same_cells limits words after w t o obj _ _ i not' shows;
          stands = subst (Stands (if is_last (action.Operate o obj) then over else goes (more (answer_of code s words t (action.Operate o obj))))) (sym (i.thread_is ∙ ap (stepped code s t n) (sym same)))
              (after_event (action.Operate o obj) more n (answer_of code s words t (action.Operate o obj)) h lives at makes);
        }

    -- ---- the step

    trap_event : (why : Trap) → due_of code s t n ≡ due.Trap why → trapped why (line_of code n.phase n.top) ≡ event_of code s words t n (due_of code s t n)
    trap_event why is = sym (ap (event_of code s words t n) is)

    event_here : (r : Run) → has_ended n.phase ≡ false → IsAtEvent code s MayFill Makes t n r → Outcome (action_at code s t n) → IsStep r w after q.thread (event_of code s words t n (due_of code s t n))
    event_here (does a printed more) lives (h, at, prints, makes) out =
        let i = does_here a more h lives at makes (subst Outcome at out) in
        subst (IsStep (does a printed more) w after q.thread) (sym (event_is words n (due_of code s t n) a (sym (action_is code s t n) ∙ at) h))
        (record { of_source = i.of_source; next = inl (refl, prints, i.answers); shows = i.shown; stands = i.stands })
    event_here (traps why line) lives is out =
        let i = traps_here why is.0 out in
        subst (IsStep (traps why line) w after q.thread) (trap_event why is.0) (record { of_source = refl; next = inl (refl, is.1, i.allowed); shows = i.shown; stands = i.ended })
    event_here ends lives is out = let none = subst Outcome (action_is code s t n ∙ ap action_of is) out in cc

    stripe_here : (r : Run) (x : IsAtStripe code s MayFill Makes t n r) → Outcome (action_at code s t n) → IsPassed r w after n q.thread (event_of code s words t n (due_of code s t n))
    stripe_here r x out =
        let obj = object.Weak x.lock x.stripe in
        let i = operated_inv code s words after t (record told { thread = n }) q x.o obj (piece_next code n x.o) (λ z. stepped code s t n z) (subst Outcome x.comes out) in
        record {
          of_stripe = stripe_event words n (due_of code s t n) x.o x.lock x.stripe (sym (action_is code s t n) ∙ x.comes);
          shows = shows_passed p s code same_cells limits words after w t x.o obj _ _ i tt shows;
          phase = ap (λ (z : Thread). z.phase) i.thread_is ∙ x.phase i.answer;
          makes = subst (Makes t r) (sym i.thread_is) (x.makes i.answer);
        }

    ended_rest : (r : Run) (line : ℕ) → has_ended q.thread.phase ≡ true → Stands (rest_after r (trapped trap.LogFull line)) q.thread
    ended_rest (does a printed more) line e = e
    ended_rest (traps why l) line e = e
    ended_rest ends line e = e

    full_here : (r : Run) → MayFill r → due_of code s t n ≡ due.Trap trap.LogFull → Outcome (action_at code s t n) → IsStep r w after q.thread (event_of code s words t n (due_of code s t n))
    full_here r fills is out =
        let i = traps_here trap.LogFull is out in
        subst (IsStep r w after q.thread) (trap_event trap.LogFull is) (record { of_source = refl; next = inr (refl, fills, i.allowed); shows = i.shown; stands = ended_rest r (line_of code n.phase n.top) i.ended })

    pub own_step : (r : Run) → has_ended n.phase ≡ false → IsAt code s MayFill Makes t n r → outcome (machine code s) words (action_effect code s t told n (action_at code s t n)) ≡ Leaves after q →
        IsStep r w after q.thread (event_of code s words t n (due_of code s t n)) ⊎ IsPassed r w after n q.thread (event_of code s words t n (due_of code s t n))
    own_step r lives (event is) out = inl (event_here r lives is out)
    own_step r lives (stripe is) out = inr (stripe_here r is out)
    own_step r lives (full fills is) out = inl (full_here r fills is out)
