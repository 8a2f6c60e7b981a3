-- What a walk that has gone on to its end comes to.
use Rattle.std.proofs.Common.{◌≡◌, ℕ, zero, suc, ◌+◌, ◌<◌, ◌≤◌, ◌⊎◌, inl, inr, true, false, List, [], ◌∷◌, ◌++◌, length, map, take, drop, Option, Some, None, refl, sym, ap, subst, ◌∙◌, arith}
use Rattle.std.specs.Prelude.{slice_get}
use Rattle.std.specs.List.{flat_map}
use Rattle.std.proofs.lemmas.Option.{same_Some, slice_get-map}
use Rattle.sync_objects.specs.Setup.{SetupView, IsWithinLimits}
use Rattle.sync_objects.specs.declared.entry.Entry.{Entry}
use Rattle.flow_code.specs.declared.code.Code.{Code}
use Rattle.flow_code.specs.Settle.{IsRunnable}
use Rattle.flow_code.specs.Threads.{Thread}
use Rattle.thread_interpreter.specs.declared.access.Access.{Access}
use Rattle.thread_interpreter.specs.Flows.{Running}
use Rattle.thread_interpreter.specs.Parts.{part_of, thread_of, is_loaded}
use Rattle.thread_interpreter.specs.declared.outcome.Ending.{Ending}
use Rattle.thread_interpreter.specs.declared.part.ThreadPart.{ThreadPart}
use Rattle.core_run.specs.Histories.{HaveEnded}
use Rattle.core_run.specs.Machine.{Told, start_told, start_state, start_threads_from}
use Rattle.core_run.specs.Shown.{running_thread, told_thread, all_ended, endings, AreStarted, ShownAs}
use Rattle.core_run.specs.Walks.{walk_of, out_of, IsRefusedAt, IsUnfinished, Shows, WalkFrom}
use Rattle.core_run.specs.Words.{start_words}
use Rattle.core_run.specs.declared.outcome.Walk.{Walk}
use Rattle.core_run.specs.declared.outcome.Walk.TheVariants as walk
use Rattle.core_run.proofs.WalkLoop.{ended_at, ended_all, endings_are, trap_is, reads_are}
use Rattle.run_theory.specs.Steps.{State}
use Rattle.snapshots.specs.Snapshots.{snapshot_of, resumed_state, told_of, words_of}
use Rattle.snapshots.specs.declared.snapshot.Snapshot.{Snapshot}
use Rattle.checkpoint.specs.Going.{no_reads, fresh_told, standing, LacksNone, IsAllWalked}
use Rattle.checkpoint.specs.Resuming.{KeepsWords, IsStateAfter, IsTooShort}
use Rattle.checkpoint.proofs.Between.{IsBetween, start_between, walk_between}

-- ---- the states in which threads and words stand

-- threads that have told nothing yet are known by their states
fresh_threads : (flows : List Running) (tolds : List Told) → map running_thread flows ≡ map told_thread tolds → tolds ≡ map fresh_told (map told_thread tolds) → map (λ (r : Running). fresh_told r.kept.thread) flows ≡ tolds
fresh_threads flows tolds e f = map_map flows ∙ ap (map fresh_told) e ∙ sym f
  where
    map_map : (rs : List Running) → map (λ (r : Running). fresh_told r.kept.thread) rs ≡ map fresh_told (map running_thread rs)
    map_map [] = refl
    map_map (r ∷ rs) = ap (λ z. fresh_told r.kept.thread ∷ z) (map_map rs)

start_fresh : (code : Code) (s : SetupView) (k n : ℕ) → start_threads_from code s k n ≡ map fresh_told (map told_thread (start_threads_from code s k n))
start_fresh code s k zero = refl
start_fresh code s k (suc n) = ap (λ z. start_told code s k ∷ z) (start_fresh code s (k + 1) n)

resumed_fresh : (ps : List ThreadPart) → map told_of ps ≡ map fresh_told (map told_thread (map told_of ps))
resumed_fresh [] = refl
resumed_fresh (p ∷ ps) = ap (λ z. told_of p ∷ z) (resumed_fresh ps)

resumed_threads : (ps : List ThreadPart) → map told_thread (map told_of ps) ≡ map thread_of ps
resumed_threads [] = refl
resumed_threads (p ∷ ps) = ap (λ z. thread_of p ∷ z) (resumed_threads ps)

-- the state of these words and threads
abbrev state_with : List ℕ → List Told → State Told
state_with words tolds = record { words = words; threads = tolds }

same_state : (words words1 : List ℕ) (tolds tolds1 : List Told) → words ≡ words1 → tolds ≡ tolds1 → state_with words tolds ≡ state_with words1 tolds1
same_state words words1 tolds tolds1 e f = ap (λ ws. state_with ws tolds) e ∙ ap (state_with words1) f

pub start_stands : (code : Code) (s : SetupView) (flows : List Running) (words : List ℕ) → AreStarted code s flows → words ≡ start_words code s → standing flows words ≡ start_state code s
start_stands code s flows words started ws = same_state words (start_words code s) _ _ ws (fresh_threads flows (start_state code s).threads started.threads (start_fresh code s 0 s.slots))

pub resumed_stands : (code : Code) (s : SetupView) (x : Snapshot) (flows : List Running) (words : List ℕ) → map running_thread flows ≡ map thread_of x.threads → words ≡ words_of code s x → standing flows words ≡ resumed_state code s x
resumed_stands code s x flows words e ws = same_state words (words_of code s x) _ _ ws (fresh_threads flows (map told_of x.threads) (e ∙ sym (resumed_threads x.threads)) (resumed_fresh x.threads))

-- ---- taking the state

-- the state of a thread as a running one shows it
shown_at : (flows : List Running) (tolds : List Told) (t : ℕ) (told : Told) → map running_thread flows ≡ map told_thread tolds → slice_get tolds t ≡ Some told → (r : Running) × (slice_get flows t ≡ Some r) × (r.kept.thread ≡ told.thread)
shown_at [] [] t told e h = cc
shown_at [] (x ∷ tolds) t told e h = cc
shown_at (r ∷ flows) [] t told e h = cc
shown_at (r ∷ flows) (x ∷ tolds) zero told e h = let is : x ≡ told = same_Some x told h in (r, refl, cc (e, is))
shown_at (r ∷ flows) (x ∷ tolds) (suc t) told e h = let rest : map running_thread flows ≡ map told_thread tolds = cc e in shown_at flows tolds t told rest h

told_at : (flows : List Running) (tolds : List Told) (t : ℕ) (r : Running) → map running_thread flows ≡ map told_thread tolds → slice_get flows t ≡ Some r → (told : Told) × (slice_get tolds t ≡ Some told) × (r.kept.thread ≡ told.thread)
told_at [] [] t r e h = cc
told_at [] (x ∷ tolds) t r e h = cc
told_at (q ∷ flows) [] t r e h = cc
told_at (q ∷ flows) (x ∷ tolds) zero r e h = let is : q ≡ r = same_Some q r h in (x, refl, cc (e, is))
told_at (q ∷ flows) (x ∷ tolds) (suc t) r e h = let rest : map running_thread flows ≡ map told_thread tolds = cc e in told_at flows tolds t r rest h

parts_shown : (flows : List Running) (tolds : List Told) → map running_thread flows ≡ map told_thread tolds → map (λ (r : Running). part_of r.kept.thread) flows ≡ map (λ (told : Told). part_of told.thread) tolds
parts_shown [] [] e = refl
parts_shown [] (x ∷ tolds) e = cc
parts_shown (r ∷ flows) [] e = cc
parts_shown (r ∷ flows) (x ∷ tolds) e =
    let first : r.kept.thread ≡ x.thread = cc e in
    let rest : map running_thread flows ≡ map told_thread tolds = cc e in
    ap (λ z. part_of z ∷ map (λ (r : Running). part_of r.kept.thread) flows) first ∙ ap (λ z. part_of x.thread ∷ z) (parts_shown flows tolds rest)

module _ (code : Code) (s : SetupView) where
  module _ (es : List Entry) (flows : List Running) (words : List ℕ) (reads : List (List Access)) (out : List ℕ) (from : State Told) (start : from ≡ start_state code s) (w : IsAllWalked code s from es flows words reads out) where
    walked_here : walk_of code s es (start_state code s) ≡ Some w.last
    walked_here = ap (walk_of code s es) (sym start) ∙ w.walked

    last_between : IsBetween code s w.last
    last_between = walk_between code s es (start_state code s) w.last walked_here (start_between code s)

    -- no thread is between its first load and its Mark
    pub all_entered : (t : ℕ) (r : Running) → slice_get flows t ≡ Some r → is_loaded r.kept.thread.phase ≡ false
    all_entered t r at =
        let h = told_at flows w.last.threads t r w.shown.threads_are at in
        ap (λ z. is_loaded z.phase) h.2 ∙ last_between.entered t h.0 h.1

    pub state_taken : (k : ℕ) (all : List Entry) → es ≡ take k all → k ≤ length all → ((t : ℕ) (r : Running) → slice_get flows t ≡ Some r → KeepsWords r.kept.thread) → IsStateAfter code s all k w.last
    state_taken k all e within keeps = record {
      within = within;
      walked = ap (λ z. walk_of code s z (start_state code s)) (sym e) ∙ walked_here;
      words = λ t told at. let h = shown_at flows w.last.threads t told w.shown.threads_are at in subst KeepsWords h.2 (keeps t h.0 h.1);
    }

    pub too_short : (k at : ℕ) (all : List Entry) → es ≡ all → length all < k → at ≡ length all → IsTooShort code s all k at
    too_short k at all e less is = record { fewer = less; all = is; last = w.last; walked = ap (λ z. walk_of code s z (start_state code s)) (sym e) ∙ walked_here }

    pub words_last : words ≡ w.last.words
    words_last = w.shown.words_are

    pub parts_last : map (λ (r : Running). part_of r.kept.thread) flows ≡ map (λ (told : Told). part_of told.thread) w.last.threads
    parts_last = parts_shown flows w.last.threads w.shown.threads_are

  -- ---- going on to the end

  module _ (from : State Told) (first : ℕ) (es : List Entry) (flows : List Running) (words : List ℕ) (reads : List (List Access)) (out : List ℕ) (w : IsAllWalked code s from es flows words reads out) where
    pub not_ended : (at : ℕ) → at ≡ first + length es → all_ended flows ≡ false → WalkFrom code s from first es no_reads (walk.Wrong at)
    not_ended at e h = (
      length es,
      e,
      inr (record {
        all = refl;
        last = w.last;
        walked = w.walked;
        open_end = λ ended. let clash : true ≡ false = sym (ended_all flows w.last.threads w.shown.threads_are ended) ∙ h in cc clash;
      }),
    )

    shows : all_ended flows ≡ true → (o : List ℕ) (r : List Access) (e : List Ending) → o ≡ out → r ≡ flat_map (λ xs. xs) reads → e ≡ endings flows → Shows code s from es no_reads w.last o r e
    shows h o r e a b c = record {
      whole = record { walked = w.walked; ended = ended_at flows w.last.threads w.shown.threads_are h };
      out_is = a ∙ w.out_is;
      reads_are = b ∙ ap (flat_map (λ xs. xs)) w.shown.reads_are ∙ reads_are no_reads w.last.threads;
      ends_are = c ∙ endings_are flows w.last.threads w.shown.threads_are;
    }

    pub has_ended : all_ended flows ≡ true → (x : Walk) → ShownAs flows reads out x → WalkFrom code s from first es no_reads x
    has_ended h (walk.Done o r e) q = (w.last, shows h o r e q.0 q.1 q.2, sym (trap_is 0 flows w.last.threads w.shown.threads_are) ∙ q.3)
    has_ended h (walk.Trapped kind thread line o r e) q = (w.last, shows h o r e q.0 q.1 q.2, sym (trap_is 0 flows w.last.threads w.shown.threads_are) ∙ q.3)
    has_ended h (walk.Wrong k) q = absurd q
