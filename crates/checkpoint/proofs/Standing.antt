-- The state that a snapshot stands for goes on as the state of which it was made.
use Rattle.std.proofs.Common.{◌≡◌, ℕ, ◌≤◌, ◌+◌, ◌⊎◌, inl, inr, Bool, true, false, List, [], ◌∷◌, ◌++◌, map, take, Option, Some, None, refl, sym, ap, subst, ◌∙◌, append-nil, arith}
use Rattle.std.specs.Prelude.{slice_get, option_map}
use Rattle.std.proofs.lemmas.Bool.{true≢false}
use Rattle.std.proofs.lemmas.Option.{slice_get-map}
use Rattle.sync_objects.specs.Setup.{SetupView, IsWithinLimits}
use Rattle.sync_objects.specs.declared.entry.Entry.{Entry}
use Rattle.flow_code.specs.declared.code.Code.{Code}
use Rattle.flow_code.specs.Settle.{IsRunnable}
use Rattle.flow_code.specs.declared.thread.Phase.{Phase}
use Rattle.flow_code.specs.declared.thread.Phase.TheVariants as phase
use Rattle.flow_code.specs.Threads.{Frame, Thread}
use Rattle.flow_code.specs.Next.{has_ended}
use Rattle.thread_interpreter.specs.Starts.{no_frame}
use Rattle.thread_interpreter.specs.Parts.{frames_in, part_of, thread_of, IsParted}
use Rattle.thread_interpreter.specs.declared.part.ThreadPart.{ThreadPart}
use Rattle.thread_interpreter.proofs.Parted.{parted, ended_parted}
use Rattle.core_run.specs.Machine.{Told, machine, start_state}
use Rattle.core_run.specs.Walks.{pieces_of, walk_of}
use Rattle.core_run.proofs.Reached.{kept}
use Rattle.run_theory.specs.Steps.{State}
use Rattle.snapshots.specs.Snapshots.{snapshot_of, resumed_state, told_of, words_of}
use Rattle.checkpoint.specs.Alike.{WalkAlike}
use Rattle.checkpoint.specs.Resuming.{KeepsWords, IsStateAfter}
use Rattle.checkpoint.proofs.Simulation.{SameOption, SameState}
use Rattle.checkpoint.proofs.Following.{SameThread, EndedAlike, Follows, NonePast, Beside, walks_alike}
use Rattle.checkpoint.proofs.Lives.{Lives, LivesIn}
use Rattle.checkpoint.proofs.Between.{IsBetween, start_between, walk_between}
use Rattle.checkpoint.proofs.Ordering.{words_same}
use Rattle.checkpoint.proofs.Aside.{reached_aside, walk_reached}
use Rattle.core_run.specs.Words.{start_words}

-- ---- one thread

one_more : (fs : List Frame) (f : Frame) → fs ++ f ∷ [] ≡ [] → ⊥
one_more [] f e = cc
one_more (g ∷ fs) f e = cc

-- a thread that isn't in its first function yet has none of these
bare_when : (p : Phase) (th : Thread) → LivesIn p th → has_ended p ≡ false → frames_in p th ≡ [] → (th.top ≡ no_frame) × (th.below ≡ [])
bare_when phase.Fresh th h l e = (h.top, h.below)
bare_when (phase.Begun f) th h l e = (h.top, h.below)
bare_when (phase.Loaded f w) th h l e = (h.top, h.below)
bare_when phase.Running th h l e = absurd (one_more th.below th.top e)
bare_when phase.Ended th h l e = absurd (true≢false l)
bare_when phase.Halted th h l e = absurd (true≢false l)
bare_when (phase.Trapped kind line) th h l e = absurd (true≢false l)
bare_when phase.Stopped th h l e = absurd (true≢false l)
bare_when phase.Closed th h l e = absurd (true≢false l)

module _ (code : Code) (s : SetupView) (k : ℕ) (st : State Told) where
  module _ (between : IsBetween code s st) (words : (t : ℕ) (told : Told) → slice_get st.threads t ≡ Some told → KeepsWords told.thread) where
    is_parted : (t : ℕ) (told : Told) → slice_get st.threads t ≡ Some told → has_ended told.thread.phase ≡ false → IsParted told.thread
    is_parted t told at l =
        let th = told.thread in
        let live = between.live t told at in
        record {
          lives = l;
          entered = between.entered t told at;
          words = words t told at;
          no_top = λ e. (bare_when th.phase th live l e).0;
          none_below = λ e. (bare_when th.phase th live l e).1;
        }

    pub same_thread : (t : ℕ) (told : Told) → slice_get st.threads t ≡ Some told → SameThread told.thread (thread_of (part_of told.thread))
    same_thread t told at = by (has_ended told.thread.phase) refl
      where
        by : (b : Bool) → has_ended told.thread.phase ≡ b → SameThread told.thread (thread_of (part_of told.thread))
        by true e = let h = ended_parted told.thread e in inr (record { first = e; second = h.ended; trap = sym h.trap; count = sym h.count })
        by false e = inl (sym (parted told.thread (is_parted t told at e)))

    -- what each thread had printed
    abbrev pub printed_before : ℕ → List (List ℕ)
    printed_before t = pieces_of (slice_get st.threads t)

    threads_there : (t : ℕ) → slice_get (resumed_state code s (snapshot_of code s k st)).threads t ≡ option_map told_of (option_map (λ (told : Told). part_of told.thread) (slice_get st.threads t))
    threads_there t = slice_get-map told_of (map (λ (told : Told). part_of told.thread) st.threads) t ∙ ap (option_map told_of) (slice_get-map (λ (told : Told). part_of told.thread) st.threads t)

    thread_beside : (t : ℕ) (o : Option Told) → slice_get st.threads t ≡ o → SameOption (machine code s) (Follows printed_before) (NonePast printed_before) t o (option_map told_of (option_map (λ (told : Told). part_of told.thread) o))
    thread_beside t None e = ap pieces_of e
    thread_beside t (Some told) e = record { thread = same_thread t told e; pieces = sym (ap (λ (ps : List (List ℕ)). ps ++ []) (ap pieces_of e) ∙ append-nil told.pieces) }

    pub beside : words_of code s (snapshot_of code s k st) ≡ st.words → Beside code s printed_before st (resumed_state code s (snapshot_of code s k st))
    beside same = record {
      words = sym same;
      threads = λ t. subst (SameOption (machine code s) (Follows printed_before) (NonePast printed_before) t (slice_get st.threads t)) (sym (threads_there t)) (thread_beside t (slice_get st.threads t) refl);
    }

  -- ---- the state after some entries

  module _ (runnable : IsRunnable code) (limits : IsWithinLimits s) (front : List Entry) (walked : walk_of code s front (start_state code s) ≡ Some st) (words : (t : ℕ) (told : Told) → slice_get st.threads t ≡ Some told → KeepsWords told.thread) where
    pub is_between : IsBetween code s st
    is_between = walk_between code s front (start_state code s) st walked (start_between code s)

    pub words_stand : words_of code s (snapshot_of code s k st) ≡ st.words
    words_stand = words_same code s limits st.words (kept code s runnable limits st (walk_reached code s front st walked)).words (reached_aside code s runnable limits st (walk_reached code s front st walked))

    pub goes_beside : Beside code s (printed_before is_between words) st (resumed_state code s (snapshot_of code s k st))
    goes_beside = beside is_between words words_stand

    pub goes_alike : (es : List Entry) → WalkAlike code s es st (resumed_state code s (snapshot_of code s k st))
    goes_alike es = walks_alike code s (printed_before is_between words) es st (resumed_state code s (snapshot_of code s k st)) goes_beside
