-- A checkpoint is as it must be, where the lines of its cells, its objects and each of its threads are.
use Rattle.std.proofs.Common.{◌≡◌, ℕ, zero, suc, ◌+◌, ◌-◌, ◌^◌, ◌<◌, ◌≤◌, nat_lt, Bool, true, false, ℤ, pos, negsuc, List, [], ◌∷◌, length, map, Some, None, refl, ap, ◌∙◌, subst, arith}
use Rattle.std.specs.Prelude.{slice_get}
use mir.Val.{sel}
use Rattle.std.specs.List.{AllByRecursion}
use Rattle.std.proofs.lemmas.Bool.{le-leb, ltb-true}
use Rattle.std.proofs.lemmas.List.{length-map}
use Rattle.std.proofs.lemmas.Option.{same_Some}
use Rattle.sync_objects.specs.Setup.{SetupView}
use Rattle.word_semantics.specs.Values.{number, word}
use Rattle.flow_code.specs.declared.code.Code.{Code}
use Rattle.flow_code.specs.Threads.{Frame}
use Rattle.thread_interpreter.specs.Parts.{frame_part, frames_in, part_of, IsWord, AreWords}
use Rattle.thread_interpreter.specs.declared.part.FramePart.{FramePart}
use Rattle.thread_interpreter.specs.declared.part.ThreadPart.{ThreadPart}
use Rattle.core_run.specs.Machine.{Told}
use Rattle.run_theory.specs.Steps.{State}
use Rattle.snapshots.specs.Conditions.{AllFit, cells_judged, objects_judged, thread_judged, threads_judged, IsThreadForm, MeetsConditions}
use Rattle.snapshots.specs.Snapshots.{snapshot_of}
use Rattle.snapshots.specs.Text.{thread_draft, threads_from}
use Rattle.snapshot_reached.specs.Stored.{IsStored, IsStoredThread}
use Rattle.snapshot_reached.proofs.Cells.{joined}

-- ---- threads by their numbers

abbrev pub parts_of : List Told → List ThreadPart
parts_of tolds = map (λ (told : Told). part_of told.thread) tolds

lines_of : (code : Code) (s : SetupView) (first : ℕ) (tolds : List Told) → ((k : ℕ) (told : Told) → slice_get tolds k ≡ Some told → AllFit (thread_judged code s (first + k) (thread_draft (first + k) (part_of told.thread))))
    → AllFit (threads_judged code s first (threads_from first (parts_of tolds)))
lines_of code s first [] h = tt
lines_of code s first (x ∷ xs) h =
    joined (thread_judged code s first (thread_draft first (part_of x.thread))) (threads_judged code s (first + 1) (threads_from (first + 1) (parts_of xs)))
    (subst (λ t. AllFit (thread_judged code s t (thread_draft t (part_of x.thread)))) here (h 0 x refl))
    (lines_of code s (first + 1) xs (λ k told e. subst (λ t. AllFit (thread_judged code s t (thread_draft t (part_of told.thread)))) (next k) (h (suc k) told e)))
  where
    here : first + 0 ≡ first
    here = omega arith

    next : (k : ℕ) → first + suc k ≡ first + 1 + k
    next k = omega arith

count_is : (first : ℕ) (ps : List ThreadPart) → length (threads_from first ps) ≡ length ps
count_is first [] = refl
count_is first (p ∷ ps) = ap suc (count_is (first + 1) ps)

-- an answer that its word shows has a word of 64 bits
word_below : (z : ℤ) → number (word z) ≡ z → word z < 2 ^ 64
word_below (negsuc n) e = omega arith
word_below (pos n) e = by (nat_lt n (2 ^ 63)) refl e
  where
    by : (b : Bool) → nat_lt n (2 ^ 63) ≡ b → sel b (pos n) (negsuc (2 ^ 64 - suc n)) ≡ pos n → n < 2 ^ 64
    by true f g = let lt = ltb-true n (2 ^ 63) f in omega (arith, lt)
    by false f g = cc

kept_below : (fs : List Frame) → ((k : ℕ) (f : Frame) → slice_get fs k ≡ Some f → IsWord f) → AllByRecursion (λ (p : FramePart). p.kept < 2 ^ 64) (map frame_part fs)
kept_below [] h = tt
kept_below (f ∷ fs) h = (word_below f.kept (h 0 f refl), kept_below fs (λ k g e. h (suc k) g e))

forms_of : (first : ℕ) (tolds : List Told) → ((k : ℕ) (told : Told) → slice_get tolds k ≡ Some told → AreWords (frames_in told.thread.phase told.thread)) → AllByRecursion IsStoredThread (parts_of tolds) → AllByRecursion IsThreadForm (threads_from first (parts_of tolds))
forms_of first [] words h = tt
forms_of first (x ∷ xs) words h =
    let answers = kept_below (frames_in x.thread.phase x.thread) (words 0 x refl).each in
    (record { frames = refl; stripes = refl; regions = refl; kept = answers; registers = h.0.registers }, forms_of (first + 1) xs (λ k told e. words (suc k) told e) h.1)

pub stored_at : (tolds : List Told) (k : ℕ) (told : Told) → AllByRecursion IsStoredThread (parts_of tolds) → slice_get tolds k ≡ Some told → IsStoredThread (part_of told.thread)
stored_at [] k told h e = cc
stored_at (x ∷ xs) zero told h e = subst (λ (z : Told). IsStoredThread (part_of z.thread)) (same_Some x told e) h.0
stored_at (x ∷ xs) (suc k) told h e = stored_at xs k told h.1 e

-- ---- all lines

module _ (code : Code) (s : SetupView) (n k : ℕ) (st : State Told) where
  -- all lines fit where those of cells, objects and each thread do
  pub whole : k ≤ n → length st.threads ≡ s.slots → AllFit (cells_judged code s None (snapshot_of code s k st).cells) → AllFit (objects_judged code s None (snapshot_of code s k st).objects)
      → ((t : ℕ) (told : Told) → slice_get st.threads t ≡ Some told → AllFit (thread_judged code s t (thread_draft t (part_of told.thread))))
      → ((t : ℕ) (told : Told) → slice_get st.threads t ≡ Some told → AreWords (frames_in told.thread.phase told.thread))
      → IsStored (snapshot_of code s k st) → MeetsConditions code s n (snapshot_of code s k st)
  whole within slots cells objects each words stored = record {
    form = record {
      count = count_is 0 (parts_of st.threads) ∙ length-map st.threads (λ (told : Told). part_of told.thread) ∙ slots;
      words = stored.words;
      threads = forms_of 0 st.threads words stored.threads;
    };
    fits = (
      refl,
      (
        le-leb k n within,
        (
          refl,
          joined (cells_judged code s None (snapshot_of code s k st).cells) _ cells
              (refl, joined (objects_judged code s None (snapshot_of code s k st).objects) (threads_judged code s 0 (threads_from 0 (parts_of st.threads))) objects threads),
        ),
      ),
    );
  }
    where
      same : (t : ℕ) → t ≡ 0 + t
      same t = omega arith

      threads : AllFit (threads_judged code s 0 (threads_from 0 (parts_of st.threads)))
      threads = lines_of code s 0 st.threads (λ t told at. subst (λ u. AllFit (thread_judged code s u (thread_draft u (part_of told.thread)))) (same t) (each t told at))
