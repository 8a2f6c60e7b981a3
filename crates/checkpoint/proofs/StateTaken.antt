-- What taking the state after some entries comes to, by how far their walk has gone.
use Rattle.std.proofs.Common.{◌≡◌, ℕ, ◌+◌, ◌*◌, ◌^◌, ◌<◌, ◌≤◌, inl, inr, false, List, length, map, take, drop, min, Some, refl, sym, ap, subst, ◌∙◌, arith}
use Rattle.std.specs.Prelude.{slice_get}
use Rattle.std.proofs.Math.Nat.{mul-le-mul}
use Rattle.std.proofs.lemmas.List.{length-take, take_all, take_min}
use Rattle.sync_objects.specs.Setup.{SetupView, IsWithinLimits}
use Rattle.sync_objects.specs.declared.entry.Entry.{Entry}
use Rattle.sync_objects.specs.declared.object.ObjId.{ObjId}
use Rattle.flow_code.specs.declared.code.Code.{Code}
use Rattle.flow_code.specs.Settle.{IsRunnable}
use Rattle.thread_interpreter.specs.declared.access.Access.{Access}
use Rattle.thread_interpreter.specs.declared.part.ThreadPart.{ThreadPart}
use Rattle.thread_interpreter.specs.Flows.{Running}
use Rattle.thread_interpreter.specs.Parts.{part_of, is_loaded}
use Rattle.core_run.specs.Machine.{Told, start_state}
use Rattle.core_run.specs.Walks.{IsRefusedAt}
use Rattle.core_run.specs.Words.{cells_of, start_words}
use Rattle.core_run.proofs.Beginnings.{length-start_words}
use Rattle.core_run.proofs.Reached.{kept}
use Rattle.run_theory.specs.Steps.{State}
use Rattle.snapshots.specs.Snapshots.{cells_from, objects_at, snapshot_of}
use Rattle.snapshots.specs.declared.snapshot.Snapshot.{Snapshot}
use Rattle.checkpoint.specs.Going.{standing, IsAllWalked, WentIs}
use Rattle.checkpoint.specs.Resuming.{KeepsWords, TakenIs}
use Rattle.checkpoint.specs.declared.outcome.Taken.TheVariants as taken
use Rattle.checkpoint.specs.declared.outcome.Went.{Went}
use Rattle.checkpoint.specs.declared.outcome.Went.TheVariants as went
use Rattle.checkpoint.proofs.Aside.{walk_reached}
use Rattle.checkpoint.proofs.Finishing.{all_entered, state_taken, too_short, words_last, parts_last}

-- a machine has fewer than 2^32 cells
pub few_words : (a globals b cells : ℕ) → a ≤ 16 → globals ≤ 2 ^ 20 → b ≤ 16 → cells ≤ 131072 → 2 * a + globals + b * cells < 2 ^ 32
few_words a globals b cells some few slots most = let arenas : b * cells ≤ 16 * 131072 = mul-le-mul slots most in omega (arith, arenas, some, few)

pub short_front : (n : ℕ) (words : List ℕ) → n < 2 ^ 32 → length (take n words) < 2 ^ 32
short_front n words few = omega (arith, few, length-take n words)

-- there is a word for each cell
pub cells_first : (code : Code) (s : SetupView) (n : ℕ) (words : List ℕ) → n ≡ cells_of code s → length words ≡ length (start_words code s) → n ≤ length words
cells_first code s n words same len = omega (arith, same, len, length-start_words code s)

-- a snapshot of these parts
abbrev snapshot_with : ℕ → List (ℕ × ℕ) → List (ObjId × ℕ × ℕ) → List ThreadPart → Snapshot
snapshot_with at cells objects threads = record { at = at; cells = cells; objects = objects; threads = threads }

same_snapshot : (at : ℕ) (cells cells1 : List (ℕ × ℕ)) (objects objects1 : List (ObjId × ℕ × ℕ)) (threads threads1 : List ThreadPart) → cells ≡ cells1 → objects ≡ objects1 → threads ≡ threads1 → snapshot_with at cells objects threads ≡ snapshot_with at cells1 objects1 threads1
same_snapshot at cells cells1 objects objects1 threads threads1 a b c = ap (λ z. snapshot_with at z objects threads) a ∙ ap (λ z. snapshot_with at cells1 z threads) b ∙ ap (snapshot_with at cells1 objects1) c

module _ (code : Code) (s : SetupView) (es : List Entry) (count size : ℕ) (size_is : size ≡ min count (length es)) (flows0 : List Running) (words0 : List ℕ) (start : standing flows0 words0 ≡ start_state code s) (flows : List Running) (words : List ℕ) (reads : List (List Access)) (out : List ℕ) where
  -- how far it has gone, said of the start and of the entries that are asked for
  went_to : (w : Went) → WentIs code s (standing flows0 words0) 0 (drop 0 (take size es)) flows words reads out w → WentIs code s (start_state code s) 0 (take count es) flows words reads out w
  went_to w h =
      let same : drop 0 (take size es) ≡ take count es = ap (λ n. take n es) size_is ∙ take_min count es in
      subst (λ z. WentIs code s z 0 (take count es) flows words reads out w) start (subst (λ z. WentIs code s (standing flows0 words0) 0 z flows words reads out w) same h)

  pub refused_there : (at : ℕ) → WentIs code s (standing flows0 words0) 0 (drop 0 (take size es)) flows words reads out (went.Refused at) → TakenIs code s es count (taken.Wrong at)
  refused_there at h =
      let g = went_to (went.Refused at) h in
      let is : g.0 ≡ at = omega (arith, g.1) in
      inl (subst (IsRefusedAt code s (start_state code s) (take count es)) is g.2)

  pub outside_there : (at t : ℕ) → WentIs code s (standing flows0 words0) 0 (drop 0 (take size es)) flows words reads out (went.Outside at t) → TakenIs code s es count (taken.Wrong at)
  outside_there at t h =
      let g = went_to (went.Outside at t) h in
      let is : g.0 ≡ at = omega (arith, g.1) in
      inl (subst (IsRefusedAt code s (start_state code s) (take count es)) is g.2)

  module _ (h : WentIs code s (standing flows0 words0) 0 (drop 0 (take size es)) flows words reads out went.On) where
    all_there : IsAllWalked code s (start_state code s) (take count es) flows words reads out
    all_there = went_to went.On h

    pub fewer_there : size < count → TakenIs code s es count (taken.Wrong size)
    fewer_there lt =
        let less : length es < count = omega (arith, lt, size_is) in
        let is : size ≡ length es = omega (arith, lt, size_is) in
        inr (too_short code s (take count es) flows words reads out (start_state code s) refl all_there count size es (take_all count es (omega (arith, less))) less is)

    pub length_there : IsRunnable code → IsWithinLimits s → length words ≡ length (start_words code s)
    length_there runnable limits = ap length all_there.shown.words_are ∙ (kept code s runnable limits all_there.last (walk_reached code s (take count es) all_there.last all_there.walked)).words

    pub entered_there : (t : ℕ) (r : Running) → slice_get flows t ≡ Some r → is_loaded r.kept.thread.phase ≡ false
    entered_there = all_entered code s (take count es) flows words reads out (start_state code s) refl all_there

    pub state_there : count ≤ size → ((t : ℕ) (r : Running) → slice_get flows t ≡ Some r → KeepsWords r.kept.thread) → (n : ℕ) (cells : List (ℕ × ℕ)) (objects : List (ObjId × ℕ × ℕ)) (threads : List ThreadPart) → n ≡ cells_of code s → cells ≡ cells_from 0 (take n words) → objects ≡ objects_at code s words → threads ≡ map (λ (r : Running). part_of r.kept.thread) flows → TakenIs code s es count (taken.State (snapshot_with count cells objects threads))
    state_there le keeps n cells objects threads a b c d =
        let last : State Told = all_there.last in
        let same : words ≡ last.words = all_there.shown.words_are in (
          last,
          state_taken code s (take count es) flows words reads out (start_state code s) refl all_there count es refl (omega (arith, le, size_is)) keeps,
          same_snapshot count cells (cells_from 0 (take (cells_of code s) last.words)) objects (objects_at code s last.words) threads (map (λ (told : Told). part_of told.thread) last.threads)
              (b ∙ ap (λ k. cells_from 0 (take k words)) a ∙ ap (λ z. cells_from 0 (take (cells_of code s) z)) same)
              (c ∙ ap (objects_at code s) same)
              (d ∙ parts_last code s (take count es) flows words reads out (start_state code s) refl all_there),
        )
