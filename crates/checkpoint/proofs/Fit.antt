-- A walk can go on from the snapshot of a state that a walk comes to.
use Rattle.std.proofs.Common.{◌≡◌, ℕ, zero, suc, ◌+◌, ◌<◌, ◌≤◌, ◌^◌, ◌==◌, inl, inr, Bool, true, false, if◌then◌else◌, List, [], ◌∷◌, length, map, take, Option, Some, None, refl, sym, ap, subst, ◌∙◌, arith}
use Rattle.std.specs.Prelude.{slice_get, slice_index, option_map}
use Rattle.std.specs.List.{filter_map}
use Rattle.std.proofs.lemmas.List.{length-map, length-take}
use Rattle.std.proofs.lemmas.Option.{same_Some, slice_get-map, slice_get-get_or}
use Rattle.sync_objects.specs.Setup.{SetupView, IsWithinLimits}
use Rattle.sync_objects.specs.Names.{object_kind}
use Rattle.sync_objects.specs.Sound.{IsSoundWord}
use Rattle.sync_objects.specs.Start.{start_word}
use Rattle.sync_objects.specs.Words.{number_of, state_of, word_of}
use Rattle.sync_objects.specs.declared.entry.Entry.{Entry}
use Rattle.sync_objects.specs.declared.object.ObjId.{ObjId}
use Rattle.sync_objects.proofs.Packings.{word_of-parts}
use Rattle.flow_code.specs.declared.code.Code.{Code}
use Rattle.flow_code.specs.Ranges.{InRange, IsCounted, within, leaving, over}
use Rattle.flow_code.specs.Settle.{IsRunnable}
use Rattle.flow_code.specs.Threads.{Frame, Thread, arena_end, instrs_in}
use Rattle.thread_interpreter.specs.Flows.{most_extra}
use Rattle.thread_interpreter.specs.Parts.{part_of, thread_of, IsEndedAs}
use Rattle.thread_interpreter.specs.declared.part.ThreadPart.{ThreadPart}
use Rattle.thread_interpreter.proofs.Parted.{ended_parted}
use Rattle.core_run.specs.Kept.{AreSound, IsKept, most_operations}
use Rattle.core_run.specs.Machine.{Told, start_state}
use Rattle.core_run.specs.Walks.{walk_of}
use Rattle.core_run.specs.Words.{cells_of, has_object, place_of, start_words}
use Rattle.core_run.proofs.Reached.{kept}
use Rattle.run_theory.specs.Steps.{State}
use Rattle.snapshots.specs.Snapshots.{cells_from, object_with, objects_at, objects_in_order, snapshot_of, IsListedObject, IsResumable}
use Rattle.checkpoint.specs.Resuming.{IsStateAfter}
use Rattle.checkpoint.proofs.Aside.{walk_reached}
use Rattle.checkpoint.proofs.Following.{SameThread}
use Rattle.checkpoint.proofs.Grouping.{place_within}
use Rattle.checkpoint.proofs.Listing.{AllIn, filter_none, filter_some}
use Rattle.checkpoint.proofs.Ordering.{all_there}
use Rattle.checkpoint.proofs.Standing.{same_thread, is_between}

-- ---- cells

cell_within : (ws : List ℕ) (first k : ℕ) (c : ℕ × ℕ) → slice_get (cells_from first ws) k ≡ Some c → c.0 < first + length ws
cell_within [] first k c e = cc
cell_within (w ∷ ws) first k c e = by (w == 0) k e (λ j. cell_within ws (first + 1) j c)
  where
    by : (b : Bool) (j : ℕ) → slice_get (if b then cells_from (first + 1) ws else (first, w) ∷ cells_from (first + 1) ws) j ≡ Some c → ((i : ℕ) → slice_get (cells_from (first + 1) ws) i ≡ Some c → c.0 < first + 1 + length ws) → c.0 < first + suc (length ws)
    by true j h again = omega (arith, again j h)
    by false zero h again = subst (λ (z : ℕ × ℕ). z.0 < first + suc (length ws)) (same_Some (first, w) c h) (omega arith)
    by false (suc j) h again = omega (arith, again j h)

-- ---- threads

counted_more : (code : Code) (s : SetupView) (t : ℕ) (th : Thread) → IsCounted code s 0 t th → IsCounted code s most_extra t th
counted_more code s t th (within a) = within (omega (arith, a))
counted_more code s t th (leaving a b) = leaving (omega (arith, a)) b
counted_more code s t th (over a b) = over (omega (arith, a)) b

few_events : (code : Code) (s : SetupView) (t : ℕ) (th : Thread) → IsCounted code s 0 t th → th.count ≤ s.limit + 2
few_events code s t th (within a) = omega (arith, a)
few_events code s t th (leaving a b) = omega (arith, a)
few_events code s t th (over a b) = omega (arith, a)

range_more : (code : Code) (s : SetupView) (t : ℕ) (th : Thread) → InRange code s 0 t th → InRange code s most_extra t th
range_more code s t th h = record {
  counted = counted_more code s t th h.counted;
  few_entries = h.few_entries;
  few_revokes = h.few_revokes;
  few_printed = h.few_printed;
  few_made = h.few_made;
  few_frames = h.few_frames;
  room = h.room;
  callers = h.callers;
}

-- a thread that has ended alike has the same numbers and no frames
range_ended : (code : Code) (s : SetupView) (t : ℕ) (th q : Thread) → IsEndedAs th q → InRange code s 0 t th → InRange code s most_extra t q
range_ended code s t th q e h =
    let few = few_events code s t th h.counted in
    let none : length q.below ≡ 0 = ap length e.below in
    let made : q.top.made ≡ 0 = ap (λ (f : Frame). f.made) e.top in
    record {
      counted = over (omega (arith, few, e.count)) e.ended;
      few_entries = omega (arith, h.few_entries, e.entries);
      few_revokes = omega (arith, h.few_revokes, e.revokes);
      few_printed = omega (arith, h.few_printed, e.printed);
      few_made = omega (arith, made);
      few_frames = omega (arith, none);
      room = omega (arith, h.room, e.arena);
      callers = λ k f at. let none_at : slice_get [] k ≡ Some f = ap (λ z. slice_get z k) (sym e.below) ∙ at in cc none_at;
    }

module _ (code : Code) (s : SetupView) (limits : IsWithinLimits s) (words : List ℕ) (len : length words ≡ length (start_words code s)) (sound : AreSound code s most_operations words) where
  -- ---- objects

  abbrev word_there : ObjId → ℕ
  word_there o = slice_index words (place_of (cells_of code s) o)

  abbrev listed_there : ObjId → Option (ObjId × ℕ × ℕ)
  listed_there o = object_with o (word_there o)

  one_listed : (o : ObjId) → has_object code s o ≡ true → IsListedObject code s (o, number_of (word_there o), state_of (word_there o))
  one_listed o has =
      let w = word_there o in
      let h = sound.each o w has (slice_get-get_or words (place_of (cells_of code s) o) 0 (place_within code s limits o (length words) len has)) in
      record {
        there = has;
        few = h.1;
        short = omega arith;
        sound = subst (IsSoundWord (object_kind o)) (sym (word_of-parts w)) h.0;
      }

  all_listed : (os : List ObjId) → AllIn (λ o. has_object code s o ≡ true) os → (k : ℕ) (x : ObjId × ℕ × ℕ) → slice_get (filter_map listed_there os) k ≡ Some x → IsListedObject code s x
  all_listed [] h k x e = cc
  all_listed (o ∷ os) h k x e = by (word_there o == start_word o) refl (λ j. all_listed os h.1 j x) k e
    where
      head : (j : ℕ) → slice_get ((o, number_of (word_there o), state_of (word_there o)) ∷ filter_map listed_there os) j ≡ Some x → ((i : ℕ) → slice_get (filter_map listed_there os) i ≡ Some x → IsListedObject code s x) → IsListedObject code s x
      head zero g again = subst (IsListedObject code s) (same_Some (o, number_of (word_there o), state_of (word_there o)) x g) (one_listed o h.0)
      head (suc j) g again = again j g

      by : (b : Bool) → (word_there o == start_word o) ≡ b → ((i : ℕ) → slice_get (filter_map listed_there os) i ≡ Some x → IsListedObject code s x) → (j : ℕ) → slice_get (filter_map listed_there (o ∷ os)) j ≡ Some x → IsListedObject code s x
      by true f again j g =
          let none : listed_there o ≡ None = ap (λ b. if b then None else Some (o, number_of (word_there o), state_of (word_there o))) f in
          again j (sym (ap (λ z. slice_get z j) (filter_none listed_there o os none)) ∙ g)
      by false f again j g =
          let some : listed_there o ≡ Some (o, number_of (word_there o), state_of (word_there o)) = ap (λ b. if b then None else Some (o, number_of (word_there o), state_of (word_there o))) f in
          head j (sym (ap (λ z. slice_get z j) (filter_some listed_there o os (o, number_of (word_there o), state_of (word_there o)) some)) ∙ g) again

module _ (code : Code) (s : SetupView) (runnable : IsRunnable code) (limits : IsWithinLimits s) (es : List Entry) (k : ℕ) (st : State Told) (h : IsStateAfter code s es k st) where
  state_kept : IsKept code s st
  state_kept = kept code s runnable limits st (walk_reached code s (take k es) st h.walked)

  thread_in_range : (t : ℕ) (told : Told) → slice_get st.threads t ≡ Some told → InRange code s most_extra t (thread_of (part_of told.thread))
  thread_in_range t told at = by (same_thread code s k st (is_between code s k st runnable limits (take k es) h.walked h.words) h.words t told at)
    where
      by : SameThread told.thread (thread_of (part_of told.thread)) → InRange code s most_extra t (thread_of (part_of told.thread))
      by (inl same) = subst (InRange code s most_extra t) same (range_more code s t told.thread (state_kept.in_range.each t told at))
      by (inr e) = range_ended code s t told.thread (thread_of (part_of told.thread)) (ended_parted told.thread e.first) (state_kept.in_range.each t told at)

  part_in_range : (t : ℕ) (p : ThreadPart) (o : Option Told) → slice_get st.threads t ≡ o → slice_get (map (λ (told : Told). part_of told.thread) st.threads) t ≡ Some p → InRange code s most_extra t (thread_of p)
  part_in_range t p None at e =
      let none : None ≡ Some p = sym (slice_get-map (λ (told : Told). part_of told.thread) st.threads t ∙ ap (option_map (λ (told : Told). part_of told.thread)) at) ∙ e in
      cc none
  part_in_range t p (Some told) at e =
      let some : Some (part_of told.thread) ≡ Some p = sym (slice_get-map (λ (told : Told). part_of told.thread) st.threads t ∙ ap (option_map (λ (told : Told). part_of told.thread)) at) ∙ e in
      subst (λ z. InRange code s most_extra t (thread_of z)) (same_Some (part_of told.thread) p some) (thread_in_range t told at)

  pub can_resume : IsResumable code s (length es) (snapshot_of code s k st)
  can_resume = record {
    within = h.within;
    threads = length-map st.threads (λ (told : Told). part_of told.thread) ∙ state_kept.threads;
    in_range = λ t p e. part_in_range t p (slice_get st.threads t) refl e;
    cells = λ j c e. let lt = cell_within (take (cells_of code s) st.words) 0 j c e in omega (arith, lt, length-take (cells_of code s) st.words);
    objects = all_listed code s limits st.words state_kept.words state_kept.sound (objects_in_order code s) (all_there code s);
  }
