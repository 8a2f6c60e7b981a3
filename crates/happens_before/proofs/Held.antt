-- A lock that a thread holds in the plain code's state it holds in the state with weak locks, in the same way.
use Rattle.std.proofs.Common.{◌≡◌, ℕ, ◌<◌, nat_lt, true, Some, sym, ap, subst, ◌∙◌}
use Rattle.std.specs.Prelude.{slice_get, slice_index}
use Rattle.std.proofs.lemmas.Bool.{and_parts}
use Rattle.std.proofs.lemmas.Option.{get_or_from_slice_get, slice_get_within}
use Rattle.rr_base.proofs.Lists.{slice_get_inside}
use Rattle.sync_objects.specs.Setup.{SetupView, IsWithinLimits}
use Rattle.sync_objects.specs.Packing.{lock_of, rw_of}
use Rattle.sync_objects.specs.Start.{start_word}
use Rattle.sync_objects.specs.States.{is_held_by}
use Rattle.sync_objects.specs.Words.{state_of}
use Rattle.rr_base.specs.declared.layout.CellKind.TheVariants as kind
use Rattle.sync_objects.specs.declared.mode.Mode.{Mode}
use Rattle.sync_objects.specs.declared.object.ObjId.{ObjId}
use Rattle.sync_objects.specs.declared.object.ObjId.TheVariants as object
use Rattle.flow_code.specs.declared.code.Code.{Code}
use Rattle.flow_code.specs.Settle.{IsRunnable}
use Rattle.core_run.specs.Histories.{IsReachable}
use Rattle.core_run.specs.Machine.{Told}
use Rattle.core_run.specs.Words.{cells_of, has_object, place_of, start_words}
use Rattle.core_run.proofs.Beginnings.{start_word_at}
use Rattle.core_run.proofs.Reached.{kept}
use Rattle.run_theory.specs.Steps.{State}
use Rattle.lock_ownership.specs.Holders.{holds_as, holds_lock, names, word_of_object}
use Rattle.lockset_sound.specs.Frames.{holds_at}
use Rattle.erased_states.specs.States.{IsPlainState, IsPlainWord}

module _ (weak plain : Code) (s : SetupView) (limits : IsWithinLimits s) (run : IsRunnable weak) (same : cells_of weak s ≡ cells_of plain s) (st bare : State Told) (reached : IsReachable weak s st) (is_plain : IsPlainState weak plain s st bare) where
  -- an object has its word
  there : (o : ObjId) → has_object weak s o ≡ true → (w : ℕ) × (slice_get st.words (place_of (cells_of weak s) o) ≡ Some w)
  there o has =
      let within = slice_get_within (start_words weak s) (place_of (cells_of weak s) o) (start_word o) (start_word_at weak s o limits has) in
      let long = (kept weak s run limits st reached).words in
      slice_get_inside st.words (place_of (cells_of weak s) o) (subst (λ n. place_of (cells_of weak s) o < n) (sym long) within)

  -- and the same one in the plain code's state, but for slots and the halt word
  same_word : (o : ObjId) → has_object weak s o ≡ true → has_object plain s o ≡ true → ((w v : ℕ) → IsPlainWord o w v → w ≡ v) → word_of_object weak s o st ≡ word_of_object plain s o bare
  same_word o has has_plain alike =
      let w = there o has in
      let v = is_plain.objects o w.0 has_plain w.1 in
      let p : ℕ = place_of (cells_of weak s) o in
      let old : slice_index st.words p ≡ w.0 = get_or_from_slice_get st.words p w.0 0 w.1 in
      let new : slice_index bare.words p ≡ v.0 = get_or_from_slice_get bare.words p v.0 0 v.1 in
      old ∙ alike w.0 v.0 v.2 ∙ sym new ∙ ap (λ n. slice_index bare.words (place_of n o)) same

  pub holds_mutex_too : (mode : Mode) (t c : ℕ) → holds_at plain s t bare mode kind.Mutex c ≡ true → (has_object weak s (object.Mutex c) ≡ true) × (names weak s (object.Mutex c) t st ≡ true)
  holds_mutex_too mode t c h =
      let two = and_parts (has_object plain s (object.Mutex c)) (names plain s (object.Mutex c) t bare) h in
      let has : has_object weak s (object.Mutex c) ≡ true = ap (nat_lt c) same ∙ two.0 in
      (has, ap (λ w. is_held_by t (lock_of (state_of w))) (same_word (object.Mutex c) has two.0 (λ w v e. e)) ∙ two.1)

  pub holds_rwlock_too : (mode : Mode) (t c : ℕ) → holds_at plain s t bare mode kind.Rw c ≡ true → (has_object weak s (object.Rw c) ≡ true) × (holds_lock weak s (object.Rw c) mode t st ≡ true)
  holds_rwlock_too mode t c h =
      let two = and_parts (has_object plain s (object.Rw c)) (holds_lock plain s (object.Rw c) mode t bare) h in
      let has : has_object weak s (object.Rw c) ≡ true = ap (nat_lt c) same ∙ two.0 in
      (has, ap (λ w. holds_as mode t (rw_of (state_of w))) (same_word (object.Rw c) has two.0 (λ w v e. e)) ∙ two.1)
