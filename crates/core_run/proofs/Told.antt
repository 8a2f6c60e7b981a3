-- Each thread tells its own entries: they are those of the run.
use Rattle.std.proofs.Common.{◌≡◌, ◌≢◌, ℕ, suc, ◌+◌, ◌⊎◌, inl, inr, Bool, true, false, if◌then◌else◌, nat_lt, List, [], ◌∷◌, ◌++◌, length, map, Option, Some, None, refl, sym, ap, subst, ◌∙◌, ℤ, pos, arith, append-nil}
use Rattle.std.specs.Prelude.{slice_get, slice_set, slice_index}
use Rattle.std.proofs.lemmas.Bool.{cases_eq}
use Rattle.std.proofs.lemmas.Option.{get_or_from_slice_get}
use Rattle.rr_base.proofs.Lists.{slice_get-set_other, slice_get-set_same}
use Rattle.sync_objects.specs.Setup.{SetupView}
use Rattle.sync_objects.specs.Names.{name_of}
use Rattle.sync_objects.specs.Words.{number_of}
use Rattle.sync_objects.specs.Advance.{advanced}
use Rattle.sync_objects.specs.declared.entry.Noted.{Noted}
use Rattle.sync_objects.specs.declared.object.ObjId.{ObjId}
use Rattle.sync_objects.specs.declared.object.ObjId.TheVariants as object
use Rattle.sync_objects.specs.declared.operation.Op.{Op}
use Rattle.sync_objects.specs.declared.operation.Op.TheVariants as op
use Rattle.flow_code.specs.declared.code.Code.{Code}
use Rattle.word_semantics.specs.declared.event.Action.{Action}
use Rattle.word_semantics.specs.declared.event.Action.TheVariants as action
use Rattle.flow_code.specs.Threads.{Thread}
use Rattle.flow_code.specs.Next.{stepped as thread_stepped, action_at, gave_up, stopped, slot_closed}
use Rattle.flow_code.specs.Settle.{settled}
use Rattle.core_run.specs.Words.{cells_of, has_object}
use Rattle.thread_interpreter.specs.Pieces.{piece_next}
use Rattle.core_run.specs.Machine.{Told, entry_of, operation, action_effect, may_revoke, may_stop, may_close, effect_of, machine, start_state}
use Rattle.core_run.specs.Histories.{run_of, list_in, list_of, lists_of}
use Rattle.core_run.proofs.Lawful.{effect_go, effect_revoke, effect_stop, effect_close, change_is}
use Rattle.core_run.proofs.ThreadRanges.{start_thread_is}
use Rattle.run_theory.specs.Labels.{Label, Go, Revoke, Stop, Close, label_thread}
use Rattle.run_theory.specs.Merge.{lists_from}
use Rattle.run_theory.specs.Steps.{Becomes, Leaves, Effect, Refused, Marks, Loads, Stores, Operates, State, outcome, stepped, effect_entry, added, trace, entries_of}
use Rattle.run_theory.proofs.Lists.{own_in, own_out}
use Rattle.run_theory.proofs.Swap.{load_inv, change_inv, steps_of, adds_of}
use Rattle.run_theory.proofs.Kept.{lists_are}

module _ (code : Code) (s : SetupView) where
  -- an operation appends its entry to the thread's list, and nothing else changes the list
  abbrev Tells : ℕ → Told → Effect Told → Type 0
  Tells t told Refused = Unit {0}
  Tells t told (Marks q) = q.entries ≡ told.entries
  Tells t told (Loads c next) = (w : ℕ) → (next w).entries ≡ told.entries
  Tells t told (Stores c w q) = q.entries ≡ told.entries
  Tells t told (Operates e change) = (e.thread ≡ t) × ((old new : ℕ) (answer : ℤ) (q : Told) → change old ≡ Becomes new answer q → q.entries ≡ told.entries ++ record { entry = e; number = number_of old } ∷ [])

  if_tells : (t : ℕ) (told : Told) (b : Bool) (e : Effect Told) → Tells t told e → Tells t told (if b then e else Refused)
  if_tells t told true e h = h
  if_tells t told false e h = tt

  operation_tells : (t : ℕ) (told before : Told) (o : Op) (obj : ObjId) (printed : List (List ℕ)) (after : ℤ → Thread) → before.entries ≡ told.entries → Tells t told (operation code s t before o obj printed after)
  operation_tells t told before o obj printed after same =
      if_tells t told (has_object code s obj) _ (
        refl,
        (λ old new answer q e.
            ap (λ (z : Told). z.entries) (change_is before (entry_of t before.thread (name_of o) obj) printed after old (advanced o t old) new answer q e).1 ∙ ap (λ es. es ++ record { entry = entry_of t before.thread (name_of o) obj; number = number_of old } ∷ []) same),
      )

  action_tells : (t : ℕ) (told : Told) (st : Thread) (a : Action) → Tells t told (action_effect code s t told st a)
  action_tells t told st action.Quiet = tt
  action_tells t told st (action.Load c) = if_tells t told (nat_lt c (cells_of code s)) _ (λ w. refl)
  action_tells t told st (action.Store c w) = if_tells t told (nat_lt c (cells_of code s)) _ refl
  action_tells t told st action.Mark = refl
  action_tells t told st (action.Operate o obj) = operation_tells t told (record told { thread = st }) o obj (piece_next code st o) (λ answer. thread_stepped code s t st answer) refl
  action_tells t told st action.Ended = tt

  pub effect_tells : (l : Label) (told : Told) → Tells (label_thread l) told (effect_of code s l told)
  effect_tells (Go t) told = subst (Tells t told) (sym (effect_go code s t told)) (action_tells t told (settled code s t told.thread) (action_at code s t (settled code s t told.thread)))
  effect_tells (Revoke t lock stripe) told = subst (Tells t told) (sym (effect_revoke code s t lock stripe told)) (if_tells t told (may_revoke told.thread lock stripe) _ (operation_tells t told told op.Revoke (object.Weak lock stripe) [] (λ answer. gave_up told.thread lock stripe) refl))
  effect_tells (Stop t) told = subst (Tells t told) (sym (effect_stop code s t told)) (if_tells t told (may_stop told.thread) _ (operation_tells t told told op.Stop object.Halt [] (λ answer. stopped told.thread) refl))
  effect_tells (Close t) told = subst (Tells t told) (sym (effect_close code s t told)) (if_tells t told (may_close told.thread) _ (operation_tells t told told op.Close (object.Slot t) [] (λ answer. slot_closed told.thread) refl))

  -- the entries that are added are the thread's, and are appended to its list
  pub outcome_tells : (t : ℕ) (words after : List ℕ) (e : Effect Told) (told q : Told) → Tells t told e → outcome (machine code s) words e ≡ Leaves after q →
      (q.entries ≡ told.entries ++ effect_entry (machine code s) words e) × (entries_of t (effect_entry (machine code s) words e) ≡ effect_entry (machine code s) words e) × ((u : ℕ) → u ≢ t → entries_of u (effect_entry (machine code s) words e) ≡ [])
  outcome_tells t words after Refused told q h e = cc
  outcome_tells t words after (Marks th) told q h e =
      let same : th ≡ q = cc in
      (ap (λ (z : Told). z.entries) (sym same) ∙ h ∙ sym (append-nil told.entries), refl, λ u ne. refl)
  outcome_tells t words after (Loads c next) told q h e =
      let i = load_inv words next (slice_get words c) after q e in
      (ap (λ (z : Told). z.entries) i.3 ∙ h i.0 ∙ sym (append-nil told.entries), refl, λ u ne. refl)
  outcome_tells t words after (Stores c w th) told q h e =
      let i = change_inv words c (λ v. Becomes w (pos 0) th) (slice_get words c) after q e in
      let becomes : Becomes w (pos 0) th ≡ Becomes i.1 i.2 q = i.4 in
      let same : th ≡ q = cc in
      (ap (λ (z : Told). z.entries) (sym same) ∙ h ∙ sym (append-nil told.entries), refl, λ u ne. refl)
  outcome_tells t words after (Operates x change) told q h e =
      let p = (machine code s).place x.obj in
      let i = change_inv words p change (slice_get words p) after q e in
      let old : slice_index words p ≡ i.0 = get_or_from_slice_get words p i.0 0 i.3 in
      let noted : Noted = record { entry = x; number = number_of (slice_index words p) } in
      (h.1 i.0 i.1 i.2 q i.4 ∙ ap (λ n. told.entries ++ record { entry = x; number = number_of n } ∷ []) (sym old), own_in t noted [] h.0, λ u ne. own_out u noted [] (λ same. ne (sym same ∙ h.0)))

  step_tells : (st st1 : State Told) (l : Label) (t : ℕ) → stepped (machine code s) st l ≡ Some st1 → list_of st1 t ≡ list_of st t ++ entries_of t (added (machine code s) st l)
  step_tells st st1 l t e = by (cases_eq t (label_thread l))
    where
      by : (t ≡ label_thread l) ⊎ (t ≢ label_thread l) → list_of st1 t ≡ list_of st t ++ entries_of t (added (machine code s) st l)
      by (inl same) =
          let x = steps_of (machine code s) st l st1 e in
          let o = outcome_tells (label_thread l) st.words x.words (effect_of code s l x.before) x.before x.after (effect_tells l x.before) x.leaves in
          let threads_are : st1.threads ≡ slice_set st.threads (label_thread l) x.after = ap (λ (z : State Told). z.threads) x.to in
          let adds = adds_of (machine code s) st l st1 x in
          let here : list_of st1 (label_thread l) ≡ x.after.entries = ap (λ ths. list_in (slice_get ths (label_thread l))) threads_are ∙ ap list_in (slice_get-set_same st.threads (label_thread l) x.after x.before x.stands) in
          let there : list_of st (label_thread l) ≡ x.before.entries = ap list_in x.stands in
          ap (list_of st1) same ∙ here ∙ o.0 ∙ ap (λ es. es ++ effect_entry (machine code s) st.words (effect_of code s l x.before)) (sym there)
          ∙ ap (λ es. list_of st (label_thread l) ++ es) (sym o.1 ∙ ap (entries_of (label_thread l)) (sym adds))
          ∙ ap (λ u. list_of st u ++ entries_of u (added (machine code s) st l)) (sym same)
      by (inr ne) =
          let x = steps_of (machine code s) st l st1 e in
          let o = outcome_tells (label_thread l) st.words x.words (effect_of code s l x.before) x.before x.after (effect_tells l x.before) x.leaves in
          let threads_are : st1.threads ≡ slice_set st.threads (label_thread l) x.after = ap (λ (z : State Told). z.threads) x.to in
          let adds = adds_of (machine code s) st l st1 x in
          ap (λ ths. list_in (slice_get ths t)) threads_are ∙ ap list_in (slice_get-set_other st.threads (label_thread l) t x.after ne) ∙ sym (append-nil (list_of st t)) ∙ ap (λ es. list_of st t ++ es) (sym (o.2 t ne) ∙ ap (entries_of t) (sym adds))

  start_list : (t : ℕ) → list_of (start_state code s) t ≡ []
  start_list t = by (slice_get (start_state code s).threads t) refl
    where
      by : (o : Option Told) → slice_get (start_state code s).threads t ≡ o → list_in o ≡ []
      by None e = refl
      by (Some told) e = ap (λ (z : Told). z.entries) (start_thread_is code s t told e)

  -- each thread's list is its part of the run's entries
  pub list_is : (labels : List Label) (end : State Told) (t : ℕ) → run_of code s labels ≡ Some end → list_of end t ≡ entries_of t (trace (machine code s) labels (start_state code s))
  list_is labels end t e =
      lists_are (machine code s) (λ u st. list_of st u) (λ a b l u h. step_tells a b l u h) labels (start_state code s) end t e ∙ ap (λ es. es ++ entries_of t (trace (machine code s) labels (start_state code s))) (start_list t)

  lists_by : (threads : List Told) (k : ℕ) (xs : List Noted) → ((i : ℕ) → list_in (slice_get threads i) ≡ entries_of (k + i) xs) → lists_from k (length threads) xs ≡ map (λ (told : Told). told.entries) threads
  lists_by [] k xs h = refl
  lists_by (told ∷ threads) k xs h =
      let k_is : k ≡ k + 0 = omega arith in
      ap (λ es. es ∷ lists_from (k + 1) (length threads) xs) (ap (λ n. entries_of n xs) k_is ∙ sym (h 0))
      ∙ ap (λ ls. told.entries ∷ ls) (lists_by threads (k + 1) xs (λ i. let n : k + suc i ≡ k + 1 + i = omega arith in h (suc i) ∙ ap (λ n. entries_of n xs) n))

  pub lists_are_told : (labels : List Label) (end : State Told) → run_of code s labels ≡ Some end → lists_from 0 (length end.threads) (trace (machine code s) labels (start_state code s)) ≡ lists_of end
  lists_are_told labels end e =
      lists_by end.threads 0 (trace (machine code s) labels (start_state code s)) (λ i. let n : i ≡ 0 + i = omega arith in list_is labels end i e ∙ ap (λ k. entries_of k (trace (machine code s) labels (start_state code s))) n)
