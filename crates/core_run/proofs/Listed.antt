-- How long the threads' lists of entries are, and how many of these are ending ones.
use Rattle.std.proofs.Common.{◌≡◌, ◌≢◌, ℕ, zero, suc, ◌+◌, ◌≤◌, ⊎_elim, Bool, true, false, if◌then◌else◌, nat_lt, List, [], ◌∷◌, ◌++◌, length, Some, refl, sym, ap, subst, ◌∙◌, ℤ, pos, arith}
use Rattle.std.specs.Prelude.{slice_get, slice_set}
use Rattle.std.proofs.lemmas.Bool.{cases_eq, true≢false}
use Rattle.std.proofs.lemmas.List.{length-append}
use Rattle.std.proofs.lemmas.Option.{same_Some}
use Rattle.rr_base.proofs.Lists.{slice_get-set_other, slice_get-set_same}
use Rattle.sync_objects.specs.Setup.{SetupView}
use Rattle.sync_objects.specs.Advance.{advanced}
use Rattle.sync_objects.specs.Names.{name_of, is_ending}
use Rattle.sync_objects.specs.Words.{number_of}
use Rattle.sync_objects.specs.declared.entry.Noted.{Noted}
use Rattle.sync_objects.specs.declared.object.ObjId.{ObjId}
use Rattle.sync_objects.specs.declared.object.ObjId.TheVariants as object
use Rattle.sync_objects.specs.declared.operation.Op.{Op}
use Rattle.sync_objects.specs.declared.operation.Op.TheVariants as op
use Rattle.sync_objects.specs.declared.operation.OpName.TheVariants as name
use Rattle.flow_code.specs.declared.code.Code.{Code}
use Rattle.word_semantics.specs.declared.event.Action.{Action}
use Rattle.word_semantics.specs.declared.event.Action.TheVariants as action
use Rattle.word_semantics.specs.Values.{number}
use Rattle.flow_code.specs.Threads.{Thread}
use Rattle.flow_code.specs.Next.{stepped as thread_stepped, action_at, gave_up, stopped, slot_closed}
use Rattle.flow_code.specs.Settle.{settled}
use Rattle.flow_code.specs.Ranges.{InRange}
use Rattle.flow_code.proofs.Ranges.{operation_count, not_ended, settled_in_range}
use Rattle.flow_code.proofs.Counts.{action_counts, settled_keeps_all}
use Rattle.flow_code.proofs.Endings.{ending_more, other_more, EndsSo, none_yet, Ends, settled_ends, access_ends, operate_ends, gave_up_ends, stopped_ends, shut_ends}
use Rattle.core_run.specs.Words.{cells_of, has_object}
use Rattle.thread_interpreter.specs.Pieces.{piece_next}
use Rattle.core_run.specs.Machine.{Told, entry_of, operation, action_effect, may_revoke, may_stop, may_close, effect_of, machine, start_state}
use Rattle.core_run.specs.Kept.{AreInRange, endings_in, IsAllowed}
use Rattle.core_run.proofs.Lawful.{effect_go, effect_revoke, effect_stop, effect_close, change_is}
use Rattle.core_run.proofs.ThreadRanges.{start_thread_is, revoke_lives, stop_lives, close_lives}
use Rattle.run_theory.specs.Labels.{Label, Go, Revoke, Stop, Close, label_thread}
use Rattle.run_theory.specs.Steps.{Becomes, Leaves, Effect, Refused, Marks, Loads, Stores, Operates, State, outcome, stepped}
use Rattle.run_theory.proofs.Swap.{load_inv, change_inv, steps_of}

-- one entry more
endings_more : (xs : List Noted) (x : Noted) → endings_in (xs ++ x ∷ []) ≡ (if is_ending x.entry.op then endings_in xs + 1 else endings_in xs)
endings_more [] x = by (is_ending x.entry.op)
  where
    by : (b : Bool) → (if b then suc 0 else 0) ≡ (if b then 0 + 1 else 0)
    by true = omega arith
    by false = refl
endings_more (y ∷ xs) x = by (is_ending y.entry.op) (is_ending x.entry.op) (endings_more xs x)
  where
    by : (a b : Bool) → endings_in (xs ++ x ∷ []) ≡ (if b then endings_in xs + 1 else endings_in xs) → (if a then suc (endings_in (xs ++ x ∷ [])) else endings_in (xs ++ x ∷ [])) ≡ (if b then (if a then suc (endings_in xs) else endings_in xs) + 1 else (if a then suc (endings_in xs) else endings_in xs))
    by true true e = omega (arith, e)
    by true false e = omega (arith, e)
    by false true e = e
    by false false e = e

-- what holds of each entry holds where there is one more of which it holds
each_more : (P : Noted → Type 0) (xs : List Noted) (x : Noted) → ((k : ℕ) (y : Noted) → slice_get xs k ≡ Some y → P y) → P x → (k : ℕ) (y : Noted) → slice_get (xs ++ x ∷ []) k ≡ Some y → P y
each_more P [] x h p zero y e = let same : x ≡ y = cc in subst P same p
each_more P [] x h p (suc k) y e = cc
each_more P (z ∷ xs) x h p zero y e = h zero y e
each_more P (z ∷ xs) x h p (suc k) y e = each_more P xs x (λ j. h (suc j)) p k y e

module _ (code : Code) (s : SetupView) where
  -- a thread's list is as long as its numbers tell, and few of its entries are ending ones
  pub record IsListed (t : ℕ) (told : Told) : Type 0 where
    pub sum : length told.entries ≡ told.thread.entries + endings_in told.entries
    pub ends : EndsSo code s t told.thread (endings_in told.entries)
    pub allowed : (k : ℕ) (x : Noted) → slice_get told.entries k ≡ Some x → IsAllowed code s t x.entry

  pub record AreListed (threads : List Told) : Type 0 where
    pub each : (t : ℕ) (told : Told) → slice_get threads t ≡ Some told → IsListed t told

  -- an effect keeps this
  abbrev KeepsListed : ℕ → Effect Told → Type 0
  KeepsListed t Refused = Unit {0}
  KeepsListed t (Marks told) = IsListed t told
  KeepsListed t (Loads c next) = (w : ℕ) → IsListed t (next w)
  KeepsListed t (Stores c w told) = IsListed t told
  KeepsListed t (Operates e change) = (old new : ℕ) (answer : ℤ) (told : Told) → change old ≡ Becomes new answer told → IsListed t told

  if_listed : (t : ℕ) (b : Bool) (e : Effect Told) → (b ≡ true → KeepsListed t e) → KeepsListed t (if b then e else Refused)
  if_listed t true e h = h refl
  if_listed t false e h = tt

  -- a list that has one entry more
  sum_more : (o : Op) (many entries endings : ℕ) → many ≡ entries + endings → many + 1 ≡ other_more o entries + ending_more o endings
  sum_more o many entries endings e = by (is_ending (name_of o))
    where
      by : (b : Bool) → many + 1 ≡ (if b then entries else entries + 1) + (if b then endings + 1 else endings)
      by true = omega (arith, e)
      by false = omega (arith, e)

  more_listed : (t : ℕ) (told q : Told) (o : Op) (th : Thread) (x : Noted) → IsListed t told → x.entry.op ≡ name_of o → IsAllowed code s t x.entry → Ends code s t o told.thread th (endings_in told.entries) → q.thread ≡ th → q.entries ≡ told.entries ++ x ∷ [] → IsListed t q
  more_listed t told q o th x h is fits e thread entries =
      let endings : endings_in q.entries ≡ ending_more o (endings_in told.entries) = ap endings_in entries ∙ endings_more told.entries x ∙ ap (λ n. if is_ending n then endings_in told.entries + 1 else endings_in told.entries) is in
      let longer : length q.entries ≡ length told.entries + 1 = omega (arith, ap length entries, length-append told.entries (x ∷ [])) in
      record {
        sum = longer ∙ sum_more o (length told.entries) told.thread.entries (endings_in told.entries) h.sum ∙ ap (λ n. n + ending_more o (endings_in told.entries)) (sym (ap (λ (z : Thread). z.entries) thread ∙ e.1)) ∙ ap (λ n. q.thread.entries + n) (sym endings);
        ends = subst (λ n. EndsSo code s t q.thread n) (sym endings) (subst (λ (z : Thread). EndsSo code s t z (ending_more o (endings_in told.entries))) (sym thread) e.0);
        allowed = subst (λ xs. (k : ℕ) (y : Noted) → slice_get xs k ≡ Some y → IsAllowed code s t y.entry) (sym entries) (each_more (λ y. IsAllowed code s t y.entry) told.entries x h.allowed fits);
      }

  operation_listed : (t : ℕ) (told : Told) (o : Op) (obj : ObjId) (printed : List (List ℕ)) (after : ℤ → Thread) → IsListed t told → (has_object code s obj ≡ true → IsAllowed code s t (entry_of t told.thread (name_of o) obj)) → ((answer : ℤ) → Ends code s t o told.thread (after answer) (endings_in told.entries)) → KeepsListed t (operation code s t told o obj printed after)
  operation_listed t told o obj printed after h fits k =
      if_listed t (has_object code s obj) _ (λ has old new answer q e.
      let c = (change_is told (entry_of t told.thread (name_of o) obj) printed after old (advanced o t old) new answer q e).1 in
      more_listed t told q o (after answer) (record { entry = entry_of t told.thread (name_of o) obj; number = number_of old }) h refl (fits has) (k answer) (ap (λ (z : Told). z.thread) c) (ap (λ (z : Told). z.entries) c))

  same_listed : (t : ℕ) (told q : Told) → IsListed t told → q.entries ≡ told.entries → q.thread.entries ≡ told.thread.entries → EndsSo code s t q.thread (endings_in told.entries) → IsListed t q
  same_listed t told q h same entries e = record {
    sum = ap length same ∙ h.sum ∙ ap (λ n. n + endings_in told.entries) (sym entries) ∙ ap (λ xs. q.thread.entries + endings_in xs) (sym same);
    ends = subst (λ xs. EndsSo code s t q.thread (endings_in xs)) (sym same) e;
    allowed = subst (λ xs. (k : ℕ) (y : Noted) → slice_get xs k ≡ Some y → IsAllowed code s t y.entry) (sym same) h.allowed;
  }

  action_listed : (t : ℕ) (told : Told) (st : Thread) (a : Action) → action_at code s t st ≡ a → InRange code s 0 t st → IsListed t (record told { thread = st }) → KeepsListed t (action_effect code s t told st a)
  action_listed t told st action.Quiet e r h = tt
  action_listed t told st (action.Load c) e r h = if_listed t (nat_lt c (cells_of code s)) _ (λ lt w. same_listed t (record told { thread = st }) _ h refl (action_counts code s t st (action.Load c) (number w) tt e).entries (access_ends code s t st (action.Load c) (number w) (endings_in told.entries) tt e h.ends))
  action_listed t told st (action.Store c w) e r h = if_listed t (nat_lt c (cells_of code s)) _ (λ lt. same_listed t (record told { thread = st }) _ h refl (action_counts code s t st (action.Store c w) (pos 0) tt e).entries (access_ends code s t st (action.Store c w) (pos 0) (endings_in told.entries) tt e h.ends))
  action_listed t told st action.Mark e r h = same_listed t (record told { thread = st }) _ h refl (action_counts code s t st action.Mark (pos 0) tt e).entries (access_ends code s t st action.Mark (pos 0) (endings_in told.entries) tt e h.ends)
  action_listed t told st (action.Operate o obj) e r h =
      let c = operation_count code s 0 t st o obj e r.counted in
      operation_listed t (record told { thread = st }) o obj (piece_next code st o) (λ answer. thread_stepped code s t st answer) h (λ has. record { thread = refl; object = has; count = omega (arith, c.0); early = λ n ne. let few = c.1 n in omega arith }) (λ answer. operate_ends code s t st o obj answer (endings_in told.entries) e h.ends)
  action_listed t told st action.Ended e r h = tt

  -- an entry that others make of the thread
  outside : (t : ℕ) (told : Told) (o : Op) (obj : ObjId) → has_object code s obj ≡ true → told.thread.count ≤ s.limit + 0 + 1 → (is_ending (name_of o) ≡ false → name_of o ≢ name.Revoke → told.thread.count ≤ s.limit) → IsAllowed code s t (entry_of t told.thread (name_of o) obj)
  outside t told o obj has few early = record { thread = refl; object = has; count = omega (arith, few); early = early }

  effect_listed : (l : Label) (told : Told) → InRange code s 0 (label_thread l) told.thread → IsListed (label_thread l) told → KeepsListed (label_thread l) (effect_of code s l told)
  effect_listed (Go t) told r h =
      let st = settled code s t told.thread in
      let k = (settled_keeps_all code s t told.thread).rest in
      let here : IsListed t (record told { thread = st }) = same_listed t told (record told { thread = st }) h refl k.entries (settled_ends code s t told.thread (endings_in told.entries) h.ends) in
      subst (KeepsListed t) (sym (effect_go code s t told)) (action_listed t told st (action_at code s t st) refl (settled_in_range code s 0 t told.thread r) here)
  effect_listed (Revoke t lock stripe) told r h =
      subst (KeepsListed t) (sym (effect_revoke code s t lock stripe told)) (if_listed t (may_revoke told.thread lock stripe) _ (λ m. operation_listed t told op.Revoke (object.Weak lock stripe) [] (λ answer. gave_up told.thread lock stripe) h (λ has. outside t told op.Revoke (object.Weak lock stripe) has (not_ended code s 0 t told.thread r.counted (λ e. true≢false (sym e ∙ revoke_lives told.thread lock stripe m))) (λ n ne. absurd (ne refl))) (λ answer. (gave_up_ends code s t told.thread lock stripe (endings_in told.entries) h.ends, refl))))
  effect_listed (Stop t) told r h =
      subst (KeepsListed t) (sym (effect_stop code s t told)) (if_listed t (may_stop told.thread) _ (λ m. operation_listed t told op.Stop object.Halt [] (λ answer. stopped told.thread) h (λ has. outside t told op.Stop object.Halt has (not_ended code s 0 t told.thread r.counted (λ e. true≢false (sym e ∙ stop_lives told.thread m))) (λ n ne. absurd (true≢false n))) (λ answer. (stopped_ends code s t told.thread (endings_in told.entries) (stop_lives told.thread m) h.ends, refl))))
  effect_listed (Close t) told r h =
      subst (KeepsListed t) (sym (effect_close code s t told)) (if_listed t (may_close told.thread) _ (λ m. operation_listed t told op.Close (object.Slot t) [] (λ answer. slot_closed told.thread) h (λ has. outside t told op.Close (object.Slot t) has (not_ended code s 0 t told.thread r.counted (λ e. true≢false (sym e ∙ close_lives told.thread m))) (λ n ne. absurd (true≢false n))) (λ answer. (shut_ends code s t told.thread (endings_in told.entries) (close_lives told.thread m) h.ends, refl))))

  outcome_listed : (t : ℕ) (words after : List ℕ) (e : Effect Told) (told : Told) → KeepsListed t e → outcome (machine code s) words e ≡ Leaves after told → IsListed t told
  outcome_listed t words after Refused told h e = cc
  outcome_listed t words after (Marks th) told h e = let same : th ≡ told = cc in subst (IsListed t) same h
  outcome_listed t words after (Loads c next) told h e =
      let i = load_inv words next (slice_get words c) after told e in
      subst (IsListed t) (sym i.3) (h i.0)
  outcome_listed t words after (Stores c w th) told h e =
      let i = change_inv words c (λ v. Becomes w (pos 0) th) (slice_get words c) after told e in
      let becomes : Becomes w (pos 0) th ≡ Becomes i.1 i.2 told = i.4 in
      let same : th ≡ told = cc in
      subst (IsListed t) same h
  outcome_listed t words after (Operates x change) told h e =
      let p = (machine code s).place x.obj in
      let i = change_inv words p change (slice_get words p) after told e in
      h i.0 i.1 i.2 told i.4

  set_listed : (threads : List Told) (t : ℕ) (before after : Told) → slice_get threads t ≡ Some before → IsListed t after → AreListed threads → AreListed (slice_set threads t after)
  set_listed threads t before after at h k = record {
    each = λ u told e. ⊎_elim
        (λ same. subst (λ n. IsListed n told) (sym same) (subst (IsListed t) (same_Some after told (sym (slice_get-set_same threads t after before at) ∙ ap (slice_get (slice_set threads t after)) (sym same) ∙ e)) h))
        (λ ne. k.each u told (sym (slice_get-set_other threads t u after ne) ∙ e))
        (cases_eq u t);
  }

  -- each step keeps this of all threads
  pub threads_listed : (st st1 : State Told) (l : Label) → stepped (machine code s) st l ≡ Some st1 → AreInRange code s st.threads → AreListed st.threads → AreListed st1.threads
  threads_listed st st1 l e r k =
      let x = steps_of (machine code s) st l st1 e in
      let h = k.each (label_thread l) x.before x.stands in
      subst AreListed (sym (ap (λ (z : State Told). z.threads) x.to))
      (set_listed st.threads (label_thread l) x.before x.after x.stands (outcome_listed (label_thread l) st.words x.words (effect_of code s l x.before) x.after (effect_listed l x.before (r.each (label_thread l) x.before x.stands) h) x.leaves) k)

  pub start_listed : AreListed (start_state code s).threads
  start_listed = record { each = λ t told e. subst (IsListed t) (sym (start_thread_is code s t told e)) (record { sum = omega arith; ends = none_yet refl; allowed = λ k x g. cc }) }
