-- The accesses that the threads of a walk's last state have made stand at places of the walk.
use Rattle.std.proofs.Common.{◌≡◌, ◌≢◌, ℕ, zero, suc, ◌+◌, nat_lt, ◌⊎◌, inl, inr, ⊎_elim, Bool, true, false, if◌then◌else◌, List, [], ◌∷◌, ◌++◌, Option, Some, None, refl, sym, ap, subst, ◌∙◌, ℤ, pos}
use Rattle.std.specs.Prelude.{option_and_then, slice_get, slice_set, Contains}
use Rattle.std.proofs.lemmas.Bool.{cases_eq}
use Rattle.std.proofs.lemmas.Option.{same_Some}
use Rattle.rr_base.proofs.Lists.{slice_get-set_other, slice_get-set_same}
use Rattle.sync_objects.specs.Setup.{SetupView}
use Rattle.sync_objects.specs.declared.entry.Entry.{Entry}
use Rattle.sync_objects.specs.Names.{name_of}
use Rattle.sync_objects.specs.Advance.{advanced}
use Rattle.sync_objects.specs.declared.object.ObjId.{ObjId}
use Rattle.sync_objects.specs.declared.object.ObjId.TheVariants as object
use Rattle.sync_objects.specs.declared.operation.Op.{Op}
use Rattle.sync_objects.specs.declared.operation.Op.TheVariants as op
use Rattle.word_semantics.specs.declared.event.Action.{Action}
use Rattle.word_semantics.specs.declared.event.Action.TheVariants as action
use Rattle.flow_code.specs.Threads.{Thread}
use Rattle.flow_code.specs.Next.{stepped as thread_stepped, action_at, gave_up, stopped, slot_closed}
use Rattle.flow_code.specs.Settle.{settled}
use Rattle.flow_code.proofs.Counts.{settled_count}
use Rattle.thread_interpreter.specs.Pieces.{piece_next}
use Rattle.core_run.specs.Words.{cells_of, has_object}
use Rattle.core_run.proofs.Lawful.{effect_go, effect_revoke, effect_stop, effect_close, change_is}
use Rattle.std.proofs.lemmas.List.Elements.{Contains-append_cases}
use Rattle.run_theory.proofs.Swap.{Steps, load_inv, change_inv, steps_of}
use Rattle.run_theory.proofs.Locked.{event_first, event_more}
use Rattle.walk_accesses.proofs.Lists.{none, only_one}
use Rattle.flow_code.specs.declared.code.Code.{Code}
use Rattle.thread_interpreter.specs.declared.access.Access.{Access}
use Rattle.core_run.specs.Machine.{Told, access_of, entry_of, operation, action_effect, may_revoke, may_stop, may_close, effect_of, machine, start_state, start_told, start_threads_from}
use Rattle.core_run.specs.Walks.{walk_of}
use Rattle.run_theory.specs.Labels.{Label, Go, Revoke, Stop, Close, label_thread}
use Rattle.run_theory.specs.Laws.{NoAccess, LoadOf, StoreOf}
use Rattle.run_theory.specs.Laws as laws
use Rattle.run_theory.specs.Ordered.{Event, Loaded, Stored, event_thread, event_access, effect_event, event_of_thread, event_of, event_at, state_at}
use Rattle.run_theory.specs.Steps.{Change, Becomes, Leaves, Effect, Refused, Marks, Loads, Stores, Operates, State, outcome, stepped, run, count_or_zero, count_of}
use Rattle.lowering_simulation.specs.WalkEvents.{labels_of_walk}
use Rattle.lowering_simulation.proofs.WalkRuns.{then_inv, walk_is_run}
use Rattle.walk_accesses.specs.Accesses.{IsMadeAt}
use Rattle.chain_report.specs.Accesses.{IsAccessOf}
use Rattle.chain_report.specs.declared.point.Point.{Point}

-- what an access touches
abbrev pub touched : Access → laws.Access
touched a = if a.store then StoreOf a.cell else LoadOf a.cell

module _ (code : Code) (s : SetupView) where
  -- the access is made at this place of the run
  pub record Made (ls : List Label) (st : State Told) (t : ℕ) (a : Access) : Type 0 where
    pub i : ℕ
    pub event : Event
    pub happens : event_at (machine code s) ls st i ≡ Some event
    pub own : event_thread event ≡ t
    pub touches : event_access event ≡ touched a
    pub before : State Told
    pub stands : state_at (machine code s) ls st i ≡ Some before
    pub counted : count_of (machine code s) before t ≡ a.count

  -- what a step makes
  record MadeBy (st : State Told) (l : Label) (t : ℕ) (a : Access) : Type 0 where
    event : Event
    happens : event_of (machine code s) st l ≡ Some event
    own : event_thread event ≡ t
    touches : event_access event ≡ touched a
    counted : count_of (machine code s) st t ≡ a.count

  -- ---- a load or a store is put after the accesses before it, with its thread's count; nothing else changes them

  abbrev Adds : Told → Effect Told → Type 0
  Adds told Refused = Unit {0}
  Adds told (Marks q) = q.accesses ≡ told.accesses
  Adds told (Loads c next) = (w : ℕ) → (a : Access) × ((next w).accesses ≡ told.accesses ++ a ∷ []) × (touched a ≡ LoadOf c) × (a.count ≡ told.thread.count)
  Adds told (Stores c w q) = (a : Access) × (q.accesses ≡ told.accesses ++ a ∷ []) × (touched a ≡ StoreOf c) × (a.count ≡ told.thread.count)
  Adds told (Operates e change) = (old new : ℕ) (answer : ℤ) (q : Told) → change old ≡ Becomes new answer q → q.accesses ≡ told.accesses

  if_adds : (told : Told) (b : Bool) (e : Effect Told) → Adds told e → Adds told (if b then e else Refused)
  if_adds told true e h = h
  if_adds told false e h = tt

  operation_adds : (t : ℕ) (told before : Told) (o : Op) (obj : ObjId) (printed : List (List ℕ)) (after : ℤ → Thread) → before.accesses ≡ told.accesses → Adds told (operation code s t before o obj printed after)
  operation_adds t told before o obj printed after same =
      if_adds told (has_object code s obj) _ (λ old new answer q e.
      ap (λ (z : Told). z.accesses) (change_is before (entry_of t before.thread (name_of o) obj) printed after old (advanced o t old) new answer q e).1 ∙ same)

  action_adds : (t : ℕ) (told : Told) (st : Thread) (a : Action) → st.count ≡ told.thread.count → Adds told (action_effect code s t told st a)
  action_adds t told st action.Quiet same = tt
  action_adds t told st (action.Load c) same = if_adds told (nat_lt c (cells_of code s)) _ (λ w. (access_of t st c w false, refl, refl, same))
  action_adds t told st (action.Store c w) same = if_adds told (nat_lt c (cells_of code s)) _ (access_of t st c w true, refl, refl, same)
  action_adds t told st action.Mark same = refl
  action_adds t told st (action.Operate o obj) same = operation_adds t told (record told { thread = st }) o obj (piece_next code st o) (λ answer. thread_stepped code s t st answer) refl
  action_adds t told st action.Ended same = tt

  effect_adds : (l : Label) (told : Told) → Adds told (effect_of code s l told)
  effect_adds (Go t) told = subst (Adds told) (sym (effect_go code s t told)) (action_adds t told (settled code s t told.thread) (action_at code s t (settled code s t told.thread)) (settled_count code s t told.thread))
  effect_adds (Revoke t lock stripe) told = subst (Adds told) (sym (effect_revoke code s t lock stripe told)) (if_adds told (may_revoke told.thread lock stripe) _ (operation_adds t told told op.Revoke (object.Weak lock stripe) [] (λ answer. gave_up told.thread lock stripe) refl))
  effect_adds (Stop t) told = subst (Adds told) (sym (effect_stop code s t told)) (if_adds told (may_stop told.thread) _ (operation_adds t told told op.Stop object.Halt [] (λ answer. stopped told.thread) refl))
  effect_adds (Close t) told = subst (Adds told) (sym (effect_close code s t told)) (if_adds told (may_close told.thread) _ (operation_adds t told told op.Close (object.Slot t) [] (λ answer. slot_closed told.thread) refl))

  -- ---- one step

  abbrev Was : State Told → ℕ → Access → Type 0
  Was st t a = (told : Told) × (slice_get st.threads t ≡ Some told) × Contains told.accesses a

  record Step (l : Label) (told after : Told) (ws : List ℕ) (f : Effect Told) (a : Access) : Type 0 where
    event : Event
    happens : effect_event (machine code s) (label_thread l) ws f ≡ Some event
    own : event_thread event ≡ label_thread l
    touches : event_access event ≡ touched a
    counted : told.thread.count ≡ a.count

  one_more : (xs : List Access) (b a : Access) → Contains (xs ++ b ∷ []) a → Contains xs a ⊎ (b ≡ a)
  one_more xs b a c = ⊎_elim (λ q. inl q) (λ q. inr (only_one b a q)) (Contains-append_cases xs (b ∷ []) a c)

  outcome_makes : (l : Label) (told after : Told) (ws ws1 : List ℕ) (f : Effect Told) (a : Access) → Adds told f → outcome (machine code s) ws f ≡ Leaves ws1 after → Contains after.accesses a → Contains told.accesses a ⊎ Step l told after ws f a
  outcome_makes l told after ws ws1 Refused a adds h c = cc
  outcome_makes l told after ws ws1 (Marks q) a adds h c =
      let same : q ≡ after = cc in
      inl (subst (λ xs. Contains xs a) (ap (λ (z : Told). z.accesses) (sym same) ∙ adds) c)
  outcome_makes l told after ws ws1 (Loads cell next) a adds h c =
      let i = load_inv ws next (slice_get ws cell) ws1 after h in
      let b = adds i.0 in
      ⊎_elim
      (λ q. inl q)
      (λ (q : b.0 ≡ a). inr (record { event = Loaded (label_thread l) cell; happens = refl; own = refl; touches = sym b.2 ∙ ap touched q; counted = sym b.3 ∙ ap (λ (z : Access). z.count) q }))
      (one_more told.accesses b.0 a (subst (λ xs. Contains xs a) (ap (λ (z : Told). z.accesses) i.3 ∙ b.1) c))
  outcome_makes l told after ws ws1 (Stores cell w q) a adds h c =
      let i = change_inv ws cell (λ v. Becomes w (pos 0) q) (slice_get ws cell) ws1 after h in
      let becomes : Becomes w (pos 0) q ≡ Becomes i.1 i.2 after = i.4 in
      let same : q ≡ after = cc in
      ⊎_elim
      (λ x. inl x)
      (λ (x : adds.0 ≡ a). inr (record { event = Stored (label_thread l) cell; happens = refl; own = refl; touches = sym adds.2 ∙ ap touched x; counted = sym adds.3 ∙ ap (λ (z : Access). z.count) x }))
      (one_more told.accesses adds.0 a (subst (λ xs. Contains xs a) (ap (λ (z : Told). z.accesses) (sym same) ∙ adds.1) c))
  outcome_makes l told after ws ws1 (Operates e change) a adds h c =
      let p = (machine code s).place e.obj in
      let i = change_inv ws p change (slice_get ws p) ws1 after h in
      inl (subst (λ xs. Contains xs a) (adds i.0 i.1 i.2 after i.4) c)

  step_makes : (st st1 : State Told) (l : Label) (t : ℕ) (told1 : Told) (a : Access) → stepped (machine code s) st l ≡ Some st1 → slice_get st1.threads t ≡ Some told1 → Contains told1.accesses a → Was st t a ⊎ MadeBy st l t a
  step_makes st st1 l t told1 a h at c = ⊎_elim own other (cases_eq (label_thread l) t)
    where
      x : Steps (machine code s) st l st1
      x = steps_of (machine code s) st l st1 h

      threads : st1.threads ≡ slice_set st.threads (label_thread l) x.after
      threads = ap (λ (z : State Told). z.threads) x.to

      own : label_thread l ≡ t → Was st t a ⊎ MadeBy st l t a
      own e =
          let is_after : x.after ≡ told1 = same_Some x.after told1 (sym (slice_get-set_same st.threads (label_thread l) x.after x.before x.stands) ∙ ap (λ ths. slice_get ths (label_thread l)) (sym threads) ∙ ap (slice_get st1.threads) e ∙ at) in
          ⊎_elim
          (λ q. inl (x.before, ap (slice_get st.threads) (sym e) ∙ x.stands, q))
          (λ (q : Step l x.before x.after st.words (effect_of code s l x.before) a). inr (record {
            event = q.event;
            happens = ap (event_of_thread (machine code s) st.words l) x.stands ∙ q.happens;
            own = q.own ∙ e;
            touches = q.touches;
            counted = ap (λ u. count_or_zero (machine code s) (slice_get st.threads u)) (sym e) ∙ ap (count_or_zero (machine code s)) x.stands ∙ q.counted;
          }))
          (outcome_makes l x.before x.after st.words x.words (effect_of code s l x.before) a (effect_adds l x.before) x.leaves (subst (λ (z : Told). Contains z.accesses a) (sym is_after) c))

      other : label_thread l ≢ t → Was st t a ⊎ MadeBy st l t a
      other ne = inl (told1, sym (ap (λ ths. slice_get ths t) threads ∙ slice_get-set_other st.threads (label_thread l) t x.after (λ e. ne (sym e))) ∙ at, c)

  -- ---- a run

  run_makes : (ls : List Label) (st end : State Told) (t : ℕ) (told : Told) (a : Access) → run (machine code s) ls st ≡ Some end → slice_get end.threads t ≡ Some told → Contains told.accesses a → Was st t a ⊎ Made ls st t a
  run_makes [] st end t told a h at c = inl (told, ap (λ (z : State Told). slice_get z.threads t) (same_Some st end h) ∙ at, c)
  run_makes (l ∷ ls) st end t told a h at c =
      let i = then_inv (run (machine code s) ls) (stepped (machine code s) st l) end h in
      ⊎_elim
      (λ (w : Was i.0 t a). ⊎_elim
      (λ q. inl q)
      (λ (q : MadeBy st l t a). inr (record { i = 0; event = q.event; happens = event_first (machine code s) l ls st i.0 i.1 ∙ q.happens; own = q.own; touches = q.touches; before = st; stands = refl; counted = q.counted }))
      (step_makes st i.0 l t w.0 a i.1 w.1 w.2))
      (λ (q : Made ls i.0 t a). inr (record {
        i = suc q.i;
        event = q.event;
        happens = event_more (machine code s) l ls st i.0 q.i i.1 ∙ q.happens;
        own = q.own;
        touches = q.touches;
        before = q.before;
        stands = ap (option_and_then (λ z. state_at (machine code s) ls z q.i)) i.1 ∙ q.stands;
        counted = q.counted;
      }))
      (run_makes ls i.0 end t told a i.2 at c)

  -- no access is made before the start
  none_at_start : (k n t : ℕ) (told : Told) → slice_get (start_threads_from code s k n) t ≡ Some told → told.accesses ≡ []
  none_at_start k zero t told at = cc
  none_at_start k (suc n) zero told at = ap (λ (z : Told). z.accesses) (sym (same_Some (start_told code s k) told at))
  none_at_start k (suc n) (suc t) told at = none_at_start (k + 1) n t told at

  -- what the thread has made in the walk's last state is an access of the walk
  pub record Found (es : List Entry) (p : Point) (a : Access) : Type 0 where
    pub i : ℕ
    pub is : IsAccessOf code s es p i
    pub touches : event_access is.event ≡ touched a

  pub found_at : (es : List Entry) (p : Point) (a : Access) → IsMadeAt code s es p.thread p.count a → Found es p a
  found_at es p a m =
      ⊎_elim
      (λ (w : Was (start_state code s) p.thread a). absurd (none a (subst (λ xs. Contains xs a) (none_at_start 0 s.slots p.thread w.0 w.1) w.2)))
      (λ (q : Made (labels_of_walk code s es) (start_state code s) p.thread a). record {
        i = q.i;
        is = record { event = q.event; happens = q.happens; own = q.own; accesses = λ e. some a (sym q.touches ∙ e); before = q.before; stands = q.stands; counted = q.counted ∙ m.counted };
        touches = q.touches;
      })
      (run_makes (labels_of_walk code s es) (start_state code s) m.end p.thread m.told a (walk_is_run code s es m.end m.walked) m.stands m.made)
    where
      some : (x : Access) → touched x ≡ NoAccess → ⊥
      some x e = by x.store e
        where
          by : (b : Bool) → (if b then StoreOf x.cell else LoadOf x.cell) ≡ NoAccess → ⊥
          by true f = cc
          by false f = cc
