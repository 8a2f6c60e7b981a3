-- What a step of the machine is: an access or a mark of a thread, or an operation, which is a thread's own or made of it by others.
use Rattle.std.proofs.Common.{◌≡◌, ℕ, ◌<◌, ◌≤◌, ◌⊎◌, inl, inr, ⊎_elim, Bool, true, false, if◌then◌else◌, nat_lt, List, [], Option, Some, refl, sym, ap, subst, ◌∙◌, ℤ, pos, arith}
use Rattle.std.specs.Prelude.{slice_get, slice_set}
use Rattle.std.proofs.lemmas.Bool.{ltb-true}
use Rattle.std.proofs.lemmas.Option.{get_or_from_slice_get, same_Some}
use Rattle.rr_base.proofs.Lists.{slice_get-set_other}
use Rattle.sync_objects.specs.Setup.{SetupView}
use Rattle.sync_objects.specs.Names.{name_of}
use Rattle.sync_objects.specs.Advance.{Advances, advanced}
use Rattle.sync_objects.specs.declared.entry.Entry.{Entry}
use Rattle.sync_objects.specs.declared.entry.Noted.{Noted}
use Rattle.sync_objects.specs.declared.object.ObjId.{ObjId}
use Rattle.sync_objects.specs.declared.object.ObjId.TheVariants as object
use Rattle.sync_objects.specs.declared.operation.Op.{Op}
use Rattle.sync_objects.specs.declared.operation.Op.TheVariants as op
use Rattle.word_semantics.specs.declared.event.Action.{Action}
use Rattle.word_semantics.specs.declared.event.Action.TheVariants as action
use Rattle.word_semantics.specs.Values.{number}
use Rattle.flow_code.specs.declared.code.Code.{Code}
use Rattle.flow_code.specs.Threads.{Thread}
use Rattle.flow_code.specs.Next.{stepped as thread_stepped, action_at, gave_up, stopped, slot_closed}
use Rattle.flow_code.specs.Settle.{settled}
use Rattle.flow_code.proofs.Counts.{IsAccessAction}
use Rattle.core_run.specs.Words.{cells_of, has_object, place_of}
use Rattle.thread_interpreter.specs.Pieces.{piece_next}
use Rattle.core_run.specs.Machine.{Told, entry_of, operation, action_effect, may_revoke, may_stop, may_close, effect_of, machine}
use Rattle.core_run.proofs.Lawful.{effect_go, effect_revoke, effect_stop, effect_close, change_is}
use Rattle.run_theory.specs.Labels.{Label, Go, Revoke, Stop, Close, label_thread}
use Rattle.run_theory.specs.Ordered.{Event, Marked, Loaded, Stored, Did, event_thread, operation_event, effect_event, event_of_thread, event_of}
use Rattle.run_theory.specs.Steps.{Change, Becomes, Leaves, Effect, Refused, Marks, Loads, Stores, Operates, State, outcome, stepped, number_at}
use Rattle.run_theory.proofs.Swap.{load_inv, change_inv, steps_of}

-- the event is no operation
abbrev pub IsNoOperation : Event → Type 0
IsNoOperation (Did t x before answer) = ⊥
IsNoOperation _ = Unit {0}

module _ (code : Code) (s : SetupView) where
  abbrev pub place : ObjId → ℕ
  place o = place_of (cells_of code s) o

  -- the thread's own next action, by which it comes to the state q
  pub record ComesTo (l : Label) (th : Thread) (a : Action) (answer : ℤ) (q : Thread) : Type 0 where
    pub label : l ≡ Go (label_thread l)
    pub comes : action_at code s (label_thread l) (settled code s (label_thread l) th) ≡ a
    pub after : q ≡ thread_stepped code s (label_thread l) (settled code s (label_thread l) th) answer

  -- how an operation comes to be made: by the thread itself, or by others
  pub data Makes (l : Label) (th : Thread) (o : Op) (obj : ObjId) (answer : ℤ) (q : Thread) : Type 0 where
    by_itself : ComesTo l th (action.Operate o obj) answer q → Makes l th o obj answer q
    by_revoke : (lock stripe : ℕ) → may_revoke th lock stripe ≡ true → o ≡ op.Revoke → obj ≡ object.Weak lock stripe → q ≡ gave_up th lock stripe → Makes l th o obj answer q
    by_stop : may_stop th ≡ true → o ≡ op.Stop → obj ≡ object.Halt → q ≡ stopped th → Makes l th o obj answer q
    by_close : may_close th ≡ true → o ≡ op.Close → obj ≡ object.Slot (label_thread l) → q ≡ slot_closed th → Makes l th o obj answer q

  -- an access or a mark changes no object's word
  pub record IsAccessStep (words after : List ℕ) (event : Option Event) (l : Label) (th q : Thread) : Type 0 where
    pub action : Action
    pub is_access : IsAccessAction action
    pub answer : ℤ
    pub comes : ComesTo l th action answer q
    pub objects : (i : ℕ) → cells_of code s ≤ i → slice_get after i ≡ slice_get words i
    pub what : Event
    pub happens : event ≡ Some what
    pub thread : event_thread what ≡ label_thread l
    pub no_operation : IsNoOperation what

  -- an operation changes its object's word by the table
  pub record IsOperationStep (words after : List ℕ) (event : Option Event) (l : Label) (th q : Thread) : Type 0 where
    pub op : Op
    pub obj : ObjId
    pub old : ℕ
    pub new : ℕ
    pub answer : ℤ
    pub has : has_object code s obj ≡ true
    pub at : slice_get words (place obj) ≡ Some old
    pub moves : advanced op (label_thread l) old ≡ Advances new answer
    pub changes : after ≡ slice_set words (place obj) new
    pub noted : Noted
    pub named : noted.entry.op ≡ name_of op
    pub on : noted.entry.obj ≡ obj
    pub happens : event ≡ Some (Did (label_thread l) noted old answer)
    pub makes : Makes l th op obj answer q

  abbrev pub StepKind : List ℕ → List ℕ → Option Event → Label → Thread → Thread → Type 0
  StepKind words after event l th q = IsAccessStep words after event l th q ⊎ IsOperationStep words after event l th q

  -- ---- what each effect is

  record OperatesBy (l : Label) (th : Thread) (e : Entry) (change : ℕ → Change Told) : Type 0 where
    op : Op
    obj : ObjId
    has : has_object code s obj ≡ true
    named : e.op ≡ name_of op
    on : e.obj ≡ obj
    row : (old new : ℕ) (answer : ℤ) (q : Told) → change old ≡ Becomes new answer q → (advanced op (label_thread l) old ≡ Advances new answer) × Makes l th op obj answer q.thread

  abbrev EffectIs : Label → Thread → Effect Told → Type 0
  EffectIs l th Refused = Unit {0}
  EffectIs l th (Marks q) = ComesTo l th action.Mark (pos 0) q.thread
  EffectIs l th (Loads c next) = (w : ℕ) → ComesTo l th (action.Load c) (number w) (next w).thread
  EffectIs l th (Stores c w q) = (c < cells_of code s) × ComesTo l th (action.Store c w) (pos 0) q.thread
  EffectIs l th (Operates e change) = OperatesBy l th e change

  if_is : (l : Label) (th : Thread) (b : Bool) (e : Effect Told) → (b ≡ true → EffectIs l th e) → EffectIs l th (if b then e else Refused)
  if_is l th true e h = h refl
  if_is l th false e h = tt

  operation_is : (l : Label) (th : Thread) (told : Told) (o : Op) (obj : ObjId) (printed : List (List ℕ)) (after : ℤ → Thread) → ((answer : ℤ) → Makes l th o obj answer (after answer)) → EffectIs l th (operation code s (label_thread l) told o obj printed after)
  operation_is l th told o obj printed after h =
      if_is l th (has_object code s obj) _ (λ has. record {
        op = o;
        obj = obj;
        has = has;
        named = refl;
        on = refl;
        row = λ old new answer q e.
            let i = change_is told (entry_of (label_thread l) told.thread (name_of o) obj) printed after old (advanced o (label_thread l) old) new answer q e in
            (i.0, subst (λ (z : Told). Makes l th o obj answer z.thread) (sym i.1) (h answer));
      })

  action_is : (t : ℕ) (told : Told) (a : Action) → action_at code s t (settled code s t told.thread) ≡ a → EffectIs (Go t) told.thread (action_effect code s t told (settled code s t told.thread) a)
  action_is t told action.Quiet e = tt
  action_is t told (action.Load c) e = if_is (Go t) told.thread (nat_lt c (cells_of code s)) _ (λ lt w. record { label = refl; comes = e; after = refl })
  action_is t told (action.Store c w) e = if_is (Go t) told.thread (nat_lt c (cells_of code s)) _ (λ lt. (ltb-true c (cells_of code s) lt, record { label = refl; comes = e; after = refl }))
  action_is t told action.Mark e = record { label = refl; comes = e; after = refl }
  action_is t told (action.Operate o obj) e =
      operation_is (Go t) told.thread (record told { thread = settled code s t told.thread }) o obj (piece_next code (settled code s t told.thread) o) (λ answer. thread_stepped code s t (settled code s t told.thread) answer) (λ answer. by_itself (record { label = refl; comes = e; after = refl }))
  action_is t told action.Ended e = tt

  effect_is : (l : Label) (told : Told) → EffectIs l told.thread (effect_of code s l told)
  effect_is (Go t) told = subst (EffectIs (Go t) told.thread) (sym (effect_go code s t told)) (action_is t told (action_at code s t (settled code s t told.thread)) refl)
  effect_is (Revoke t lock stripe) told =
      subst (EffectIs (Revoke t lock stripe) told.thread) (sym (effect_revoke code s t lock stripe told))
      (if_is (Revoke t lock stripe) told.thread (may_revoke told.thread lock stripe) _ (λ m. operation_is (Revoke t lock stripe) told.thread told op.Revoke (object.Weak lock stripe) [] (λ answer. gave_up told.thread lock stripe) (λ answer. by_revoke lock stripe m refl refl refl)))
  effect_is (Stop t) told =
      subst (EffectIs (Stop t) told.thread) (sym (effect_stop code s t told))
      (if_is (Stop t) told.thread (may_stop told.thread) _ (λ m. operation_is (Stop t) told.thread told op.Stop object.Halt [] (λ answer. stopped told.thread) (λ answer. by_stop m refl refl refl)))
  effect_is (Close t) told =
      subst (EffectIs (Close t) told.thread) (sym (effect_close code s t told))
      (if_is (Close t) told.thread (may_close told.thread) _ (λ m. operation_is (Close t) told.thread told op.Close (object.Slot t) [] (λ answer. slot_closed told.thread) (λ answer. by_close m refl refl refl)))

  -- ---- what it comes to

  outcome_is : (l : Label) (told : Told) (words after : List ℕ) (e : Effect Told) (q : Told) → EffectIs l told.thread e → outcome (machine code s) words e ≡ Leaves after q → StepKind words after (effect_event (machine code s) (label_thread l) words e) l told.thread q.thread
  outcome_is l told words after Refused q h e = cc
  outcome_is l told words after (Marks x) q h e =
      let q_is : x ≡ q = cc in
      let words_are : words ≡ after = cc in
      inl (record { action = action.Mark; is_access = tt; answer = pos 0; comes = subst (λ (z : Told). ComesTo l told.thread action.Mark (pos 0) z.thread) q_is h; objects = λ i le. ap (λ ws. slice_get ws i) (sym words_are); what = Marked (label_thread l); happens = refl; thread = refl; no_operation = tt })
  outcome_is l told words after (Loads c next) q h e =
      let i = load_inv words next (slice_get words c) after q e in
      inl (record { action = action.Load c; is_access = tt; answer = number i.0; comes = subst (λ (z : Told). ComesTo l told.thread (action.Load c) (number i.0) z.thread) (sym i.3) (h i.0); objects = λ j le. ap (λ ws. slice_get ws j) i.2; what = Loaded (label_thread l) c; happens = refl; thread = refl; no_operation = tt })
  outcome_is l told words after (Stores c w x) q h e =
      let i = change_inv words c (λ v. Becomes w (pos 0) x) (slice_get words c) after q e in
      let becomes : Becomes w (pos 0) x ≡ Becomes i.1 i.2 q = i.4 in
      let q_is : x ≡ q = cc in
      let low = h.0 in
      inl (record { action = action.Store c w; is_access = tt; answer = pos 0; comes = subst (λ (z : Told). ComesTo l told.thread (action.Store c w) (pos 0) z.thread) q_is h.1; objects = λ j le. ap (λ ws. slice_get ws j) i.5 ∙ slice_get-set_other words c j i.1 (λ same. absurd (omega arith)); what = Stored (label_thread l) c; happens = refl; thread = refl; no_operation = tt })
  outcome_is l told words after (Operates x change) q h e =
      let p = (machine code s).place x.obj in
      let i = change_inv words p change (slice_get words p) after q e in
      let old_is = get_or_from_slice_get words p i.0 0 i.3 in
      let noted : Noted = record { entry = x; number = number_at (machine code s) words x.obj } in
      let row = h.row i.0 i.1 i.2 q i.4 in
      let there = ap place h.on in
      inr (record {
        op = h.op;
        obj = h.obj;
        old = i.0;
        new = i.1;
        answer = i.2;
        has = h.has;
        at = ap (slice_get words) (sym there) ∙ i.3;
        moves = row.0;
        changes = i.5 ∙ ap (λ k. slice_set words k i.1) there;
        noted = noted;
        named = h.named;
        on = h.on;
        happens = ap (λ w. operation_event (label_thread l) noted w (change w)) old_is ∙ ap (operation_event (label_thread l) noted i.0) i.4;
        makes = row.1;
      })

  -- the thread of the label before and after the step, and what the step is
  pub record HasStepped (st : State Told) (l : Label) (st1 : State Told) : Type 0 where
    pub before : Told
    pub after : Told
    pub stands : slice_get st.threads (label_thread l) ≡ Some before
    pub threads : st1.threads ≡ slice_set st.threads (label_thread l) after
    pub kind : StepKind st.words st1.words (event_of (machine code s) st l) l before.thread after.thread

  pub has_stepped : (st st1 : State Told) (l : Label) → stepped (machine code s) st l ≡ Some st1 → HasStepped st l st1
  has_stepped st st1 l e =
      let x = steps_of (machine code s) st l st1 e in
      record {
        before = x.before;
        after = x.after;
        stands = x.stands;
        threads = ap (λ (z : State Told). z.threads) x.to;
        kind = subst (λ ws. StepKind st.words ws (event_of (machine code s) st l) l x.before.thread x.after.thread) (sym (ap (λ (z : State Told). z.words) x.to))
            (subst (λ v. StepKind st.words x.words v l x.before.thread x.after.thread) (sym (ap (event_of_thread (machine code s) st.words l) x.stands))
            (outcome_is l x.before st.words x.words (effect_of code s l x.before) x.after (effect_is l x.before) x.leaves));
      }

  -- what happens is of the label's thread
  pub event_is_own : (st st1 : State Told) (l : Label) → HasStepped st l st1 → (x : Event) → event_of (machine code s) st l ≡ Some x → event_thread x ≡ label_thread l
  event_is_own st st1 l h x e = ⊎_elim by_access by_operation h.kind
    where
      by_access : IsAccessStep st.words st1.words (event_of (machine code s) st l) l h.before.thread h.after.thread → event_thread x ≡ label_thread l
      by_access a = ap event_thread (same_Some x a.what (sym e ∙ a.happens)) ∙ a.thread

      by_operation : IsOperationStep st.words st1.words (event_of (machine code s) st l) l h.before.thread h.after.thread → event_thread x ≡ label_thread l
      by_operation y = ap event_thread (same_Some x (Did (label_thread l) y.noted y.old y.answer) (sym e ∙ y.happens))
