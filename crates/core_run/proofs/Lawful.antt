-- The machine of a code keeps to the laws of runs.
use Rattle.std.proofs.Common.{◌≡◌, ℕ, suc, ◌≤◌, Bool, true, false, if◌then◌else◌, nat_lt, List, [], refl, sym, ap, subst, ◌∙◌, ℤ, pos, arith}
use Rattle.std.proofs.lemmas.Bool.{ltb-true}
use Rattle.sync_objects.specs.Setup.{SetupView, IsWithinLimits}
use Rattle.sync_objects.specs.Names.{name_of}
use Rattle.sync_objects.specs.Words.{number_of}
use Rattle.sync_objects.specs.Advance.{Advance, NotAllowed as NoRow, Advances, advanced}
use Rattle.sync_objects.specs.declared.entry.Entry.{Entry}
use Rattle.sync_objects.specs.declared.object.ObjId.{ObjId}
use Rattle.sync_objects.specs.declared.object.ObjId.TheVariants as object
use Rattle.sync_objects.specs.declared.operation.Op.{Op}
use Rattle.sync_objects.specs.declared.operation.Op.TheVariants as op
use Rattle.sync_objects.specs.declared.operation.OpName.{OpName}
use Rattle.sync_objects.specs.declared.operation.OpName.TheVariants as name
use Rattle.sync_objects.proofs.Soundness.{number_rises}
use Rattle.flow_code.specs.declared.code.Code.{Code}
use Rattle.word_semantics.specs.declared.event.Action.{Action}
use Rattle.word_semantics.specs.declared.event.Action.TheVariants as action
use Rattle.word_semantics.specs.Values.{number}
use Rattle.flow_code.specs.Threads.{Thread}
use Rattle.flow_code.specs.Next.{stepped, action_at, gave_up, stopped, slot_closed}
use Rattle.flow_code.specs.Settle.{settled, IsRunnable}
use Rattle.word_semantics.proofs.Calls.{is_from_outside}
use Rattle.flow_code.proofs.Counts.{Counts, action_counts, step_grows, settled_count}
use Rattle.flow_code.proofs.Asked.{own_action}
use Rattle.core_run.specs.Words.{cells_of, has_object}
use Rattle.thread_interpreter.specs.Pieces.{piece_next}
use Rattle.core_run.specs.Machine.{Told, operated, change_of, entry_of, operation, action_effect, may_revoke, may_stop, may_close, effect_of, machine}
use Rattle.core_run.proofs.Places.{place_past, place_apart}
use Rattle.run_theory.specs.Labels.{Label, Go, Revoke, Stop, Close, operation_label}
use Rattle.run_theory.specs.Steps.{Becomes, Effect, Refused}
use Rattle.run_theory.specs.Laws.{GoesOn, IsLawfulEffect, IsLawful}

-- what a label does, by the kind of the label

pub effect_go : (code : Code) (s : SetupView) (t : ℕ) (told : Told) → effect_of code s (Go t) told ≡ action_effect code s t told (settled code s t told.thread) (action_at code s t (settled code s t told.thread))
unfolding effect_of
effect_go code s t told = refl

pub effect_revoke : (code : Code) (s : SetupView) (t lock stripe : ℕ) (told : Told) → effect_of code s (Revoke t lock stripe) told ≡ (if may_revoke told.thread lock stripe then operation code s t told op.Revoke (object.Weak lock stripe) [] (λ answer. gave_up told.thread lock stripe) else Refused)
unfolding effect_of
effect_revoke code s t lock stripe told = refl

pub effect_stop : (code : Code) (s : SetupView) (t : ℕ) (told : Told) → effect_of code s (Stop t) told ≡ (if may_stop told.thread then operation code s t told op.Stop object.Halt [] (λ answer. stopped told.thread) else Refused)
unfolding effect_of
effect_stop code s t told = refl

pub effect_close : (code : Code) (s : SetupView) (t : ℕ) (told : Told) → effect_of code s (Close t) told ≡ (if may_close told.thread then operation code s t told op.Close (object.Slot t) [] (λ answer. slot_closed told.thread) else Refused)
unfolding effect_of
effect_close code s t told = refl

-- an operation that is none that others make of a thread is the thread's own step
pub own_label : (t : ℕ) (o : OpName) (obj : ObjId) → is_from_outside o ≡ false → operation_label t o obj ≡ Go t
own_label t name.Revoke obj e = cc
own_label t name.Stop obj e = cc
own_label t name.Close obj e = cc
own_label t o obj e = refl

-- a change by an operation is a row of the table
pub change_is : (told : Told) (e : Entry) (printed : List (List ℕ)) (after : ℤ → Thread) (old : ℕ) (a : Advance) (new : ℕ) (answer : ℤ) (q : Told) → change_of told e printed after old a ≡ Becomes new answer q →
    (a ≡ Advances new answer) × (q ≡ operated told (after answer) (record { entry = e; number = number_of old }) printed)
change_is told e printed after old NoRow new answer q h = cc
change_is told e printed after old (Advances w x) new answer q h =
    let word_is : w ≡ new = cc in
    let answer_is : x ≡ answer = cc in
    let told_is : operated told (after x) (record { entry = e; number = number_of old }) printed ≡ q = cc in
    (cc, sym told_is ∙ ap (λ z. operated told (after z) (record { entry = e; number = number_of old }) printed) answer_is)

module _ (code : Code) (s : SetupView) where
  if_object : (l : Label) (told : Told) (b : Bool) (e : Effect Told) → (b ≡ true → IsLawfulEffect (machine code s) l told e) → IsLawfulEffect (machine code s) l told (if b then e else Refused)
  if_object l told true e h = h refl
  if_object l told false e h = tt

  -- an operation adds the entry that goes with the label, and draws its object's next number
  lawful_operation : (l : Label) (t : ℕ) (before told : Told) (o : Op) (obj : ObjId) (printed : List (List ℕ)) (after : ℤ → Thread) → operation_label t (name_of o) obj ≡ l → told.thread.count ≡ before.thread.count → ((answer : ℤ) → told.thread.count ≤ (after answer).count) →
      IsLawfulEffect (machine code s) l before (operation code s t told o obj printed after)
  lawful_operation l t before told o obj printed after label same grows =
      if_object l before (has_object code s obj) _ (λ has. record {
        labelled = label;
        counted = same;
        object = has;
        draws = λ old new answer q e.
            let i = change_is told (entry_of t told.thread (name_of o) obj) printed after old (advanced o t old) new answer q e in
            let number_is = number_rises o t old new answer i.0 in
            let count_is = ap (λ (z : Told). z.thread.count) i.1 in
            let more = grows answer in
            record { numbered = omega arith; counted = omega arith };
      })

  goes_on : (told q : Told) (st : Thread) → st.count ≡ told.thread.count → Counts st q.thread → GoesOn (machine code s) told q
  goes_on told q st same c = record { counted = c.count ∙ ap suc same; lives = c.lives }

  lawful_action : (runnable : IsRunnable code) (t : ℕ) (told : Told) (st : Thread) (a : Action) → action_at code s t st ≡ a → st.count ≡ told.thread.count → IsLawfulEffect (machine code s) (Go t) told (action_effect code s t told st a)
  lawful_action runnable t told st action.Quiet e same = tt
  lawful_action runnable t told st (action.Load c) e same =
      if_object (Go t) told (nat_lt c (cells_of code s)) _ (λ lt. (refl, ltb-true c (cells_of code s) lt, λ w. goes_on told _ st same (action_counts code s t st (action.Load c) (number w) tt e)))
  lawful_action runnable t told st (action.Store c v) e same =
      if_object (Go t) told (nat_lt c (cells_of code s)) _ (λ lt. (refl, ltb-true c (cells_of code s) lt, goes_on told _ st same (action_counts code s t st (action.Store c v) (pos 0) tt e)))
  lawful_action runnable t told st action.Mark e same = (refl, goes_on told _ st same (action_counts code s t st action.Mark (pos 0) tt e))
  lawful_action runnable t told st (action.Operate o obj) e same =
      lawful_operation (Go t) t told (record told { thread = st }) o obj (piece_next code st o) (λ answer. stepped code s t st answer) (own_label t (name_of o) obj (own_action code s t st o obj runnable e).own) same (λ answer. step_grows code s t st answer)
  lawful_action runnable t told st action.Ended e same = tt

  if_may : (l : Label) (told : Told) (b : Bool) (e : Effect Told) → IsLawfulEffect (machine code s) l told e → IsLawfulEffect (machine code s) l told (if b then e else Refused)
  if_may l told true e h = h
  if_may l told false e h = tt

  lawful_label : IsRunnable code → (l : Label) (told : Told) → IsLawfulEffect (machine code s) l told (effect_of code s l told)
  lawful_label runnable (Go t) told =
      subst (IsLawfulEffect (machine code s) (Go t) told) (sym (effect_go code s t told)) (lawful_action runnable t told (settled code s t told.thread) (action_at code s t (settled code s t told.thread)) refl (settled_count code s t told.thread))
  lawful_label runnable (Revoke t lock stripe) told =
      subst (IsLawfulEffect (machine code s) (Revoke t lock stripe) told) (sym (effect_revoke code s t lock stripe told))
      (if_may (Revoke t lock stripe) told (may_revoke told.thread lock stripe) _ (lawful_operation (Revoke t lock stripe) t told told op.Revoke (object.Weak lock stripe) [] (λ answer. gave_up told.thread lock stripe) refl refl (λ answer. omega arith)))
  lawful_label runnable (Stop t) told =
      subst (IsLawfulEffect (machine code s) (Stop t) told) (sym (effect_stop code s t told))
      (if_may (Stop t) told (may_stop told.thread) _ (lawful_operation (Stop t) t told told op.Stop object.Halt [] (λ answer. stopped told.thread) refl refl (λ answer. omega arith)))
  lawful_label runnable (Close t) told =
      subst (IsLawfulEffect (machine code s) (Close t) told) (sym (effect_close code s t told))
      (if_may (Close t) told (may_close told.thread) _ (lawful_operation (Close t) t told told op.Close (object.Slot t) [] (λ answer. slot_closed told.thread) refl refl (λ answer. omega arith)))

  -- the machine keeps to the laws
  pub lawful : IsRunnable code → IsWithinLimits s → IsLawful (machine code s)
  lawful runnable limits = record {
    effects = lawful_label runnable;
    following = λ o has. place_past (cells_of code s) o;
    apart = λ o p has also same. place_apart code s o p limits has also same;
  }
