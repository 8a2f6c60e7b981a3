-- The count that an operation leaves, and that a thread that has ended does nothing more.
use Rattle.std.proofs.Common.{◌≡◌, ℕ, ◌+◌, Bool, true, false, not, ◌&&◌, if◌then◌else◌, nat_lt, List, [], refl, sym, ap, ◌∙◌, ℤ, ⊎_elim}
use Rattle.sync_objects.specs.Setup.{SetupView}
use Rattle.sync_objects.specs.Names.{name_of, is_weak}
use Rattle.sync_objects.specs.Advance.{advanced}
use Rattle.sync_objects.specs.declared.entry.Entry.{Entry}
use Rattle.sync_objects.specs.declared.object.ObjId.{ObjId}
use Rattle.sync_objects.specs.declared.object.ObjId.TheVariants as object
use Rattle.sync_objects.specs.declared.operation.Op.{Op}
use Rattle.sync_objects.specs.declared.operation.Op.TheVariants as op
use Rattle.sync_objects.specs.declared.operation.OpName.{OpName}
use Rattle.word_semantics.specs.declared.event.Action.{Action}
use Rattle.word_semantics.specs.declared.event.Action.TheVariants as action
use Rattle.word_semantics.specs.declared.event.Due.{Due}
use Rattle.word_semantics.specs.declared.event.Due.TheVariants as due
use Rattle.flow_code.specs.declared.code.Code.{Code}
use Rattle.flow_code.specs.Next.{stepped, action_at, action_of, after_due, due_of, gave_up, stopped, slot_closed, has_begun, has_ended, holds}
use Rattle.flow_code.specs.Settle.{settled}
use Rattle.flow_code.specs.Threads.{Thread}
use Rattle.flow_code.proofs.Counts.{after_operate, ended_action, phase_keeps, settled_keeps_all, stepped_is}
use Rattle.flow_code.proofs.Settle.{action_is}
use Rattle.core_run.specs.Words.{cells_of, has_object}
use Rattle.thread_interpreter.specs.Pieces.{piece_next}
use Rattle.core_run.specs.Machine.{Told, change_of, entry_of, operation, action_effect, may_revoke, may_stop, may_close, effect_of}
use Rattle.core_run.proofs.Lawful.{effect_go, effect_revoke, effect_stop, effect_close, change_is}
use Rattle.run_theory.specs.Labels.{Label, Go, Revoke, Stop, Close}
use Rattle.run_theory.specs.Steps.{Change, Becomes, Effect, Refused, Operates}
use Rattle.log_walks.specs.Followed.{floor}

-- the count after an operation of this name
abbrev pub left_by : OpName → ℕ → ℕ
left_by o count = if is_weak o then count else count + 1

-- ---- the thread's own operations

due_leaves : (code : Code) (s : SetupView) (t : ℕ) (th : Thread) (d : Due) (o : Op) (obj : ObjId) (answer : ℤ) → action_of d ≡ action.Operate o obj → (after_due code s t th d answer).count ≡ left_by (name_of o) th.count
due_leaves code s t th due.Nothing o obj answer is = cc
due_leaves code s t th due.Quiet o obj answer is = cc
due_leaves code s t th (due.Load c) o obj answer is = cc
due_leaves code s t th (due.Store c w) o obj answer is = cc
due_leaves code s t th due.Mark o obj answer is = cc
due_leaves code s t th (due.Trap kind) o obj answer is = let e : op.TrapHere ≡ o = cc in ap (λ z. left_by (name_of z) th.count) e
due_leaves code s t th (due.Operate p q) o obj answer is =
    let same : p ≡ o = cc in
    ⊎_elim
    (λ h. ap (λ (z : Thread). z.count) h.1 ∙ ap (λ z. left_by (name_of z) th.count) (sym h.0 ∙ same))
    (λ h. ap (λ (z : Thread). z.count) h ∙ ap (λ n. left_by (name_of p) n) (phase_keeps code s t th th.phase answer).count ∙ ap (λ z. left_by (name_of z) th.count) same)
    (after_operate code s t th p q answer)

step_leaves : (code : Code) (s : SetupView) (t : ℕ) (th : Thread) (o : Op) (obj : ObjId) (answer : ℤ) → action_at code s t th ≡ action.Operate o obj → (stepped code s t th answer).count ≡ left_by (name_of o) th.count
step_leaves code s t th o obj answer is = ap (λ (z : Thread). z.count) (stepped_is code s t th (due_of code s t th) answer refl) ∙ due_leaves code s t th (due_of code s t th) o obj answer (sym (action_is code s t th) ∙ is)

module _ (code : Code) (s : SetupView) where
  -- an operation of a thread whose states after it have such a count
  operation_leaves : (t : ℕ) (told : Told) (o : Op) (obj : ObjId) (printed : List (List ℕ)) (next : ℤ → Thread) (e : Entry) (change : ℕ → Change Told) (old new : ℕ) (answer : ℤ) (after : Told) → ((x : ℤ) → (next x).count ≡ left_by (name_of o) told.thread.count) → operation code s t told o obj printed next ≡ Operates e change → change old ≡ Becomes new answer after → after.thread.count ≡ floor e
  operation_leaves t told o obj printed next e change old new answer after leaves = go (has_object code s obj)
    where
      go : (b : Bool) → (if b then Operates (entry_of t told.thread (name_of o) obj) (λ w. change_of told (entry_of t told.thread (name_of o) obj) printed next w (advanced o t w)) else Refused) ≡ Operates e change → change old ≡ Becomes new answer after → after.thread.count ≡ floor e
      go false is becomes = cc
      go true is becomes =
          let mine = entry_of t told.thread (name_of o) obj in
          let same : mine ≡ e = cc in
          let changes : (λ w. change_of told mine printed next w (advanced o t w)) ≡ change = cc in
          let i = change_is told mine printed next old (advanced o t old) new answer after (ap (λ f. f old) changes ∙ becomes) in
          ap (λ (z : Told). z.thread.count) i.1 ∙ leaves answer ∙ ap floor same

  if_leaves : (b : Bool) (f : Effect Told) (e : Entry) (change : ℕ → Change Told) (P : Type 0) → (f ≡ Operates e change → P) → (if b then f else Refused) ≡ Operates e change → P
  if_leaves true f e change P h is = h is
  if_leaves false f e change P h is = cc

  action_leaves : (t : ℕ) (told : Told) (th : Thread) (a : Action) (e : Entry) (change : ℕ → Change Told) (old new : ℕ) (answer : ℤ) (after : Told) → action_at code s t th ≡ a → action_effect code s t told th a ≡ Operates e change → change old ≡ Becomes new answer after → after.thread.count ≡ floor e
  action_leaves t told th action.Quiet e change old new answer after at is becomes = cc
  action_leaves t told th (action.Load c) e change old new answer after at is becomes = if_leaves (nat_lt c (cells_of code s)) _ e change (after.thread.count ≡ floor e) (λ q. cc) is
  action_leaves t told th (action.Store c w) e change old new answer after at is becomes = if_leaves (nat_lt c (cells_of code s)) _ e change (after.thread.count ≡ floor e) (λ q. cc) is
  action_leaves t told th action.Mark e change old new answer after at is becomes = cc
  action_leaves t told th (action.Operate o obj) e change old new answer after at is becomes = operation_leaves t (record told { thread = th }) o obj (piece_next code th o) (λ x. stepped code s t th x) e change old new answer after (λ x. step_leaves code s t th o obj x at) is becomes
  action_leaves t told th action.Ended e change old new answer after at is becomes = cc

  -- an operation leaves the count of its floor
  pub leaves_floor : (l : Label) (told after : Told) (e : Entry) (change : ℕ → Change Told) (old new : ℕ) (answer : ℤ) → effect_of code s l told ≡ Operates e change → change old ≡ Becomes new answer after → after.thread.count ≡ floor e
  leaves_floor (Go t) told after e change old new answer is becomes = action_leaves t told (settled code s t told.thread) (action_at code s t (settled code s t told.thread)) e change old new answer after refl (sym (effect_go code s t told) ∙ is) becomes
  leaves_floor (Revoke t lock stripe) told after e change old new answer is becomes =
      if_leaves (may_revoke told.thread lock stripe) _ e change (after.thread.count ≡ floor e)
      (λ q. operation_leaves t told op.Revoke (object.Weak lock stripe) [] (λ x. gave_up told.thread lock stripe) e change old new answer after (λ x. refl) q becomes)
      (sym (effect_revoke code s t lock stripe told) ∙ is)
  leaves_floor (Stop t) told after e change old new answer is becomes =
      if_leaves (may_stop told.thread) _ e change (after.thread.count ≡ floor e)
      (λ q. operation_leaves t told op.Stop object.Halt [] (λ x. stopped told.thread) e change old new answer after (λ x. refl) q becomes)
      (sym (effect_stop code s t told) ∙ is)
  leaves_floor (Close t) told after e change old new answer is becomes =
      if_leaves (may_close told.thread) _ e change (after.thread.count ≡ floor e)
      (λ q. operation_leaves t told op.Close (object.Slot t) [] (λ x. slot_closed told.thread) e change old new answer after (λ x. refl) q becomes)
      (sym (effect_close code s t told) ∙ is)

  -- ---- threads that have ended

  ended_false : (a b c : Bool) → (a && not true && b && c) ≡ false
  ended_false true b c = refl
  ended_false false b c = refl

  no_revoke : (th : Thread) (lock stripe : ℕ) → has_ended th.phase ≡ true → may_revoke th lock stripe ≡ false
  no_revoke th lock stripe ended = ap (λ b. not b && holds th.stripes lock stripe && nat_lt th.entries Rattle.word_semantics.specs.Limits.most_entries && nat_lt th.revokes Rattle.word_semantics.specs.Limits.most_revokes) ended

  no_end : (b : Bool) (th : Thread) → has_ended th.phase ≡ true → (b && not (has_ended th.phase)) ≡ false
  no_end true th ended = ap not ended
  no_end false th ended = refl

  pub ended_rests : (l : Label) (told : Told) → has_ended told.thread.phase ≡ true → effect_of code s l told ≡ Refused
  ended_rests (Go t) told ended =
      let th = settled code s t told.thread in
      let at : action_at code s t th ≡ action.Ended = ended_action code s t th (ap has_ended (settled_keeps_all code s t told.thread).phase ∙ ended) in
      effect_go code s t told ∙ ap (action_effect code s t told th) at
  ended_rests (Revoke t lock stripe) told ended =
      effect_revoke code s t lock stripe told ∙ ap (λ b. if b then operation code s t told op.Revoke (object.Weak lock stripe) [] (λ x. gave_up told.thread lock stripe) else Refused) (no_revoke told.thread lock stripe ended)
  ended_rests (Stop t) told ended =
      effect_stop code s t told ∙ ap (λ b. if b then operation code s t told op.Stop object.Halt [] (λ x. stopped told.thread) else Refused) (no_end (has_begun told.thread.phase) told.thread ended)
  ended_rests (Close t) told ended =
      effect_close code s t told ∙ ap (λ b. if b then operation code s t told op.Close (object.Slot t) [] (λ x. slot_closed told.thread) else Refused) (no_end (not (has_begun told.thread.phase)) told.thread ended)
