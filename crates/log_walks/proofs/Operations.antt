-- The operation by which an entry is made.
use Rattle.std.proofs.Common.{◌≡◌, ℕ, Bool, true, false, if◌then◌else◌, nat_lt, List, [], refl, sym, ap, subst, ◌∙◌, ℤ}
use Rattle.sync_objects.specs.Advance.{Advances, advanced}
use Rattle.sync_objects.specs.Names.{name_of, Fits}
use Rattle.sync_objects.specs.Setup.{SetupView, IsWithinLimits}
use Rattle.sync_objects.specs.Sound.{IsInRange}
use Rattle.sync_objects.specs.declared.entry.Entry.{Entry}
use Rattle.sync_objects.specs.declared.object.ObjId.{ObjId}
use Rattle.sync_objects.specs.declared.object.ObjId.TheVariants as object
use Rattle.sync_objects.specs.declared.operation.Op.{Op}
use Rattle.sync_objects.specs.declared.operation.Op.TheVariants as op
use Rattle.word_semantics.specs.declared.event.Action.{Action}
use Rattle.word_semantics.specs.declared.event.Action.TheVariants as action
use Rattle.flow_code.specs.declared.code.Code.{Code}
use Rattle.flow_code.specs.Next.{stepped, action_at, gave_up, stopped, slot_closed}
use Rattle.flow_code.specs.Settle.{settled, IsRunnable}
use Rattle.flow_code.specs.Threads.{Thread}
use Rattle.flow_code.proofs.Asked.{own_action}
use Rattle.thread_interpreter.specs.Pieces.{piece_next}
use Rattle.core_run.specs.Machine.{Told, change_of, entry_of, operation, action_effect, may_revoke, may_stop, may_close, effect_of}
use Rattle.core_run.specs.Words.{cells_of, has_object}
use Rattle.core_run.proofs.Lawful.{effect_go, effect_revoke, effect_stop, effect_close, change_is}
use Rattle.run_theory.specs.Labels.{Label, Go, Revoke, Stop, Close, label_thread}
use Rattle.run_theory.specs.Steps.{Change, Becomes, Effect, Refused, Operates}
use Rattle.log_walks.proofs.Drawing.{draws_setup}
use Rattle.log_walks.proofs.Like.{Draws}

module _ (code : Code) (s : SetupView) where
  -- an operation of the entry's name by its thread, which fits its object
  pub record IsOperationOf (l : Label) (e : Entry) (change : ℕ → Change Told) : Type 0 where
    pub o : Op
    pub name : name_of o ≡ e.op
    pub of_thread : e.thread ≡ label_thread l
    pub fits : Fits (name_of o) e.obj
    pub range : IsInRange o
    pub draws : Draws s.slots o
    pub has : has_object code s e.obj ≡ true
    pub row : (old new : ℕ) (answer : ℤ) (after : Told) → change old ≡ Becomes new answer after → advanced o e.thread old ≡ Advances new answer

  operation_of : (l : Label) (t : ℕ) (told : Told) (o : Op) (obj : ObjId) (printed : List (List ℕ)) (next : ℤ → Thread) (e : Entry) (change : ℕ → Change Told) → label_thread l ≡ t → Fits (name_of o) obj → IsInRange o → Draws s.slots o → operation code s t told o obj printed next ≡ Operates e change → IsOperationOf l e change
  operation_of l t told o obj printed next e change of_thread fits range draws is = go (has_object code s obj) refl is
    where
      mine : Entry
      mine = entry_of t told.thread (name_of o) obj

      go : (b : Bool) → has_object code s obj ≡ b → (if b then Operates mine (λ w. change_of told mine printed next w (advanced o t w)) else Refused) ≡ Operates e change → IsOperationOf l e change
      go false has is = cc
      go true has is =
          let same : mine ≡ e = cc in
          let changes : (λ w. change_of told mine printed next w (advanced o t w)) ≡ change = cc in
          subst (λ z. IsOperationOf l z change) same (record {
            o = o;
            name = refl;
            of_thread = sym of_thread;
            fits = fits;
            range = range;
            draws = draws;
            has = has;
            row = λ old new answer after becomes. (change_is told mine printed next old (advanced o t old) new answer after (ap (λ f. f old) changes ∙ becomes)).0;
          })

  if_operates : (b : Bool) (f : Effect Told) (e : Entry) (change : ℕ → Change Told) (P : Type 0) → (f ≡ Operates e change → P) → (if b then f else Refused) ≡ Operates e change → P
  if_operates true f e change P h is = h is
  if_operates false f e change P h is = cc

  action_of : IsRunnable code → IsWithinLimits s → (t : ℕ) (told : Told) (th : Thread) (a : Action) (e : Entry) (change : ℕ → Change Told) → action_at code s t th ≡ a → action_effect code s t told th a ≡ Operates e change → IsOperationOf (Go t) e change
  action_of runnable limits t told th action.Quiet e change at is = cc
  action_of runnable limits t told th (action.Load c) e change at is = if_operates (nat_lt c (cells_of code s)) _ e change (IsOperationOf (Go t) e change) (λ q. cc) is
  action_of runnable limits t told th (action.Store c w) e change at is = if_operates (nat_lt c (cells_of code s)) _ e change (IsOperationOf (Go t) e change) (λ q. cc) is
  action_of runnable limits t told th action.Mark e change at is = cc
  action_of runnable limits t told th (action.Operate o obj) e change at is =
      let own = own_action code s t th o obj runnable at in
      operation_of (Go t) t (record told { thread = th }) o obj (piece_next code th o) (λ x. stepped code s t th x) e change refl own.fits (own.range limits) (draws_setup code s t th o obj at) is
  action_of runnable limits t told th action.Ended e change at is = cc

  -- each label that adds an entry makes such an operation
  pub operation_here : IsRunnable code → IsWithinLimits s → (l : Label) (told : Told) (e : Entry) (change : ℕ → Change Told) → effect_of code s l told ≡ Operates e change → IsOperationOf l e change
  operation_here runnable limits (Go t) told e change is = action_of runnable limits t told (settled code s t told.thread) (action_at code s t (settled code s t told.thread)) e change refl (sym (effect_go code s t told) ∙ is)
  operation_here runnable limits (Revoke t lock stripe) told e change is =
      if_operates (may_revoke told.thread lock stripe) _ e change (IsOperationOf (Revoke t lock stripe) e change)
      (λ q. operation_of (Revoke t lock stripe) t told op.Revoke (object.Weak lock stripe) [] (λ x. gave_up told.thread lock stripe) e change refl refl tt tt q)
      (sym (effect_revoke code s t lock stripe told) ∙ is)
  operation_here runnable limits (Stop t) told e change is =
      if_operates (may_stop told.thread) _ e change (IsOperationOf (Stop t) e change)
      (λ q. operation_of (Stop t) t told op.Stop object.Halt [] (λ x. stopped told.thread) e change refl refl tt tt q)
      (sym (effect_stop code s t told) ∙ is)
  operation_here runnable limits (Close t) told e change is =
      if_operates (may_close told.thread) _ e change (IsOperationOf (Close t) e change)
      (λ q. operation_of (Close t) t told op.Close (object.Slot t) [] (λ x. slot_closed told.thread) e change refl refl tt tt q)
      (sym (effect_close code s t told) ∙ is)
