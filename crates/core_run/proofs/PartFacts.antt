-- From what a settled thread's next action does to what its label does.
use Rattle.std.proofs.Common.{◌≡◌, ℕ, List, refl, sym, ap, ◌∙◌, subst}
use Rattle.sync_objects.specs.Setup.{SetupView}
use Rattle.flow_code.specs.declared.code.Code.{Code}
use Rattle.word_semantics.specs.declared.event.Action.{Action}
use Rattle.word_semantics.specs.declared.event.Action.TheVariants as action
use Rattle.flow_code.specs.Threads.{Thread}
use Rattle.flow_code.specs.Next.{action_at}
use Rattle.flow_code.specs.Settle.{settled, next}
use Rattle.core_run.specs.Machine.{Told, effect_of, action_effect}
use Rattle.core_run.specs.Outside.{is_outside}
use Rattle.core_run.specs.Parts.{OwnOf, OwnIs, own_outcome}
use Rattle.core_run.specs.declared.parts.Own.{Own}
use Rattle.core_run.specs.declared.parts.Own.TheVariants as own
use Rattle.core_run.proofs.Lawful.{effect_go}
use Rattle.run_theory.specs.Labels.{Go}
use Rattle.run_theory.specs.Steps.{Blocked, Change, Operates, Refused}
use Rattle.core_run.specs.Words.{has_object}
use Rattle.sync_objects.specs.declared.entry.Entry.{Entry}
use Rattle.sync_objects.specs.declared.object.ObjId.{ObjId}
use Rattle.sync_objects.specs.declared.operation.Op.{Op}
use Rattle.std.proofs.Common.{Bool, true, false}
use Rattle.std.specs.Prelude.{if◌then◌else◌}

module _ (code : Code) (s : SetupView) (t : ℕ) (told : Told) (th st : Thread) (a : Action) (is : told.thread ≡ th) (settles : st ≡ settled code s t th) (acts : a ≡ action_at code s t st) where
  pub effect_is : effect_of code s (Go t) told ≡ action_effect code s t told st a
  effect_is =
      effect_go code s t told
      ∙ ap (λ z. action_effect code s t told (settled code s t z) (action_at code s t (settled code s t z))) is
      ∙ ap (λ z. action_effect code s t told z (action_at code s t z)) (sym settles)
      ∙ ap (action_effect code s t told st) (sym acts)

  -- the action is what the thread does next
  next_is : next code s t told.thread ≡ a
  next_is = ap (λ z. next code s t z) is ∙ ap (action_at code s t) (sym settles) ∙ sym acts

  pub own_is : (ws ws1 : List ℕ) (th1 : Thread) (o : Own) → OwnOf code s t told st a ws ws1 th1 o → OwnIs code s t told ws ws1 th1 o
  own_is ws ws1 th1 own.Stays h = (ap (is_outside code s) next_is ∙ h.0, ap (own_outcome ws) effect_is ∙ h.1)
  own_is ws ws1 th1 own.Outside h = (ap (is_outside code s) next_is ∙ h.0, ap (own_outcome ws) effect_is ∙ h.1)
  own_is ws ws1 th1 own.Marked h = ap (own_outcome ws) effect_is ∙ h
  own_is ws ws1 th1 (own.Accessed x) h = ap (own_outcome ws) effect_is ∙ h

-- an operation is no own step
operation_is_no_own : (ws : List ℕ) (b : Bool) (e : Entry) (change : ℕ → Change Told) → own_outcome ws (if b then Operates e change else Refused) ≡ Blocked
operation_is_no_own ws true e change = refl
operation_is_no_own ws false e change = refl

-- the same for what the code has at hand: the code, the setup and the number after settling, with equations
module _ (code code1 : Code) (s s1 : SetupView) (t n0 n1 : ℕ) (told : Told) (th st : Thread) (a : Action) (same_code : code1 ≡ code) (same_setup : s1 ≡ s) (same_number : n1 ≡ n0) (number : n0 ≡ t) (is : told.thread ≡ th) (settles : st ≡ settled code s n0 th) (acts : a ≡ action_at code1 s1 n1 st) where
  settles_here : st ≡ settled code s t th
  settles_here = settles ∙ ap (λ z. settled code s z th) number

  acts_here : a ≡ action_at code s t st
  acts_here = acts ∙ ap (λ z. action_at z s1 n1 st) same_code ∙ ap (λ z. action_at code z n1 st) same_setup ∙ ap (λ z. action_at code s z st) (same_number ∙ number)

  pub effect_here : effect_of code s (Go t) told ≡ action_effect code s t told st a
  effect_here = effect_is code s t told th st a is settles_here acts_here

  pub own_found : (ws ws1 : List ℕ) (th1 : Thread) (b : Action) (o : Own) → a ≡ b → OwnOf code1 s1 t told st b ws ws1 th1 o → OwnIs code s t told ws ws1 th1 o
  own_found ws ws1 th1 b o e h =
      own_is code s t told th st a is settles_here acts_here ws ws1 th1 o
      (subst (λ z. OwnOf code s t told st z ws ws1 th1 o) (sym e)
      (subst (λ z. OwnOf code z t told st b ws ws1 th1 o) same_setup
      (subst (λ z. OwnOf z s1 t told st b ws ws1 th1 o) same_code h)))

  pub quiet_found : (ws : List ℕ) → a ≡ action.Quiet → OwnIs code s t told ws ws th own.Stays
  quiet_found ws e = own_found ws ws th action.Quiet own.Stays e (refl, refl)

  pub ended_found : (ws : List ℕ) → a ≡ action.Ended → OwnIs code s t told ws ws th own.Stays
  ended_found ws e = own_found ws ws th action.Ended own.Stays e (refl, refl)

  pub operate_found : (ws : List ℕ) (o : Op) (obj : ObjId) → a ≡ action.Operate o obj → OwnIs code s t told ws ws th own.Stays
  operate_found ws o obj e = own_found ws ws th (action.Operate o obj) own.Stays e (refl, operation_is_no_own ws (has_object code1 s1 obj) _ _)
