-- What operations a thread makes by itself.
use Rattle.std.proofs.Common.{◌≡◌, ℕ, ◌<◌, ◌⊎◌, inl, inr, false, List, Option, Some, None, refl, sym, subst, ◌∙◌, pos}
use Rattle.std.specs.Prelude.{slice_get}
use Rattle.sync_objects.specs.Setup.{SetupView, IsWithinLimits}
use Rattle.sync_objects.specs.Names.{name_of, Fits}
use Rattle.sync_objects.specs.Sound.{IsInRange}
use Rattle.sync_objects.specs.declared.object.ObjId.{ObjId}
use Rattle.sync_objects.specs.declared.object.ObjId.TheVariants as object
use Rattle.sync_objects.specs.declared.operation.Op.{Op}
use Rattle.sync_objects.specs.declared.operation.Op.TheVariants as op
use Rattle.flow_code.specs.declared.act.Act.{Act}
use Rattle.flow_code.specs.declared.act.Act.TheVariants as act
use Rattle.flow_code.specs.declared.act.Instr.{Instr}
use Rattle.flow_code.specs.declared.code.Code.{Code}
use Rattle.flow_code.specs.declared.thread.Stripe.{Stripe}
use Rattle.word_semantics.specs.declared.event.Due.{Due}
use Rattle.word_semantics.specs.declared.event.Due.TheVariants as due
use Rattle.word_semantics.specs.declared.event.Action.TheVariants as action
use Rattle.flow_code.specs.Threads.{Thread, instrs_in}
use Rattle.flow_code.specs.Next.{act_at, phase_due, due_of, action_of, action_at}
use Rattle.word_semantics.specs.Limits.{is_free_of_limit}
use Rattle.flow_code.specs.Settle.{IsSoundAct, IsRunnable}
use Rattle.word_semantics.proofs.Calls.{is_from_outside}
use Rattle.flow_code.proofs.Dues.{operate_by_code}
use Rattle.flow_code.proofs.Goings.{IsSoundCallAt, thread_goes}
use Rattle.flow_code.proofs.Quietly.{sound_here}
use Rattle.flow_code.proofs.Settle.{action_is}

-- an operation that a thread makes by itself: it fits its object, it is none that others make of a thread, and its numbers
-- are in range
pub record IsOwn (s : SetupView) (o : Op) (obj : ObjId) : Type 0 where
  pub fits : Fits (name_of o) obj
  pub own : is_from_outside (name_of o) ≡ false
  pub range : IsWithinLimits s → IsInRange o

sound_call : (is : List Instr) (at : ℕ) (o : Option Act) → IsSoundAct is at o → IsSoundCallAt o
sound_call is at None h = tt
sound_call is at (Some (act.Library call arguments into)) h = h
sound_call is at (Some a) h = tt

due_is_own : (code : Code) (s : SetupView) (t : ℕ) (th : Thread) (o : Op) (obj : ObjId) → IsRunnable code → due_of code s t th ≡ due.Operate o obj → IsOwn s o obj
due_is_own code s t th o obj run e = by (operate_by_code code s t th o obj e)
  where
    by : (phase_due code s t th th.phase ≡ due.Operate o obj) × (is_free_of_limit o ≡ false → th.count < s.limit) ⊎ ((x : Stripe) × (o ≡ op.Retake) × (obj ≡ object.Weak x.lock x.stripe)) → IsOwn s o obj
    by (inl p) =
        let g = thread_goes code s t th (due.Operate o obj) (pos 0) p.0 in
        record { fits = g.0.fits; own = g.0.own; range = λ l. g.1 l (sound_call (instrs_in (slice_get code.functions th.top.function)) th.top.instr (act_at code th.top) (sound_here code run th.top (act_at code th.top) refl)) }
    by (inr r) =
        subst (λ z. IsOwn s z obj) (sym r.1) (subst (IsOwn s op.Retake) (sym r.2) (record { fits = refl; own = refl; range = λ l. tt }))

action_is_own : (code : Code) (s : SetupView) (t : ℕ) (th : Thread) (o : Op) (obj : ObjId) (d : Due) → IsRunnable code → due_of code s t th ≡ d → action_of d ≡ action.Operate o obj → IsOwn s o obj
action_is_own code s t th o obj due.Nothing run e h = cc
action_is_own code s t th o obj due.Quiet run e h = cc
action_is_own code s t th o obj (due.Load c) run e h = cc
action_is_own code s t th o obj (due.Store c w) run e h = cc
action_is_own code s t th o obj due.Mark run e h = cc
action_is_own code s t th o obj (due.Operate p q) run e h = due_is_own code s t th o obj run (e ∙ cc)
action_is_own code s t th o obj (due.Trap kind) run e h =
    let o_is : op.TrapHere ≡ o = cc in
    let obj_is : object.Halt ≡ obj = cc in
    subst (λ z. IsOwn s z obj) o_is (subst (IsOwn s op.TrapHere) obj_is (record { fits = refl; own = refl; range = λ l. tt }))

pub own_action : (code : Code) (s : SetupView) (t : ℕ) (th : Thread) (o : Op) (obj : ObjId) → IsRunnable code → action_at code s t th ≡ action.Operate o obj → IsOwn s o obj
own_action code s t th o obj run e = action_is_own code s t th o obj (due_of code s t th) run refl (sym (action_is code s t th) ∙ e)
