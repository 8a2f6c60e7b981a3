-- The cells that loads and stores through registers come to next.
use Rattle.std.proofs.Common.{◌≡◌, ℕ, ◌<◌, true, List, Some, Result, Ok, Err, refl, sym, ap, subst, ◌∙◌, arith}
use Rattle.std.specs.Prelude.{slice_get}
use Rattle.std.proofs.lemmas.Option.{slice_get_within}
use Rattle.rr_base.specs.declared.trap.Trap.{Trap}
use Rattle.rr_base.specs.declared.layout.CellKind.{CellKind}
use Rattle.sync_objects.specs.Setup.{SetupView}
use Rattle.word_semantics.specs.Cells.{access_kind}
use Rattle.word_semantics.specs.Pointers.{resolved}
use Rattle.word_semantics.specs.Registers.{register}
use Rattle.word_semantics.specs.declared.event.Action.TheVariants as action
use Rattle.word_semantics.specs.declared.event.Due.TheVariants as due
use Rattle.flow_code.specs.declared.act.Act.TheVariants as act
use Rattle.flow_code.specs.declared.code.Code.{Code}
use Rattle.flow_code.specs.declared.thread.Phase.{Phase}
use Rattle.flow_code.specs.declared.thread.Phase.TheVariants as phase
use Rattle.flow_code.specs.Kinds.{has_register, has_pointer}
use Rattle.flow_code.specs.Next.{act_at, pointers_of, pointers_in, load_due, act_due, phase_due, due_of, action_at}
use Rattle.flow_code.specs.Settle.{settled}
use Rattle.flow_code.specs.Threads.{Thread}
use Rattle.flow_code.specs.Works.{is_pointer}
use Rattle.flow_code.proofs.Dues.{access_by_code}
use Rattle.flow_code.proofs.Runnable.{valid_runnable}
use Rattle.flow_code.proofs.Settle.{action_is}
use Rattle.flow_code.proofs.ValidParts.{left, right}
use Rattle.core_run.specs.Histories.{IsReachable}
use Rattle.core_run.specs.Machine.{Told}
use Rattle.core_run.specs.Words.{cells_of}
use Rattle.core_run.proofs.Reached.{kept}
use Rattle.run_theory.specs.Steps.{State}
use Rattle.facts.specs.declared.constraint.Node.TheVariants.{Register}
use Rattle.points_to_sound.specs.Objects.{Object}
use Rattle.points_to_sound.specs.Pointing.{GoodPhase, GoodRunning}
use Rattle.points_to_sound.specs.States.{marks_of, PointsWell}
use Rattle.points_to_sound.proofs.Finding.{stands}
use Rattle.points_to_sound.proofs.Fitting.{stands_fit, pointer_is}
use Rattle.points_to_sound.proofs.Moved.{load_due_of, store_due_of, map_got}
use Rattle.points_to_sound.proofs.Reaching.{Reaches, good_reaches}
use Rattle.points_to_sound.proofs.Settling.{Sets, Settled, settled_good}
use Rattle.points_to_sound.proofs.Storing.{store_inv}
use Rattle.points_to_sound.proofs.ThreadSteps.{Arrives}

load_inv : (r : Result ℕ Trap) (c : ℕ) → load_due r ≡ due.Load c → r ≡ Ok c
load_inv (Ok k) c e = let f : k ≡ c = cc in ap (λ (n : ℕ). Ok n) f
load_inv (Err x) c e = cc

module _ (code : Code) (s : SetupView) (x : Sets code s) (st : State Told) (reached : IsReachable code s st) (made : List Object) (g : PointsWell code s made st) (t : ℕ) (told : Told) (at : slice_get st.threads t ≡ Some told) where
  abbrev z : Thread
  z = settled code s t told.thread

  pub lt : t < s.slots
  lt = let few = slice_get_within st.threads t told at in let n = (kept code s (valid_runnable code x.valid) x.limits st reached).threads in omega arith

  arrives_of : (p : Phase) → told.thread.phase ≡ p → Arrives code s made st.words t p
  arrives_of (phase.Begun f) i = λ w some e. g.arrived t f w told some at i e
  arrives_of phase.Fresh i = tt
  arrives_of (phase.Loaded f w) i = tt
  arrives_of phase.Running i = tt
  arrives_of phase.Ended i = tt
  arrives_of phase.Halted i = tt
  arrives_of (phase.Trapped kind line) i = tt
  arrives_of phase.Stopped i = tt
  arrives_of phase.Closed i = tt

  -- the thread after its quiet steps is good again, with the objects that these have laid
  pub settled_now : Settled code s x t lt made (marks_of st.threads) st.words told.thread z
  settled_now = settled_good code s x t lt made (marks_of st.threads) st.words told.thread (map_got (λ (y : Told). y.thread.arena) st.threads t told at) (record { laid = g.laid; cells = g.cells }) g.results (g.threads t told at) (arrives_of told.thread.phase refl)

  -- the cell is one of the setup's, of an object, at a place to which the register may point
  pub record Named (through c : ℕ) (want : CellKind) : Type 0 where
    pub objects : List Object
    pub reaches : Reaches code s objects (Register z.top.function through) c want
    pub within : c < cells_of code s

  named : (through c : ℕ) (want : CellKind) → z.phase ≡ phase.Running → is_pointer (pointers_of code z.top) through ≡ true → resolved code.sites (register z.top.registers through) want ≡ Ok c → Named through c want
  named through c want runs pointer is =
      let settling = settled_now.settling in
      let running : GoodRunning code s settling.after z = subst (GoodPhase code s settling.after z) runs settling.good in
      let r = good_reaches code s settling.after x.valid settling.laid.laid.sized (Register z.top.function through) (register z.top.registers through) c want is (running.frames.0 through pointer) in
      record { objects = settling.after; reaches = r; within = let w = r.within in (settling.laid.laid.inside r.object c r.is (record { from = omega (arith, r.cell); to = omega (arith, r.cell) })).1 }

  pub load_named : (into through c : ℕ) → z.phase ≡ phase.Running → act_at code z.top ≡ Some (act.LoadCell into through) → action_at code s t z ≡ action.Load c → Named through c (access_kind (is_pointer (pointers_of code z.top) into))
  load_named into through c runs is e =
      let d = load_due_of (due_of code s t z) c (sym (action_is code s t z) ∙ e) in
      let by_code = (access_by_code code s t z (due.Load c) tt d).0 in
      let here = ap (act_due code s t z) (sym is) ∙ ap (phase_due code s t z) (sym runs) ∙ by_code in
      let y = stands code z.top.function z.top.instr (act.LoadCell into through) is in
      let fit = stands_fit code x.valid z.top.function z.top.instr (act.LoadCell into through) y in
      named through c (access_kind (is_pointer (pointers_of code z.top) into)) runs (ap (λ o. is_pointer (pointers_in o) through) y.is_function ∙ pointer_is y.function through (right (has_register y.function into) (has_pointer y.function through) fit))
      (load_inv (resolved code.sites (register z.top.registers through) (access_kind (is_pointer (pointers_of code z.top) into))) c here)

  pub store_named : (through from c w : ℕ) → z.phase ≡ phase.Running → act_at code z.top ≡ Some (act.StoreCell through from) → action_at code s t z ≡ action.Store c w → Named through c (access_kind (is_pointer (pointers_of code z.top) from))
  store_named through from c w runs is e =
      let d = store_due_of (due_of code s t z) c w (sym (action_is code s t z) ∙ e) in
      let by_code = (access_by_code code s t z (due.Store c w) tt d).0 in
      let here = ap (act_due code s t z) (sym is) ∙ ap (phase_due code s t z) (sym runs) ∙ by_code in
      let y = stands code z.top.function z.top.instr (act.StoreCell through from) is in
      let fit = stands_fit code x.valid z.top.function z.top.instr (act.StoreCell through from) y in
      named through c (access_kind (is_pointer (pointers_of code z.top) from)) runs (ap (λ o. is_pointer (pointers_in o) through) y.is_function ∙ pointer_is y.function through (left (has_pointer y.function through) (has_register y.function from) fit))
      (store_inv (resolved code.sites (register z.top.registers through) (access_kind (is_pointer (pointers_of code z.top) from))) (register z.top.registers from) c w here).0
