-- The machine refuses a thread's next action only where there is none.
use Rattle.std.proofs.Common.{◌≡◌, ℕ, nat_lt, Bool, true, false, if◌then◌else◌, List, Some, refl, sym, ap, ◌∙◌, pos}
use Rattle.std.specs.Prelude.{slice_get}
use Rattle.std.proofs.lemmas.Bool.{lt-ltb}
use Rattle.sync_objects.specs.Setup.{SetupView}
use Rattle.word_semantics.specs.Values.{number}
use Rattle.word_semantics.specs.declared.event.Action.{Action}
use Rattle.word_semantics.specs.declared.event.Action.TheVariants as action
use Rattle.flow_code.specs.declared.code.Code.{Code}
use Rattle.flow_code.specs.Next.{action_at, stepped}
use Rattle.flow_code.specs.Settle.{settled}
use Rattle.flow_code.specs.Threads.{Thread}
use Rattle.flow_code.proofs.Runnable.{valid_runnable}
use Rattle.flow_code.proofs.Settle.{settled_action}
use Rattle.core_run.specs.Histories.{IsReachable}
use Rattle.core_run.specs.Machine.{Told, accessed, access_of, action_effect, effect_of}
use Rattle.core_run.specs.Words.{cells_of, has_object}
use Rattle.core_run.proofs.Lawful.{effect_go}
use Rattle.run_theory.specs.Labels.{Go}
use Rattle.run_theory.specs.Steps.{Effect, Refused, Loads, Stores, State}
use Rattle.points_to_sound.specs.Objects.{Object}
use Rattle.points_to_sound.specs.States.{PointsWell}
use Rattle.points_to_sound.proofs.Settling.{Sets}
use Rattle.access_cells.specs.Accesses.{names_cell, at_rest}
use Rattle.access_cells.proofs.Found.{cell_there, object_there}

not_refused : (b : Bool) (e : Effect Told) → b ≡ true → (if b then e else Refused) ≡ Refused → e ≡ Refused
not_refused true e h f = f
not_refused false e h f = cc

module _ (code : Code) (s : SetupView) (x : Sets code s) (st : State Told) (reached : IsReachable code s st) (made : List Object) (good : PointsWell code s made (at_rest code s st)) (t : ℕ) (told : Told) (at : slice_get st.threads t ≡ Some told) where
  abbrev z : Thread
  z = settled code s t told.thread

  by_action : (a : Action) → action_at code s t z ≡ a → action_effect code s t told z a ≡ Refused → a ≡ action.Ended
  by_action action.Quiet e f = absurd (settled_action code s t told.thread (valid_runnable code x.valid) e)
  by_action (action.Load c) e f =
      let there = cell_there code s x st reached made good t told at c false (ap names_cell e) in
      let none = not_refused (nat_lt c (cells_of code s)) (Loads c (λ w. accessed told (stepped code s t z (number w)) (access_of t z c w false))) (lt-ltb c (cells_of code s) there) f in
      cc
  by_action (action.Store c w) e f =
      let there = cell_there code s x st reached made good t told at c true (ap names_cell e) in
      let none = not_refused (nat_lt c (cells_of code s)) (Stores c w (accessed told (stepped code s t z (pos 0)) (access_of t z c w true))) (lt-ltb c (cells_of code s) there) f in
      cc
  by_action action.Mark e f = cc
  by_action (action.Operate o obj) e f = let none = not_refused (has_object code s obj) _ (object_there code s x st reached made good t told at o obj e) f in cc
  by_action action.Ended e f = refl

  pub refused_none : effect_of code s (Go t) told ≡ Refused → action_at code s t z ≡ action.Ended
  refused_none h = by_action (action_at code s t z) refl (sym (effect_go code s t told) ∙ h)
