-- Words that belong to no object of the machine stay as at the start, and what else holds of each state of a walk.
use Rattle.std.proofs.Common.{◌≡◌, ℕ, ◌≤◌, ◌<◌, true, List, [], Some, refl, sym, ap, subst, ◌∙◌, pos, arith}
use Rattle.std.specs.Prelude.{slice_get}
use Rattle.rr_base.proofs.Lists.{slice_get-set_other}
use Rattle.sync_objects.specs.Setup.{SetupView, IsWithinLimits}
use Rattle.sync_objects.specs.declared.entry.Entry.{Entry}
use Rattle.sync_objects.specs.declared.object.ObjId.{ObjId}
use Rattle.flow_code.specs.declared.code.Code.{Code}
use Rattle.flow_code.specs.Settle.{IsRunnable}
use Rattle.core_run.specs.Words.{cells_of, has_object, place_of, start_words}
use Rattle.core_run.specs.Machine.{Told, effect_of, machine, start_state}
use Rattle.core_run.specs.Histories.{IsReachable}
use Rattle.core_run.specs.Walks.{walk_of}
use Rattle.core_run.proofs.Lawful.{lawful}
use Rattle.core_run.proofs.WalkLoop.{reaches_solo}
use Rattle.run_theory.specs.Labels.{Label}
use Rattle.run_theory.specs.Laws.{IsLawfulEffect}
use Rattle.run_theory.specs.Steps.{Becomes, Leaves, Effect, Refused, Marks, Loads, Stores, Operates, State, outcome, stepped, Reaches}
use Rattle.run_theory.proofs.Kept.{kept_along}
use Rattle.run_theory.proofs.Solo.{solo_of_walk}
use Rattle.run_theory.proofs.Swap.{load_inv, change_inv, steps_of}
use Rattle.checkpoint.proofs.Ordering.{KeepsAside}

module _ (code : Code) (s : SetupView) where
  -- the place is that of no cell and no object
  record IsAside (i : ℕ) : Type 0 where
    past : cells_of code s ≤ i
    none : (o : ObjId) → has_object code s o ≡ true → place_of (cells_of code s) o ≡ i → ⊥

  outcome_aside : (l : Label) (i : ℕ) (words after : List ℕ) (e : Effect Told) (told q : Told) → IsAside i → IsLawfulEffect (machine code s) l told e → outcome (machine code s) words e ≡ Leaves after q → slice_get after i ≡ slice_get words i
  outcome_aside l i words after Refused told q a h e = cc
  outcome_aside l i words after (Marks th) told q a h e = let same : words ≡ after = cc in ap (λ ws. slice_get ws i) (sym same)
  outcome_aside l i words after (Loads c next) told q a h e = let k = load_inv words next (slice_get words c) after q e in ap (λ ws. slice_get ws i) k.2
  outcome_aside l i words after (Stores c w th) told q a h e =
      let k = change_inv words c (λ v. Becomes w (pos 0) th) (slice_get words c) after q e in
      let lt : c < cells_of code s = h.1 in
      let far = a.past in
      ap (λ ws. slice_get ws i) k.5 ∙ slice_get-set_other words c i k.1 (λ same. absurd (omega (arith, lt, far, same)))
  outcome_aside l i words after (Operates x change) told q a h e =
      let p = (machine code s).place x.obj in
      let k = change_inv words p change (slice_get words p) after q e in
      ap (λ ws. slice_get ws i) k.5 ∙ slice_get-set_other words p i k.1 (λ same. a.none x.obj h.object (sym same))

  module _ (runnable : IsRunnable code) (limits : IsWithinLimits s) where
    step_aside : (st st1 : State Told) (l : Label) → KeepsAside code s st.words → stepped (machine code s) st l ≡ Some st1 → KeepsAside code s st1.words
    step_aside st st1 l h e i far none =
        let x = steps_of (machine code s) st l st1 e in
        ap (λ (z : State Told). slice_get z.words i) x.to
        ∙ outcome_aside l i st.words x.words (effect_of code s l x.before) x.before x.after (record { past = far; none = none }) ((lawful code s runnable limits).effects l x.before) x.leaves
        ∙ h i far none

    pub reached_aside : (st : State Told) → IsReachable code s st → KeepsAside code s st.words
    reached_aside st r = kept_along (machine code s) (λ (z : State Told). KeepsAside code s z.words) step_aside r.0 (start_state code s) st r.1 (λ i far none. refl)

  -- a walk from a state that can be reached leads to one
  pub walk_more : (es : List Entry) (st st1 : State Told) → IsReachable code s st → walk_of code s es st ≡ Some st1 → IsReachable code s st1
  walk_more es st st1 r e = reaches_solo code s es (start_state code s) st st1 r (solo_of_walk (machine code s) es st st1 e)

  -- a state of a walk can be reached
  pub walk_reached : (es : List Entry) (st : State Told) → walk_of code s es (start_state code s) ≡ Some st → IsReachable code s st
  walk_reached es st e = reaches_solo code s es (start_state code s) (start_state code s) st ([], refl) (solo_of_walk (machine code s) es (start_state code s) st e)
