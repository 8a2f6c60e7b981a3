-- What a step does to the words of cells.
use Rattle.std.proofs.Common.{◌≡◌, ℕ, nat_lt, Bool, true, false, if◌then◌else◌, List, Some, sym, ap, subst, ◌∙◌, pos}
use Rattle.std.specs.Prelude.{slice_get, slice_set}
use Rattle.std.proofs.lemmas.Option.{same_Some}
use Rattle.rr_base.proofs.Lists.{slice_get-set_same}
use Rattle.sync_objects.specs.Setup.{SetupView}
use Rattle.word_semantics.specs.declared.event.Action.{Action}
use Rattle.word_semantics.specs.declared.event.Action.TheVariants as action
use Rattle.word_semantics.specs.Values.{number}
use Rattle.flow_code.specs.declared.code.Code.{Code}
use Rattle.flow_code.specs.Next.{stepped as thread_stepped, action_at}
use Rattle.flow_code.specs.Settle.{settled}
use Rattle.flow_code.specs.Threads.{Thread}
use Rattle.flow_code.proofs.Counts.{IsAccessAction}
use Rattle.core_run.specs.Machine.{Told, accessed, access_of, action_effect, effect_of, machine}
use Rattle.core_run.specs.Words.{cells_of}
use Rattle.core_run.proofs.Lawful.{effect_go}
use Rattle.run_theory.specs.Labels.{Label, Go, label_thread}
use Rattle.run_theory.specs.Ordered.{event_of}
use Rattle.run_theory.specs.Steps.{Becomes, Leaves, Refused, Loads, Stores, State, outcome, stepped}
use Rattle.run_theory.proofs.Swap.{load_inv, change_inv, steps_of}
use Rattle.lock_ownership.proofs.Stepping.{ComesTo, IsAccessStep, HasStepped}

-- a mark, a load of a word that is there, a store, or an operation
pub data Shape (code : Code) (s : SetupView) (words after : List ℕ) (l : Label) (th q : Thread) : Type 0 where
  marks : ComesTo code s l th action.Mark (pos 0) q → after ≡ words → Shape code s words after l th q
  loads : (c w : ℕ) → slice_get words c ≡ Some w → ComesTo code s l th (action.Load c) (number w) q → after ≡ words → Shape code s words after l th q
  stores : (c w : ℕ) → ComesTo code s l th (action.Store c w) (pos 0) q → after ≡ slice_set words c w → Shape code s words after l th q

module _ (code : Code) (s : SetupView) (l : Label) (told : Told) (is_own : l ≡ Go (label_thread l)) where
  abbrev z : Thread
  z = settled code s (label_thread l) told.thread

  access_shape : (words after : List ℕ) (q : Told) (a : Action) → IsAccessAction a → action_at code s (label_thread l) z ≡ a → outcome (machine code s) words (action_effect code s (label_thread l) told z a) ≡ Leaves after q → Shape code s words after l told.thread q.thread
  access_shape words after q action.Mark i e o =
      let same : words ≡ after = cc in
      marks (record { label = is_own; comes = e; after = cc }) (sym same)
  access_shape words after q (action.Load c) i e o = by (nat_lt c (cells_of code s)) o
    where
      by : (b : Bool) → outcome (machine code s) words (if b then Loads c (λ w. accessed told (thread_stepped code s (label_thread l) z (number w)) (access_of (label_thread l) z c w false)) else Refused) ≡ Leaves after q → Shape code s words after l told.thread q.thread
      by true o =
          let x = load_inv words (λ w. accessed told (thread_stepped code s (label_thread l) z (number w)) (access_of (label_thread l) z c w false)) (slice_get words c) after q o in
          loads c x.0 x.1 (record { label = is_own; comes = e; after = ap (λ (y : Told). y.thread) x.3 }) x.2
      by false o = cc
  access_shape words after q (action.Store c w) i e o = by (nat_lt c (cells_of code s)) o
    where
      by : (b : Bool) → outcome (machine code s) words (if b then Stores c w (accessed told (thread_stepped code s (label_thread l) z (pos 0)) (access_of (label_thread l) z c w true)) else Refused) ≡ Leaves after q → Shape code s words after l told.thread q.thread
      by true o =
          let to = accessed told (thread_stepped code s (label_thread l) z (pos 0)) (access_of (label_thread l) z c w true) in
          let x = change_inv words c (λ v. Becomes w (pos 0) to) (slice_get words c) after q o in
          let becomes : Becomes w (pos 0) to ≡ Becomes x.1 x.2 q = x.4 in
          let q_is : to ≡ q = cc in
          let w_is : w ≡ x.1 = cc in
          stores c w (record { label = is_own; comes = e; after = ap (λ (y : Told). y.thread) (sym q_is) }) (x.5 ∙ ap (slice_set words c) (sym w_is))
      by false o = cc
  access_shape words after q action.Quiet i e o = absurd i
  access_shape words after q (action.Operate p obj) i e o = absurd i
  access_shape words after q action.Ended i e o = absurd i

module _ (code : Code) (s : SetupView) (st st1 : State Told) (l : Label) (h : HasStepped code s st l st1) (e : stepped (machine code s) st l ≡ Some st1) where
  -- what an access or a mark is
  pub shape_of : IsAccessStep code s st.words st1.words (event_of (machine code s) st l) l h.before.thread h.after.thread → Shape code s st.words st1.words l h.before.thread h.after.thread
  shape_of a =
      let x = steps_of (machine code s) st l st1 e in
      let before : x.before ≡ h.before = same_Some x.before h.before (sym x.stands ∙ h.stands) in
      let x_threads : st1.threads ≡ slice_set st.threads (label_thread l) x.after = ap (λ (y : State Told). y.threads) x.to in
      let after : x.after ≡ h.after = same_Some x.after h.after (sym (slice_get-set_same st.threads (label_thread l) x.after x.before x.stands) ∙ ap (λ ths. slice_get ths (label_thread l)) (sym x_threads ∙ h.threads) ∙ slice_get-set_same st.threads (label_thread l) h.after h.before h.stands) in
      let words : st1.words ≡ x.words = ap (λ (y : State Told). y.words) x.to in
      let effect : effect_of code s l h.before ≡ action_effect code s (label_thread l) h.before (settled code s (label_thread l) h.before.thread) a.action =
      ap (λ k. effect_of code s k h.before) a.comes.label ∙ effect_go code s (label_thread l) h.before ∙ ap (action_effect code s (label_thread l) h.before (settled code s (label_thread l) h.before.thread)) a.comes.comes in
      let leaves : outcome (machine code s) st.words (effect_of code s l h.before) ≡ Leaves x.words h.after = ap (λ (y : Told). outcome (machine code s) st.words (effect_of code s l y)) (sym before) ∙ x.leaves ∙ ap (λ (y : Told). Leaves x.words y) after in
      subst (λ ws. Shape code s st.words ws l h.before.thread h.after.thread) (sym words)
      (access_shape code s l h.before a.comes.label st.words x.words h.after a.action a.is_access a.comes.comes (ap (outcome (machine code s) st.words) (sym effect) ∙ leaves))
