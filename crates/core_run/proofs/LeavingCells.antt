-- Own steps of a thread, and whether it comes to a cell that the machine doesn't have.
use Rattle.std.proofs.Common.{◌≡◌, ℕ, zero, suc, ◌<◌, ◌-◌, Bool, true, false, not, nat_lt, List, [], Some, None, refl, sym, ap, ◌∙◌, subst, arith}
use Rattle.std.specs.Prelude.{slice_get, if◌then◌else◌}
use Rattle.std.proofs.lemmas.Option.{same_Some, slice_get_past}
use Rattle.sync_objects.specs.Setup.{SetupView}
use Rattle.word_semantics.specs.declared.event.Action.{Action}
use Rattle.word_semantics.specs.declared.event.Action.TheVariants as action
use Rattle.flow_code.specs.declared.code.Code.{Code}
use Rattle.flow_code.specs.Threads.{Thread}
use Rattle.flow_code.specs.Next.{action_at}
use Rattle.flow_code.specs.Settle.{settled, next}
use Rattle.core_run.specs.Machine.{Told, machine, effect_of, action_effect}
use Rattle.core_run.specs.Words.{cells_of}
use Rattle.core_run.specs.Outside.{is_outside, ComesOutside, GoesOutside}
use Rattle.core_run.proofs.Lawful.{effect_go}
use Rattle.run_theory.specs.Labels.{Go}
use Rattle.run_theory.specs.Steps.{State, Effect, Refused, outcome, with_thread, step_of_thread, stepped, added}
use Rattle.run_theory.specs.Walk.{alone}
use Rattle.run_theory.proofs.Solo.{alone_more}

module _ (code : Code) (s : SetupView) where
  unless : (b : Bool) (e : Effect Told) → not b ≡ true → (if b then e else Refused) ≡ Refused
  unless true e h = cc
  unless false e h = refl

  -- no such action is made
  outside_refused : (t : ℕ) (told : Told) (th : Thread) (a : Action) → is_outside code s a ≡ true → action_effect code s t told th a ≡ Refused
  outside_refused t told th action.Quiet h = refl
  outside_refused t told th (action.Load c) h = unless (nat_lt c (cells_of code s)) _ h
  outside_refused t told th (action.Store c w) h = unless (nat_lt c (cells_of code s)) _ h
  outside_refused t told th (action.Operate o obj) h = cc
  outside_refused t told th action.Mark h = cc
  outside_refused t told th action.Ended h = refl

  pub comes_refused : (t : ℕ) (told : Told) → is_outside code s (next code s t told.thread) ≡ true → effect_of code s (Go t) told ≡ Refused
  comes_refused t told h = effect_go code s t told ∙ outside_refused t told (settled code s t told.thread) (action_at code s t (settled code s t told.thread)) h

  pub comes_stuck : (t : ℕ) (st : State Told) → ComesOutside code s t st → stepped (machine code s) st (Go t) ≡ None
  comes_stuck t st c =
      ap (step_of_thread (machine code s) st (Go t)) c.at
      ∙ ap (λ e. with_thread (machine code s) st.threads t (outcome (machine code s) st.words e)) (comes_refused t c.told c.outside)

  -- ---- one own step more or less

  pub outside_more : (left t : ℕ) (st st1 : State Told) → stepped (machine code s) st (Go t) ≡ Some st1 → added (machine code s) st (Go t) ≡ [] → GoesOutside code s left t st1 → GoesOutside code s (suc left) t st
  outside_more left t st st1 h none g = record {
    steps = suc g.steps;
    fewer = omega (arith, g.fewer);
    last = g.last;
    goes = alone_more (machine code s) g.steps t st st1 h none ∙ g.goes;
    comes = g.comes;
  }

  less_from : (left t : ℕ) (st st1 : State Told) → stepped (machine code s) st (Go t) ≡ Some st1 → added (machine code s) st (Go t) ≡ [] → (k : ℕ) → k < suc left → (last : State Told) → alone (machine code s) k t st ≡ Some last → ComesOutside code s t last → GoesOutside code s left t st1
  less_from left t st st1 h none zero lt last goes comes =
      let stuck : stepped (machine code s) st (Go t) ≡ None = comes_stuck t st (subst (ComesOutside code s t) (sym (same_Some _ _ goes)) comes) in
      let clash : Some st1 ≡ None = sym h ∙ stuck in
      cc
  less_from left t st st1 h none (suc k) lt last goes comes = record {
    steps = k;
    fewer = omega (arith, lt);
    last = last;
    goes = sym (alone_more (machine code s) k t st st1 h none) ∙ goes;
    comes = comes;
  }

  pub outside_less : (left t : ℕ) (st st1 : State Told) → stepped (machine code s) st (Go t) ≡ Some st1 → added (machine code s) st (Go t) ≡ [] → GoesOutside code s (suc left) t st → GoesOutside code s left t st1
  outside_less left t st st1 h none g = less_from left t st st1 h none g.steps g.fewer g.last g.goes g.comes

  -- ---- no own step

  stuck_from : (t : ℕ) (st : State Told) → ((n : ℕ) → alone (machine code s) (suc n) t st ≡ None) → (ComesOutside code s t st → ⊥) → (k : ℕ) (last : State Told) → alone (machine code s) k t st ≡ Some last → ComesOutside code s t last → ⊥
  stuck_from t st h inside zero last goes comes = inside (subst (ComesOutside code s t) (sym (same_Some _ _ goes)) comes)
  stuck_from t st h inside (suc k) last goes comes = let clash : None ≡ Some last = sym (h k) ∙ goes in cc

  pub stuck_inside : (n t : ℕ) (st : State Told) → ((k : ℕ) → alone (machine code s) (suc k) t st ≡ None) → (ComesOutside code s t st → ⊥) → GoesOutside code s n t st → ⊥
  stuck_inside n t st h inside g = stuck_from t st h inside g.steps g.last g.goes g.comes

  pub comes_at_once : (n t : ℕ) (st : State Told) → 0 < n → ComesOutside code s t st → GoesOutside code s n t st
  comes_at_once n t st lt c = record { steps = 0; fewer = lt; last = st; goes = refl; comes = c }

  pub none_left : (n t : ℕ) (st : State Told) → n ≡ 0 → GoesOutside code s n t st → ⊥
  none_left n t st e g = absurd (omega (arith, e, g.fewer))

  -- a thread that there isn't
  pub no_thread : (n t : ℕ) (st : State Told) → slice_get st.threads t ≡ None → ((k : ℕ) → alone (machine code s) (suc k) t st ≡ None) → GoesOutside code s n t st → ⊥
  no_thread n t st none h = stuck_inside n t st h (λ c. let clash : None ≡ Some c.told = sym none ∙ c.at in cc)
