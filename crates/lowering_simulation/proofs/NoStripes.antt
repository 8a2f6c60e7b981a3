-- Where a code has no weak locks, no operation on a stripe is made.
use Rattle.std.proofs.Common.{◌≡◌, ℕ, true, false, if◌then◌else◌, nat_lt, List, [], ◌∷◌, ◌++◌, length, Option, Some, None, refl, sym, ap, subst, ◌∙◌, arith}
use Rattle.std.specs.Prelude.{slice_get, option_and_then}
use Rattle.std.proofs.lemmas.Bool.{ltb-true, and_parts}
use Rattle.sync_objects.specs.Setup.{SetupView}
use Rattle.sync_objects.specs.declared.object.ObjId.TheVariants as object
use Rattle.sync_objects.specs.declared.operation.Op.TheVariants as op
use Rattle.flow_code.specs.declared.code.Code.{Code}
use Rattle.word_semantics.specs.declared.event.Due.{Due}
use Rattle.word_semantics.specs.declared.event.Due.TheVariants as due
use Rattle.word_semantics.specs.declared.event.Action.{Action}
use Rattle.word_semantics.specs.declared.event.Action.TheVariants as action
use Rattle.flow_code.specs.Threads.{Thread}
use Rattle.flow_code.specs.Next.{due_of, action_of, stepped as thread_stepped, gave_up}
use Rattle.flow_code.specs.Settle.{settled}
use Rattle.flow_code.proofs.Settle.{action_is}
use Rattle.thread_interpreter.specs.Pieces.{piece_next}
use Rattle.core_run.specs.Words.{has_object}
use Rattle.core_run.specs.Machine.{Told, operation, action_effect, may_revoke, effect_of, machine}
use Rattle.core_run.proofs.Lawful.{effect_go, effect_revoke}
use Rattle.run_theory.specs.Labels.{Label, Go, Revoke, Stop, Close, label_thread}
use Rattle.run_theory.specs.Steps.{State, Leaves, outcome, stepped, run}
use Rattle.run_theory.proofs.Swap.{steps_of}
use Rattle.lowering_simulation.specs.RunEvents.{transition_of, transition_at, transitions_on, transitions_from, event_of, is_stripe, is_of_stripe, without_stripes}
use Rattle.lowering_simulation.specs.SourceRuns.{own, ThreadTransition}
use Rattle.lowering_simulation.proofs.Outcomes.{operated_inv, allowed_inv}

module _ (code : Code) (s : SetupView) (none : code.locks ≡ []) where
  pub no_lock : (lock stripe : ℕ) → has_object code s (object.Weak lock stripe) ≡ true → ⊥
  no_lock lock stripe h =
      let low = ltb-true lock (length code.locks) (and_parts (nat_lt lock (length code.locks)) (nat_lt stripe 8) h).0 in
      let empty = ap length none in
      absurd (omega arith)

  module _ (t : ℕ) (words after : List ℕ) (told q : Told) where
    no_action : (n : Thread) (a : Action) → outcome (machine code s) words (action_effect code s t told n a) ≡ Leaves after q → is_stripe a ≡ false
    no_action n (action.Load c) h = refl
    no_action n (action.Store c v) h = refl
    no_action n action.Mark h = refl
    no_action n action.Quiet h = refl
    no_action n action.Ended h = refl
    no_action n (action.Operate o (object.Weak lock k)) h =
        let i = operated_inv code s words after t (record told { thread = n }) q o (object.Weak lock k) (piece_next code n o) (λ z. thread_stepped code s t n z) h in
        absurd (no_lock lock k i.has)
    no_action n (action.Operate o (object.Mutex c)) h = refl
    no_action n (action.Operate o (object.Cond c)) h = refl
    no_action n (action.Operate o (object.Barrier c)) h = refl
    no_action n (action.Operate o (object.Rw c)) h = refl
    no_action n (action.Operate o (object.Slot k)) h = refl
    no_action n (action.Operate o object.Threads) h = refl
    no_action n (action.Operate o object.Halt) h = refl
    no_action n (action.Operate o object.Input) h = refl
    no_action n (action.Operate o object.Output) h = refl

    event_stripe : (n : Thread) (d : Due) → is_stripe (action_of d) ≡ false → is_of_stripe (own (event_of code s words t n d)) ≡ false
    event_stripe n due.Nothing h = refl
    event_stripe n due.Quiet h = refl
    event_stripe n (due.Load c) h = refl
    event_stripe n (due.Store c v) h = refl
    event_stripe n due.Mark h = refl
    event_stripe n (due.Operate o obj) h = h
    event_stripe n (due.Trap why) h = refl

  no_transition : (l : Label) (words after : List ℕ) (told q : Told) → outcome (machine code s) words (effect_of code s l told) ≡ Leaves after q → is_of_stripe (transition_of code s words l told.thread) ≡ false
  no_transition (Go t) words after told q h =
      let n = settled code s t told.thread in
      let out = subst (λ e. outcome (machine code s) words e ≡ Leaves after q) (effect_go code s t told ∙ ap (action_effect code s t told n) (action_is code s t n)) h in
      event_stripe t words after told q n (due_of code s t n) (no_action t words after told q n (action_of (due_of code s t n)) out)
  no_transition (Revoke t lock stripe) words after told q h =
      let may = allowed_inv code s words after (may_revoke told.thread lock stripe) (operation code s t told op.Revoke (object.Weak lock stripe) [] (λ answer. gave_up told.thread lock stripe)) q (subst (λ e. outcome (machine code s) words e ≡ Leaves after q) (effect_revoke code s t lock stripe told) h) in
      let i = operated_inv code s words after t told q op.Revoke (object.Weak lock stripe) [] (λ answer. gave_up told.thread lock stripe) may.1 in
      absurd (no_lock lock stripe i.has)
  no_transition (Stop t) words after told q h = refl
  no_transition (Close t) words after told q h = refl

  kept_first : (d : ThreadTransition) (ds : List ThreadTransition) → is_of_stripe d.transition ≡ false → without_stripes ds ≡ ds → without_stripes (d ∷ ds) ≡ d ∷ ds
  kept_first d ds no' h = ap (λ b. if b then without_stripes ds else d ∷ without_stripes ds) no' ∙ ap (λ x. d ∷ x) h

  -- so all transitions of a run are the source's
  pub all_kept : (ls : List Label) (st end : State Told) → run (machine code s) ls st ≡ Some end → without_stripes (transitions_from code s ls st) ≡ transitions_from code s ls st
  all_kept [] st end h = refl
  all_kept (l ∷ ls) st end h = by (stepped (machine code s) st l) refl h (λ st1 h1. all_kept ls st1 end h1)
    where
      by : (o : Option (State Told)) → stepped (machine code s) st l ≡ o → option_and_then (run (machine code s) ls) o ≡ Some end →
          ((st1 : State Told) → run (machine code s) ls st1 ≡ Some end → without_stripes (transitions_from code s ls st1) ≡ transitions_from code s ls st1) →
          without_stripes (transition_at code s st.words l (slice_get st.threads (label_thread l)) ++ transitions_on code s (transitions_from code s ls) o) ≡ transition_at code s st.words l (slice_get st.threads (label_thread l)) ++ transitions_on code s (transitions_from code s ls) o
      by None e h more = cc
      by (Some st1) e h more =
          let x = steps_of (machine code s) st l st1 e in
          let ds = transitions_from code s ls st1 in
          subst (λ o. without_stripes (transition_at code s st.words l o ++ ds) ≡ transition_at code s st.words l o ++ ds) (sym x.stands)
          (kept_first (record { thread = label_thread l; transition = transition_of code s st.words l x.before.thread }) ds (no_transition l st.words x.words x.before x.after x.leaves) (more st1 h))
