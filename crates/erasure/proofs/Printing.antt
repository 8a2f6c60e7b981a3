-- What is printed with weak locks is what is printed without them: a thread prints the same at each event, and operations on
-- stripes print nothing.
use Rattle.std.proofs.Common.{◌≡◌, ℕ, Bool, true, false, if◌then◌else◌, List, [], ◌∷◌, ◌++◌, Option, Some, None, refl, sym, ap, subst, ◌∙◌}
use Rattle.std.specs.Prelude.{slice_get, option_map}
use Rattle.std.proofs.lemmas.Bool.{true≢false}
use Rattle.sync_objects.specs.Setup.{SetupView}
use Rattle.sync_objects.specs.Names.{name_of, Fits}
use Rattle.sync_objects.specs.declared.entry.Entry.{Entry}
use Rattle.sync_objects.specs.declared.object.ObjId.{ObjId}
use Rattle.sync_objects.specs.declared.object.ObjId.TheVariants as object
use Rattle.sync_objects.specs.declared.operation.Op.{Op}
use Rattle.sync_objects.specs.declared.operation.Op.TheVariants as op
use Rattle.flow_code.specs.declared.act.Act.{Act}
use Rattle.flow_code.specs.declared.act.Act.TheVariants as act
use Rattle.flow_code.specs.declared.code.Code.{Code}
use Rattle.flow_code.specs.declared.thread.Phase.TheVariants as phase
use Rattle.word_semantics.specs.declared.event.Due.{Due}
use Rattle.word_semantics.specs.declared.event.Due.TheVariants as due
use Rattle.word_semantics.specs.declared.event.Action.{Action}
use Rattle.word_semantics.specs.declared.event.Action.TheVariants as action
use Rattle.flow_code.specs.Threads.{Thread}
use Rattle.flow_code.specs.Next.{act_at, due_of, action_of}
use Rattle.flow_code.specs.Settle.{settled, IsRunnable}
use Rattle.flow_code.proofs.Asked.{own_action}
use Rattle.flow_code.proofs.Settle.{action_is}
use Rattle.weak_code.specs.Weakened.{retarget}
use Rattle.weak_code.specs.Stripped.{plain_of, strip}
use Rattle.core_tree.specs.Runs.{printed_in}
use Rattle.lower_sound.specs.Follows.{Prints}
use Rattle.thread_interpreter.specs.Pieces.{piece_at, piece_next}
use Rattle.core_run.specs.Machine.{Told, machine, start_state}
use Rattle.core_run.specs.Walks.{joined, walk_of, out_of}
use Rattle.run_theory.specs.Labels.{Label, Go, Revoke, Stop, Close, label_thread}
use Rattle.run_theory.specs.Steps.{State, stepped}
use Rattle.lowering_simulation.specs.RunEvents.{printed_at, event_of, transition_of, transition_at, transitions_on, transitions_from, is_of_stripe, without_stripes}
use Rattle.lowering_simulation.specs.SourceRuns.{own, ThreadTransition, printed_by, bytes_of}
use Rattle.lowering_simulation.specs.WalkEvents.{labels_of_walk}
use Rattle.lowering_simulation.proofs.Arrives.{printed_so}
use Rattle.lowering_simulation.proofs.Printing.{walk_prints}
use Rattle.erasure.specs.Erased.{erased_walk}
use Rattle.erasure.proofs.ActDues.{steps_aside, not_weak}
use Rattle.erasure.proofs.Bare.{instrs_of, bare_frame, bare, bare_act}

-- ---- the same event

piece_kept : (to : ℕ → ℕ) (o : Option Act) (registers : List ℕ) → piece_at (option_map (retarget to) o) registers ≡ piece_at o registers
piece_kept to None registers = refl
piece_kept to (Some (act.Library call arguments into)) registers = refl
piece_kept to (Some (act.Compute into work)) registers = refl
piece_kept to (Some (act.Alloc into site size)) registers = refl
piece_kept to (Some (act.LoadCell into through)) registers = refl
piece_kept to (Some (act.StoreCell through from)) registers = refl
piece_kept to (Some act.Mark) registers = refl
piece_kept to (Some (act.Call function arguments into)) registers = refl
piece_kept to (Some (act.Jump k)) registers = refl
piece_kept to (Some (act.Branch on then_at else_at)) registers = refl
piece_kept to (Some (act.Return value)) registers = refl
piece_kept to (Some (act.Take r)) registers = refl
piece_kept to (Some (act.Give r)) registers = refl

module _ (w : Code) (e : ℕ) (th : Thread) (here : steps_aside w th th.phase ≡ false) where
  same_piece : th.phase ≡ phase.Running → piece_at (act_at w th.top) th.top.registers ≡ piece_at (act_at (strip w) (bare_frame w th.top)) th.top.registers
  same_piece runs =
      let strong = not_weak th (act_at w th.top) (subst (λ p. steps_aside w th p ≡ false) runs here) in
      sym (piece_kept (plain_of (instrs_of w th.top.function)) (act_at w th.top) th.top.registers) ∙ ap (λ o. piece_at o th.top.registers) (sym (bare_act w th.top strong))

  -- what a thread prints without weak locks, it prints with them
  pub prints_same : (a : Action) (out : List ℕ) → Prints (strip w) (bare w e th) a out → printed_at w th a ≡ out
  prints_same (action.Operate op.Print obj) out h = ap (λ piece. joined (piece ∷ [])) (same_piece h.0) ∙ printed_so (strip w) (bare w e th) (action.Operate op.Print obj) out h
  prints_same (action.Operate o obj) out h = sym h
  prints_same (action.Load c) out h = sym h
  prints_same (action.Store c v) out h = sym h
  prints_same action.Mark out h = sym h
  prints_same action.Quiet out h = sym h
  prints_same action.Ended out h = sym h

-- ---- operations on stripes

module _ (code : Code) (s : SetupView) (runnable : IsRunnable code) where
  -- a print is none on a stripe
  none_printed : (th : Thread) (o : Op) (lock stripe : ℕ) → Fits (name_of o) (object.Weak lock stripe) → joined (piece_next code th o) ≡ []
  none_printed th op.Print lock stripe fits = cc
  none_printed th o lock stripe fits = refl

  event_silent : (ws : List ℕ) (t : ℕ) (n : Thread) (d : Due) → ((o : Op) (obj : ObjId) → action_of d ≡ action.Operate o obj → Fits (name_of o) obj) → is_of_stripe (own (event_of code s ws t n d)) ≡ true → printed_in (event_of code s ws t n d) ≡ []
  event_silent ws t n due.Nothing fits h = refl
  event_silent ws t n due.Quiet fits h = refl
  event_silent ws t n (due.Load c) fits h = refl
  event_silent ws t n (due.Store c v) fits h = refl
  event_silent ws t n due.Mark fits h = refl
  event_silent ws t n (due.Operate o (object.Weak lock stripe)) fits h = none_printed n o lock stripe (fits o (object.Weak lock stripe) refl)
  event_silent ws t n (due.Operate o obj) fits h = absurd (true≢false (sym h))
  event_silent ws t n (due.Trap why) fits h = refl

  transition_silent : (ws : List ℕ) (l : Label) (th : Thread) → is_of_stripe (transition_of code s ws l th) ≡ true → printed_by (transition_of code s ws l th) ≡ []
  transition_silent ws (Go t) th h =
      let n = settled code s t th in
      event_silent ws t n (due_of code s t n) (λ o obj at. (own_action code s t n o obj runnable (action_is code s t n ∙ at)).fits) h
  transition_silent ws (Revoke t lock stripe) th h = refl
  transition_silent ws (Stop t) th h = refl
  transition_silent ws (Close t) th h = refl

  silent_first : (d : ThreadTransition) (ds : List ThreadTransition) → (is_of_stripe d.transition ≡ true → printed_by d.transition ≡ []) → bytes_of (without_stripes ds) ≡ bytes_of ds → bytes_of (without_stripes (d ∷ ds)) ≡ bytes_of (d ∷ ds)
  silent_first d ds silent more = by (is_of_stripe d.transition) refl
    where
      by : (b : Bool) → is_of_stripe d.transition ≡ b → bytes_of (if b then without_stripes ds else d ∷ without_stripes ds) ≡ printed_by d.transition ++ bytes_of ds
      by true e = more ∙ ap (λ out. out ++ bytes_of ds) (sym (silent e))
      by false e = ap (λ x. printed_by d.transition ++ x) more

  transitions_silent : (ls : List Label) (st : State Told) → bytes_of (without_stripes (transitions_from code s ls st)) ≡ bytes_of (transitions_from code s ls st)
  transitions_silent [] st = refl
  transitions_silent (l ∷ ls) st = by (slice_get st.threads (label_thread l)) (transitions_on code s (transitions_from code s ls) (stepped (machine code s) st l)) (on (stepped (machine code s) st l) (λ st1. transitions_silent ls st1))
    where
      on : (o : Option (State Told)) → ((st1 : State Told) → bytes_of (without_stripes (transitions_from code s ls st1)) ≡ bytes_of (transitions_from code s ls st1)) → bytes_of (without_stripes (transitions_on code s (transitions_from code s ls) o)) ≡ bytes_of (transitions_on code s (transitions_from code s ls) o)
      on None more = refl
      on (Some st1) more = more st1

      by : (o : Option Told) (rest : List ThreadTransition) → bytes_of (without_stripes rest) ≡ bytes_of rest → bytes_of (without_stripes (transition_at code s st.words l o ++ rest)) ≡ bytes_of (transition_at code s st.words l o ++ rest)
      by None rest more = more
      by (Some told) rest more = silent_first (record { thread = label_thread l; transition = transition_of code s st.words l told.thread }) rest (transition_silent st.words l told.thread) more

  -- the bytes that a walk tells are those that it prints as a run of the source
  pub erased_prints : (es : List Entry) (end : State Told) → walk_of code s es (start_state code s) ≡ Some end → out_of code s es (start_state code s) ≡ bytes_of (erased_walk code s es)
  erased_prints es end h = walk_prints code s es end h ∙ sym (transitions_silent (labels_of_walk code s es) (start_state code s))
