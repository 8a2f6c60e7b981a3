-- The next free cell of a thread is never before its arena.
use Rattle.std.proofs.Common.{◌≡◌, ◌≢◌, ℕ, zero, suc, ◌+◌, ◌-◌, ◌≤◌, Bool, true, false, if◌then◌else◌, ℤ, pos, List, [], ◌∷◌, ◌++◌, length, Option, Some, None, Ok, Err, refl, sym, ap, ◌∙◌, subst, ⊎_elim, arith, nat_le}
use Rattle.std.specs.Prelude.{Result, ◌==◌, slice_get}
use Rattle.std.proofs.lemmas.Bool.{cases_eq}
use Rattle.std.proofs.lemmas.Option.{same_Some}
use Rattle.rr_base.specs.declared.trap.Trap.{Trap}
use Rattle.rr_base.specs.declared.layout.Site.{Site}
use Rattle.rr_base.proofs.Lists.{slice_get-set_other, slice_get-set_same}
use Rattle.sync_objects.specs.Setup.{SetupView}
use Rattle.sync_objects.specs.declared.object.ObjId.{ObjId}
use Rattle.sync_objects.specs.declared.operation.Op.{Op}
use Rattle.sync_objects.specs.declared.operation.Op.TheVariants as op
use Rattle.word_semantics.specs.Cells.{size_of}
use Rattle.word_semantics.specs.Library.{library_onward, piece_of}
use Rattle.word_semantics.specs.Registers.{words_of}
use Rattle.word_semantics.specs.declared.event.Due.{Due}
use Rattle.word_semantics.specs.declared.event.Due.TheVariants as due
use Rattle.word_semantics.specs.declared.event.Onward.{Onward}
use Rattle.word_semantics.specs.declared.event.Onward.TheVariants as onward
use Rattle.flow_code.specs.declared.act.Act.{Act}
use Rattle.flow_code.specs.declared.act.Act.TheVariants as act
use Rattle.flow_code.specs.declared.code.Code.{Code}
use Rattle.flow_code.specs.declared.region.Region.{Region}
use Rattle.flow_code.specs.declared.thread.Phase.{Phase}
use Rattle.flow_code.specs.declared.thread.Phase.TheVariants as phase
use Rattle.flow_code.specs.declared.thread.Stripe.{Stripe}
use Rattle.flow_code.specs.Holding.{parting, left_after, taken, lacked, region_of, gives_at, open_place, to_give}
use Rattle.flow_code.specs.Next.{computed, or_else, entered, back_in, end_onward, resumed, call_after, on_unless, one_made, act_at, act_after, begun_after, phase_after, after_due, due_of, stepped, caller, pointers_of, value_of}
use Rattle.flow_code.specs.Settle.{settled}
use Rattle.flow_code.specs.Threads.{Frame, Thread, Object, object, arena_start, arena_end, fitted, is_main, objects_in}
use Rattle.flow_code.specs.Works.{work_of}
use Rattle.flow_code.proofs.Counts.{stepped_is}
use Rattle.flow_code.proofs.Settle.{settled_keeps}
use Rattle.core_run.specs.Histories.{IsReachable}
use Rattle.core_run.specs.Machine.{Told, machine, start_state}
use Rattle.core_run.proofs.ThreadRanges.{start_thread_is}
use Rattle.run_theory.specs.Labels.{Label, label_thread}
use Rattle.run_theory.specs.Steps.{State}
use Rattle.run_theory.proofs.Kept.{kept_along}
use Rattle.lock_ownership.proofs.Stepping.{Makes, by_itself, by_revoke, by_stop, by_close, HasStepped, has_stepped}

-- ---- one step

module _ (code : Code) (s : SetupView) (t : ℕ) where
  fitted_from : (sites : List Site) (end n at : ℕ) (os : List Object) → n ≤ at → n ≤ or_else (fitted sites end os at) n
  fitted_from sites end n at [] le = le
  fitted_from sites end n at (object into site ∷ os) le = by (nat_le (at + size_of sites site) end) (fitted_from sites end n (at + size_of sites site) os (omega arith))
    where
      by : (b : Bool) → n ≤ or_else (fitted sites end os (at + size_of sites site)) n → n ≤ or_else (if b then fitted sites end os (at + size_of sites site) else None) n
      by true h = h
      by false h = omega arith

  -- no cell is given back
  abbrev Grows : Thread → Thread → Type 0
  Grows th q = th.arena ≤ q.arena

  same : (n : ℕ) → n ≤ n
  same n = omega arith

  enters : (th : Thread) (below : List Frame) (f : ℕ) (arguments : List ℕ) → Grows th (entered code s t th below f arguments)
  enters th below f arguments = fitted_from code.sites (arena_end code s t) th.arena th.arena (objects_in code f) (same th.arena)

  computes : (th : Thread) (into : ℕ) (r : Result ℕ Trap) → Grows th (computed th into r)
  computes th into (Ok w) = same th.arena
  computes th into (Err k) = same th.arena

  goes : (th q : Thread) (into : Option ℕ) (o : Onward) → q.arena ≡ th.arena → Grows th (resumed q into o)
  goes th q into (onward.Stays kept) e = omega (arith, e)
  goes th q into (onward.Gives w) e = omega (arith, e)
  goes th q into onward.Ends e = omega (arith, e)

  parts : (th q : Thread) (xs : List Stripe) → Grows th q → Grows th (left_after th xs q)
  parts th q [] h = h
  parts th q (x ∷ xs) h = same th.arena

  ends : (b : Bool) (th : Thread) (made : ℕ) → Grows th (end_onward b th made)
  ends true th made = same th.arena
  ends false th zero = same th.arena
  ends false th (suc zero) = same th.arena
  ends false th (suc (suc n)) = same th.arena

  backs : (th : Thread) (value : ℕ) (o : Option Frame) → Grows th (back_in code th value o)
  backs th value None = same th.arena
  backs th value (Some f) = same th.arena

  either : (b : Bool) (th x y : Thread) → Grows th x → Grows th y → Grows th (if b then x else y)
  either true th x y h k = h
  either false th x y h k = k

  past_or : {A : Type 0} (o : Option A) (th q : Thread) → Grows th q → Grows th (on_unless o q)
  past_or None th q h = h
  past_or (Some x) th q h = h

  takes : (th : Thread) (r : Option Region) (next : Option ℕ) → Grows th (taken code th r next)
  takes th None next = same th.arena
  takes th (Some r) None = same th.arena
  takes th (Some r) (Some n) = same th.arena

  gives : (th : Thread) (o : Option ℕ) (next : Option (ℕ × ℕ)) → Grows th (gives_at th o next)
  gives th None next = same th.arena
  gives th (Some i) next = same th.arena

  acts : (th : Thread) (o : Option Act) (answer : ℤ) → Grows th (act_after code s t th o answer)
  acts th None answer = same th.arena
  acts th (Some (act.Compute into work)) answer = computes th into (work_of s.slots code.sites (pointers_of code th.top) th.top.registers work)
  acts th (Some (act.Alloc into site None)) answer = same th.arena
  acts th (Some (act.Alloc into site (Some size))) answer = omega arith
  acts th (Some (act.LoadCell into through)) answer = same th.arena
  acts th (Some (act.StoreCell through from)) answer = same th.arena
  acts th (Some act.Mark) answer = same th.arena
  acts th (Some (act.Call function arguments into)) answer = enters th (th.below ++ one_made th.top (pos 0) ∷ []) function (words_of th.top.registers arguments)
  acts th (Some (act.Library call arguments into)) answer =
      parts th (call_after code s t th call arguments into answer) (parting call th.top.made th.stripes)
      (goes th (record th { printed = th.printed + length (piece_of call (words_of th.top.registers arguments)) }) into (library_onward (caller code s t th) call (words_of th.top.registers arguments) th.top.made th.top.kept answer) refl)
  acts th (Some (act.Jump to)) answer = same th.arena
  acts th (Some (act.Branch on then_at else_at)) answer = same th.arena
  acts th (Some (act.Return value)) answer =
      either (length th.below == 0) th (end_onward (is_main code th.top.function) th th.top.made) (back_in code th (value_of th.top.registers value) (slice_get th.below (length th.below - 1)))
      (ends (is_main code th.top.function) th th.top.made) (backs th (value_of th.top.registers value) (slice_get th.below (length th.below - 1)))
  acts th (Some (act.Take region)) answer =
      past_or (lacked code th (region_of code th.top region)) th (taken code th (region_of code th.top region) (lacked code th (region_of code th.top region)))
      (takes th (region_of code th.top region) (lacked code th (region_of code th.top region)))
  acts th (Some (act.Give region)) answer =
      past_or (to_give code th region) th (gives_at th (open_place code th region) (to_give code th region))
      (gives th (open_place code th region) (to_give code th region))

  begins : (u : ℕ) (th : Thread) (f : ℕ) (answer : ℤ) → u ≡ t → Grows th (begun_after code s u th f answer)
  begins zero th f answer e = subst (λ z. Grows th (entered code s z th [] f [])) (sym e) (enters th [] f [])
  begins (suc k) th f answer e = same th.arena

  phases : (th : Thread) (p : Phase) (answer : ℤ) → Grows th (phase_after code s t th p answer)
  phases th phase.Fresh answer = same th.arena
  phases th (phase.Begun f) answer = begins t th f answer refl
  phases th (phase.Loaded f w) answer = enters th [] f (w ∷ [])
  phases th phase.Running answer = acts th (act_at code th.top) answer
  phases th phase.Ended answer = same th.arena
  phases th phase.Halted answer = same th.arena
  phases th (phase.Trapped k l) answer = same th.arena
  phases th phase.Stopped answer = same th.arena
  phases th phase.Closed answer = same th.arena

  dues : (th : Thread) (d : Due) (answer : ℤ) → Grows th (after_due code s t th d answer)
  dues th due.Nothing answer = same th.arena
  dues th due.Quiet answer = phases th th.phase answer
  dues th (due.Load c) answer = phases th th.phase answer
  dues th (due.Store c w) answer = phases th th.phase answer
  dues th due.Mark answer = phases th th.phase answer
  dues th (due.Operate op.Retake obj) answer = same th.arena
  dues th (due.Operate o obj) answer = phases th th.phase answer
  dues th (due.Trap k) answer = same th.arena

  pub steps : (th : Thread) (answer : ℤ) → Grows th (stepped code s t th answer)
  steps th answer = subst (Grows th) (sym (stepped_is code s t th (due_of code s t th) answer refl)) (dues th (due_of code s t th) answer)

  pub settles : (n : ℕ) (th : Thread) → n ≤ th.arena → n ≤ (settled code s t th).arena
  settles n th le = settled_keeps code s t (λ q. n ≤ q.arena) (λ q e h. (let more = steps q (pos 0) in omega arith)) th le

-- ---- in all states that are reached

module _ (code : Code) (s : SetupView) where
  record AllFrom (st : State Told) : Type 0 where
    each : (t : ℕ) (told : Told) → slice_get st.threads t ≡ Some told → arena_start code s t ≤ told.thread.arena

  at_start : AllFrom (start_state code s)
  at_start = record { each = λ t told e. subst (λ (z : Told). arena_start code s t ≤ z.thread.arena) (sym (start_thread_is code s t told e)) (same code s t (arena_start code s t)) }

  module _ (st st1 : State Told) (l : Label) (h : HasStepped code s st l st1) (all : AllFrom st) where
    abbrev mine : ℕ
    mine = label_thread l

    before : arena_start code s mine ≤ h.before.thread.arena
    before = all.each mine h.before h.stands

    by_step : (answer : ℤ) → h.after.thread ≡ stepped code s mine (settled code s mine h.before.thread) answer → arena_start code s mine ≤ h.after.thread.arena
    by_step answer e =
        let rested = settles code s mine (arena_start code s mine) h.before.thread before in
        let more = steps code s mine (settled code s mine h.before.thread) answer in
        subst (λ (q : Thread). arena_start code s mine ≤ q.arena) (sym e) (omega arith)

    by_operation : (o : Op) (obj : ObjId) (answer : ℤ) → Makes code s l h.before.thread o obj answer h.after.thread → arena_start code s mine ≤ h.after.thread.arena
    by_operation o obj answer (by_itself c) = by_step answer c.after
    by_operation o obj answer (by_revoke lock stripe may e g after) = subst (λ (q : Thread). arena_start code s mine ≤ q.arena) (sym after) before
    by_operation o obj answer (by_stop may e g after) = subst (λ (q : Thread). arena_start code s mine ≤ q.arena) (sym after) before
    by_operation o obj answer (by_close may e g after) = subst (λ (q : Thread). arena_start code s mine ≤ q.arena) (sym after) before

    own : arena_start code s mine ≤ h.after.thread.arena
    own = ⊎_elim (λ a. by_step a.answer a.comes.after) (λ x. by_operation x.op x.obj x.answer x.makes) h.kind

    there : slice_get st1.threads mine ≡ Some h.after
    there = ap (λ ths. slice_get ths mine) h.threads ∙ slice_get-set_same st.threads mine h.after h.before h.stands

    others : (v : ℕ) → v ≢ mine → slice_get st1.threads v ≡ slice_get st.threads v
    others v ne = ap (λ ths. slice_get ths v) h.threads ∙ slice_get-set_other st.threads mine v h.after ne

    all_after : AllFrom st1
    all_after = record {
      each = λ t told e. ⊎_elim
          (λ eq. subst (λ v. arena_start code s v ≤ told.thread.arena) (sym eq)
          (subst (λ (z : Told). arena_start code s mine ≤ z.thread.arena) (same_Some h.after told (sym there ∙ ap (slice_get st1.threads) (sym eq) ∙ e)) own))
          (λ ne. all.each t told (sym (others t ne) ∙ e))
          (cases_eq t mine);
    }

  pub arena_from : (st : State Told) → IsReachable code s st → (t : ℕ) (told : Told) → slice_get st.threads t ≡ Some told → arena_start code s t ≤ told.thread.arena
  arena_from st reached = (kept_along (machine code s) AllFrom (λ a b l h e. all_after a b l (has_stepped code s a b l e) h) reached.0 (start_state code s) st reached.1 at_start).each
