-- In each state that is reached all pointers point where the analysis says, if those of the start do.
use Rattle.std.proofs.Common.{◌≡◌, ℕ, zero, suc, ◌<◌, ◌⊎◌, inl, inr, ⊎_elim, true, false, List, [], Option, Some, refl, sym, ap, subst, ◌∙◌, ℤ, arith}
use Rattle.std.specs.Prelude.{slice_get}
use Rattle.std.proofs.lemmas.Bool.{true≢false}
use Rattle.std.proofs.lemmas.Option.{same_Some, slice_get_within}
use Rattle.sync_objects.specs.Setup.{SetupView}
use Rattle.sync_objects.specs.States.{SlotState, Shut, Started}
use Rattle.word_semantics.specs.Cells.{argument_cell}
use Rattle.word_semantics.specs.declared.library_call.LibraryCall.TheVariants as call
use Rattle.flow_code.specs.declared.act.Act.{Act}
use Rattle.flow_code.specs.declared.act.Act.TheVariants as act
use Rattle.flow_code.specs.declared.code.Code.{Code}
use Rattle.flow_code.specs.declared.thread.Phase.{Phase}
use Rattle.flow_code.specs.declared.thread.Phase.TheVariants as phase
use Rattle.flow_code.specs.Next.{act_at}
use Rattle.flow_code.specs.Settle.{IsRunnable}
use Rattle.flow_code.specs.Threads.{Frame, Thread}
use Rattle.flow_code.proofs.Runnable.{valid_runnable}
use Rattle.core_run.specs.Histories.{IsReachable}
use Rattle.core_run.specs.Machine.{Told, machine, start_state}
use Rattle.core_run.proofs.Reached.{kept}
use Rattle.run_theory.specs.Labels.{Label, label_thread}
use Rattle.run_theory.specs.Ordered.{event_of}
use Rattle.run_theory.specs.Steps.{State, stepped}
use Rattle.run_theory.proofs.Kept.{kept_along, reaches_step}
use Rattle.lock_ownership.proofs.Stepping.{IsAccessStep, HasStepped, has_stepped}
use Rattle.facts.specs.declared.constraint.Node.TheVariants.{Register}
use Rattle.points_to_sound.specs.Creations.{Creation, creation_at, creation_in, creation, was_started, slot_state, HandsOver}
use Rattle.points_to_sound.specs.Objects.{Object, AreLaidOut}
use Rattle.points_to_sound.specs.Pointing.{IsGood, IsStarted, GoodThread}
use Rattle.points_to_sound.specs.States.{marks_of, IsReady, PointsWell}
use Rattle.points_to_sound.proofs.Frames.{phase_stays}
use Rattle.points_to_sound.proofs.HandedOver.{hands_over}
use Rattle.points_to_sound.proofs.Handing.{SlotStep, slot_step, thread_within}
use Rattle.points_to_sound.proofs.Layouts.{set_got}
use Rattle.points_to_sound.proofs.Moved.{map_set, zs, HasMoved, has_moved}
use Rattle.points_to_sound.proofs.Settling.{Sets, Grows}

-- ---- who creates a thread stands at the call that starts it

record CreatesAt (o : Option Act) (f : ℕ) : Type 0 where
  arguments : List ℕ
  into : Option ℕ
  at : o ≡ Some (act.Library (call.Create f) arguments into)

same_function : (f : ℕ) (y v : Creation) → y.function ≡ f → Some y ≡ Some v → f ≡ v.function
same_function f y v g e = cc

creates_at : (o : Option Act) (n : ℕ) (kept : ℤ) (y : Creation) → creation_at o n kept ≡ Some y → CreatesAt o y.function
creates_at (Some (act.Library (call.Create f) arguments into)) zero kept y e = cc
creates_at (Some (act.Library (call.Create f) arguments into)) (suc zero) kept y e = record { arguments = arguments; into = into; at = ap (λ k. Some (act.Library (call.Create k) arguments into)) (same_function f _ y refl e) }
creates_at (Some (act.Library (call.Create f) arguments into)) (suc (suc n)) kept y e = record { arguments = arguments; into = into; at = ap (λ k. Some (act.Library (call.Create k) arguments into)) (same_function f _ y refl e) }
creates_at _ n kept y e = cc

creation_started_in : (code : Code) (f : Frame) (p : Phase) (y : Creation) → creation_in code f p ≡ Some y → IsStarted code y.function
creation_started_in code f phase.Running y e = let c = creates_at (act_at code f) f.made f.kept y e in record { function = f.function; instr = f.instr; arguments = c.arguments; into = c.into; at = c.at }
creation_started_in code f _ y e = cc

module _ (code : Code) (s : SetupView) (x : Sets code s) (st st1 : State Told) (l : Label) (reached : IsReachable code s st) (h : HasStepped code s st l st1) (e : stepped (machine code s) st l ≡ Some st1) (k : HandsOver code s st) (made : List Object) (g : PointsWell code s made st) where
  abbrev t : ℕ
  t = label_thread l

  abbrev th : Thread
  th = h.before.thread

  run : IsRunnable code
  run = valid_runnable code x.valid

  abbrev Moved : Type 0
  Moved = HasMoved code s x st st1 l reached h e k made g

  m : Moved
  m = has_moved code s x st st1 l reached h e k made g

  lt : t < s.slots
  lt = thread_within code s run x.limits st st1 l reached h

  either_thread : (u : ℕ) (told : Told) → slice_get st1.threads u ≡ Some told → ((u ≡ t → ⊥) × (slice_get st.threads u ≡ Some told)) ⊎ ((u ≡ t) × (h.after ≡ told))
  either_thread u told at = set_got st.threads t u h.after told (subst (λ ths. slice_get ths u ≡ Some told) h.threads at)

  within : (u : ℕ) (told : Told) → slice_get st.threads u ≡ Some told → u < s.slots
  within u told at = let few = slice_get_within st.threads u told at in let n = (kept code s run x.limits st reached).threads in omega arith

  -- a slot that is being created isn't started
  not_created : {P : Type 0} (j f : ℕ) → creation code th ≡ Some (record { slot = j; function = f; handed = false }) → was_started (slot_state code s st j) ≡ true → P
  not_created j f c w = absurd (true≢false (sym w ∙ (k.creating t h.before (record { slot = j; function = f; handed = false }) h.stands c).idle))

  handed_differs : {P : Type 0} (y v : Creation) → y.handed ≡ true → v.handed ≡ false → Some y ≡ Some v → P
  handed_differs y v a b z = absurd (true≢false (sym a ∙ ap (λ (c : Creation). c.handed) (same_Some y v z) ∙ b))

  other_handed : (u v : ℕ) (told : Told) (y : Creation) → (u ≡ t → ⊥) → slice_get st.threads u ≡ Some told → creation code told.thread ≡ Some y → y.handed ≡ true → slice_get st1.words (argument_cell y.slot) ≡ Some v → IsGood code s m.after (Register y.function 0) v
  other_handed u v told y ne at c handed w =
      ⊎_elim
      (λ old. m.grows (Register y.function 0) v (g.handed u v told y at c handed old))
      (λ n. absurd (ne (k.one u t told h.before y (record { slot = y.slot; function = n.0; handed = false }) at h.stands c n.1 refl)))
      (m.argument y.slot v (k.creating u told y at c).within w)

  -- ---- slots

  abbrev step : (j : ℕ) → j < s.slots → SlotStep code s run x.limits st st1 l reached h j
  step j few = slot_step code s run x.limits st st1 l reached h j few

  was_ready : (j f : ℕ) → j < s.slots → slot_state code s st j ≡ Started f → IsReady code s m.after st1.words j f
  was_ready j f few is =
      let r = g.ready j f few is in
      record {
        started = r.started;
        argument = λ v w. ⊎_elim (λ old. m.grows (Register f 0) v (r.argument v old)) (λ n. not_created j n.0 n.1 (ap was_started is)) (m.argument j v few w);
      }

  newly_ready : (j f n : ℕ) → j < s.slots → creation code th ≡ Some (record { slot = j; function = n; handed = true }) → n ≡ f → IsReady code s m.after st1.words j f
  newly_ready j f n few c same =
      subst (IsReady code s m.after st1.words j) same (record {
        started = creation_started_in code th.top th.phase (record { slot = j; function = n; handed = true }) c;
        argument = λ v w. ⊎_elim
            (λ old. m.grows (Register n 0) v (g.handed t v h.before (record { slot = j; function = n; handed = true }) h.stands c refl old))
            (λ d. handed_differs (record { slot = j; function = n; handed = true }) (record { slot = j; function = d.0; handed = false }) refl refl (sym c ∙ d.1))
            (m.argument j v few w);
      })

  same_started : (n f : ℕ) (y : SlotState) → (y ≡ Started n) ⊎ (y ≡ Shut) → y ≡ Started f → n ≡ f
  same_started n f y (inl a) b = let c = sym a ∙ b in cc
  same_started n f y (inr a) b = let c = sym a ∙ b in cc

  ready_after : (j f : ℕ) → j < s.slots → slot_state code s st1 j ≡ Started f → IsReady code s m.after st1.words j f
  ready_after j f few is =
      ⊎_elim
      (λ was. was_ready j f few was)
      (λ p. let y = (step j few).newly p.0 p.1 in newly_ready j f y.0 few y.1 (same_started y.0 f (slot_state code s st1 j) y.2 is))
      ((step j few).before f is)

  -- ---- begun threads

  was_arrived : (u f v : ℕ) (told : Told) → 0 < u → slice_get st.threads u ≡ Some told → told.thread.phase ≡ phase.Begun f → slice_get st1.words (argument_cell u) ≡ Some v → IsGood code s m.after (Register f 0) v
  was_arrived u f v told some at p w =
      ⊎_elim
      (λ old. m.grows (Register f 0) v (g.arrived u f v told some at p old))
      (λ n. not_created u n.0 n.1 (k.begun u f told at p))
      (m.argument u v (within u told at) w)

  now_arrived : (f v : ℕ) → 0 < t → h.after.thread.phase ≡ phase.Begun f → slice_get st1.words (argument_cell t) ≡ Some v → IsGood code s m.after (Register f 0) v
  now_arrived f v some p w =
      ⊎_elim
      (λ was. was_arrived t f v h.before some h.stands was w)
      (λ is. ⊎_elim (λ old. m.grows (Register f 0) v ((g.ready t f lt is).argument v old)) (λ n. not_created t n.0 n.1 (ap was_started is)) (m.argument t v lt w))
      (m.begun f p)

  points_after : PointsWell code s m.after st1
  points_after = record {
    laid = subst (AreLaidOut code s m.after st1.words) (sym (ap marks_of h.threads ∙ map_set (λ (told : Told). told.thread.arena) st.threads t h.after)) m.laid.laid;
    cells = m.laid.cells;
    results = m.results;
    threads = λ u told at. ⊎_elim
        (λ o. phase_stays code s made m.after m.grows told.thread told.thread.phase (g.threads u told o.1))
        (λ o. subst (λ (z : Told). GoodThread code s m.after z.thread) o.1 m.good)
        (either_thread u told at);
    handed = λ u v told y at c handed w. ⊎_elim
        (λ o. other_handed u v told y o.0 o.1 c handed w)
        (λ o. m.own y v (subst (λ (z : Told). creation code z.thread ≡ Some y) (sym o.1) c) handed w)
        (either_thread u told at);
    ready = ready_after;
    arrived = λ u f v told some at p w. ⊎_elim
        (λ o. was_arrived u f v told some o.1 p w)
        (λ o. now_arrived f v (subst (λ n. 0 < n) o.0 some) (subst (λ (z : Told). z.thread.phase ≡ phase.Begun f) (sym o.1) p) (subst (λ n. slice_get st1.words (argument_cell n) ≡ Some v) o.0 w))
        (either_thread u told at);
  }

  pub points_step : (after : List Object) × PointsWell code s after st1
  points_step = (m.after, points_after)

  -- and what was good stays so, with what was good as an access came, after its thread's quiet steps
  pub record PointsOn : Type 0 where
    pub after : List Object
    pub points : PointsWell code s after st1
    pub grows : Grows code s made after
    pub later : IsAccessStep code s st.words st1.words (event_of (machine code s) st l) l th h.after.thread → Grows code s (zs code s x st st1 l reached h e k made g).settling.after after

  pub points_on : PointsOn
  points_on = record { after = m.after; points = points_after; grows = m.grows; later = m.later }

-- ---- all states

module _ (code : Code) (s : SetupView) (x : Sets code s) (start : PointsWell code s [] (start_state code s)) where
  record Held (st : State Told) : Type 0 where
    reached : IsReachable code s st
    made : List Object
    points : PointsWell code s made st

  held_after : (a b : State Told) (l : Label) → Held a → stepped (machine code s) a l ≡ Some b → Held b
  held_after a b l h e =
      let p = points_step code s x a b l h.reached (has_stepped code s a b l e) e (hands_over code s (valid_runnable code x.valid) x.limits a h.reached) h.made h.points in
      record { reached = reaches_step (machine code s) (start_state code s) a b l h.reached e; made = p.0; points = p.1 }

  -- in each state that is reached, with the objects that threads have made
  pub points_well : (st : State Told) → IsReachable code s st → (made : List Object) × PointsWell code s made st
  points_well st reached =
      let h = kept_along (machine code s) Held held_after reached.0 (start_state code s) st reached.1 (record { reached = ([], refl); made = []; points = start }) in
      (h.made, h.points)
