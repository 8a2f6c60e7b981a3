-- In each state of a thread its open regions have the stripes that the ways of its frames want.
use Rattle.std.proofs.Common.{◌≡◌, ℕ, zero, suc, ◌+◌, ◌-◌, Bool, true, false, ℤ, List, [], ◌∷◌, length, take, refl, sym, ap, ◌∙◌, subst, Option, Some, None, Result, Ok, Err}
use Rattle.std.specs.Prelude.{slice_get, slice_set, if◌then◌else◌, ◌==◌}
use Rattle.sync_objects.specs.Setup.{SetupView}
use Rattle.sync_objects.specs.declared.operation.Op.TheVariants as op
use Rattle.rr_base.specs.declared.trap.Trap.{Trap}
use Rattle.word_semantics.specs.declared.event.Due.{Due}
use Rattle.word_semantics.specs.declared.event.Due.TheVariants as due
use Rattle.word_semantics.specs.declared.event.Onward.{Onward}
use Rattle.word_semantics.specs.declared.event.Onward.TheVariants as onward
use Rattle.word_semantics.specs.declared.library_call.LibraryCall.{LibraryCall}
use Rattle.word_semantics.specs.declared.library_call.LibraryCall.TheVariants as call
use Rattle.word_semantics.specs.Cells.{cells_in}
use Rattle.word_semantics.specs.Library.{exit_onward, library_onward, piece_of}
use Rattle.word_semantics.specs.Pointers.{pointer_at}
use Rattle.word_semantics.specs.Registers.{register, words_of}
use Rattle.word_semantics.specs.Values.{number, word}
use Rattle.flow_code.specs.declared.act.Act.{Act}
use Rattle.flow_code.specs.declared.act.Act.TheVariants as act
use Rattle.flow_code.specs.declared.code.Code.{Code}
use Rattle.flow_code.specs.declared.region.Region.{Region}
use Rattle.flow_code.specs.declared.thread.Phase.{Phase}
use Rattle.flow_code.specs.declared.thread.Phase.TheVariants as phase
use Rattle.flow_code.specs.declared.thread.Stripe.{Stripe}
use Rattle.flow_code.specs.declared.work.Work.{Work}
use Rattle.flow_code.specs.Holding.{lacked, region_of, taken, open_place, alone_at, pairs_at, to_give, gives_at, left_by, parting, left_after}
use Rattle.flow_code.specs.Next.{act_at, pointers_of, past, given, computed, entered, back_in, end_onward, returned, resumed, branch_to, call_after, on_unless, act_after, begun_after, phase_after, after_due, due_of, caller, result_of, value_of, stepped}
use Rattle.flow_code.specs.Threads.{Frame, Thread, OpenRegion, is_main}
use Rattle.flow_code.specs.Works.{work_of}
use Rattle.loop_bounds.specs.Turns.{Goes, Puts}
use Rattle.guard_paths.specs.Reached.{is_early, Reached, starts, steps, loses, stops, shuts}
use Rattle.guard_paths.proofs.Guarded.{In}
use Rattle.guard_paths.proofs.Holdings.{Kept, is_still, GiveAll}
use Rattle.guard_paths.proofs.Givings.{giving}
use Rattle.guard_paths.proofs.Threads.{KeptIn, IsEmpty, IsKept, reached_kept}
use Rattle.open_regions.specs.OpenStripes.{is_exit, setting_of}
use Rattle.open_regions.proofs.Walking.{OpenOnce}
use Rattle.open_regions.proofs.Promises.{Holds, HoldsBy, moved_on}
use Rattle.open_regions.proofs.Taking.{take_more, take_done, take_past}
use Rattle.open_regions.proofs.Giving.{give_one, give_none, give_done}
use Rattle.open_regions.proofs.Frames.{exits, enters, called, back}

-- a register gets the word that it has
set_same : (rs : List ℕ) (r : ℕ) → slice_set rs r (register rs r) ≡ rs
set_same [] r = refl
set_same (x ∷ rs) zero = refl
set_same (x ∷ rs) (suc r) = ap (λ z. x ∷ z) (set_same rs r)

not_parting : (c : LibraryCall) (arguments : List ℕ) (into : Option ℕ) (made : ℕ) (ss : List Stripe) → is_exit (Some (act.Library c arguments into)) ≡ false → parting c made ss ≡ []
not_parting call.Exit arguments into made ss e = cc
not_parting _ arguments into made ss e = refl

module _ (code : Code) (s : SetupView) (t : ℕ) (once : OpenOnce code) where
  abbrev Now : Thread → Type 0
  Now th = Kept code th.below th.top.function th.top.instr th.regions th.stripes

  -- what a thread keeps while it runs
  abbrev pub IsHeld : Thread → Type 0
  IsHeld th = th.phase ≡ phase.Running → HoldsBy code s th

  -- ---- acts

  on_by : (th : Thread) (a : Act) (v : ℕ) (qs : List ℕ) → act_at code th.top ≡ Some a → is_still a ≡ true → is_exit (Some a) ≡ false → Goes (setting_of code s th.top.function) (Some a) th.top.instr th.top.registers v qs → Now th → HoldsBy code s th → Holds code s th.below th.top.function v qs th.regions
  on_by th a v qs at q e g k h = moved_on code s once th.below th.top.function th.top.instr th.top.registers th.regions th.stripes a v qs at q e g k h

  compute_held : (th : Thread) (into : ℕ) (work : Work) (r : Result ℕ Trap) → work_of s.slots code.sites (pointers_of code th.top) th.top.registers work ≡ r → act_at code th.top ≡ Some (act.Compute into work) → Now th → HoldsBy code s th → IsHeld (computed th into r)
  compute_held th into work (Ok w) e at k h = λ p. on_by th (act.Compute into work) (th.top.instr + 1) (slice_set th.top.registers into w) at refl refl (refl, (w, e, refl)) k h
  compute_held th into work (Err kind) e at k h = λ p. h

  went_held : (th : Thread) (c : LibraryCall) (arguments : List ℕ) (into : Option ℕ) (o : Onward) → is_exit (Some (act.Library c arguments into)) ≡ false → act_at code th.top ≡ Some (act.Library c arguments into) → Now th → HoldsBy code s th → IsHeld (resumed th into o)
  went_held th c arguments into (onward.Stays kept) e at k h = λ p. h
  went_held th c arguments None (onward.Gives w) e at k h = λ p. on_by th (act.Library c arguments None) (th.top.instr + 1) th.top.registers at refl e (refl, refl) k h
  went_held th c arguments (Some r) (onward.Gives w) e at k h = λ p. on_by th (act.Library c arguments (Some r)) (th.top.instr + 1) (slice_set th.top.registers r w) at refl e (refl, (w, refl)) k h
  went_held th c arguments into onward.Ends e at k h = λ p. cc

  -- the end by pthread_exit
  exit_held : (th q : Thread) (arguments : List ℕ) (into : Option ℕ) (xs : List Stripe) → act_at code th.top ≡ Some (act.Library call.Exit arguments into) → HoldsBy code s th → IsHeld q → IsHeld (left_after th xs q)
  exit_held th q arguments into [] at h l = l
  exit_held th q arguments into (x ∷ xs) at h l = λ p. exits code s th.below th.top.function th.top.instr th.top.registers (left_after th (x ∷ xs) q).regions h.top.opened (ap is_exit at) h.top.walked

  exit_went : (th : Thread) (into : Option ℕ) (made : ℕ) (kept : ℤ) → HoldsBy code s th → IsHeld (resumed th into (exit_onward made kept))
  exit_went th into zero kept h = λ p. h
  exit_went th into (suc zero) kept h = λ p. h
  exit_went th into (suc (suc n)) kept h = λ p. cc

  library_held : (th : Thread) (c : LibraryCall) (arguments : List ℕ) (into : Option ℕ) (answer : ℤ) (b : Bool) → is_exit (Some (act.Library c arguments into)) ≡ b → act_at code th.top ≡ Some (act.Library c arguments into) → Now th → HoldsBy code s th → IsHeld (act_after code s t th (Some (act.Library c arguments into)) answer)
  library_held th c arguments into answer false e at k h =
      subst (λ xs. IsHeld (left_after th xs (call_after code s t th c arguments into answer))) (sym (not_parting c arguments into th.top.made th.stripes e))
      (went_held (record th { printed = th.printed + length (piece_of c (words_of th.top.registers arguments)) }) c arguments into (library_onward (caller code s t th) c (words_of th.top.registers arguments) th.top.made th.top.kept answer) e at k h)
  library_held th call.Exit arguments into answer true e at k h =
      exit_held th (call_after code s t th call.Exit arguments into answer) arguments into (parting call.Exit th.top.made th.stripes) at h
      (exit_went (record th { printed = th.printed + length (piece_of call.Exit (words_of th.top.registers arguments)) }) into th.top.made th.top.kept h)
  library_held th _ arguments into answer true e at k h = cc

  end_held : (th : Thread) (b : Bool) (made : ℕ) → HoldsBy code s th → IsHeld (end_onward b th made)
  end_held th true made h = λ p. cc
  end_held th false zero h = λ p. h
  end_held th false (suc zero) h = λ p. h
  end_held th false (suc (suc n)) h = λ p. cc

  back_held : (th : Thread) (value : ℕ) (v : Option ℕ) (o : Option Frame) → slice_get th.below (length th.below - 1) ≡ o → act_at code th.top ≡ Some (act.Return v) → Now th → HoldsBy code s th → IsHeld (back_in code th value o)
  back_held th value v None g at k h = λ p. h
  back_held th value v (Some f) g at k h = by (result_of (act_at code f)) refl
    where
      by : (o : Option ℕ) → result_of (act_at code f) ≡ o → IsHeld (record th { top = past (given f o value); below = take (length th.below - 1) th.below })
      by None e = λ p. back code s once th v f f.registers at g (subst (λ o. Puts o f.registers f.registers) (sym e) refl) k h
      by (Some r) e = λ p. back code s once th v f (slice_set f.registers r value) at g (subst (λ o. Puts o f.registers (slice_set f.registers r value)) (sym e) (value, refl)) k h

  return_held : (th : Thread) (value : ℕ) (v : Option ℕ) → act_at code th.top ≡ Some (act.Return v) → Now th → HoldsBy code s th → IsHeld (returned code th value)
  return_held th value v at k h = by (length th.below == 0)
    where
      by : (b : Bool) → IsHeld (if b then end_onward (is_main code th.top.function) th th.top.made else back_in code th value (slice_get th.below (length th.below - 1)))
      by true = end_held th (is_main code th.top.function) th.top.made h
      by false = back_held th value v (slice_get th.below (length th.below - 1)) refl at k h

  take_held : (th : Thread) (q : ℕ) (o : Option Region) (n : Option ℕ) → region_of code th.top q ≡ o → lacked code th o ≡ n → act_at code th.top ≡ Some (act.Take q) → Now th → HoldsBy code s th → IsHeld (on_unless n (taken code th o n))
  take_held th q None None r l at k h = λ p. take_past code s th once q at k r h
  take_held th q None (Some n) r l at k h = cc
  take_held th q (Some u) None r l at k h = λ p. take_done code s th once q at k u r h
  take_held th q (Some u) (Some n) r l at k h = λ p. take_more code s th u n q at r l h

  give_held : (th : Thread) (q : ℕ) (o : Option ℕ) (n : Option (ℕ × ℕ)) → open_place code th q ≡ o → alone_at th.regions o ≡ n → act_at code th.top ≡ Some (act.Give q) → Now th → HoldsBy code s th → IsHeld (on_unless n (gives_at th o n))
  give_held th q None None o l at k h = λ p. give_none code s once th q at k o h
  give_held th q None (Some n) o l at k h = cc
  give_held th q (Some i) None o l at k h = λ p. give_done code s once th q at k i (giving code th q i o) h
  give_held th q (Some i) (Some y) o l at k h = λ p. give_one code s once th q at i (giving code th q i o) (left_by (Some y) (pairs_at (slice_get th.regions i))) h

  act_held : (th : Thread) (a : Act) (answer : ℤ) → act_at code th.top ≡ Some a → Now th → HoldsBy code s th → IsHeld (act_after code s t th (Some a) answer)
  act_held th (act.Compute into work) answer at k h = compute_held th into work (work_of s.slots code.sites (pointers_of code th.top) th.top.registers work) refl at k h
  act_held th (act.Alloc into site None) answer at k h = λ p. on_by th (act.Alloc into site None) (th.top.instr + 1) th.top.registers at refl refl (refl, (register th.top.registers into, sym (set_same th.top.registers into))) k h
  act_held th (act.Alloc into site (Some size)) answer at k h = λ p. on_by th (act.Alloc into site (Some size)) (th.top.instr + 1) (slice_set th.top.registers into (pointer_at site th.arena (cells_in (number (register th.top.registers size))))) at refl refl (refl, (pointer_at site th.arena (cells_in (number (register th.top.registers size))), refl)) k h
  act_held th (act.LoadCell into through) answer at k h = λ p. on_by th (act.LoadCell into through) (th.top.instr + 1) (slice_set th.top.registers into (word answer)) at refl refl (refl, (word answer, refl)) k h
  act_held th (act.StoreCell through from) answer at k h = λ p. on_by th (act.StoreCell through from) (th.top.instr + 1) th.top.registers at refl refl (refl, refl) k h
  act_held th act.Mark answer at k h = λ p. on_by th act.Mark (th.top.instr + 1) th.top.registers at refl refl (refl, refl) k h
  act_held th (act.Call g arguments into) answer at k h = λ p. called code s once th g arguments into (act_after code s t th (Some (act.Call g arguments into)) answer).top.registers at k h
  act_held th (act.Library c arguments into) answer at k h = library_held th c arguments into answer (is_exit (Some (act.Library c arguments into))) refl at k h
  act_held th (act.Jump to) answer at k h = λ p. on_by th (act.Jump to) to th.top.registers at refl refl (refl, refl) k h
  act_held th (act.Branch on a b) answer at k h = λ p. on_by th (act.Branch on a b) (branch_to (register th.top.registers on) a b) th.top.registers at refl refl (refl, refl) k h
  act_held th (act.Return value) answer at k h = return_held th (value_of th.top.registers value) value at k h
  act_held th (act.Take r) answer at k h = take_held th r (region_of code th.top r) (lacked code th (region_of code th.top r)) refl refl at k h
  act_held th (act.Give r) answer at k h = give_held th r (open_place code th r) (to_give code th r) refl refl at k h

  -- ---- phases

  -- a thread enters its first function with nothing open
  first_held : (n : ℕ) (th : Thread) (f : ℕ) (arguments : List ℕ) → th.regions ≡ [] → IsHeld (entered code s n th [] f arguments)
  first_held n th f arguments e = λ p. enters code s once [] f (entered code s n th [] f arguments).top.registers th.regions (λ x i z. empty x (subst (λ rs. In x rs) e i)) (λ m g h. absurd (nothing m g h))
    where
      empty : (x : OpenRegion) → In x [] → ⊥
      empty x (k, h) = cc

      nothing : (m : ℕ) (g : Frame) → slice_get [] m ≡ Some g → ⊥
      nothing m g h = cc

  phase_held : (th : Thread) (ph : Phase) (answer : ℤ) → th.phase ≡ ph → KeptIn ph (Now th) (IsEmpty th) → IsHeld th → IsHeld (phase_after code s t th ph answer)
  phase_held th phase.Fresh answer e k h = λ p. cc
  phase_held th (phase.Begun f) answer e k h = by t
    where
      by : (n : ℕ) → IsHeld (begun_after code s n th f answer)
      by zero = first_held 0 th f [] k.0
      by (suc n) = λ p. cc
  phase_held th (phase.Loaded f w) answer e k h = first_held t th f (w ∷ []) k.0
  phase_held th phase.Running answer e k h = by (act_at code th.top) refl
    where
      by : (o : Option Act) → act_at code th.top ≡ o → IsHeld (act_after code s t th o answer)
      by None at = h
      by (Some a) at = act_held th a answer at k (h e)
  phase_held th phase.Ended answer e k h = h
  phase_held th phase.Halted answer e k h = h
  phase_held th (phase.Trapped kind line) answer e k h = h
  phase_held th phase.Stopped answer e k h = h
  phase_held th phase.Closed answer e k h = h

  -- ---- steps

  due_held : (th : Thread) (d : Due) (answer : ℤ) → IsKept code th → IsHeld th → IsHeld (after_due code s t th d answer)
  due_held th due.Nothing answer k h = h
  due_held th due.Quiet answer k h = phase_held th th.phase answer refl k h
  due_held th (due.Load c) answer k h = phase_held th th.phase answer refl k h
  due_held th (due.Store c w) answer k h = phase_held th th.phase answer refl k h
  due_held th due.Mark answer k h = phase_held th th.phase answer refl k h
  due_held th (due.Operate op.Retake obj) answer k h = h
  due_held th (due.Operate _ obj) answer k h = phase_held th th.phase answer refl k h
  due_held th (due.Trap kind) answer k h = λ p. cc

  step_held : (th : Thread) (answer : ℤ) → IsKept code th → IsHeld th → IsHeld (stepped code s t th answer)
  unfolding stepped
  step_held th answer k h = due_held th (due_of code s t th) answer k h

  pub reached_held : GiveAll code → {th : Thread} → Reached code s t th → IsHeld th
  reached_held all (starts {th} e h g) = λ p. absurd (early (ap is_early (sym p) ∙ e))
    where
      early : is_early phase.Running ≡ true → ⊥
      early z = cc
  reached_held all (steps {th} answer r) = step_held th answer (reached_kept code s t all r) (reached_held all r)
  reached_held all (loses {th} lock stripe r) = reached_held all r
  reached_held all (stops r) = λ p. cc
  reached_held all (shuts r) = λ p. cc
