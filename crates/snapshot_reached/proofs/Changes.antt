-- What one step of a thread does to its stripes and its open regions.
use Rattle.std.proofs.Common.{◌≡◌, ℕ, zero, suc, ◌+◌, ◌-◌, Bool, true, false, if◌then◌else◌, ℤ, List, [], ◌∷◌, length, position, Option, Some, None, Ok, Err, refl, sym, ◌∙◌, subst}
use Rattle.std.specs.Prelude.{Result, ◌==◌, slice_get}
use Rattle.rr_base.specs.declared.trap.Trap.{Trap}
use Rattle.sync_objects.specs.Setup.{SetupView}
use Rattle.sync_objects.specs.declared.operation.Op.TheVariants as op
use Rattle.word_semantics.specs.Library.{library_onward, piece_of}
use Rattle.word_semantics.specs.Registers.{words_of}
use Rattle.word_semantics.specs.declared.library_call.LibraryCall.{LibraryCall}
use Rattle.word_semantics.specs.declared.library_call.LibraryCall.TheVariants as call
use Rattle.word_semantics.specs.declared.event.Due.{Due}
use Rattle.word_semantics.specs.declared.event.Due.TheVariants as due
use Rattle.word_semantics.specs.declared.event.Onward.{Onward}
use Rattle.word_semantics.specs.declared.event.Onward.TheVariants as onward
use Rattle.flow_code.specs.declared.act.Act.{Act}
use Rattle.flow_code.specs.declared.act.Act.TheVariants as act
use Rattle.flow_code.specs.declared.code.Code.{Code}
use Rattle.flow_code.specs.declared.region.Region.{Region}
use Rattle.flow_code.specs.declared.thread.Phase.{Phase}
use Rattle.flow_code.specs.declared.thread.Phase.TheVariants as phase
use Rattle.flow_code.specs.declared.thread.Stripe.{Stripe}
use Rattle.flow_code.specs.Holding.{parting, left_of, left_after, keeping, taken, lacked, region_of, gives_at, open_place, to_give}
use Rattle.flow_code.specs.Next.{computed, back_in, end_onward, resumed, call_after, on_unless, act_at, act_after, begun_after, phase_after, with_owed, after_due, due_of, stepped, caller, pointers_of, value_of}
use Rattle.flow_code.specs.Threads.{Frame, Thread, OpenRegion, is_main}
use Rattle.flow_code.specs.Works.{work_of}
use Rattle.flow_code.proofs.Counts.{stepped_is}

-- the thread has these stripes and open regions
pub record Has (q : Thread) (ss : List Stripe) (rs : List OpenRegion) : Type 0 where
  pub stripes : q.stripes ≡ ss
  pub regions : q.regions ≡ rs

-- all that a step may do: nothing, a part of a Take or of a Give, what stays at pthread_exit, or another mark on a stripe
pub data Changes (code : Code) (th q : Thread) : Type 0 where
  none : Has q th.stripes th.regions → Changes code th q
  takes : (r : Region) (next : Option ℕ) → th.phase ≡ phase.Running → lacked code th (Some r) ≡ next → Has q (taken code th (Some r) next).stripes (taken code th (Some r) next).regions → Changes code th q
  gives : (i : ℕ) (next : Option (ℕ × ℕ)) → Has q (gives_at th (Some i) next).stripes (gives_at th (Some i) next).regions → Changes code th q
  keeps : Has q (keeping th (left_of th.stripes)).stripes (keeping th (left_of th.stripes)).regions → Changes code th q
  marks : (owed : Bool) (place : Option ℕ) → Has q (with_owed owed th.stripes place) th.regions → Changes code th q

module _ (code : Code) (s : SetupView) (t : ℕ) where
  same : (th : Thread) → Has th th.stripes th.regions
  same th = record { stripes = refl; regions = refl }

  computes : (th : Thread) (into : ℕ) (r : Result ℕ Trap) → Has (computed th into r) th.stripes th.regions
  computes th into (Ok w) = record { stripes = refl; regions = refl }
  computes th into (Err k) = record { stripes = refl; regions = refl }

  goes : (th : Thread) (printed : ℕ) (into : Option ℕ) (o : Onward) → Has (resumed (record th { printed = printed }) into o) th.stripes th.regions
  goes th printed into (onward.Stays kept) = record { stripes = refl; regions = refl }
  goes th printed into (onward.Gives w) = record { stripes = refl; regions = refl }
  goes th printed into onward.Ends = record { stripes = refl; regions = refl }

  ends : (b : Bool) (th : Thread) (made : ℕ) → Has (end_onward b th made) th.stripes th.regions
  ends true th made = record { stripes = refl; regions = refl }
  ends false th zero = record { stripes = refl; regions = refl }
  ends false th (suc zero) = record { stripes = refl; regions = refl }
  ends false th (suc (suc n)) = record { stripes = refl; regions = refl }

  backs : (th : Thread) (value : ℕ) (o : Option Frame) → Has (back_in code th value o) th.stripes th.regions
  backs th value None = record { stripes = refl; regions = refl }
  backs th value (Some f) = record { stripes = refl; regions = refl }

  either : (b : Bool) (th x y : Thread) → Changes code th x → Changes code th y → Changes code th (if b then x else y)
  either true th x y h k = h
  either false th x y h k = k

  -- ---- a Take, a Give and pthread_exit

  take : (th : Thread) (r : Option Region) (next : Option ℕ) → th.phase ≡ phase.Running → lacked code th r ≡ next → Changes code th (on_unless next (taken code th r next))
  take th None None runs e = none (record { stripes = refl; regions = refl })
  take th None (Some n) runs e = cc
  take th (Some r) None runs e = takes r None runs e (record { stripes = refl; regions = refl })
  take th (Some r) (Some n) runs e = takes r (Some n) runs e (record { stripes = refl; regions = refl })

  give : (th : Thread) (o : Option ℕ) (next : Option (ℕ × ℕ)) → Changes code th (on_unless next (gives_at th o next))
  give th None None = none (record { stripes = refl; regions = refl })
  give th None (Some x) = none (record { stripes = refl; regions = refl })
  give th (Some i) None = gives i None (record { stripes = refl; regions = refl })
  give th (Some i) (Some x) = gives i (Some x) (record { stripes = refl; regions = refl })

  kept : (th q : Thread) (xs : List Stripe) → Has q th.stripes th.regions → (xs ≡ [] → ⊥) → xs ≡ th.stripes → Changes code th (left_after th xs q)
  kept th q [] h some e = absurd (some refl)
  kept th q (x ∷ xs) h some e = keeps (subst (λ ys. Has (left_after th (x ∷ xs) q) (keeping th (left_of ys)).stripes (keeping th (left_of ys)).regions) e (record { stripes = refl; regions = refl }))

  leaves : (th q : Thread) (xs : List Stripe) → Has q th.stripes th.regions → xs ≡ th.stripes → Changes code th (left_after th xs q)
  leaves th q [] h e = none h
  leaves th q (x ∷ xs) h e = kept th q (x ∷ xs) h (λ z. cc) e

  parts : (th q : Thread) (c : LibraryCall) (made : ℕ) → Has q th.stripes th.regions → Changes code th (left_after th (parting c made th.stripes) q)
  parts th q call.Exit zero h = leaves th q th.stripes h refl
  parts th q _ made h = none h

  -- ---- instructions, phases and what is due

  acts : (th : Thread) (o : Option Act) (answer : ℤ) → th.phase ≡ phase.Running → Changes code th (act_after code s t th o answer)
  acts th None answer runs = none (same th)
  acts th (Some (act.Compute into work)) answer runs = none (computes th into (work_of s.slots code.sites (pointers_of code th.top) th.top.registers work))
  acts th (Some (act.Alloc into site None)) answer runs = none (record { stripes = refl; regions = refl })
  acts th (Some (act.Alloc into site (Some size))) answer runs = none (record { stripes = refl; regions = refl })
  acts th (Some (act.LoadCell into through)) answer runs = none (record { stripes = refl; regions = refl })
  acts th (Some (act.StoreCell through from)) answer runs = none (record { stripes = refl; regions = refl })
  acts th (Some act.Mark) answer runs = none (record { stripes = refl; regions = refl })
  acts th (Some (act.Call function arguments into)) answer runs = none (record { stripes = refl; regions = refl })
  acts th (Some (act.Library c arguments into)) answer runs =
      parts th (call_after code s t th c arguments into answer) c th.top.made
      (goes th (th.printed + length (piece_of c (words_of th.top.registers arguments))) into (library_onward (caller code s t th) c (words_of th.top.registers arguments) th.top.made th.top.kept answer))
  acts th (Some (act.Jump to)) answer runs = none (record { stripes = refl; regions = refl })
  acts th (Some (act.Branch on then_at else_at)) answer runs = none (record { stripes = refl; regions = refl })
  acts th (Some (act.Return value)) answer runs =
      either (length th.below == 0) th (end_onward (is_main code th.top.function) th th.top.made) (back_in code th (value_of th.top.registers value) (slice_get th.below (length th.below - 1)))
      (none (ends (is_main code th.top.function) th th.top.made)) (none (backs th (value_of th.top.registers value) (slice_get th.below (length th.below - 1))))
  acts th (Some (act.Take region)) answer runs = take th (region_of code th.top region) (lacked code th (region_of code th.top region)) runs refl
  acts th (Some (act.Give region)) answer runs = give th (open_place code th region) (to_give code th region)

  begins : (u : ℕ) (th : Thread) (f : ℕ) (answer : ℤ) → Changes code th (begun_after code s u th f answer)
  begins zero th f answer = none (record { stripes = refl; regions = refl })
  begins (suc k) th f answer = none (record { stripes = refl; regions = refl })

  phases : (th : Thread) (p : Phase) (answer : ℤ) → th.phase ≡ p → Changes code th (phase_after code s t th p answer)
  phases th phase.Fresh answer e = none (record { stripes = refl; regions = refl })
  phases th (phase.Begun f) answer e = begins t th f answer
  phases th (phase.Loaded f w) answer e = none (record { stripes = refl; regions = refl })
  phases th phase.Running answer e = acts th (act_at code th.top) answer e
  phases th phase.Ended answer e = none (same th)
  phases th phase.Halted answer e = none (same th)
  phases th (phase.Trapped k l) answer e = none (same th)
  phases th phase.Stopped answer e = none (same th)
  phases th phase.Closed answer e = none (same th)

  -- the numbers of events and entries matter to none of these
  like : (th p q : Thread) → q.stripes ≡ p.stripes → q.regions ≡ p.regions → Changes code th p → Changes code th q
  like th p q e f (none h) = none (record { stripes = e ∙ h.stripes; regions = f ∙ h.regions })
  like th p q e f (takes r next runs l h) = takes r next runs l (record { stripes = e ∙ h.stripes; regions = f ∙ h.regions })
  like th p q e f (gives i next h) = gives i next (record { stripes = e ∙ h.stripes; regions = f ∙ h.regions })
  like th p q e f (keeps h) = keeps (record { stripes = e ∙ h.stripes; regions = f ∙ h.regions })
  like th p q e f (marks owed place h) = marks owed place (record { stripes = e ∙ h.stripes; regions = f ∙ h.regions })

  goes_on : (th : Thread) (answer : ℤ) → Changes code th (phase_after code s t th th.phase answer)
  goes_on th answer = phases th th.phase answer refl

  dues : (th : Thread) (d : Due) (answer : ℤ) → Changes code th (after_due code s t th d answer)
  dues th due.Nothing answer = none (same th)
  dues th due.Quiet answer = goes_on th answer
  dues th (due.Load c) answer = like th (phase_after code s t th th.phase answer) (after_due code s t th (due.Load c) answer) refl refl (goes_on th answer)
  dues th (due.Store c w) answer = like th (phase_after code s t th th.phase answer) (after_due code s t th (due.Store c w) answer) refl refl (goes_on th answer)
  dues th due.Mark answer = like th (phase_after code s t th th.phase answer) (after_due code s t th due.Mark answer) refl refl (goes_on th answer)
  dues th (due.Operate op.Retake obj) answer = marks false (position (λ x. x.owed) th.stripes) (record { stripes = refl; regions = refl })
  dues th (due.Operate o obj) answer = like th (phase_after code s t th th.phase answer) (after_due code s t th (due.Operate o obj) answer) refl refl (goes_on th answer)
  dues th (due.Trap k) answer = none (record { stripes = refl; regions = refl })

  pub changes : (th : Thread) (answer : ℤ) → Changes code th (stepped code s t th answer)
  changes th answer = subst (Changes code th) (sym (stepped_is code s t th (due_of code s t th) answer refl)) (dues th (due_of code s t th) answer)
