-- Each step of a thread keeps what is known of its frames and what their locks mean.
use Rattle.std.proofs.Common.{◌≡◌, ℕ, zero, suc, ◌<◌, ◌≤◌, ◌⊎◌, inl, inr, true, false, ℤ, pos, List, [], ◌∷◌, length, reverse, refl, sym, subst}
use Rattle.sync_objects.specs.Setup.{SetupView}
use Rattle.sync_objects.specs.declared.object.ObjId.{ObjId}
use Rattle.sync_objects.specs.declared.object.ObjId.TheVariants as object
use Rattle.sync_objects.specs.declared.operation.Op.{Op}
use Rattle.sync_objects.specs.declared.operation.Op.TheVariants as op
use Rattle.word_semantics.specs.Limits.{is_free_of_limit}
use Rattle.word_semantics.specs.declared.event.Due.{Due}
use Rattle.word_semantics.specs.declared.event.Due.TheVariants as due
use Rattle.flow_code.specs.declared.code.Code.{Code}
use Rattle.flow_code.specs.declared.thread.Phase.{Phase}
use Rattle.flow_code.specs.declared.thread.Phase.TheVariants as phase
use Rattle.flow_code.specs.declared.thread.Stripe.{Stripe}
use Rattle.flow_code.specs.Constants.{constants_fit}
use Rattle.flow_code.specs.Next.{act_at, phase_due, due_of, repaid, counted, begun_after, phase_after, after_due, stepped}
use Rattle.flow_code.specs.Settle.{settled}
use Rattle.flow_code.specs.Threads.{Thread}
use Rattle.flow_code.specs.Valid.{is_valid}
use Rattle.flow_code.proofs.Counts.{stepped_is, operate_after}
use Rattle.flow_code.proofs.Dues.{quiet_by_code, access_by_code, operate_by_code}
use Rattle.flow_code.proofs.Goings.{thread_goes}
use Rattle.flow_code.proofs.Settle.{settled_keeps}
use Rattle.facts.specs.Locks.{Points}
use Rattle.facts.specs.Summaries.{AreSolution}
use Rattle.facts.specs.declared.locks.Held.{Held}
use Rattle.lockset_sound.specs.Leading.{Holds}
use Rattle.lockset_sound.specs.Frames.{ThreadStack}
use Rattle.lockset_sound.proofs.Passing.{More, Passes}
use Rattle.lockset_sound.proofs.Running.{KnownThread, known_act, entered_known}
use Rattle.lockset_sound.proofs.Stacks.{stack_more, stack_starts}
use Rattle.lockset_sound.proofs.StackSteps.{act_goes}

-- a trap is due
abbrev pub IsTrap : Due → Type 0
IsTrap (due.Trap kind) = Unit {0}
IsTrap _ = ⊥

module _ (code : Code) (valid : is_valid code ≡ true) (constants : constants_fit code ≡ true) (s : SetupView) (few : s.slots ≤ 16) (tops : List (List Held)) (xs : List Points) (solves : AreSolution code tops xs) (long : length tops ≡ length code.functions) where
  -- the frames of a thread in its code, where it holds these locks
  pub record Frames (now : Holds) (th : Thread) : Type 0 where
    pub known : KnownThread code s.slots th
    pub stack : ThreadStack code s.slots xs now th

  abbrev pub Fact : Holds → Thread → Type 0
  Fact now th = th.phase ≡ phase.Running → Frames now th

  pub fact_more : (now later : Holds) (th : Thread) → More now later → Fact now th → Fact later th
  fact_more now later th held h = λ e. record { known = (h e).known; stack = stack_more code s.slots tops xs solves long th.top (reverse th.below) now later held (h e).stack }

  begins : (t : ℕ) (th : Thread) (f : ℕ) (answer : ℤ) (later : Holds) → Fact later (begun_after code s t th f answer)
  begins zero th f answer later = λ e. record { known = entered_known code s.slots s 0 th [] f [] tt; stack = stack_starts code s.slots tops xs solves long f [] th.arena later }
  begins (suc k) th f answer later = λ e. cc

  module _ (t : ℕ) (now later : Holds) where
    phase_goes : (th : Thread) (p : Phase) (answer : ℤ) → th.phase ≡ p → Passes (phase_due code s t th p) answer now later → Fact now th → Fact later (phase_after code s t th p answer)
    phase_goes th phase.Fresh answer e p h = λ g. cc
    phase_goes th (phase.Begun f) answer e p h = begins t th f answer later
    phase_goes th (phase.Loaded f w) answer e p h = λ g. record { known = entered_known code s.slots s t th [] f (w ∷ []) tt; stack = stack_starts code s.slots tops xs solves long f (w ∷ []) th.arena later }
    phase_goes th phase.Running answer e p h = λ g. record {
      known = known_act code valid constants s few t th (h e).known (act_at code th.top) answer refl;
      stack = act_goes code valid s tops xs solves long t th (h e).known now later (h e).stack (act_at code th.top) answer refl p;
    }
    phase_goes th phase.Ended answer e p h = absurd p
    phase_goes th phase.Halted answer e p h = absurd p
    phase_goes th (phase.Trapped kind line) answer e p h = absurd p
    phase_goes th phase.Stopped answer e p h = absurd p
    phase_goes th phase.Closed answer e p h = absurd p

    by_code : (th : Thread) (d : Due) (answer : ℤ) → phase_due code s t th th.phase ≡ d → Passes d answer now later → Fact now th → Fact later (phase_after code s t th th.phase answer)
    by_code th d answer e p h = phase_goes th th.phase answer refl (subst (λ z. Passes z answer now later) (sym e) p) h

    retaken : (th : Thread) → More now later → Fact now th → Fact later (counted op.Retake (record th { stripes = repaid th.stripes }))
    retaken th held h = λ e. record { known = (h e).known; stack = (fact_more now later th held h e).stack }

    more_retake : (o : Op) (obj : ObjId) (answer : ℤ) → o ≡ op.Retake → Passes (due.Operate o obj) answer now later → More now later
    more_retake o obj answer e p = subst (λ z. Passes (due.Operate z obj) answer now later) e p

    operate_goes : (th : Thread) (o : Op) (obj : ObjId) (answer : ℤ) → due_of code s t th ≡ due.Operate o obj → Passes (due.Operate o obj) answer now later → Fact now th → Fact later (after_due code s t th (due.Operate o obj) answer)
    operate_goes th o obj answer e p h = by (operate_by_code code s t th o obj e)
      where
        by : (phase_due code s t th th.phase ≡ due.Operate o obj) × (is_free_of_limit o ≡ false → th.count < s.limit) ⊎ ((x : Stripe) × (o ≡ op.Retake) × (obj ≡ object.Weak x.lock x.stripe)) → Fact later (after_due code s t th (due.Operate o obj) answer)
        by (inl q) =
            let g = thread_goes code s t th (due.Operate o obj) answer q.0 in
            let f = by_code th (due.Operate o obj) answer q.0 p h in
            subst (Fact later) (sym (operate_after code s t th o obj answer g.0.first)) (λ r. record { known = (f r).known; stack = (f r).stack })
        by (inr r) = subst (λ z. Fact later (after_due code s t th (due.Operate z obj) answer)) (sym r.1) (retaken th (more_retake o obj answer r.1 p) h)

    due_goes : (th : Thread) (d : Due) (answer : ℤ) → due_of code s t th ≡ d → Passes d answer now later → Fact now th → Fact later (after_due code s t th d answer)
    due_goes th due.Nothing answer e p h = absurd p
    due_goes th due.Quiet answer e p h = by_code th due.Quiet answer (quiet_by_code code s t th e) p h
    due_goes th (due.Load c) answer e p h = let f = by_code th (due.Load c) answer (access_by_code code s t th (due.Load c) tt e).0 p h in λ r. record { known = (f r).known; stack = (f r).stack }
    due_goes th (due.Store c w) answer e p h = let f = by_code th (due.Store c w) answer (access_by_code code s t th (due.Store c w) tt e).0 p h in λ r. record { known = (f r).known; stack = (f r).stack }
    due_goes th due.Mark answer e p h = let f = by_code th due.Mark answer (access_by_code code s t th due.Mark tt e).0 p h in λ r. record { known = (f r).known; stack = (f r).stack }
    due_goes th (due.Operate o obj) answer e p h = operate_goes th o obj answer e p h
    due_goes th (due.Trap kind) answer e p h = absurd p

    -- a step keeps the facts, where the locks that are held change as what is due says
    pub stepped_goes : (th : Thread) (answer : ℤ) → Passes (due_of code s t th) answer now later → Fact now th → Fact later (stepped code s t th answer)
    stepped_goes th answer p h = subst (Fact later) (sym (stepped_is code s t th (due_of code s t th) answer refl)) (due_goes th (due_of code s t th) answer refl p h)

  -- a trap ends the thread
  pub trap_goes : (t : ℕ) (later : Holds) (th : Thread) (d : Due) (answer : ℤ) → due_of code s t th ≡ d → IsTrap d → Fact later (stepped code s t th answer)
  trap_goes t later th d answer e is = subst (Fact later) (sym (stepped_is code s t th d answer e)) (by d is)
    where
      by : (d : Due) → IsTrap d → Fact later (after_due code s t th d answer)
      by (due.Trap kind) is = λ g. cc
      by _ is = absurd is

  -- all quiet steps keep the facts
  pub settled_fact : (t : ℕ) (now : Holds) (th : Thread) → Fact now th → Fact now (settled code s t th)
  settled_fact t now th h = settled_keeps code s t (Fact now) (λ q e k. stepped_goes t now now q (pos 0) (subst (λ d. Passes d (pos 0) now now) (sym e) (λ m c x i. i)) k) th h
