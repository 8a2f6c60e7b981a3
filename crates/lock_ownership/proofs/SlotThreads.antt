-- What a thread does to its slot: before its begin, and after its end.
use Rattle.std.proofs.Common.{◌≡◌, ℕ, ◌+◌, ◌≤◌, nat_le, ◌⊎◌, inl, inr, ⊎_elim, Bool, true, false, if◌then◌else◌, List, [], ◌∷◌, length, Option, Some, None, refl, sym, ap, subst, ◌∙◌, ℤ, arith}
use Rattle.std.proofs.lemmas.Bool.{leb-true, cases_Bool}
use Rattle.sync_objects.specs.Setup.{SetupView, IsWithinLimits}
use Rattle.sync_objects.specs.Names.{name_of, is_ending}
use Rattle.sync_objects.specs.declared.object.ObjId.{ObjId}
use Rattle.sync_objects.specs.declared.object.ObjId.TheVariants as object
use Rattle.sync_objects.specs.declared.operation.Op.{Op}
use Rattle.sync_objects.specs.declared.operation.Op.TheVariants as op
use Rattle.word_semantics.specs.declared.event.Due.{Due}
use Rattle.word_semantics.specs.declared.event.Due.TheVariants as due
use Rattle.word_semantics.specs.declared.event.Action.{Action}
use Rattle.word_semantics.specs.declared.event.Action.TheVariants as action
use Rattle.word_semantics.specs.Limits.{most_entries}
use Rattle.word_semantics.specs.Values.{number}
use Rattle.word_semantics.specs.Pointers.{resolved}
use Rattle.word_semantics.specs.Cells.{access_kind, size_of}
use Rattle.word_semantics.specs.Registers.{register, words_of}
use Rattle.word_semantics.specs.Library.{library_due}
use Rattle.flow_code.specs.declared.act.Act.{Act}
use Rattle.flow_code.specs.declared.act.Act.TheVariants as act
use Rattle.flow_code.specs.declared.code.Code.{Code}
use Rattle.flow_code.specs.declared.thread.Phase.{Phase}
use Rattle.flow_code.specs.declared.thread.Phase.TheVariants as phase
use Rattle.flow_code.specs.declared.thread.Stripe.{Stripe}
use Rattle.flow_code.specs.Works.{is_pointer, work_of}
use Rattle.flow_code.specs.Threads.{Thread, arena_end}
use Rattle.flow_code.specs.Holding.{region_of, lacked, take_or_quiet, to_give, give_or_quiet, parting, owes, parting_due}
use Rattle.flow_code.specs.Next.{value_of, act_at, pointers_of, caller, act_due, phase_due, limited, listed, due_of, action_of, action_at, gave_up, has_ended, stepped}
use Rattle.flow_code.specs.Settle.{settled}
use Rattle.flow_code.proofs.Counts.{IsAccessAction, ended_action}
use Rattle.flow_code.proofs.Endings.{EndsSo, none_yet, leaves_next, all_over, ending_more, settled_ends, operate_ends, gave_up_ends}
use Rattle.flow_code.proofs.Settle.{action_is, settled_none}
use Rattle.thread_interpreter.specs.Starts.{start_thread}
use Rattle.lock_ownership.proofs.PlainDues.{OfSlot, IsPlain, quiet_plain, load_plain, store_plain, malloc_plain, enter_plain, return_plain, begun_plain, library_plain}
use Rattle.lock_ownership.proofs.DueSteps.{Retakes, operate_from}

-- ---- a thread begins and ends no slot but its own

-- what is due begins or ends this slot alone
abbrev OwnSlot : ℕ → Due → Type 0
OwnSlot t (due.Operate o obj) = OfSlot t o obj
OwnSlot t _ = Unit {0}

plain_own : (t : ℕ) (d : Due) → IsPlain t d → OwnSlot t d
plain_own t due.Nothing h = tt
plain_own t due.Quiet h = tt
plain_own t (due.Load c) h = tt
plain_own t (due.Store c w) h = tt
plain_own t due.Mark h = tt
plain_own t (due.Operate o obj) h = h.1
plain_own t (due.Trap kind) h = tt

take_own : (t : ℕ) (next : Option ℕ) → OwnSlot t (take_or_quiet next)
take_own t None = tt
take_own t (Some n) = tt

give_own : (t : ℕ) (next : Option (ℕ × ℕ)) → OwnSlot t (give_or_quiet next)
give_own t None = tt
give_own t (Some x) = tt

parting_own : (t : ℕ) (xs : List Stripe) (d : Due) → OwnSlot t d → OwnSlot t (parting_due xs d)
parting_own t [] d h = h
parting_own t (x ∷ xs) d h = by (owes (x ∷ xs))
  where
    by : (b : Bool) → OwnSlot t (if b then due.Quiet else due.Operate op.Give (object.Weak x.lock x.stripe))
    by true = tt
    by false = tt

act_own : (code : Code) (s : SetupView) (t : ℕ) (th : Thread) (o : Option Act) → OwnSlot t (act_due code s t th o)
act_own code s t th None = tt
act_own code s t th (Some (act.Compute into work)) = plain_own t _ (quiet_plain t (work_of s.slots code.sites (pointers_of code th.top) th.top.registers work))
act_own code s t th (Some (act.Alloc into site None)) = tt
act_own code s t th (Some (act.Alloc into site (Some size))) = plain_own t _ (malloc_plain t (size_of code.sites site) th.arena (arena_end code s t) (number (register th.top.registers size)))
act_own code s t th (Some (act.LoadCell into through)) = plain_own t _ (load_plain t (resolved code.sites (register th.top.registers through) (access_kind (is_pointer (pointers_of code th.top) into))))
act_own code s t th (Some (act.StoreCell through from)) = plain_own t _ (store_plain t (resolved code.sites (register th.top.registers through) (access_kind (is_pointer (pointers_of code th.top) from))) (register th.top.registers from))
act_own code s t th (Some act.Mark) = tt
act_own code s t th (Some (act.Call function arguments into)) = plain_own t _ (enter_plain t code s th (length th.below + 1) function)
act_own code s t th (Some (act.Library c arguments into)) =
    let words = words_of th.top.registers arguments in
    parting_own t (parting c th.top.made th.stripes) (library_due (caller code s t th) c words th.top.made th.top.kept) (plain_own t (library_due (caller code s t th) c words th.top.made th.top.kept) (library_plain t (caller code s t th) c words th.top.made th.top.kept refl))
act_own code s t th (Some (act.Jump to)) = tt
act_own code s t th (Some (act.Branch on then_at else_at)) = tt
act_own code s t th (Some (act.Return value)) = plain_own t _ (return_plain t code th (value_of th.top.registers value))
act_own code s t th (Some (act.Take region)) = take_own t (lacked code th (region_of code th.top region))
act_own code s t th (Some (act.Give region)) = give_own t (to_give code th region)

phase_own : (code : Code) (s : SetupView) (t : ℕ) (th : Thread) (p : Phase) → OwnSlot t (phase_due code s t th p)
phase_own code s t th phase.Fresh = refl
phase_own code s t th (phase.Begun f) = plain_own t _ (begun_plain code s t th f)
phase_own code s t th (phase.Loaded f w) = plain_own t _ (enter_plain t code s th 0 f)
phase_own code s t th phase.Running = act_own code s t th (act_at code th.top)
phase_own code s t th phase.Ended = tt
phase_own code s t th phase.Halted = tt
phase_own code s t th (phase.Trapped kind line) = tt
phase_own code s t th phase.Stopped = tt
phase_own code s t th phase.Closed = tt

due_own : (code : Code) (s : SetupView) (t : ℕ) (th : Thread) (o : Op) (obj : ObjId) → due_of code s t th ≡ due.Operate o obj → OfSlot t o obj
due_own code s t th o obj e =
    ⊎_elim
    (λ p. subst (OwnSlot t) p.0 (phase_own code s t th th.phase))
    (λ (r : Retakes th.stripes o obj). subst (λ z. OfSlot t z obj) (sym r.operation) tt)
    (operate_from code s t th o obj e)

by_action : (t : ℕ) (d : Due) (o : Op) (obj : ObjId) → action_of d ≡ action.Operate o obj → ((p : Op) (q : ObjId) → d ≡ due.Operate p q → OfSlot t p q) → OfSlot t o obj
by_action t due.Nothing o obj e h = cc
by_action t due.Quiet o obj e h = cc
by_action t (due.Load c) o obj e h = cc
by_action t (due.Store c w) o obj e h = cc
by_action t due.Mark o obj e h = cc
by_action t (due.Operate p q) o obj e h = let a : p ≡ o = cc in let b : q ≡ obj = cc in subst (λ z. OfSlot t z obj) a (subst (OfSlot t p) b (h p q refl))
by_action t (due.Trap kind) o obj e h = let a : op.TrapHere ≡ o = cc in subst (λ z. OfSlot t z obj) a tt

pub action_own : (code : Code) (s : SetupView) (t : ℕ) (th : Thread) (o : Op) (obj : ObjId) → action_at code s t th ≡ action.Operate o obj → OfSlot t o obj
action_own code s t th o obj e = by_action t (due_of code s t th) o obj (sym (action_is code s t th) ∙ e) (λ p q d. due_own code s t th p q d)

-- ---- a thread that hasn't begun

-- its only action is its begin
module _ (code : Code) (s : SetupView) (limits : IsWithinLimits s) (k : ℕ) (fresh : (start_thread code s k).phase ≡ phase.Fresh) where
  begin_limited : (full over : Bool) → full ≡ false → over ≡ false → listed full (limited over (due.Operate op.Begin (object.Slot k))) ≡ due.Operate op.Begin (object.Slot k)
  begin_limited full over f o = rw (f, o) refl

  start_due : due_of code s k (start_thread code s k) ≡ due.Operate op.Begin (object.Slot k)
  start_due =
      ap (λ p. listed (nat_le most_entries 0) (limited (nat_le s.limit 0) (phase_due code s k (start_thread code s k) p))) fresh
      ∙ begin_limited (nat_le most_entries 0) (nat_le s.limit 0) refl (⊎_elim (λ e. let le = leb-true s.limit 0 e in let some = limits.some_event in absurd (omega arith)) (λ e. e) (cases_Bool (nat_le s.limit 0)))

  pub start_calm : settled code s k (start_thread code s k) ≡ start_thread code s k
  start_calm = settled_none code s k (start_thread code s k) (λ e. let same : due.Operate op.Begin (object.Slot k) ≡ due.Quiet = sym start_due ∙ e in cc)

  pub start_action : action_at code s k (settled code s k (start_thread code s k)) ≡ action.Operate op.Begin (object.Slot k)
  start_action = ap (action_at code s k) start_calm ∙ action_is code s k (start_thread code s k) ∙ ap action_of start_due

-- ---- a thread that has ended, or is about to leave the live ones

abbrev pub IsOver : Code → SetupView → ℕ → Thread → Type 0
IsOver code s t th = (due_of code s t th ≡ due.Operate op.Leave object.Threads) ⊎ (has_ended th.phase ≡ true)

module _ (code : Code) (s : SetupView) (t : ℕ) where
  to_ends : (th : Thread) → IsOver code s t th → EndsSo code s t th 1
  to_ends th (inl e) = leaves_next (omega arith) e
  to_ends th (inr e) = all_over (omega arith) e

  from_ends : (th : Thread) (n : ℕ) → 1 ≤ n → EndsSo code s t th n → IsOver code s t th
  from_ends th n le (none_yet e) = absurd (omega arith)
  from_ends th n le (leaves_next h e) = inl e
  from_ends th n le (all_over h e) = inr e

  more_than : (o : Op) (n : ℕ) → n ≤ ending_more o n
  more_than o n = by (is_ending (name_of o))
    where
      by : (b : Bool) → n ≤ (if b then n + 1 else n)
      by true = omega arith
      by false = omega arith

  pub calm_over : (th : Thread) → IsOver code s t th → IsOver code s t (settled code s t th)
  calm_over th h = from_ends (settled code s t th) 1 (omega arith) (settled_ends code s t th 1 (to_ends th h))

  -- it makes no access
  pub over_access : (th : Thread) (a : Action) → IsAccessAction a → action_at code s t th ≡ a → IsOver code s t th → ⊥
  over_access th a is e (inl d) = subst IsAccessAction (sym e ∙ action_is code s t th ∙ ap action_of d) is
  over_access th a is e (inr d) = subst IsAccessAction (sym e ∙ ended_action code s t th d) is

  -- and stays so
  pub over_operation : (th : Thread) (o : Op) (obj : ObjId) (answer : ℤ) → action_at code s t th ≡ action.Operate o obj → IsOver code s t th → IsOver code s t (stepped code s t th answer)
  over_operation th o obj answer e h = from_ends (stepped code s t th answer) (ending_more o 1) (more_than o 1) (operate_ends code s t th o obj answer 1 e (to_ends th h)).0

  pub over_revoke : (th : Thread) (lock stripe : ℕ) → IsOver code s t th → IsOver code s t (gave_up th lock stripe)
  over_revoke th lock stripe h = from_ends (gave_up th lock stripe) 1 (omega arith) (gave_up_ends code s t th lock stripe 1 (to_ends th h))

  -- the end of its slot makes it so
  pub end_over : (th : Thread) (obj : ObjId) (answer : ℤ) → action_at code s t th ≡ action.Operate op.End obj → IsOver code s t (stepped code s t th answer)
  end_over th obj answer e = from_ends (stepped code s t th answer) 1 (omega arith) (operate_ends code s t th op.End obj answer 0 e (none_yet refl)).0
