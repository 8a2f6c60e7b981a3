-- A thread that isn't in its first function yet has no frames, stripes and open regions, and it comes into its first function
-- by its own steps alone: right after an operation it is never between the load of its argument and its Mark.
use Rattle.std.proofs.Common.{◌≡◌, ℕ, zero, suc, ◌+◌, ◌-◌, ◌⊎◌, ⊎_elim, inl, inr, ◌==◌, Bool, true, false, if◌then◌else◌, nat_le, List, [], ◌∷◌, length, Option, Some, None, Result, Ok, Err, refl, sym, ap, subst, ◌∙◌, ℤ, pos}
use Rattle.std.specs.Prelude.{slice_get}
use Rattle.rr_base.specs.declared.trap.Trap.{Trap}
use Rattle.rr_base.specs.declared.trap.Trap.TheVariants as trap
use Rattle.sync_objects.specs.Setup.{SetupView}
use Rattle.sync_objects.specs.Names.{name_of, is_ending}
use Rattle.sync_objects.specs.declared.object.ObjId.{ObjId}
use Rattle.sync_objects.specs.declared.operation.Op.{Op}
use Rattle.sync_objects.specs.declared.operation.Op.TheVariants as op
use Rattle.flow_code.specs.declared.act.Act.{Act}
use Rattle.flow_code.specs.declared.act.Act.TheVariants as act
use Rattle.flow_code.specs.declared.code.Code.{Code}
use Rattle.flow_code.specs.declared.region.Region.{Region}
use Rattle.flow_code.specs.declared.thread.Phase.{Phase}
use Rattle.flow_code.specs.declared.thread.Phase.TheVariants as phase
use Rattle.flow_code.specs.declared.thread.Stripe.{Stripe}
use Rattle.word_semantics.specs.declared.event.Due.{Due}
use Rattle.word_semantics.specs.declared.event.Due.TheVariants as due
use Rattle.word_semantics.specs.declared.event.Action.TheVariants as action
use Rattle.word_semantics.specs.declared.event.Onward.{Onward}
use Rattle.word_semantics.specs.declared.event.Onward.TheVariants as onward
use Rattle.word_semantics.specs.Library.{library_onward, count_in, piece_of}
use Rattle.word_semantics.specs.Registers.{words_of}
use Rattle.word_semantics.specs.Limits.{most_entries, most_frames}
use Rattle.flow_code.specs.Holding.{region_of, lacked, taken, open_place, to_give, gives_at, parting, left_after}
use Rattle.flow_code.specs.Threads.{Frame, Thread, arena_end, is_main, objects_in, fitted}
use Rattle.flow_code.specs.Next.{act_at, mark_if, enter_due, phase_due, begun_due, computed, in_frame, past, end_onward, back_in, value_of, returned, resumed, caller, on_unless, act_after, begun_after, phase_after, after_due, counted, one_more, repaid, limited, first_owed, owing, listed, due_of, action_of, action_at, stepped, gave_up, lost, has_ended}
use Rattle.flow_code.specs.Settle.{settled}
use Rattle.flow_code.proofs.Counts.{after_operate, stepped_is}
use Rattle.flow_code.proofs.Settle.{settled_keeps, action_is}
use Rattle.thread_interpreter.specs.Parts.{is_loaded}
use Rattle.thread_interpreter.specs.Starts.{no_frame}

-- no frames, no stripes and no open regions
pub record IsBare (th : Thread) : Type 0 where
  pub top : th.top ≡ no_frame
  pub below : th.below ≡ []
  pub stripes : th.stripes ≡ []
  pub regions : th.regions ≡ []

-- a thread in this phase has none of these before its first function
abbrev pub LivesIn : Phase → Thread → Type 0
LivesIn phase.Fresh th = IsBare th
LivesIn (phase.Begun f) th = IsBare th
LivesIn (phase.Loaded f w) th = IsBare th
LivesIn phase.Running th = Unit {0}
LivesIn phase.Ended th = Unit {0}
LivesIn phase.Halted th = Unit {0}
LivesIn (phase.Trapped kind line) th = Unit {0}
LivesIn phase.Stopped th = Unit {0}
LivesIn phase.Closed th = Unit {0}

abbrev pub Lives : Thread → Type 0
Lives th = LivesIn th.phase th

-- the thread has been in its first function, or has ended
abbrev pub IsPastStart : Phase → Type 0
IsPastStart phase.Fresh = ⊥
IsPastStart (phase.Begun f) = ⊥
IsPastStart (phase.Loaded f w) = ⊥
IsPastStart phase.Running = Unit {0}
IsPastStart phase.Ended = Unit {0}
IsPastStart phase.Halted = Unit {0}
IsPastStart (phase.Trapped kind line) = Unit {0}
IsPastStart phase.Stopped = Unit {0}
IsPastStart phase.Closed = Unit {0}

past_lives : (p : Phase) (th : Thread) → IsPastStart p → LivesIn p th
past_lives phase.Fresh th h = absurd h
past_lives (phase.Begun f) th h = absurd h
past_lives (phase.Loaded f w) th h = absurd h
past_lives phase.Running th h = tt
past_lives phase.Ended th h = tt
past_lives phase.Halted th h = tt
past_lives (phase.Trapped kind line) th h = tt
past_lives phase.Stopped th h = tt
past_lives phase.Closed th h = tt

past_entered : (p : Phase) → IsPastStart p → is_loaded p ≡ false
past_entered phase.Fresh h = absurd h
past_entered (phase.Begun f) h = absurd h
past_entered (phase.Loaded f w) h = absurd h
past_entered phase.Running h = refl
past_entered phase.Ended h = refl
past_entered phase.Halted h = refl
past_entered (phase.Trapped kind line) h = refl
past_entered phase.Stopped h = refl
past_entered phase.Closed h = refl

-- a change that keeps frames, stripes and regions
lives_as : (p : Phase) (th q : Thread) → (IsBare th → IsBare q) → LivesIn p th → LivesIn p q
lives_as phase.Fresh th q f h = f h
lives_as (phase.Begun g) th q f h = f h
lives_as (phase.Loaded g w) th q f h = f h
lives_as phase.Running th q f h = tt
lives_as phase.Ended th q f h = tt
lives_as phase.Halted th q f h = tt
lives_as (phase.Trapped kind line) th q f h = tt
lives_as phase.Stopped th q f h = tt
lives_as phase.Closed th q f h = tt

bare_as : (th q : Thread) → q.top ≡ th.top → q.below ≡ th.below → q.stripes ≡ th.stripes → q.regions ≡ th.regions → IsBare th → IsBare q
bare_as th q a b c d h = record { top = a ∙ h.top; below = b ∙ h.below; stripes = c ∙ h.stripes; regions = d ∙ h.regions }

-- ---- the phase after an instruction

compute_past : (th : Thread) (into : ℕ) (r : Result ℕ Trap) → IsPastStart th.phase → IsPastStart (computed th into r).phase
compute_past th into (Ok w) h = h
compute_past th into (Err k) h = h

onward_past : (th : Thread) (n : ℕ) (into : Option ℕ) (o : Onward) → IsPastStart th.phase → IsPastStart (resumed (record th { printed = n }) into o).phase
onward_past th n into (onward.Stays kept) h = h
onward_past th n into (onward.Gives w) h = h
onward_past th n into onward.Ends h = tt

left_past : (th : Thread) (xs : List Stripe) (q : Thread) → IsPastStart th.phase → IsPastStart q.phase → IsPastStart (left_after th xs q).phase
left_past th [] q h k = k
left_past th (x ∷ xs) q h k = h

end_past : (m : Bool) (th : Thread) (made : ℕ) → IsPastStart th.phase → IsPastStart (end_onward m th made).phase
end_past true th made h = tt
end_past false th zero h = h
end_past false th (suc zero) h = h
end_past false th (suc (suc n)) h = tt

back_past : (code : Code) (th : Thread) (value : ℕ) (o : Option Frame) → IsPastStart th.phase → IsPastStart (back_in code th value o).phase
back_past code th value None h = h
back_past code th value (Some f) h = h

return_past : (code : Code) (th : Thread) (value : ℕ) → IsPastStart th.phase → IsPastStart (returned code th value).phase
return_past code th value h = by (length th.below == 0)
  where
    by : (b : Bool) → IsPastStart (if b then end_onward (is_main code th.top.function) th th.top.made else back_in code th value (slice_get th.below (length th.below - 1))).phase
    by true = end_past (is_main code th.top.function) th th.top.made h
    by false = back_past code th value (slice_get th.below (length th.below - 1)) h

take_past : (code : Code) (th : Thread) (r : Option Region) (n : Option ℕ) → IsPastStart th.phase → IsPastStart (on_unless n (taken code th r n)).phase
take_past code th None None h = h
take_past code th None (Some n) h = h
take_past code th (Some r) None h = h
take_past code th (Some r) (Some n) h = h

give_past : (th : Thread) (place : Option ℕ) (n : Option (ℕ × ℕ)) → IsPastStart th.phase → IsPastStart (on_unless n (gives_at th place n)).phase
give_past th None None h = h
give_past th None (Some n) h = h
give_past th (Some i) None h = h
give_past th (Some i) (Some n) h = h

module _ (code : Code) (s : SetupView) (t : ℕ) where
  act_past : (th : Thread) (o : Option Act) (answer : ℤ) → IsPastStart th.phase → IsPastStart (act_after code s t th o answer).phase
  act_past th None answer h = h
  act_past th (Some (act.Compute into work)) answer h = compute_past th into _ h
  act_past th (Some (act.Alloc into site None)) answer h = h
  act_past th (Some (act.Alloc into site (Some size))) answer h = h
  act_past th (Some (act.LoadCell into through)) answer h = h
  act_past th (Some (act.StoreCell through from)) answer h = h
  act_past th (Some act.Mark) answer h = h
  act_past th (Some (act.Call function arguments into)) answer h = tt
  act_past th (Some (act.Library call arguments into)) answer h =
      left_past th (parting call th.top.made th.stripes) _ h (onward_past th (th.printed + length (piece_of call (words_of th.top.registers arguments))) into (library_onward (caller code s t th) call (words_of th.top.registers arguments) th.top.made th.top.kept answer) h)
  act_past th (Some (act.Jump to)) answer h = h
  act_past th (Some (act.Branch on then_at else_at)) answer h = h
  act_past th (Some (act.Return value)) answer h = return_past code th (value_of th.top.registers value) h
  act_past th (Some (act.Take region)) answer h = take_past code th (region_of code th.top region) (lacked code th (region_of code th.top region)) h
  act_past th (Some (act.Give region)) answer h = give_past th (open_place code th region) (to_give code th region) h

  -- ---- steps

  begun_lives : (u : ℕ) (th : Thread) (f : ℕ) (answer : ℤ) → IsBare th → Lives (begun_after code s u th f answer)
  begun_lives zero th f answer h = tt
  begun_lives (suc k) th f answer h = bare_as th _ refl refl refl refl h

  phase_lives : (th : Thread) (p : Phase) (answer : ℤ) → th.phase ≡ p → LivesIn p th → Lives (phase_after code s t th p answer)
  phase_lives th phase.Fresh answer e h = bare_as th _ refl refl refl refl h
  phase_lives th (phase.Begun f) answer e h = begun_lives t th f answer h
  phase_lives th (phase.Loaded f w) answer e h = tt
  phase_lives th phase.Running answer e h = past_lives _ _ (act_past th (act_at code th.top) answer (subst IsPastStart (sym e) tt))
  phase_lives th phase.Ended answer e h = subst (λ p. LivesIn p th) (sym e) tt
  phase_lives th phase.Halted answer e h = subst (λ p. LivesIn p th) (sym e) tt
  phase_lives th (phase.Trapped kind line) answer e h = subst (λ p. LivesIn p th) (sym e) tt
  phase_lives th phase.Stopped answer e h = subst (λ p. LivesIn p th) (sym e) tt
  phase_lives th phase.Closed answer e h = subst (λ p. LivesIn p th) (sym e) tt

  counted_lives : (o : Op) (q : Thread) → Lives q → Lives (counted o q)
  counted_lives o q h = lives_as q.phase q (counted o q) (bare_as q (counted o q) refl refl refl refl) h

  one_more_lives : (q : Thread) → Lives q → Lives (one_more q)
  one_more_lives q h = lives_as q.phase q (one_more q) (bare_as q (one_more q) refl refl refl refl) h

  repaid_lives : (th : Thread) → Lives th → Lives (record th { stripes = repaid th.stripes })
  repaid_lives th h = lives_as th.phase th (record th { stripes = repaid th.stripes }) (λ b. record { top = b.top; below = b.below; stripes = ap repaid b.stripes; regions = b.regions }) h

  due_lives : (th : Thread) (d : Due) (answer : ℤ) → Lives th → Lives (after_due code s t th d answer)
  due_lives th due.Nothing answer h = h
  due_lives th due.Quiet answer h = phase_lives th th.phase answer refl h
  due_lives th (due.Load c) answer h = one_more_lives _ (phase_lives th th.phase answer refl h)
  due_lives th (due.Store c w) answer h = one_more_lives _ (phase_lives th th.phase answer refl h)
  due_lives th due.Mark answer h = one_more_lives _ (phase_lives th th.phase answer refl h)
  due_lives th (due.Operate o obj) answer h =
      ⊎_elim
      (λ k. subst Lives (sym k.1) (counted_lives op.Retake (record th { stripes = repaid th.stripes }) (repaid_lives th h)))
      (λ k. subst Lives (sym k) (counted_lives o (phase_after code s t th th.phase answer) (phase_lives th th.phase answer refl h)))
      (after_operate code s t th o obj answer)
  due_lives th (due.Trap kind) answer h = tt

  pub step_lives : (th : Thread) (answer : ℤ) → Lives th → Lives (stepped code s t th answer)
  step_lives th answer h = subst Lives (sym (stepped_is code s t th (due_of code s t th) answer refl)) (due_lives th (due_of code s t th) answer h)

  pub settled_lives : (th : Thread) → Lives th → Lives (settled code s t th)
  settled_lives th h = settled_keeps code s t Lives (λ q e k. step_lives q (pos 0) k) th h

  pub gave_up_lives : (th : Thread) (lock stripe : ℕ) → Lives th → Lives (gave_up th lock stripe)
  gave_up_lives th lock stripe h = lives_as th.phase th (gave_up th lock stripe) (λ b. record { top = b.top; below = b.below; stripes = ap (λ xs. lost xs lock stripe) b.stripes; regions = b.regions }) h

  -- ---- no operation comes before the first function but the begin

  abbrev IsNoOperation : Due → Type 0
  IsNoOperation due.Nothing = Unit {0}
  IsNoOperation due.Quiet = Unit {0}
  IsNoOperation (due.Load c) = Unit {0}
  IsNoOperation (due.Store c w) = Unit {0}
  IsNoOperation due.Mark = Unit {0}
  IsNoOperation (due.Operate o obj) = ⊥
  IsNoOperation (due.Trap kind) = Unit {0}

  limited_none : (b : Bool) (d : Due) → IsNoOperation d → IsNoOperation (limited b d)
  limited_none false d h = h
  limited_none true due.Nothing h = tt
  limited_none true due.Quiet h = tt
  limited_none true (due.Load c) h = tt
  limited_none true (due.Store c w) h = tt
  limited_none true due.Mark h = tt
  limited_none true (due.Operate o obj) h = absurd h
  limited_none true (due.Trap kind) h = tt

  listed_none : (b : Bool) (d : Due) → IsNoOperation d → IsNoOperation (listed b d)
  listed_none false d h = h
  listed_none true due.Nothing h = tt
  listed_none true due.Quiet h = tt
  listed_none true (due.Load c) h = tt
  listed_none true (due.Store c w) h = tt
  listed_none true due.Mark h = tt
  listed_none true (due.Operate o obj) h = absurd h
  listed_none true (due.Trap kind) h = tt

  if_none : (b : Bool) (d e : Due) → IsNoOperation d → IsNoOperation e → IsNoOperation (if b then d else e)
  if_none true d e h k = h
  if_none false d e h k = k

  mark_none : (o : Option ℕ) → IsNoOperation (mark_if o)
  mark_none None = tt
  mark_none (Some a) = tt

  enter_none : (u : ℕ) (th : Thread) (frames f : ℕ) → IsNoOperation (enter_due code s u th frames f)
  enter_none u th frames f = if_none (nat_le s.limit th.count) _ _ tt (if_none (nat_le most_frames frames) _ _ tt (mark_none (fitted code.sites (arena_end code s u) (objects_in code f) th.arena)))

  begun_none : (u : ℕ) (th : Thread) (f : ℕ) → IsNoOperation (begun_due code s u th f)
  begun_none zero th f = enter_none zero th 0 f
  begun_none (suc k) th f = tt

  due_none : (th : Thread) (p : Phase) → th.phase ≡ p → IsBare th → IsNoOperation (phase_due code s t th p) → IsNoOperation (due_of code s t th)
  due_none th p e b h =
      listed_none (nat_le most_entries th.entries) _
      (subst (λ xs. IsNoOperation (owing (first_owed xs) (limited (nat_le s.limit th.count) (phase_due code s t th th.phase)))) (sym b.stripes)
      (limited_none (nat_le s.limit th.count) (phase_due code s t th th.phase) (subst (λ q. IsNoOperation (phase_due code s t th q)) (sym e) h)))

  no_operation : (th : Thread) (o : Op) (obj : ObjId) → IsNoOperation (due_of code s t th) → due_of code s t th ≡ due.Operate o obj → ⊥
  no_operation th o obj h e = subst IsNoOperation e h

  -- right after an operation a thread isn't about to enter its first function
  after_phase : (th : Thread) (p : Phase) (o : Op) (obj : ObjId) (answer : ℤ) → th.phase ≡ p → LivesIn p th → due_of code s t th ≡ due.Operate o obj → (is_loaded p ≡ false) × (is_loaded (phase_after code s t th p answer).phase ≡ false)
  after_phase th phase.Fresh o obj answer e h d = (refl, refl)
  after_phase th (phase.Begun f) o obj answer e h d = absurd (no_operation th o obj (due_none th (phase.Begun f) e h (begun_none t th f)) d)
  after_phase th (phase.Loaded f w) o obj answer e h d = absurd (no_operation th o obj (due_none th (phase.Loaded f w) e h (enter_none t th 0 f)) d)
  after_phase th phase.Running o obj answer e h d = (refl, past_entered _ (act_past th (act_at code th.top) answer (subst IsPastStart (sym e) tt)))
  after_phase th phase.Ended o obj answer e h d = (refl, ap is_loaded e)
  after_phase th phase.Halted o obj answer e h d = (refl, ap is_loaded e)
  after_phase th (phase.Trapped kind line) o obj answer e h d = (refl, ap is_loaded e)
  after_phase th phase.Stopped o obj answer e h d = (refl, ap is_loaded e)
  after_phase th phase.Closed o obj answer e h d = (refl, ap is_loaded e)

  after_entered : (th : Thread) (o : Op) (obj : ObjId) (answer : ℤ) → Lives th → due_of code s t th ≡ due.Operate o obj → is_loaded (after_due code s t th (due.Operate o obj) answer).phase ≡ false
  after_entered th o obj answer h d =
      let x = after_phase th th.phase o obj answer refl h d in
      ⊎_elim (λ k. ap (λ q. is_loaded q.phase) k.1 ∙ x.0) (λ k. ap (λ q. is_loaded q.phase) k ∙ x.1) (after_operate code s t th o obj answer)

  pub operated_entered : (th : Thread) (o : Op) (obj : ObjId) (answer : ℤ) → Lives th → action_at code s t th ≡ action.Operate o obj → is_loaded (stepped code s t th answer).phase ≡ false
  operated_entered th o obj answer h e = by (due_of code s t th) refl (sym (action_is code s t th) ∙ e)
    where
      by : (d : Due) → due_of code s t th ≡ d → action_of d ≡ action.Operate o obj → is_loaded (stepped code s t th answer).phase ≡ false
      by due.Nothing d a = cc
      by due.Quiet d a = cc
      by (due.Load c) d a = cc
      by (due.Store c w) d a = cc
      by due.Mark d a = cc
      by (due.Operate p x) d a = ap (λ q. is_loaded q.phase) (stepped_is code s t th (due.Operate p x) answer d) ∙ after_entered th p x answer h d
      by (due.Trap kind) d a = ap (λ q. is_loaded q.phase) (stepped_is code s t th (due.Trap kind) answer d)
