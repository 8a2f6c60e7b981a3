-- Each step of a thread leaves it good, and so do others that stop it or revoke its stripes.
use Rattle.std.proofs.Common.{◌≡◌, ℕ, zero, suc, ◌<◌, ◌==◌, inr, ⊎_elim, Bool, true, false, if◌then◌else◌, List, [], ◌∷◌, Option, Some, None, refl, sym, ap, subst, ◌∙◌, ℤ, pos, arith}
use Rattle.std.specs.Prelude.{slice_get}
use Rattle.std.proofs.lemmas.Bool.{eq-eqb}
use Rattle.std.proofs.lemmas.Option.{same_Some}
use Rattle.sync_objects.specs.Setup.{SetupView}
use Rattle.sync_objects.specs.declared.object.ObjId.{ObjId}
use Rattle.sync_objects.specs.declared.operation.Op.{Op}
use Rattle.sync_objects.specs.declared.operation.Op.TheVariants as op
use Rattle.word_semantics.specs.Cells.{argument_cell, access_kind}
use Rattle.word_semantics.specs.Pointers.{resolved}
use Rattle.word_semantics.specs.Registers.{register}
use Rattle.word_semantics.specs.Values.{word}
use Rattle.word_semantics.specs.declared.event.Due.{Due}
use Rattle.word_semantics.specs.declared.event.Due.TheVariants as due
use Rattle.flow_code.specs.declared.act.Act.{Act}
use Rattle.flow_code.specs.declared.act.Act.TheVariants as act
use Rattle.flow_code.specs.declared.code.Code.{Code}
use Rattle.flow_code.specs.declared.thread.Phase.{Phase}
use Rattle.flow_code.specs.declared.thread.Phase.TheVariants as phase
use Rattle.flow_code.specs.Holding.{region_of, lacked, open_place, to_give}
use Rattle.flow_code.specs.Kinds.{has_register, has_pointer}
use Rattle.flow_code.specs.Next.{jumped, in_frame, act_at, pointers_of, pointers_in, act_due, act_after, begun_due, begun_after, phase_due, phase_after, due_of, counted, one_more, after_due, gave_up, stepped}
use Rattle.flow_code.specs.Threads.{Thread}
use Rattle.flow_code.specs.Works.{is_pointer, work_of}
use Rattle.flow_code.proofs.Counts.{stepped_is, operate_after}
use Rattle.flow_code.proofs.Dues.{quiet_by_code, access_by_code, operate_by_code}
use Rattle.flow_code.proofs.Goings.{thread_goes}
use Rattle.flow_code.proofs.ValidParts.{right}
use Rattle.facts.specs.declared.constraint.Node.TheVariants.{Register}
use Rattle.points_to_sound.specs.Objects.{Object}
use Rattle.points_to_sound.specs.Pointing.{IsGood, IsRoot, GoodRunning, GoodPhase, GoodThread}
use Rattle.points_to_sound.proofs.Acting.{Answers, Knows, Leaves, leaves_same, passed_good, jump_good, load_good, compute_good, malloc_good}
use Rattle.points_to_sound.proofs.Calling.{entered_good, call_good, return_good}
use Rattle.points_to_sound.proofs.Classes.{word_number}
use Rattle.points_to_sound.proofs.Finding.{stands}
use Rattle.points_to_sound.proofs.Fitting.{stands_fit, pointer_is}
use Rattle.points_to_sound.proofs.Frames.{same_thread}
use Rattle.points_to_sound.proofs.Laying.{Lays}
use Rattle.points_to_sound.proofs.Libraries.{library_good, take_good, give_good}
use Rattle.points_to_sound.proofs.Reaching.{good_fits}
use Rattle.points_to_sound.proofs.Registers.{or_left, or_right}

module _ (code : Code) (s : SetupView) (t : ℕ) (made : List Object) (words : List ℕ) (x : Knows code s t made words) (th : Thread) where
  -- ---- running

  module _ (runs : th.phase ≡ phase.Running) (g : GoodRunning code s made th) where
    loads : (into through : ℕ) (answer : ℤ) → act_at code th.top ≡ Some (act.LoadCell into through) → Answers code words (act_due code s t th (Some (act.LoadCell into through))) answer → Leaves code s t made th (act_after code s t th (Some (act.LoadCell into through)) answer)
    loads into through answer at h =
        let y = stands code th.top.function th.top.instr (act.LoadCell into through) at in
        let fit = stands_fit code x.valid th.top.function th.top.instr (act.LoadCell into through) y in
        let through_is : is_pointer (pointers_of code th.top) through ≡ true = ap (λ o. is_pointer (pointers_in o) through) y.is_function ∙ pointer_is y.function through (right (has_register y.function into) (has_pointer y.function through) fit) in
        load_good code s t made words x th runs g into through answer (resolved code.sites (register th.top.registers through) (access_kind (is_pointer (pointers_of code th.top) into))) at refl through_is h

    pub act_good : (o : Option Act) (answer : ℤ) → act_at code th.top ≡ o → Answers code words (act_due code s t th o) answer → Leaves code s t made th (act_after code s t th o answer)
    act_good None answer at h = absurd h
    act_good (Some (act.Compute into w)) answer at h = compute_good code s t made words x th runs g into w answer (work_of s.slots code.sites (pointers_of code th.top) th.top.registers w) at refl h
    act_good (Some (act.Alloc into site None)) answer at h = passed_good code s t made words x th runs g (act.Alloc into site None) at refl
    act_good (Some (act.Alloc into site (Some size))) answer at h = malloc_good code s t made words x th runs g into site size answer at h
    act_good (Some (act.LoadCell into through)) answer at h = loads into through answer at h
    act_good (Some (act.StoreCell through from)) answer at h = passed_good code s t made words x th runs g (act.StoreCell through from) at refl
    act_good (Some act.Mark) answer at h = passed_good code s t made words x th runs g act.Mark at refl
    act_good (Some (act.Call f arguments into)) answer at h = call_good code s t made words x th runs g f arguments into answer at h
    act_good (Some (act.Library c arguments into)) answer at h = library_good code s t made words x th runs g c arguments into answer at h
    act_good (Some (act.Jump to)) answer at h = jump_good code s t made words x th runs g to (act.Jump to) at (eq-eqb to to refl)
    act_good (Some (act.Branch on a b)) answer at h = branched (register th.top.registers on == 0)
      where
        branched : (c : Bool) → Leaves code s t made th (in_frame th (jumped th.top (if c then b else a)))
        branched true = jump_good code s t made words x th runs g b (act.Branch on a b) at (or_right (a == b) (b == b) (eq-eqb b b refl))
        branched false = jump_good code s t made words x th runs g a (act.Branch on a b) at (or_left (a == a) (b == a) (eq-eqb a a refl))
    act_good (Some (act.Return value)) answer at h = return_good code s t made words x th runs g value at
    act_good (Some (act.Take k)) answer at h = take_good code s t made words x th runs g k (region_of code th.top k) (lacked code th (region_of code th.top k)) at
    act_good (Some (act.Give k)) answer at h = give_good code s t made words x th runs g k (open_place code th k) (to_give code th k) at

-- ---- all phases

-- the argument of a thread that has begun is good for its function's formal
abbrev pub Arrives : Code → SetupView → List Object → List ℕ → ℕ → Phase → Type 0
Arrives code s made words t (phase.Begun f) = (w : ℕ) → 0 < t → slice_get words (argument_cell t) ≡ Some w → IsGood code s made (Register f 0) w
Arrives code s made words t _ = Unit {0}

begun_good : (code : Code) (s : SetupView) (t : ℕ) (made : List Object) (words : List ℕ) → Knows code s t made words → (th : Thread) (f : ℕ) (answer : ℤ) → IsRoot code f → ((w : ℕ) → 0 < t → slice_get words (argument_cell t) ≡ Some w → IsGood code s made (Register f 0) w) → Answers code words (begun_due code s t th f) answer → Leaves code s t made th (begun_after code s t th f answer)
begun_good code s zero made words x th f answer root a h = entered_good code s zero made words x th [] f 0 [] answer h (λ r w e p. cc) root tt
begun_good code s (suc k) made words x th f answer root a (w, at, answered) =
    let good = a w (omega arith) at in
    leaves_same code s (suc k) made th (begun_after code s (suc k) th f answer) refl
    (record { root = root; argument = subst (IsGood code s made (Register f 0)) (sym (ap word answered ∙ word_number w (good_fits code s made x.valid x.sized (Register f 0) w good))) good })

module _ (code : Code) (s : SetupView) (t : ℕ) (made : List Object) (words : List ℕ) (x : Knows code s t made words) (th : Thread) where
  pub phase_good : (p : Phase) (answer : ℤ) → th.phase ≡ p → GoodPhase code s made th p → Arrives code s made words t p → Answers code words (phase_due code s t th p) answer → Leaves code s t made th (phase_after code s t th p answer)
  phase_good phase.Fresh answer e g a h = leaves_same code s t made th (phase_after code s t th phase.Fresh answer) refl (inr h)
  phase_good (phase.Begun f) answer e g a h = begun_good code s t made words x th f answer g a h
  phase_good (phase.Loaded f w) answer e g a h = entered_good code s t made words x th [] f 0 (w ∷ []) answer h argument g.root tt
    where
      argument : (r v : ℕ) → slice_get (w ∷ []) r ≡ Some v → is_pointer (pointers_in (slice_get code.functions f)) r ≡ true → IsGood code s made (Register f r) v
      argument zero v e p = subst (IsGood code s made (Register f 0)) (same_Some w v e) g.argument
      argument (suc r) v e p = cc
  phase_good phase.Running answer e g a h = act_good code s t made words x th e g (act_at code th.top) answer refl h
  phase_good phase.Ended answer e g a h = absurd h
  phase_good phase.Halted answer e g a h = absurd h
  phase_good (phase.Trapped kind line) answer e g a h = absurd h
  phase_good phase.Stopped answer e g a h = absurd h
  phase_good phase.Closed answer e g a h = absurd h

  -- ---- limits, owed stripes and traps

  leaves_beside : (q p : Thread) → p.top ≡ q.top → p.below ≡ q.below → p.phase ≡ q.phase → p.arena ≡ q.arena → Leaves code s t made th q → Leaves code s t made th p
  leaves_beside q p e b f a l = record { after = l.after; lays = subst (Lays code s t made th.arena l.after) (sym a) l.lays; good = same_thread code s l.after q p e b f l.good }

  -- what is answered to what is due, which may be a trap
  abbrev pub DueAnswers : Due → ℤ → Type 0
  DueAnswers (due.Trap kind) answer = Unit {0}
  DueAnswers d answer = Answers code words d answer

  module _ (g : GoodThread code s made th) (a : Arrives code s made words t th.phase) where
    by_code : (d : Due) (answer : ℤ) → phase_due code s t th th.phase ≡ d → Answers code words d answer → Leaves code s t made th (phase_after code s t th th.phase answer)
    by_code d answer e h = phase_good th.phase answer refl g a (subst (λ y. Answers code words y answer) (sym e) h)

    operates : (o : Op) (obj : ObjId) (answer : ℤ) → due_of code s t th ≡ due.Operate o obj → Answers code words (due.Operate o obj) answer → Leaves code s t made th (after_due code s t th (due.Operate o obj) answer)
    operates o obj answer e h =
        ⊎_elim
        (λ p.
        let first = (thread_goes code s t th (due.Operate o obj) answer p.0).0.first in
        subst (Leaves code s t made th) (sym (operate_after code s t th o obj answer first))
        (leaves_beside (phase_after code s t th th.phase answer) (counted o (phase_after code s t th th.phase answer)) refl refl refl refl (by_code (due.Operate o obj) answer p.0 h)))
        (λ r. subst (λ z. Leaves code s t made th (after_due code s t th (due.Operate z obj) answer)) (sym r.1)
        (leaves_beside th (after_due code s t th (due.Operate op.Retake obj) answer) refl refl refl refl (leaves_same code s t made th th refl g)))
        (operate_by_code code s t th o obj e)

    due_good : (d : Due) (answer : ℤ) → due_of code s t th ≡ d → DueAnswers d answer → Leaves code s t made th (after_due code s t th d answer)
    due_good due.Nothing answer e h = absurd h
    due_good due.Quiet answer e h = by_code due.Quiet answer (quiet_by_code code s t th e) tt
    due_good (due.Load c) answer e h = leaves_beside (phase_after code s t th th.phase answer) (one_more (phase_after code s t th th.phase answer)) refl refl refl refl (by_code (due.Load c) answer (access_by_code code s t th (due.Load c) tt e).0 h)
    due_good (due.Store c v) answer e h = leaves_beside (phase_after code s t th th.phase answer) (one_more (phase_after code s t th th.phase answer)) refl refl refl refl (by_code (due.Store c v) answer (access_by_code code s t th (due.Store c v) tt e).0 tt)
    due_good due.Mark answer e h = leaves_beside (phase_after code s t th th.phase answer) (one_more (phase_after code s t th th.phase answer)) refl refl refl refl (by_code due.Mark answer (access_by_code code s t th due.Mark tt e).0 tt)
    due_good (due.Operate o obj) answer e h = operates o obj answer e h
    due_good (due.Trap kind) answer e h = leaves_same code s t made th (after_due code s t th (due.Trap kind) answer) refl tt

    -- a thread's own step
    pub stepped_good : (answer : ℤ) → DueAnswers (due_of code s t th) answer → Leaves code s t made th (stepped code s t th answer)
    stepped_good answer h = subst (Leaves code s t made th) (sym (stepped_is code s t th (due_of code s t th) answer refl)) (due_good (due_of code s t th) answer refl h)

    pub quiet_good : due_of code s t th ≡ due.Quiet → Leaves code s t made th (stepped code s t th (pos 0))
    quiet_good e = stepped_good (pos 0) (subst (λ d. DueAnswers d (pos 0)) (sym e) tt)

    pub gave_up_good : (lock stripe : ℕ) → Leaves code s t made th (gave_up th lock stripe)
    gave_up_good lock stripe = leaves_beside th (gave_up th lock stripe) refl refl refl refl (leaves_same code s t made th th refl g)
