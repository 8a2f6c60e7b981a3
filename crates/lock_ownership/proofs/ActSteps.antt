-- What each instruction, and each phase of a thread, does to its stripes and open regions.
use Rattle.std.proofs.Common.{◌≡◌, ℕ, zero, suc, ◌+◌, ◌==◌, ◌⊎◌, inl, inr, ⊎_elim, Bool, true, false, if◌then◌else◌, List, [], ◌∷◌, length, drop, Option, Some, None, refl, sym, ap, subst, ◌∙◌, ℤ, arith}
use Rattle.std.proofs.lemmas.Bool.{true≢false, or_parts}
use Rattle.std.specs.List.{list_any}
use Rattle.sync_objects.specs.Setup.{SetupView}
use Rattle.sync_objects.specs.Names.{name_of, is_weak}
use Rattle.sync_objects.specs.declared.object.ObjId.{ObjId}
use Rattle.sync_objects.specs.declared.object.ObjId.TheVariants as object
use Rattle.sync_objects.specs.declared.operation.Op.{Op}
use Rattle.sync_objects.specs.declared.operation.Op.TheVariants as op
use Rattle.word_semantics.specs.declared.library_call.LibraryCall.{LibraryCall}
use Rattle.word_semantics.specs.declared.library_call.LibraryCall.TheVariants as call
use Rattle.word_semantics.specs.declared.event.Due.{Due}
use Rattle.word_semantics.specs.declared.event.Due.TheVariants as due
use Rattle.word_semantics.specs.Values.{number}
use Rattle.word_semantics.specs.Pointers.{resolved}
use Rattle.word_semantics.specs.Cells.{access_kind, size_of}
use Rattle.word_semantics.specs.Registers.{register, words_of}
use Rattle.word_semantics.specs.Library.{library_due, library_onward, piece_of}
use Rattle.flow_code.specs.declared.act.Act.{Act}
use Rattle.flow_code.specs.declared.act.Act.TheVariants as act
use Rattle.flow_code.specs.declared.code.Code.{Code}
use Rattle.flow_code.specs.declared.thread.Phase.{Phase}
use Rattle.flow_code.specs.declared.thread.Phase.TheVariants as phase
use Rattle.flow_code.specs.declared.thread.Stripe.{Stripe}
use Rattle.flow_code.specs.Works.{is_pointer, work_of}
use Rattle.flow_code.specs.Threads.{Thread, arena_end}
use Rattle.flow_code.specs.Holding.{number_of_stripe, region_of, lacked, open_place, to_give, give_or_quiet, parting, owes, parting_due, held, keeping, left_after}
use Rattle.flow_code.specs.Next.{value_of, act_at, pointers_of, caller, act_due, phase_due, first_owed, call_after, act_after, begun_due, begun_after, phase_after}
use Rattle.lock_ownership.specs.ThreadStripes.{AreSorted}
use Rattle.lock_ownership.proofs.Ascending.{ascend_lower}
use Rattle.lock_ownership.proofs.Standings.{standing, is_held, is_there, here, unless_owed, held_sorted, held_standing, tail_standing}
use Rattle.lock_ownership.proofs.Holds.{numbered}
use Rattle.lock_ownership.proofs.Giving.{keeping_agrees}
use Rattle.lock_ownership.proofs.PlainDues.{quiet_plain, load_plain, store_plain, malloc_plain, enter_plain, return_plain, library_plain}
use Rattle.lock_ownership.proofs.Moves.{HoldsAlike, loses, loss}
use Rattle.lock_ownership.proofs.ThreadSteps.{Steps, same_steps, computed_same, returned_same, went_same, take_steps, give_steps}

-- ---- pthread_exit

forgotten_there : (o : Option Bool) → is_there (unless_owed o) ≡ true → is_there o ≡ true
forgotten_there None e = e
forgotten_there (Some b) e = refl

forgotten_held : (o : Option Bool) → is_held (unless_owed o) ≡ is_held o
forgotten_held None = refl
forgotten_held (Some true) = refl
forgotten_held (Some false) = refl

tail_there : (b : Bool) (o : Option Bool) → is_there (if b then None else o) ≡ true → is_there o ≡ true
tail_there true o e = absurd (true≢false (sym e))
tail_there false o e = e

-- what is owed is forgotten, or else the first that is held is given
parting_steps : (th q : Thread) (d : Due) (ys : List Stripe) → ys ≡ th.stripes → Steps th q d → Steps th (left_after th ys q) (parting_due ys d)
parting_steps th q d [] e s = s
parting_steps th q d (x ∷ xs) e s = by (owes (x ∷ xs)) refl
  where
    first_held : owes (x ∷ xs) ≡ false → x.owed ≡ false
    first_held p = (or_parts x.owed (list_any (λ y. y.owed) xs) p).0

    forgets : Steps th (keeping th (held (x ∷ xs))) due.Quiet
    forgets = record {
      agrees = λ h. let s2 = subst AreSorted (sym e) h.sorted in
          keeping_agrees th (held (x ∷ xs)) (held_sorted 0 (x ∷ xs) s2)
          (λ n l. subst (λ zs. is_there (standing zs n) ≡ true) e (forgotten_there (standing (x ∷ xs) n) (sym (ap is_there (held_standing 0 n (x ∷ xs) s2)) ∙ l))) h;
      moves = λ h. let s2 = subst AreSorted (sym e) h.sorted in
          subst (λ zs. HoldsAlike zs (held (x ∷ xs))) e (λ n. ap is_held (held_standing 0 n (x ∷ xs) s2) ∙ forgotten_held (standing (x ∷ xs) n));
    }

    gives : x.owed ≡ false → Steps th (keeping th xs) (due.Operate op.Give (object.Weak x.lock x.stripe))
    gives p = record {
      agrees = λ h. let s2 = subst AreSorted (sym e) h.sorted in
          keeping_agrees th xs (ascend_lower number_of_stripe (λ y. y.stripe) 0 (number_of_stripe x + 1) xs (omega arith) s2.2)
          (λ n l. subst (λ zs. is_there (standing zs n) ≡ true) e (tail_there (number_of_stripe x == n) (standing (x ∷ xs) n) (sym (ap is_there (tail_standing 0 n x xs s2)) ∙ l))) h;
      moves = λ h. let s2 = subst AreSorted (sym e) h.sorted in
          loses x.lock x.stripe s2.1 refl (inl refl)
          (loss None th.stripes xs (numbered x.lock x.stripe) refl
          (subst (λ zs. is_held (standing zs (number_of_stripe x)) ≡ true) e (ap is_held (here x xs (number_of_stripe x) refl) ∙ ap (λ o. is_held (Some o)) p))
          (subst (λ zs. (m : ℕ) → standing xs m ≡ (if number_of_stripe x == m then None else standing zs m)) e (λ m. tail_standing 0 m x xs s2)));
    }

    by : (b : Bool) → owes (x ∷ xs) ≡ b → Steps th (keeping th (if b then held (x ∷ xs) else drop 1 (x ∷ xs))) (if b then due.Quiet else due.Operate op.Give (object.Weak x.lock x.stripe))
    by true p = forgets
    by false p = gives (first_held p)

parting_all : (c : LibraryCall) (made : ℕ) (xs : List Stripe) → (parting c made xs ≡ []) ⊎ (parting c made xs ≡ xs)
parting_all call.Exit zero xs = inr refl
parting_all call.Exit (suc made) xs = inl refl
parting_all _ made xs = inl refl

call_steps : (th q : Thread) (d : Due) (c : LibraryCall) (made : ℕ) → Steps th q d → Steps th (left_after th (parting c made th.stripes) q) (parting_due (parting c made th.stripes) d)
call_steps th q d c made s =
    ⊎_elim
    (λ e. subst (λ ys. Steps th (left_after th ys q) (parting_due ys d)) (sym e) s)
    (λ e. parting_steps th q d (parting c made th.stripes) e s)
    (parting_all c made th.stripes)

-- ---- each instruction

-- an operation on a stripe is due only where none is owed
abbrev pub Pays : Thread → Due → Type 0
Pays th d = (o : Op) (obj : ObjId) → d ≡ due.Operate o obj → is_weak (name_of o) ≡ true → first_owed th.stripes ≡ None

paid : (th : Thread) (next : Option (ℕ × ℕ)) → Pays th (give_or_quiet next) → first_owed th.stripes ≡ None ⊎ (next ≡ None)
paid th None h = inr refl
paid th (Some x) h = inl (h op.Give (object.Weak x.0 x.1) refl refl)

act_steps : (code : Code) (s : SetupView) (t : ℕ) (th : Thread) (o : Option Act) (answer : ℤ) → Pays th (act_due code s t th o) → Steps th (act_after code s t th o answer) (act_due code s t th o)
act_steps code s t th None answer h = same_steps t th th due.Nothing (record { stripes = refl; regions = refl }) tt
act_steps code s t th (Some (act.Compute into work)) answer h = let r = work_of s.slots code.sites (pointers_of code th.top) th.top.registers work in same_steps t th _ _ (computed_same th into r) (quiet_plain t r)
act_steps code s t th (Some (act.Alloc into site None)) answer h = same_steps t th _ due.Quiet (record { stripes = refl; regions = refl }) tt
act_steps code s t th (Some (act.Alloc into site (Some size))) answer h = same_steps t th _ _ (record { stripes = refl; regions = refl }) (malloc_plain t (size_of code.sites site) th.arena (arena_end code s t) (number (register th.top.registers size)))
act_steps code s t th (Some (act.LoadCell into through)) answer h = same_steps t th _ _ (record { stripes = refl; regions = refl }) (load_plain t (resolved code.sites (register th.top.registers through) (access_kind (is_pointer (pointers_of code th.top) into))))
act_steps code s t th (Some (act.StoreCell through from)) answer h = same_steps t th _ _ (record { stripes = refl; regions = refl }) (store_plain t (resolved code.sites (register th.top.registers through) (access_kind (is_pointer (pointers_of code th.top) from))) (register th.top.registers from))
act_steps code s t th (Some act.Mark) answer h = same_steps t th _ due.Mark (record { stripes = refl; regions = refl }) tt
act_steps code s t th (Some (act.Call function arguments into)) answer h = same_steps t th _ _ (record { stripes = refl; regions = refl }) (enter_plain t code s th (length th.below + 1) function)
act_steps code s t th (Some (act.Library c arguments into)) answer h =
    let words = words_of th.top.registers arguments in
    call_steps th (call_after code s t th c arguments into answer) (library_due (caller code s t th) c words th.top.made th.top.kept) c th.top.made
    (same_steps t th _ _ (went_same th (th.printed + length (piece_of c words)) into (library_onward (caller code s t th) c words th.top.made th.top.kept answer)) (library_plain t (caller code s t th) c words th.top.made th.top.kept refl))
act_steps code s t th (Some (act.Jump to)) answer h = same_steps t th _ due.Quiet (record { stripes = refl; regions = refl }) tt
act_steps code s t th (Some (act.Branch on then_at else_at)) answer h = same_steps t th _ due.Quiet (record { stripes = refl; regions = refl }) tt
act_steps code s t th (Some (act.Return value)) answer h = same_steps t th _ _ (returned_same code th (value_of th.top.registers value)) (return_plain t code th (value_of th.top.registers value))
act_steps code s t th (Some (act.Take region)) answer h = take_steps code th (region_of code th.top region) (lacked code th (region_of code th.top region)) refl
act_steps code s t th (Some (act.Give region)) answer h = give_steps th (open_place code th region) (to_give code th region) refl (paid th (to_give code th region) h)

begun_steps : (code : Code) (s : SetupView) (t : ℕ) (th : Thread) (f : ℕ) (answer : ℤ) → Steps th (begun_after code s t th f answer) (begun_due code s t th f)
begun_steps code s zero th f answer = same_steps zero th _ _ (record { stripes = refl; regions = refl }) (enter_plain zero code s th 0 f)
begun_steps code s (suc k) th f answer = same_steps (suc k) th _ _ (record { stripes = refl; regions = refl }) tt

-- what is due by the code alone
pub phase_steps : (code : Code) (s : SetupView) (t : ℕ) (th : Thread) (p : Phase) (answer : ℤ) → Pays th (phase_due code s t th p) → Steps th (phase_after code s t th p answer) (phase_due code s t th p)
phase_steps code s t th phase.Fresh answer h = same_steps t th _ _ (record { stripes = refl; regions = refl }) (refl, refl)
phase_steps code s t th (phase.Begun f) answer h = begun_steps code s t th f answer
phase_steps code s t th (phase.Loaded f w) answer h = same_steps t th _ _ (record { stripes = refl; regions = refl }) (enter_plain t code s th 0 f)
phase_steps code s t th phase.Running answer h = act_steps code s t th (act_at code th.top) answer h
phase_steps code s t th phase.Ended answer h = same_steps t th th due.Nothing (record { stripes = refl; regions = refl }) tt
phase_steps code s t th phase.Halted answer h = same_steps t th th due.Nothing (record { stripes = refl; regions = refl }) tt
phase_steps code s t th (phase.Trapped kind line) answer h = same_steps t th th due.Nothing (record { stripes = refl; regions = refl }) tt
phase_steps code s t th phase.Stopped answer h = same_steps t th th due.Nothing (record { stripes = refl; regions = refl }) tt
phase_steps code s t th phase.Closed answer h = same_steps t th th due.Nothing (record { stripes = refl; regions = refl }) tt
