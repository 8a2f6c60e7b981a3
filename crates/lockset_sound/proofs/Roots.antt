-- The function of a thread's outermost frame stays the same, and only pthread_create starts threads.
use Rattle.std.proofs.Common.{◌≡◌, ℕ, zero, suc, ◌+◌, ◌-◌, ◌<◌, ◌^◌, ◌==◌, ◌&&◌, not, ◌⊎◌, inl, inr, Bool, true, false, if◌then◌else◌, ℤ, pos, List, [], ◌∷◌, ◌++◌, length, take, reverse, Option, Some, None, Result, Ok, Err, refl, sym, ap, subst, ◌∙◌, arith, eq-eqb}
use Rattle.std.specs.Prelude.{slice_get}
use Rattle.std.specs.List.{list_any}
use Rattle.std.proofs.lemmas.Bool.{and_parts}
use Rattle.std.proofs.lemmas.List.{reverse-append}
use Rattle.std.proofs.lemmas.Option.{same_Some, slice_get_within}
use Rattle.sync_objects.specs.Setup.{SetupView}
use Rattle.sync_objects.specs.declared.object.ObjId.TheVariants as object
use Rattle.sync_objects.specs.declared.operation.Op.TheVariants as op
use Rattle.rr_base.specs.declared.trap.Trap.{Trap}
use Rattle.word_semantics.specs.Cells.{access_kind, size_of}
use Rattle.word_semantics.specs.Library.{library_onward, piece_of}
use Rattle.word_semantics.specs.Pointers.{resolved}
use Rattle.word_semantics.specs.Registers.{register, words_of}
use Rattle.word_semantics.specs.Values.{number}
use Rattle.word_semantics.specs.declared.event.Due.{Due}
use Rattle.word_semantics.specs.declared.event.Due.TheVariants as due
use Rattle.word_semantics.specs.declared.event.Onward.{Onward}
use Rattle.word_semantics.specs.declared.event.Onward.TheVariants as onward
use Rattle.word_semantics.specs.declared.library_call.LibraryCall.{LibraryCall}
use Rattle.word_semantics.specs.declared.library_call.LibraryCall.TheVariants as call
use Rattle.flow_code.specs.declared.act.Act.{Act}
use Rattle.flow_code.specs.declared.act.Act.TheVariants as act
use Rattle.flow_code.specs.declared.code.Code.{Code}
use Rattle.flow_code.specs.declared.code.Function.{Function}
use Rattle.flow_code.specs.declared.region.Region.{Region}
use Rattle.flow_code.specs.declared.thread.Phase.{Phase}
use Rattle.flow_code.specs.declared.thread.Phase.TheVariants as phase
use Rattle.flow_code.specs.declared.thread.Stripe.{Stripe}
use Rattle.flow_code.specs.Holding.{region_of, lacked, take_or_quiet, taken, to_give, give_or_quiet, gives_at, open_place, parting, owes, parting_due, left_after}
use Rattle.flow_code.specs.Kinds.{act_fits, have_kinds, library_value_fits, may_start, starts_fit}
use Rattle.word_semantics.specs.Kinds.{library_kinds}
use Rattle.flow_code.specs.Next.{act_at, act_due, past, given, value_of, pointers_of, in_frame, computed, one_made, entered, result_of, back_in, end_onward, resumed, call_after, on_unless, act_after, caller, has_ended, phase_due}
use Rattle.flow_code.specs.Threads.{Frame, Thread, arena_end, is_main, is_main_in}
use Rattle.flow_code.specs.Valid.{is_valid}
use Rattle.flow_code.specs.Works.{is_pointer, work_of}
use Rattle.flow_code.proofs.ValidParts.{function_is_fit, act_is_fit, few_functions}
use Rattle.facts.specs.Pairs.{creates, is_started}
use Rattle.lockset_sound.specs.Frames.{root_frame}
use Rattle.lockset_sound.proofs.Known.{not_false}
use Rattle.lockset_sound.proofs.Means.{or_left, or_right}
use Rattle.lockset_sound.proofs.Running.{Stands, stands, below_is}
use Rattle.lockset_sound.proofs.Starts.{DueStarts, CallStarts, library_none, quiet_none, load_none, store_none, malloc_none, enter_none, return_none, begun_none}

-- the function of the outermost frame
abbrev pub root_of : Thread → ℕ
root_of th = (root_frame th.top (reverse th.below)).function

root_same : (f g : Frame) (fs : List Frame) → f.function ≡ g.function → (root_frame f fs).function ≡ (root_frame g fs).function
root_same f g [] e = e
root_same f g (x ∷ fs) e = refl

-- a step within a function or between them: the outermost one is the same, and the thread runs on or has ended
pub record KeepsRoot (th q : Thread) : Type 0 where
  pub root : root_of q ≡ root_of th
  pub phases : (q.phase ≡ th.phase) ⊎ (q.phase ≡ phase.Running) ⊎ (has_ended q.phase ≡ true)

keeps : (th : Thread) → KeepsRoot th th
keeps th = record { root = refl; phases = inl refl }

in_top : (th : Thread) (f : Frame) → f.function ≡ th.top.function → KeepsRoot th (in_frame th f)
in_top th f e = record { root = root_same f th.top (reverse th.below) e; phases = inl refl }

given_function : (f : Frame) (into : Option ℕ) (w : ℕ) → (past (given f into w)).function ≡ f.function
given_function f None w = refl
given_function f (Some r) w = refl

computed_keeps : (th : Thread) (into : ℕ) (r : Result ℕ Trap) → KeepsRoot th (computed th into r)
computed_keeps th into (Ok w) = record { root = root_same _ th.top (reverse th.below) refl; phases = inl refl }
computed_keeps th into (Err t) = keeps th

went_keeps : (th : Thread) (n : ℕ) (into : Option ℕ) (o : Onward) → KeepsRoot th (resumed (record th { printed = n }) into o)
went_keeps th n into (onward.Stays kept) = record { root = root_same (one_made th.top kept) th.top (reverse th.below) refl; phases = inl refl }
went_keeps th n into (onward.Gives w) = record { root = root_same (past (given th.top into w)) th.top (reverse th.below) (given_function th.top into w); phases = inl refl }
went_keeps th n into onward.Ends = record { root = refl; phases = inr (inr refl) }

left_keeps : (th q : Thread) (ys : List Stripe) → KeepsRoot th q → KeepsRoot th (left_after th ys q)
left_keeps th q [] k = k
left_keeps th q (y ∷ ys) k = record { root = refl; phases = inl refl }

end_keeps : (b : Bool) (th : Thread) (made : ℕ) → KeepsRoot th (end_onward b th made)
end_keeps true th made = record { root = refl; phases = inr (inr refl) }
end_keeps false th zero = record { root = root_same (one_made th.top (pos 0)) th.top (reverse th.below) refl; phases = inl refl }
end_keeps false th (suc zero) = record { root = root_same (one_made th.top (pos 0)) th.top (reverse th.below) refl; phases = inl refl }
end_keeps false th (suc (suc n)) = record { root = refl; phases = inr (inr refl) }

back_keeps : (code : Code) (th : Thread) (value : ℕ) (o : Option Frame) → slice_get th.below (length th.below - 1) ≡ o → KeepsRoot th (back_in code th value o)
back_keeps code th value None e = keeps th
back_keeps code th value (Some g) e = record {
  root = root_same (past (given g (result_of (act_at code g)) value)) g (reverse (take (length th.below - 1) th.below)) (given_function g (result_of (act_at code g)) value)
      ∙ sym (ap (λ fs. (root_frame th.top fs).function) (below_is th.below g e));
  phases = inl refl;
}

on_keeps : (o : Option ℕ) (th q : Thread) → q.top ≡ th.top → q.below ≡ th.below → q.phase ≡ th.phase → KeepsRoot th (on_unless o q)
on_keeps None th q t b p = record { root = root_same (past q.top) th.top (reverse q.below) (ap (λ (f : Frame). f.function) t) ∙ ap (λ fs. (root_frame th.top (reverse fs)).function) b; phases = inl p }
on_keeps (Some x) th q t b p = record { root = root_same q.top th.top (reverse q.below) (ap (λ (f : Frame). f.function) t) ∙ ap (λ fs. (root_frame th.top (reverse fs)).function) b; phases = inl p }

on_keeps_pair : (o : Option (ℕ × ℕ)) (th q : Thread) → q.top ≡ th.top → q.below ≡ th.below → q.phase ≡ th.phase → KeepsRoot th (on_unless o q)
on_keeps_pair None th q t b p = record { root = root_same (past q.top) th.top (reverse q.below) (ap (λ (f : Frame). f.function) t) ∙ ap (λ fs. (root_frame th.top (reverse fs)).function) b; phases = inl p }
on_keeps_pair (Some x) th q t b p = record { root = root_same q.top th.top (reverse q.below) (ap (λ (f : Frame). f.function) t) ∙ ap (λ fs. (root_frame th.top (reverse fs)).function) b; phases = inl p }

take_keeps : (code : Code) (th : Thread) (r : Option Region) (o : Option ℕ) → KeepsRoot th (on_unless o (taken code th r o))
take_keeps code th None o = on_keeps o th th refl refl refl
take_keeps code th (Some r) None = on_keeps None th (taken code th (Some r) None) refl refl refl
take_keeps code th (Some r) (Some n) = on_keeps (Some n) th (taken code th (Some r) (Some n)) refl refl refl

give_keeps : (th : Thread) (p : Option ℕ) (o : Option (ℕ × ℕ)) → KeepsRoot th (on_unless o (gives_at th p o))
give_keeps th None o = on_keeps_pair o th th refl refl refl
give_keeps th (Some i) o = on_keeps_pair o th (gives_at th (Some i) o) refl refl refl

pub act_keeps : (code : Code) (s : SetupView) (t : ℕ) (th : Thread) (o : Option Act) (answer : ℤ) → KeepsRoot th (act_after code s t th o answer)
act_keeps code s t th None answer = keeps th
act_keeps code s t th (Some (act.Compute into w)) answer = computed_keeps th into (work_of s.slots code.sites (pointers_of code th.top) th.top.registers w)
act_keeps code s t th (Some (act.Alloc into site None)) answer = in_top th (past th.top) refl
act_keeps code s t th (Some (act.Alloc into site (Some size))) answer = record { root = root_same _ th.top (reverse th.below) refl; phases = inl refl }
act_keeps code s t th (Some (act.LoadCell into through)) answer = record { root = root_same _ th.top (reverse th.below) refl; phases = inl refl }
act_keeps code s t th (Some (act.StoreCell through from)) answer = in_top th (past th.top) refl
act_keeps code s t th (Some act.Mark) answer = in_top th (past th.top) refl
act_keeps code s t th (Some (act.Call g args into)) answer = record {
  root = ap (λ fs. (root_frame (entered code s t th (th.below ++ one_made th.top (pos 0) ∷ []) g (words_of th.top.registers args)).top fs).function) (reverse-append th.below (one_made th.top (pos 0) ∷ []))
      ∙ root_same (one_made th.top (pos 0)) th.top (reverse th.below) refl;
  phases = inr (inl refl);
}
act_keeps code s t th (Some (act.Library c args into)) answer =
    left_keeps th (call_after code s t th c args into answer) (parting c th.top.made th.stripes)
    (went_keeps th (th.printed + length (piece_of c (words_of th.top.registers args))) into (library_onward (caller code s t th) c (words_of th.top.registers args) th.top.made th.top.kept answer))
act_keeps code s t th (Some (act.Jump to)) answer = record { root = root_same _ th.top (reverse th.below) refl; phases = inl refl }
act_keeps code s t th (Some (act.Branch on then_at else_at)) answer = record { root = root_same _ th.top (reverse th.below) refl; phases = inl refl }
act_keeps code s t th (Some (act.Return value)) answer = by (length th.below == 0)
  where
    by : (b : Bool) → KeepsRoot th (if b then end_onward (is_main code th.top.function) th th.top.made else back_in code th (value_of th.top.registers value) (slice_get th.below (length th.below - 1)))
    by true = end_keeps (is_main code th.top.function) th th.top.made
    by false = back_keeps code th (value_of th.top.registers value) (slice_get th.below (length th.below - 1)) refl
act_keeps code s t th (Some (act.Take region)) answer = take_keeps code th (region_of code th.top region) (lacked code th (region_of code th.top region))
act_keeps code s t th (Some (act.Give region)) answer = give_keeps th (open_place code th region) (to_give code th region)

-- ---- what is started

-- a function that some pthread_create names, and so isn't `main`
pub record IsThread (code : Code) (f : ℕ) : Type 0 where
  pub started : is_started code f ≡ true
  pub few : f < 2 ^ 32
  pub other : is_main code f ≡ false

any_of : {A : Type 0} (p : A → Bool) (xs : List A) (k : ℕ) (x : A) → slice_get xs k ≡ Some x → p x ≡ true → list_any p xs ≡ true
any_of p [] k x e h = cc
any_of p (y ∷ ys) zero x e h = or_left (p y) (list_any p ys) (ap p (same_Some y x e) ∙ h)
any_of p (y ∷ ys) (suc k) x e h = or_right (p y) (list_any p ys) (any_of p ys k x e h)

take_starts : (P : ℕ → Type 0) (o : Option ℕ) → DueStarts P (take_or_quiet o)
take_starts P None = tt
take_starts P (Some n) = tt

give_starts : (P : ℕ → Type 0) (o : Option (ℕ × ℕ)) → DueStarts P (give_or_quiet o)
give_starts P None = tt
give_starts P (Some x) = tt

parting_starts : (P : ℕ → Type 0) (ys : List Stripe) (d : Due) → DueStarts P d → DueStarts P (parting_due ys d)
parting_starts P [] d h = h
parting_starts P (y ∷ ys) d h = by (owes (y ∷ ys))
  where
    by : (b : Bool) → DueStarts P (if b then due.Quiet else due.Operate op.Give (object.Weak y.lock y.stripe))
    by true = tt
    by false = tt

module _ (code : Code) (valid : is_valid code ≡ true) (s : SetupView) (t : ℕ) (th : Thread) where
  call_starts : (c : LibraryCall) (args : List ℕ) (into : Option ℕ) → Stands code th.top (act.Library c args into) → CallStarts (IsThread code) c
  call_starts (call.Create f) args into x = named (slice_get code.functions f) refl fit
    where
      fit : may_start (slice_get code.functions f) ≡ true
      fit = (and_parts (starts_fit code (call.Create f)) (have_kinds x.function args (library_kinds (call.Create f))) (and_parts (starts_fit code (call.Create f) && have_kinds x.function args (library_kinds (call.Create f))) (library_value_fits x.function into (call.Create f))
          (subst (λ a. act_fits code x.function a ≡ true) x.is (act_is_fit code x.function (function_is_fit code valid th.top.function x.function x.here.function) th.top.instr x.instr x.here.instr))).0).0

      named : (o : Option Function) → slice_get code.functions f ≡ o → may_start o ≡ true → IsThread code f
      named None e h = cc
      named (Some g) e h =
          let few = few_functions code valid in
          let within = slice_get_within code.functions f g e in
          record {
            started = any_of (λ fn. list_any (λ i. creates f i.act) fn.instrs) code.functions th.top.function x.function x.here.function
                (any_of (λ i. creates f i.act) x.function.instrs th.top.instr x.instr x.here.instr (ap (creates f) x.is ∙ eq-eqb f f refl));
            few = omega arith;
            other = ap is_main_in e ∙ not_false (is_main_in (Some g)) (and_parts (not (is_main_in (Some g))) _ (and_parts (not (is_main_in (Some g)) && (g.formals == 1)) _ (and_parts (not (is_main_in (Some g)) && (g.formals == 1) && is_pointer g.pointers 0) _ h).0).0).0;
          }
  call_starts _ args into x = tt

  act_starts : (o : Option Act) → act_at code th.top ≡ o → DueStarts (IsThread code) (act_due code s t th o)
  act_starts None e = tt
  act_starts (Some (act.Compute into w)) e = quiet_none (IsThread code) (work_of s.slots code.sites (pointers_of code th.top) th.top.registers w)
  act_starts (Some (act.Alloc into site None)) e = tt
  act_starts (Some (act.Alloc into site (Some size))) e = malloc_none (IsThread code) (size_of code.sites site) th.arena (arena_end code s t) (number (register th.top.registers size))
  act_starts (Some (act.LoadCell into through)) e = load_none (IsThread code) (resolved code.sites (register th.top.registers through) (access_kind (is_pointer (pointers_of code th.top) into)))
  act_starts (Some (act.StoreCell through from)) e = store_none (IsThread code) (resolved code.sites (register th.top.registers through) (access_kind (is_pointer (pointers_of code th.top) from))) (register th.top.registers from)
  act_starts (Some act.Mark) e = tt
  act_starts (Some (act.Call g args into)) e = enter_none (IsThread code) code s t th (length th.below + 1) g
  act_starts (Some (act.Library c args into)) e =
      parting_starts (IsThread code) (parting c th.top.made th.stripes) _
      (library_none (IsThread code) (caller code s t th) c (words_of th.top.registers args) th.top.made th.top.kept (call_starts c args into (stands code th.top (act.Library c args into) e)))
  act_starts (Some (act.Jump to)) e = tt
  act_starts (Some (act.Branch on then_at else_at)) e = tt
  act_starts (Some (act.Return value)) e = return_none (IsThread code) code t th (value_of th.top.registers value)
  act_starts (Some (act.Take region)) e = take_starts (IsThread code) (lacked code th (region_of code th.top region))
  act_starts (Some (act.Give region)) e = give_starts (IsThread code) (to_give code th region)

  pub phase_starts : (p : Phase) → DueStarts (IsThread code) (phase_due code s t th p)
  phase_starts phase.Fresh = tt
  phase_starts (phase.Begun f) = begun_none (IsThread code) code s t th f
  phase_starts (phase.Loaded f w) = enter_none (IsThread code) code s t th 0 f
  phase_starts phase.Running = act_starts (act_at code th.top) refl
  phase_starts _ = tt
