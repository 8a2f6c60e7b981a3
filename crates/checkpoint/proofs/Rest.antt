-- What the walk of the rest of the entries comes to, by what the whole walk comes to.
use Rattle.std.proofs.Common.{◌≡◌, ℕ, zero, suc, ◌+◌, ◌-◌, ◌<◌, ◌≤◌, ◌⊎◌, inl, inr, ⊎_elim, Bool, true, false, List, [], ◌∷◌, ◌++◌, length, take, drop, Option, Some, None, refl, sym, ap, subst, ◌∙◌, arith, length-drop}
use Rattle.std.specs.Prelude.{slice_get, option_and_then}
use Rattle.std.proofs.lemmas.Option.{same_Some}
use Rattle.rr_base.specs.declared.trap.Trap.{Trap}
use Rattle.rr_base.proofs.Lists.{take-add}
use Rattle.sync_objects.specs.Setup.{SetupView}
use Rattle.sync_objects.specs.declared.entry.Entry.{Entry}
use Rattle.flow_code.specs.declared.code.Code.{Code}
use Rattle.thread_interpreter.specs.declared.access.Access.{Access}
use Rattle.thread_interpreter.specs.declared.access.Formula.{Formula}
use Rattle.thread_interpreter.specs.declared.outcome.Ending.{Ending}
use Rattle.core_run.specs.Histories.{HaveEnded}
use Rattle.core_run.specs.Machine.{Told, machine, start_state}
use Rattle.core_run.specs.Walks.{Trapping, NoTrap, TrapOf, first_trap, walk_of, out_of, IsRefusedAt, IsUnfinished, Shows, WalkFrom, WalkIs}
use Rattle.core_run.specs.declared.outcome.Walk.{Walk}
use Rattle.core_run.specs.declared.outcome.Walk.TheVariants as walk
use Rattle.run_theory.specs.Steps.{State}
use Rattle.run_theory.proofs.Solo.{walk-append}
use Rattle.checkpoint.specs.Alike.{EndAlike, BothEndAlike, WalkAlike}
use Rattle.checkpoint.specs.Resuming.{IsRest}

pub less_or : (a b : ℕ) → (a < b) ⊎ (b ≤ a)
less_or zero zero = inr (omega arith)
less_or zero (suc b) = inl (omega arith)
less_or (suc a) zero = inr (omega arith)
less_or (suc a) (suc b) = ⊎_elim (λ lt. inl (omega arith)) (λ le. inr (omega arith)) (less_or a b)

front_rest : (k : ℕ) (es : List Entry) → take k es ++ drop k es ≡ es
front_rest zero es = refl
front_rest (suc k) [] = refl
front_rest (suc k) (e ∷ es) = ap (λ z. e ∷ z) (front_rest k es)

pub take_within : (m n : ℕ) (es : List Entry) → m ≤ n → take m es ≡ take m (take n es)
take_within zero n es le = refl
take_within (suc m) zero es le = absurd (omega arith)
take_within (suc m) (suc n) [] le = refl
take_within (suc m) (suc n) (e ∷ es) le = ap (λ z. e ∷ z) (take_within m n es (omega arith))

take_all : (n : ℕ) (es : List Entry) → length es ≤ n → take n es ≡ es
take_all zero [] le = refl
take_all zero (e ∷ es) le = absurd (omega arith)
take_all (suc n) [] le = refl
take_all (suc n) (e ∷ es) le = ap (λ z. e ∷ z) (take_all n es (omega arith))

module _ (code : Code) (s : SetupView) where
  -- a front of entries that have a walk has one
  front_walks : (front rest : List Entry) (from st : State Told) → walk_of code s (front ++ rest) from ≡ Some st → (mid : State Told) × (walk_of code s front from ≡ Some mid) × (walk_of code s rest mid ≡ Some st)
  front_walks front rest from st h = go (walk_of code s front from) refl (sym (walk-append (machine code s) front rest from) ∙ h)
    where
      go : (o : Option (State Told)) → walk_of code s front from ≡ o → option_and_then (walk_of code s rest) o ≡ Some st → (mid : State Told) × (walk_of code s front from ≡ Some mid) × (walk_of code s rest mid ≡ Some st)
      go None e f = cc
      go (Some mid) e f = (mid, e, f)

  -- no front of them is refused
  pub never_refused : (n : ℕ) (es : List Entry) (from st : State Told) → walk_of code s es from ≡ Some st → walk_of code s (take n es) from ≡ None → ⊥
  never_refused n es from st h e =
      let w = front_walks (take n es) (drop n es) from st (ap (λ z. walk_of code s z from) (front_rest n es) ∙ h) in
      let clash : None ≡ Some w.0 = sym e ∙ w.1 in
      cc clash

  -- the first refused entry is one
  same_refusal : (es : List Entry) (from before before1 : State Told) (j k : ℕ) → walk_of code s (take j es) from ≡ Some before → walk_of code s (take (j + 1) es) from ≡ None → walk_of code s (take k es) from ≡ Some before1 → walk_of code s (take (k + 1) es) from ≡ None → j ≡ k
  same_refusal es from before before1 j k a b c d =
      ⊎_elim
      (λ lt. absurd (never_refused (j + 1) (take k es) from before1 c (ap (λ z. walk_of code s z from) (sym (take_within (j + 1) k es (omega arith))) ∙ b)))
      (λ le. ⊎_elim
      (λ lt. absurd (never_refused (k + 1) (take j es) from before a (ap (λ z. walk_of code s z from) (sym (take_within (k + 1) j es (omega arith))) ∙ d)))
      (λ more. omega arith)
      (less_or k j))
      (less_or j k)

  module _ (k : ℕ) (es : List Entry) (st from : State Told) (within : k ≤ length es) (walked : walk_of code s (take k es) (start_state code s) ≡ Some st) (alike : (fs : List Entry) → WalkAlike code s fs st from) where
    -- the whole walk is the walk of the rest from here
    whole_is : walk_of code s es (start_state code s) ≡ walk_of code s (drop k es) st
    whole_is = ap (λ z. walk_of code s z (start_state code s)) (sym (front_rest k es)) ∙ walk-append (machine code s) (take k es) (drop k es) (start_state code s) ∙ ap (option_and_then (walk_of code s (drop k es))) walked

    front_is : (j : ℕ) → walk_of code s (take (k + j) es) (start_state code s) ≡ walk_of code s (take j (drop k es)) st
    front_is j = ap (λ z. walk_of code s z (start_state code s)) (take-add k j es) ∙ walk-append (machine code s) (take k es) (take j (drop k es)) (start_state code s) ∙ ap (option_and_then (walk_of code s (take j (drop k es)))) walked

    -- from here to there and back
    some_there : (fs : List Entry) (a : State Told) → walk_of code s fs st ≡ Some a → (b : State Told) × (walk_of code s fs from ≡ Some b) × EndAlike code s a b
    some_there fs a h = go (walk_of code s fs from) refl (subst (λ o. BothEndAlike code s o (walk_of code s fs from)) h (alike fs).ends)
      where
        go : (o : Option (State Told)) → walk_of code s fs from ≡ o → BothEndAlike code s (Some a) (walk_of code s fs from) → (b : State Told) × (walk_of code s fs from ≡ Some b) × EndAlike code s a b
        go None e h = absurd (subst (BothEndAlike code s (Some a)) e h)
        go (Some b) e h = (b, e, subst (BothEndAlike code s (Some a)) e h)

    none_there : (fs : List Entry) → walk_of code s fs st ≡ None → walk_of code s fs from ≡ None
    none_there fs h = go (walk_of code s fs from) refl (subst (λ o. BothEndAlike code s o (walk_of code s fs from)) h (alike fs).ends)
      where
        go : (o : Option (State Told)) → walk_of code s fs from ≡ o → BothEndAlike code s None (walk_of code s fs from) → walk_of code s fs from ≡ None
        go None e h = e
        go (Some b) e h = absurd (subst (BothEndAlike code s None) e h)

    -- the rest is walked to its end
    module _ (last : State Told) (all : walk_of code s es (start_state code s) ≡ Some last) where
      there : (b : State Told) × (walk_of code s (drop k es) from ≡ Some b) × EndAlike code s last b
      there = some_there (drop k es) last (sym whole_is ∙ all)

      same_last : (b : State Told) → walk_of code s (drop k es) from ≡ Some b → EndAlike code s last b
      same_last b h = subst (EndAlike code s last) (same_Some there.0 b (sym there.1 ∙ h)) there.2

      same_out : (o : List ℕ) → o ≡ out_of code s (drop k es) from → o ≡ out_of code s (drop k es) st
      same_out o h = h ∙ sym (alike (drop k es)).out

      no_wrong : (at : ℕ) → HaveEnded code s last → (j : ℕ) × (at ≡ k + j) × (IsRefusedAt code s from (drop k es) j ⊎ IsUnfinished code s from (drop k es) j) → ⊥
      no_wrong at ended w = by w.2
        where
          by : IsRefusedAt code s from (drop k es) w.0 ⊎ IsUnfinished code s from (drop k es) w.0 → ⊥
          by (inl r) = never_refused (w.0 + 1) (drop k es) from there.0 there.1 r.refused
          by (inr u) = u.open_end ((same_last u.last u.walked).ended.0 ended)

    same_trap : (last b : State Told) (x y : Trapping) → EndAlike code s last b → first_trap 0 last.threads ≡ x → first_trap 0 b.threads ≡ y → x ≡ y
    same_trap last b x y e p q = sym p ∙ e.trap ∙ q

    done : (f : Formula) (w : Walk) (last : State Told) → walk_of code s es (start_state code s) ≡ Some last → HaveEnded code s last → first_trap 0 last.threads ≡ NoTrap → WalkFrom code s from k (drop k es) f w → (r : List Access) × (e : List Ending) × (w ≡ walk.Done (out_of code s (drop k es) st) r e)
    done f (walk.Done out reads ends) last all ended trap_is h = (reads, ends, ap (λ o. walk.Done o reads ends) (same_out last all out h.1.out_is))
    done f (walk.Trapped kind thread line out reads ends) last all ended trap_is h =
        let clash : NoTrap ≡ TrapOf thread kind line = same_trap last h.0 NoTrap (TrapOf thread kind line) (same_last last all h.0 h.1.whole.walked) trap_is h.2 in
        cc clash
    done f (walk.Wrong at) last all ended trap_is h = absurd (no_wrong last all at ended h)

    trapped : (f : Formula) (w : Walk) (kind : Trap) (thread line : ℕ) (last : State Told) → walk_of code s es (start_state code s) ≡ Some last → HaveEnded code s last → first_trap 0 last.threads ≡ TrapOf thread kind line → WalkFrom code s from k (drop k es) f w → (r : List Access) × (e : List Ending) × (w ≡ walk.Trapped kind thread line (out_of code s (drop k es) st) r e)
    trapped f (walk.Done out reads ends) kind thread line last all ended trap_is h =
        let clash : TrapOf thread kind line ≡ NoTrap = same_trap last h.0 (TrapOf thread kind line) NoTrap (same_last last all h.0 h.1.whole.walked) trap_is h.2 in
        cc clash
    trapped f (walk.Trapped kind1 thread1 line1 out reads ends) kind thread line last all ended trap_is h =
        let same : TrapOf thread kind line ≡ TrapOf thread1 kind1 line1 = same_trap last h.0 (TrapOf thread kind line) (TrapOf thread1 kind1 line1) (same_last last all h.0 h.1.whole.walked) trap_is h.2 in
        let thread_is : thread ≡ thread1 = cc same in
        let kind_is : kind ≡ kind1 = cc same in
        let line_is : line ≡ line1 = cc same in
        let out_is = same_out last all out h.1.out_is in
        (reads, ends, cc (thread_is, kind_is, line_is, out_is))
    trapped f (walk.Wrong at) kind thread line last all ended trap_is h = absurd (no_wrong last all at ended h)

    -- the whole walk is refused at an entry of the rest
    record RefusedThere (m : ℕ) : Type 0 where
      place : ℕ
      is : m ≡ k + place
      before : State Told
      front : walk_of code s (take place (drop k es)) from ≡ Some before
      refused : walk_of code s (take (place + 1) (drop k es)) from ≡ None

    refused_there : (m : ℕ) → IsRefusedAt code s (start_state code s) es m → RefusedThere m
    refused_there m r =
        let past : k ≤ m = ⊎_elim (λ lt. absurd (never_refused (m + 1) (take k es) (start_state code s) st walked (ap (λ z. walk_of code s z (start_state code s)) (sym (take_within (m + 1) k es (omega arith))) ∙ r.refused))) (λ le. le) (less_or m k) in
        let j = m - k in
        let here : k + j ≡ m = omega (arith, past) in
        let next : k + (j + 1) ≡ m + 1 = omega (arith, past) in
        let b = some_there (take j (drop k es)) r.before (sym (front_is j) ∙ ap (λ n. walk_of code s (take n es) (start_state code s)) here ∙ r.front) in
        record {
          place = j;
          is = sym here;
          before = b.0;
          front = b.1;
          refused = none_there (take (j + 1) (drop k es)) (sym (front_is (j + 1)) ∙ ap (λ n. walk_of code s (take n es) (start_state code s)) next ∙ r.refused);
        }

    refused_at : (f : Formula) (w : Walk) (m : ℕ) → RefusedThere m → WalkFrom code s from k (drop k es) f w → w ≡ walk.Wrong m
    refused_at f (walk.Done out reads ends) m r h = absurd (never_refused (r.place + 1) (drop k es) from h.0 h.1.whole.walked r.refused)
    refused_at f (walk.Trapped kind thread line out reads ends) m r h = absurd (never_refused (r.place + 1) (drop k es) from h.0 h.1.whole.walked r.refused)
    refused_at f (walk.Wrong at) m r h = ap walk.Wrong (h.1 ∙ ap (λ n. k + n) (by h.2) ∙ sym r.is)
      where
        by : IsRefusedAt code s from (drop k es) h.0 ⊎ IsUnfinished code s from (drop k es) h.0 → h.0 ≡ r.place
        by (inl q) = same_refusal (drop k es) from q.before r.before h.0 r.place q.front q.refused r.front r.refused
        by (inr u) = absurd (never_refused (r.place + 1) (drop k es) from u.last u.walked r.refused)

    unfinished_at : (f : Formula) (w : Walk) (m : ℕ) → IsUnfinished code s (start_state code s) es m → WalkFrom code s from k (drop k es) f w → w ≡ walk.Wrong m
    unfinished_at f (walk.Done out reads ends) m u h = absurd (u.open_end ((same_last u.last u.walked h.0 h.1.whole.walked).ended.1 h.1.whole.ended))
    unfinished_at f (walk.Trapped kind thread line out reads ends) m u h = absurd (u.open_end ((same_last u.last u.walked h.0 h.1.whole.walked).ended.1 h.1.whole.ended))
    unfinished_at f (walk.Wrong at) m u h = ap walk.Wrong (h.1 ∙ by h.2)
      where
        by : IsRefusedAt code s from (drop k es) h.0 ⊎ IsUnfinished code s from (drop k es) h.0 → k + h.0 ≡ m
        by (inl q) = absurd (never_refused (h.0 + 1) (drop k es) from (there u.last u.walked).0 (there u.last u.walked).1 q.refused)
        by (inr v) = omega (arith, within, u.all, v.all, length-drop k es)

    -- the walk of the rest, by the whole walk
    pub rest_is : (g f : Formula) (v w : Walk) → WalkIs code s es g v → WalkFrom code s from k (drop k es) f w → IsRest code s st (drop k es) v w
    rest_is g f (walk.Done out reads ends) w h e = done f w h.0 h.1.whole.walked h.1.whole.ended h.2 e
    rest_is g f (walk.Trapped kind thread line out reads ends) w h e = trapped f w kind thread line h.0 h.1.whole.walked h.1.whole.ended h.2 e
    rest_is g f (walk.Wrong at) w h e = by h.2 ∙ ap walk.Wrong (omega (arith, h.1))
      where
        by : IsRefusedAt code s (start_state code s) es h.0 ⊎ IsUnfinished code s (start_state code s) es h.0 → w ≡ walk.Wrong h.0
        by (inl r) = refused_at f w h.0 (refused_there h.0 r) e
        by (inr u) = unfinished_at f w h.0 u e
