-- A list of entries has one walk from a state on a code.
use Rattle.std.proofs.Common.{◌≡◌, ℕ, zero, suc, ◌+◌, ◌<◌, ◌≤◌, ◌⊎◌, inl, inr, List, [], ◌∷◌, length, take, Option, Some, None, refl, sym, ◌∙◌, ap, subst, arith}
use Rattle.std.specs.Prelude.{option_and_then}
use Rattle.std.proofs.lemmas.List.{take_all}
use Rattle.std.proofs.lemmas.Bool.{cases_lt}
use Rattle.sync_objects.specs.Setup.{SetupView}
use Rattle.sync_objects.specs.declared.entry.Entry.{Entry}
use Rattle.run_theory.specs.Steps.{State, AllEnded}
use Rattle.run_theory.specs.Walk.{part}
use Rattle.thread_interpreter.specs.declared.access.Formula.{Formula}
use Rattle.core_run.specs.declared.outcome.Walk.{Walk}
use Rattle.core_run.specs.declared.outcome.Walk.TheVariants as walk
use Rattle.core_run.specs.Machine.{Told, machine, start_state}
use Rattle.core_run.specs.Walks.{first_trap, TrapOf, walk_of, WalkFrom, WalkIs, IsWhole, IsRefusedAt, IsUnfinished, reads_of}
use Rattle.flow_code.specs.declared.code.Code.{Code}
use Rattle.command_line.specs.declared.answer.Answer.TheVariants as answer
use Rattle.walk_answers.specs.Walking.{answer_of, kept}

same_some : {A : Type 0} (x y : A) → Some x ≡ Some y → x ≡ y
same_some x y e = cc e

-- ---- the walk

module _ (code : Code) (s : SetupView) where
  -- where a front part is refused, a longer one is
  pub refused_on : (es : List Entry) (n k : ℕ) (st : State Told) → n ≤ k → walk_of code s (take n es) st ≡ None → walk_of code s (take k es) st ≡ None
  refused_on es zero k st le h = absurd (cc h)
  refused_on [] (suc n) k st le h = absurd (cc h)
  refused_on (e ∷ es) (suc n) zero st le h = absurd (omega (arith, le))
  refused_on (e ∷ es) (suc n) (suc k) st le h = by (part (machine code s) e st) (λ st1 h1. refused_on es n k st1 (omega (arith, le)) h1) h
    where
      by : (o : Option (State Told)) → ((st1 : State Told) → walk_of code s (take n es) st1 ≡ None → walk_of code s (take k es) st1 ≡ None) → option_and_then (walk_of code s (take n es)) o ≡ None → option_and_then (walk_of code s (take k es)) o ≡ None
      by None on h = refl
      by (Some st1) on h = on st1 h

  -- a whole list is not refused anywhere
  pub not_refused : (es : List Entry) (n : ℕ) (st last : State Told) → walk_of code s es st ≡ Some last → n ≤ length es → walk_of code s (take n es) st ≡ None → ⊥
  not_refused es n st last w le h =
      let all : walk_of code s (take (length es) es) st ≡ None = refused_on es n (length es) st le h in
      absurd (cc (w, subst (λ xs. walk_of code s xs st ≡ None) (take_all (length es) es (omega arith)) all))

  module _ (from : State Told) (first : ℕ) where
    pub one_place : (es : List Entry) (a b : ℕ) → IsRefusedAt code s from es a → IsRefusedAt code s from es b → a ≡ b
    one_place es a b h g = by (cases_lt a b) (cases_lt b a)
      where
        earlier : (i j : ℕ) → IsRefusedAt code s from es i → IsRefusedAt code s from es j → i < j → ⊥
        earlier i j h g lt =
            let none : walk_of code s (take j es) from ≡ None = refused_on es (i + 1) j from (omega (arith, lt)) h.refused in
            absurd (cc (none, g.front))

        by : (a < b) ⊎ (b ≤ a) → (b < a) ⊎ (a ≤ b) → a ≡ b
        by (inl lt) _ = absurd (earlier a b h g lt)
        by (inr ge) (inl lt) = absurd (earlier b a g h lt)
        by (inr ge) (inr le) = omega (arith, le, ge)

    wrong_once : (es : List Entry) (a b : ℕ) → IsRefusedAt code s from es a ⊎ IsUnfinished code s from es a → IsRefusedAt code s from es b ⊎ IsUnfinished code s from es b → a ≡ b
    wrong_once es a b (inl h) (inl g) = one_place es a b h g
    wrong_once es a b (inl h) (inr g) = absurd (not_refused es (a + 1) from g.last g.walked (omega (arith, h.within)) h.refused)
    wrong_once es a b (inr h) (inl g) = absurd (not_refused es (b + 1) from h.last h.walked (omega (arith, g.within)) g.refused)
    wrong_once es a b (inr h) (inr g) = omega (arith, h.all, g.all)

    never_both : (es : List Entry) (at : ℕ) (st : State Told) → IsWhole code s from es st → IsRefusedAt code s from es at ⊎ IsUnfinished code s from es at → ⊥
    never_both es at st h (inl g) = not_refused es (at + 1) from st h.walked (omega (arith, g.within)) g.refused
    never_both es at st h (inr g) =
        let same : st ≡ g.last = same_some st g.last (sym h.walked ∙ g.walked) in
        g.open_end (subst (AllEnded (machine code s)) same h.ended)

    same_state : (es : List Entry) (st st' : State Told) → IsWhole code s from es st → IsWhole code s from es st' → st ≡ st'
    same_state es st st' h g = same_some st st' (sym h.walked ∙ g.walked)

    trap_both : (st st' : State Told) → st ≡ st' → first_trap 0 st.threads ≡ first_trap 0 st'.threads
    trap_both st st' e = ap (λ (x : State Told). first_trap 0 x.threads) e

    same_reads : (f : Formula) (st st' : State Told) → st ≡ st' → reads_of f st ≡ reads_of f st'
    same_reads f st st' e = ap (reads_of f) e

    pub one_walk_from : (es : List Entry) (f : Formula) (v w : Walk) → WalkFrom code s from first es f v → WalkFrom code s from first es f w → (answer_of v ≡ answer_of w) × (kept v ≡ kept w)
    one_walk_from es f (walk.Done out reads ends) (walk.Done out' reads' ends') h g =
        let same : h.0 ≡ g.0 = same_state es h.0 g.0 h.1.whole g.1.whole in
        (ap answer.Done (h.1.out_is ∙ sym g.1.out_is), ap Some (h.1.reads_are ∙ same_reads f h.0 g.0 same ∙ sym g.1.reads_are))
    one_walk_from es f (walk.Done out reads ends) (walk.Trapped kind thread line out' reads' ends') h g =
        let e = trap_both h.0 g.0 (same_state es h.0 g.0 h.1.whole g.1.whole) in
        absurd (cc (sym h.2 ∙ e ∙ g.2))
    one_walk_from es f (walk.Done out reads ends) (walk.Wrong at) h g = absurd (never_both es g.0 h.0 h.1.whole g.2)
    one_walk_from es f (walk.Trapped kind thread line out reads ends) (walk.Done out' reads' ends') h g =
        let e = trap_both h.0 g.0 (same_state es h.0 g.0 h.1.whole g.1.whole) in
        absurd (cc (sym h.2 ∙ e ∙ g.2))
    one_walk_from es f (walk.Trapped kind thread line out reads ends) (walk.Trapped kind' thread' line' out' reads' ends') h g =
        let same : h.0 ≡ g.0 = same_state es h.0 g.0 h.1.whole g.1.whole in
        let e : TrapOf thread kind line ≡ TrapOf thread' kind' line' = sym h.2 ∙ trap_both h.0 g.0 same ∙ g.2 in
        let o : out ≡ out' = h.1.out_is ∙ sym g.1.out_is in
        (cc (e, o), ap Some (h.1.reads_are ∙ same_reads f h.0 g.0 same ∙ sym g.1.reads_are))
    one_walk_from es f (walk.Trapped kind thread line out reads ends) (walk.Wrong at) h g = absurd (never_both es g.0 h.0 h.1.whole g.2)
    one_walk_from es f (walk.Wrong at) (walk.Done out reads ends) h g = absurd (never_both es h.0 g.0 g.1.whole h.2)
    one_walk_from es f (walk.Wrong at) (walk.Trapped kind thread line out reads ends) h g = absurd (never_both es h.0 g.0 g.1.whole h.2)
    one_walk_from es f (walk.Wrong a) (walk.Wrong b) h g = (ap answer.WrongEntry (h.1 ∙ ap (λ n. first + n) (wrong_once es h.0 g.0 h.2 g.2) ∙ sym g.1), refl)

  -- walks of a whole log
  pub one_walk : (es : List Entry) (f : Formula) (v w : Walk) → WalkIs code s es f v → WalkIs code s es f w → (answer_of v ≡ answer_of w) × (kept v ≡ kept w)
  one_walk es f v w h g = one_walk_from (start_state code s) 0 es f v w h g
