-- Two runs with equal lists, all of whose threads have ended, end in one state.
use Rattle.std.proofs.Common.{◌≡◌, ℕ, List, [], ◌∷◌, ◌++◌, Some, refl, sym, ap, ◌∙◌, subst, arith, ◌⊎◌, inl, inr, ⊎_elim}
use Rattle.sync_objects.specs.declared.entry.Noted.{Noted}
use Rattle.run_theory.specs.Labels.{Label}
use Rattle.run_theory.specs.Steps.{Leaves, Effect, Refused, Operates, Machine, State, outcome, effect_entry, number_at, run, trace, entries_of, AllEnded}
use Rattle.run_theory.specs.Laws.{IsLawful, IsRaceFree}
use Rattle.run_theory.specs.Merge.{ComesBefore, IsAscending, IsMerge}
use Rattle.run_theory.proofs.Lists.{AllIn}
use Rattle.run_theory.proofs.Swap.{steps_of, adds_of}
use Rattle.run_theory.proofs.Apart.{run_more, trace_more}
use Rattle.run_theory.proofs.Numbers.{IsDrawn, draws, IsLater, later}
use Rattle.run_theory.proofs.Merges.{merge_walks}

module _ {T : Type 0} (m : Machine T) (law : IsLawful m) where
  before_later : (x : Noted) (ws ws1 : List ℕ) (ys : List Noted) → IsDrawn m law ws ws1 x → AllIn (IsLater m law ws1) ys → ComesBefore x ys
  before_later x ws ws1 [] d h = tt
  before_later x ws ws1 (y ∷ ys) d h = ((λ e. let q = ap (number_at m ws1) e in omega (arith, h.0.below, d.after)), before_later x ws ws1 ys d h.1)

  ascending_append : (xs ys : List Noted) (ws ws1 : List ℕ) → AllIn (IsDrawn m law ws ws1) xs → AllIn (IsLater m law ws1) ys → (xs ≡ []) ⊎ ((x : Noted) × (xs ≡ x ∷ [])) → IsAscending ys → IsAscending (xs ++ ys)
  ascending_append [] ys ws ws1 d l c h = h
  ascending_append (x ∷ []) ys ws ws1 d l c h = (before_later x ws ws1 ys d.0 l, h)
  ascending_append (x ∷ y ∷ xs) ys ws ws1 d l c h = absurd (⊎_elim (λ e. cc) (λ e. cc (e.1)) c)

  at_most_one : (f : Effect T) (ws : List ℕ) → (effect_entry m ws f ≡ []) ⊎ ((x : Noted) × (effect_entry m ws f ≡ x ∷ []))
  at_most_one Refused ws = inl refl
  at_most_one (Operates e f) ws = inr (_, refl)
  at_most_one f ws = inl refl

  pub trace_ascends : (R : List Label) (s s1 : State T) → run m R s ≡ Some s1 → IsAscending (trace m R s)
  trace_ascends [] s s1 h = tt
  trace_ascends (u ∷ R) s s1 h =
      let more = run_more m law u R s s1 h in
      let x = steps_of m s u more.0 more.1 in
      let ws : more.0.words ≡ x.words = ap (λ z. z.words) x.to in
      let on : outcome m s.words (m.effect u x.before) ≡ Leaves more.0.words x.after = x.leaves ∙ ap (λ z. Leaves z x.after) (sym ws) in
      let d = draws m law u x.before s.words more.0.words x.after (m.effect u x.before) (law.effects u x.before) on in
      let both = ascending_append (effect_entry m s.words (m.effect u x.before)) (trace m R more.0) s.words more.0.words d (later m law R more.0 s1 more.2) (at_most_one (m.effect u x.before) s.words) (trace_ascends R more.0 s1 more.2) in
      subst IsAscending (ap (λ z. z ++ trace m R more.0) (sym (adds_of m s u more.0 x)) ∙ sym (trace_more m law u R s more.0 more.1)) both

  -- a run's own order of entries is a merge of its lists
  pub trace_merges : (R : List Label) (s s1 : State T) → run m R s ≡ Some s1 → IsMerge (λ t. entries_of t (trace m R s)) (trace m R s)
  trace_merges R s s1 h = record { threads = λ t. refl; ascending = trace_ascends R s s1 h }

  pub converge : (R Q : List Label) (s s1 s2 : State T) → IsRaceFree m s → run m R s ≡ Some s1 → run m Q s ≡ Some s2 → AllEnded m s1 → AllEnded m s2 → ((t : ℕ) → entries_of t (trace m R s) ≡ entries_of t (trace m Q s)) → s1 ≡ s2
  converge R Q s s1 s2 free h k over1 over2 same =
      let asc = trace_ascends R s s1 h in
      let a = merge_walks m law (trace m R s) R s s1 h free over1 (record { threads = λ t. refl; ascending = asc }) in
      let b = merge_walks m law (trace m R s) Q s s2 k free over2 (record { threads = same; ascending = asc }) in
      cc
