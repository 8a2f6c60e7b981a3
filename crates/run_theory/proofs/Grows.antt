-- A thread's count never falls along a run.
use Rattle.std.proofs.Common.{◌≡◌, ℕ, ◌≤◌, List, [], ◌∷◌, Some, sym, ap, ◌∙◌, subst, arith, ⊎_elim, pos}
use Rattle.std.specs.Prelude.{slice_get}
use Rattle.std.proofs.lemmas.Bool.{cases_eq}
use Rattle.std.proofs.lemmas.Option.{same_Some}
use Rattle.sync_objects.specs.declared.entry.Noted.{Noted}
use Rattle.run_theory.specs.Labels.{Label, label_thread}
use Rattle.run_theory.specs.Steps.{Becomes, Leaves, Effect, Refused, Marks, Loads, Stores, Operates, Machine, State, outcome, stepped, added, run, trace, entries_of, count_or_zero, count_of}
use Rattle.run_theory.specs.Laws.{IsLawfulEffect, IsLawful}
use Rattle.run_theory.proofs.Lists.{slice_get-set_same, AllIn, AllIn-append, AllIn-map, AllIn-entries_of, entries_of-thread}
use Rattle.run_theory.proofs.Swap.{steps_of, load_inv, change_inv}
use Rattle.run_theory.proofs.Apart.{run_more, trace_more, adds_cases}
use Rattle.run_theory.proofs.Counts.{entry_law_at}
use Rattle.run_theory.proofs.Lead.{kept}

module _ {T : Type 0} (m : Machine T) (law : IsLawful m) where
  -- an effect's count never falls
  effect_grows : (l : Label) (th : T) (ws ws1 : List ℕ) (t : T) (f : Effect T) → IsLawfulEffect m l th f → outcome m ws f ≡ Leaves ws1 t → m.count th ≤ m.count t
  effect_grows l th ws ws1 t Refused h on = cc
  effect_grows l th ws ws1 t (Marks x) h on = let q : x ≡ t = cc in let c = ap m.count q in omega (arith, h.1.counted)
  effect_grows l th ws ws1 t (Loads c f) h on = let r = load_inv ws f (slice_get ws c) ws1 t on in let k = ap m.count r.3 in omega (arith, (h.2 r.0).counted)
  effect_grows l th ws ws1 t (Stores c v x) h on =
      let r = change_inv ws c (λ _. Becomes v (pos 0) x) (slice_get ws c) ws1 t on in
      let q : x ≡ t = cc in let k = ap m.count q in omega (arith, h.2.counted)
  effect_grows l th ws ws1 t (Operates x f) h on =
      let r = change_inv ws (m.place x.obj) f (slice_get ws (m.place x.obj)) ws1 t on in
      (h.draws r.0 r.1 r.2 t r.4).counted

  step_grows : (s s1 : State T) (l : Label) (t : ℕ) → stepped m s l ≡ Some s1 → count_of m s t ≤ count_of m s1 t
  step_grows s s1 l t h =
      ⊎_elim
      (λ (w : label_thread l ≡ t).
      let x = steps_of m s l s1 h in
      let g = effect_grows l x.before s.words x.words x.after (m.effect l x.before) (law.effects l x.before) x.leaves in
      let a : count_of m s t ≡ m.count x.before = ap (λ z. count_or_zero m (slice_get s.threads z)) (sym w) ∙ ap (count_or_zero m) x.stands in
      let b : count_of m s1 t ≡ m.count x.after = ap (λ z. count_or_zero m (slice_get s1.threads z)) (sym w) ∙ ap (count_or_zero m) (ap (λ (z : State T). slice_get z.threads (label_thread l)) x.to ∙ slice_get-set_same s.threads (label_thread l) x.after x.before x.stands) in
      omega arith)
      (λ (w : label_thread l ≡ t → ⊥). let k = ap (count_or_zero m) (kept m law s s1 l t h w) in omega arith)
      (cases_eq (label_thread l) t)

  pub run_grows : (R : List Label) (s s1 : State T) (t : ℕ) → run m R s ≡ Some s1 → count_of m s t ≤ count_of m s1 t
  run_grows [] s s1 t h = let q = ap (λ z. count_of m z t) (same_Some _ _ h) in omega arith
  run_grows (u ∷ R) s s1 t h =
      let more = run_more m law u R s s1 h in
      omega (arith, step_grows s more.0 u t more.1, run_grows R more.0 s1 t more.2)

  -- each entry's count is at least its thread's at the start
  pub record Counted (s : State T) (x : Noted) : Type 0 where
    pub at : count_of m s x.entry.thread ≤ x.entry.count

  here_counts : (s s1 : State T) (l : Label) → stepped m s l ≡ Some s1 → AllIn (Counted s) (added m s l)
  here_counts s s1 l h =
      ⊎_elim
      (λ p. subst (AllIn (Counted s)) (sym p.0) tt)
      (λ p.
      let y = steps_of m s l s1 h in
      let k = entry_law_at m law s s1 l p.0 y p.1 in
      let c : count_of m s p.0.entry.thread ≡ m.count y.before = ap (λ z. count_or_zero m (slice_get s.threads z)) p.2 ∙ ap (count_or_zero m) y.stands in
      subst (AllIn (Counted s)) (sym p.1) (record { at = omega (arith, k.counted) }, tt))
      (adds_cases m law s s1 l h)

  all_count : (R : List Label) (s s1 : State T) → run m R s ≡ Some s1 → AllIn (Counted s) (trace m R s)
  all_count [] s s1 h = tt
  all_count (u ∷ R) s s1 h =
      let more = run_more m law u R s s1 h in
      subst (AllIn (Counted s)) (sym (trace_more m law u R s more.0 more.1))
      (AllIn-append (Counted s) _ _ (here_counts s more.0 u more.1)
      (AllIn-map (Counted more.0) (Counted s) _ (λ x q. record { at = omega (arith, q.at, step_grows s more.0 u x.entry.thread more.1) }) (all_count R more.0 s1 more.2)))

  -- the first entry of a thread in a run has at least the count that the thread has at its start
  pub first_count : (R : List Label) (s s1 : State T) (t : ℕ) (e : Noted) (rest : List Noted) → run m R s ≡ Some s1 → entries_of t (trace m R s) ≡ e ∷ rest → count_of m s t ≤ e.entry.count
  first_count R s s1 t e rest h o =
      let a = subst (AllIn (Counted s)) o (AllIn-entries_of (Counted s) t (trace m R s) (all_count R s s1 h)) in
      let b = subst (AllIn (λ x. x.entry.thread ≡ t)) o (entries_of-thread t (trace m R s)) in
      let c = ap (λ z. count_of m s z) b.0 in
      omega (arith, a.0.at)
