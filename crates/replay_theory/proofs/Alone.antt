-- The steps of a thread that adds no entry in a run can be made first, alone.
use Rattle.std.proofs.Common.{◌≡◌, ℕ, zero, suc, ◌+◌, ◌≤◌, true, List, [], ◌∷◌, ◌++◌, length, Some, refl, sym, ap, ◌∙◌, subst, arith, ⊎_elim}
use Rattle.std.specs.Prelude.{slice_get, option_to_list}
use Rattle.sync_objects.specs.declared.object.ObjId.{ObjId}
use Rattle.run_theory.specs.Labels.{Label, Go, label_thread}
use Rattle.run_theory.specs.Laws.{IsLawful}
use Rattle.run_theory.specs.Paths.{path}
use Rattle.run_theory.specs.Steps.{Leaves, Machine, State, outcome, stepped, added, run, trace, entries_of, count_of, number_at}
use Rattle.run_theory.specs.Walk.{alone}
use Rattle.run_theory.proofs.Apart.{Free, run_more, free_next, adds_cases}
use Rattle.run_theory.proofs.Counts.{counted}
use Rattle.run_theory.proofs.Lead.{Lead, NoneOf, kept, lead, path_own}
use Rattle.run_theory.proofs.Lists.{entries_of-append, nil_back, nil_front, own_in, slice_get-set_same}
use Rattle.run_theory.proofs.Numbers.{rises}
use Rattle.run_theory.proofs.Solo.{alone_more}
use Rattle.run_theory.proofs.Swap.{steps_of}

module _ {T : Type 0} (m : Machine T) (law : IsLawful m) where
  -- a thread of which no label is a step stays as it is
  pub stays : (R : List Label) (s s1 : State T) (t : ℕ) → run m R s ≡ Some s1 → NoneOf t R → slice_get s.threads t ≡ slice_get s1.threads t
  stays [] s s1 t h none = cc
  stays (u ∷ R) s s1 t h none =
      let more = run_more m law u R s s1 h in
      kept m law s more.0 u t more.1 none.0 ∙ stays R more.0 s1 t more.2 none.1

  -- no number falls
  pub step_rises : (u : Label) (s s1 : State T) → stepped m s u ≡ Some s1 → (o : ObjId) → m.has_object o ≡ true → number_at m s.words o ≤ number_at m s1.words o
  step_rises u s s1 h =
      let x = steps_of m s u s1 h in
      let ws : s1.words ≡ x.words = ap (λ z. z.words) x.to in
      let on : outcome m s.words (m.effect u x.before) ≡ Leaves s1.words x.after = x.leaves ∙ ap (λ z. Leaves z x.after) (sym ws) in
      rises m law u x.before s.words s1.words x.after (m.effect u x.before) (law.effects u x.before) on

  pub run_rises : (R : List Label) (s s1 : State T) → run m R s ≡ Some s1 → (o : ObjId) → m.has_object o ≡ true → number_at m s.words o ≤ number_at m s1.words o
  run_rises [] s s1 h o known = let q : s ≡ s1 = cc in let e = ap (λ (z : State T). number_at m z.words o) q in omega (arith, e)
  run_rises (u ∷ R) s s1 h o known =
      let more = run_more m law u R s s1 h in
      omega (arith, step_rises u s more.0 more.1 o known, run_rises R more.0 s1 more.2 o known)

  -- the thread goes alone to its last state, and the others make the rest
  pub record Leading (s s1 : State T) (t : ℕ) : Type 0 where
    pub steps : ℕ
    pub mid : State T
    pub rest : List Label
    pub goes_alone : alone m steps t s ≡ Some mid
    pub goes : run m rest mid ≡ Some s1
    pub none : NoneOf t rest
    pub counts : count_of m mid t ≡ steps + count_of m s t
    pub numbers : (o : ObjId) → m.has_object o ≡ true → number_at m s.words o ≤ number_at m mid.words o

  at_once : (R : List Label) (s s1 : State T) (t : ℕ) → run m R s ≡ Some s1 → NoneOf t R → Leading s s1 t
  at_once R s s1 t h none = record { steps = 0; mid = s; rest = R; goes_alone = refl; goes = h; none = none; counts = omega arith; numbers = λ o known. omega arith }

  -- a first step that adds nothing
  no_entry_first : (R : List Label) (s s1 : State T) (t : ℕ) (f : Lead m law R s s1 t) → entries_of t (trace m R s) ≡ [] → (added m s f.label ≡ []) × (f.label ≡ Go t)
  no_entry_first R s s1 t f none =
      let both : entries_of t (added m s f.label) ++ entries_of t (trace m f.after f.mid) ≡ [] = sym (entries_of-append t (added m s f.label) (trace m f.after f.mid)) ∙ f.owns t ∙ none in
      let front = nil_front (entries_of t (added m s f.label)) (entries_of t (trace m f.after f.mid)) both in
      ⊎_elim
      (λ p. (p.0, p.1 ∙ ap Go f.of_thread))
      (λ p. cc (own_in t p.0 [] (p.2 ∙ f.of_thread), ap (entries_of t) p.1, front))
      (adds_cases m law s f.mid f.label f.leads)

  rest_adds_none : (R : List Label) (s s1 : State T) (t : ℕ) (f : Lead m law R s s1 t) → entries_of t (trace m R s) ≡ [] → entries_of t (trace m f.after f.mid) ≡ []
  rest_adds_none R s s1 t f none = nil_back (entries_of t (added m s f.label)) (entries_of t (trace m f.after f.mid)) (sym (entries_of-append t (added m s f.label) (trace m f.after f.mid)) ∙ f.owns t ∙ none)

  -- one step of the thread less is left
  shorter : (R : List Label) (s s1 : State T) (t : ℕ) (f : Lead m law R s s1 t) → length (path m t R s) ≡ suc (length (path m t f.after f.mid))
  shorter R s s1 t f =
      let x = steps_of m s f.label f.mid f.leads in
      let stands : slice_get f.mid.threads t ≡ Some x.after = ap (slice_get f.mid.threads) (sym f.of_thread) ∙ ap (λ (z : State T). slice_get z.threads (label_thread f.label)) x.to ∙ slice_get-set_same s.threads (label_thread f.label) x.after x.before x.stands in
      ap length (sym (f.paths t) ∙ path_own m law t f.label f.after s f.mid f.leads f.of_thread ∙ ap (λ o. option_to_list o ++ path m t f.after f.mid) stands)

  one_more : (R : List Label) (s s1 : State T) (t : ℕ) (f : Lead m law R s s1 t) → entries_of t (trace m R s) ≡ [] → Leading f.mid s1 t → Leading s s1 t
  one_more R s s1 t f none r =
      let q = no_entry_first R s s1 t f none in
      let leads : stepped m s (Go t) ≡ Some f.mid = subst (λ z. stepped m s z ≡ Some f.mid) q.1 f.leads in
      let adds : added m s (Go t) ≡ [] = subst (λ z. added m s z ≡ []) q.1 q.0 in
      let c = counted m law (Go t) s f.mid leads adds in
      record {
        steps = suc r.steps;
        mid = r.mid;
        rest = r.rest;
        goes_alone = alone_more m r.steps t s f.mid leads adds ∙ r.goes_alone;
        goes = r.goes;
        none = r.none;
        counts = omega (arith, r.counts, c);
        numbers = λ o known. omega (arith, step_rises (Go t) s f.mid leads o known, r.numbers o known);
      }

  pub leading : (n : ℕ) (R : List Label) (s s1 : State T) (t : ℕ) → length (path m t R s) ≤ n → run m R s ≡ Some s1 → Free m law s → entries_of t (trace m R s) ≡ [] → Leading s s1 t
  leading zero R s s1 t few h free none =
      ⊎_elim
      (λ f. absurd (omega (arith, few, shorter R s s1 t f)))
      (λ q. at_once R s s1 t h q)
      (lead m law R s s1 t h free (λ e rest o c. cc))
  leading (suc n) R s s1 t few h free none =
      ⊎_elim
      (λ f. one_more R s s1 t f none (leading n f.after f.mid s1 t (omega (arith, few, shorter R s s1 t f)) f.goes (free_next m law s f.mid f.label f.leads free) (rest_adds_none R s s1 t f none)))
      (λ q. at_once R s s1 t h q)
      (lead m law R s s1 t h free (λ e rest o c. cc))
