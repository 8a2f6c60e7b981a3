-- The steps of a thread that adds no entry can be left out of a run.
use Rattle.std.proofs.Common.{◌≡◌, ◌≢◌, ℕ, ◌≤◌, List, [], ◌∷◌, ◌++◌, length, Some, refl, sym, ap, ◌∙◌, arith, ⊎_elim}
use Rattle.std.specs.Prelude.{slice_get, option_and_then, option_to_list}
use Rattle.std.proofs.lemmas.Bool.{cases_eq}
use Rattle.std.proofs.lemmas.Option.{same_Some}
use Rattle.run_theory.specs.Labels.{Label, label_thread}
use Rattle.run_theory.specs.Steps.{Effect, Refused, Operates, Machine, State, stepped, added, effect_entry, run, trace, entries_of}
use Rattle.run_theory.specs.Laws.{IsLawful}
use Rattle.run_theory.specs.Paths.{path}
use Rattle.run_theory.proofs.Lists.{own_in, entries_of-append, nil_front, nil_back}
use Rattle.run_theory.proofs.Swap.{steps_of, adds_of}
use Rattle.run_theory.proofs.Apart.{Free, Differ, run_more, trace_more, free_next, adds_cases, swap_at}
use Rattle.run_theory.proofs.Lead.{NoneOf, kept, path_own, path_other}

module _ {T : Type 0} (m : Machine T) (law : IsLawful m) where
  -- a step that adds nothing differs from every other
  differ_quiet : (ws : List ℕ) (e f : Effect T) → effect_entry m ws e ≡ [] → Differ e f
  differ_quiet ws (Operates x f) (Operates y g) h = cc
  differ_quiet ws (Operates x f) Refused h = tt
  differ_quiet ws Refused f h = tt
  differ_quiet ws e f h = tt

  -- a run without a first step of a thread that makes no other in it, and adds nothing
  pub record Without (V : List Label) (s s2 s3 : State T) (t : ℕ) : Type 0 where
    pub end : State T
    pub goes : run m V s ≡ Some end
    pub paths : (x : ℕ) → x ≢ t → path m x V s ≡ path m x V s2
    pub owns : (x : ℕ) → entries_of x (trace m V s) ≡ entries_of x (trace m V s2)
    pub others : (x : ℕ) → x ≢ t → slice_get end.threads x ≡ slice_get s3.threads x

  pub push : (u : Label) (V : List Label) (s s2 s3 : State T) (t : ℕ) → label_thread u ≡ t → stepped m s u ≡ Some s2 → added m s u ≡ [] → run m V s2 ≡ Some s3 → NoneOf t V → Free m law s → Without V s s2 s3 t
  push u [] s s2 s3 t w su ad h none free = record {
    end = s;
    goes = refl;
    paths = λ x ne. refl;
    owns = λ x. refl;
    others = λ x ne. kept m law s s2 u x su (λ q. ne (sym q ∙ w)) ∙ ap (λ (z : State T). slice_get z.threads x) (same_Some _ _ h);
  }
  push u (v ∷ V) s s2 s3 t w su ad h none free = go (run_more m law v V s2 s3 h) (λ a b sb ad2 hb. push u V a b s3 t w sb ad2 hb none.1)
    where
      go : (more : (b : State T) × (stepped m s2 v ≡ Some b) × (run m V b ≡ Some s3)) → ((a b : State T) → stepped m a u ≡ Some b → added m a u ≡ [] → run m V b ≡ Some s3 → Free m law a → Without V a b s3 t) → Without (v ∷ V) s s2 s3 t
      go more again =
          let x = steps_of m s u s2 su in
          let y = steps_of m s2 v more.0 more.1 in
          let d = differ_quiet s.words (m.effect u x.before) (m.effect v y.before) (sym (adds_of m s u s2 x) ∙ ad) in
          let z = swap_at m law s s2 more.0 u v x y (λ q. none.0 (sym q ∙ w)) free d in
          let r = again z.0 more.0 z.2 (z.4 ∙ ad) more.2 (free_next m law s z.0 v z.1 free) in
          record {
            end = r.end;
            goes = ap (option_and_then (run m V)) z.1 ∙ r.goes;
            paths = λ a ne.
                ⊎_elim
                (λ (q : label_thread v ≡ a).
                path_own m law a v V s z.0 z.1 q ∙ ap (λ k. option_to_list (slice_get z.0.threads a) ++ k) (r.paths a ne) ∙ ap (λ k. option_to_list k ++ path m a V more.0) (kept m law z.0 more.0 u a z.2 (λ k. ne (sym k ∙ w))) ∙ sym (path_own m law a v V s2 more.0 more.1 q))
                (λ (q : label_thread v ≡ a → ⊥).
                path_other m law a v V s z.0 z.1 q ∙ r.paths a ne ∙ sym (path_other m law a v V s2 more.0 more.1 q))
                (cases_eq (label_thread v) a);
            owns = λ a.
                ap (entries_of a) (trace_more m law v V s z.0 z.1) ∙ entries_of-append a (added m s v) (trace m V z.0) ∙ ap (λ k. entries_of a k ++ entries_of a (trace m V z.0)) z.3 ∙ ap (λ k. entries_of a (added m s2 v) ++ k) (r.owns a) ∙ sym (entries_of-append a (added m s2 v) (trace m V more.0)) ∙ ap (entries_of a) (sym (trace_more m law v V s2 more.0 more.1));
            others = r.others;
          }

  -- a run without the steps of a thread that adds no entry in it
  pub record Removed (R : List Label) (s s1 : State T) (t : ℕ) : Type 0 where
    pub rest : List Label
    pub end : State T
    pub goes : run m rest s ≡ Some end
    pub none : NoneOf t rest
    pub short : length rest ≤ length R
    pub paths : (x : ℕ) → x ≢ t → path m x rest s ≡ path m x R s
    pub owns : (x : ℕ) → entries_of x (trace m rest s) ≡ entries_of x (trace m R s)
    pub others : (x : ℕ) → x ≢ t → slice_get end.threads x ≡ slice_get s1.threads x

  pub remove : (R : List Label) (s s1 : State T) (t : ℕ) → run m R s ≡ Some s1 → Free m law s → entries_of t (trace m R s) ≡ [] → Removed R s s1 t
  remove [] s s1 t h free no_entry = record { rest = []; end = s; goes = refl; none = tt; short = omega arith; paths = λ x ne. refl; owns = λ x. refl; others = λ x ne. ap (λ (z : State T). slice_get z.threads x) (same_Some _ _ h) }
  remove (u ∷ R) s s1 t h free no_entry = go (run_more m law u R s s1 h) (λ s2 h2 fr o. remove R s2 s1 t h2 fr o)
    where
      go : (more : (s2 : State T) × (stepped m s u ≡ Some s2) × (run m R s2 ≡ Some s1)) → ((s2 : State T) → run m R s2 ≡ Some s1 → Free m law s2 → entries_of t (trace m R s2) ≡ [] → Removed R s2 s1 t) → Removed (u ∷ R) s s1 t
      go more again =
          let both : entries_of t (added m s u) ++ entries_of t (trace m R more.0) ≡ [] = sym (entries_of-append t (added m s u) (trace m R more.0)) ∙ ap (entries_of t) (sym (trace_more m law u R s more.0 more.1)) ∙ no_entry in
          let r = again more.0 more.2 (free_next m law s more.0 u more.1 free) (nil_back (entries_of t (added m s u)) (entries_of t (trace m R more.0)) both) in
          ⊎_elim
          (λ (w : label_thread u ≡ t).
          let quiet : added m s u ≡ [] = ⊎_elim (λ p. p.0) (λ p. cc (own_in t p.0 [] (p.2 ∙ w), ap (entries_of t) p.1, nil_front (entries_of t (added m s u)) (entries_of t (trace m R more.0)) both)) (adds_cases m law s more.0 u more.1) in
          let q = push u r.rest s more.0 r.end t w more.1 quiet r.goes r.none free in
          let tr : trace m (u ∷ R) s ≡ trace m R more.0 = trace_more m law u R s more.0 more.1 ∙ ap (λ z. z ++ trace m R more.0) quiet in
          record {
            rest = r.rest;
            end = q.end;
            goes = q.goes;
            none = r.none;
            short = omega (arith, r.short);
            paths = λ x ne. q.paths x ne ∙ r.paths x ne ∙ sym (path_other m law x u R s more.0 more.1 (λ k. ne (sym k ∙ w)));
            owns = λ x. q.owns x ∙ r.owns x ∙ ap (entries_of x) (sym tr);
            others = λ x ne. q.others x ne ∙ r.others x ne;
          })
          (λ (w : label_thread u ≡ t → ⊥).
          record {
            rest = u ∷ r.rest;
            end = r.end;
            goes = ap (option_and_then (run m r.rest)) more.1 ∙ r.goes;
            none = (w, r.none);
            short = omega (arith, r.short);
            paths = λ x ne. ⊎_elim
                (λ (q : label_thread u ≡ x). path_own m law x u r.rest s more.0 more.1 q ∙ ap (λ k. option_to_list (slice_get more.0.threads x) ++ k) (r.paths x ne) ∙ sym (path_own m law x u R s more.0 more.1 q))
                (λ (q : label_thread u ≡ x → ⊥). path_other m law x u r.rest s more.0 more.1 q ∙ r.paths x ne ∙ sym (path_other m law x u R s more.0 more.1 q))
                (cases_eq (label_thread u) x);
            owns = λ x. ap (entries_of x) (trace_more m law u r.rest s more.0 more.1) ∙ entries_of-append x (added m s u) (trace m r.rest more.0) ∙ ap (λ k. entries_of x (added m s u) ++ k) (r.owns x) ∙ sym (entries_of-append x (added m s u) (trace m R more.0)) ∙ ap (entries_of x) (sym (trace_more m law u R s more.0 more.1));
            others = r.others;
          })
          (cases_eq (label_thread u) t)
