-- A thread's steps up to its next entry can be made first.
use Rattle.std.specs.Prelude.{option_and_then}
use Rattle.std.proofs.Common.{◌≡◌, ◌≢◌, ℕ, zero, suc, List, [], ◌∷◌, ◌++◌, Some, sym, ap, ◌∙◌, subst, ⊎_elim}
use Rattle.std.proofs.lemmas.Bool.{cases_eq}
use Rattle.sync_objects.specs.declared.entry.Noted.{Noted}
use Rattle.run_theory.specs.Labels.{Label, Go, label_thread}
use Rattle.run_theory.specs.Steps.{Leaves, Machine, State, outcome, stepped, added, run, trace, entries_of}
use Rattle.run_theory.specs.Laws.{IsLawful}
use Rattle.run_theory.proofs.Lists.{AllIn, AllIn-front, AllIn-back, IsFirst, own_in, own_out, entries_of-append}
use Rattle.run_theory.proofs.Swap.{steps_of, adds_of}
use Rattle.run_theory.proofs.Apart.{Free, free_next, swap_at, differ_none, differ_first, run_more, trace_more, adds_cases, own_apart}

module _ {T : Type 0} (m : Machine T) (law : IsLawful m) where
  -- n own steps of l's thread that add nothing, and then l, which adds e
  abbrev pub Solo : ℕ → Label → Noted → State T → State T → Type 0
  Solo zero l e s s1 = (stepped m s l ≡ Some s1) × (added m s l ≡ e ∷ [])
  Solo (suc n) l e s s1 = (mid : State T) × (stepped m s (Go (label_thread l)) ≡ Some mid) × (added m s (Go (label_thread l)) ≡ []) × Solo n l e mid s1

  -- a step of another thread can be made after the stretch
  commute : (n : ℕ) (l : Label) (e : Noted) (u : Label) (s s2 s3 : State T) → stepped m s u ≡ Some s2 → Solo n l e s2 s3 → label_thread u ≢ label_thread l → Free m law s → AllIn (IsFirst e) (added m s u) → (mid : State T) × Solo n l e s mid × (stepped m mid u ≡ Some s3) × (added m mid u ≡ added m s u)
  commute zero l e u s s2 s3 su so ne free first =
      let x = steps_of m s u s2 su in
      let y = steps_of m s2 l s3 so.0 in
      let ws : s2.words ≡ x.words = ap (λ z. z.words) x.to in
      let on : outcome m s.words (m.effect u x.before) ≡ Leaves s2.words x.after = x.leaves ∙ ap (λ z. Leaves z x.after) (sym ws) in
      let first1 = subst (AllIn (IsFirst e)) (adds_of m s u s2 x) first in
      let ad = sym (adds_of m s2 l s3 y) ∙ so.1 in
      let d = differ_first m law u l x.before y.before s.words s2.words x.after (m.effect u x.before) (m.effect l y.before) e (law.effects u x.before) on first1 ad in
      let z = swap_at m law s s2 s3 u l x y ne free d in
      (z.0, (z.1, z.3 ∙ so.1), z.2, z.4)
  commute (suc n) l e u s s2 s3 su so ne free first =
      let g = Go (label_thread l) in
      let x = steps_of m s u s2 su in
      let y = steps_of m s2 g so.0 so.1 in
      let d = differ_none m law s2.words (m.effect u x.before) (m.effect g y.before) (sym (adds_of m s2 g so.0 y) ∙ so.2) in
      let z = swap_at m law s s2 so.0 u g x y ne free d in
      let again = commute n l e u z.0 so.0 s3 z.2 so.3 ne (free_next m law s z.0 g z.1 free) (subst (AllIn (IsFirst e)) (sym z.4) first) in
      (again.0, (z.0, z.1, z.3 ∙ so.2, again.1), again.2, again.3 ∙ z.4)

  pub record Front (R : List Label) (s s1 : State T) (e : Noted) (rest : List Noted) : Type 0 where
    pub turns : ℕ
    pub label : Label
    pub mid : State T
    pub after : List Label
    pub solo : Solo turns label e s mid
    pub of_thread : label_thread label ≡ e.entry.thread
    pub goes : run m after mid ≡ Some s1
    pub own_rest : entries_of e.entry.thread (trace m after mid) ≡ rest
    pub others : (t : ℕ) → t ≢ e.entry.thread → entries_of t (trace m after mid) ≡ entries_of t (trace m R s)

  -- one more own step, which adds nothing
  front_quiet : (u : Label) (R : List Label) (s s1 s2 : State T) (e : Noted) (rest : List Noted) → stepped m s u ≡ Some s2 → added m s u ≡ [] → u ≡ Go (label_thread u) → label_thread u ≡ e.entry.thread → Front R s2 s1 e rest → Front (u ∷ R) s s1 e rest
  front_quiet u R s s1 s2 e rest su ad go th f =
      let g : u ≡ Go (label_thread f.label) = go ∙ ap Go (th ∙ sym f.of_thread) in
      let tr : trace m (u ∷ R) s ≡ trace m R s2 = trace_more m law u R s s2 su ∙ ap (λ z. z ++ trace m R s2) ad in
      record {
        turns = suc f.turns;
        label = f.label;
        mid = f.mid;
        after = f.after;
        solo = (s2, subst (λ z. stepped m s z ≡ Some s2) g su, subst (λ z. added m s z ≡ []) g ad, f.solo);
        of_thread = f.of_thread;
        goes = f.goes;
        own_rest = f.own_rest;
        others = λ t ne. f.others t ne ∙ ap (entries_of t) (sym tr);
      }

  -- the thread's own entry comes at once
  front_here : (u : Label) (R : List Label) (s s1 s2 : State T) (e x : Noted) (rest : List Noted) → stepped m s u ≡ Some s2 → run m R s2 ≡ Some s1 → added m s u ≡ x ∷ [] → x.entry.thread ≡ label_thread u → label_thread u ≡ e.entry.thread → entries_of e.entry.thread (trace m (u ∷ R) s) ≡ e ∷ rest → Front (u ∷ R) s s1 e rest
  front_here u R s s1 s2 e x rest su goes ad xt th o =
      let tr : trace m (u ∷ R) s ≡ x ∷ trace m R s2 = trace_more m law u R s s2 su ∙ ap (λ z. z ++ trace m R s2) ad in
      let both : x ∷ entries_of e.entry.thread (trace m R s2) ≡ e ∷ rest = sym (own_in e.entry.thread x (trace m R s2) (xt ∙ th)) ∙ ap (entries_of e.entry.thread) (sym tr) ∙ o in
      let same : x ≡ e = cc in
      record {
        turns = 0;
        label = u;
        mid = s2;
        after = R;
        solo = (su, ad ∙ ap (λ z. z ∷ []) same);
        of_thread = th;
        goes = goes;
        own_rest = cc;
        others = λ t ne. sym (own_out t x (trace m R s2) (λ q. ne (sym q ∙ xt ∙ th))) ∙ ap (entries_of t) (sym tr);
      }

  -- a step of another thread comes first: it can be made after the stretch
  front_other : (u : Label) (R : List Label) (s s1 s2 : State T) (e : Noted) (rest : List Noted) → stepped m s u ≡ Some s2 → label_thread u ≢ e.entry.thread → Free m law s → AllIn (IsFirst e) (added m s u) → Front R s2 s1 e rest → Front (u ∷ R) s s1 e rest
  front_other u R s s1 s2 e rest su ne free first f =
      let c = commute f.turns f.label e u s s2 f.mid su f.solo (λ q. ne (q ∙ f.of_thread)) free first in
      let tr = trace_more m law u f.after c.0 f.mid c.2 in
      let tr0 = trace_more m law u R s s2 su in
      record {
        turns = f.turns;
        label = f.label;
        mid = c.0;
        after = u ∷ f.after;
        solo = c.1;
        of_thread = f.of_thread;
        goes = ap (option_and_then (run m f.after)) c.2 ∙ f.goes;
        own_rest = ap (entries_of e.entry.thread) tr ∙ entries_of-append e.entry.thread (added m c.0 u) (trace m f.after f.mid) ∙ ap (λ z. z ++ entries_of e.entry.thread (trace m f.after f.mid)) (ap (entries_of e.entry.thread) c.3 ∙ own_apart m law e.entry.thread s s2 u su ne) ∙ f.own_rest;
        others = λ t nt. ap (entries_of t) tr ∙ entries_of-append t (added m c.0 u) (trace m f.after f.mid) ∙ ap (λ z. entries_of t z ++ entries_of t (trace m f.after f.mid)) c.3 ∙ ap (λ z. entries_of t (added m s u) ++ z) (f.others t nt) ∙ sym (entries_of-append t (added m s u) (trace m R s2)) ∙ ap (entries_of t) (sym tr0);
      }

  -- the thread's steps up to its next entry can be made first, if no entry of that object comes before it
  pub front : (R : List Label) (s s1 : State T) (e : Noted) (rest : List Noted) → run m R s ≡ Some s1 → Free m law s → entries_of e.entry.thread (trace m R s) ≡ e ∷ rest → AllIn (IsFirst e) (trace m R s) → Front R s s1 e rest
  front [] s s1 e rest h free o first = cc
  front (u ∷ R) s s1 e rest h free o first =
      let more = run_more m law u R s s1 h in
      go more.0 more.1 more.2 (λ o2 first2. front R more.0 s1 e rest more.2 (free_next m law s more.0 u more.1 free) o2 first2)
    where
      tr : (s2 : State T) → stepped m s u ≡ Some s2 → trace m (u ∷ R) s ≡ added m s u ++ trace m R s2
      tr s2 su = trace_more m law u R s s2 su

      later : (s2 : State T) → stepped m s u ≡ Some s2 → AllIn (IsFirst e) (trace m R s2)
      later s2 su = AllIn-back (IsFirst e) (added m s u) (trace m R s2) (subst (AllIn (IsFirst e)) (tr s2 su) first)

      skipped : (s2 : State T) → stepped m s u ≡ Some s2 → entries_of e.entry.thread (added m s u) ≡ [] → entries_of e.entry.thread (trace m R s2) ≡ e ∷ rest
      skipped s2 su none = ap (λ z. z ++ entries_of e.entry.thread (trace m R s2)) (sym none) ∙ sym (entries_of-append e.entry.thread (added m s u) (trace m R s2)) ∙ ap (entries_of e.entry.thread) (sym (tr s2 su)) ∙ o

      go : (s2 : State T) → stepped m s u ≡ Some s2 → run m R s2 ≡ Some s1 → (entries_of e.entry.thread (trace m R s2) ≡ e ∷ rest → AllIn (IsFirst e) (trace m R s2) → Front R s2 s1 e rest) → Front (u ∷ R) s s1 e rest
      go s2 su goes again =
          ⊎_elim
          (λ th. ⊎_elim
          (λ p. front_quiet u R s s1 s2 e rest su p.0 p.1 th (again (skipped s2 su (ap (entries_of e.entry.thread) p.0)) (later s2 su)))
          (λ p. front_here u R s s1 s2 e p.0 rest su goes p.1 p.2 th o)
          (adds_cases m law s s2 u su))
          (λ ne. front_other u R s s1 s2 e rest su ne free (AllIn-front (IsFirst e) (added m s u) (trace m R s2) (subst (AllIn (IsFirst e)) (tr s2 su) first)) (again (skipped s2 su (own_apart m law e.entry.thread s s2 u su ne)) (later s2 su)))
          (cases_eq (label_thread u) e.entry.thread)
