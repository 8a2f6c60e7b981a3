-- Where one run has a part of another's entries, each thread's states in one are a prefix of those in the other.
use Rattle.std.proofs.Common.{◌≡◌, ℕ, zero, suc, ◌≤◌, List, [], ◌∷◌, ◌++◌, length, Some, refl, sym, ap, ◌∙◌, subst, arith, ◌⊎◌, inl, inr, ⊎_elim}
use Rattle.std.specs.Prelude.{slice_get, option_to_list}
use Rattle.std.proofs.lemmas.Bool.{cases_eq}
use Rattle.std.proofs.lemmas.Option.{same_Some}
use Rattle.sync_objects.specs.declared.entry.Noted.{Noted}
use Rattle.run_theory.specs.Labels.{Label, Go, label_thread, label_of}
use Rattle.run_theory.specs.Steps.{Leaves, Machine, State, outcome, stepped, added, number_at, run, trace, entries_of, count_or_zero, count_of}
use Rattle.run_theory.specs.Laws.{IsLawful}
use Rattle.run_theory.specs.Paths.{path, AreComparable, BeginsLike, StopsBefore}
use Rattle.std.proofs.lemmas.List.{append_cancel_left, append_assoc}
use Rattle.run_theory.proofs.Lists.{AllIn, AllIn-map, IsFirst, own_in, entries_of-append, nil_front, nil_back, nil_cons}
use Rattle.run_theory.proofs.Swap.{steps_of, adds_of}
use Rattle.run_theory.proofs.Apart.{Free, run_more, trace_more, free_next, adds_cases, own_apart}
use Rattle.run_theory.proofs.Counts.{entry_law_at, counted}
use Rattle.run_theory.proofs.Numbers.{later, IsLater, draws, IsDrawn}
use Rattle.run_theory.proofs.Lead.{NoneOf, path_own, path_other, Lead, lead, MayLead}
use Rattle.run_theory.proofs.Grows.{run_grows, first_count}
use Rattle.run_theory.proofs.Removed.{push, remove}

module _ {T : Type 0} (m : Machine T) (law : IsLawful m) where
  none_path : (t : ℕ) (Q : List Label) (s q1 : State T) → run m Q s ≡ Some q1 → NoneOf t Q → (path m t Q s ≡ []) × (entries_of t (trace m Q s) ≡ [])
  none_path t [] s q1 h none = (refl, refl)
  none_path t (u ∷ Q) s q1 h none =
      let more = run_more m law u Q s q1 h in
      let r = none_path t Q more.0 q1 more.2 none.1 in (
        path_other m law t u Q s more.0 more.1 none.0 ∙ r.0,
        ap (entries_of t) (trace_more m law u Q s more.0 more.1) ∙ entries_of-append t (added m s u) (trace m Q more.0) ∙ ap (λ z. z ++ entries_of t (trace m Q more.0)) (own_apart m law t s more.0 u more.1 none.0) ∙ r.1,
      )

  -- of a step that adds an entry: the entry's count and label, and its number
  record AddsEntry (s s1 : State T) (l : Label) (e : Noted) : Type 0 where
    is : added m s l ≡ e ∷ []
    of_thread : e.entry.thread ≡ label_thread l
    counts : e.entry.count ≡ count_of m s (label_thread l)
    label : label_of e.entry ≡ l
    drawn : IsDrawn m law s.words s1.words e

  adds_entry : (s s1 : State T) (l : Label) → stepped m s l ≡ Some s1 → ((added m s l ≡ []) × (l ≡ Go (label_thread l))) ⊎ ((e : Noted) × AddsEntry s s1 l e)
  adds_entry s s1 l h =
      ⊎_elim inl
      (λ p.
      let y = steps_of m s l s1 h in
      let k = entry_law_at m law s s1 l p.0 y p.1 in
      let ws : s1.words ≡ y.words = ap (λ z. z.words) y.to in
      let on : outcome m s.words (m.effect l y.before) ≡ Leaves s1.words y.after = y.leaves ∙ ap (λ z. Leaves z y.after) (sym ws) in
      let d = draws m law l y.before s.words s1.words y.after (m.effect l y.before) (law.effects l y.before) on in
      let d1 = subst (AllIn (IsDrawn m law s.words s1.words)) (sym (adds_of m s l s1 y) ∙ p.1) d in
      inr (p.0, record { is = p.1; of_thread = p.2; counts = k.counted ∙ ap (count_or_zero m) (sym y.stands); label = k.labelled; drawn = d1.0 }))
      (adds_cases m law s s1 l h)

  own_adds : (l : Label) (R : List Label) (s s1 : State T) (e : Noted) → AddsEntry s s1 l e → entries_of (label_thread l) (added m s l ++ trace m R s1) ≡ e ∷ entries_of (label_thread l) (trace m R s1)
  own_adds l R s s1 e a = ap (λ z. entries_of (label_thread l) (z ++ trace m R s1)) a.is ∙ own_in (label_thread l) e (trace m R s1) a.of_thread

  -- the first entry is not above a later one of its object
  is_first : (Q : List Label) (s s1 q1 : State T) (l : Label) (e : Noted) → AddsEntry s s1 l e → run m Q s ≡ Some q1 → AllIn (IsFirst e) (trace m Q s)
  is_first Q s s1 q1 l e a h =
      AllIn-map (IsLater m law s.words) (IsFirst e) _
      (λ x q. λ o. let k = ap (number_at m s.words) o in omega (arith, q.below, a.drawn.before))
      (later m law Q s q1 h)

  module _ (l : Label) (R Q : List Label) (s s1 r1 q1 : State T) (step_is : stepped m s l ≡ Some s1) (rest_runs : run m R s1 ≡ Some r1) (runs : run m Q s ≡ Some q1) (free : Free m law s) (begins : BeginsLike m (l ∷ R) Q s) (stops : StopsBefore m (l ∷ R) Q s r1) where
    tr : trace m (l ∷ R) s ≡ added m s l ++ trace m R s1
    tr = trace_more m law l R s s1 step_is

    -- where the step adds nothing, the other run has no entry of the thread at this count
    not_here : added m s l ≡ [] → (e : Noted) (rest : List Noted) → entries_of (label_thread l) (trace m Q s) ≡ e ∷ rest → e.entry.count ≡ count_of m s (label_thread l) → ⊥
    not_here quiet e rest o c = go (entries_of (label_thread l) (trace m R s1)) refl
      where
        up : count_of m s1 (label_thread l) ≡ suc (count_of m s (label_thread l))
        up = counted m law l s s1 step_is quiet

        same : entries_of (label_thread l) (trace m (l ∷ R) s) ≡ entries_of (label_thread l) (trace m R s1)
        same = ap (entries_of (label_thread l)) (tr ∙ ap (λ z. z ++ trace m R s1) quiet)

        go : (xs : List Noted) → entries_of (label_thread l) (trace m R s1) ≡ xs → ⊥
        go [] q =
            let n = stops (label_thread l) e rest (ap (λ z. z ++ e ∷ rest) (same ∙ q) ∙ sym o) in
            let g = run_grows m law R s1 r1 (label_thread l) rest_runs in
            omega (arith, up)
        go (x ∷ xs) q =
            let b = begins (label_thread l) in
            let k : x ∷ (xs ++ b.0) ≡ e ∷ rest = ap (λ z. z ++ b.0) (sym (same ∙ q)) ∙ b.1 ∙ o in
            let xe : x ≡ e = cc in
            let n = first_count m law R s1 r1 (label_thread l) x xs rest_runs q in
            let mid = ap (λ z. z.entry.count) xe in
            omega (arith, up)

    -- where it adds an entry, this is the other run's first of the thread
    is_here : (e : Noted) → AddsEntry s s1 l e → entries_of (label_thread l) (trace m Q s) ≡ e ∷ (entries_of (label_thread l) (trace m R s1) ++ (begins (label_thread l)).0)
    is_here e a = sym (begins (label_thread l)).1 ∙ ap (λ z. z ++ (begins (label_thread l)).0) (ap (entries_of (label_thread l)) tr ∙ own_adds l R s s1 e a)

    may : MayLead m law Q s (label_thread l)
    may e rest o c =
        ⊎_elim
        (λ p. absurd (not_here p.0 e rest o c))
        (λ p. let k : p.0 ≡ e = cc (is_here p.0 p.1, o) in subst (λ z. AllIn (IsFirst z) (trace m Q s)) k (is_first Q s s1 q1 l p.0 p.1 runs))
        (adds_entry s s1 l step_is)

    same_label : (f : Lead m law Q s q1 (label_thread l)) → f.label ≡ l
    same_label f =
        ⊎_elim
        (λ p. ⊎_elim
        (λ q. q.1 ∙ ap Go f.of_thread ∙ sym p.1)
        (λ q. absurd (not_here p.0 q.0 _ (first_of q.0 q.1) (q.1.counts ∙ ap (λ z. count_of m s z) f.of_thread)))
        (adds_entry s f.mid f.label f.leads))
        (λ p. ⊎_elim
        (λ q.
        let up = counted m law f.label s f.mid f.leads q.0 in
        let o : entries_of (label_thread l) (trace m f.after f.mid) ≡ p.0 ∷ (entries_of (label_thread l) (trace m R s1) ++ (begins (label_thread l)).0) = ap (λ z. entries_of (label_thread l) (z ++ trace m f.after f.mid)) (sym q.0) ∙ f.owns (label_thread l) ∙ is_here p.0 p.1 in
        let n = first_count m law f.after f.mid q1 (label_thread l) p.0 _ f.goes o in
        let w1 = ap (λ z. count_of m f.mid z) f.of_thread in
        let w2 = ap (λ z. count_of m s z) f.of_thread in
        let c = p.1.counts in
        absurd (omega arith))
        (λ q. let k : q.0 ≡ p.0 = cc (first_of q.0 q.1, is_here p.0 p.1) in sym q.1.label ∙ ap (λ z. label_of z.entry) k ∙ p.1.label)
        (adds_entry s f.mid f.label f.leads))
        (adds_entry s s1 l step_is)
      where
        first_of : (e : Noted) → AddsEntry s f.mid f.label e → entries_of (label_thread l) (trace m Q s) ≡ e ∷ entries_of (label_thread l) (trace m f.after f.mid)
        first_of e a = sym (f.owns (label_thread l)) ∙ ap (λ z. entries_of z (added m s f.label ++ trace m f.after f.mid)) (sym f.of_thread) ∙ own_adds f.label f.after s f.mid e a ∙ ap (λ z. e ∷ entries_of z (trace m f.after f.mid)) f.of_thread

  comparable_on : {A : Type 0} (zs xs ys : List A) → AreComparable xs ys → AreComparable (zs ++ xs) (zs ++ ys)
  comparable_on zs xs ys c =
      ⊎_elim
      (λ p. inl (p.0, append_assoc zs xs p.0 ∙ ap (λ z. zs ++ z) p.1))
      (λ p. inr (p.0, append_assoc zs ys p.0 ∙ ap (λ z. zs ++ z) p.1))
      c

  path_step : (x : ℕ) (l : Label) (R Q : List Label) (s s1 : State T) → stepped m s l ≡ Some s1 → AreComparable (path m x R s1) (path m x Q s1) → AreComparable (path m x (l ∷ R) s) (path m x (l ∷ Q) s)
  path_step x l R Q s s1 h c =
      ⊎_elim
      (λ (w : label_thread l ≡ x). subst (λ z. AreComparable z (path m x (l ∷ Q) s)) (sym (path_own m law x l R s s1 h w)) (subst (AreComparable (option_to_list (slice_get s1.threads x) ++ path m x R s1)) (sym (path_own m law x l Q s s1 h w)) (comparable_on (option_to_list (slice_get s1.threads x)) (path m x R s1) (path m x Q s1) c)))
      (λ (w : label_thread l ≡ x → ⊥). subst (λ z. AreComparable z (path m x (l ∷ Q) s)) (sym (path_other m law x l R s s1 h w)) (subst (AreComparable (path m x R s1)) (sym (path_other m law x l Q s s1 h w)) c))
      (cases_eq (label_thread l) x)

  -- the other run, with the same label first
  record Aligned (l : Label) (Q : List Label) (s s1 q1 : State T) : Type 0 where
    after : List Label
    goes : run m after s1 ≡ Some q1
    paths : (x : ℕ) → path m x (l ∷ after) s ≡ path m x Q s
    owns : (x : ℕ) → entries_of x (added m s l) ++ entries_of x (trace m after s1) ≡ entries_of x (trace m Q s)

  aligned : (l : Label) (Q : List Label) (s s1 q1 : State T) (f : Lead m law Q s q1 (label_thread l)) → stepped m s l ≡ Some s1 → f.label ≡ l → Aligned l Q s s1 q1
  aligned l Q s s1 q1 f h e =
      let mid : f.mid ≡ s1 = same_Some _ _ (sym f.leads ∙ ap (stepped m s) e ∙ h) in
      record {
        after = f.after;
        goes = subst (λ z. run m f.after z ≡ Some q1) mid f.goes;
        paths = λ x. ap (λ z. path m x (z ∷ f.after) s) (sym e) ∙ f.paths x;
        owns = λ x. sym (entries_of-append x (added m s l) (trace m f.after s1)) ∙ ap (λ z. entries_of x (added m s z ++ trace m f.after s1)) (sym e) ∙ ap (λ z. entries_of x (added m s f.label ++ trace m f.after z)) (sym mid) ∙ f.owns x;
      }

  own_step : (t : ℕ) (l : Label) (R : List Label) (s s1 : State T) → stepped m s l ≡ Some s1 → entries_of t (trace m (l ∷ R) s) ≡ entries_of t (added m s l) ++ entries_of t (trace m R s1)
  own_step t l R s s1 h = ap (entries_of t) (trace_more m law l R s s1 h) ∙ entries_of-append t (added m s l) (trace m R s1)

  begins_on : (l : Label) (R Q : List Label) (s s1 q1 : State T) → stepped m s l ≡ Some s1 → (a : Aligned l Q s s1 q1) → BeginsLike m (l ∷ R) Q s → BeginsLike m R a.after s1
  begins_on l R Q s s1 q1 h a begins t =
      let b = begins t in
      let e : entries_of t (added m s l) ++ (entries_of t (trace m R s1) ++ b.0) ≡ entries_of t (added m s l) ++ entries_of t (trace m a.after s1) = sym (append_assoc (entries_of t (added m s l)) (entries_of t (trace m R s1)) b.0) ∙ ap (λ z. z ++ b.0) (sym (own_step t l R s s1 h)) ∙ b.1 ∙ sym (a.owns t) in
      (b.0, append_cancel_left (entries_of t (added m s l)) (entries_of t (trace m R s1) ++ b.0) (entries_of t (trace m a.after s1)) e)

  stops_on : (l : Label) (R Q : List Label) (s s1 r1 q1 : State T) → stepped m s l ≡ Some s1 → (a : Aligned l Q s s1 q1) → StopsBefore m (l ∷ R) Q s r1 → StopsBefore m R a.after s1 r1
  stops_on l R Q s s1 r1 q1 h a stops t e rest q =
      stops t e rest (ap (λ z. z ++ e ∷ rest) (own_step t l R s s1 h) ∙ append_assoc (entries_of t (added m s l)) (entries_of t (trace m R s1)) (e ∷ rest) ∙ ap (λ z. entries_of t (added m s l) ++ z) q ∙ a.owns t)

  -- each thread's states in one of the two runs are a prefix of those in the other
  pub prefixes : (n : ℕ) (R Q : List Label) (s r1 q1 : State T) → length R ≤ n → run m R s ≡ Some r1 → run m Q s ≡ Some q1 → Free m law s → BeginsLike m R Q s → StopsBefore m R Q s r1 → (x : ℕ) → AreComparable (path m x R s) (path m x Q s)
  prefixes n [] Q s r1 q1 le h k free begins stops x = inl (path m x Q s, refl)
  prefixes zero (l ∷ R) Q s r1 q1 le h k free begins stops x = absurd (omega arith)
  prefixes (suc n) (l ∷ R) Q s r1 q1 le h k free begins stops x = go (run_more m law l R s r1 h) (λ V W a v w lv hv hw fr b st. prefixes n V W a v w lv hv hw fr b st x)
    where
      go : (s1 : State T) × (stepped m s l ≡ Some s1) × (run m R s1 ≡ Some r1) → ((V W : List Label) (a v w : State T) → length V ≤ n → run m V a ≡ Some v → run m W a ≡ Some w → Free m law a → BeginsLike m V W a → StopsBefore m V W a v → AreComparable (path m x V a) (path m x W a)) → AreComparable (path m x (l ∷ R) s) (path m x Q s)
      go more again = ⊎_elim moved gone (lead m law Q s q1 (label_thread l) k free (may l R Q s more.0 r1 q1 more.1 more.2 k free begins stops))
        where
          next_free : Free m law more.0
          next_free = free_next m law s more.0 l more.1 free

          moved : Lead m law Q s q1 (label_thread l) → AreComparable (path m x (l ∷ R) s) (path m x Q s)
          moved f =
              let a = aligned l Q s more.0 q1 f more.1 (same_label l R Q s more.0 r1 q1 more.1 more.2 k free begins stops f) in
              let c = again R a.after more.0 r1 q1 (omega arith) more.2 a.goes next_free (begins_on l R Q s more.0 q1 more.1 a begins) (stops_on l R Q s more.0 r1 q1 more.1 a stops) in
              subst (AreComparable (path m x (l ∷ R) s)) (a.paths x) (path_step x l R a.after s more.0 more.1 c)

          gone : NoneOf (label_thread l) Q → AreComparable (path m x (l ∷ R) s) (path m x Q s)
          gone no_step =
              let t = label_thread l in
              let np = none_path t Q s q1 k no_step in
              let none_own : entries_of t (added m s l) ++ entries_of t (trace m R more.0) ≡ [] = sym (own_step t l R s more.0 more.1) ∙ nil_front (entries_of t (trace m (l ∷ R) s)) (begins t).0 ((begins t).1 ∙ np.1) in
              let quiet : added m s l ≡ [] = ⊎_elim (λ p. p.0) (λ p. cc (own_in t p.0 [] p.1.of_thread, ap (entries_of t) p.1.is, nil_front (entries_of t (added m s l)) (entries_of t (trace m R more.0)) none_own)) (adds_entry s more.0 l more.1) in
              let r = remove m law R more.0 r1 t more.2 next_free (nil_back (entries_of t (added m s l)) (entries_of t (trace m R more.0)) none_own) in
              let q = push m law l r.rest s more.0 r.end t refl more.1 quiet r.goes r.none free in
              let own_is : (y : ℕ) → entries_of y (trace m r.rest s) ≡ entries_of y (trace m (l ∷ R) s) = (λ y. q.owns y ∙ r.owns y ∙ sym (own_step y l R s more.0 more.1 ∙ ap (λ z. entries_of y z ++ entries_of y (trace m R more.0)) quiet)) in
              ⊎_elim
              (λ (is : x ≡ t). inr (path m x (l ∷ R) s, ap (λ z. z ++ path m x (l ∷ R) s) (ap (λ z. path m z Q s) is ∙ np.0)))
              (λ (isnt : x ≡ t → ⊥).
              let c = again r.rest Q s q.end q1 (omega (arith, r.short)) q.goes k free
              (λ y. ((begins y).0, ap (λ z. z ++ (begins y).0) (own_is y) ∙ (begins y).1))
              (λ y e rest o. ⊎_elim
              (λ (yt : y ≡ t). absurd (nil_cons (entries_of y (trace m r.rest s)) e rest (o ∙ ap (λ z. entries_of z (trace m Q s)) yt ∙ np.1)))
              (λ (yt : y ≡ t → ⊥). let w = ap (count_or_zero m) (q.others y yt ∙ r.others y yt) in let b = stops y e rest (ap (λ z. z ++ e ∷ rest) (sym (own_is y)) ∙ o) in omega arith)
              (cases_eq y t)) in
              subst (λ z. AreComparable z (path m x Q s)) (q.paths x isnt ∙ r.paths x isnt ∙ sym (path_other m law x l R s more.0 more.1 (λ z. isnt (sym z)))) c)
              (cases_eq x t)

  pub comparable_paths : (R Q : List Label) (s r1 q1 : State T) → run m R s ≡ Some r1 → run m Q s ≡ Some q1 → Free m law s → BeginsLike m R Q s → StopsBefore m R Q s r1 → (x : ℕ) → AreComparable (path m x R s) (path m x Q s)
  comparable_paths R Q s r1 q1 h k free begins stops x = prefixes (length R) R Q s r1 q1 (omega arith) h k free begins stops x
