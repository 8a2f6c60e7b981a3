-- Every merge of a run's lists walks to the run's end.
use Rattle.std.proofs.Common.{◌≡◌, ℕ, zero, suc, ◌+◌, ◌-◌, List, [], ◌∷◌, map, Some, None, refl, sym, ap, ◌∙◌, subst, arith, ⊎_elim}
use Rattle.std.specs.Prelude.{slice_get, if◌then◌else◌, option_and_then}
use Rattle.std.proofs.lemmas.Bool.{cases_eq}
use Rattle.sync_objects.specs.declared.entry.Noted.{Noted}
use Rattle.run_theory.specs.Labels.{Label, Go, label_thread}
use Rattle.run_theory.specs.Steps.{Machine, State, stepped, added, run, trace, entries_of, count_or_zero, count_of, AllEnded}
use Rattle.run_theory.specs.Laws.{IsLawful, IsRaceFree}
use Rattle.run_theory.specs.Merge.{ComesBefore, IsMerge}
use Rattle.run_theory.specs.Walk.{if_nothing, if_only, alone, made, part, walk}
use Rattle.run_theory.proofs.Lists.{slice_get-set_same, AllIn, IsFirst, own_in, own_out, AllIn-entries_of, AllIn-of_threads, nil_of_threads, nil_front, nil_back}
use Rattle.run_theory.proofs.SameEntries.{same_entry-refl}
use Rattle.run_theory.proofs.Swap.{steps_of, adds_of}
use Rattle.run_theory.proofs.Apart.{run_more, trace_more, free_next}
use Rattle.run_theory.proofs.Front.{Solo, front}
use Rattle.run_theory.proofs.Counts.{quiet_after, counted, entry_law_at}

-- the first entry of an ascending list has the least number of its object
first_of_all : (x : Noted) (ys : List Noted) → ComesBefore x ys → AllIn (IsFirst x) ys
first_of_all x [] h = tt
first_of_all x (y ∷ ys) h = ((λ e. omega (arith, h.0 e)), first_of_all x ys h.1)

module _ {T : Type 0} (m : Machine T) (law : IsLawful m) where
  -- where all have ended and nothing is added, nothing was done
  nothing_left : (R : List Label) (s s1 : State T) → run m R s ≡ Some s1 → trace m R s ≡ [] → AllEnded m s1 → s ≡ s1
  nothing_left [] s s1 h tr over = cc
  nothing_left (u ∷ R) s s1 h tr over =
      let more = run_more m law u R s s1 h in
      let e = sym (trace_more m law u R s more.0 more.1) ∙ tr in
      let x = steps_of m s u more.0 more.1 in
      let none = nil_front (added m s u) (trace m R more.0) e in
      let rest = nil_back (added m s u) (trace m R more.0) e in
      let same : more.0 ≡ s1 = nothing_left R more.0 s1 more.2 rest over in
      let q = quiet_after m law u x.before s.words x.words x.after (m.effect u x.before) (law.effects u x.before) x.leaves (sym (adds_of m s u more.0 x) ∙ none) in
      let stands : slice_get s1.threads (label_thread u) ≡ Some x.after = ap (λ (z : State T). slice_get z.threads (label_thread u)) (sym same ∙ x.to) ∙ slice_get-set_same s.threads (label_thread u) x.after x.before x.stands in
      let is_over = over (label_thread u) x.after stands in
      cc (q.lives, is_over)

  pub alone_solo : (n : ℕ) (l : Label) (e : Noted) (s s1 : State T) → Solo m law n l e s s1 → (mid : State T) × (alone m n (label_thread l) s ≡ Some mid) × (stepped m mid l ≡ Some s1) × (added m mid l ≡ e ∷ []) × (count_of m mid (label_thread l) ≡ n + count_of m s (label_thread l))
  alone_solo zero l e s s1 so = (s, refl, so.0, so.1, omega arith)
  alone_solo (suc n) l e s s1 so =
      let r = alone_solo n l e so.0 s1 so.3 in
      let c = counted m law (Go (label_thread l)) s so.0 so.1 so.2 in
      (r.0, ap (λ z. if_nothing z (option_and_then (alone m n (label_thread l)) (stepped m s (Go (label_thread l))))) so.2 ∙ ap (option_and_then (alone m n (label_thread l))) so.1 ∙ r.1, r.2, r.3, omega (arith, r.4, c))

  -- a stretch is a part of the walk
  pub part_of_solo : (n : ℕ) (l : Label) (e : Noted) (s s1 : State T) → Solo m law n l e s s1 → part m e.entry s ≡ Some s1
  part_of_solo n l e s s1 so =
      let a = alone_solo n l e s s1 so in
      let y = steps_of m a.0 l s1 a.2 in
      let k = entry_law_at m law a.0 s1 l e y a.3 in
      let at : count_of m a.0 (label_thread l) ≡ m.count y.before = ap (count_or_zero m) y.stands in
      let n_is : e.entry.count - count_of m s (label_thread l) ≡ n = omega (arith, a.4, at, k.counted) in
      let first : alone m (e.entry.count - count_of m s e.entry.thread) e.entry.thread s ≡ Some a.0 = ap (λ z. alone m (e.entry.count - count_of m s z) z s) k.of_thread ∙ ap (λ z. alone m z (label_thread l) s) n_is ∙ a.1 in
      let last : made m e.entry a.0 ≡ Some s1 = ap (λ z. if_only e.entry (added m a.0 z) (stepped m a.0 z)) k.labelled ∙ ap (λ z. if_only e.entry z (stepped m a.0 l)) a.3 ∙ ap (λ z. if z then stepped m a.0 l else None) (same_entry-refl e.entry) ∙ a.2 in
      ap (option_and_then (made m e.entry)) first ∙ last

  pub free_solo : (n : ℕ) (l : Label) (e : Noted) (s s1 : State T) → Solo m law n l e s s1 → IsRaceFree m s → IsRaceFree m s1
  free_solo zero l e s s1 so free = free_next m law s s1 l so.0 free
  free_solo (suc n) l e s s1 so free = free_solo n l e so.0 s1 so.3 (free_next m law s so.0 (Go (label_thread l)) so.1 free)

  pub merge_walks : (M : List Noted) (R : List Label) (s s1 : State T) → run m R s ≡ Some s1 → IsRaceFree m s → AllEnded m s1 → IsMerge (λ t. entries_of t (trace m R s)) M → walk m (map (λ (x : Noted). x.entry) M) s ≡ Some s1
  merge_walks [] R s s1 h free over merges = ap Some (nothing_left R s s1 h (nil_of_threads (trace m R s) (λ t. sym (merges.threads t))) over)
  merge_walks (e ∷ M) R s s1 h free over merges =
      let t = e.entry.thread in
      let o : entries_of t (trace m R s) ≡ e ∷ entries_of t M = sym (merges.threads t) ∙ own_in t e M refl in
      let all : AllIn (IsFirst e) (e ∷ M) = ((λ _. omega arith), first_of_all e M merges.ascending.0) in
      let first = AllIn-of_threads (IsFirst e) (trace m R s) (λ u. subst (AllIn (IsFirst e)) (merges.threads u) (AllIn-entries_of (IsFirst e) u (e ∷ M) all)) in
      let f = front m law R s s1 e (entries_of t M) h free o first in
      let rest = merge_walks M f.after f.mid s1 f.goes (free_solo f.turns f.label e s f.mid f.solo free) over (record {
        threads = λ u. ⊎_elim
            (λ q. subst (λ z. entries_of z M ≡ entries_of z (trace m f.after f.mid)) (sym q) (sym f.own_rest))
            (λ ne. sym (own_out u e M (λ q. ne (sym q))) ∙ merges.threads u ∙ sym (f.others u ne))
            (cases_eq u t);
        ascending = merges.ascending.1;
      }) in
      ap (option_and_then (walk m (map (λ (x : Noted). x.entry) M))) (part_of_solo f.turns f.label e s f.mid f.solo) ∙ rest
