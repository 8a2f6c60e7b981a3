-- The entries of a run from its beginning are numbered one by one on each object, and are of the state's threads.
use Rattle.std.proofs.Common.{◌≡◌, ◌≢◌, ℕ, ◌+◌, ◌<◌, true, List, [], ◌∷◌, ◌++◌, length, Some, sym, ap, ◌∙◌, subst, arith, append_assoc, ⊎_elim, pos}
use Rattle.std.specs.Prelude.{slice_get, slice_index}
use Rattle.std.proofs.lemmas.List.{get_or-set_other, length-set, append-nil}
use Rattle.std.proofs.lemmas.Option.{slice_get_within}
use Rattle.sync_objects.specs.declared.entry.Noted.{Noted}
use Rattle.sync_objects.specs.declared.object.ObjId.{ObjId}
use Rattle.run_theory.specs.Labels.{Label, label_thread}
use Rattle.run_theory.specs.Steps.{Becomes, Leaves, Effect, Refused, Marks, Loads, Stores, Operates, Machine, State, outcome, stepped, added, effect_entry, number_at, run, trace, entries_of}
use Rattle.run_theory.specs.Laws.{IsLawfulEffect, IsLawful}
use Rattle.run_theory.specs.Merge.{IsMerge, lists_from, entries_at, written_merge}
use Rattle.run_theory.proofs.Lists.{AllIn, AllIn-append}
use Rattle.run_theory.proofs.SameEntries.{object_cases}
use Rattle.run_theory.proofs.Swap.{steps_of, adds_of, load_inv, change_inv}
use Rattle.run_theory.proofs.Apart.{run_more, trace_more, adds_cases}
use Rattle.run_theory.proofs.Numbers.{IsDrawn, draws}
use Rattle.run_theory.proofs.Written.{IsNumbered, entries_at-append, one_here, none_here, written_merges}

numbered_append : (before xs ys : List Noted) → IsNumbered before xs → IsNumbered (before ++ xs) ys → IsNumbered before (xs ++ ys)
numbered_append before [] ys h k = subst (λ z. IsNumbered z ys) (append-nil before) k
numbered_append before (x ∷ xs) ys h k = (h.0, numbered_append (before ++ x ∷ []) xs ys h.1 (subst (λ z. IsNumbered z ys) (sym (append_assoc before (x ∷ []) xs)) k))

module _ {T : Type 0} (m : Machine T) (law : IsLawful m) where
  -- a step adds to an object's number as many as its entries of the object
  numbers_after : (l : Label) (th : T) (ws ws1 : List ℕ) (t : T) (f : Effect T) → IsLawfulEffect m l th f → outcome m ws f ≡ Leaves ws1 t → (o : ObjId) → m.has_object o ≡ true → number_at m ws1 o ≡ number_at m ws o + entries_at o (effect_entry m ws f)
  numbers_after l th ws ws1 t Refused h on o known = cc
  numbers_after l th ws ws1 t (Marks x) h on o known = let e : ws1 ≡ ws = cc in let q = ap (λ z. number_at m z o) e in omega arith
  numbers_after l th ws ws1 t (Loads c f) h on o known = let r = load_inv ws f (slice_get ws c) ws1 t on in let q = ap (λ z. number_at m z o) r.2 in omega arith
  numbers_after l th ws ws1 t (Stores c v x) h on o known =
      let r = change_inv ws c (λ _. Becomes v (pos 0) x) (slice_get ws c) ws1 t on in
      let ne : m.place o ≢ c = omega (arith, h.1, law.following o known) in
      let q = ap m.number (ap (λ z. slice_index z (m.place o)) r.5 ∙ get_or-set_other ws c (m.place o) r.1 0 ne) in omega arith
  numbers_after l th ws ws1 t (Operates e f) h on o known =
      let at = m.place e.obj in
      let entry : Noted = record { entry = e; number = number_at m ws e.obj } in
      let r = change_inv ws at f (slice_get ws at) ws1 t on in
      ⊎_elim
      (λ (eq : o ≡ e.obj).
      let d = (draws m law l th ws ws1 t (Operates e f) h on).0 in
      let a = ap (number_at m ws1) eq in
      let b = ap (number_at m ws) eq in
      let c = one_here entry o (sym eq) in
      omega (arith, d.before, d.after))
      (λ (ne : o ≡ e.obj → ⊥).
      let q = ap m.number (ap (λ z. slice_index z (m.place o)) r.5 ∙ get_or-set_other ws at (m.place o) r.1 0 (λ p. ne (law.apart o e.obj known h.object p))) in
      let c = none_here entry o (λ p. ne (sym p)) in
      omega arith)
      (object_cases o e.obj)

  -- where the numbers count the entries before, they count those of the step too
  abbrev pub Counts : List Noted → List ℕ → Type 0
  Counts before ws = (o : ObjId) → m.has_object o ≡ true → number_at m ws o ≡ entries_at o before

  step_counts : (s s1 : State T) (l : Label) (before : List Noted) → stepped m s l ≡ Some s1 → Counts before s.words → Counts (before ++ added m s l) s1.words
  step_counts s s1 l before h counts o known =
      let x = steps_of m s l s1 h in
      let ws : s1.words ≡ x.words = ap (λ z. z.words) x.to in
      let on : outcome m s.words (m.effect l x.before) ≡ Leaves s1.words x.after = x.leaves ∙ ap (λ z. Leaves z x.after) (sym ws) in
      let n = numbers_after l x.before s.words s1.words x.after (m.effect l x.before) (law.effects l x.before) on o known in
      let a = ap (entries_at o) (adds_of m s l s1 x) in
      let b = entries_at-append o before (added m s l) in
      let c = counts o known in
      omega arith

  -- the entry that a step adds has the number that comes next on its object
  step_numbered : (s s1 : State T) (l : Label) (before : List Noted) → stepped m s l ≡ Some s1 → Counts before s.words → IsNumbered before (added m s l)
  step_numbered s s1 l before h counts =
      let x = steps_of m s l s1 h in
      subst (IsNumbered before) (sym (adds_of m s l s1 x)) (next_number s.words x.words x.after (m.effect l x.before) (draws m law l x.before s.words x.words x.after (m.effect l x.before) (law.effects l x.before) x.leaves) counts)
    where
      next_number : (ws ws1 : List ℕ) (t : T) (f : Effect T) → AllIn (IsDrawn m law ws ws1) (effect_entry m ws f) → Counts before ws → IsNumbered before (effect_entry m ws f)
      next_number ws ws1 t Refused d c = tt
      next_number ws ws1 t (Marks y) d c = tt
      next_number ws ws1 t (Loads i f) d c = tt
      next_number ws ws1 t (Stores i w y) d c = tt
      next_number ws ws1 t (Operates e f) d c = (c e.obj d.0.known, tt)

  pub trace_numbered : (R : List Label) (s s1 : State T) (before : List Noted) → run m R s ≡ Some s1 → Counts before s.words → IsNumbered before (trace m R s)
  trace_numbered [] s s1 before h counts = tt
  trace_numbered (u ∷ R) s s1 before h counts =
      let more = run_more m law u R s s1 h in
      let rest = trace_numbered R more.0 s1 (before ++ added m s u) more.2 (step_counts s more.0 u before more.1 counts) in
      subst (IsNumbered before) (sym (trace_more m law u R s more.0 more.1)) (numbered_append before (added m s u) (trace m R more.0) (step_numbered s more.0 u before more.1 counts) rest)

  step_length : (s s1 : State T) (l : Label) → stepped m s l ≡ Some s1 → length s1.threads ≡ length s.threads
  step_length s s1 l h =
      let x = steps_of m s l s1 h in
      ap (λ (z : State T). length z.threads) x.to ∙ length-set s.threads (label_thread l) x.after

  step_threads : (s s1 : State T) (l : Label) → stepped m s l ≡ Some s1 → AllIn (λ x. x.entry.thread < length s.threads) (added m s l)
  step_threads s s1 l h =
      ⊎_elim
      (λ p. subst (AllIn (λ x. x.entry.thread < length s.threads)) (sym p.0) tt)
      (λ p.
      let x = steps_of m s l s1 h in
      let a = slice_get_within s.threads (label_thread l) x.before x.stands in
      let b = p.2 in
      subst (AllIn (λ x. x.entry.thread < length s.threads)) (sym p.1) (omega arith, tt))
      (adds_cases m law s s1 l h)

  pub trace_threads : (R : List Label) (s s1 : State T) → run m R s ≡ Some s1 → AllIn (λ x. x.entry.thread < length s.threads) (trace m R s)
  trace_threads [] s s1 h = tt
  trace_threads (u ∷ R) s s1 h =
      let more = run_more m law u R s s1 h in
      let rest = subst (λ n. AllIn (λ x. x.entry.thread < n) (trace m R more.0)) (step_length s more.0 u more.1) (trace_threads R more.0 s1 more.2) in
      subst (AllIn (λ x. x.entry.thread < length s.threads)) (sym (trace_more m law u R s more.0 more.1)) (AllIn-append (λ x. x.entry.thread < length s.threads) (added m s u) (trace m R more.0) (step_threads s more.0 u more.1) rest)

  -- from a state in which no object has had an operation, the written merge of a run's lists is a merge of them
  pub trace_written : (R : List Label) (s s1 : State T) → run m R s ≡ Some s1 → ((o : ObjId) → m.has_object o ≡ true → number_at m s.words o ≡ 0) → IsMerge (λ t. entries_of t (trace m R s)) (written_merge (lists_from 0 (length s.threads) (trace m R s)))
  trace_written R s s1 h fresh = written_merges (length s.threads) (trace m R s) (trace_threads R s s1 h) (trace_numbered R s s1 [] h fresh)
