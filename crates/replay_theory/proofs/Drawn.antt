-- How many operations an object can have had, where the thread of a log's entry hasn't made it.
use Rattle.std.proofs.Common.{◌≡◌, ℕ, suc, ◌<◌, ◌≤◌, true, List, [], ◌∷◌, ◌++◌, Some, refl, sym, ap, ◌∙◌, subst, arith, append_assoc, ⊎_elim, inl, inr, ◌⊎◌, pos}
use Rattle.std.specs.Prelude.{slice_get, slice_index}
use Rattle.std.proofs.lemmas.Bool.{cases_eq, cases_lt}
use Rattle.std.proofs.lemmas.List.{get_or-set_other}
use Rattle.sync_objects.specs.declared.entry.Entry.{Entry}
use Rattle.sync_objects.specs.declared.entry.Noted.{Noted}
use Rattle.sync_objects.specs.declared.object.ObjId.{ObjId}
use Rattle.run_theory.specs.Labels.{Label}
use Rattle.run_theory.specs.Laws.{IsLawfulEffect, IsLawful}
use Rattle.run_theory.specs.Merge.{entries_at}
use Rattle.run_theory.specs.Steps.{Becomes, Leaves, Effect, Refused, Marks, Loads, Stores, Operates, Machine, State, outcome, stepped, added, effect_entry, run, trace, entries_of, number_at}
use Rattle.run_theory.proofs.Apart.{run_more, trace_more}
use Rattle.run_theory.proofs.Lists.{AllIn, own_in, own_out}
use Rattle.run_theory.proofs.Numbers.{draws}
use Rattle.run_theory.proofs.SameEntries.{object_cases}
use Rattle.run_theory.proofs.Swap.{steps_of, adds_of, load_inv, change_inv}
use Rattle.run_theory.proofs.Written.{entries_at-append, one_here}
use Rattle.replay_theory.specs.Following.{Follows, IsFresh}
use Rattle.replay_theory.specs.Numbered.{numbered, numbered_after, with_number}
use Rattle.replay_theory.proofs.Numbers.{IsAfter, are_after, numbered-append}

-- one of the entries
abbrev pub IsIn : Noted → List Noted → Type 0
IsIn y [] = ⊥
IsIn y (x ∷ xs) = (x ≡ y) ⊎ IsIn y xs

in_front : (y : Noted) (xs ys : List Noted) → IsIn y xs → IsIn y (xs ++ ys)
in_front y [] ys h = absurd h
in_front y (x ∷ xs) ys (inl e) = inl e
in_front y (x ∷ xs) ys (inr h) = inr (in_front y xs ys h)

in_back : (y : Noted) (xs ys : List Noted) → IsIn y ys → IsIn y (xs ++ ys)
in_back y [] ys h = h
in_back y (x ∷ xs) ys h = inr (in_back y xs ys h)

pub of_all : (P : Noted → Type 0) (y : Noted) (xs : List Noted) → AllIn P xs → IsIn y xs → P y
of_all P y [] h q = absurd q
of_all P y (x ∷ xs) h (inl e) = subst P e h.0
of_all P y (x ∷ xs) h (inr q) = of_all P y xs h.1 q

module _ {T : Type 0} (m : Machine T) (law : IsLawful m) where
  -- a step that raises an object's number adds the entry with that number
  raised_by : (ws ws1 : List ℕ) (th t : T) (l : Label) (f : Effect T) → IsLawfulEffect m l th f → outcome m ws f ≡ Leaves ws1 t → (o : ObjId) → m.has_object o ≡ true → number_at m ws o < number_at m ws1 o → (y : Noted) × (effect_entry m ws f ≡ y ∷ []) × (y.entry.obj ≡ o) × (y.number ≡ number_at m ws o) × (number_at m ws1 o ≡ suc (number_at m ws o))
  raised_by ws ws1 th t l Refused h on o known up = cc
  raised_by ws ws1 th t l (Marks x) h on o known up = let e : ws1 ≡ ws = cc in absurd (omega (arith, up, ap (λ z. number_at m z o) e))
  raised_by ws ws1 th t l (Loads c g) h on o known up = let r = load_inv ws g (slice_get ws c) ws1 t on in absurd (omega (arith, up, ap (λ z. number_at m z o) r.2))
  raised_by ws ws1 th t l (Stores c v x) h on o known up =
      let r = change_inv ws c (λ _. Becomes v (pos 0) x) (slice_get ws c) ws1 t on in
      absurd (omega (arith, up, ap m.number (ap (λ z. slice_index z (m.place o)) r.5 ∙ get_or-set_other ws c (m.place o) r.1 0 (omega (arith, h.1, law.following o known)))))
  raised_by ws ws1 th t l (Operates e change) h on o known up =
      let r = change_inv ws (m.place e.obj) change (slice_get ws (m.place e.obj)) ws1 t on in
      ⊎_elim
      (λ (eq : o ≡ e.obj).
      let d = (draws m law l th ws ws1 t (Operates e change) h on).0 in
      let a = ap (number_at m ws) eq in
      let b = ap (number_at m ws1) eq in
      (record { entry = e; number = number_at m ws e.obj }, refl, sym eq, omega (arith, a), omega (arith, a, b, d.before, d.after)))
      (λ (ne : o ≡ e.obj → ⊥). absurd (omega (arith, up, ap m.number (ap (λ z. slice_index z (m.place o)) r.5 ∙ get_or-set_other ws (m.place e.obj) (m.place o) r.1 0 (λ p. ne (law.apart o e.obj known h.object p))))))
      (object_cases o e.obj)

  -- a number that an object has gone past was drawn by an entry
  pub drawn : (R : List Label) (s s1 : State T) (o : ObjId) (k : ℕ) → run m R s ≡ Some s1 → m.has_object o ≡ true → number_at m s.words o ≤ k → k < number_at m s1.words o → (y : Noted) × IsIn y (trace m R s) × (y.entry.obj ≡ o) × (y.number ≡ k)
  drawn [] s s1 o k h known low high = let q : s ≡ s1 = cc in absurd (omega (arith, low, high, ap (λ (z : State T). number_at m z.words o) q))
  drawn (u ∷ R) s s1 o k h known low high = go (cases_lt k (number_at m more.0.words o)) (λ q. drawn R more.0 s1 o k more.2 known q high)
    where
      more : (s2 : State T) × (stepped m s u ≡ Some s2) × (run m R s2 ≡ Some s1)
      more = run_more m law u R s s1 h

      go : (k < number_at m more.0.words o) ⊎ (number_at m more.0.words o ≤ k) → (number_at m more.0.words o ≤ k → (y : Noted) × IsIn y (trace m R more.0) × (y.entry.obj ≡ o) × (y.number ≡ k)) → (y : Noted) × IsIn y (trace m (u ∷ R) s) × (y.entry.obj ≡ o) × (y.number ≡ k)
      go (inr q) again =
          let r = again q in
          (r.0, subst (IsIn r.0) (sym (trace_more m law u R s more.0 more.1)) (in_back r.0 (added m s u) (trace m R more.0) r.1), r.2, r.3)
      go (inl q) again =
          let x = steps_of m s u more.0 more.1 in
          let ws : more.0.words ≡ x.words = ap (λ z. z.words) x.to in
          let on : outcome m s.words (m.effect u x.before) ≡ Leaves more.0.words x.after = x.leaves ∙ ap (λ z. Leaves z x.after) (sym ws) in
          let r = raised_by s.words more.0.words x.before x.after u (m.effect u x.before) (law.effects u x.before) on o known (omega (arith, low, q)) in
          (r.0, subst (IsIn r.0) (sym (trace_more m law u R s more.0 more.1 ∙ ap (λ z. z ++ trace m R more.0) (adds_of m s u more.0 x ∙ r.1))) (inl refl), r.2, omega (arith, r.3, r.4, low, q))

-- the numbers of a log's first entries are below that of the next
abbrev pub IsBelow : List Noted → Noted → Type 0
IsBelow before y = y.number < entries_at y.entry.obj before

below_more : (before more : List Noted) (y : Noted) → IsBelow before y → IsBelow (before ++ more) y
below_more before more y h = omega (arith, h, entries_at-append y.entry.obj before more)

pub are_below : (es : List Entry) (before : List Noted) → AllIn (IsBelow (before ++ numbered_after before es)) (numbered_after before es)
are_below [] before = tt
are_below (e ∷ es) before =
    let x = with_number before e in
    let rest = numbered_after (before ++ x ∷ []) es in
    let whole : before ++ x ∷ rest ≡ (before ++ x ∷ []) ++ rest = sym (append_assoc before (x ∷ []) rest) in
    let here : IsBelow (before ++ x ∷ []) x = omega (arith, entries_at-append e.obj before (x ∷ []), one_here x e.obj refl) in
    subst (λ z. AllIn (IsBelow z) (x ∷ rest)) (sym whole) (below_more (before ++ x ∷ []) rest x here, are_below es (before ++ x ∷ []))

-- no entry of the front has the number of the next one, and of those from it on it alone has
not_in_front : (front : List Entry) (e : Entry) (y : Noted) → IsIn y (numbered front) → y.entry.obj ≡ e.obj → y.number ≡ entries_at e.obj (numbered front) → ⊥
not_in_front front e y here same number =
    let low = of_all (IsBelow ([] ++ numbered front)) y (numbered front) (are_below front []) here in
    omega (arith, low, number, ap (λ o. entries_at o (numbered front)) same)

in_parts : (y : Noted) (xs ys : List Noted) → IsIn y (xs ++ ys) → IsIn y xs ⊎ IsIn y ys
in_parts y [] ys h = inr h
in_parts y (x ∷ xs) ys (inl e) = inl (inl e)
in_parts y (x ∷ xs) ys (inr h) = ⊎_elim (λ a. inl (inr a)) (λ b. inr b) (in_parts y xs ys h)

is_next : (front back : List Entry) (e : Entry) (y : Noted) → IsIn y (numbered (front ++ e ∷ back)) → y.entry.obj ≡ e.obj → y.number ≡ entries_at e.obj (numbered front) → y ≡ with_number (numbered front) e
is_next front back e y here same number = go (in_parts y (numbered front) (numbered_after (numbered front) (e ∷ back)) (subst (IsIn y) (numbered-append [] front (e ∷ back)) here))
  where
    x : Noted
    x = with_number (numbered front) e

    go : IsIn y (numbered front) ⊎ IsIn y (numbered_after (numbered front) (e ∷ back)) → y ≡ x
    go (inl h) = absurd (not_in_front front e y h same number)
    go (inr (inl h)) = sym h
    go (inr (inr h)) =
        let high = of_all (IsAfter (numbered front ++ x ∷ [])) y (numbered_after (numbered front ++ x ∷ []) back) (are_after (numbered front ++ x ∷ []) back) h in
        absurd (omega (arith, high, number, ap (λ o. entries_at o (numbered front ++ x ∷ [])) same, entries_at-append e.obj (numbered front) (x ∷ []), one_here x e.obj refl))

-- an entry is in its thread's list
in_own : (y : Noted) (xs : List Noted) → IsIn y xs → IsIn y (entries_of y.entry.thread xs)
in_own y [] h = absurd h
in_own y (x ∷ xs) (inl e) = subst (λ z. IsIn y (entries_of z (x ∷ xs))) (ap (λ z. z.entry.thread) e) (subst (IsIn y) (sym (own_in x.entry.thread x xs refl)) (inl e))
in_own y (x ∷ xs) (inr h) = ⊎_elim
    (λ (q : x.entry.thread ≡ y.entry.thread). subst (IsIn y) (sym (own_in y.entry.thread x xs q)) (inr (in_own y xs h)))
    (λ (ne : x.entry.thread ≡ y.entry.thread → ⊥). subst (IsIn y) (sym (own_out y.entry.thread x xs ne)) (in_own y xs h))
    (cases_eq x.entry.thread y.entry.thread)

of_own : (t : ℕ) (y : Noted) (xs : List Noted) → IsIn y (entries_of t xs) → IsIn y xs
of_own t y [] h = h
of_own t y (x ∷ xs) h = ⊎_elim
    (λ (q : x.entry.thread ≡ t). go (λ k. of_own t y xs k) (subst (IsIn y) (own_in t x xs q) h))
    (λ (ne : x.entry.thread ≡ t → ⊥). inr (of_own t y xs (subst (IsIn y) (own_out t x xs ne) h)))
    (cases_eq x.entry.thread t)
  where
    go : (IsIn y (entries_of t xs) → IsIn y xs) → IsIn y (x ∷ entries_of t xs) → IsIn y (x ∷ xs)
    go again (inl e) = inl e
    go again (inr k) = inr (again k)

module _ {T : Type 0} (m : Machine T) (law : IsLawful m) where
  -- the object of an entry that its thread hasn't made has had no more operations than come before it
  pub no_more_numbers : (front back : List Entry) (e : Entry) (R : List Label) (s s1 : State T) → run m R s ≡ Some s1 → IsFresh m s → Follows m (front ++ e ∷ back) R s → entries_of e.thread (trace m R s) ≡ entries_of e.thread (numbered front) → (o : ObjId) → o ≡ e.obj → m.has_object o ≡ true → number_at m s1.words o ≤ entries_at o (numbered front)
  no_more_numbers front back e R s s1 h fresh follows own o is known = ⊎_elim (λ more. absurd (never more)) (λ q. q) (cases_lt (entries_at o (numbered front)) (number_at m s1.words o))
    where
      never : entries_at o (numbered front) < number_at m s1.words o → ⊥
      never more =
          let d = drawn m law R s s1 o (entries_at o (numbered front)) h known (omega (arith, fresh o known)) more in
          let t = d.0.entry.thread in
          let listed = in_own d.0 (trace m R s) d.1 in
          let logged = of_own t d.0 (numbered (front ++ e ∷ back)) (subst (IsIn d.0) (follows t).1 (in_front d.0 (entries_of t (trace m R s)) (follows t).0 listed)) in
          let same = d.2 ∙ is in
          let number = d.3 ∙ ap (λ z. entries_at z (numbered front)) is in
          let next = is_next front back e d.0 logged same number in
          let of_e : IsIn d.0 (entries_of e.thread (trace m R s)) = subst (λ z. IsIn d.0 (entries_of z (trace m R s))) (ap (λ z. z.entry.thread) next) listed in
          not_in_front front e d.0 (of_own e.thread d.0 (numbered front) (subst (IsIn d.0) own of_e)) same number
