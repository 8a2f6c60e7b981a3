-- Numbers of objects never fall, and each entry has the number that its object had before it.
use Rattle.std.proofs.Common.{◌≡◌, ◌≢◌, ℕ, suc, ◌≤◌, true, List, [], ◌∷◌, Some, refl, sym, ap, ◌∙◌, subst, arith, ⊎_elim, pos}
use Rattle.std.specs.Prelude.{slice_get, slice_index}
use Rattle.std.proofs.lemmas.List.{get_or-set_other, get_or-set_same}
use Rattle.std.proofs.lemmas.Option.{get_or_from_slice_get, slice_get_within}
use Rattle.sync_objects.specs.declared.entry.Noted.{Noted}
use Rattle.sync_objects.specs.declared.object.ObjId.{ObjId}
use Rattle.run_theory.specs.Labels.{Label}
use Rattle.run_theory.specs.Steps.{Becomes, Leaves, Effect, Refused, Marks, Loads, Stores, Operates, Machine, State, outcome, effect_entry, number_at, run, trace}
use Rattle.run_theory.specs.Laws.{IsLawfulEffect, IsLawful}
use Rattle.run_theory.proofs.Lists.{AllIn, AllIn-append, AllIn-map}
use Rattle.run_theory.proofs.SameEntries.{object_cases}
use Rattle.run_theory.proofs.Swap.{steps_of, adds_of, load_inv, change_inv}
use Rattle.run_theory.proofs.Apart.{run_more, trace_more}

module _ {T : Type 0} (m : Machine T) (law : IsLawful m) where
  -- a step raises the number of its own object by one, and no other
  pub rises : (l : Label) (th : T) (ws ws1 : List ℕ) (t : T) (f : Effect T) → IsLawfulEffect m l th f → outcome m ws f ≡ Leaves ws1 t → (o : ObjId) → m.has_object o ≡ true → number_at m ws o ≤ number_at m ws1 o
  rises l th ws ws1 t Refused h on o known = cc
  rises l th ws ws1 t (Marks x) h on o known = let e : ws1 ≡ ws = cc in let q = ap (λ z. number_at m z o) e in omega arith
  rises l th ws ws1 t (Loads c f) h on o known = let r = load_inv ws f (slice_get ws c) ws1 t on in let q = ap (λ z. number_at m z o) r.2 in omega arith
  rises l th ws ws1 t (Stores c v x) h on o known =
      let r = change_inv ws c (λ _. Becomes v (pos 0) x) (slice_get ws c) ws1 t on in
      let ne : m.place o ≢ c = omega (arith, h.1, law.following o known) in
      let q = ap m.number (ap (λ z. slice_index z (m.place o)) r.5 ∙ get_or-set_other ws c (m.place o) r.1 0 ne) in omega arith
  rises l th ws ws1 t (Operates e f) h on o known =
      let at = m.place e.obj in
      let r = change_inv ws at f (slice_get ws at) ws1 t on in
      ⊎_elim
      (λ (eq : o ≡ e.obj).
      let n : m.number r.1 ≡ suc (m.number r.0) = (h.draws r.0 r.1 r.2 t r.4).numbered in
      let b : slice_index ws (m.place o) ≡ r.0 = ap (λ z. slice_index ws (m.place z)) eq ∙ get_or_from_slice_get ws at r.0 0 r.3 in
      let a : slice_index ws1 (m.place o) ≡ r.1 = ap (λ z. slice_index ws1 (m.place z)) eq ∙ ap (λ z. slice_index z at) r.5 ∙ get_or-set_same ws at r.1 0 (slice_get_within ws at r.0 r.3) in
      let a1 = ap m.number a in let b1 = ap m.number b in omega arith)
      (λ (ne : o ≡ e.obj → ⊥).
      let q = ap m.number (ap (λ z. slice_index z (m.place o)) r.5 ∙ get_or-set_other ws at (m.place o) r.1 0 (λ p. ne (law.apart o e.obj known h.object p))) in omega arith)
      (object_cases o e.obj)

  -- the entry of a step has its object's number, which is one more after it
  pub record IsDrawn (ws ws1 : List ℕ) (x : Noted) : Type 0 where
    pub known : m.has_object x.entry.obj ≡ true
    pub before : number_at m ws x.entry.obj ≡ x.number
    pub after : number_at m ws1 x.entry.obj ≡ suc x.number

  pub draws : (l : Label) (th : T) (ws ws1 : List ℕ) (t : T) (f : Effect T) → IsLawfulEffect m l th f → outcome m ws f ≡ Leaves ws1 t → AllIn (IsDrawn ws ws1) (effect_entry m ws f)
  draws l th ws ws1 t Refused h on = tt
  draws l th ws ws1 t (Operates e f) h on =
      let at = m.place e.obj in
      let r = change_inv ws at f (slice_get ws at) ws1 t on in
      let n : m.number r.1 ≡ suc (m.number r.0) = (h.draws r.0 r.1 r.2 t r.4).numbered in
      let b : slice_index ws at ≡ r.0 = get_or_from_slice_get ws at r.0 0 r.3 in
      let a : slice_index ws1 at ≡ r.1 = ap (λ z. slice_index z at) r.5 ∙ get_or-set_same ws at r.1 0 (slice_get_within ws at r.0 r.3) in
      (record { known = h.object; before = refl; after = ap m.number a ∙ n ∙ ap (λ z. suc (m.number z)) (sym b) }, tt)
  draws l th ws ws1 t f h on = tt

  -- an entry that comes after these words
  pub record IsLater (ws : List ℕ) (x : Noted) : Type 0 where
    pub known : m.has_object x.entry.obj ≡ true
    pub below : number_at m ws x.entry.obj ≤ x.number

  pub later : (R : List Label) (s s1 : State T) → run m R s ≡ Some s1 → AllIn (IsLater s.words) (trace m R s)
  later [] s s1 h = tt
  later (u ∷ R) s s1 h =
      let more = run_more m law u R s s1 h in
      let x = steps_of m s u more.0 more.1 in
      let ws : more.0.words ≡ x.words = ap (λ z. z.words) x.to in
      let on : outcome m s.words (m.effect u x.before) ≡ Leaves more.0.words x.after = x.leaves ∙ ap (λ z. Leaves z x.after) (sym ws) in
      let up = rises u x.before s.words more.0.words x.after (m.effect u x.before) (law.effects u x.before) on in
      let d = draws u x.before s.words more.0.words x.after (m.effect u x.before) (law.effects u x.before) on in
      let here = AllIn-map (IsDrawn s.words more.0.words) (IsLater s.words) _ (λ y q. record { known = q.known; below = omega (arith, q.before) }) d in
      let rest = AllIn-map (IsLater more.0.words) (IsLater s.words) _ (λ y q. record { known = q.known; below = omega (arith, q.below, up y.entry.obj q.known) }) (later R more.0 s1 more.2) in
      subst (AllIn (IsLater s.words)) (sym (trace_more m law u R s more.0 more.1)) (AllIn-append (IsLater s.words) _ _ (subst (AllIn (IsLater s.words)) (sym (adds_of m s u more.0 x)) here) rest)
