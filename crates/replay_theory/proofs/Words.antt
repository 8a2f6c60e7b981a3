-- What the words and the counts are after the first entries of a log, and words that keep their number.
use Rattle.std.proofs.Common.{◌≡◌, ◌≢◌, ℕ, ◌≤◌, true, List, [], ◌∷◌, ◌++◌, Some, refl, sym, ap, ◌∙◌, subst, arith, append_assoc, ⊎_elim, pos}
use Rattle.std.specs.Prelude.{slice_get}
use Rattle.std.proofs.lemmas.Bool.{cases_eq}
use Rattle.std.proofs.lemmas.List.{append-nil}
use Rattle.sync_objects.specs.declared.entry.Entry.{Entry}
use Rattle.sync_objects.specs.declared.entry.Noted.{Noted}
use Rattle.sync_objects.specs.declared.object.ObjId.{ObjId}
use Rattle.run_theory.specs.Labels.{Label, label_thread}
use Rattle.run_theory.specs.Laws.{IsLawfulEffect, IsLawful}
use Rattle.run_theory.specs.Merge.{entries_at}
use Rattle.run_theory.specs.Steps.{Becomes, Leaves, Effect, Refused, Marks, Loads, Stores, Operates, Machine, State, outcome, effect_entry, run, entries_of, count_of, count_or_zero, number_at}
use Rattle.run_theory.specs.Walk.{AllOf, IsPart, IsSoloRun, walk}
use Rattle.run_theory.proofs.Apart.{run_more}
use Rattle.run_theory.proofs.Counts.{entry_law_at}
use Rattle.run_theory.proofs.Lead.{kept}
use Rattle.run_theory.proofs.Lists.{AllIn, entries_of-append, own_in, own_out, slice_get-set_other, slice_get-set_same}
use Rattle.run_theory.proofs.Numbers.{IsDrawn, draws}
use Rattle.run_theory.proofs.SameEntries.{object_cases}
use Rattle.run_theory.proofs.Solo.{solo_of_walk}
use Rattle.run_theory.proofs.Swap.{steps_of, adds_of, load_inv, change_inv}
use Rattle.run_theory.proofs.Written.{entries_at-append, one_here, none_here}
use Rattle.replay_theory.specs.Following.{LeavesAtLeast}
use Rattle.replay_theory.specs.Numbered.{with_number, numbered_after}
use Rattle.replay_theory.proofs.Alone.{run_rises, step_rises}

-- the last of a list is one
last_is : {A : Type 0} (xs ys : List A) (x y : A) → xs ++ x ∷ [] ≡ ys ++ y ∷ [] → x ≡ y
last_is [] [] x y e = cc
last_is [] (b ∷ []) x y e = cc
last_is [] (b ∷ c ∷ ys) x y e = cc
last_is (a ∷ []) [] x y e = cc
last_is (a ∷ b ∷ xs) [] x y e = cc
last_is (a ∷ xs) (b ∷ ys) x y e = last_is xs ys x y cc

module _ {T : Type 0} (m : Machine T) (law : IsLawful m) where
  -- ---- a word keeps its value while its object's number stays

  word_step : (ws ws1 : List ℕ) (th t : T) (l : Label) (f : Effect T) → IsLawfulEffect m l th f → outcome m ws f ≡ Leaves ws1 t → (o : ObjId) → m.has_object o ≡ true → number_at m ws1 o ≡ number_at m ws o → slice_get ws1 (m.place o) ≡ slice_get ws (m.place o)
  word_step ws ws1 th t l Refused h on o known same = cc
  word_step ws ws1 th t l (Marks x) h on o known same = let e : ws1 ≡ ws = cc in ap (λ z. slice_get z (m.place o)) e
  word_step ws ws1 th t l (Loads c f) h on o known same = let r = load_inv ws f (slice_get ws c) ws1 t on in ap (λ z. slice_get z (m.place o)) r.2
  word_step ws ws1 th t l (Stores c v x) h on o known same =
      let r = change_inv ws c (λ _. Becomes v (pos 0) x) (slice_get ws c) ws1 t on in
      ap (λ z. slice_get z (m.place o)) r.5 ∙ slice_get-set_other ws c (m.place o) r.1 (omega (arith, h.1, law.following o known))
  word_step ws ws1 th t l (Operates e f) h on o known same =
      let r = change_inv ws (m.place e.obj) f (slice_get ws (m.place e.obj)) ws1 t on in
      ⊎_elim
      (λ (eq : o ≡ e.obj).
      let d = (draws m law l th ws ws1 t (Operates e f) h on).0 in
      let a = ap (number_at m ws1) eq in
      let b = ap (number_at m ws) eq in
      absurd (omega (arith, same, d.before, d.after, a, b)))
      (λ (ne : o ≡ e.obj → ⊥). ap (λ z. slice_get z (m.place o)) r.5 ∙ slice_get-set_other ws (m.place e.obj) (m.place o) r.1 (λ p. ne (law.apart o e.obj known h.object p)))
      (object_cases o e.obj)

  pub word_kept : (R : List Label) (s s1 : State T) → run m R s ≡ Some s1 → (o : ObjId) → m.has_object o ≡ true → number_at m s1.words o ≤ number_at m s.words o → slice_get s1.words (m.place o) ≡ slice_get s.words (m.place o)
  word_kept [] s s1 h o known no_more = let q : s1 ≡ s = cc in ap (λ (z : State T). slice_get z.words (m.place o)) q
  word_kept (u ∷ R) s s1 h o known no_more =
      let more = run_more m law u R s s1 h in
      let x = steps_of m s u more.0 more.1 in
      let ws : more.0.words ≡ x.words = ap (λ z. z.words) x.to in
      let on : outcome m s.words (m.effect u x.before) ≡ Leaves more.0.words x.after = x.leaves ∙ ap (λ z. Leaves z x.after) (sym ws) in
      let up = step_rises m law u s more.0 more.1 o known in
      let on_up = run_rises m law R more.0 s1 more.2 o known in
      word_kept R more.0 s1 more.2 o known (omega (arith, no_more, up))
      ∙ word_step s.words more.0.words x.before x.after u (m.effect u x.before) (law.effects u x.before) on o known (omega (arith, no_more, up, on_up))

  -- ---- the first entries

  -- each object has had at least as many operations as there are entries of it
  abbrev pub HasNumbers : List Noted → State T → Type 0
  HasNumbers before s = (o : ObjId) → m.has_object o ≡ true → entries_at o before ≤ number_at m s.words o

  part_numbers : (before : List Noted) (e : Entry) (s s1 : State T) → IsPart m e s s1 → HasNumbers before s → HasNumbers (before ++ with_number before e ∷ []) s1
  part_numbers before e s s1 p has o known =
      let x = with_number before e in
      let y = steps_of m p.between p.last s1 p.ends in
      let ws : s1.words ≡ y.words = ap (λ z. z.words) y.to in
      let on : outcome m p.between.words (m.effect p.last y.before) ≡ Leaves s1.words y.after = y.leaves ∙ ap (λ z. Leaves z y.after) (sym ws) in
      let ds = draws m law p.last y.before p.between.words s1.words y.after (m.effect p.last y.before) (law.effects p.last y.before) on in
      let d = (subst (AllIn (IsDrawn m law p.between.words s1.words)) (sym (adds_of m p.between p.last s1 y) ∙ p.adds) ds).0 in
      let up = run_rises m law p.before s p.between p.leads o known in
      let up1 = step_rises m law p.last p.between s1 p.ends o known in
      ⊎_elim
      (λ (eq : e.obj ≡ o).
      let a = ap (number_at m p.between.words) eq in
      let b = ap (number_at m s1.words) eq in
      omega (arith, entries_at-append o before (x ∷ []), one_here x o eq, has o known, up, d.before, d.after, a, b))
      (λ (ne : e.obj ≡ o → ⊥). omega (arith, entries_at-append o before (x ∷ []), none_here x o ne, has o known, up, up1))
      (object_cases e.obj o)

  solo_numbers : (es : List Entry) (before : List Noted) (s s1 : State T) → IsSoloRun m es s s1 → HasNumbers before s → HasNumbers (before ++ numbered_after before es) s1
  solo_numbers [] before s s1 h has = λ o known. omega (arith, has o known, ap (entries_at o) (append-nil before), ap (λ (z : State T). number_at m z.words o) h)
  solo_numbers (e ∷ es) before s s1 h has =
      let x = with_number before e in
      subst (λ z. HasNumbers z s1) (append_assoc before (x ∷ []) (numbered_after (before ++ x ∷ []) es))
      (solo_numbers es (before ++ x ∷ []) h.0 s1 h.2 (part_numbers before e s h.0 h.1 has))

  pub walk_numbers : (es : List Entry) (s s1 : State T) → walk m es s ≡ Some s1 → HasNumbers [] s → HasNumbers (numbered_after [] es) s1
  walk_numbers es s s1 h has = solo_numbers es [] s s1 (solo_of_walk m es s s1 h) has

  module _ (floor : Entry → ℕ) (leaves : LeavesAtLeast m floor) where
    -- each thread's count is at least what its last entry leaves
    abbrev pub HasFloors : List Noted → State T → Type 0
    HasFloors before s = (t : ℕ) (ys : List Noted) (y : Noted) → entries_of t before ≡ ys ++ y ∷ [] → floor y.entry ≤ count_of m s t

    left_by : (l : Label) (th t : T) (ws ws1 : List ℕ) (f : Effect T) (e : Noted) → m.effect l th ≡ f → outcome m ws f ≡ Leaves ws1 t → effect_entry m ws f ≡ e ∷ [] → floor e.entry ≤ m.count t
    left_by l th t ws ws1 Refused e is on adds = cc
    left_by l th t ws ws1 (Marks x) e is on adds = cc
    left_by l th t ws ws1 (Loads c g) e is on adds = cc
    left_by l th t ws ws1 (Stores c v x) e is on adds = cc
    left_by l th t ws ws1 (Operates x change) e is on adds =
        let r = change_inv ws (m.place x.obj) change (slice_get ws (m.place x.obj)) ws1 t on in
        let same : record { entry = x; number = number_at m ws x.obj } ≡ e = cc in
        subst (λ z. floor z ≤ m.count t) (ap (λ z. z.entry) same) (leaves l th t x change r.0 r.1 r.2 is r.4)

    -- other threads stay as they are along a part
    others_stay : (ls : List Label) (t u : ℕ) (s s1 : State T) → AllOf t ls → run m ls s ≡ Some s1 → u ≢ t → slice_get s.threads u ≡ slice_get s1.threads u
    others_stay [] t u s s1 own h ne = cc
    others_stay (l ∷ ls) t u s s1 own h ne =
        let more = run_more m law l ls s s1 h in
        kept m law s more.0 l u more.1 (λ q. ne (sym q ∙ own.0)) ∙ others_stay ls t u more.0 s1 own.1 more.2 ne

    part_floors : (before : List Noted) (e : Entry) (s s1 : State T) → IsPart m e s s1 → HasFloors before s → HasFloors (before ++ with_number before e ∷ []) s1
    part_floors before e s s1 p has t ys y is =
        let x = with_number before e in
        let z = steps_of m p.between p.last s1 p.ends in
        let k = entry_law_at m law p.between s1 p.last (record { entry = e; number = p.number }) z p.adds in
        let parts = entries_of-append t before (x ∷ []) in
        ⊎_elim
        (λ (eq : e.thread ≡ t).
        let same : x ≡ y = last_is (entries_of t before) ys x y (sym (parts ∙ ap (λ q. entries_of t before ++ q) (own_in t x [] eq)) ∙ is) in
        let stands : slice_get s1.threads t ≡ Some z.after = ap (slice_get s1.threads) (sym eq ∙ k.of_thread) ∙ ap (λ (q : State T). slice_get q.threads (label_thread p.last)) z.to ∙ slice_get-set_same p.between.threads (label_thread p.last) z.after z.before z.stands in
        let low = left_by p.last z.before z.after p.between.words z.words (m.effect p.last z.before) (record { entry = e; number = p.number }) refl z.leaves (sym (adds_of m p.between p.last s1 z) ∙ p.adds) in
        subst (λ q. floor q ≤ count_of m s1 t) (ap (λ q. q.entry) same) (omega (arith, low, ap (count_or_zero m) stands)))
        (λ (ne : e.thread ≡ t → ⊥).
        let before_is : entries_of t before ≡ ys ++ y ∷ [] = sym (append-nil (entries_of t before)) ∙ sym (parts ∙ ap (λ q. entries_of t before ++ q) (own_out t x [] ne)) ∙ is in
        let stay = others_stay p.before e.thread t s p.between p.own p.leads (λ q. ne (sym q)) ∙ kept m law p.between s1 p.last t p.ends (λ q. ne (k.of_thread ∙ q)) in
        omega (arith, has t ys y before_is, ap (count_or_zero m) stay))
        (cases_eq e.thread t)

    solo_floors : (es : List Entry) (before : List Noted) (s s1 : State T) → IsSoloRun m es s s1 → HasFloors before s → HasFloors (before ++ numbered_after before es) s1
    solo_floors [] before s s1 h has = subst (HasFloors (before ++ [])) h (subst (λ z. HasFloors z s) (sym (append-nil before)) has)
    solo_floors (e ∷ es) before s s1 h has =
        let x = with_number before e in
        subst (λ z. HasFloors z s1) (append_assoc before (x ∷ []) (numbered_after (before ++ x ∷ []) es))
        (solo_floors es (before ++ x ∷ []) h.0 s1 h.2 (part_floors before e s h.0 h.1 has))

    no_last : (ys : List Noted) (y : Noted) → [] ≡ ys ++ y ∷ [] → ⊥
    no_last [] y e = cc
    no_last (z ∷ ys) y e = cc

    pub walk_floors : (es : List Entry) (s s1 : State T) → walk m es s ≡ Some s1 → HasFloors (numbered_after [] es) s1
    walk_floors es s s1 h = solo_floors es [] s s1 (solo_of_walk m es s s1 h) (λ t ys y is. absurd (no_last ys y is))
