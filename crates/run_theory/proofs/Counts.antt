-- What a step does to its thread's count, and what the law says of the entry that it adds.
use Rattle.std.proofs.Common.{◌≡◌, ℕ, suc, true, List, [], ◌∷◌, Some, sym, ap, ◌∙◌, subst, pos}
use Rattle.std.specs.Prelude.{slice_get}
use Rattle.sync_objects.specs.declared.entry.Entry.{Entry}
use Rattle.sync_objects.specs.declared.entry.Noted.{Noted}
use Rattle.run_theory.specs.Labels.{Label, label_thread, label_of}
use Rattle.run_theory.specs.Steps.{Becomes, Leaves, Effect, Refused, Marks, Loads, Stores, Operates, Machine, State, outcome, stepped, added, effect_entry, number_at, count_or_zero, count_of}
use Rattle.run_theory.specs.Laws.{IsLawfulEffect, IsLawful, GoesOn}
use Rattle.run_theory.proofs.Lists.{slice_get-set_same}
use Rattle.run_theory.proofs.Swap.{Steps, steps_of, adds_of, load_inv, change_inv}
use Rattle.run_theory.proofs.Apart.{thread_of_label}

module _ {T : Type 0} (m : Machine T) (law : IsLawful m) where
  -- an own step that adds nothing raises the count by one, and leaves a thread that hasn't ended
  pub quiet_after : (l : Label) (th : T) (ws ws1 : List ℕ) (t : T) (f : Effect T) → IsLawfulEffect m l th f → outcome m ws f ≡ Leaves ws1 t → effect_entry m ws f ≡ [] → GoesOn m th t
  quiet_after l th ws ws1 t Refused h on no_entry = cc
  quiet_after l th ws ws1 t (Marks x) h on no_entry = let e : x ≡ t = cc in subst (GoesOn m th) e h.1
  quiet_after l th ws ws1 t (Loads c f) h on no_entry = let r = load_inv ws f (slice_get ws c) ws1 t on in subst (GoesOn m th) (sym r.3) (h.2 r.0)
  quiet_after l th ws ws1 t (Stores c v x) h on no_entry =
      let r = change_inv ws c (λ _. Becomes v (pos 0) x) (slice_get ws c) ws1 t on in
      let e : x ≡ t = cc in subst (GoesOn m th) e h.2
  quiet_after l th ws ws1 t (Operates x f) h on no_entry = cc

  pub counted : (l : Label) (s s1 : State T) → stepped m s l ≡ Some s1 → added m s l ≡ [] → count_of m s1 (label_thread l) ≡ suc (count_of m s (label_thread l))
  counted l s s1 h none =
      let x = steps_of m s l s1 h in
      let q = quiet_after l x.before s.words x.words x.after (m.effect l x.before) (law.effects l x.before) x.leaves (sym (adds_of m s l s1 x) ∙ none) in
      let a : slice_get s1.threads (label_thread l) ≡ Some x.after = ap (λ (z : State T). slice_get z.threads (label_thread l)) x.to ∙ slice_get-set_same s.threads (label_thread l) x.after x.before x.stands in
      ap (count_or_zero m) a ∙ q.counted ∙ ap (λ z. suc (count_or_zero m z)) (sym x.stands)

  -- what the law says of the entry that a step adds
  pub record EntryLaw (l : Label) (th : T) (e : Entry) : Type 0 where
    pub labelled : label_of e ≡ l
    pub of_thread : e.thread ≡ label_thread l
    pub counted : e.count ≡ m.count th
    pub object : m.has_object e.obj ≡ true

  pub entry_law : (l : Label) (th : T) (ws : List ℕ) (f : Effect T) (e : Noted) → IsLawfulEffect m l th f → effect_entry m ws f ≡ e ∷ [] → EntryLaw l th e.entry
  entry_law l th ws Refused e h q = cc
  entry_law l th ws (Marks x) e h q = cc
  entry_law l th ws (Loads c f) e h q = cc
  entry_law l th ws (Stores c v x) e h q = cc
  entry_law l th ws (Operates x f) e h q =
      let is_x : record { entry = x; number = number_at m ws x.obj } ≡ e = cc in
      let a : x ≡ e.entry = ap (λ z. z.entry) is_x in
      subst (EntryLaw l th) a (record { labelled = h.labelled; of_thread = thread_of_label x l h.labelled; counted = h.counted; object = h.object })

  -- the same of a label that adds the entry in a state
  pub entry_law_at : (s s1 : State T) (l : Label) (e : Noted) (x : Steps m s l s1) → added m s l ≡ e ∷ [] → EntryLaw l x.before e.entry
  entry_law_at s s1 l e x h = entry_law l x.before s.words (m.effect l x.before) e (law.effects l x.before) (sym (adds_of m s l s1 x) ∙ h)
