-- Two states whose threads are related stay so along every walk, for any machine whose labels do the same with related threads.
use Rattle.std.proofs.Common.{◌≡◌, ◌≢◌, ℕ, zero, suc, ◌-◌, ◌⊎◌, inl, inr, Bool, true, false, List, [], ◌∷◌, Option, Some, None, refl, sym, ap, subst, ◌∙◌}
use Rattle.std.specs.Prelude.{slice_get, slice_set, if◌then◌else◌, option_and_then}
use Rattle.std.proofs.lemmas.Bool.{cases_eq}
use Rattle.rr_base.proofs.Lists.{slice_get-set_other, slice_get-set_same}
use Rattle.sync_objects.specs.declared.entry.Entry.{Entry}
use Rattle.sync_objects.specs.declared.entry.Noted.{Noted}
use Rattle.run_theory.specs.Labels.{Label, Go, label_thread, label_of}
use Rattle.run_theory.specs.Same.{same_entry}
use Rattle.run_theory.specs.Steps.{Effect, Outcome, Blocked, Leaves, Machine, State, outcome, with_thread, step_of_thread, stepped, effect_entry, entry_of_thread, added, count_of, count_or_zero}
use Rattle.run_theory.specs.Walk.{if_nothing, if_only, alone, made, part, walk}

module _ {T : Type 0} (m : Machine T) (R : ℕ → T → T → Type 0) (N : ℕ → Type 0) where
  -- both leave the same words and related threads, or nothing
  abbrev pub SameOutcome : ℕ → Outcome T → Outcome T → Type 0
  SameOutcome t Blocked Blocked = Unit {0}
  SameOutcome t Blocked (Leaves vs y) = ⊥
  SameOutcome t (Leaves ws x) Blocked = ⊥
  SameOutcome t (Leaves ws x) (Leaves vs y) = (ws ≡ vs) × R t x y

  -- two effects add the same entry and do the same to all words
  pub record SameEffect (t : ℕ) (e f : Effect T) : Type 0 where
    pub entry : (ws : List ℕ) → effect_entry m ws e ≡ effect_entry m ws f
    pub leaves : (ws : List ℕ) → SameOutcome t (outcome m ws e) (outcome m ws f)

  -- related threads with this number, or none in either state
  abbrev pub SameOption : ℕ → Option T → Option T → Type 0
  SameOption t None None = N t
  SameOption t None (Some y) = ⊥
  SameOption t (Some x) None = ⊥
  SameOption t (Some x) (Some y) = R t x y

  pub record SameState (a b : State T) : Type 0 where
    pub words : a.words ≡ b.words
    pub threads : (t : ℕ) → SameOption t (slice_get a.threads t) (slice_get b.threads t)

  abbrev pub SameStates : Option (State T) → Option (State T) → Type 0
  SameStates None None = Unit {0}
  SameStates None (Some b) = ⊥
  SameStates (Some a) None = ⊥
  SameStates (Some a) (Some b) = SameState a b

  set_same : (xs ys : List T) (t : ℕ) (x y x1 y1 : T) → slice_get xs t ≡ Some x → slice_get ys t ≡ Some y → R t x1 y1 → ((u : ℕ) → SameOption u (slice_get xs u) (slice_get ys u)) → (u : ℕ) → SameOption u (slice_get (slice_set xs t x1) u) (slice_get (slice_set ys t y1) u)
  set_same xs ys t x y x1 y1 a b r h u = by (cases_eq u t)
    where
      here : SameOption t (slice_get (slice_set xs t x1) t) (slice_get (slice_set ys t y1) t)
      here = subst (λ o. SameOption t o (slice_get (slice_set ys t y1) t)) (sym (slice_get-set_same xs t x1 x a)) (subst (SameOption t (Some x1)) (sym (slice_get-set_same ys t y1 y b)) r)

      by : (u ≡ t) ⊎ (u ≢ t) → SameOption u (slice_get (slice_set xs t x1) u) (slice_get (slice_set ys t y1) u)
      by (inl same) = subst (λ n. SameOption n (slice_get (slice_set xs t x1) n) (slice_get (slice_set ys t y1) n)) (sym same) here
      by (inr ne) = subst (λ o. SameOption u o (slice_get (slice_set ys t y1) u)) (sym (slice_get-set_other xs t u x1 ne)) (subst (SameOption u (slice_get xs u)) (sym (slice_get-set_other ys t u y1 ne)) (h u))

  nothing_same : (xs ys : List Noted) (o p : Option (State T)) → xs ≡ ys → SameStates o p → SameStates (if_nothing xs o) (if_nothing ys p)
  nothing_same xs ys o p e h = subst (λ zs. SameStates (if_nothing xs o) (if_nothing zs p)) e (by xs)
    where
      by : (zs : List Noted) → SameStates (if_nothing zs o) (if_nothing zs p)
      by [] = h
      by (z ∷ zs) = tt

  only_same : (e : Entry) (xs ys : List Noted) (o p : Option (State T)) → xs ≡ ys → SameStates o p → SameStates (if_only e xs o) (if_only e ys p)
  only_same e xs ys o p is h = subst (λ zs. SameStates (if_only e xs o) (if_only e zs p)) is (by xs)
    where
      if_same : (b : Bool) → SameStates (if b then o else None) (if b then p else None)
      if_same true = h
      if_same false = tt

      by : (zs : List Noted) → SameStates (if_only e zs o) (if_only e zs p)
      by [] = tt
      by (z ∷ []) = if_same (same_entry z.entry e)
      by (z ∷ y ∷ zs) = tt

  then_same : (f : State T → Option (State T)) (o p : Option (State T)) → ((a b : State T) → SameState a b → SameStates (f a) (f b)) → SameStates o p → SameStates (option_and_then f o) (option_and_then f p)
  then_same f None None g h = tt
  then_same f None (Some b) g h = absurd h
  then_same f (Some a) None g h = absurd h
  then_same f (Some a) (Some b) g h = g a b h

  module _ (effects : (l : Label) (x y : T) → R (label_thread l) x y → SameEffect (label_thread l) (m.effect l x) (m.effect l y)) (counts : (t : ℕ) (x y : T) → R t x y → m.count x ≡ m.count y) where
    with_same : (a b : State T) (t : ℕ) (x y : T) (o p : Outcome T) → slice_get a.threads t ≡ Some x → slice_get b.threads t ≡ Some y → ((u : ℕ) → SameOption u (slice_get a.threads u) (slice_get b.threads u)) → SameOutcome t o p → SameStates (with_thread m a.threads t o) (with_thread m b.threads t p)
    with_same a b t x y Blocked Blocked f g h k = tt
    with_same a b t x y Blocked (Leaves vs y1) f g h k = absurd k
    with_same a b t x y (Leaves ws x1) Blocked f g h k = absurd k
    with_same a b t x y (Leaves ws x1) (Leaves vs y1) f g h k = record { words = k.0; threads = set_same a.threads b.threads t x y x1 y1 f g k.1 h }

    step_on : (l : Label) (a b : State T) → SameState a b → (o p : Option T) → slice_get a.threads (label_thread l) ≡ o → slice_get b.threads (label_thread l) ≡ p → SameOption (label_thread l) o p → SameStates (step_of_thread m a l o) (step_of_thread m b l p)
    step_on l a b h None None f g k = tt
    step_on l a b h None (Some y) f g k = absurd k
    step_on l a b h (Some x) None f g k = absurd k
    step_on l a b h (Some x) (Some y) f g k =
        with_same a b (label_thread l) x y (outcome m a.words (m.effect l x)) (outcome m b.words (m.effect l y)) f g h.threads
        (subst (λ ws. SameOutcome (label_thread l) (outcome m a.words (m.effect l x)) (outcome m ws (m.effect l y))) h.words ((effects l x y k).leaves a.words))

    pub step_same : (l : Label) (a b : State T) → SameState a b → SameStates (stepped m a l) (stepped m b l)
    step_same l a b h = step_on l a b h (slice_get a.threads (label_thread l)) (slice_get b.threads (label_thread l)) refl refl (h.threads (label_thread l))

    added_on : (l : Label) (ws vs : List ℕ) (o p : Option T) → ws ≡ vs → SameOption (label_thread l) o p → entry_of_thread m ws l o ≡ entry_of_thread m vs l p
    added_on l ws vs None None e k = refl
    added_on l ws vs None (Some y) e k = absurd k
    added_on l ws vs (Some x) None e k = absurd k
    added_on l ws vs (Some x) (Some y) e k = (effects l x y k).entry ws ∙ ap (λ zs. effect_entry m zs (m.effect l y)) e

    pub added_same : (l : Label) (a b : State T) → SameState a b → added m a l ≡ added m b l
    added_same l a b h = added_on l a.words b.words (slice_get a.threads (label_thread l)) (slice_get b.threads (label_thread l)) h.words (h.threads (label_thread l))

    pub alone_same : (n t : ℕ) (a b : State T) → SameState a b → SameStates (alone m n t a) (alone m n t b)
    alone_same zero t a b h = h
    alone_same (suc n) t a b h = nothing_same (added m a (Go t)) (added m b (Go t)) _ _ (added_same (Go t) a b h) (then_same (alone m n t) (stepped m a (Go t)) (stepped m b (Go t)) (alone_same n t) (step_same (Go t) a b h))

    made_same : (e : Entry) (a b : State T) → SameState a b → SameStates (made m e a) (made m e b)
    made_same e a b h = only_same e (added m a (label_of e)) (added m b (label_of e)) _ _ (added_same (label_of e) a b h) (step_same (label_of e) a b h)

    count_on : (t : ℕ) (o p : Option T) → SameOption t o p → count_or_zero m o ≡ count_or_zero m p
    count_on t None None k = refl
    count_on t None (Some y) k = absurd k
    count_on t (Some x) None k = absurd k
    count_on t (Some x) (Some y) k = counts t x y k

    pub part_same : (e : Entry) (a b : State T) → SameState a b → SameStates (part m e a) (part m e b)
    part_same e a b h =
        let n = ap (λ k. e.count - k) (count_on e.thread (slice_get a.threads e.thread) (slice_get b.threads e.thread) (h.threads e.thread)) in
        subst (λ k. SameStates (part m e a) (option_and_then (made m e) (alone m k e.thread b))) n
        (then_same (made m e) (alone m (e.count - count_of m a e.thread) e.thread a) (alone m (e.count - count_of m a e.thread) e.thread b) (made_same e) (alone_same (e.count - count_of m a e.thread) e.thread a b h))

    pub walk_same : (es : List Entry) (a b : State T) → SameState a b → SameStates (walk m es a) (walk m es b)
    walk_same [] a b h = h
    walk_same (e ∷ es) a b h = then_same (walk m es) (part m e a) (part m e b) (walk_same es) (part_same e a b h)
