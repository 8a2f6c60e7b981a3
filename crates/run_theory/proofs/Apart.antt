-- Steps of two threads that may change places in a state that isn't a race state, and what a step adds.
use Rattle.std.proofs.Common.{◌≡◌, ◌≢◌, ℕ, suc, ◌≤◌, List, [], ◌∷◌, ◌++◌, Option, Some, None, refl, sym, ap, ◌∙◌, subst, arith, ◌⊎◌, inl, inr, ⊎_elim, pos}
use Rattle.std.specs.Prelude.{slice_get, slice_set, slice_index, option_and_then}
use Rattle.std.proofs.lemmas.List.{get_or-set_other, get_or-set_same}
use Rattle.std.proofs.lemmas.Option.{get_or_from_slice_get, slice_get_within}
use Rattle.sync_objects.specs.declared.entry.Entry.{Entry}
use Rattle.sync_objects.specs.declared.entry.Noted.{Noted}
use Rattle.sync_objects.specs.declared.object.ObjId.{ObjId}
use Rattle.sync_objects.specs.declared.object.ObjId.TheVariants.{Weak, Mutex}
use Rattle.sync_objects.specs.declared.operation.OpName.{OpName}
use Rattle.sync_objects.specs.declared.operation.OpName.TheVariants.{Revoke as RevokeOp, Stop as StopOp, Close as CloseOp, Lock}
use Rattle.run_theory.specs.Labels.{Label, Go, label_thread, label_of, operation_label, revoke_label}
use Rattle.run_theory.specs.Steps.{Becomes, Leaves, Effect, Refused, Marks, Loads, Stores, Operates, Machine, State, outcome, stepped, added, effect_entry, number_at, run, trace, trace_on, entries_of}
use Rattle.run_theory.specs.Laws.{Conflict, access_of, IsLawfulEffect, IsLawful, IsRaceState, IsRaceFree}
use Rattle.run_theory.proofs.Lists.{slice_get-set_other, AllIn, IsFirst, own_out}
use Rattle.run_theory.proofs.Swap.{Apart, touch, Steps, steps_of, of_steps, swap_steps, adds_of, load_inv, change_inv}

revoke_thread : (t : ℕ) (o : ObjId) → label_thread (revoke_label t o) ≡ t
revoke_thread t (Weak lock stripe) = refl
revoke_thread t (Mutex c) = refl
revoke_thread t _ = refl

operation_thread : (t : ℕ) (op : OpName) (o : ObjId) → label_thread (operation_label t op o) ≡ t
operation_thread t RevokeOp o = revoke_thread t o
operation_thread t StopOp o = refl
operation_thread t CloseOp o = refl
operation_thread t Lock o = refl
operation_thread t _ o = refl

-- the label of an entry is one of its thread
pub thread_of_label : (e : Entry) (l : Label) → label_of e ≡ l → e.thread ≡ label_thread l
thread_of_label e l h = sym (operation_thread e.thread e.op e.obj) ∙ ap label_thread h

-- both operate, on two objects, or not both operate
abbrev pub Differ : {T : Type 0} → Effect T → Effect T → Type 0
Differ (Operates e f) (Operates e2 f2) = e.obj ≢ e2.obj
Differ _ _ = Unit {0}

module _ {T : Type 0} (m : Machine T) where
  Apart-sym : (e f : Effect T) → Apart (touch m e) (touch m f) → Apart (touch m f) (touch m e)
  Apart-sym Refused Refused h = tt
  Apart-sym (Marks th) Refused h = tt
  Apart-sym (Loads c f) (Stores d v th) h = λ e. h (sym e)
  Apart-sym (Loads c f) (Operates e g) h = λ e. h (sym e)
  Apart-sym (Stores c v th) (Loads d g) h = λ e. h (sym e)
  Apart-sym (Stores c v th) (Stores d w th2) h = λ e. h (sym e)
  Apart-sym (Stores c v th) (Operates e g) h = λ e. h (sym e)
  Apart-sym (Operates e f) (Loads d g) h = λ e. h (sym e)
  Apart-sym (Operates e f) (Stores d w th2) h = λ e. h (sym e)
  Apart-sym (Operates e f) (Operates e2 g) h = λ e. h (sym e)
  Apart-sym _ _ h = tt

  -- a step changes no word of an object that it is apart from
  entry_same : (ws ws1 : List ℕ) (t : T) (e f : Effect T) → Apart (touch m e) (touch m f) → outcome m ws e ≡ Leaves ws1 t → effect_entry m ws1 f ≡ effect_entry m ws f
  entry_same ws ws1 t Refused (Operates x g) ap1 h = cc
  entry_same ws ws1 t (Marks th) (Operates x g) ap1 h = cc
  entry_same ws ws1 t (Loads c f) (Operates x g) ap1 h = let r = load_inv ws f (slice_get ws c) ws1 t h in cc
  entry_same ws ws1 t (Stores c v th) (Operates x g) ap1 h =
      let r = change_inv ws c (λ _. Becomes v (pos 0) th) (slice_get ws c) ws1 t h in
      cc (get_or-set_other ws c (m.place x.obj) r.1 0 (λ e. ap1 (sym e)))
  entry_same ws ws1 t (Operates y f) (Operates x g) ap1 h =
      let r = change_inv ws (m.place y.obj) f (slice_get ws (m.place y.obj)) ws1 t h in
      cc (get_or-set_other ws (m.place y.obj) (m.place x.obj) r.1 0 (λ e. ap1 (sym e)))
  entry_same ws ws1 t e _ ap1 h = refl

module _ {T : Type 0} (m : Machine T) (law : IsLawful m) where
  abbrev Law : Label → T → Effect T → Type 0
  Law = IsLawfulEffect m

  abbrev Step : State T → Label → State T → Type 0
  Step = Steps m

  abbrev pub Free : State T → Type 0
  Free = IsRaceFree m

  -- accesses are made by own steps
  clash_go : (a b : Label) (x y : T) (e f : Effect T) → Law a x e → Law b y f → Conflict (access_of e) (access_of f) → (a ≡ Go (label_thread a)) × (b ≡ Go (label_thread b))
  clash_go a b x y (Loads c f) (Stores d v th) h k q = (h.0, k.0)
  clash_go a b x y (Stores c v th) (Loads d f) h k q = (h.0, k.0)
  clash_go a b x y (Stores c v th) (Stores d w th2) h k q = (h.0, k.0)
  clash_go a b x y Refused Refused h k q = absurd q
  clash_go a b x y (Marks th) Refused h k q = absurd q
  clash_go a b x y (Operates e f) Refused h k q = absurd q
  clash_go a b x y _ _ h k q = absurd q

  apart_cases : (a b : Label) (x y : T) (e f : Effect T) → Law a x e → Law b y f → (Conflict (access_of e) (access_of f) → ⊥) → Differ e f → Apart (touch m e) (touch m f)
  apart_cases a b x y (Loads c f) (Stores d v th) h k q d2 = q
  apart_cases a b x y (Loads c f) (Operates e g) h k q d2 = λ eq. absurd (omega (arith, h.1, law.following e.obj k.object, eq))
  apart_cases a b x y (Stores c v th) (Loads d f) h k q d2 = q
  apart_cases a b x y (Stores c v th) (Stores d w th2) h k q d2 = q
  apart_cases a b x y (Stores c v th) (Operates e g) h k q d2 = λ eq. absurd (omega (arith, h.1, law.following e.obj k.object, eq))
  apart_cases a b x y (Operates e f) (Loads d g) h k q d2 = λ eq. absurd (omega (arith, law.following e.obj h.object, k.1, eq))
  apart_cases a b x y (Operates e f) (Stores d w th2) h k q d2 = λ eq. absurd (omega (arith, law.following e.obj h.object, k.1, eq))
  apart_cases a b x y (Operates e f) (Operates e2 g) h k q d2 = λ eq. d2 (law.apart e.obj e2.obj h.object k.object eq)
  apart_cases a b x y (Marks th) Refused h k q d2 = tt
  apart_cases a b x y Refused Refused h k q d2 = tt
  apart_cases a b x y _ _ h k q d2 = tt

  free_here : (s : State T) → Free s → IsRaceState m s → ⊥
  free_here s h r = h s ([], refl) r

  pub free_next : (s s1 : State T) (l : Label) → stepped m s l ≡ Some s1 → Free s → Free s1
  free_next s s1 l e h s2 r q = h s2 (l ∷ r.0, rw e r.1) q

  -- the two steps are apart, where the state is no race state
  apart_at : (s : State T) (a b : Label) (x y : T) → slice_get s.threads (label_thread a) ≡ Some x → slice_get s.threads (label_thread b) ≡ Some y → label_thread a ≢ label_thread b → Free s → Differ (m.effect a x) (m.effect b y) → Apart (touch m (m.effect a x)) (touch m (m.effect b y))
  apart_at s a b x y sx sy ne h d =
      apart_cases a b x y (m.effect a x) (m.effect b y) (law.effects a x) (law.effects b y) (λ q.
      let g = clash_go a b x y (m.effect a x) (m.effect b y) (law.effects a x) (law.effects b y) q in
      let q1 = subst (λ l. Conflict (access_of (m.effect l x)) (access_of (m.effect b y))) g.0 q in
      let q2 = subst (λ l. Conflict (access_of (m.effect (Go (label_thread a)) x)) (access_of (m.effect l y))) g.1 q1 in
      free_here s h (record { first = label_thread a; second = label_thread b; differ = ne; first_state = x; second_state = y; first_is = sx; second_is = sy; conflict = q2 })) d

  stands_before : (s s1 : State T) (u g : Label) (x : Step s u s1) → label_thread u ≢ label_thread g → slice_get s.threads (label_thread g) ≡ slice_get s1.threads (label_thread g)
  stands_before s s1 u g x ne =
      let ths : s1.threads ≡ slice_set s.threads (label_thread u) x.after = ap (λ z. z.threads) x.to in
      rw ths (sym (slice_get-set_other s.threads (label_thread u) (label_thread g) x.after (λ e. ne (sym e))))

  -- a step adds the same entry before and after one that it is apart from
  adds_same : (s s1 s2 s3 : State T) (u g : Label) (x : Step s u s1) (y : Step s g s2) (z : Step s1 g s3) → y.before ≡ z.before → Apart (touch m (m.effect u x.before)) (touch m (m.effect g z.before)) → added m s g ≡ added m s1 g
  adds_same s s1 s2 s3 u g x y z e ap1 =
      let ws : s1.words ≡ x.words = ap (λ z. z.words) x.to in
      let l : outcome m s.words (m.effect u x.before) ≡ Leaves s1.words x.after = rw ws x.leaves in
      let same = entry_same m s.words s1.words x.after (m.effect u x.before) (m.effect g z.before) ap1 l in
      let a = adds_of m s g s2 y in
      let b = adds_of m s1 g s3 z in
      cc

  -- the step of another thread can be made after this one
  pub swap_at : (s s1 s2 : State T) (u g : Label) (x : Step s u s1) (y : Step s1 g s2) → label_thread u ≢ label_thread g → Free s → Differ (m.effect u x.before) (m.effect g y.before) → (mid : State T) × (stepped m s g ≡ Some mid) × (stepped m mid u ≡ Some s2) × (added m s g ≡ added m s1 g) × (added m mid u ≡ added m s u)
  swap_at s s1 s2 u g x y ne h d =
      let sy = stands_before s s1 u g x ne ∙ y.stands in
      let apart = apart_at s u g x.before y.before x.stands sy ne h d in
      let z = swap_steps m s s1 s2 u g x y ne apart in
      let apart2 = subst (λ b. Apart (touch m (m.effect g b)) (touch m (m.effect u x.before))) (sym z.first_is) (Apart-sym m (m.effect u x.before) (m.effect g y.before) apart) in
      let apart3 = subst (λ b. Apart (touch m (m.effect g z.first.before)) (touch m (m.effect u b))) (sym z.second_is) apart2 in (
        z.mid,
        of_steps m s g z.mid z.first,
        of_steps m z.mid u s2 z.second,
        adds_same s s1 z.mid s2 u g x z.first y z.first_is apart,
        sym (adds_same s z.mid s1 s2 g u z.first x z.second (sym z.second_is) apart3),
      )

  -- a step that adds nothing differs from every other
  pub differ_none : (ws : List ℕ) (e f : Effect T) → effect_entry m ws f ≡ [] → Differ e f
  differ_none ws (Operates x f) (Operates y g) h = cc
  differ_none ws (Operates x f) Refused h = tt
  differ_none ws (Refused) f h = tt
  differ_none ws e f h = tt

  -- two operations, where the later one's number isn't above the earlier one's, are of two objects
  pub differ_first : (u l : Label) (x y : T) (ws ws1 : List ℕ) (t : T) (a b : Effect T) (e : Noted) → Law u x a → outcome m ws a ≡ Leaves ws1 t → AllIn (IsFirst e) (effect_entry m ws a) → effect_entry m ws1 b ≡ e ∷ [] → Differ a b
  differ_first u l x y ws ws1 t (Operates p f) (Operates q g) e h on first ad = λ eq.
      let at = m.place p.obj in
      let r = change_inv ws at f (slice_get ws at) ws1 t on in
      let n : m.number r.1 ≡ suc (m.number r.0) = (h.draws r.0 r.1 r.2 t r.4).numbered in
      let is_e : record { entry = q; number = number_at m ws1 q.obj } ≡ e = cc in
      let obj : p.obj ≡ e.entry.obj = eq ∙ ap (λ z. z.entry.obj) is_e in
      let le : e.number ≤ m.number (slice_index ws at) = first.0 obj in
      let w0 : slice_index ws at ≡ r.0 = get_or_from_slice_get ws at r.0 0 r.3 in
      let v0 : slice_index ws1 (m.place q.obj) ≡ r.1 = ap (λ z. slice_index ws1 (m.place z)) (sym eq) ∙ ap (λ z. slice_index z at) r.5 ∙ get_or-set_same ws at r.1 0 (slice_get_within ws at r.0 r.3) in
      let en : m.number (slice_index ws1 (m.place q.obj)) ≡ e.number = ap (λ z. z.number) is_e in
      let m1 : m.number (slice_index ws at) ≡ m.number r.0 = ap m.number w0 in
      let m2 : m.number (slice_index ws1 (m.place q.obj)) ≡ m.number r.1 = ap m.number v0 in
      omega arith
  differ_first u l x y ws ws1 t (Operates p f) Refused e h on first ad = tt
  differ_first u l x y ws ws1 t Refused b e h on first ad = tt
  differ_first u l x y ws ws1 t a b e h on first ad = tt

  pub run_more : (u : Label) (R : List Label) (s s1 : State T) → run m (u ∷ R) s ≡ Some s1 → (s2 : State T) × (stepped m s u ≡ Some s2) × (run m R s2 ≡ Some s1)
  run_more u R s s1 h = go (stepped m s u) h
    where
      go : (o : Option (State T)) → option_and_then (run m R) o ≡ Some s1 → (s2 : State T) × (o ≡ Some s2) × (run m R s2 ≡ Some s1)
      go None e = cc
      go (Some s2) e = (s2, refl, e)

  pub trace_more : (u : Label) (R : List Label) (s s2 : State T) → stepped m s u ≡ Some s2 → trace m (u ∷ R) s ≡ added m s u ++ trace m R s2
  trace_more u R s s2 e = ap (λ o. added m s u ++ trace_on m (trace m R) o) e

  -- a step adds one entry of its thread, or it is an own step and adds none
  adds_one : (u : Label) (x : T) (ws ws1 : List ℕ) (t : T) (f : Effect T) → Law u x f → outcome m ws f ≡ Leaves ws1 t → ((effect_entry m ws f ≡ []) × (u ≡ Go (label_thread u))) ⊎ ((e : Noted) × (effect_entry m ws f ≡ e ∷ []) × (e.entry.thread ≡ label_thread u))
  adds_one u x ws ws1 t Refused h on = cc
  adds_one u x ws ws1 t (Marks th) h on = inl (refl, h.0)
  adds_one u x ws ws1 t (Loads c f) h on = inl (refl, h.0)
  adds_one u x ws ws1 t (Stores c v th) h on = inl (refl, h.0)
  adds_one u x ws ws1 t (Operates e f) h on = inr (_, refl, thread_of_label e u h.labelled)

  pub adds_cases : (s s2 : State T) (u : Label) → stepped m s u ≡ Some s2 → ((added m s u ≡ []) × (u ≡ Go (label_thread u))) ⊎ ((e : Noted) × (added m s u ≡ e ∷ []) × (e.entry.thread ≡ label_thread u))
  adds_cases s s2 u h =
      let x = steps_of m s u s2 h in
      rw (adds_of m s u s2 x) (adds_one u x.before s.words x.words x.after (m.effect u x.before) (law.effects u x.before) x.leaves)

  pub own_apart : (t : ℕ) (s s2 : State T) (u : Label) → stepped m s u ≡ Some s2 → label_thread u ≢ t → entries_of t (added m s u) ≡ []
  own_apart t s s2 u h ne =
      ⊎_elim
      (λ p. ap (entries_of t) p.0)
      (λ p. ap (entries_of t) p.1 ∙ own_out t p.0 [] (λ q. ne (sym p.2 ∙ q)))
      (adds_cases s s2 u h)
