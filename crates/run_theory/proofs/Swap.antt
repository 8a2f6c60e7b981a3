-- Two neighbouring steps of two threads that don't touch one word, or only read it, can change places.
use Rattle.std.proofs.Common.{◌≡◌, ◌≢◌, ℕ, List, Option, Some, None, refl, sym, ap, ◌∙◌, ℤ, pos}
use Rattle.std.specs.Prelude.{slice_get, slice_set}
use Rattle.std.proofs.lemmas.List.{set_comm}
use Rattle.run_theory.specs.Labels.{Label, label_thread}
use Rattle.run_theory.specs.Steps.{Change, NotAllowed, Becomes, Outcome, Blocked, Leaves, Effect, Refused, Marks, Loads, Stores, Operates, Machine, State, load_outcome, changed_outcome, change_outcome, outcome, with_thread, step_of_thread, stepped, effect_entry, added}
use Rattle.run_theory.proofs.Lists.{slice_get-set_other}

-- an effect, by what it does to words alone
pub data Touch (T : Type 0) : Type 0 where
  Never : Touch T
  Alone : T → Touch T
  Reads : ℕ → (ℕ → T) → Touch T
  Changes : ℕ → (ℕ → Change T) → Touch T

abbrev pub touched : {T : Type 0} → List ℕ → Touch T → Outcome T
touched ws Never = Blocked
touched ws (Alone th) = Leaves ws th
touched ws (Reads i f) = load_outcome ws f (slice_get ws i)
touched ws (Changes i f) = change_outcome ws i f (slice_get ws i)

-- two effects that don't touch one word, or only read it
abbrev pub Apart : {T : Type 0} → Touch T → Touch T → Type 0
Apart (Reads i f) (Changes j g) = i ≢ j
Apart (Changes i f) (Reads j g) = i ≢ j
Apart (Changes i f) (Changes j g) = i ≢ j
Apart _ _ = Unit {0}

pub load_inv : {T : Type 0} (ws : List ℕ) (f : ℕ → T) (o : Option ℕ) (ws1 : List ℕ) (t : T) → load_outcome ws f o ≡ Leaves ws1 t → (w : ℕ) × (o ≡ Some w) × (ws1 ≡ ws) × (t ≡ f w)
load_inv ws f None ws1 t e = cc
load_inv ws f (Some w) ws1 t e = (w, refl, cc, cc)

changed_inv : {T : Type 0} (ws : List ℕ) (i : ℕ) (o : Change T) (ws1 : List ℕ) (t : T) → changed_outcome ws i o ≡ Leaves ws1 t → (w : ℕ) × (answer : ℤ) × (o ≡ Becomes w answer t) × (ws1 ≡ slice_set ws i w)
changed_inv ws i NotAllowed ws1 t e = cc
changed_inv ws i (Becomes w answer th) ws1 t e = (w, answer, cc, cc)

pub change_inv : {T : Type 0} (ws : List ℕ) (i : ℕ) (f : ℕ → Change T) (o : Option ℕ) (ws1 : List ℕ) (t : T) → change_outcome ws i f o ≡ Leaves ws1 t → (w : ℕ) × (v : ℕ) × (answer : ℤ) × (o ≡ Some w) × (f w ≡ Becomes v answer t) × (ws1 ≡ slice_set ws i v)
change_inv ws i f None ws1 t e = cc
change_inv ws i f (Some w) ws1 t e = let q = changed_inv ws i (f w) ws1 t e in (w, q.0, q.1, refl, q.2, q.3)

pub change_is : {T : Type 0} (ws : List ℕ) (i w v : ℕ) (answer : ℤ) (f : ℕ → Change T) (o : Option ℕ) (t : T) → o ≡ Some w → f w ≡ Becomes v answer t → change_outcome ws i f o ≡ Leaves (slice_set ws i v) t
change_is ws i w v answer f o t a b = rw (a, b)

pub load_is : {T : Type 0} (ws : List ℕ) (w : ℕ) (f : ℕ → T) (o : Option ℕ) → o ≡ Some w → load_outcome ws f o ≡ Leaves ws (f w)
load_is ws w f o a = rw a

-- what the two steps do to the words, in either order
words_swap : {T : Type 0} (ws ws1 ws2 : List ℕ) (e f : Touch T) (t u : T) → Apart e f → touched ws e ≡ Leaves ws1 t → touched ws1 f ≡ Leaves ws2 u → (mid : List ℕ) × (touched ws f ≡ Leaves mid u) × (touched mid e ≡ Leaves ws2 t)
words_swap ws ws1 ws2 Never f t u ap1 a b = cc
words_swap ws ws1 ws2 (Alone th) f t u ap1 a b =
    let e1 : ws ≡ ws1 = cc in (ws2, rw e1 b, cc)
words_swap ws ws1 ws2 (Reads i f) Never t u ap1 a b = cc
words_swap ws ws1 ws2 (Reads i f) (Alone th) t u ap1 a b =
    let r = load_inv ws f (slice_get ws i) ws1 t a in (ws, cc, cc)
words_swap ws ws1 ws2 (Reads i f) (Reads j g) t u ap1 a b =
    let r = load_inv ws f (slice_get ws i) ws1 t a in
    let q = load_inv ws1 g (slice_get ws1 j) ws2 u b in
    (ws, cc, cc)
words_swap ws ws1 ws2 (Reads i f) (Changes j g) t u ap1 a b =
    let r = load_inv ws f (slice_get ws i) ws1 t a in
    let q = change_inv ws1 j g (slice_get ws1 j) ws2 u b in
    let other = slice_get-set_other ws j i q.1 ap1 in
    let again = load_is (slice_set ws j q.1) r.0 f (slice_get (slice_set ws j q.1) i) (other ∙ r.1) in
    (slice_set ws j q.1, cc, cc)
words_swap ws ws1 ws2 (Changes i f) Never t u ap1 a b = cc
words_swap ws ws1 ws2 (Changes i f) (Alone th) t u ap1 a b =
    let r = change_inv ws i f (slice_get ws i) ws1 t a in
    (ws, cc, cc)
words_swap ws ws1 ws2 (Changes i f) (Reads j g) t u ap1 a b =
    let r = change_inv ws i f (slice_get ws i) ws1 t a in
    let q = load_inv ws1 g (slice_get ws1 j) ws2 u b in
    let other = slice_get-set_other ws i j r.1 (λ e. ap1 (sym e)) in
    let j0 : slice_get ws j ≡ Some q.0 = cc in
    let before = load_is ws q.0 g (slice_get ws j) j0 in
    (ws, cc, cc)
words_swap ws ws1 ws2 (Changes i f) (Changes j g) t u ap1 a b =
    let r = change_inv ws i f (slice_get ws i) ws1 t a in
    let q = change_inv ws1 j g (slice_get ws1 j) ws2 u b in
    let other = slice_get-set_other ws i j r.1 (λ e. ap1 (sym e)) in
    let other2 = slice_get-set_other ws j i q.1 ap1 in
    let comm = set_comm ws i j r.1 q.1 ap1 in
    (slice_set ws j q.1, cc, cc)

-- the two steps on states
module _ {T : Type 0} (m : Machine T) where
  abbrev pub touch : Effect T → Touch T
  touch Refused = Never
  touch (Marks th) = Alone th
  touch (Loads c f) = Reads c f
  touch (Stores c v th) = Changes c (λ _. Becomes v (pos 0) th)
  touch (Operates e f) = Changes (m.place e.obj) f

  pub outcome-touch : (ws : List ℕ) (e : Effect T) → outcome m ws e ≡ touched ws (touch e)
  outcome-touch ws Refused = refl
  outcome-touch ws (Marks th) = refl
  outcome-touch ws (Loads c f) = refl
  outcome-touch ws (Stores c v th) = refl
  outcome-touch ws (Operates e f) = refl

  with_inv : (ths : List T) (t : ℕ) (o : Outcome T) (s : State T) → with_thread m ths t o ≡ Some s → (ws : List ℕ) × (th : T) × (o ≡ Leaves ws th) × (s ≡ record { words = ws; threads = slice_set ths t th })
  with_inv ths t Blocked s e = cc
  with_inv ths t (Leaves ws th) s e = (ws, th, refl, cc)

  thload_inv : (s : State T) (l : Label) (o : Option T) (s1 : State T) → step_of_thread m s l o ≡ Some s1 → (th : T) × (ws : List ℕ) × (th1 : T) × (o ≡ Some th) × (outcome m s.words (m.effect l th) ≡ Leaves ws th1) × (s1 ≡ record { words = ws; threads = slice_set s.threads (label_thread l) th1 })
  thload_inv s l None s1 e = cc
  thload_inv s l (Some th) s1 e = let r = with_inv s.threads (label_thread l) (outcome m s.words (m.effect l th)) s1 e in (th, r.0, r.1, refl, r.2, r.3)

  -- what the thread of a label may do with it in a state
  pub record Steps (s : State T) (l : Label) (s1 : State T) : Type 0 where
    pub before : T
    pub words : List ℕ
    pub after : T
    pub stands : slice_get s.threads (label_thread l) ≡ Some before
    pub leaves : outcome m s.words (m.effect l before) ≡ Leaves words after
    pub to : s1 ≡ record { words = words; threads = slice_set s.threads (label_thread l) after }

  pub steps_of : (s : State T) (l : Label) (s1 : State T) → stepped m s l ≡ Some s1 → Steps s l s1
  steps_of s l s1 e =
      let r = thload_inv s l (slice_get s.threads (label_thread l)) s1 e in
      record { before = r.0; words = r.1; after = r.2; stands = r.3; leaves = r.4; to = r.5 }

  pub of_steps : (s : State T) (l : Label) (s1 : State T) → Steps s l s1 → stepped m s l ≡ Some s1
  of_steps s l s1 h = rw (h.stands, h.leaves) (ap Some (sym h.to))

  pub record Swapped (s : State T) (a b : Label) (s2 : State T) (before_a before_b : T) : Type 0 where
    pub mid : State T
    pub first : Steps s b mid
    pub second : Steps mid a s2
    pub first_is : first.before ≡ before_b
    pub second_is : second.before ≡ before_a

  pub swap_steps : (s s1 s2 : State T) (a b : Label) (x : Steps s a s1) (y : Steps s1 b s2) → label_thread a ≢ label_thread b → Apart (touch (m.effect a x.before)) (touch (m.effect b y.before)) → Swapped s a b s2 x.before y.before
  swap_steps s s1 s2 a b x y ne ap1 =
      let ths : s1.threads ≡ slice_set s.threads (label_thread a) x.after = ap (λ z. z.threads) x.to in
      let ws : s1.words ≡ x.words = ap (λ z. z.words) x.to in
      let b0 : slice_get s.threads (label_thread b) ≡ Some y.before = cc (slice_get-set_other s.threads (label_thread a) (label_thread b) x.after (λ e. ne (sym e))) in
      let b1 : outcome m x.words (m.effect b y.before) ≡ Leaves y.words y.after = rw (← ws) y.leaves in
      let w = words_swap s.words x.words y.words (touch (m.effect a x.before)) (touch (m.effect b y.before)) x.after y.after ap1 (sym (outcome-touch s.words (m.effect a x.before)) ∙ x.leaves) (sym (outcome-touch x.words (m.effect b y.before)) ∙ b1) in
      record {
        mid = record { words = w.0; threads = slice_set s.threads (label_thread b) y.after };
        first = record { before = y.before; words = w.0; after = y.after; stands = b0; leaves = outcome-touch s.words (m.effect b y.before) ∙ w.1; to = refl };
        second = record { before = x.before; words = y.words; after = x.after; stands = slice_get-set_other s.threads (label_thread b) (label_thread a) y.after ne ∙ x.stands; leaves = outcome-touch w.0 (m.effect a x.before) ∙ w.2; to = cc (set_comm s.threads (label_thread a) (label_thread b) x.after y.after ne) };
        first_is = refl;
        second_is = refl;
      }

  pub adds_of : (s : State T) (l : Label) (s1 : State T) (x : Steps s l s1) → added m s l ≡ effect_entry m s.words (m.effect l x.before)
  adds_of s l s1 x = rw x.stands
