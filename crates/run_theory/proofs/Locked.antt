-- Two accesses of two threads, each made while its thread holds the one lock, are ordered.
use Rattle.std.proofs.Common.{◌≡◌, ◌≢◌, ℕ, zero, suc, ◌<◌, ◌≤◌, Bool, true, false, List, [], ◌∷◌, Option, Some, None, refl, sym, ap, ◌∙◌, subst, arith, ◌⊎◌, inl, inr, ⊎_elim, ℤ}
use Rattle.std.specs.Prelude.{slice_index, option_and_then}
use Rattle.std.proofs.lemmas.Option.{same_Some}
use Rattle.sync_objects.specs.declared.entry.Noted.{Noted}
use Rattle.sync_objects.specs.declared.object.ObjId.{ObjId}
use Rattle.sync_objects.specs.declared.mode.Mode.{Mode}
use Rattle.sync_objects.specs.declared.mode.Mode.TheVariants.{Read, Write}
use Rattle.sync_objects.specs.Modes.{excludes, covers}
use Rattle.run_theory.specs.Labels.{Label, label_thread}
use Rattle.run_theory.specs.Steps.{Change, NotAllowed, Becomes, Leaves, Effect, Refused, Marks, Loads, Stores, Operates, Machine, State, outcome, stepped, number_at, Reaches}
use Rattle.run_theory.specs.Laws.{IsLawfulEffect, IsLawful, NoAccess}
use Rattle.run_theory.specs.Ordered.{Event, Did, event_thread, event_access, operation_event, effect_event, event_of_thread, event_of, event_at, state_at, HandsOver, release_to_acquire, PassesTo, Ordered, last, IsAcquire, IsHeldBy}
use Rattle.run_theory.proofs.Swap.{steps_of}
use Rattle.run_theory.proofs.Numbers.{rises, IsDrawn, draws}
use Rattle.run_theory.proofs.Kept.{reaches_step}

-- modes that cover two which exclude each other exclude each other too
cover_excludes : (a b c d : Mode) → covers c a ≡ true → covers d b ≡ true → excludes a b ≡ true → excludes c d ≡ true
cover_excludes a b Write d ca db ab = refl
cover_excludes Write b Read d ca db ab = cc
cover_excludes Read Write Read Write ca db ab = refl
cover_excludes Read Write Read Read ca db ab = cc
cover_excludes Read Read Read d ca db ab = cc

bool_cases : (b : Bool) → (b ≡ true) ⊎ (b ≡ false)
bool_cases true = inl refl
bool_cases false = inr refl

-- an access is no operation
no_operation : (x : Event) (t : ℕ) (y : Noted) (before : ℕ) (answer : ℤ) → event_access x ≢ NoAccess → x ≡ Did t y before answer → ⊥
no_operation x t y before answer access e = access (ap event_access e)

module _ {T : Type 0} (m : Machine T) (law : IsLawful m) where
  -- the operation that happens draws its object's number, and is the label's thread's
  drawn_of : (l : Label) (th : T) (ws ws1 : List ℕ) (th1 : T) (f : Effect T) (t : ℕ) (x : Noted) (before : ℕ) (answer : ℤ) → IsLawfulEffect m l th f → outcome m ws f ≡ Leaves ws1 th1 → effect_event m (label_thread l) ws f ≡ Some (Did t x before answer) → IsDrawn m law ws ws1 x
  drawn_of l th ws ws1 th1 Refused t x before answer h on e = cc
  drawn_of l th ws ws1 th1 (Marks y) t x before answer h on e = cc
  drawn_of l th ws ws1 th1 (Loads c f) t x before answer h on e = cc
  drawn_of l th ws ws1 th1 (Stores c w y) t x before answer h on e = cc
  drawn_of l th ws ws1 th1 (Operates entry f) t x before answer h on e =
      subst (IsDrawn m law ws ws1) (did (slice_index ws (m.place entry.obj)) (f (slice_index ws (m.place entry.obj))) e) (draws m law l th ws ws1 th1 (Operates entry f) h on).0
    where
      did : (w : ℕ) (c : Change T) → operation_event (label_thread l) (record { entry = entry; number = number_at m ws entry.obj }) w c ≡ Some (Did t x before answer) → record { entry = entry; number = number_at m ws entry.obj } ≡ x
      did w NotAllowed q = cc
      did w (Becomes v a y) q = cc

  pub drawn_at : (s s1 : State T) (l : Label) (t : ℕ) (x : Noted) (before : ℕ) (answer : ℤ) → stepped m s l ≡ Some s1 → event_of m s l ≡ Some (Did t x before answer) → IsDrawn m law s.words s1.words x
  drawn_at s s1 l t x before answer h e =
      let y = steps_of m s l s1 h in
      let ws : s1.words ≡ y.words = ap (λ z. z.words) y.to in
      let on : outcome m s.words (m.effect l y.before) ≡ Leaves s1.words y.after = y.leaves ∙ ap (λ z. Leaves z y.after) (sym ws) in
      drawn_of l y.before s.words s1.words y.after (m.effect l y.before) t x before answer (law.effects l y.before) on (ap (event_of_thread m s.words l) (sym y.stands) ∙ e)

  pub rises_at : (s s1 : State T) (l : Label) (o : ObjId) → m.has_object o ≡ true → stepped m s l ≡ Some s1 → number_at m s.words o ≤ number_at m s1.words o
  rises_at s s1 l o known h =
      let y = steps_of m s l s1 h in
      let ws : s1.words ≡ y.words = ap (λ z. z.words) y.to in
      let on : outcome m s.words (m.effect l y.before) ≡ Leaves s1.words y.after = y.leaves ∙ ap (λ z. Leaves z y.after) (sym ws) in
      rises m law l y.before s.words s1.words y.after (m.effect l y.before) (law.effects l y.before) on o known

module _ {T : Type 0} (m : Machine T) where
  -- what happens at a run's first label
  pub event_first : (l : Label) (ls : List Label) (s s1 : State T) → stepped m s l ≡ Some s1 → event_at m (l ∷ ls) s 0 ≡ event_of m s l
  event_first l ls s s1 e = ap (option_and_then (λ _. event_of m s l)) e

  -- one label on in a run
  pub event_more : (l : Label) (ls : List Label) (s s1 : State T) (k : ℕ) → stepped m s l ≡ Some s1 → event_at m (l ∷ ls) s (suc k) ≡ event_at m ls s1 k
  event_more l ls s s1 k e = ap (option_and_then (λ z. event_at m ls z k)) e

  pub state_inv : (l : Label) (ls : List Label) (s s2 : State T) (k : ℕ) → state_at m (l ∷ ls) s (suc k) ≡ Some s2 → (s1 : State T) × (stepped m s l ≡ Some s1) × (state_at m ls s1 k ≡ Some s2)
  state_inv l ls s s2 k h = go (stepped m s l) h
    where
      go : (o : Option (State T)) → option_and_then (λ z. state_at m ls z k) o ≡ Some s2 → (s1 : State T) × (o ≡ Some s1) × (state_at m ls s1 k ≡ Some s2)
      go None e = cc
      go (Some s1) e = (s1, refl, e)

module _ {T : Type 0} (m : Machine T) (law : IsLawful m) (lock : ObjId) (holds : Mode → ℕ → State T → Bool) (start : State T) (held : IsHeldBy m lock holds start) (first_mode second_mode : Mode) (apart : excludes first_mode second_mode ≡ true) where
  -- the thread holds the lock as the first one does
  abbrev first : ℕ → State T → Bool
  first = holds first_mode

  -- the thread holds the lock as the second one does
  abbrev second : ℕ → State T → Bool
  second = holds second_mode

  -- the operation by which a thread gets the lock, before the place j
  pub record Got (ls : List Label) (s : State T) (j u : ℕ) : Type 0 where
    pub b : ℕ
    pub before : b < j
    pub to : Noted
    pub word : ℕ
    pub answer : ℤ
    pub takes : event_at m ls s b ≡ Some (Did u to word answer)
    pub on_lock : to.entry.obj ≡ lock
    pub mode : Mode
    pub enough : covers mode second_mode ≡ true
    pub is_acquire : IsAcquire lock mode to.entry.op answer
    pub above : number_at m s.words lock ≤ to.number

  got : (ls : List Label) (s s2 : State T) (j u : ℕ) → Reaches m start s → state_at m ls s j ≡ Some s2 → second u s ≡ false → second u s2 ≡ true → Got ls s j u
  got ls s s2 zero u r h free now = let e : s ≡ s2 = cc in cc (ap (second u) e, free, now)
  got [] s s2 (suc j) u r h free now = cc
  got (l ∷ ls) s s2 (suc j) u r h free now = go (state_inv m l ls s s2 j h) (λ s1. got ls s1 s2 j u)
    where
      go : (more : (s1 : State T) × (stepped m s l ≡ Some s1) × (state_at m ls s1 j ≡ Some s2)) → ((s1 : State T) → Reaches m start s1 → state_at m ls s1 j ≡ Some s2 → second u s1 ≡ false → second u s2 ≡ true → Got ls s1 j u) → Got (l ∷ ls) s (suc j) u
      go more again =
          ⊎_elim
          (λ (here : second u more.0 ≡ true).
          let x = held.acquired second_mode s more.0 l u r more.1 free here in
          let d = drawn_at m law s more.0 l u x.operation x.before x.answer more.1 x.happens in
          let n = ap (number_at m s.words) x.on_lock in
          record { b = 0; before = omega arith; to = x.operation; word = x.before; answer = x.answer; takes = event_first m l ls s more.0 more.1 ∙ x.happens; on_lock = x.on_lock; mode = x.mode; enough = x.enough; is_acquire = x.is_acquire; above = omega (arith, d.before) })
          (λ (later : second u more.0 ≡ false).
          let x = again more.0 (reaches_step m start s more.0 l r more.1) more.2 later now in
          record { b = suc x.b; before = omega (arith, x.before); to = x.to; word = x.word; answer = x.answer; takes = event_more m l ls s more.0 x.b more.1 ∙ x.takes; on_lock = x.on_lock; mode = x.mode; enough = x.enough; is_acquire = x.is_acquire; above = omega (arith, x.above, rises_at m law s more.0 l lock held.known more.1) })
          (bool_cases (second u more.0))

  -- the lock goes from t to u between the places i and j
  pub record Passed (ls : List Label) (s : State T) (i j t u : ℕ) : Type 0 where
    pub a : ℕ
    pub b : ℕ
    pub after : i ≤ a
    pub order : a < b
    pub before : b < j
    pub from : Noted
    pub from_word : ℕ
    pub from_answer : ℤ
    pub to : Noted
    pub word : ℕ
    pub answer : ℤ
    pub gives : event_at m ls s a ≡ Some (Did t from from_word from_answer)
    pub takes : event_at m ls s b ≡ Some (Did u to word answer)
    pub passes : PassesTo t from from_word to answer

  -- after t has let the lock go, u doesn't hold it at once
  let_go : (s s1 : State T) (l : Label) (t u : ℕ) → t ≢ u → Reaches m start s → stepped m s l ≡ Some s1 → first t s ≡ true → first t s1 ≡ false → second u s1 ≡ false
  let_go s s1 l t u ne r h was isnt = ⊎_elim (λ here. absurd (wrong here)) (λ e. e) (bool_cases (second u s1))
    where
      same : (x y : Noted) (v w : ℕ) (a b : ℤ) → Some (Did t x v a) ≡ Some (Did u y w b) → t ≡ u
      same x y v w a b e = cc

      other : second u s ≡ false
      other = ⊎_elim (λ e. absurd (ne (held.one first_mode second_mode s t u r apart was e))) (λ e. e) (bool_cases (second u s))

      wrong : second u s1 ≡ true → ⊥
      wrong here =
          let x = held.released first_mode s s1 l t r h was isnt in
          let y = held.acquired second_mode s s1 l u r h other here in
          ne (same x.operation y.operation x.before y.before x.answer y.answer (sym x.happens ∙ y.happens))

  passed : (ls : List Label) (s s2 : State T) (j t u : ℕ) → t ≢ u → Reaches m start s → state_at m ls s j ≡ Some s2 → first t s ≡ true → first t s2 ≡ false → second u s2 ≡ true → Passed ls s 0 j t u
  passed ls s s2 zero t u ne r h was gone now = let e : s ≡ s2 = cc in cc (ap (first t) e, was, gone)
  passed [] s s2 (suc j) t u ne r h was gone now = cc
  passed (l ∷ ls) s s2 (suc j) t u ne r h was gone now = go (state_inv m l ls s s2 j h) (λ s1. passed ls s1 s2 j t u ne)
    where
      go : (more : (s1 : State T) × (stepped m s l ≡ Some s1) × (state_at m ls s1 j ≡ Some s2)) → ((s1 : State T) → Reaches m start s1 → state_at m ls s1 j ≡ Some s2 → first t s1 ≡ true → first t s2 ≡ false → second u s2 ≡ true → Passed ls s1 0 j t u) → Passed (l ∷ ls) s 0 (suc j) t u
      go more again =
          ⊎_elim
          (λ (still : first t more.0 ≡ true).
          let x = again more.0 (reaches_step m start s more.0 l r more.1) more.2 still gone now in
          record { a = suc x.a; b = suc x.b; after = omega arith; order = omega (arith, x.order); before = omega (arith, x.before); from = x.from; from_word = x.from_word; from_answer = x.from_answer; to = x.to; word = x.word; answer = x.answer; gives = event_more m l ls s more.0 x.a more.1 ∙ x.gives; takes = event_more m l ls s more.0 x.b more.1 ∙ x.takes; passes = x.passes })
          (λ (isnt : first t more.0 ≡ false).
          let x = held.released first_mode s more.0 l t r more.1 was isnt in
          let d = drawn_at m law s more.0 l t x.operation x.before x.answer more.1 x.happens in
          let y = got ls more.0 s2 j u (reaches_step m start s more.0 l r more.1) more.2 (let_go s more.0 l t u ne r more.1 was isnt) now in
          let n = ap (number_at m more.0.words) x.on_lock in
          record {
            a = 0;
            b = suc y.b;
            after = omega arith;
            order = omega arith;
            before = omega (arith, y.before);
            from = x.operation;
            from_word = x.before;
            from_answer = x.answer;
            to = y.to;
            word = y.word;
            answer = y.answer;
            gives = event_first m l ls s more.0 more.1 ∙ x.happens;
            takes = event_more m l ls s more.0 y.b more.1 ∙ y.takes;
            passes = record { same_object = x.on_lock ∙ sym y.on_lock; earlier = omega (arith, d.after, y.above); hands = subst (λ o. HandsOver o x.operation.entry.op t x.before y.to.entry.op y.answer) (sym x.on_lock) (release_to_acquire lock x.mode y.mode x.operation.entry.op t x.before y.to.entry.op y.answer x.is_release y.is_acquire (cover_excludes first_mode second_mode x.mode y.mode x.enough y.enough apart)) };
          })
          (bool_cases (first t more.0))

  -- the same from any place on, after an access of t
  passed_after : (ls : List Label) (s s1 s2 : State T) (i j : ℕ) (x : Event) (u : ℕ) → event_thread x ≢ u → Reaches m start s → i < j → event_at m ls s i ≡ Some x → event_access x ≢ NoAccess → state_at m ls s i ≡ Some s1 → state_at m ls s j ≡ Some s2 → first (event_thread x) s1 ≡ true → first (event_thread x) s2 ≡ false → second u s2 ≡ true → Passed ls s (suc i) j (event_thread x) u
  passed_after ls s s1 s2 i zero x u ne r lt e access h k was gone now = absurd (omega arith)
  passed_after [] s s1 s2 i (suc j) x u ne r lt e access h k was gone now = cc
  passed_after (l ∷ ls) s s1 s2 zero (suc j) x u ne r lt e access h k was gone now = go (state_inv m l ls s s2 j k)
    where
      s_is : s ≡ s1
      s_is = same_Some _ _ h

      go : (more : (s1 : State T) × (stepped m s l ≡ Some s1) × (state_at m ls s1 j ≡ Some s2)) → Passed (l ∷ ls) s 1 (suc j) (event_thread x) u
      go more =
          let t = event_thread x in
          let here : first t s ≡ true = ap (first t) s_is ∙ was in
          let kept : first t more.0 ≡ true = ⊎_elim (λ q. q) (λ q. let y = held.released first_mode s more.0 l t r more.1 here q in absurd (no_operation x t y.operation y.before y.answer access (same_Some _ _ (sym e ∙ event_first m l ls s more.0 more.1 ∙ y.happens)))) (bool_cases (first t more.0)) in
          let p = passed ls more.0 s2 j t u ne (reaches_step m start s more.0 l r more.1) more.2 kept gone now in
          record { a = suc p.a; b = suc p.b; after = omega arith; order = omega (arith, p.order); before = omega (arith, p.before); from = p.from; from_word = p.from_word; from_answer = p.from_answer; to = p.to; word = p.word; answer = p.answer; gives = event_more m l ls s more.0 p.a more.1 ∙ p.gives; takes = event_more m l ls s more.0 p.b more.1 ∙ p.takes; passes = p.passes }
  passed_after (l ∷ ls) s s1 s2 (suc i) (suc j) x u ne r lt e access h k was gone now = go (state_inv m l ls s s2 j k) (state_inv m l ls s s1 i h) (λ z. passed_after ls z s1 s2 i j x u ne)
    where
      go : (more : (z : State T) × (stepped m s l ≡ Some z) × (state_at m ls z j ≡ Some s2)) → (also : (z : State T) × (stepped m s l ≡ Some z) × (state_at m ls z i ≡ Some s1)) → ((z : State T) → Reaches m start z → i < j → event_at m ls z i ≡ Some x → event_access x ≢ NoAccess → state_at m ls z i ≡ Some s1 → state_at m ls z j ≡ Some s2 → first (event_thread x) s1 ≡ true → first (event_thread x) s2 ≡ false → second u s2 ≡ true → Passed ls z (suc i) j (event_thread x) u) → Passed (l ∷ ls) s (suc (suc i)) (suc j) (event_thread x) u
      go more also again =
          let z_is : also.0 ≡ more.0 = same_Some _ _ (sym also.1 ∙ more.1) in
          let p = again more.0 (reaches_step m start s more.0 l r more.1) (omega arith) (sym (event_more m l ls s more.0 i more.1) ∙ e) access (ap (λ z. state_at m ls z i) (sym z_is) ∙ also.2) more.2 was gone now in
          record { a = suc p.a; b = suc p.b; after = omega (arith, p.after); order = omega (arith, p.order); before = omega (arith, p.before); from = p.from; from_word = p.from_word; from_answer = p.from_answer; to = p.to; word = p.word; answer = p.answer; gives = event_more m l ls s more.0 p.a more.1 ∙ p.gives; takes = event_more m l ls s more.0 p.b more.1 ∙ p.takes; passes = p.passes }

  state_reached : (ls : List Label) (s s1 : State T) (i : ℕ) → Reaches m start s → state_at m ls s i ≡ Some s1 → Reaches m start s1
  state_reached ls s s1 zero r h = subst (Reaches m start) (same_Some _ _ h) r
  state_reached [] s s1 (suc i) r h = cc
  state_reached (l ∷ ls) s s1 (suc i) r h = go (state_inv m l ls s s1 i h) (λ z. state_reached ls z s1 i)
    where
      go : (more : (z : State T) × (stepped m s l ≡ Some z) × (state_at m ls z i ≡ Some s1)) → ((z : State T) → Reaches m start z → state_at m ls z i ≡ Some s1 → Reaches m start s1) → Reaches m start s1
      go more again = again more.0 (reaches_step m start s more.0 l r more.1) more.2

  pub ordered_by_lock : (ls : List Label) (i j : ℕ) (x y : Event) (s1 s2 : State T) → i < j → event_at m ls start i ≡ Some x → event_at m ls start j ≡ Some y → event_thread x ≢ event_thread y → event_access x ≢ NoAccess → state_at m ls start i ≡ Some s1 → state_at m ls start j ≡ Some s2 → first (event_thread x) s1 ≡ true → second (event_thread y) s2 ≡ true → Ordered (event_at m ls start) i j
  ordered_by_lock ls i j x y s1 s2 lt ex ey ne access hi hj was now =
      let r : Reaches m start start = ([], refl) in
      let gone : first (event_thread x) s2 ≡ false = ⊎_elim (λ q. absurd (ne (held.one first_mode second_mode s2 (event_thread x) (event_thread y) (state_reached ls start s2 j r hj) apart q now))) (λ q. q) (bool_cases (first (event_thread x) s2)) in
      let p = passed_after ls start s1 s2 i j x (event_thread y) ne r lt ex access hi hj was gone now in
      last p.b (Did (event_thread y) p.to p.word p.answer) y
      (record { start = x; start_is = ex; a = p.a; after = omega (arith, p.after); first = p.from; first_before = p.from_word; first_answer = p.from_answer; first_is = p.gives; taker = event_thread y; second = p.to; before = p.word; answer = p.answer; second_is = p.takes; passes = p.passes })
      p.before p.takes ey refl
