-- The events of a thread by their numbers, and the order of two runs whose threads make the same events.
use Rattle.std.proofs.Common.{◌≡◌, ℕ, zero, suc, ◌+◌, ◌<◌, ◌≤◌, List, [], ◌∷◌, ◌++◌, Option, Some, None, refl, sym, ap, ◌∙◌, subst, arith, ◌⊎◌, inl, inr, ⊎_elim, ℤ, eq-eqb, ne_eqb}
use Rattle.std.specs.Prelude.{slice_get, slice_index, option_to_list, ◌==◌, if◌then◌else◌}
use Rattle.std.proofs.lemmas.Bool.{cases_eq}
use Rattle.std.proofs.lemmas.Option.{same_Some}
use Rattle.sync_objects.specs.declared.entry.Noted.{Noted}
use Rattle.run_theory.specs.Labels.{Label, label_thread}
use Rattle.run_theory.specs.Steps.{Change, Becomes, Leaves, Effect, Refused, Marks, Loads, Stores, Operates, Machine, State, outcome, stepped, number_at}
use Rattle.run_theory.specs.Laws.{IsLawful}
use Rattle.run_theory.specs.Ordered.{Event, Marked, Loaded, Stored, Did, event_thread, operation_event, effect_event, event_of_thread, event_of, event_at, Link, Ordered, last, more}
use Rattle.run_theory.specs.Places.{counted_in, events_before, IsNth, ComeInOrder}
use Rattle.run_theory.proofs.Swap.{steps_of, change_inv}
use Rattle.std.proofs.lemmas.Option.{get_or_from_slice_get}
use Rattle.run_theory.proofs.Locked.{event_first, event_more}
use Rattle.run_theory.proofs.InTime.{places, first_inv, more_inv, passes_in_time}
use Rattle.run_theory.proofs.Histories.{own_events}

-- ---- places of any list of events

counted_up : (t : ℕ) (o : Option Event) (a b : ℕ) → counted_in t o (a + b) ≡ a + counted_in t o b
counted_up t None a b = refl
counted_up t (Some x) a b = ⊎_elim (λ e. rw (eq-eqb (event_thread x) t e) (omega arith)) (λ ne. rw (ne_eqb (event_thread x) t ne) refl) (cases_eq (event_thread x) t)

counted_own : (t : ℕ) (x : Event) (n : ℕ) → event_thread x ≡ t → counted_in t (Some x) n ≡ suc n
counted_own t x n e = rw (eq-eqb (event_thread x) t e) (omega arith)

counted_grows : (t : ℕ) (o : Option Event) (n : ℕ) → n ≤ counted_in t o n
counted_grows t None n = omega arith
counted_grows t (Some x) n = ⊎_elim (λ e. let k = counted_own t x n e in omega arith) (λ ne. let k : counted_in t (Some x) n ≡ n = rw (ne_eqb (event_thread x) t ne) refl in omega arith) (cases_eq (event_thread x) t)

module _ (at : ℕ → Option Event) where
  before_grows : (t i j : ℕ) → i ≤ j → events_before at t i ≤ events_before at t j
  before_grows t i zero le = let e : i ≡ 0 = omega arith in let k = ap (events_before at t) e in omega arith
  before_grows t i (suc j) le =
      ⊎_elim
      (λ (lt : i < suc j). let a = before_grows t i j (omega arith) in omega (arith, counted_grows t (at j) (events_before at t j)))
      (λ q. ⊎_elim (λ (e : i ≡ suc j). let k = ap (events_before at t) e in omega arith) (λ (lt : suc j < i). absurd (omega arith)) q)
      (places i (suc j))

  -- after an event of the thread there is one more before
  pub before_less : (t i j : ℕ) (x : Event) → at i ≡ Some x → event_thread x ≡ t → i < j → events_before at t i < events_before at t j
  before_less t i j x is own lt =
      let k : events_before at t (suc i) ≡ suc (events_before at t i) = ap (λ z. counted_in t z (events_before at t i)) is ∙ counted_own t x (events_before at t i) own in
      omega (arith, before_grows t (suc i) j (omega arith))

  -- a thread's events come in the order of their numbers
  pub nth_order : (t n k i j : ℕ) (x y : Event) → IsNth at t n x i → IsNth at t k y j → n < k → i < j
  nth_order t n k i j x y a b lt =
      ⊎_elim
      (λ q. q)
      (λ q. ⊎_elim
      (λ (e : i ≡ j). let s = ap (events_before at t) e in absurd (omega (arith, a.number, b.number)))
      (λ (back : j < i). absurd (omega (arith, a.number, b.number, before_less t j i y b.happens b.of_thread back)))
      q)
      (places i j)

-- ---- and of a run

module _ {T : Type 0} (m : Machine T) where
  -- what happens at a step that is allowed, which is its thread's
  record IsEvent (t : ℕ) (o : Option Event) : Type 0 where
    event : Event
    is : o ≡ Some event
    own : event_thread event ≡ t

  operation_happens : (t : ℕ) (x : Noted) (w v : ℕ) (answer : ℤ) (th : T) (c : Change T) → c ≡ Becomes v answer th → IsEvent t (operation_event t x w c)
  operation_happens t x w v answer th c e = record { event = Did t x w answer; is = ap (operation_event t x w) e; own = refl }

  effect_happens : (t : ℕ) (ws ws1 : List ℕ) (y : T) (e : Effect T) → outcome m ws e ≡ Leaves ws1 y → IsEvent t (effect_event m t ws e)
  effect_happens t ws ws1 y Refused on = cc
  effect_happens t ws ws1 y (Marks th) on = record { event = Marked t; is = refl; own = refl }
  effect_happens t ws ws1 y (Loads c f) on = record { event = Loaded t c; is = refl; own = refl }
  effect_happens t ws ws1 y (Stores c w th) on = record { event = Stored t c; is = refl; own = refl }
  effect_happens t ws ws1 y (Operates e f) on =
      let at = m.place e.obj in
      let r = change_inv ws at f (slice_get ws at) ws1 y on in
      let w : slice_index ws at ≡ r.0 = get_or_from_slice_get ws at r.0 0 r.3 in
      operation_happens t (record { entry = e; number = number_at m ws e.obj }) (slice_index ws at) r.1 r.2 y (f (slice_index ws at)) (ap f w ∙ r.4)

  happens : (s s1 : State T) (l : Label) → stepped m s l ≡ Some s1 → IsEvent (label_thread l) (event_of m s l)
  happens s s1 l h =
      let x = steps_of m s l s1 h in
      let k = effect_happens (label_thread l) s.words x.words x.after (m.effect l x.before) x.leaves in
      record { event = k.event; is = ap (event_of_thread m s.words l) x.stands ∙ k.is; own = k.own }

  -- the first event of a run is the thread's, or not
  record IsOwn (t : ℕ) (l : Label) (R : List Label) (s s1 : State T) : Type 0 where
    event : Event
    is : event_of m s l ≡ Some event
    own : event_thread event ≡ t
    one : counted_in t (event_of m s l) 0 ≡ 1
    events : own_events m t (l ∷ R) s ≡ event ∷ own_events m t R s1

  record IsOther (t : ℕ) (l : Label) (R : List Label) (s s1 : State T) : Type 0 where
    none : counted_in t (event_of m s l) 0 ≡ 0
    events : own_events m t (l ∷ R) s ≡ own_events m t R s1

  events_first : (t : ℕ) (l : Label) (R : List Label) (s s1 : State T) → stepped m s l ≡ Some s1 → own_events m t (l ∷ R) s ≡ (if label_thread l == t then option_to_list (event_of m s l) else []) ++ own_events m t R s1
  events_first t l R s s1 h = rw h refl

  own_or_other : (t : ℕ) (l : Label) (R : List Label) (s s1 : State T) → stepped m s l ≡ Some s1 → IsOwn t l R s s1 ⊎ IsOther t l R s s1
  own_or_other t l R s s1 h =
      let k = happens s s1 l h in
      ⊎_elim
      (λ (w : label_thread l ≡ t). inl (record {
        event = k.event;
        is = k.is;
        own = k.own ∙ w;
        one = ap (λ z. counted_in t z 0) k.is ∙ counted_own t k.event 0 (k.own ∙ w);
        events = events_first t l R s s1 h ∙ ap (λ z. (if z then option_to_list (event_of m s l) else []) ++ own_events m t R s1) (eq-eqb (label_thread l) t w) ∙ ap (λ z. option_to_list z ++ own_events m t R s1) k.is;
      }))
      (λ (w : label_thread l ≡ t → ⊥). inr (record {
        none = ap (λ z. counted_in t z 0) k.is ∙ ap (λ z. if z then 0 + 1 else 0) (ne_eqb (event_thread k.event) t (λ q. w (sym k.own ∙ q)));
        events = events_first t l R s s1 h ∙ ap (λ z. (if z then option_to_list (event_of m s l) else []) ++ own_events m t R s1) (ne_eqb (label_thread l) t w);
      }))
      (cases_eq (label_thread l) t)

  before_more : (t : ℕ) (l : Label) (R : List Label) (s s1 : State T) (k : ℕ) → stepped m s l ≡ Some s1 → events_before (event_at m (l ∷ R) s) t (suc k) ≡ counted_in t (event_of m s l) 0 + events_before (event_at m R s1) t k
  before_more t l R s s1 zero h = ap (λ z. counted_in t z 0) (event_first m l R s s1 h) ∙ omega arith
  before_more t l R s s1 (suc k) h =
      ap (λ z. counted_in t z (events_before (event_at m (l ∷ R) s) t (suc k))) (event_more m l R s s1 k h)
      ∙ ap (counted_in t (event_at m R s1 k)) (before_more t l R s s1 k h)
      ∙ counted_up t (event_at m R s1 k) (counted_in t (event_of m s l) 0) (events_before (event_at m R s1) t k)

  -- the thread's event number n has this place in the list of its events
  pub nth_event : (R : List Label) (s : State T) (t n : ℕ) (x : Event) (i : ℕ) → IsNth (event_at m R s) t n x i → slice_get (own_events m t R s) n ≡ Some x
  nth_event [] s t n x i a = cc (a.happens)
  nth_event (l ∷ R) s t n x zero a =
      let q = first_inv m l R s x a.happens in
      let zero_is : n ≡ 0 = sym a.number in
      ⊎_elim
      (λ k. ap (slice_get (own_events m t (l ∷ R) s)) zero_is ∙ ap (λ z. slice_get z 0) k.events ∙ sym k.is ∙ q.2)
      (λ k. let one : counted_in t (event_of m s l) 0 ≡ 1 = ap (λ z. counted_in t z 0) q.2 ∙ counted_own t x 0 a.of_thread in absurd (omega (arith, k.none)))
      (own_or_other t l R s q.0 q.1)
  nth_event (l ∷ R) s t n x (suc i) a =
      let q = more_inv m l R s i x a.happens in
      let b = before_more t l R s q.0 i q.1 in
      let again = nth_event R q.0 t (events_before (event_at m R q.0) t i) x i (record { happens = q.2; of_thread = a.of_thread; number = refl }) in
      ⊎_elim
      (λ k. let n_is : n ≡ suc (events_before (event_at m R q.0) t i) = omega (arith, a.number, k.one) in ap (slice_get (own_events m t (l ∷ R) s)) n_is ∙ ap (λ z. slice_get z (suc (events_before (event_at m R q.0) t i))) k.events ∙ again)
      (λ k. let n_is : n ≡ events_before (event_at m R q.0) t i = omega (arith, a.number, k.none) in ap (slice_get (own_events m t (l ∷ R) s)) n_is ∙ ap (λ z. slice_get z (events_before (event_at m R q.0) t i)) k.events ∙ again)
      (own_or_other t l R s q.0 q.1)

  -- each event in the list of a thread's events has a place in the run
  pub nth_place : (R : List Label) (s : State T) (t n : ℕ) (x : Event) → slice_get (own_events m t R s) n ≡ Some x → (p : ℕ) × IsNth (event_at m R s) t n x p
  nth_place [] s t n x h = cc
  nth_place (l ∷ R) s t n x h = go (stepped m s l) refl (λ s1 k. nth_place R s1 t k x)
    where
      later : (s1 : State T) (k : ℕ) → stepped m s l ≡ Some s1 → counted_in t (event_of m s l) 0 + k ≡ n → (p : ℕ) × IsNth (event_at m R s1) t k x p → (p : ℕ) × IsNth (event_at m (l ∷ R) s) t n x p
      later s1 k e sum r = (suc r.0, record { happens = event_more m l R s s1 r.0 e ∙ r.1.happens; of_thread = r.1.of_thread; number = before_more t l R s s1 r.0 e ∙ ap (λ z. counted_in t (event_of m s l) 0 + z) r.1.number ∙ sum })

      own : (s1 : State T) → stepped m s l ≡ Some s1 → IsOwn t l R s s1 → (i : ℕ) → n ≡ i → ((k : ℕ) → slice_get (own_events m t R s1) k ≡ Some x → (p : ℕ) × IsNth (event_at m R s1) t k x p) → (p : ℕ) × IsNth (event_at m (l ∷ R) s) t n x p
      own s1 e k zero is again =
          let here : Some k.event ≡ Some x = sym (ap (λ z. slice_get z 0) k.events) ∙ ap (slice_get (own_events m t (l ∷ R) s)) (sym is) ∙ h in
          (0, record { happens = event_first m l R s s1 e ∙ k.is ∙ here; of_thread = ap event_thread (sym (same_Some _ _ here)) ∙ k.own; number = sym is })
      own s1 e k (suc i) is again = later s1 i e (omega (arith, k.one)) (again i (sym (ap (λ z. slice_get z (suc i)) k.events) ∙ ap (slice_get (own_events m t (l ∷ R) s)) (sym is) ∙ h))

      go : (o : Option (State T)) → stepped m s l ≡ o → ((s1 : State T) (k : ℕ) → slice_get (own_events m t R s1) k ≡ Some x → (p : ℕ) × IsNth (event_at m R s1) t k x p) → (p : ℕ) × IsNth (event_at m (l ∷ R) s) t n x p
      go None e again = let none : own_events m t (l ∷ R) s ≡ [] = rw e refl in cc (ap (λ z. slice_get z n) none, h)
      go (Some s1) e again =
          ⊎_elim
          (λ k. own s1 e k n refl (again s1))
          (λ k. later s1 n e (omega (arith, k.none)) (again s1 n (sym (ap (λ z. slice_get z n) k.events) ∙ h)))
          (own_or_other t l R s s1 e)

  module _ (law : IsLawful m) (R Q : List Label) (s : State T) (same : (t : ℕ) → own_events m t R s ≡ own_events m t Q s) where
    -- each event of the first run is one of the second, with its number
    pub moved : (t n : ℕ) (x : Event) (i : ℕ) → IsNth (event_at m R s) t n x i → (p : ℕ) × IsNth (event_at m Q s) t n x p
    moved t n x i a = nth_place Q s t n x (ap (λ z. slice_get z n) (sym (same t)) ∙ nth_event R s t n x i a)

    -- a link of the first run leads from the same event to the same operation in the second one
    record LinkedOn (b : ℕ) (u : ℕ) (y : Event) (p : ℕ) : Type 0 where
      q : ℕ
      is : IsNth (event_at m Q s) u (events_before (event_at m R s) u b) y q
      order : p < q

    linked_on : (i b t n p : ℕ) (x : Event) → (k : Link (event_at m R s) i b) → IsNth (event_at m R s) t n x i → IsNth (event_at m Q s) t n x p → LinkedOn b k.taker (Did k.taker k.second k.before k.answer) p
    linked_on i b t n p x k here there =
        let start_is : k.start ≡ x = same_Some _ _ (sym k.start_is ∙ here.happens) in
        let own : event_thread k.start ≡ t = ap event_thread start_is ∙ here.of_thread in
        let gives : Event = Did (event_thread k.start) k.first k.first_before k.first_answer in
        let a = moved t (events_before (event_at m R s) t k.a) gives k.a (record { happens = k.first_is; of_thread = own; number = refl }) in
        let c = moved k.taker (events_before (event_at m R s) k.taker b) (Did k.taker k.second k.before k.answer) b (record { happens = k.second_is; of_thread = refl; number = refl }) in
        let up : n < events_before (event_at m R s) t k.a = omega (arith, here.number, before_less (event_at m R s) t i k.a x here.happens here.of_thread k.after) in
        let first = nth_order (event_at m Q s) t n (events_before (event_at m R s) t k.a) p a.0 x gives there a.1 up in
        let second = passes_in_time m law Q s a.0 c.0 (event_thread k.start) k.taker k.first k.second k.first_before k.before k.first_answer k.answer a.1.happens c.1.happens k.passes in
        record { q = c.0; is = c.1; order = omega (arith, first, second) }

    -- ordered events come in the same order
    pub order_moved : (i j t n u k p q : ℕ) (x y : Event) → Ordered (event_at m R s) i j → IsNth (event_at m R s) t n x i → IsNth (event_at m R s) u k y j → IsNth (event_at m Q s) t n x p → IsNth (event_at m Q s) u k y q → p < q
    order_moved i j t n u k p q x y (last b v w link before v_is w_is alike) a c d e =
        let f = linked_on i b t n p x link a d in
        let taker_is : Did link.taker link.second link.before link.answer ≡ v = same_Some _ _ (sym link.second_is ∙ v_is) in
        let w_y : w ≡ y = same_Some _ _ (sym w_is ∙ c.happens) in
        let own : link.taker ≡ u = ap event_thread taker_is ∙ alike ∙ ap event_thread w_y ∙ c.of_thread in
        let f_is = subst (λ z. IsNth (event_at m Q s) z (events_before (event_at m R s) z b) (Did link.taker link.second link.before link.answer) f.q) own f.is in
        let up : events_before (event_at m R s) u b < k = omega (arith, c.number, before_less (event_at m R s) u b j (Did link.taker link.second link.before link.answer) link.second_is own before) in
        let after = nth_order (event_at m Q s) u (events_before (event_at m R s) u b) k f.q q (Did link.taker link.second link.before link.answer) y f_is e up in
        omega (arith, f.order, after)
    order_moved i j t n u k p q x y (more b link rest) a c d e =
        let f = linked_on i b t n p x link a d in
        let here : IsNth (event_at m R s) link.taker (events_before (event_at m R s) link.taker b) (Did link.taker link.second link.before link.answer) b = record { happens = link.second_is; of_thread = refl; number = refl } in
        let after = order_moved b j link.taker (events_before (event_at m R s) link.taker b) u k f.q q (Did link.taker link.second link.before link.answer) y rest here c f.is e in
        omega (arith, f.order, after)

    pub same_order : (i j t n u k : ℕ) (x y : Event) → Ordered (event_at m R s) i j → IsNth (event_at m R s) t n x i → IsNth (event_at m R s) u k y j → ComeInOrder (event_at m Q s) t n x u k y
    same_order i j t n u k x y o a c =
        let p = moved t n x i a in
        let q = moved u k y j c in
        record { i = p.0; j = q.0; first_is = p.1; second_is = q.1; order = order_moved i j t n u k p.0 q.0 x y o a c p.1 q.1 }
