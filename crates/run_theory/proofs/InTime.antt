-- What passes an object on comes before what gets it, so ordered places stand in their order.
use Rattle.std.proofs.Common.{◌≡◌, ℕ, zero, suc, ◌<◌, ◌≤◌, true, List, [], ◌∷◌, Option, Some, None, refl, sym, ap, ◌∙◌, arith, ◌⊎◌, inl, inr, ⊎_elim, ℤ}
use Rattle.std.specs.Prelude.{option_and_then}
use Rattle.std.proofs.lemmas.Option.{same_Some}
use Rattle.sync_objects.specs.declared.entry.Noted.{Noted}
use Rattle.run_theory.specs.Labels.{Label}
use Rattle.run_theory.specs.Steps.{Machine, State, stepped, number_at}
use Rattle.run_theory.specs.Laws.{IsLawful}
use Rattle.run_theory.specs.Ordered.{Event, Did, event_thread, event_of, event_at, PassesTo, Link, Ordered, last, more}
use Rattle.run_theory.proofs.Locked.{drawn_at, rises_at}

-- one of two places comes before the other, or they are one
pub places : (i j : ℕ) → (i < j) ⊎ ((i ≡ j) ⊎ (j < i))
places zero zero = inr (inl refl)
places zero (suc j) = inl (omega arith)
places (suc i) zero = inr (inr (omega arith))
places (suc i) (suc j) = ⊎_elim (λ e. inl (omega arith)) (λ q. ⊎_elim (λ e. inr (inl (ap suc e))) (λ e. inr (inr (omega arith))) q) (places i j)

module _ {T : Type 0} (m : Machine T) where
  -- what happens at a run's first label, which is allowed
  pub first_inv : (l : Label) (ls : List Label) (s : State T) (x : Event) → event_at m (l ∷ ls) s 0 ≡ Some x → (s1 : State T) × (stepped m s l ≡ Some s1) × (event_of m s l ≡ Some x)
  first_inv l ls s x h = go (stepped m s l) h
    where
      go : (o : Option (State T)) → option_and_then (λ z. event_of m s l) o ≡ Some x → (s1 : State T) × (o ≡ Some s1) × (event_of m s l ≡ Some x)
      go None e = cc
      go (Some s1) e = (s1, refl, e)

  -- what happens after a run's first label, which is allowed
  pub more_inv : (l : Label) (ls : List Label) (s : State T) (k : ℕ) (x : Event) → event_at m (l ∷ ls) s (suc k) ≡ Some x → (s1 : State T) × (stepped m s l ≡ Some s1) × (event_at m ls s1 k ≡ Some x)
  more_inv l ls s k x h = go (stepped m s l) h
    where
      go : (o : Option (State T)) → option_and_then (λ z. event_at m ls z k) o ≡ Some x → (s1 : State T) × (o ≡ Some s1) × (event_at m ls s1 k ≡ Some x)
      go None e = cc
      go (Some s1) e = (s1, refl, e)

  module _ (law : IsLawful m) where
    -- an operation of the run has at least the number that its object has at the beginning
    pub record IsAbove (s : State T) (x : Noted) : Type 0 where
      pub known : m.has_object x.entry.obj ≡ true
      pub above : number_at m s.words x.entry.obj ≤ x.number

    pub above_at : (ls : List Label) (s : State T) (k t : ℕ) (x : Noted) (w : ℕ) (answer : ℤ) → event_at m ls s k ≡ Some (Did t x w answer) → IsAbove s x
    above_at [] s k t x w answer h = cc
    above_at (l ∷ ls) s zero t x w answer h =
        let q = first_inv l ls s (Did t x w answer) h in
        let d = drawn_at m law s q.0 l t x w answer q.1 q.2 in
        record { known = d.known; above = omega (arith, d.before) }
    above_at (l ∷ ls) s (suc k) t x w answer h =
        let q = more_inv l ls s k (Did t x w answer) h in
        let r = above_at ls q.0 k t x w answer q.2 in
        record { known = r.known; above = omega (arith, r.above, rises_at m law s q.0 l x.entry.obj r.known q.1) }

    -- the numbers of an object's operations ascend along the run
    pub ascends_at : (ls : List Label) (s : State T) (i j t u : ℕ) (x y : Noted) (v w : ℕ) (f g : ℤ) → i < j → event_at m ls s i ≡ Some (Did t x v f) → event_at m ls s j ≡ Some (Did u y w g) → x.entry.obj ≡ y.entry.obj → x.number < y.number
    ascends_at ls s i zero t u x y v w f g lt a b same = absurd (omega arith)
    ascends_at [] s i (suc j) t u x y v w f g lt a b same = cc
    ascends_at (l ∷ ls) s zero (suc j) t u x y v w f g lt a b same =
        let q = first_inv l ls s (Did t x v f) a in
        let r = more_inv l ls s j (Did u y w g) b in
        let d = drawn_at m law s q.0 l t x v f q.1 q.2 in
        let e = above_at ls r.0 j u y w g r.2 in
        let one : q.0 ≡ r.0 = same_Some _ _ (sym q.1 ∙ r.1) in
        let n : number_at m q.0.words x.entry.obj ≡ number_at m r.0.words y.entry.obj = ap (λ z. number_at m z.words x.entry.obj) one ∙ ap (number_at m r.0.words) same in
        omega (arith, d.after, e.above)
    ascends_at (l ∷ ls) s (suc i) (suc j) t u x y v w f g lt a b same =
        let q = more_inv l ls s i (Did t x v f) a in
        let r = more_inv l ls s j (Did u y w g) b in
        let one : q.0 ≡ r.0 = same_Some _ _ (sym q.1 ∙ r.1) in
        ascends_at ls r.0 i j t u x y v w f g (omega arith) (ap (λ z. event_at m ls z i) (sym one) ∙ q.2) r.2 same

    -- who passes an object on comes before who gets it
    pub passes_in_time : (ls : List Label) (s : State T) (a b t u : ℕ) (x y : Noted) (v w : ℕ) (f g : ℤ) → event_at m ls s a ≡ Some (Did t x v f) → event_at m ls s b ≡ Some (Did u y w g) → PassesTo t x v y g → a < b
    passes_in_time ls s a b t u x y v w f g first second p =
        ⊎_elim
        (λ lt. lt)
        (λ q. ⊎_elim
        (λ e. absurd (let n = ap (λ (z : Noted). z.number) (one (sym first ∙ ap (event_at m ls s) e ∙ second)) in omega (arith, p.earlier)))
        (λ lt. absurd (omega (arith, p.earlier, ascends_at ls s b a u t y x w v g f lt second first (sym p.same_object))))
        q)
        (places a b)
      where
        one : Some (Did t x v f) ≡ Some (Did u y w g) → x ≡ y
        one e = cc

    pub link_in_time : (ls : List Label) (s : State T) (i b : ℕ) → Link (event_at m ls s) i b → i < b
    link_in_time ls s i b k = omega (arith, k.after, passes_in_time ls s k.a b (event_thread k.start) k.taker k.first k.second k.first_before k.before k.first_answer k.answer k.first_is k.second_is k.passes)

    pub ordered_in_time : (ls : List Label) (s : State T) (i j : ℕ) → Ordered (event_at m ls s) i j → i < j
    ordered_in_time ls s i j (last b x y link before x_is y_is same) = omega (arith, link_in_time ls s i b link, before)
    ordered_in_time ls s i j (more b link rest) = omega (arith, link_in_time ls s i b link, ordered_in_time ls s b j rest)
