-- Places of a run: what is made at each, what stays from one to a later one, and where something turns.
use Rattle.std.proofs.Common.{◌≡◌, ℕ, zero, suc, ◌<◌, ◌≤◌, ⊎_elim, Bool, true, false, List, [], ◌∷◌, Option, Some, None, refl, sym, ap, subst, ◌∙◌, arith}
use Rattle.std.specs.Prelude.{option_and_then}
use Rattle.std.proofs.lemmas.Bool.{cases_Bool, true≢false}
use Rattle.std.proofs.lemmas.Option.{same_Some}
use Rattle.sync_objects.specs.Setup.{SetupView}
use Rattle.flow_code.specs.declared.code.Code.{Code}
use Rattle.core_run.specs.Histories.{IsReachable}
use Rattle.core_run.specs.Machine.{Told, machine, start_state}
use Rattle.run_theory.specs.Labels.{Label}
use Rattle.run_theory.specs.Ordered.{Event, event_of, event_at, state_at}
use Rattle.run_theory.specs.Steps.{State, stepped}
use Rattle.run_theory.proofs.Kept.{reaches_step}
use Rattle.run_theory.proofs.Locked.{event_first, event_more, state_inv}

module _ (code : Code) (s : SetupView) where
  -- what is made at a place of a run
  pub record Place (ls : List Label) (st : State Told) (c : ℕ) (x : Event) : Type 0 where
    pub before : State Told
    pub label : Label
    pub after : State Told
    pub at : state_at (machine code s) ls st c ≡ Some before
    pub next : state_at (machine code s) ls st (suc c) ≡ Some after
    pub steps : stepped (machine code s) before label ≡ Some after
    pub event : event_of (machine code s) before label ≡ Some x
    pub reached : IsReachable code s before

  -- the state after the first label
  state_more : (l : Label) (ls : List Label) (st st1 : State Told) (k : ℕ) → stepped (machine code s) st l ≡ Some st1 → state_at (machine code s) (l ∷ ls) st (suc k) ≡ state_at (machine code s) ls st1 k
  state_more l ls st st1 k e = ap (option_and_then (λ z. state_at (machine code s) ls z k)) e

  then_is : {A B : Type 0} (f : A → Option B) (o : Option A) (y : B) → option_and_then f o ≡ Some y → (x : A) × (o ≡ Some x) × (f x ≡ Some y)
  then_is f None y e = cc
  then_is f (Some x) y e = (x, refl, e)

  pub place_at : (ls : List Label) (st : State Told) (c : ℕ) (x : Event) → IsReachable code s st → event_at (machine code s) ls st c ≡ Some x → Place ls st c x
  place_at [] st c x r e = cc
  place_at (l ∷ ls) st zero x r e =
      let i = then_is (λ _. event_of (machine code s) st l) (stepped (machine code s) st l) x e in
      record { before = st; label = l; after = i.0; at = refl; next = state_more l ls st i.0 0 i.1; steps = i.1; event = i.2; reached = r }
  place_at (l ∷ ls) st (suc c) x r e = go (then_is (λ z. event_at (machine code s) ls z c) (stepped (machine code s) st l) x e) (λ z q f. place_at ls z c x q f)
    where
      go : (i : (z : State Told) × (stepped (machine code s) st l ≡ Some z) × (event_at (machine code s) ls z c ≡ Some x)) → ((z : State Told) → IsReachable code s z → event_at (machine code s) ls z c ≡ Some x → Place ls z c x) → Place (l ∷ ls) st (suc c) x
      go i again =
          let p = again i.0 (reaches_step (machine code s) (start_state code s) st i.0 l r i.1) i.2 in
          record { before = p.before; label = p.label; after = p.after; at = state_more l ls st i.0 c i.1 ∙ p.at; next = state_more l ls st i.0 (suc c) i.1 ∙ p.next; steps = p.steps; event = p.event; reached = p.reached }

  -- ---- what stays

  module _ (R : State Told → State Told → Type 0) (same : (a : State Told) → R a a) (joined : (a b c : State Told) → R a b → R b c → R a c) (step : (a b : State Told) (l : Label) → IsReachable code s a → stepped (machine code s) a l ≡ Some b → R a b) where
    along_to : (ls : List Label) (st end : State Told) (j : ℕ) → IsReachable code s st → state_at (machine code s) ls st j ≡ Some end → R st end
    along_to ls st end zero r e = subst (R st) (same_Some st end e) (same st)
    along_to [] st end (suc j) r e = cc
    along_to (l ∷ ls) st end (suc j) r e = go (state_inv (machine code s) l ls st end j e) (λ z q f. along_to ls z end j q f)
      where
        go : (i : (z : State Told) × (stepped (machine code s) st l ≡ Some z) × (state_at (machine code s) ls z j ≡ Some end)) → ((z : State Told) → IsReachable code s z → state_at (machine code s) ls z j ≡ Some end → R z end) → R st end
        go i again = joined st i.0 end (step st i.0 l r i.1) (again i.0 (reaches_step (machine code s) (start_state code s) st i.0 l r i.1) i.2)

    -- from one place of a run to a later one
    pub along : (ls : List Label) (st a b : State Told) (i j : ℕ) → IsReachable code s st → i ≤ j → state_at (machine code s) ls st i ≡ Some a → state_at (machine code s) ls st j ≡ Some b → R a b
    along ls st a b zero j r le e f = subst (λ z. R z b) (same_Some st a e) (along_to ls st b j r f)
    along ls st a b (suc i) zero r le e f = absurd (omega arith)
    along [] st a b (suc i) (suc j) r le e f = cc
    along (l ∷ ls) st a b (suc i) (suc j) r le e f = go (state_inv (machine code s) l ls st a i e) (state_inv (machine code s) l ls st b j f) (λ z q g h. along ls z a b i j q (omega arith) g h)
      where
        go : (x : (z : State Told) × (stepped (machine code s) st l ≡ Some z) × (state_at (machine code s) ls z i ≡ Some a)) → (y : (z : State Told) × (stepped (machine code s) st l ≡ Some z) × (state_at (machine code s) ls z j ≡ Some b)) → ((z : State Told) → IsReachable code s z → state_at (machine code s) ls z i ≡ Some a → state_at (machine code s) ls z j ≡ Some b → R a b) → R a b
        go x y again =
            let one : y.0 ≡ x.0 = same_Some y.0 x.0 (sym y.1 ∙ x.1) in
            again x.0 (reaches_step (machine code s) (start_state code s) st x.0 l r x.1) x.2 (subst (λ z. state_at (machine code s) ls z j ≡ Some b) one y.2)

  -- ---- where something turns

  module _ (p : State Told → Bool) where
    -- the step by which it comes to hold, before place j
    pub record Turn (ls : List Label) (st : State Told) (j : ℕ) : Type 0 where
      pub b : ℕ
      pub less : b < j
      pub before : State Told
      pub label : Label
      pub after : State Told
      pub at : state_at (machine code s) ls st b ≡ Some before
      pub next : state_at (machine code s) ls st (suc b) ≡ Some after
      pub steps : stepped (machine code s) before label ≡ Some after
      pub event : event_at (machine code s) ls st b ≡ event_of (machine code s) before label
      pub reached : IsReachable code s before
      pub was : p before ≡ false
      pub now : p after ≡ true

    pub turn : (ls : List Label) (st end : State Told) (j : ℕ) → IsReachable code s st → state_at (machine code s) ls st j ≡ Some end → p st ≡ false → p end ≡ true → Turn ls st j
    turn ls st end zero r e was now = absurd (true≢false (sym now ∙ ap p (sym (same_Some st end e)) ∙ was))
    turn [] st end (suc j) r e was now = cc
    turn (l ∷ ls) st end (suc j) r e was now = go (state_inv (machine code s) l ls st end j e) (λ z q f g. turn ls z end j q f g now)
      where
        go : (i : (z : State Told) × (stepped (machine code s) st l ≡ Some z) × (state_at (machine code s) ls z j ≡ Some end)) → ((z : State Told) → IsReachable code s z → state_at (machine code s) ls z j ≡ Some end → p z ≡ false → Turn ls z j) → Turn (l ∷ ls) st (suc j)
        go i again =
            ⊎_elim
            (λ (here : p i.0 ≡ true). record { b = 0; less = omega arith; before = st; label = l; after = i.0; at = refl; next = state_more l ls st i.0 0 i.1; steps = i.1; event = event_first (machine code s) l ls st i.0 i.1; reached = r; was = was; now = here })
            (λ (later : p i.0 ≡ false).
            let t = again i.0 (reaches_step (machine code s) (start_state code s) st i.0 l r i.1) i.2 later in
            let less = t.less in
            record { b = suc t.b; less = omega arith; before = t.before; label = t.label; after = t.after; at = state_more l ls st i.0 t.b i.1 ∙ t.at; next = state_more l ls st i.0 (suc t.b) i.1 ∙ t.next; steps = t.steps; event = event_more (machine code s) l ls st i.0 t.b i.1 ∙ t.event; reached = t.reached; was = t.was; now = t.now })
            (cases_Bool (p i.0))
