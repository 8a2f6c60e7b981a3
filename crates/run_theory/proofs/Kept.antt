-- What every label keeps holds in every state that is reached, and a thread's own list is what it added to the run.
use Rattle.std.specs.Prelude.{option_and_then}
use Rattle.std.proofs.Common.{◌≡◌, ℕ, List, [], ◌∷◌, ◌++◌, Option, Some, None, refl, sym, ap, ◌∙◌, subst, append_assoc}
use Rattle.std.proofs.lemmas.List.{append-nil}
use Rattle.std.proofs.lemmas.Option.{same_Some}
use Rattle.sync_objects.specs.declared.entry.Noted.{Noted}
use Rattle.run_theory.specs.Labels.{Label}
use Rattle.run_theory.specs.Steps.{Machine, State, stepped, added, run, trace, trace_on, entries_of, Reaches}
use Rattle.run_theory.proofs.Lists.{entries_of-append}

module _ {T : Type 0} (m : Machine T) where
  -- P holds of each state that is reached, where it holds at first and every label keeps it
  pub kept_along : (P : State T → Type 0) → ((s s1 : State T) (l : Label) → P s → stepped m s l ≡ Some s1 → P s1) → (ls : List Label) (s s1 : State T) → run m ls s ≡ Some s1 → P s → P s1
  kept_along P keeps [] s s1 h p = subst P (same_Some _ _ h) p
  kept_along P keeps (l ∷ ls) s s1 h p = go (stepped m s l) refl h (λ mid q e. kept_along P keeps ls mid s1 q (keeps s mid l p e))
    where
      go : (o : Option (State T)) → stepped m s l ≡ o → option_and_then (run m ls) o ≡ Some s1 → ((mid : State T) → run m ls mid ≡ Some s1 → stepped m s l ≡ Some mid → P s1) → P s1
      go None e q f = cc
      go (Some mid) e q f = f mid q e

  -- the list of a thread, from what one step does to it
  pub lists_are : (list : ℕ → State T → List Noted) → ((s s1 : State T) (l : Label) (t : ℕ) → stepped m s l ≡ Some s1 → list t s1 ≡ list t s ++ entries_of t (added m s l)) → (ls : List Label) (s s1 : State T) (t : ℕ) → run m ls s ≡ Some s1 → list t s1 ≡ list t s ++ entries_of t (trace m ls s)
  lists_are list steps [] s s1 t h = ap (list t) (sym (same_Some _ _ h)) ∙ sym (append-nil (list t s))
  lists_are list steps (l ∷ ls) s s1 t h = go (stepped m s l) refl h (λ mid q. lists_are list steps ls mid s1 t q)
    where
      go : (o : Option (State T)) → stepped m s l ≡ o → option_and_then (run m ls) o ≡ Some s1 → ((mid : State T) → run m ls mid ≡ Some s1 → list t s1 ≡ list t mid ++ entries_of t (trace m ls mid)) → list t s1 ≡ list t s ++ entries_of t (added m s l ++ trace_on m (trace m ls) o)
      go None e q f = cc
      go (Some mid) e q f = f mid q ∙ ap (λ z. z ++ entries_of t (trace m ls mid)) (steps s mid l t e) ∙ append_assoc (list t s) (entries_of t (added m s l)) (entries_of t (trace m ls mid)) ∙ ap (λ z. list t s ++ z) (sym (entries_of-append t (added m s l) (trace m ls mid)))

  -- a run after a run is a run
  pub run_append : (ls ks : List Label) (s s1 s2 : State T) → run m ls s ≡ Some s1 → run m ks s1 ≡ Some s2 → run m (ls ++ ks) s ≡ Some s2
  run_append [] ks s s1 s2 h k = ap (run m ks) (same_Some _ _ h) ∙ k
  run_append (l ∷ ls) ks s s1 s2 h k = go (stepped m s l) h (λ mid q. run_append ls ks mid s1 s2 q k)
    where
      go : (o : Option (State T)) → option_and_then (run m ls) o ≡ Some s1 → ((mid : State T) → run m ls mid ≡ Some s1 → run m (ls ++ ks) mid ≡ Some s2) → option_and_then (run m (ls ++ ks)) o ≡ Some s2
      go None e f = cc
      go (Some mid) e f = f mid e

  -- what is reached from a state that is reached is reached
  pub reaches_more : (s s1 s2 : State T) → Reaches m s s1 → Reaches m s1 s2 → Reaches m s s2
  reaches_more s s1 s2 r q = (r.0 ++ q.0, run_append r.0 q.0 s s1 s2 r.1 q.1)

  pub reaches_step : (s s1 s2 : State T) (l : Label) → Reaches m s s1 → stepped m s1 l ≡ Some s2 → Reaches m s s2
  reaches_step s s1 s2 l r h = reaches_more s s1 s2 r (l ∷ [], ap (option_and_then (run m [])) h)
