-- Two runs whose threads have the same lists of entries and have all ended: each thread makes the same events in both.
use Rattle.std.proofs.Common.{◌≡◌, ℕ, List, ◌++◌, Option, Some, None, refl, sym, ap, ◌∙◌, subst}
use Rattle.std.specs.Prelude.{slice_get, option_map}
use Rattle.std.proofs.lemmas.Option.{same_Some, slice_get-map}
use Rattle.run_theory.specs.Labels.{Label, Go}
use Rattle.run_theory.specs.Steps.{Effect, Refused, Marks, Loads, Stores, Operates, Machine, State, run, trace, entries_of, AllEnded}
use Rattle.run_theory.specs.Laws.{IsLawful, IsRaceFree, access_of, Conflict}
use Rattle.run_theory.specs.Ordered.{Event}
use Rattle.run_theory.proofs.Converge.{converge}
use Rattle.run_theory.proofs.Histories.{Keeping, plain, fresh, plain_fresh, history, history_fresh, kept_effect, keeping, keeping_lawful, run_same, trace_same, own_events, history_run}

module _ {T : Type 0} (m : Machine T) where
  map_inv : (o : Option (State (Keeping T))) (s : State T) → option_map plain o ≡ Some s → (k : State (Keeping T)) × (o ≡ Some k) × (plain k ≡ s)
  map_inv None s e = cc
  map_inv (Some k) s e = (k, refl, same_Some _ _ e)

  -- a run's events are kept by a run of the machine that keeps them
  kept_run : (R : List Label) (s s1 : State T) → run m R s ≡ Some s1 → (k : State (Keeping T)) × (run (keeping m) R (fresh s) ≡ Some k) × (plain k ≡ s1)
  kept_run R s s1 h = map_inv (run (keeping m) R (fresh s)) s1 (run_same m R (fresh s) ∙ ap (run m R) (plain_fresh s) ∙ h)

  same_access : (t : ℕ) (h : List Event) (e : Effect T) → access_of (kept_effect m t h e) ≡ access_of e
  same_access t h Refused = refl
  same_access t h (Marks th) = refl
  same_access t h (Loads c f) = refl
  same_access t h (Stores c w th) = refl
  same_access t h (Operates e f) = refl

  kept_free : (s : State T) → IsRaceFree m s → IsRaceFree (keeping m) (fresh s)
  kept_free s free k reached race =
      free (plain k)
      (reached.0, sym (ap (run m reached.0) (plain_fresh s)) ∙ sym (run_same m reached.0 (fresh s)) ∙ ap (option_map plain) reached.1)
      (record {
        first = race.first;
        second = race.second;
        differ = race.differ;
        first_state = race.first_state.thread;
        second_state = race.second_state.thread;
        first_is = slice_get-map (λ (x : Keeping T). x.thread) k.threads race.first ∙ ap (option_map (λ (x : Keeping T). x.thread)) race.first_is;
        second_is = slice_get-map (λ (x : Keeping T). x.thread) k.threads race.second ∙ ap (option_map (λ (x : Keeping T). x.thread)) race.second_is;
        conflict = subst (λ z. Conflict (access_of (m.effect (Go race.first) race.first_state.thread)) z) (same_access race.second race.second_state.events (m.effect (Go race.second) race.second_state.thread))
            (subst (λ z. Conflict z (access_of (kept_effect m race.second race.second_state.events (m.effect (Go race.second) race.second_state.thread)))) (same_access race.first race.first_state.events (m.effect (Go race.first) race.first_state.thread)) race.conflict);
      })

  kept_over : (k : State (Keeping T)) (s : State T) → plain k ≡ s → AllEnded m s → AllEnded (keeping m) k
  kept_over k s e over t x is = over t x.thread (ap (λ (z : State T). slice_get z.threads t) (sym e) ∙ slice_get-map (λ (z : Keeping T). z.thread) k.threads t ∙ ap (option_map (λ (z : Keeping T). z.thread)) is)

  pub same_events : (law : IsLawful m) (R Q : List Label) (s s1 s2 : State T) → IsRaceFree m s → run m R s ≡ Some s1 → run m Q s ≡ Some s2 → AllEnded m s1 → AllEnded m s2 → ((t : ℕ) → entries_of t (trace m R s) ≡ entries_of t (trace m Q s)) → (t : ℕ) → own_events m t R s ≡ own_events m t Q s
  same_events law R Q s s1 s2 free h k over1 over2 same t =
      let a = kept_run R s s1 h in
      let b = kept_run Q s s2 k in
      let lists : (u : ℕ) → entries_of u (trace (keeping m) R (fresh s)) ≡ entries_of u (trace (keeping m) Q (fresh s)) =
      λ u. ap (entries_of u) (trace_same m R (fresh s) ∙ ap (trace m R) (plain_fresh s)) ∙ same u ∙ sym (ap (entries_of u) (trace_same m Q (fresh s) ∙ ap (trace m Q) (plain_fresh s))) in
      let one : a.0 ≡ b.0 = converge (keeping m) (keeping_lawful m law) R Q (fresh s) a.0 b.0 (kept_free s free) a.1 b.1 (kept_over a.0 s1 a.2 over1) (kept_over b.0 s2 b.2 over2) lists in
      sym (whole R a.0 a.1) ∙ ap (history t) one ∙ whole Q b.0 b.1
    where
      whole : (P : List Label) (e : State (Keeping T)) → run (keeping m) P (fresh s) ≡ Some e → history t e ≡ own_events m t P s
      whole P e r = history_run m t P (fresh s) e r ∙ ap (λ z. z ++ own_events m t P (plain (fresh s))) (history_fresh t s) ∙ ap (own_events m t P) (plain_fresh s)
