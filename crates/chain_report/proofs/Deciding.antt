-- Of two conflicting accesses exactly one comes first, and a chain leads from it to the other.
use Rattle.std.proofs.Common.{◌≡◌, ◌≢◌, ℕ, ◌<◌, ◌==◌, ◌&&◌, ◌||◌, ◌⊎◌, inl, inr, ⊎_elim, Bool, true, false, if◌then◌else◌, List, Option, Some, None, refl, sym, ap, subst, ◌∙◌}
use Rattle.std.proofs.lemmas.Bool.{true≢false, and_parts, eqb-true, eq-eqb}
use Rattle.std.proofs.lemmas.Option.{same_Some}
use Rattle.sync_objects.specs.Setup.{SetupView, IsWithinLimits}
use Rattle.sync_objects.specs.declared.entry.Entry.{Entry}
use Rattle.flow_code.specs.declared.code.Code.{Code}
use Rattle.thread_interpreter.specs.declared.access.Access.{Access}
use Rattle.core_run.specs.Machine.{Told, machine, start_state}
use Rattle.core_run.specs.Walks.{walk_of}
use Rattle.lock_sound.specs.Weakened.{Analysed, IsAnalysed}
use Rattle.lock_sound.proofs.Running.{weakened_runs}
use Rattle.run_theory.specs.Laws.{LoadOf, StoreOf, Conflict}
use Rattle.run_theory.specs.Laws as laws
use Rattle.run_theory.specs.Ordered.{event_access, event_at, event_thread, Ordered}
use Rattle.run_theory.specs.Steps.{State}
use Rattle.run_theory.proofs.InTime.{ordered_in_time, places}
use Rattle.core_run.proofs.Lawful.{lawful}
use Rattle.lowering_simulation.specs.WalkEvents.{labels_of_walk}
use Rattle.lowering_simulation.proofs.WalkRuns.{walk_is_run}
use Rattle.happens_before.proofs.Ordering.{ordered}
use Rattle.walk_accesses.specs.Accesses.{IsMadeAt, AccessIs}
use Rattle.chain_report.specs.Accesses.{IsAccessOf}
use Rattle.chain_report.specs.Chains.{is_chain}
use Rattle.chain_report.specs.Finds.{AreConflicting, ConflictIs, ComesFirst, IsRight}
use Rattle.chain_report.specs.declared.point.Point.{Point}
use Rattle.chain_report.proofs.Exists.{chain_exists}
use Rattle.chain_report.proofs.MadeAt.{touched, Found, found_at}
use Rattle.chain_report.proofs.Ordering.{chain_orders}

or_turned : (a b : Bool) → (a || b) ≡ true → (b || a) ≡ true
or_turned true true e = refl
or_turned true false e = refl
or_turned false true e = refl
or_turned false false e = e

module _ (code : Code) (s : SetupView) (es : List Entry) where
  pub one_thread : (p q : Point) → p.thread ≡ q.thread → ConflictIs code s es p q false
  one_thread p q same = λ c. c.apart same

  pub no_first : (p q : Point) → AccessIs code s es p.thread p.count None → ConflictIs code s es p q false
  no_first p q none = λ c. none c.first c.first_is

  pub no_second : (p q : Point) → AccessIs code s es q.thread q.count None → ConflictIs code s es p q false
  no_second p q none = λ c. none c.second c.second_is

  pub decided : (p q : Point) (a b : Access) → p.thread ≢ q.thread → AccessIs code s es p.thread p.count (Some a) → AccessIs code s es q.thread q.count (Some b) → ConflictIs code s es p q ((a.cell == b.cell) && (a.store || b.store))
  decided p q a b apart first second = by ((a.cell == b.cell) && (a.store || b.store)) refl
    where
      by : (v : Bool) → ((a.cell == b.cell) && (a.store || b.store)) ≡ v → ConflictIs code s es p q v
      by true e =
          let parts = and_parts (a.cell == b.cell) (a.store || b.store) e in
          record { first = a; first_is = first.0; second = b; second_is = second.0; apart = apart; one_cell = eqb-true a.cell b.cell parts.0; one_stores = parts.1 }
      by false e = λ c.
          let x = first.1 c.first c.first_is in
          let y = second.1 c.second c.second_is in
          let cells : a.cell ≡ b.cell = ap (λ (z : Access). z.cell) (sym x) ∙ c.one_cell ∙ ap (λ (z : Access). z.cell) y in
          let stores : (a.store || b.store) ≡ true = ap (λ (z : Access). z.store || b.store) (sym x) ∙ ap (λ (z : Access). c.first.store || z.store) (sym y) ∙ c.one_stores in
          true≢false (sym (ap (λ z. z && (a.store || b.store)) (eq-eqb a.cell b.cell cells) ∙ stores) ∙ e)

  -- the other way round
  pub turned : (p q : Point) → AreConflicting code s es p q → AreConflicting code s es q p
  turned p q c = record {
    first = c.second;
    first_is = c.second_is;
    second = c.first;
    second_is = c.first_is;
    apart = λ e. c.apart (sym e);
    one_cell = sym c.one_cell;
    one_stores = or_turned c.first.store c.second.store c.one_stores;
  }

conflicts : (a b : Access) → a.cell ≡ b.cell → (a.store || b.store) ≡ true → Conflict (touched a) (touched b)
conflicts a b cell some = by a.store b.store some
  where
    by : (x y : Bool) → (x || y) ≡ true → Conflict (if x then StoreOf a.cell else LoadOf a.cell) (if y then StoreOf b.cell else LoadOf b.cell)
    by true true e = cell
    by true false e = cell
    by false true e = cell
    by false false e = cc

module _ (a : Analysed) (s : SetupView) (es : List Entry) (h : IsAnalysed a) (limits : IsWithinLimits s) (right : IsRight a.weak s es) where
  abbrev code : Code
  code = a.weak

  -- the accesses between which a chain leads are in this order
  pub comes_first : (p q : Point) (given : List (ℕ × ℕ)) → AreConflicting code s es p q → is_chain es p q given ≡ true → ComesFirst code s es p q
  comes_first p q given c chain =
      let x = found_at code s es p c.first c.first_is in
      let y = found_at code s es q c.second c.second_is in
      record {
        i = x.i;
        j = y.i;
        first_at = x.is;
        second_at = y.is;
        earlier = ordered_in_time (machine code s) (lawful code s (weakened_runs a h) limits) (labels_of_walk code s es) (start_state code s) x.i y.i
            (chain_orders code s es p q given (weakened_runs a h) limits chain right.0 x.i y.i right.1.walked x.is y.is);
      }

  -- a chain leads one way or the other
  pub one_way : (p q : Point) → AreConflicting code s es p q → ((given : List (ℕ × ℕ)) → is_chain es p q given ≡ true → ⊥) → ((given : List (ℕ × ℕ)) → is_chain es q p given ≡ true → ⊥) → ⊥
  one_way p q c none back = by (places x.i y.i)
    where
      x : Found code s es p c.first
      x = found_at code s es p c.first c.first_is

      y : Found code s es q c.second
      y = found_at code s es q c.second c.second_is

      apart : event_thread x.is.event ≢ event_thread y.is.event
      apart e = c.apart (sym x.is.own ∙ e ∙ y.is.own)

      touch : Conflict (event_access x.is.event) (event_access y.is.event)
      touch = subst (λ z. Conflict z (event_access y.is.event)) (sym x.touches) (subst (Conflict (touched c.first)) (sym y.touches) (conflicts c.first c.second c.one_cell c.one_stores))

      touch_back : Conflict (event_access y.is.event) (event_access x.is.event)
      touch_back = subst (λ z. Conflict z (event_access x.is.event)) (sym y.touches) (subst (Conflict (touched c.second)) (sym x.touches) (conflicts c.second c.first (sym c.one_cell) (or_turned c.first.store c.second.store c.one_stores)))

      by : (x.i < y.i) ⊎ ((x.i ≡ y.i) ⊎ (y.i < x.i)) → ⊥
      by (inl lt) =
          let g = chain_exists code s es right.0 p q x.i y.i (weakened_runs a h) limits right.1.walked x.is y.is
          (ordered a s (labels_of_walk code s es) x.i y.i x.is.event y.is.event right.0 h limits (walk_is_run code s es right.0 right.1.walked) lt x.is.happens y.is.happens apart touch) in
          none g.0 g.1
      by (inr (inl same)) =
          apart (ap event_thread (same_Some x.is.event y.is.event (sym x.is.happens ∙ ap (event_at (machine code s) (labels_of_walk code s es) (start_state code s)) same ∙ y.is.happens)))
      by (inr (inr lt)) =
          let g = chain_exists code s es right.0 q p y.i x.i (weakened_runs a h) limits right.1.walked y.is x.is
          (ordered a s (labels_of_walk code s es) y.i x.i y.is.event x.is.event right.0 h limits (walk_is_run code s es right.0 right.1.walked) lt y.is.happens x.is.happens (λ e. apart (sym e)) touch_back) in
          back g.0 g.1
