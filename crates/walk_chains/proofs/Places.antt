-- The access that a point names stands at one place of a walk.
use Rattle.std.proofs.Common.{◌≡◌, ◌≢◌, ℕ, suc, ◌<◌, ◌≤◌, ◌⊎◌, inl, inr, List, [], ◌∷◌, Option, Some, None, refl, sym, ap, ◌∙◌, arith}
use Rattle.std.specs.Prelude.{option_and_then, slice_get, slice_index}
use Rattle.std.proofs.lemmas.Option.{same_Some}
use Rattle.sync_objects.specs.Setup.{SetupView, IsWithinLimits}
use Rattle.sync_objects.specs.declared.entry.Entry.{Entry}
use Rattle.sync_objects.specs.declared.entry.Noted.{Noted}
use Rattle.flow_code.specs.declared.code.Code.{Code}
use Rattle.flow_code.specs.Settle.{IsRunnable}
use Rattle.core_run.specs.Machine.{Told, machine, start_state}
use Rattle.core_run.proofs.Lawful.{lawful}
use Rattle.run_theory.specs.Labels.{Label, label_thread}
use Rattle.run_theory.specs.Laws.{NoAccess}
use Rattle.run_theory.specs.Ordered.{Event, Did, effect_event, event_access, event_of_thread, operation_event, state_at}
use Rattle.run_theory.specs.Steps.{Change, NotAllowed, Becomes, Effect, Refused, Marks, Loads, Stores, Operates, Machine, State, stepped, run, count_of, effect_entry, entry_of_thread, number_at}
use Rattle.run_theory.proofs.Counts.{counted}
use Rattle.run_theory.proofs.Grows.{run_grows}
use Rattle.run_theory.proofs.InTime.{places}
use Rattle.lock_ownership.proofs.Stepping.{event_is_own, has_stepped}
use Rattle.lock_ownership.proofs.Turns.{place_at, along}
use Rattle.lowering_simulation.specs.WalkEvents.{labels_of_walk}
use Rattle.chain_report.specs.Accesses.{IsAccessOf}
use Rattle.chain_report.specs.Finds.{ComesFirst}
use Rattle.chain_report.specs.declared.point.Point.{Point}

-- an access is no operation, so it adds no entry
no_entry : {T : Type 0} (m : Machine T) (l : Label) (ws : List ℕ) (th : Option T) (x : Event) → event_access x ≢ NoAccess → event_of_thread m ws l th ≡ Some x → entry_of_thread m ws l th ≡ []
no_entry m l ws None x a e = cc
no_entry {T} m l ws (Some th) x a e = by (m.effect l th) e
  where
    did : (y : Noted) (v : ℕ) (c : Change T) → operation_event (label_thread l) y v c ≡ Some x → ⊥
    did y v NotAllowed q = cc
    did y v (Becomes word answer z) q = a (sym (ap event_access (same_Some (Did (label_thread l) y v answer) x q)))

    by : (f : Effect T) → effect_event m (label_thread l) ws f ≡ Some x → effect_entry m ws f ≡ []
    by Refused q = refl
    by (Marks y) q = refl
    by (Loads c next) q = refl
    by (Stores c v y) q = refl
    by (Operates entry f) q = absurd (did (record { entry = entry; number = number_at m ws entry.obj }) (slice_index ws (m.place entry.obj)) (f (slice_index ws (m.place entry.obj))) q)

module _ (code : Code) (s : SetupView) (run_ok : IsRunnable code) (limits : IsWithinLimits s) (es : List Entry) where
  -- a count never falls from one place to a later one
  grows : (t i j : ℕ) (a b : State Told) → i ≤ j → state_at (machine code s) (labels_of_walk code s es) (start_state code s) i ≡ Some a → state_at (machine code s) (labels_of_walk code s es) (start_state code s) j ≡ Some b → count_of (machine code s) a t ≤ count_of (machine code s) b t
  grows t i j a b le e f =
      along code s (λ x y. count_of (machine code s) x t ≤ count_of (machine code s) y t)
      (λ x. omega arith)
      (λ x y z p q. omega (arith, p, q))
      (λ x y l r h. run_grows (machine code s) (lawful code s run_ok limits) (l ∷ []) x y t (one x y l h))
      (labels_of_walk code s es) (start_state code s) a b i j ([], refl) le e f
    where
      one : (x y : State Told) (l : Label) → stepped (machine code s) x l ≡ Some y → run (machine code s) (l ∷ []) x ≡ Some y
      one x y l h = ap (λ o. option_and_then (run (machine code s) []) o) h

  -- an access raises its thread's count, so at a later place this is above the point's
  never_later : (p : Point) (i j : ℕ) → IsAccessOf code s es p i → IsAccessOf code s es p j → i < j → ⊥
  never_later p i j h g lt =
      let m = machine code s in
      let q = place_at code s (labels_of_walk code s es) (start_state code s) i h.event ([], refl) h.happens in
      let same : q.before ≡ h.before = same_Some q.before h.before (sym q.at ∙ h.stands) in
      let own : label_thread q.label ≡ p.thread = sym (event_is_own code s q.before q.after q.label (has_stepped code s q.before q.after q.label q.steps) h.event q.event) ∙ h.own in
      let none = no_entry m q.label q.before.words (slice_get q.before.threads (label_thread q.label)) h.event h.accesses q.event in
      let risen = counted m (lawful code s run_ok limits) q.label q.before q.after q.steps none in
      let after : count_of m q.after p.thread ≡ suc p.count =
      ap (count_of m q.after) (sym own) ∙ risen ∙ ap suc (ap (count_of m q.before) own ∙ ap (λ z. count_of m z p.thread) same ∙ h.counted) in
      let grown = grows p.thread (suc i) j q.after g.before (omega (arith, lt)) q.next g.stands in
      absurd (omega (arith, grown, after, g.counted))

  one_place : (p : Point) (i j : ℕ) → IsAccessOf code s es p i → IsAccessOf code s es p j → i ≡ j
  one_place p i j h g = by (places i j)
    where
      by : (i < j) ⊎ ((i ≡ j) ⊎ (j < i)) → i ≡ j
      by (inl lt) = absurd (never_later p i j h g lt)
      by (inr (inl e)) = e
      by (inr (inr gt)) = absurd (never_later p j i g h gt)

  -- so one of two points comes first
  pub one_way : (p q : Point) → ComesFirst code s es p q → ComesFirst code s es q p → ⊥
  one_way p q h g =
      let first = one_place p h.i g.j h.first_at g.second_at in
      let second = one_place q h.j g.i h.second_at g.first_at in
      absurd (omega (arith, first, second, h.earlier, g.earlier))
