-- Where the machine has the cell of each load and store that comes next, no thread of a resumed walk comes to one that it lacks.
use Rattle.std.proofs.Common.{◌≡◌, ℕ, zero, suc, ◌+◌, ◌-◌, ◌<◌, ◌⊎◌, inl, inr, Bool, true, false, not, if◌then◌else◌, nat_lt, List, [], ◌∷◌, ◌++◌, take, Option, Some, None, refl, sym, ap, subst, ◌∙◌}
use Rattle.std.specs.Prelude.{slice_get, option_and_then}
use Rattle.std.proofs.lemmas.Bool.{true≢false, not-true}
use Rattle.std.proofs.lemmas.Option.{same_Some}
use Rattle.sync_objects.specs.Setup.{SetupView}
use Rattle.sync_objects.specs.declared.entry.Entry.{Entry}
use Rattle.sync_objects.specs.declared.entry.Noted.{Noted}
use Rattle.flow_code.specs.declared.code.Code.{Code}
use Rattle.flow_code.specs.Next.{action_at}
use Rattle.flow_code.specs.Settle.{settled, next}
use Rattle.word_semantics.specs.declared.event.Action.{Action}
use Rattle.word_semantics.specs.declared.event.Action.TheVariants as action
use Rattle.core_run.specs.Histories.{HasItsCells, IsReachable}
use Rattle.core_run.specs.Machine.{Told, action_effect, effect_of, machine, start_state}
use Rattle.core_run.specs.Outside.{is_outside, ComesOutside, GoesOutside, IsOutside}
use Rattle.core_run.specs.Walks.{walk_of}
use Rattle.core_run.specs.Words.{cells_of}
use Rattle.core_run.proofs.Lawful.{effect_go}
use Rattle.flow_code.proofs.Counts.{ended_action}
use Rattle.run_theory.specs.Labels.{Go}
use Rattle.run_theory.specs.Steps.{Effect, Refused, State, stepped, added, count_of}
use Rattle.run_theory.specs.Walk.{if_nothing, alone}
use Rattle.run_theory.proofs.Kept.{reaches_step}
use Rattle.checkpoint.specs.Going.{LacksCell}
use Rattle.checkpoint.proofs.Simulation.{SameOption, alone_same, walk_same}
use Rattle.checkpoint.proofs.Following.{SameThread, Follows, NonePast, Beside, BothBeside, ended_settles, effects_same, counts_same}
use Rattle.checkpoint.proofs.Aside.{walk_more}

module _ (code : Code) (s : SetupView) where
  -- a thread's own steps lead to states that can be reached
  alone_reached : (n t : ℕ) (st st1 : State Told) → IsReachable code s st → alone (machine code s) n t st ≡ Some st1 → IsReachable code s st1
  alone_reached zero t st st1 r e = subst (IsReachable code s) (same_Some st st1 e) r
  alone_reached (suc n) t st st1 r e = go (added (machine code s) st (Go t)) (stepped (machine code s) st (Go t)) refl e (λ mid. alone_reached n t mid st1)
    where
      go : (xs : List Noted) (o : Option (State Told)) → stepped (machine code s) st (Go t) ≡ o → if_nothing xs (option_and_then (alone (machine code s) n t) o) ≡ Some st1 → ((mid : State Told) → IsReachable code s mid → alone (machine code s) n t mid ≡ Some st1 → IsReachable code s st1) → IsReachable code s st1
      go [] None f g again = cc
      go [] (Some mid) f g again = again mid (reaches_step (machine code s) (start_state code s) st mid (Go t) r f) g
      go (x ∷ xs) o f g again = cc

  if_lacks : (b : Bool) (e : Effect Told) → b ≡ false → (if b then e else Refused) ≡ Refused
  if_lacks true e h = cc
  if_lacks false e h = refl

  -- the machine refuses an action at a cell that it lacks
  refuses : (t : ℕ) (told : Told) (a : Action) → is_outside code s a ≡ true → action_effect code s t told (settled code s t told.thread) a ≡ Refused
  refuses t told action.Quiet h = refl
  refuses t told (action.Load c) h = if_lacks (nat_lt c (cells_of code s)) _ (not-true (nat_lt c (cells_of code s)) h)
  refuses t told (action.Store c w) h = if_lacks (nat_lt c (cells_of code s)) _ (not-true (nat_lt c (cells_of code s)) h)
  refuses t told (action.Operate o obj) h = absurd (true≢false (sym h))
  refuses t told action.Mark h = absurd (true≢false (sym h))
  refuses t told action.Ended h = refl

  never_outside : HasItsCells code s → (st : State Told) (t : ℕ) → IsReachable code s st → ComesOutside code s t st → ⊥
  never_outside has st t r c =
      let refused = effect_go code s t c.told ∙ refuses t c.told (next code s t c.told.thread) c.outside in
      let ended : next code s t c.told.thread ≡ action.Ended = has st t c.told r c.at refused in
      true≢false (sym c.outside ∙ ap (is_outside code s) ended)

  module _ (past : ℕ → List (List ℕ)) where
    -- a thread that comes outside in the one state does in the other
    outside_option : (t : ℕ) (o p : Option Told) → SameOption (machine code s) (Follows past) (NonePast past) t o p → (y : Told) → p ≡ Some y → is_outside code s (next code s t y.thread) ≡ true → (x : Told) × (o ≡ Some x) × (is_outside code s (next code s t x.thread) ≡ true)
    outside_option t None None h y e out = cc
    outside_option t None (Some b) h y e out = absurd h
    outside_option t (Some a) None h y e out = absurd h
    outside_option t (Some a) (Some b) h y e out = (a, refl, by h.thread (subst (λ (z : Told). is_outside code s (next code s t z.thread) ≡ true) (sym (same_Some b y e)) out))
      where
        by : SameThread a.thread b.thread → is_outside code s (next code s t b.thread) ≡ true → is_outside code s (next code s t a.thread) ≡ true
        by (inl same) k = subst (λ z. is_outside code s (next code s t z) ≡ true) (sym same) k
        by (inr e) k = absurd (true≢false (sym k ∙ ap (is_outside code s) (ended_action code s t (settled code s t b.thread) (ended_settles code s t b.thread e.second))))

    some_here : (o p : Option (State Told)) (b : State Told) → BothBeside code s past o p → p ≡ Some b → (a : State Told) × (o ≡ Some a) × Beside code s past a b
    some_here None None b h e = cc
    some_here None (Some y) b h e = absurd h
    some_here (Some x) None b h e = absurd h
    some_here (Some x) (Some y) b h e = (x, refl, subst (Beside code s past x) (same_Some y b e) h)

    -- no thread of a walk beside one from the start comes outside
    pub lacks_none : HasItsCells code s → (st from : State Told) (es : List Entry) → IsReachable code s st → Beside code s past st from → (t : ℕ) → LacksCell code s from es t → ⊥
    lacks_none has st from es r h t c =
        let m = machine code s in
        let w = some_here (walk_of code s (take c.at es) st) (walk_of code s (take c.at es) from) c.before (walk_same m (Follows past) (NonePast past) (effects_same code s past) (counts_same code s past) (take c.at es) st from h) c.front in
        let g = c.outside in
        let a = some_here (alone m g.steps c.entry.thread w.0) (alone m g.steps c.entry.thread c.before) g.last (alone_same m (Follows past) (NonePast past) (effects_same code s past) (counts_same code s past) g.steps c.entry.thread w.0 c.before w.2) g.goes in
        let x = outside_option c.entry.thread (slice_get a.0.threads c.entry.thread) (slice_get g.last.threads c.entry.thread) (a.2.threads c.entry.thread) g.comes.told g.comes.at g.comes.outside in
        never_outside has a.0 c.entry.thread (alone_reached g.steps c.entry.thread w.0 a.0 (walk_more code s (take c.at es) st w.0 r w.1) a.1) (record { told = x.0; at = x.1; outside = x.2 })
