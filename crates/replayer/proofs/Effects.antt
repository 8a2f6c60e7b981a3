-- What a label does with a thread whose next action is known.
use Rattle.std.proofs.Common.{◌≡◌, ℕ, ◌≤◌, Bool, true, false, refl, sym, ap, ◌∙◌, arith, nat_lt}
use Rattle.std.specs.Prelude.{if◌then◌else◌}
use Rattle.std.proofs.lemmas.Bool.Decides.{nat_tests}
use Rattle.sync_objects.specs.Names.{name_of}
use Rattle.sync_objects.specs.Setup.{SetupView}
use Rattle.sync_objects.specs.declared.entry.Entry.{Entry}
use Rattle.sync_objects.specs.declared.object.ObjId.{ObjId}
use Rattle.sync_objects.specs.declared.object.ObjId.TheVariants as object
use Rattle.sync_objects.specs.declared.operation.Op.{Op}
use Rattle.word_semantics.specs.declared.event.Action.{Action}
use Rattle.word_semantics.specs.declared.event.Action.TheVariants as action
use Rattle.flow_code.specs.declared.code.Code.{Code}
use Rattle.flow_code.specs.Settle.{settled, next}
use Rattle.core_run.specs.Machine.{Told, effect_of, action_effect, entry_of, may_revoke, may_stop, may_close}
use Rattle.core_run.specs.Words.{cells_of, has_object}
use Rattle.core_run.proofs.Lawful.{effect_go, effect_revoke, effect_stop, effect_close}
use Rattle.replay_theory.specs.Following.{IsNoStep}
use Rattle.run_theory.specs.Labels.{Go, Revoke, Stop, Close}
use Rattle.run_theory.specs.Steps.{Effect, Refused, Loads, Stores, Operates, Change}

-- ---- a choice between an effect and none

operates_no_step : (b : Bool) (e : Entry) (f : ℕ → Change Told) → IsNoStep (if b then Operates e f else Refused)
operates_no_step true e f = tt
operates_no_step false e f = tt

refused_no_step : (b : Bool) (f : Effect Told) → b ≡ false → IsNoStep (if b then f else Refused)
refused_no_step true f e = cc
refused_no_step false f e = tt

-- an operation that a choice makes is the one that may be chosen
if_operates : (b : Bool) (e0 e : Entry) (f change : ℕ → Change Told) → (if b then Operates e0 f else Refused) ≡ Operates e change → (b ≡ true) × (e0 ≡ e)
if_operates true e0 e f change is = (refl, cc)
if_operates false e0 e f change is = cc

if_loads : (b : Bool) (c : ℕ) (f : ℕ → Told) (e : Entry) (change : ℕ → Change Told) → (if b then Loads c f else Refused) ≡ Operates e change → ⊥
if_loads true c f e change is = cc
if_loads false c f e change is = cc

if_stores : (b : Bool) (c w : ℕ) (th : Told) (e : Entry) (change : ℕ → Change Told) → (if b then Stores c w th else Refused) ≡ Operates e change → ⊥
if_stores true c w th e change is = cc
if_stores false c w th e change is = cc

-- a choice that holds, of an operation
if_chosen : (b : Bool) (f : Effect Told) (e : Entry) (change : ℕ → Change Told) → (if b then f else Refused) ≡ Operates e change → (b ≡ true) × (f ≡ Operates e change)
if_chosen true f e change is = (refl, is)
if_chosen false f e change is = cc

not_less : (c n : ℕ) → n ≤ c → nat_lt c n ≡ false
not_less c n le = grind (arith, nat_tests, le)

module _ (code : Code) (s : SetupView) (t : ℕ) (told : Told) where
  abbrev pub rested : Rattle.flow_code.specs.Threads.Thread
  rested = settled code s t told.thread

  pub effect_here : (a : Action) → next code s t told.thread ≡ a → effect_of code s (Go t) told ≡ action_effect code s t told rested a
  effect_here a e = effect_go code s t told ∙ ap (action_effect code s t told rested) e

  -- ---- no load, store or mark

  pub operate_no_step : (o : Op) (obj : ObjId) → IsNoStep (action_effect code s t told rested (action.Operate o obj))
  operate_no_step o obj = operates_no_step (has_object code s obj) _ _

  pub load_no_step : (c : ℕ) → cells_of code s ≤ c → IsNoStep (action_effect code s t told rested (action.Load c))
  load_no_step c out = refused_no_step (nat_lt c (cells_of code s)) _ (not_less c (cells_of code s) out)

  pub store_no_step : (c w : ℕ) → cells_of code s ≤ c → IsNoStep (action_effect code s t told rested (action.Store c w))
  store_no_step c w out = refused_no_step (nat_lt c (cells_of code s)) _ (not_less c (cells_of code s) out)

  -- ---- which operation it is

  -- the thread's next action is an operation that adds this entry
  pub record Adds (a : Action) (e : Entry) : Type 0 where
    pub o : Op
    pub obj : ObjId
    pub is : a ≡ action.Operate o obj
    pub has : has_object code s obj ≡ true
    pub entry : entry_of t rested (name_of o) obj ≡ e

  pub adds : (a : Action) (e : Entry) (change : ℕ → Change Told) → action_effect code s t told rested a ≡ Operates e change → Adds a e
  adds action.Quiet e change is = cc
  adds (action.Load c) e change is = absurd (if_loads (nat_lt c (cells_of code s)) _ _ e change is)
  adds (action.Store c w) e change is = absurd (if_stores (nat_lt c (cells_of code s)) _ _ _ e change is)
  adds action.Mark e change is = cc
  adds (action.Operate o obj) e change is =
      let r = if_operates (has_object code s obj) _ e _ change is in
      record { o = o; obj = obj; is = refl; has = r.0; entry = r.1 }
  adds action.Ended e change is = cc

  pub revoke_adds : (lock stripe : ℕ) (e : Entry) (change : ℕ → Change Told) → effect_of code s (Revoke t lock stripe) told ≡ Operates e change → (may_revoke told.thread lock stripe ≡ true) × (has_object code s (object.Weak lock stripe) ≡ true)
  revoke_adds lock stripe e change is =
      let r = if_chosen (may_revoke told.thread lock stripe) _ e change (sym (effect_revoke code s t lock stripe told) ∙ is) in
      (r.0, (if_operates (has_object code s (object.Weak lock stripe)) _ e _ change r.1).0)

  pub stop_adds : (e : Entry) (change : ℕ → Change Told) → effect_of code s (Stop t) told ≡ Operates e change → (may_stop told.thread ≡ true) × (e.obj ≡ object.Halt)
  stop_adds e change is =
      let r = if_chosen (may_stop told.thread) _ e change (sym (effect_stop code s t told) ∙ is) in
      let q = if_operates true _ e _ change r.1 in
      (r.0, ap (λ (z : Entry). z.obj) (sym q.1))

  pub close_adds : (e : Entry) (change : ℕ → Change Told) → effect_of code s (Close t) told ≡ Operates e change → (may_close told.thread ≡ true) × (e.obj ≡ object.Slot t)
  close_adds e change is =
      let r = if_chosen (may_close told.thread) _ e change (sym (effect_close code s t told) ∙ is) in
      let q = if_operates (has_object code s (object.Slot t)) _ e _ change r.1 in
      (r.0, ap (λ (z : Entry). z.obj) (sym q.1))
