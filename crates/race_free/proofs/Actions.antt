-- The access that a thread's next action is, in a code and in the code without its weak locks.
use Rattle.std.proofs.Common.{◌≡◌, ℕ, Bool, true, false, refl, ap, ◌∙◌}
use Rattle.std.specs.Prelude.{nat_lt, if◌then◌else◌}
use Rattle.sync_objects.specs.Setup.{SetupView}
use Rattle.sync_objects.specs.declared.entry.Entry.{Entry}
use Rattle.word_semantics.specs.declared.event.Action.{Action}
use Rattle.word_semantics.specs.declared.event.Action.TheVariants as action
use Rattle.flow_code.specs.declared.code.Code.{Code}
use Rattle.flow_code.specs.Settle.{next, settled}
use Rattle.flow_code.specs.Threads.{Thread}
use Rattle.core_run.specs.Machine.{Told, effect_of, action_effect}
use Rattle.core_run.specs.Words.{cells_of, has_object}
use Rattle.core_run.proofs.Lawful.{effect_go}
use Rattle.run_theory.specs.Labels.{Go}
use Rattle.run_theory.specs.Laws.{Access, NoAccess, LoadOf, StoreOf, Conflict, access_of}
use Rattle.run_theory.specs.Steps.{Refused, Loads, Stores, Operates, Change}
use Rattle.erased_states.specs.States.{IsAccess}

-- the access that an action is, where there are so many cells
abbrev pub access_by : ℕ → Action → Access
access_by n (action.Load c) = if nat_lt c n then LoadOf c else NoAccess
access_by n (action.Store c w) = if nat_lt c n then StoreOf c else NoAccess
access_by n action.Quiet = NoAccess
access_by n action.Mark = NoAccess
access_by n action.Ended = NoAccess
access_by n (action.Operate o obj) = NoAccess

loads : {T : Type 0} (b : Bool) (c : ℕ) (f : ℕ → T) → access_of (if b then Loads c f else Refused) ≡ (if b then LoadOf c else NoAccess)
loads true c f = refl
loads false c f = refl

stores : {T : Type 0} (b : Bool) (c w : ℕ) (th : T) → access_of (if b then Stores c w th else Refused) ≡ (if b then StoreOf c else NoAccess)
stores true c w th = refl
stores false c w th = refl

operates : {T : Type 0} (b : Bool) (e : Entry) (f : ℕ → Change T) → access_of (if b then Operates e f else Refused) ≡ NoAccess
operates true e f = refl
operates false e f = refl

of_action : (code : Code) (s : SetupView) (t : ℕ) (told : Told) (th : Thread) (a : Action) → access_of (action_effect code s t told th a) ≡ access_by (cells_of code s) a
of_action code s t told th action.Quiet = refl
of_action code s t told th (action.Load c) = loads (nat_lt c (cells_of code s)) c _
of_action code s t told th (action.Store c w) = stores (nat_lt c (cells_of code s)) c w _
of_action code s t told th action.Mark = refl
of_action code s t told th (action.Operate o obj) = operates (has_object code s obj) _ _
of_action code s t told th action.Ended = refl

pub access_is : (code : Code) (s : SetupView) (t : ℕ) (told : Told) → access_of (effect_of code s (Go t) told) ≡ access_by (cells_of code s) (next code s t told.thread)
access_is code s t told = ap access_of (effect_go code s t told) ∙ of_action code s t told (settled code s t told.thread) (next code s t told.thread)

-- ---- conflicts

none_first : (x : Access) → Conflict NoAccess x → ⊥
none_first NoAccess h = h
none_first (LoadOf c) h = h
none_first (StoreOf c) h = h

none_second : (x : Access) → Conflict x NoAccess → ⊥
none_second NoAccess h = h
none_second (LoadOf c) h = h
none_second (StoreOf c) h = h

-- only accesses conflict
pub first_is : (n : ℕ) (a : Action) (x : Access) → Conflict (access_by n a) x → IsAccess a
first_is n (action.Load c) x h = tt
first_is n (action.Store c w) x h = tt
first_is n action.Quiet x h = none_first x h
first_is n action.Mark x h = none_first x h
first_is n action.Ended x h = none_first x h
first_is n (action.Operate o obj) x h = none_first x h

pub second_is : (n : ℕ) (x : Access) (a : Action) → Conflict x (access_by n a) → IsAccess a
second_is n x (action.Load c) h = tt
second_is n x (action.Store c w) h = tt
second_is n x action.Quiet h = none_second x h
second_is n x action.Mark h = none_second x h
second_is n x action.Ended h = none_second x h
second_is n x (action.Operate o obj) h = none_second x h
