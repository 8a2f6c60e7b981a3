-- An access that happens in a run is the next action of its thread.
use Rattle.std.proofs.Common.{◌≡◌, ◌≢◌, ℕ, nat_lt, ◌||◌, Bool, true, false, if◌then◌else◌, List, Option, Some, None, refl, sym, ap, subst, ◌∙◌}
use Rattle.std.specs.Prelude.{slice_get, slice_index}
use Rattle.std.proofs.lemmas.Option.{same_Some}
use Rattle.sync_objects.specs.Setup.{SetupView, IsWithinLimits}
use Rattle.sync_objects.specs.declared.entry.Noted.{Noted}
use Rattle.word_semantics.specs.declared.event.Action.{Action}
use Rattle.word_semantics.specs.declared.event.Action.TheVariants as action
use Rattle.flow_code.specs.declared.code.Code.{Code}
use Rattle.flow_code.specs.Settle.{IsRunnable, next}
use Rattle.core_run.specs.Machine.{Told, effect_of, machine}
use Rattle.core_run.specs.Words.{cells_of, place_of}
use Rattle.core_run.proofs.Lawful.{lawful}
use Rattle.lock_ownership.specs.HandOffs.{IsNoOpening}
use Rattle.run_theory.specs.Labels.{Label, Go, label_thread}
use Rattle.run_theory.specs.Laws.{Access, NoAccess, LoadOf, StoreOf, Conflict, access_of, IsLawfulEffect}
use Rattle.run_theory.specs.Ordered.{Event, Marked, Loaded, Stored, Did, event_thread, event_access, operation_event, effect_event, event_of_thread, event_of}
use Rattle.run_theory.specs.Steps.{Change, NotAllowed, Becomes, Effect, Refused, Marks, Loads, Stores, Operates, State, number_at}
use Rattle.access_cells.specs.Accesses.{names_cell}
use Rattle.erased_states.specs.States.{IsAccess}
use Rattle.race_free.proofs.Actions.{access_by, access_is}

-- ---- the access that happens

-- the event in this state is an access, and the next action of its thread is that access
pub record Acts (code : Code) (s : SetupView) (st : State Told) (l : Label) (x : Event) : Type 0 where
  pub told : Told
  pub at : slice_get st.threads (event_thread x) ≡ Some told
  pub label : l ≡ Go (event_thread x)
  pub access : event_access x ≡ access_by (cells_of code s) (next code s (event_thread x) told.thread)

operates_none : (t : ℕ) (n : Noted) (w : ℕ) (c : Change Told) (x : Event) → operation_event t n w c ≡ Some x → event_access x ≡ NoAccess
operates_none t n w NotAllowed x e = cc
operates_none t n w (Becomes v answer th) x e = sym (ap event_access (same_Some (Did t n w answer) x e))

module _ (code : Code) (s : SetupView) (run : IsRunnable code) (limits : IsWithinLimits s) where
  shown : (l : Label) (told : Told) (ws : List ℕ) (f : Effect Told) (x : Event) → IsLawfulEffect (machine code s) l told f → effect_event (machine code s) (label_thread l) ws f ≡ Some x → event_access x ≢ NoAccess →
      (l ≡ Go (label_thread l)) × (event_thread x ≡ label_thread l) × (event_access x ≡ access_of f)
  shown l told ws Refused x h e some = cc
  shown l told ws (Marks th) x h e some = absurd (some (sym (ap event_access (same_Some (Marked (label_thread l)) x e))))
  shown l told ws (Loads c f) x h e some = let i = same_Some (Loaded (label_thread l) c) x e in (h.0, sym (ap event_thread i), sym (ap event_access i))
  shown l told ws (Stores c w th) x h e some = let i = same_Some (Stored (label_thread l) c) x e in (h.0, sym (ap event_thread i), sym (ap event_access i))
  shown l told ws (Operates entry f) x h e some =
      absurd (some (operates_none (label_thread l) (record { entry = entry; number = number_at (machine code s) ws entry.obj }) (slice_index ws (place_of (cells_of code s) entry.obj)) (f (slice_index ws (place_of (cells_of code s) entry.obj))) x e))

  pub acts : (st : State Told) (l : Label) (x : Event) → event_of (machine code s) st l ≡ Some x → event_access x ≢ NoAccess → Acts code s st l x
  acts st l x e some = by (slice_get st.threads (label_thread l)) refl e
    where
      by : (o : Option Told) → slice_get st.threads (label_thread l) ≡ o → event_of_thread (machine code s) st.words l o ≡ Some x → Acts code s st l x
      by None at e = cc
      by (Some told) at e =
          let i = shown l told st.words (effect_of code s l told) x ((lawful code s run limits).effects l told) e some in
          let own : l ≡ Go (event_thread x) = i.0 ∙ ap Go (sym i.1) in
          record { told = told; at = ap (slice_get st.threads) i.1 ∙ at; label = own; access = i.2 ∙ ap (λ k. access_of (effect_of code s k told)) own ∙ access_is code s (event_thread x) told }

-- an access is no begin
pub opens_none : (x : Event) → event_access x ≢ NoAccess → IsNoOpening x
opens_none (Marked t) some = tt
opens_none (Loaded t c) some = tt
opens_none (Stored t c) some = tt
opens_none (Did t n w answer) some = absurd (some refl)

-- ---- conflicts

pub first_some : (x y : Access) → Conflict x y → x ≢ NoAccess
first_some NoAccess NoAccess h e = h
first_some NoAccess (LoadOf d) h e = h
first_some NoAccess (StoreOf d) h e = h
first_some (LoadOf c) y h e = cc
first_some (StoreOf c) y h e = cc

pub second_some : (x y : Access) → Conflict x y → y ≢ NoAccess
second_some NoAccess NoAccess h e = h
second_some (LoadOf c) NoAccess h e = h
second_some (StoreOf c) NoAccess h e = h
second_some x (LoadOf d) h e = cc
second_some x (StoreOf d) h e = cc

abbrev kind_of : Bool → ℕ → Access
kind_of false c = LoadOf c
kind_of true c = StoreOf c

-- an action that is an access names its cell
data Shows (a : Action) (x : Access) : Type 0 where
  nothing : x ≡ NoAccess → Shows a x
  cell : (c : ℕ) (store : Bool) → names_cell a ≡ Some (c, store) → x ≡ kind_of store c → Shows a x

shows : (n : ℕ) (a : Action) → Shows a (access_by n a)
shows n (action.Load c) = by (nat_lt c n)
  where
    by : (b : Bool) → Shows (action.Load c) (if b then LoadOf c else NoAccess)
    by true = cell c false refl refl
    by false = nothing refl
shows n (action.Store c w) = by (nat_lt c n)
  where
    by : (b : Bool) → Shows (action.Store c w) (if b then StoreOf c else NoAccess)
    by true = cell c true refl refl
    by false = nothing refl
shows n action.Quiet = nothing refl
shows n action.Mark = nothing refl
shows n action.Ended = nothing refl
shows n (action.Operate o obj) = nothing refl

-- two actions that name one cell, one of which stores
pub record NameOne (a b : Action) : Type 0 where
  pub cell : ℕ
  pub first_stores : Bool
  pub second_stores : Bool
  pub first : names_cell a ≡ Some (cell, first_stores)
  pub second : names_cell b ≡ Some (cell, second_stores)
  pub one_stores : (first_stores || second_stores) ≡ true

same_cell : (c d : ℕ) (a b : Bool) → Conflict (kind_of a c) (kind_of b d) → (c ≡ d) × ((a || b) ≡ true)
same_cell c d false false h = absurd h
same_cell c d false true h = (h, refl)
same_cell c d true false h = (h, refl)
same_cell c d true true h = (h, refl)

by_shown : (a b : Action) (x y : Access) → Shows a x → Shows b y → Conflict x y → NameOne a b
by_shown a b x y (nothing e) q h = absurd (first_some x y h e)
by_shown a b x y (cell c k n e) (nothing f) h = absurd (second_some x y h f)
by_shown a b x y (cell c k n e) (cell d m i f) h =
    let same = same_cell c d k m (subst (λ z. Conflict z (kind_of m d)) e (subst (Conflict x) f h)) in
    record { cell = c; first_stores = k; second_stores = m; first = n; second = subst (λ j. names_cell b ≡ Some (j, m)) (sym same.0) i; one_stores = same.1 }

pub name_one : (n : ℕ) (a b : Action) → Conflict (access_by n a) (access_by n b) → NameOne a b
name_one n a b h = by_shown a b (access_by n a) (access_by n b) (shows n a) (shows n b) h

-- what names a cell is an access
pub names_access : (a : Action) (c : ℕ) (store : Bool) → names_cell a ≡ Some (c, store) → IsAccess a
names_access (action.Load k) c store e = tt
names_access (action.Store k w) c store e = tt
names_access action.Quiet c store e = cc
names_access action.Mark c store e = cc
names_access (action.Operate o obj) c store e = cc
names_access action.Ended c store e = cc
