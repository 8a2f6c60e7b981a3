-- Next actions that conflict are accesses of the program, of one cell of one object.
use Rattle.std.proofs.Common.{◌≡◌, ◌≢◌, ℕ, ◌*◌, ◌<◌, nat_lt, ⊎_elim, ◌||◌, Bool, true, false, if◌then◌else◌, List, Some, refl, sym, ap, subst, ◌∙◌, pos, arith}
use Rattle.std.specs.Prelude.{slice_get}
use Rattle.std.proofs.lemmas.Bool.{true≢false}
use Rattle.rr_base.specs.Words.{class_of}
use Rattle.sync_objects.specs.Setup.{SetupView}
use Rattle.word_semantics.specs.Values.{number}
use Rattle.word_semantics.specs.declared.event.Action.{Action}
use Rattle.word_semantics.specs.declared.event.Action.TheVariants as action
use Rattle.flow_code.specs.declared.code.Code.{Code}
use Rattle.flow_code.specs.Next.{action_at, stepped}
use Rattle.flow_code.specs.Settle.{settled}
use Rattle.flow_code.specs.Threads.{Thread}
use Rattle.core_run.specs.Histories.{IsReachable}
use Rattle.core_run.specs.Machine.{Told, accessed, access_of as told_access, action_effect, effect_of}
use Rattle.core_run.specs.Words.{cells_of, has_object}
use Rattle.core_run.proofs.Lawful.{effect_go}
use Rattle.facts.specs.PointsTo.{place, element_of, MayPoint}
use Rattle.facts.specs.declared.constraint.Node.TheVariants.{Register}
use Rattle.run_theory.specs.Labels.{Go}
use Rattle.run_theory.specs.Laws.{Access, NoAccess, LoadOf, StoreOf, Conflict, access_of}
use Rattle.run_theory.specs.Steps.{Effect, Refused, Loads, Stores, State}
use Rattle.points_to_sound.specs.Objects.{Object}
use Rattle.points_to_sound.specs.States.{PointsWell}
use Rattle.points_to_sound.proofs.Settling.{Sets}
use Rattle.access_cells.specs.Accesses.{names_cell, IsAccess, at_rest, Meet}
use Rattle.access_cells.proofs.Found.{names, low, first_loads}

-- ---- the access of an action

abbrev kind_of_access : Bool → ℕ → Access
kind_of_access false c = LoadOf c
kind_of_access true c = StoreOf c

-- an effect that accesses a cell comes of an action that names it
data Shows (a : Action) (x : Access) : Type 0 where
  nothing : x ≡ NoAccess → Shows a x
  cell : (c : ℕ) (store : Bool) → names_cell a ≡ Some (c, store) → x ≡ kind_of_access store c → Shows a x

module _ (code : Code) (s : SetupView) (t : ℕ) (told : Told) (th : Thread) where
  shows : (a : Action) → Shows a (access_of (action_effect code s t told th a))
  shows action.Quiet = nothing refl
  shows action.Mark = nothing refl
  shows action.Ended = nothing refl
  shows (action.Load c) = by (nat_lt c (cells_of code s))
    where
      by : (b : Bool) → Shows (action.Load c) (access_of (if b then Loads c (λ w. accessed told (stepped code s t th (number w)) (told_access t th c w false)) else Refused))
      by true = cell c false refl refl
      by false = nothing refl
  shows (action.Store c w) = by (nat_lt c (cells_of code s))
    where
      by : (b : Bool) → Shows (action.Store c w) (access_of (if b then Stores c w (accessed told (stepped code s t th (pos 0)) (told_access t th c w true)) else Refused))
      by true = cell c true refl refl
      by false = nothing refl
  shows (action.Operate o obj) = by (has_object code s obj) _ refl
    where
      by : (b : Bool) (e : Effect Told) → access_of e ≡ NoAccess → Shows (action.Operate o obj) (access_of (if b then e else Refused))
      by true e n = nothing n
      by false e n = nothing refl

no_first : (x y : Access) → x ≡ NoAccess → Conflict x y → ⊥
no_first NoAccess NoAccess e c = c
no_first NoAccess (LoadOf d) e c = c
no_first NoAccess (StoreOf d) e c = c
no_first (LoadOf k) y e c = cc
no_first (StoreOf k) y e c = cc

no_second : (x y : Access) → y ≡ NoAccess → Conflict x y → ⊥
no_second NoAccess NoAccess e c = c
no_second (LoadOf k) NoAccess e c = c
no_second (StoreOf k) NoAccess e c = c
no_second x (LoadOf d) e c = cc
no_second x (StoreOf d) e c = cc

same_cell : (c d : ℕ) (a b : Bool) → Conflict (kind_of_access a c) (kind_of_access b d) → (c ≡ d) × ((a || b) ≡ true)
same_cell c d false false h = absurd h
same_cell c d false true h = (h, refl)
same_cell c d true false h = (h, refl)
same_cell c d true true h = (h, refl)

-- two next actions that name one cell, one of which stores
record NameOne (a b : Action) : Type 0 where
  cell : ℕ
  first_stores : Bool
  second_stores : Bool
  first : names_cell a ≡ Some (cell, first_stores)
  second : names_cell b ≡ Some (cell, second_stores)
  one_stores : (first_stores || second_stores) ≡ true

name_one : (a b : Action) (x y : Access) → Shows a x → Shows b y → Conflict x y → NameOne a b
name_one a b x y (nothing e) q h = absurd (no_first x y e h)
name_one a b x y (cell c k n e) (nothing f) h = absurd (no_second x y f h)
name_one a b x y (cell c k n e) (cell d m i f) h =
    let same = same_cell c d k m (subst (λ z. Conflict z (kind_of_access m d)) e (subst (Conflict x) f h)) in
    record { cell = c; first_stores = k; second_stores = m; first = n; second = subst (λ j. names_cell b ≡ Some (j, m)) (sym same.0) i; one_stores = same.1 }

module _ (code : Code) (s : SetupView) (x : Sets code s) (st : State Told) (reached : IsReachable code s st) (made : List Object) (good : PointsWell code s made (at_rest code s st)) (t u : ℕ) (ne : t ≢ u) (told other : Told) (at : slice_get st.threads t ≡ Some told) (there : slice_get st.threads u ≡ Some other) where
  abbrev z : Thread
  z = settled code s t told.thread

  abbrev v : Thread
  v = settled code s u other.thread

  abbrev One : Type 0
  One = NameOne (action_at code s t z) (action_at code s u v)

  one : Conflict (access_of (effect_of code s (Go t) told)) (access_of (effect_of code s (Go u) other)) → One
  one h =
      name_one (action_at code s t z) (action_at code s u v) (access_of (effect_of code s (Go t) told)) (access_of (effect_of code s (Go u) other))
      (subst (λ e. Shows (action_at code s t z) (access_of e)) (sym (effect_go code s t told)) (shows code s t told z (action_at code s t z)))
      (subst (λ e. Shows (action_at code s u v) (access_of e)) (sym (effect_go code s u other)) (shows code s u other v (action_at code s u v))) h

  -- no hand-off cell is raced for
  not_low : (n : One) → n.cell < 2 * s.slots → ⊥
  not_low n l =
      let a = first_loads code s x st reached made good t u ne told other at there n.cell n.first_stores n.second_stores n.first n.second l in
      let b = first_loads code s x st reached made good u t (λ e. ne (sym e)) other told there at n.cell n.second_stores n.first_stores n.second n.first l in
      true≢false (sym n.one_stores ∙ ap (λ k. k || n.second_stores) a ∙ b)

  of_program : (k : ℕ) (q : Told) (is : slice_get st.threads k ≡ Some q) (c : ℕ) (store : Bool) → (c < 2 * s.slots → ⊥) → names_cell (action_at code s k (settled code s k q.thread)) ≡ Some (c, store) → IsAccess code s made (settled code s k q.thread) c store
  of_program k q is c store high e = ⊎_elim (λ h. absurd (high (low code s x st reached made good k q is c store h))) (λ a. a) (names code s x st reached made good k q is c store e)

  abbrev Points : Thread → ℕ → Object → ℕ → Type 0
  Points th through o offset = MayPoint code (Register th.top.function through) (place o.site (class_of (element_of code.sites o.site) offset))

  meets : (n : One) (a : IsAccess code s made z n.cell n.first_stores) (b : IsAccess code s made v n.cell n.second_stores) → Meet code s st z v
  meets n a b =
      let r = a.reaches in
      let q = b.reaches in
      let in_first = r.within in
      let in_second = q.within in
      let same : q.object ≡ r.object = good.laid.one q.object r.object n.cell q.is r.is (record { from = omega (arith, q.cell); to = omega (arith, q.cell) }) (record { from = omega (arith, r.cell); to = omega (arith, r.cell) }) in
      let based = ap (λ (o : Object). o.base) same in
      let there_too : q.offset ≡ r.offset = omega (arith, r.cell, q.cell) in
      record {
        made = made;
        rest = good;
        cell = n.cell;
        first_stores = n.first_stores;
        second_stores = n.second_stores;
        first = a;
        second = b;
        one_stores = ap (λ k. k || b.access.store) a.stores ∙ ap (λ k. n.first_stores || k) b.stores ∙ n.one_stores;
        object = r.object;
        is = r.is;
        offset = r.offset;
        within = r.within;
        cell_is = r.cell;
        first_may = r.may;
        second_may = subst (Points v b.access.through r.object) there_too (subst (λ o. Points v b.access.through o q.offset) same q.may);
      }

  pub conflict_meets : Conflict (access_of (effect_of code s (Go t) told)) (access_of (effect_of code s (Go u) other)) → Meet code s st z v
  conflict_meets h =
      let n = one h in
      meets n (of_program t told at n.cell n.first_stores (not_low n) n.first) (of_program u other there n.cell n.second_stores (not_low n) n.second)
