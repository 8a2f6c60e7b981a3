-- Two accesses of one place at two times: the threads hold one lock there, in ways that exclude each other, or the accesses may race.
use Rattle.std.proofs.Common.{◌≡◌, ◌≢◌, ℕ, ◌+◌, ◌*◌, ◌||◌, inl, inr, ⊎_elim, ◌⊎◌, Bool, true, false, List, sym, ap, subst, ◌∙◌}
use Rattle.std.specs.List.{Contains}
use Rattle.std.proofs.lemmas.Bool.{cases_Bool}
use Rattle.std.proofs.lemmas.Option.{same_Some}
use Rattle.rr_base.specs.declared.layout.CellKind.{CellKind}
use Rattle.rr_base.specs.declared.layout.Place.{Place}
use Rattle.sync_objects.specs.Modes.{excludes}
use Rattle.sync_objects.specs.Setup.{SetupView}
use Rattle.sync_objects.specs.declared.mode.Mode.{Mode}
use Rattle.flow_code.specs.declared.code.Code.{Code}
use Rattle.flow_code.specs.Threads.{Frame}
use Rattle.facts.specs.Pairs.{places_of, guarded_in, share_lock, stands, MayRace}
use Rattle.facts.specs.PointsTo.{Tables}
use Rattle.facts.specs.declared.locks.Guarded.{Guarded}
use Rattle.facts.specs.declared.locks.Summary.{Summary}
use Rattle.facts.specs.declared.pair.AccessAt.{AccessAt}
use Rattle.lockset_sound.specs.Frames.{root_frame, HoldsGlobal, IsListed}
use Rattle.lockset_sound.specs.Leading.{Holds}
use Rattle.lockset_sound.proofs.Racing.{is_a_root, may_both, SharesLock, shares_lock}
use Rattle.lockset_sound.proofs.RootSteps.{RootOf}

at_is : (x : Guarded) (f k : ℕ) → x.function ≡ f → x.instr ≡ k → stands x ≡ record { function = f; instr = k }
at_is x f k e g = ap (λ z. at z x.instr) e ∙ ap (at f) g
  where
    at : ℕ → ℕ → AccessAt
    at f k = record { function = f; instr = k }

module _ (code : Code) (s : SetupView) (tables : Tables) (ss : List Summary) (t u : ℕ) (f g : Frame) (fs gs : List Frame) (a b : Bool) (p : Place) (now later : Holds) (ne : t ≢ u)
    (r : RootOf code t (root_frame f fs).function) (q : RootOf code u (root_frame g gs).function) (x : IsListed code s.slots ss now f fs a) (y : IsListed code s.slots ss later g gs b) (stores : (a || b) ≡ true)
    (i : Contains (places_of code tables (record { function = f.function; instr = f.instr })) p) (j : Contains (places_of code tables (record { function = g.function; instr = g.instr })) p) where
  -- each holds the lock in one cell at its time, in ways that exclude each other
  pub record BothHold : Type 0 where
    pub kind : CellKind
    pub cell : ℕ
    pub first : Mode
    pub second : Mode
    pub apart : excludes first second ≡ true
    pub held_first : now first kind cell ≡ true
    pub held_second : later second kind cell ≡ true

  of_one_cell : (c : SharesLock x.row.plus y.row.plus) → HoldsGlobal code s.slots now c.first c.cell → HoldsGlobal code s.slots later c.second c.cell → BothHold
  of_one_cell c h k =
      let same : k.cell_kind ≡ h.cell_kind = same_Some k.cell_kind h.cell_kind (sym k.kind_is ∙ h.kind_is) in
      record { kind = h.cell_kind; cell = 2 * s.slots + c.cell; first = c.first; second = c.second; apart = c.apart; held_first = h.holds; held_second = subst (λ z. later c.second z (2 * s.slots + c.cell) ≡ true) same k.holds }

  shared : share_lock x.row.plus y.row.plus ≡ true → BothHold
  shared h = let c = shares_lock x.row.plus y.row.plus h in of_one_cell c (x.held c.first c.cell c.in_first) (y.held c.second c.cell c.in_second)

  apart : share_lock x.row.plus y.row.plus ≡ false → MayRace code tables ss p (record { function = f.function; instr = f.instr }) (record { function = g.function; instr = g.instr })
  apart h = record {
    r = (root_frame f fs).function;
    s = (root_frame g gs).function;
    x = x.row;
    y = y.row;
    roots = (is_a_root code t (root_frame f fs).function r, is_a_root code u (root_frame g gs).function q);
    meet = may_both code t u (root_frame f fs).function (root_frame g gs).function ne r q;
    of_r = subst (λ o. Contains (guarded_in o) x.row) (sym x.summed) x.listed;
    of_s = subst (λ o. Contains (guarded_in o) y.row) (sym y.summed) y.listed;
    first = at_is x.row f.function f.instr x.function x.instr;
    second = at_is y.row g.function g.instr y.function y.instr;
    stores = ap (λ z. z || y.row.store) x.store_is ∙ ap (λ z. a || z) y.store_is ∙ stores;
    touches = (i, j);
    apart = h;
  }

  pub hold_or_race : BothHold ⊎ MayRace code tables ss p (record { function = f.function; instr = f.instr }) (record { function = g.function; instr = g.instr })
  hold_or_race = ⊎_elim (λ h. inl (shared h)) (λ h. inr (apart h)) (cases_Bool (share_lock x.row.plus y.row.plus))
