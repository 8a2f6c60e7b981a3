-- Two threads at accesses of one place are such that the analysis counts as a pair.
use Rattle.std.proofs.Common.{◌≡◌, ◌≢◌, ℕ, ◌==◌, ◌&&◌, ◌||◌, not, inl, inr, ⊎_elim, Bool, true, false, List, [], ◌∷◌, refl, sym, ap, subst, ◌∙◌, eqb-true}
use Rattle.std.specs.List.{list_any, Contains}
use Rattle.std.proofs.lemmas.Bool.{and_parts, cases_Bool}
use Rattle.rr_base.specs.declared.layout.Place.{Place}
use Rattle.sync_objects.specs.Modes.{excludes}
use Rattle.sync_objects.specs.Setup.{SetupView, IsWithinLimits}
use Rattle.sync_objects.specs.declared.mode.Mode.{Mode}
use Rattle.sync_objects.specs.declared.mode.Mode.TheVariants.{Read, Write}
use Rattle.flow_code.specs.declared.code.Code.{Code}
use Rattle.flow_code.specs.Settle.{IsRunnable}
use Rattle.flow_code.specs.Threads.{Frame, is_main}
use Rattle.core_run.specs.Histories.{IsReachable}
use Rattle.core_run.specs.Machine.{Told}
use Rattle.run_theory.specs.Steps.{State}
use Rattle.facts.specs.Locks.{mode_same, has_held, held_as}
use Rattle.facts.specs.Pairs.{is_started, is_root, may_meet, places_of, guarded_in, is_global_lock, shuts_out, share_lock, stands, MayRace}
use Rattle.facts.specs.PointsTo.{Tables}
use Rattle.facts.specs.declared.locks.Guarded.{Guarded}
use Rattle.facts.specs.declared.locks.Held.{Held}
use Rattle.facts.specs.declared.locks.LockPath.{LockPath}
use Rattle.facts.specs.declared.locks.LockPath.TheVariants.{Cell, Formal}
use Rattle.facts.specs.declared.locks.Summary.{Summary}
use Rattle.facts.specs.declared.pair.AccessAt.{AccessAt}
use Rattle.lockset_sound.specs.Frames.{holds_at, root_frame, IsListed}
use Rattle.lockset_sound.proofs.Corollaries.{one_holds_global}
use Rattle.lockset_sound.proofs.Means.{or_cases, or_left, or_right, held_first, held_more}
use Rattle.lockset_sound.proofs.RootSteps.{RootOf}

pub is_a_root : (code : Code) (t f : ℕ) → RootOf code t f → is_root code f ≡ true
is_a_root code t f (inl r) = or_left (is_main code f) (is_started code f) r.1
is_a_root code t f (inr r) = or_right (is_main code f) (is_started code f) r.1.started

pub may_both : (code : Code) (t u f g : ℕ) → t ≢ u → RootOf code t f → RootOf code u g → may_meet code f g ≡ true
may_both code t u f g ne r q = by (f == g) refl
  where
    not_main : f ≡ g → RootOf code t f → RootOf code u g → is_main code f ≡ false
    not_main e (inl a) (inl b) = absurd (ne (a.0 ∙ sym b.0))
    not_main e (inl a) (inr b) = ap (is_main code) e ∙ b.1.other
    not_main e (inr a) b = a.1.other

    by : (b : Bool) → (f == g) ≡ b → (not b || not (is_main code f)) ≡ true
    by false e = refl
    by true e = ap not (not_main (eqb-true f g e) r q)

-- both have one global lock, in two modes that exclude each other
pub record SharesLock (hs ks : List Held) : Type 0 where
  pub first : Mode
  pub second : Mode
  pub apart : excludes first second ≡ true
  pub cell : ℕ
  pub in_first : has_held (held_as first (Cell cell)) hs ≡ true
  pub in_second : has_held (held_as second (Cell cell)) ks ≡ true

-- one of these is held for writing, and the others have it in some way
shut_out : (hs ks : List Held) → list_any (λ h. shuts_out h ks) hs ≡ true → (c : ℕ) × (has_held (held_as Write (Cell c)) hs ≡ true) × (has_held (held_as Read (Cell c)) ks ≡ true)
shut_out [] ks e = cc
shut_out (h ∷ hs) ks e =
    ⊎_elim
    (λ g. (let p = and_parts (mode_same h.mode Write && is_global_lock h.path) (has_held (held_as Read h.path) ks) g in
    let q = and_parts (mode_same h.mode Write) (is_global_lock h.path) p.0 in
    here h.path h.mode refl refl q.0 q.1 p.1))
    (λ g. (let r = shut_out hs ks g in (r.0, held_more (held_as Write (Cell r.0)) h hs r.1, r.2)))
    (or_cases (shuts_out h ks) (list_any (λ z. shuts_out z ks) hs) e)
  where
    whole : (p : LockPath) (m : Mode) → h.path ≡ p → h.mode ≡ m → held_as m p ≡ h
    whole p m e f = ap (λ z. held_as m z) (sym e) ∙ ap (λ z. held_as z h.path) (sym f)

    here : (p : LockPath) (m : Mode) → h.path ≡ p → h.mode ≡ m → mode_same m Write ≡ true → is_global_lock p ≡ true → has_held (held_as Read p) ks ≡ true → (c : ℕ) × (has_held (held_as Write (Cell c)) (h ∷ hs) ≡ true) × (has_held (held_as Read (Cell c)) ks ≡ true)
    here (Cell c) Write i j f g k = (c, subst (λ z. has_held z (h ∷ hs) ≡ true) (sym (whole (Cell c) Write i j)) (held_first h hs), k)
    here (Cell c) Read i j f g k = cc
    here (Formal i n) m u v f g k = cc

pub shares_lock : (hs ks : List Held) → share_lock hs ks ≡ true → SharesLock hs ks
shares_lock hs ks e =
    ⊎_elim
    (λ g. (let r = shut_out hs ks g in record { first = Write; second = Read; apart = refl; cell = r.0; in_first = r.1; in_second = r.2 }))
    (λ g. (let r = shut_out ks hs g in record { first = Read; second = Write; apart = refl; cell = r.0; in_first = r.2; in_second = r.1 }))
    (or_cases (list_any (λ h. shuts_out h ks) hs) (list_any (λ k. shuts_out k hs) ks) e)

at_is : (x : Guarded) (f k : ℕ) → x.function ≡ f → x.instr ≡ k → stands x ≡ record { function = f; instr = k }
at_is x f k e g = ap (λ z. at z x.instr) e ∙ ap (at f) g
  where
    at : ℕ → ℕ → AccessAt
    at f k = record { function = f; instr = k }

pub races : (code : Code) (s : SetupView) (tables : Tables) (ss : List Summary) (st : State Told) (t u : ℕ) (f g : Frame) (fs gs : List Frame) (a b : Bool) (p : Place) → IsRunnable code → IsWithinLimits s → IsReachable code s st → t ≢ u → RootOf code t (root_frame f fs).function → RootOf code u (root_frame g gs).function → IsListed code s.slots ss (holds_at code s t st) f fs a → IsListed code s.slots ss (holds_at code s u st) g gs b → (a || b) ≡ true → Contains (places_of code tables (record { function = f.function; instr = f.instr })) p → Contains (places_of code tables (record { function = g.function; instr = g.instr })) p → MayRace code tables ss p (record { function = f.function; instr = f.instr }) (record { function = g.function; instr = g.instr })
races code s tables ss st t u f g fs gs a b p run limits reached ne r q x y stores i j = record {
  r = (root_frame f fs).function;
  s = (root_frame g gs).function;
  x = x.row;
  y = y.row;
  roots = (is_a_root code t (root_frame f fs).function r, is_a_root code u (root_frame g gs).function q);
  meet = may_both code t u (root_frame f fs).function (root_frame g gs).function ne r q;
  of_r = subst (λ o. Contains (guarded_in o) x.row) (sym x.summed) x.listed;
  of_s = subst (λ o. Contains (guarded_in o) y.row) (sym y.summed) y.listed;
  first = at_is x.row f.function f.instr x.function x.instr;
  second = at_is y.row g.function g.instr y.function y.instr;
  stores = ap (λ z. z || y.row.store) x.store_is ∙ ap (λ z. a || z) y.store_is ∙ stores;
  touches = (i, j);
  apart = ⊎_elim (λ h. absurd (clash h)) (λ h. h) (cases_Bool (share_lock x.row.plus y.row.plus));
}
  where
    clash : share_lock x.row.plus y.row.plus ≡ true → ⊥
    clash h =
        let l = shares_lock x.row.plus y.row.plus h in
        ne (one_holds_global code s st l.first l.second t u l.cell run limits reached l.apart (x.held l.first l.cell l.in_first) (y.held l.second l.cell l.in_second))
