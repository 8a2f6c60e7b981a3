-- Why a thread departs from its entry.
use Rattle.std.proofs.Common.{◌≡◌, ◌≢◌, ℕ, ◌<◌, ◌≤◌, true, false, List, [], ◌∷◌, ◌++◌, refl, sym, ap, subst, ◌∙◌, ⊎_elim, arith}
use Rattle.std.specs.Prelude.{slice_get}
use Rattle.std.proofs.lemmas.Bool.{cases_order}
use Rattle.std.proofs.lemmas.Option.{slice_get_within}
use Rattle.rr_base.proofs.Lists.{slice_get_inside}
use Rattle.sync_objects.specs.Setup.{SetupView, IsWithinLimits}
use Rattle.sync_objects.specs.Words.{number_of}
use Rattle.sync_objects.specs.declared.entry.Noted.{Noted}
use Rattle.sync_objects.specs.declared.object.ObjId.{ObjId}
use Rattle.flow_code.specs.declared.code.Code.{Code}
use Rattle.flow_code.specs.Next.{has_ended}
use Rattle.core_run.specs.Machine.{Told, effect_of}
use Rattle.core_run.specs.Words.{cells_of, has_object, place_of}
use Rattle.core_run.proofs.Beginnings.{start_word_at}
use Rattle.core_run.proofs.Places.{place_past}
use Rattle.replay_theory.specs.Following.{IsNoStep, Above, Early, Other, Barred}
use Rattle.log_walks.specs.Followed.{floor}
use Rattle.log_walks.proofs.Floors.{ended_rests}
use Rattle.run_theory.specs.Labels.{Go, label_of}
use Rattle.run_theory.specs.Steps.{Change, NotAllowed, Refused, Operates}
use Rattle.shared_cells.specs.Views.{Note, SeatView}
use Rattle.shared_cells.specs.Words.{objects_end}
use Rattle.replayer.specs.Steps.{left_by, IsInStep, HasDeparted}

-- the last of the entries that have left a count
pub record LeftLast (xs : List Noted) (c : ℕ) : Type 0 where
  pub before : List Noted
  pub last : Noted
  pub is : xs ≡ before ++ last ∷ []
  pub above : c < floor last.entry

pub last_left : (xs : List Noted) (c : ℕ) → c < left_by xs → LeftLast xs c
last_left [] c lt = absurd (omega (arith, lt))
last_left (x ∷ []) c lt = record { before = []; last = x; is = refl; above = lt }
last_left (x ∷ y ∷ xs) c lt =
    let r = last_left (y ∷ xs) c lt in
    record { before = x ∷ r.before; last = r.last; is = ap (λ z. x ∷ z) r.is; above = r.above }

pub left-append : (xs : List Noted) (x : Noted) → left_by (xs ++ x ∷ []) ≡ floor x.entry
left-append [] x = refl
left-append (y ∷ []) x = refl
left-append (y ∷ z ∷ xs) x = left-append (z ∷ xs) x

-- an object's word is one of the machine, after those of cells
pub object_place : (code : Code) (s : SetupView) (obj : ObjId) → IsWithinLimits s → has_object code s obj ≡ true → (cells_of code s ≤ place_of (cells_of code s) obj) × (place_of (cells_of code s) obj < objects_end code s)
object_place code s obj limits has = (place_past (cells_of code s) obj, slice_get_within _ _ _ (start_word_at code s obj limits has))

module _ (v : SeatView) (told : Told) (x : Noted) where
  pub above : IsInStep told x → x.entry.count < told.thread.count → HasDeparted v told x
  above step lt = λ words size gone. ⊎_elim
      (λ le. absurd (omega (arith, le, lt)))
      (λ le. let r = last_left told.entries x.entry.count (omega (arith, le, lt)) in Above r.before r.last r.is r.above)
      step

  pub early : told.thread.count < x.entry.count → IsNoStep (effect_of v.code v.setup (Go x.entry.thread) told) → HasDeparted v told x
  early lt none = λ words size gone. Early lt none

  pub other : told.thread.count ≡ x.entry.count → ((change : ℕ → Change Told) → effect_of v.code v.setup (label_of x.entry) told ≢ Operates x.entry change) → HasDeparted v told x
  other count differs = λ words size gone. Other count differs

  -- the seat's newest note is of a word that doesn't allow the entry at its number
  pub barred : (change : ℕ → Change Told) (seen : ℕ) (notes : List Note) → IsWithinLimits v.setup → told.thread.count ≡ x.entry.count → has_object v.code v.setup x.entry.obj ≡ true → effect_of v.code v.setup (label_of x.entry) told ≡ Operates x.entry change → change seen ≡ NotAllowed → number_of seen ≡ x.number → v.notes ≡ record { failed = false; word = place_of (cells_of v.code v.setup) x.entry.obj; value = seen } ∷ notes → HasDeparted v told x
  barred change seen notes limits count has effect refused number noted = λ words size gone.
      let place = place_of (cells_of v.code v.setup) x.entry.obj in
      let spot = object_place v.code v.setup x.entry.obj limits has in
      let now = slice_get_inside words place (let lt = spot.1 in omega (arith, lt, size)) in
      let g = gone 0 (record { failed = false; word = place; value = seen }) now.0 (ap (λ ns. slice_get ns 0) noted) spot.0 spot.1 now.1 in
      Barred count change seen now.0 effect refused number now.1 g.number g.same

  pub ended : has_ended told.thread.phase ≡ true → IsInStep told x → HasDeparted v told x
  ended over step = ⊎_elim
      (λ (q : told.thread.count ≡ x.entry.count). other q (λ change is. let same : Refused ≡ Operates x.entry change = sym (ended_rests v.code v.setup (label_of x.entry) told over) ∙ is in cc))
      (λ o. ⊎_elim
      (λ lt. early lt (subst IsNoStep (sym (ended_rests v.code v.setup (Go x.entry.thread) told over)) tt))
      (λ lt. above step lt)
      o)
      (cases_order told.thread.count x.entry.count)
