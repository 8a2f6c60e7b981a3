-- What an attempted operation asks of its object's word, and that a look has shown it.
use Rattle.std.proofs.Common.{◌≡◌, ℕ, ◌<◌, ◌≤◌, ◌-◌, ◌^◌, true, refl, sym, ap, subst, ◌∙◌, arith, eqb}
use mathlib.Core.Option.{some}
use prog.Atomic.{either}
use Rattle.atomic_table.specs.Seated.{TableId}
use Rattle.atomic_table.specs.Table.{step, Allows}
use Rattle.sync_objects.specs.Advance.{advanced, Advances}
use Rattle.sync_objects.specs.Setup.{SetupView, IsWithinLimits}
use Rattle.sync_objects.specs.Names.{name_of, kind_of, Fits}
use Rattle.sync_objects.specs.Sound.{IsSoundWord, IsInRange}
use Rattle.sync_objects.specs.Words.{number_of}
use Rattle.sync_objects.specs.declared.object.ObjId.{ObjId}
use Rattle.sync_objects.specs.declared.operation.Op.{Op}
use Rattle.sync_objects.specs.declared.operation.Op.TheVariants as op
use Rattle.flow_code.specs.declared.code.Code.{Code}
use Rattle.flow_code.specs.Settle.{IsRunnable, settled}
use Rattle.flow_code.proofs.Asked.{own_action}
use Rattle.core_run.specs.Machine.{Told}
use Rattle.core_run.specs.Words.{cells_of, has_object, place_of}
use Rattle.core_run.proofs.Reached.{kept}
use Rattle.shared_cells.specs.Views.{SeatView, looked}
use Rattle.shared_cells.specs.Threads.{Way, Own, Revokes, Stops, Closes, way_of, IsDueBy, IsDue, IsDueIn, pending}
use Rattle.shared_cells.specs.Words.{objects_end, lone_cells, spot_of}
use Rattle.shared_cells.specs.Rule.{Board, IsBoard, Knowledge, Holds}
use Rattle.shared_cells.specs.Plays.{Mine, IsSpotOf, IsReachedWith, GoesOn, LooksAt, ExchangesAt, exchanging}
use Rattle.shared_cells.specs.Seats.{place_in, Sits}
use Rattle.shared_cells.specs.declared.asked.Asked.{Asked}
use Rattle.shared_cells.proofs.Allowed.{known_of, object_place, exchange_allowed}
use Rattle.shared_cells.proofs.Spreading.{same_place, spread_allows}
use Rattle.shared_cells.proofs.Calls.{IsCalled, called, place_is, object_is, spot_there}
use Rattle.shared_cells.proofs.Keeping.{length-first_words}
use Rattle.shared_cells.proofs.ThreadSteps.{is_revoke, is_stop, is_close}

-- an operation that a thread may make fits its object, and its numbers are in range
pub record IsMakeable (o : Op) (obj : ObjId) : Type 0 where
  pub fits : Fits (name_of o) obj
  pub range : IsInRange o

pub makeable : (code : Code) (s : SetupView) (t : ℕ) (told : Told) (o : Op) (obj : ObjId) → IsRunnable code → IsWithinLimits s → IsDue code s t told o obj → IsMakeable o obj
makeable code s t told o obj runnable limits due = by (way_of o obj) refl due
  where
    by : (w : Way) → way_of o obj ≡ w → IsDueBy w code s t told o obj → IsMakeable o obj
    by Own is d =
        let own = own_action code s t (settled code s t told.thread) o obj runnable d in
        record { fits = own.fits; range = own.range limits }
    by (Revokes lock stripe) is d =
        let p = is_revoke o obj lock stripe is in
        subst (λ z. IsMakeable z obj) (sym p.0) (subst (IsMakeable op.Revoke) (sym p.1) (record { fits = refl; range = tt }))
    by Stops is d =
        let p = is_stop o obj is in
        subst (λ z. IsMakeable z obj) (sym p.0) (subst (IsMakeable op.Stop) (sym p.1) (record { fits = refl; range = tt }))
    by (Closes k) is d =
        let p = is_close o obj k is in
        subst (λ z. IsMakeable z obj) (sym p.0) (subst (IsMakeable op.Close) (sym p.1) (record { fits = refl; range = tt }))

-- what an advance asks of a word that was found in a state that can be reached
pub record IsAskable (o : Op) (w : ℕ) : Type 0 where
  pub sound : IsSoundWord (kind_of (name_of o)) w
  pub number : number_of w < 2 ^ 32 - 1

pub askable : (v : SeatView) (o : Op) (obj : ObjId) (w : ℕ) → IsRunnable v.code → IsWithinLimits v.setup → Fits (name_of o) obj → has_object v.code v.setup obj ≡ true → IsReachedWith v (place_in v obj) w → IsAskable o w
askable v o obj w runnable limits fits has found =
    let k = (kept v.code v.setup runnable limits found.0 found.1).sound.each obj w has found.3 in
    let few = k.1 in
    record { sound = subst (λ z. IsSoundWord z w) (sym fits) k.0; number = omega (arith, few) }

-- the place of an object has its spot
pub object_spot : (b : Board) (key : Knowledge) (id : TableId) (cells lone objects departure memory : ℕ) (table : TableId) (me : Mine) (thread : ℕ) → record { code = key.code; setup = key.setup; table = id } ≡ b → IsBoard cells lone objects departure memory key id → Sits b table me thread → (obj : ObjId) → has_object b.code b.setup obj ≡ true → (p : ℕ) → p ≡ place_of cells obj → (q : ℕ) → q ≡ spot_of b.code b.setup p → IsSpotOf me.0 p q
object_spot b key id cells lone objects departure memory table me thread is board sits obj has p p_is q q_is =
    let v = me.0 in
    let k = called b key id cells lone objects departure memory table me thread is board sits in
    let place : place_in v obj ≡ p = place_is b key id cells lone objects departure memory table me thread is board sits obj p p_is in
    let spot = object_place v.code v.setup obj k.limits (object_is b key id table me k obj has) in
    let high = spot.1 in
    let words = length-first_words v.code v.setup in
    spot_there b key id table me k p q (omega (arith, place, high, words)) q_is

-- what an attempt knows after its look
pub record IsLooking (v : SeatView) (n : ℕ) (o : Op) (obj : ObjId) (place w : ℕ) : Type 0 where
  pub place_is : place_in v obj ≡ place
  pub has : has_object v.code v.setup obj ≡ true
  pub makeable : IsMakeable o obj
  pub inside : place < objects_end v.code v.setup
  pub found : IsReachedWith v (place_in v obj) w
  pub later : GoesOn v (place_in v obj) w
  pub ask : IsAskable o w

pub looking : (b : Board) (key : Knowledge) (id : TableId) (cells lone objects departure memory : ℕ) (table : TableId) (me : Mine) (thread : ℕ) → record { code = key.code; setup = key.setup; table = id } ≡ b → IsBoard cells lone objects departure memory key id → Sits b table me thread → (n : ℕ) (o : Op) (obj : ObjId) → has_object b.code b.setup obj ≡ true → IsDueIn me.0 n o obj → (p : ℕ) → p ≡ place_of cells obj → (w : ℕ) (after : Mine) → LooksAt p me w after → IsLooking me.0 n o obj p w
looking b key id cells lone objects departure memory table me thread is board sits n o obj has due p p_is w after looks =
    let v = me.0 in
    let k = called b key id cells lone objects departure memory table me thread is board sits in
    let place : place_in v obj ≡ p = place_is b key id cells lone objects departure memory table me thread is board sits obj p p_is in
    let here : has_object v.code v.setup obj ≡ true = object_is b key id table me k obj has in
    let spot = object_place v.code v.setup obj k.limits here in
    let low : cells_of v.code v.setup ≤ p = subst (λ z. cells_of v.code v.setup ≤ z) place spot.0 in
    let high : p < objects_end v.code v.setup = subst (λ z. z < objects_end v.code v.setup) place spot.1 in
    let found = subst (λ z. IsReachedWith v z w) (sym place) (looks.state low high) in
    let may = makeable v.code v.setup v.from (pending v n) o obj k.runnable k.limits due.due in
    record {
      place_is = place;
      has = here;
      makeable = may;
      inside = high;
      found = found;
      later = subst (λ z. GoesOn v z w) (sym place) (looks.later low high);
      ask = askable v o obj w k.runnable k.limits may.fits here found;
    }

-- the exchange that follows is allowed
pub exchanges : (b : Board) (key : Knowledge) (id : TableId) (table : TableId) (me : Mine) → IsCalled b key id table me → (it : Asked) (p q w next : ℕ) → IsSpotOf me.0 p q → IsDueIn me.0 it.marks it.op it.obj → IsLooking me.0 it.marks it.op it.obj p w → advanced it.op me.0.from w ≡ Advances next it.answer → (slots seat : ℕ) (after : Mine) → after.1 ≡ me.1 → after.0 ≡ looked me.0 p w → Allows (Holds key) slots seat after q (λ n. either (eqb n w) next n) (λ found later. exchanging (step slots q w next (some it)) after found later)
exchanges b key id table me k it p q w next spot due look moves slots seat after slots_is view_is =
    let v = looked me.0 p w in
    let whole : (v, me.1) ≡ after = ap (λ z. (z, me.1)) (sym view_is) ∙ ap (λ z. (after.0, z)) (sym slots_is) in
    let f : ℕ → ℕ = λ n. either (eqb n w) next n in
    let said : ℕ → Mine → ℕ → Mine → Type 0 = ExchangesAt it w in
    subst (λ (m : Mine). Allows (Holds key) slots seat m q f (λ found later. exchanging (step slots q w next (some it)) m found later)) whole
    (subst (λ z. Allows (Holds key) slots seat (v, me.1) z f (λ found later. exchanging (step slots q w next (some it)) (v, me.1) found later)) (sym spot.1)
    (subst (λ z. Allows (Holds z) slots seat (v, me.1) (spot_of me.0.code me.0.setup p) f (λ found later. exchanging (step slots q w next (some it)) (v, me.1) found later)) k.known
    (spread_allows (known_of me.0) slots seat (v, me.1) p f (said p (v, me.1)) (λ found later. exchanging (step slots q w next (some it)) (v, me.1) found later) spot.0
    (λ found later tells place there. subst (λ z. said z (v, me.1) found later) (same_place (cells_of me.0.code me.0.setup) (lone_cells me.0.code me.0.setup) p place (sym spot.1 ∙ there.1)) tells)
    (exchange_allowed v me.1 slots seat k.alone k.runnable k.limits it p w next look.has (sym look.place_is) (record { marks = due.marks; due = due.due }) moves))))
