-- An entry that its thread may make: what comes of a look at its object, and of an attempt at it.
use Rattle.std.proofs.Common.{◌≡◌, ℕ, ℤ, ◌⊎◌, inl, inr, true, false, List, [], ◌∷◌, ◌++◌, Some, refl, sym, ap, subst, ◌∙◌, eqb-true}
use Rattle.std.specs.Prelude.{if◌then◌else◌}
use Rattle.sync_objects.specs.Advance.{Advance, NotAllowed as NoRow, Advances, advanced}
use Rattle.sync_objects.specs.Names.{name_of}
use Rattle.sync_objects.specs.Setup.{SetupView, IsWithinLimits}
use Rattle.sync_objects.specs.Words.{number_of}
use Rattle.sync_objects.specs.declared.entry.Entry.{Entry}
use Rattle.sync_objects.specs.declared.entry.Noted.{Noted}
use Rattle.sync_objects.specs.declared.object.ObjId.{ObjId}
use Rattle.sync_objects.specs.declared.object.ObjId.TheVariants as object
use Rattle.sync_objects.specs.declared.operation.Op.{Op}
use Rattle.sync_objects.specs.declared.operation.Op.TheVariants as op
use Rattle.sync_objects.specs.declared.operation.OpName.{OpName}
use Rattle.sync_objects.specs.declared.operation.OpName.TheVariants as name
use Rattle.word_semantics.specs.declared.event.Action.TheVariants as action
use Rattle.word_semantics.proofs.Calls.{is_from_outside}
use Rattle.flow_code.specs.declared.code.Code.{Code}
use Rattle.flow_code.specs.Next.{stepped, gave_up, stopped, slot_closed}
use Rattle.flow_code.specs.Settle.{settled, next, IsRunnable}
use Rattle.flow_code.specs.Threads.{Thread}
use Rattle.flow_code.proofs.Asked.{own_action}
use Rattle.flow_code.proofs.Counts.{settled_count}
use Rattle.core_run.specs.Machine.{Told, effect_of, operation, change_of, entry_of, may_revoke, may_stop, may_close}
use Rattle.thread_interpreter.specs.Pieces.{piece_next}
use Rattle.core_run.specs.Words.{has_object}
use Rattle.core_run.proofs.Lawful.{effect_revoke, effect_stop, effect_close}
use Rattle.log_walks.proofs.Floors.{leaves_floor}
use Rattle.run_theory.specs.Labels.{Go, Revoke, Stop, Close, label_of}
use Rattle.run_theory.specs.Steps.{Change, NotAllowed, Becomes, Refused, Operates}
use Rattle.shared_cells.specs.Rule.{Board}
use Rattle.shared_cells.specs.Seats.{view_of, IsSeatOf, place_in, AttemptIs, IsDone, IsRefused, HasMoved}
use Rattle.shared_cells.specs.Threads.{Own, way_of, after_operation, pending}
use Rattle.shared_cells.specs.Views.{SeatView, looked, missed, with_thread}
use Rattle.shared_cells.specs.declared.attempt.Attempt.{Attempt}
use Rattle.shared_cells.specs.declared.attempt.Attempt.TheVariants as attempt
use Rattle.shared_cells.specs.declared.seat.Seat.{Seat}
use Rattle.thread_step.specs.Steps.{Stepping}
use Rattle.weak_turns.specs.Shown.{IsCarrying}
use Rattle.weak_turns.proofs.Showing.{noted_on, carries_at}
use Rattle.replayer.specs.Steps.{told_at, HasDeparted, StepIs, KeepsDeparture, Comes, Sees, step_of}
use Rattle.replayer.specs.declared.sight.Sight.{Sight}
use Rattle.replayer.specs.declared.sight.Sight.TheVariants as sight
use Rattle.replayer.specs.declared.step.Step.{Step}
use Rattle.replayer.specs.declared.step.Step.TheVariants as step
use Rattle.replayer.proofs.Departing.{barred}
use Rattle.replayer.proofs.Effects.{effect_here}

-- ---- what the operation of an entry does

-- the machine's step of this entry is this operation, which it may make as far as its thread goes
pub record CanMake (code : Code) (s : SetupView) (t : ℕ) (told : Told) (o : Op) (obj : ObjId) (x : Entry) : Type 0 where
  pub change : ℕ → Change Told
  pub effect : effect_of code s (label_of x) told ≡ Operates x change
  pub refuses : (w : ℕ) → advanced o t w ≡ NoRow → change w ≡ NotAllowed
  pub becomes : (w new : ℕ) (answer : ℤ) → advanced o t w ≡ Advances new answer → change w ≡ Becomes new answer (after_operation code s t told o obj answer (number_of w))
  pub adds : (answer : ℤ) (n : ℕ) → (after_operation code s t told o obj answer n).entries ≡ told.entries ++ record { entry = x; number = n } ∷ []
  pub has : has_object code s obj ≡ true
  pub object_is : x.obj ≡ obj
  pub count : told.thread.count ≡ x.count

way_own : (o : Op) (obj : ObjId) → is_from_outside (name_of o) ≡ false → way_of o obj ≡ Own
way_own op.Revoke obj e = cc
way_own op.Stop obj e = cc
way_own op.Close obj e = cc
way_own o obj e = refl

-- a change by a row of the table
refuses_by : (told : Told) (e : Entry) (printed : List (List ℕ)) (after : ℤ → Thread) (w : ℕ) (a : Advance) → a ≡ NoRow → change_of told e printed after w a ≡ NotAllowed
refuses_by told e printed after w a is = ap (change_of told e printed after w) is

module _ (code : Code) (s : SetupView) (t : ℕ) (told : Told) where
  -- the operation that comes next
  pub can_operate : (o : Op) (obj : ObjId) (x : Entry) → IsRunnable code → next code s t told.thread ≡ action.Operate o obj → has_object code s obj ≡ true → label_of x ≡ Go t → x.thread ≡ t → x.op ≡ name_of o → x.obj ≡ obj → told.thread.count ≡ x.count → CanMake code s t told o obj x
  can_operate o obj x runnable comes has label thread op_is obj_is count =
      let th = settled code s t told.thread in
      let base = record told { thread = th } in
      let mine = entry_of t th (name_of o) obj in
      let printed = piece_next code th o in
      let onward = λ (z : ℤ). stepped code s t th z in
      let change : ℕ → Change Told = λ w. change_of base mine printed onward w (advanced o t w) in
      let way : way_of o obj ≡ Own = way_own o obj (own_action code s t th o obj runnable comes).own in
      let same : mine ≡ x =
      ap (λ z. record { thread = z; count = th.count; op = name_of o; obj = obj }) (sym thread)
      ∙ ap (λ z. record { thread = x.thread; count = z; op = name_of o; obj = obj }) (settled_count code s t told.thread ∙ count)
      ∙ ap (λ z. record { thread = x.thread; count = x.count; op = z; obj = obj }) (sym op_is)
      ∙ ap (λ z. record { thread = x.thread; count = x.count; op = x.op; obj = z }) (sym obj_is) in
      let leaves = λ (answer : ℤ) (n : ℕ). ap (λ w. Rattle.shared_cells.specs.Threads.after_by w code s t told o obj answer n) way in
      record {
        change = change;
        effect = ap (λ l. effect_of code s l told) label
            ∙ effect_here code s t told (action.Operate o obj) comes
            ∙ ap (λ b. if b then Operates mine change else Refused) has
            ∙ ap (λ e. Operates e change) same;
        refuses = λ w e. refuses_by base mine printed onward w (advanced o t w) e;
        becomes = λ w new answer e. ap (change_of base mine printed onward w) e ∙ ap (Becomes new answer) (sym (leaves answer (number_of w)));
        adds = λ answer n. ap (λ (z : Told). z.entries) (leaves answer n) ∙ ap (λ e. told.entries ++ record { entry = e; number = n } ∷ []) same;
        has = has;
        object_is = obj_is;
        count = count;
      }

  module _ (x : Entry) (has_x : has_object code s x.obj ≡ true) (thread : x.thread ≡ t) (count : told.thread.count ≡ x.count) where
    -- the entry of an operation from outside
    entry_is : (o : OpName) (obj : ObjId) → x.op ≡ o → x.obj ≡ obj → entry_of t told.thread o obj ≡ x
    entry_is o obj op_is obj_is =
        ap (λ z. record { thread = z; count = told.thread.count; op = o; obj = obj }) (sym thread)
        ∙ ap (λ z. record { thread = x.thread; count = z; op = o; obj = obj }) count
        ∙ ap (λ z. record { thread = x.thread; count = x.count; op = z; obj = obj }) (sym op_is)
        ∙ ap (λ z. record { thread = x.thread; count = x.count; op = x.op; obj = z }) (sym obj_is)

    -- a revoke
    pub can_revoke : (lock stripe : ℕ) → label_of x ≡ Revoke t lock stripe → x.op ≡ name.Revoke → x.obj ≡ object.Weak lock stripe → may_revoke told.thread lock stripe ≡ true → CanMake code s t told op.Revoke (object.Weak lock stripe) x
    can_revoke lock stripe label op_is obj_is may =
        let obj = object.Weak lock stripe in
        let mine = entry_of t told.thread name.Revoke obj in
        let onward = λ (z : ℤ). gave_up told.thread lock stripe in
        let change : ℕ → Change Told = λ w. change_of told mine [] onward w (advanced op.Revoke t w) in
        let has : has_object code s obj ≡ true = ap (has_object code s) (sym obj_is) ∙ has_x in
        let same = entry_is name.Revoke obj op_is obj_is in
        record {
          change = change;
          effect = ap (λ l. effect_of code s l told) label
              ∙ effect_revoke code s t lock stripe told
              ∙ ap (λ b. if b then operation code s t told op.Revoke obj [] onward else Refused) may
              ∙ ap (λ b. if b then Operates mine change else Refused) has
              ∙ ap (λ e. Operates e change) same;
          refuses = λ w e. refuses_by told mine [] onward w (advanced op.Revoke t w) e;
          becomes = λ w new answer e. ap (change_of told mine [] onward w) e;
          adds = λ answer n. ap (λ e. told.entries ++ record { entry = e; number = n } ∷ []) same;
          has = has;
          object_is = obj_is;
          count = count;
        }

    -- a stop
    pub can_stop : label_of x ≡ Stop t → x.op ≡ name.Stop → x.obj ≡ object.Halt → may_stop told.thread ≡ true → CanMake code s t told op.Stop object.Halt x
    can_stop label op_is obj_is may =
        let mine = entry_of t told.thread name.Stop object.Halt in
        let onward = λ (z : ℤ). stopped told.thread in
        let change : ℕ → Change Told = λ w. change_of told mine [] onward w (advanced op.Stop t w) in
        let same = entry_is name.Stop object.Halt op_is obj_is in
        record {
          change = change;
          effect = ap (λ l. effect_of code s l told) label
              ∙ effect_stop code s t told
              ∙ ap (λ b. if b then operation code s t told op.Stop object.Halt [] onward else Refused) may
              ∙ ap (λ e. Operates e change) same;
          refuses = λ w e. refuses_by told mine [] onward w (advanced op.Stop t w) e;
          becomes = λ w new answer e. ap (change_of told mine [] onward w) e;
          adds = λ answer n. ap (λ e. told.entries ++ record { entry = e; number = n } ∷ []) same;
          has = refl;
          object_is = obj_is;
          count = count;
        }

    -- a close
    pub can_close : label_of x ≡ Close t → x.op ≡ name.Close → x.obj ≡ object.Slot t → may_close told.thread ≡ true → CanMake code s t told op.Close (object.Slot t) x
    can_close label op_is obj_is may =
        let mine = entry_of t told.thread name.Close (object.Slot t) in
        let onward = λ (z : ℤ). slot_closed told.thread in
        let change : ℕ → Change Told = λ w. change_of told mine [] onward w (advanced op.Close t w) in
        let has : has_object code s (object.Slot t) ≡ true = ap (has_object code s) (sym obj_is) ∙ has_x in
        let same = entry_is name.Close (object.Slot t) op_is obj_is in
        record {
          change = change;
          effect = ap (λ l. effect_of code s l told) label
              ∙ effect_close code s t told
              ∙ ap (λ b. if b then operation code s t told op.Close (object.Slot t) [] onward else Refused) may
              ∙ ap (λ b. if b then Operates mine change else Refused) has
              ∙ ap (λ e. Operates e change) same;
          refuses = λ w e. refuses_by told mine [] onward w (advanced op.Close t w) e;
          becomes = λ w new answer e. ap (change_of told mine [] onward w) e;
          adds = λ answer n. ap (λ e. told.entries ++ record { entry = e; number = n } ∷ []) same;
          has = has;
          object_is = obj_is;
          count = count;
        }

-- ---- steps of a seat that come one after another

pub keeps_still : (seat : Seat) → KeepsDeparture seat seat
keeps_still seat = record { thread = refl; positions = refl; met = refl }

pub keeps_both : (a b c : Seat) → KeepsDeparture a b → KeepsDeparture b c → KeepsDeparture a c
keeps_both a b c k l = record { thread = l.thread ∙ k.thread; positions = l.positions ∙ k.positions; met = l.met ∙ k.met }

-- a seat's view that has changed in its threads and notes alone keeps what it knows of the departure
pub keeps_by : (old new : Seat) (w : SeatView) → view_of new ≡ w → w.from ≡ (view_of old).from → w.positions ≡ (view_of old).positions → w.met ≡ (view_of old).met → KeepsDeparture old new
keeps_by old new w is from positions met = record {
  thread = ap (λ (z : SeatView). z.from) is ∙ from;
  positions = ap (λ (z : SeatView). z.positions) is ∙ positions;
  met = ap (λ (z : SeatView). z.met) is ∙ met;
}

-- the thread at a seat with this view and these marks
pub told_by : (new : Seat) (w : SeatView) (n : ℕ) → view_of new ≡ w → new.marks ≡ n → told_at new ≡ pending w n
told_by new w n is marks = ap (λ z. pending z new.marks) is ∙ ap (pending w) marks

-- a step after a seat has looked at something
pub comes_on : (cells : Board) (old mid new : Seat) (run : Stepping) (x : Noted) (st : Step) → KeepsDeparture old mid → told_at mid ≡ told_at old → Comes cells mid new run x st → Comes cells old new run x st
comes_on cells old mid new run x st keeps same c = record {
  carrying = c.carrying;
  keeps = keeps_both old mid new keeps c.keeps;
  is = by st c.is;
}
  where
    by : (st : Step) → StepIs mid new x st → StepIs old new x st
    by step.Waits h = h ∙ same
    by step.Goes h = (h.0 ∙ ap (λ (z : Told). z.entries) same, h.1)
    by step.Makes h = (h.0 ∙ ap (λ (z : Told). z.entries ++ x ∷ []) same, h.1)
    by step.Departs h = (h.0 ∙ same, h.1)

module _ (old mid : Seat) (o : Op) (obj : ObjId) (number : ℕ) (s : Sight) (sees : Sees old mid o obj number s) where
  pub look_told : told_at mid ≡ told_at old
  look_told = told_by mid (looked (view_of old) (place_in (view_of old) obj) sees.word) old.marks sees.view sees.marks

  pub look_keeps : KeepsDeparture old mid
  look_keeps = keeps_by old mid (looked (view_of old) (place_in (view_of old) obj) sees.word) sees.view refl refl refl

  pub look_carries : (cells : Board) (run : Stepping) → IsSeatOf cells mid → IsCarrying cells old run → IsCarrying cells mid run
  look_carries cells run seat c = record {
    seat_of = seat;
    carries = carries_at (looked (view_of old) (place_in (view_of old) obj) sees.word) (view_of mid) old.marks mid.marks run sees.view sees.marks (noted_on (view_of old) old.marks run _ c.carries);
  }

-- after a look, nothing is done
pub waits : (cells : Board) (old mid : Seat) (run : Stepping) (x : Noted) (o : Op) (obj : ObjId) (s : Sight) → Sees old mid o obj x.number s → IsSeatOf cells mid → IsCarrying cells old run → Comes cells old mid run x step.Waits
waits cells old mid run x o obj s sees seat c = record {
  carrying = look_carries old mid o obj x.number s sees cells run seat c;
  keeps = look_keeps old mid o obj x.number s sees;
  is = look_told old mid o obj x.number s sees;
}

-- after a look that finds that the entry isn't allowed, it can't be made any more
pub is_barred : (cells : Board) (old mid : Seat) (run : Stepping) (x : Noted) (o : Op) (obj : ObjId) → Sees old mid o obj x.number sight.Barred → IsSeatOf cells mid → IsCarrying cells old run → IsWithinLimits (view_of old).setup → CanMake (view_of old).code (view_of old).setup (view_of old).from (told_at old) o obj x.entry → Comes cells old mid run x step.Departs
is_barred cells old mid run x o obj sees seat c limits can = record {
  carrying = look_carries old mid o obj x.number sight.Barred sees cells run seat c;
  keeps = look_keeps old mid o obj x.number sight.Barred sees;
  is = (same, subst (λ told. HasDeparted (view_of mid) told x) (sym same) (subst (λ v. HasDeparted v (told_at old) x) (sym sees.view) departs));
}
  where
    w : SeatView
    w = looked (view_of old) (place_in (view_of old) obj) sees.word

    same : told_at mid ≡ told_at old
    same = look_told old mid o obj x.number sight.Barred sees

    departs : HasDeparted w (told_at old) x
    departs = barred w (told_at old) x can.change sees.word (view_of old).notes limits can.count (ap (has_object (view_of old).code (view_of old).setup) can.object_is ∙ can.has) can.effect (can.refuses sees.word sees.is.1) sees.is.0
        (ap (λ z. record { failed = false; word = place_in (view_of old) z; value = sees.word } ∷ (view_of old).notes) (sym can.object_is))

-- ---- an attempt

module _ (cells : Board) (mid new : Seat) (run : Stepping) (x : Noted) (o : Op) (obj : ObjId) (can : CanMake (view_of mid).code (view_of mid).setup (view_of mid).from (told_at mid) o obj x.entry) (carrying : IsCarrying cells new run) where
  abbrev v : SeatView
  v = view_of mid

  not_made : (w : SeatView) → view_of new ≡ w → new.marks ≡ mid.marks → w.from ≡ v.from → w.positions ≡ v.positions → w.met ≡ v.met → pending w mid.marks ≡ told_at mid → Comes cells mid new run x step.Waits
  not_made w view marks from positions met same = record {
    carrying = carrying;
    keeps = keeps_by mid new w view from positions met;
    is = told_by new w mid.marks view marks ∙ same;
  }

  waits_on : (seen : ℕ) → IsRefused (Some x.number) mid new o obj seen ⊎ HasMoved mid new obj seen → Comes cells mid new run x step.Waits
  waits_on seen (inl r) = not_made (looked v (place_in v obj) seen) r.view r.marks refl refl refl refl
  waits_on seen (inr m) = not_made (missed (looked v (place_in v obj) m.was) (place_in v obj) seen) m.view m.marks refl refl refl refl

  module _ (answer : ℤ) (made : ℕ) (d : IsDone (Some x.number) mid new o obj answer made) where
    abbrev later : Told
    later = after_operation v.code v.setup v.from (told_at mid) o obj answer (number_of d.seen)

    now_is : told_at new ≡ later
    now_is = told_by new (with_thread (looked v (place_in v obj) d.seen) later) 0 d.makes.view d.marks

    keeps_done : KeepsDeparture mid new
    keeps_done = keeps_by mid new (with_thread (looked v (place_in v obj) d.seen) later) d.makes.view refl refl refl

    number : made ≡ x.number
    number = eqb-true made x.number d.asked

    makes : Comes cells mid new run x step.Makes
    makes = record {
      carrying = carrying;
      keeps = keeps_done;
      is = (
        ap (λ (z : Told). z.entries) now_is ∙ can.adds answer (number_of d.seen) ∙ ap (λ n. (told_at mid).entries ++ record { entry = x.entry; number = n } ∷ []) (sym d.number_is ∙ number),
        ap (λ (z : Told). z.thread.count) now_is ∙ leaves_floor v.code v.setup (label_of x.entry) (told_at mid) later x.entry can.change d.seen d.next answer can.effect (can.becomes d.seen d.next answer d.moves),
      );
    }

  pub attempted : (came : Attempt) → AttemptIs (Some x.number) mid new o obj came → Comes cells mid new run x (step_of came)
  attempted (attempt.Done answer made) is = makes answer made is
  attempted (attempt.NotYet seen) is = waits_on seen is
