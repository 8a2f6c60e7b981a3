-- A thread at its seat that stands at an entry: what its next action is, and what comes of it.
use Rattle.std.proofs.Common.{◌≡◌, ◌≢◌, ℕ, suc, ◌<◌, ◌≤◌, ℤ, pos, Bool, true, false, not, ◌&&◌, nat_lt, Some, refl, sym, ap, subst, ◌∙◌, add-one, arith}
use Rattle.std.proofs.lemmas.Bool.Decides.{nat_tests}
use Rattle.sync_objects.specs.Names.{name_of, Fits}
use Rattle.sync_objects.specs.Sound.{IsInRange}
use Rattle.sync_objects.specs.Setup.{SetupView, IsWithinLimits}
use Rattle.sync_objects.specs.declared.entry.Entry.{Entry}
use Rattle.sync_objects.specs.declared.entry.Noted.{Noted}
use Rattle.sync_objects.specs.declared.object.ObjId.{ObjId}
use Rattle.sync_objects.specs.declared.object.ObjId.TheVariants as object
use Rattle.sync_objects.specs.declared.operation.Op.{Op}
use Rattle.sync_objects.specs.declared.operation.Op.TheVariants as op
use Rattle.sync_objects.specs.declared.operation.OpName.TheVariants as name
use Rattle.word_semantics.specs.Limits.{most_entries, most_revokes}
use Rattle.word_semantics.specs.declared.event.Action.{Action}
use Rattle.word_semantics.specs.declared.event.Action.TheVariants as action
use Rattle.flow_code.specs.declared.code.Code.{Code}
use Rattle.flow_code.specs.Next.{stepped, has_begun, has_ended, holds}
use Rattle.flow_code.specs.Settle.{next, settled, IsRunnable}
use Rattle.flow_code.specs.Threads.{Thread}
use Rattle.flow_code.proofs.Asked.{own_action}
use Rattle.flow_code.proofs.Counts.{IsAccessAction, action_counts, settled_count, settled_keeps_all}
use Rattle.core_run.specs.Machine.{Told, effect_of, action_effect, may_revoke, may_stop, may_close}
use Rattle.core_run.specs.Words.{cells_of, has_object}
use Rattle.replay_theory.specs.Following.{IsNoStep}
use Rattle.run_theory.specs.Labels.{Label, Go, Revoke, Stop, Close, label_of}
use Rattle.run_theory.specs.Steps.{Change, Operates}
use Rattle.shared_cells.specs.Rule.{Board}
use Rattle.shared_cells.specs.Seats.{view_of, IsSeatOf, AttemptIs}
use Rattle.shared_cells.specs.Threads.{after_load, after_store, after_mark}
use Rattle.word_semantics.specs.Values.{number as number_of_word}
use Rattle.shared_cells.specs.Views.{SeatView, with_thread}
use Rattle.shared_cells.specs.declared.attempt.Attempt.{Attempt}
use Rattle.shared_cells.specs.declared.seat.Seat.{Seat}
use Rattle.thread_step.specs.Steps.{Stepping, next_of}
use Rattle.weak_turns.specs.Shown.{Carries, IsCarrying}
use Rattle.weak_turns.specs.Turns.{AccessIs}
use Rattle.weak_turns.proofs.Showing.{comes, comes_next, same_count, same_phase}
use Rattle.weak_turns.proofs.Stripes.{holds_settled}
use Rattle.replayer.specs.Steps.{told_at, HasDeparted, KeepsDeparture, Comes, IsSet, IsInStep, Sees, may_lose, step_of}
use Rattle.replayer.specs.declared.sight.Sight.{Sight}
use Rattle.replayer.specs.declared.step.Step.{Step}
use Rattle.replayer.specs.declared.step.Step.TheVariants as step
use Rattle.replayer.proofs.Departing.{above, early, other}
use Rattle.replayer.proofs.Effects.{effect_here, operate_no_step, load_no_step, store_no_step, rested, adds, revoke_adds, stop_adds, close_adds}
use Rattle.replayer.proofs.Attempts.{CanMake, can_operate, can_revoke, can_stop, can_close, keeps_still, keeps_by, told_by, comes_on, look_told, look_keeps, look_carries, attempted}

module _ (cells : Board) (seat : Seat) (run : Stepping) (x : Noted) (set : IsSet cells seat run x) where
  abbrev v : SeatView
  v = view_of seat

  abbrev told : Told
  told = told_at seat

  abbrev th : Thread
  th = run.flow.kept.thread

  carries : Carries v seat.marks run
  carries = set.carrying.carries

  pub has_here : (obj : ObjId) (b : Bool) → has_object cells.code cells.setup obj ≡ b → has_object v.code v.setup obj ≡ b
  has_here obj b e = ap (λ z. has_object z v.setup obj) set.carrying.seat_of.code_is ∙ ap (λ z. has_object cells.code z obj) set.carrying.seat_of.setup_is ∙ e

  pub runnable_here : IsRunnable cells.code → IsRunnable v.code
  runnable_here h = subst IsRunnable (sym set.carrying.seat_of.code_is) h

  pub limits_here : IsWithinLimits cells.setup → IsWithinLimits v.setup
  limits_here h = subst IsWithinLimits (sym set.carrying.seat_of.setup_is) h

  cells_here : cells_of cells.code cells.setup ≡ cells_of v.code v.setup
  cells_here = sym (ap (λ z. cells_of z v.setup) set.carrying.seat_of.code_is ∙ ap (cells_of cells.code) set.carrying.seat_of.setup_is)

  pub count_here : told.thread.count ≡ th.count
  count_here = same_count v seat.marks run carries set.lives

  pub next_here : (a : Action) → next_of run ≡ a → next v.code v.setup v.from told.thread ≡ a
  next_here a e = (comes_next v seat.marks run carries set.rests a set.lives e).comes

  rested_here : settled v.code v.setup v.from told.thread ≡ th
  rested_here = comes v seat.marks run carries set.rests set.lives

  -- ---- a thread that departs

  pub departs : HasDeparted v told x → Comes cells seat seat run x step.Departs
  departs h = record { carrying = set.carrying; keeps = keeps_still seat; is = (refl, h) }

  -- before the entry's count no load, store or mark comes next
  idle : (a : Action) → next_of run ≡ a → th.count < x.entry.count → IsNoStep (action_effect v.code v.setup v.from told (rested v.code v.setup v.from told) a) → Comes cells seat seat run x step.Departs
  idle a e lt none =
      let same = count_here in
      departs (early v told x (omega (arith, same, lt)) (subst (λ k. IsNoStep (effect_of v.code v.setup (Go k) told)) (sym set.own) (subst IsNoStep (sym (effect_here v.code v.setup v.from told a (next_here a e))) none)))

  pub idle_operate : (o : Op) (obj : ObjId) → next_of run ≡ action.Operate o obj → th.count < x.entry.count → Comes cells seat seat run x step.Departs
  idle_operate o obj e lt = idle (action.Operate o obj) e lt (operate_no_step v.code v.setup v.from told o obj)

  pub idle_load : (c : ℕ) → next_of run ≡ action.Load c → cells_of cells.code cells.setup ≤ c → th.count < x.entry.count → Comes cells seat seat run x step.Departs
  idle_load c e out lt = idle (action.Load c) e lt (load_no_step v.code v.setup v.from told c (subst (λ n. n ≤ c) cells_here out))

  pub idle_store : (c w : ℕ) → next_of run ≡ action.Store c w → cells_of cells.code cells.setup ≤ c → th.count < x.entry.count → Comes cells seat seat run x step.Departs
  idle_store c w e out lt = idle (action.Store c w) e lt (store_no_step v.code v.setup v.from told c w (subst (λ n. n ≤ c) cells_here out))

  pub idle_quiet : next_of run ≡ action.Quiet → th.count < x.entry.count → Comes cells seat seat run x step.Departs
  idle_quiet e lt = idle action.Quiet e lt tt

  pub idle_ended : next_of run ≡ action.Ended → th.count < x.entry.count → Comes cells seat seat run x step.Departs
  idle_ended e lt = idle action.Ended e lt tt

  -- beyond its count
  pub passed : x.entry.count < th.count → IsInStep told x → Comes cells seat seat run x step.Departs
  passed lt in_step = let same = count_here in departs (above v told x in_step (omega (arith, same, lt)))

  -- ---- a load, a store or a mark

  module _ (new : Seat) (q : Stepping) (carrying : IsCarrying cells new q) (lt : th.count < x.entry.count) where
    went : (a : Action) (answer : ℤ) (now : Told) → IsAccessAction a → next_of run ≡ a → told_at new ≡ now → now.entries ≡ told.entries → now.thread ≡ stepped v.code v.setup v.from (settled v.code v.setup v.from told.thread) answer → KeepsDeparture seat new → Comes cells seat new q x step.Goes
    went a answer now access e is entries thread keeps =
        let one = (action_counts v.code v.setup v.from (settled v.code v.setup v.from told.thread) a answer access (next_here a e)).count in
        let quiet = settled_count v.code v.setup v.from told.thread in
        let now_count = ap (λ (z : Told). z.thread.count) is in
        let step_count = ap (λ (z : Thread). z.count) thread in
        let same = count_here in
        record {
          carrying = carrying;
          keeps = keeps;
          is = (ap (λ (z : Told). z.entries) is ∙ entries, omega (arith, one, quiet, now_count, step_count, same, lt));
        }

    pub went_load : (c : ℕ) → next_of run ≡ action.Load c → AccessIs seat new (action.Load c) → Comes cells seat new q x step.Goes
    went_load c e is =
        let now = after_load v.code v.setup v.from told c is.0 in
        went (action.Load c) (number_of_word is.0) now tt e (told_by new (with_thread v now) 0 is.1.view is.1.marks) refl refl (keeps_by seat new (with_thread v now) is.1.view refl refl refl)

    pub went_store : (c w : ℕ) → next_of run ≡ action.Store c w → AccessIs seat new (action.Store c w) → Comes cells seat new q x step.Goes
    went_store c w e is =
        let now = after_store v.code v.setup v.from told c w in
        went (action.Store c w) (pos 0) now tt e (told_by new (with_thread v now) 0 is.view is.marks) refl refl (keeps_by seat new (with_thread v now) is.view refl refl refl)

    pub went_mark : next_of run ≡ action.Mark → AccessIs seat new action.Mark → Comes cells seat new q x step.Goes
    went_mark e is =
        went action.Mark (pos 0) (after_mark v.code v.setup v.from told) tt e (told_by new v (suc seat.marks) is.view (is.marks ∙ add-one seat.marks)) refl refl (keeps_by seat new v is.view refl refl refl)

  -- ---- the operation that comes next

  pub operates_range : IsRunnable cells.code → IsWithinLimits cells.setup → (o : Op) (obj : ObjId) → next_of run ≡ action.Operate o obj → IsInRange o
  operates_range runnable limits o obj e = (own_action v.code v.setup v.from (settled v.code v.setup v.from told.thread) o obj (runnable_here runnable) (next_here (action.Operate o obj) e)).range (limits_here limits)

  pub operates_fits : IsRunnable cells.code → (o : Op) (obj : ObjId) → next_of run ≡ action.Operate o obj → Fits (name_of o) obj
  operates_fits runnable o obj e = (own_action v.code v.setup v.from (settled v.code v.setup v.from told.thread) o obj (runnable_here runnable) (next_here (action.Operate o obj) e)).fits

  -- ---- the entry

  module _ (at : th.count ≡ x.entry.count) where
    count_is : told.thread.count ≡ x.entry.count
    count_is = count_here ∙ at

    -- the entry's label adds another entry, or none
    differs : (l : Label) → label_of x.entry ≡ l → ((change : ℕ → Change Told) → effect_of v.code v.setup l told ≢ Operates x.entry change) → Comes cells seat seat run x step.Departs
    differs l label none = departs (other v told x count_is (λ change e. none change (ap (λ z. effect_of v.code v.setup z told) (sym label) ∙ e)))

    label_here : (l : ℕ → Label) → label_of x.entry ≡ l x.entry.thread → label_of x.entry ≡ l v.from
    label_here l e = e ∙ ap l set.own

    -- what comes next is another operation than the entry's, or none
    pub mismatch : (a : Action) → next_of run ≡ a → label_of x.entry ≡ Go x.entry.thread → ((o : Op) (obj : ObjId) → a ≡ action.Operate o obj → has_object cells.code cells.setup obj ≡ true → name_of o ≡ x.entry.op → obj ≡ x.entry.obj → ⊥) → Comes cells seat seat run x step.Departs
    mismatch a e label none = differs (Go v.from) (label_here Go label) (λ change is.
        let r = adds v.code v.setup v.from told a x.entry change (sym (effect_here v.code v.setup v.from told a (next_here a e)) ∙ is) in
        none r.o r.obj r.is (has_back r.obj r.has) (ap (λ (z : Entry). z.op) r.entry) (ap (λ (z : Entry). z.obj) r.entry))
      where
        has_back : (obj : ObjId) → has_object v.code v.setup obj ≡ true → has_object cells.code cells.setup obj ≡ true
        has_back obj h = ap (λ z. has_object z cells.setup obj) (sym set.carrying.seat_of.code_is) ∙ ap (λ z. has_object v.code z obj) (sym set.carrying.seat_of.setup_is) ∙ h

    pub no_revoke : (lock stripe : ℕ) → label_of x.entry ≡ Revoke x.entry.thread lock stripe → (may_revoke told.thread lock stripe ≡ true → has_object v.code v.setup (object.Weak lock stripe) ≡ true → ⊥) → Comes cells seat seat run x step.Departs
    no_revoke lock stripe label none = differs (Revoke v.from lock stripe) (label_here (λ t. Revoke t lock stripe) label) (λ change is. let r = revoke_adds v.code v.setup v.from told lock stripe x.entry change is in none r.0 r.1)

    pub no_stop : label_of x.entry ≡ Stop x.entry.thread → (may_stop told.thread ≡ true → x.entry.obj ≡ object.Halt → ⊥) → Comes cells seat seat run x step.Departs
    no_stop label none = differs (Stop v.from) (label_here Stop label) (λ change is. let r = stop_adds v.code v.setup v.from told x.entry change is in none r.0 r.1)

    pub no_close : label_of x.entry ≡ Close x.entry.thread → (may_close told.thread ≡ true → x.entry.obj ≡ object.Slot v.from → ⊥) → Comes cells seat seat run x step.Departs
    no_close label none = differs (Close v.from) (label_here Close label) (λ change is. let r = close_adds v.code v.setup v.from told x.entry change is in none r.0 r.1)

    -- ---- what it may make

    pub operates : IsRunnable cells.code → (o : Op) (obj : ObjId) → next_of run ≡ action.Operate o obj → has_object cells.code cells.setup obj ≡ true → label_of x.entry ≡ Go x.entry.thread → name_of o ≡ x.entry.op → obj ≡ x.entry.obj → CanMake v.code v.setup v.from told o obj x.entry
    operates runnable o obj e has label op_is obj_is = can_operate v.code v.setup v.from told o obj x.entry (runnable_here runnable) (next_here (action.Operate o obj) e) (has_here obj true has) (label_here Go label) set.own (sym op_is) (sym obj_is) count_is

    -- the run's thread and the seat's have as many entries and revokes, and hold the same stripes
    entries_here : told.thread.entries ≡ th.entries
    entries_here = sym (settled_keeps_all v.code v.setup v.from told.thread).rest.entries ∙ ap (λ (z : Thread). z.entries) rested_here

    revokes_here : told.thread.revokes ≡ th.revokes
    revokes_here = sym (settled_keeps_all v.code v.setup v.from told.thread).rest.revokes ∙ ap (λ (z : Thread). z.revokes) rested_here

    holds_here : (lock stripe : ℕ) → holds told.thread.stripes lock stripe ≡ holds th.stripes lock stripe
    holds_here lock stripe = sym (holds_settled v.code v.setup v.from told.thread carries.stripes lock stripe) ∙ ap (λ (z : Thread). holds z.stripes lock stripe) rested_here

    pub phase_here : told.thread.phase ≡ th.phase
    phase_here = same_phase v seat.marks run carries

    pub may_here : (lock stripe : ℕ) → may_revoke told.thread lock stripe ≡ may_lose th lock stripe
    may_here lock stripe =
        ap (λ p. not (has_ended p) && holds told.thread.stripes lock stripe && nat_lt told.thread.entries most_entries && nat_lt told.thread.revokes most_revokes) phase_here
        ∙ ap (λ b. not b && holds told.thread.stripes lock stripe && nat_lt told.thread.entries most_entries && nat_lt told.thread.revokes most_revokes) set.lives
        ∙ ap (λ b. b && nat_lt told.thread.entries most_entries && nat_lt told.thread.revokes most_revokes) (holds_here lock stripe)
        ∙ ap (λ n. holds th.stripes lock stripe && nat_lt n most_entries && nat_lt told.thread.revokes most_revokes) entries_here
        ∙ ap (λ n. holds th.stripes lock stripe && nat_lt th.entries most_entries && nat_lt n most_revokes) revokes_here

    pub revokes : (lock stripe : ℕ) → label_of x.entry ≡ Revoke x.entry.thread lock stripe → x.entry.op ≡ name.Revoke → x.entry.obj ≡ object.Weak lock stripe → has_object cells.code cells.setup (object.Weak lock stripe) ≡ true → may_lose th lock stripe ≡ true → CanMake v.code v.setup v.from told op.Revoke (object.Weak lock stripe) x.entry
    revokes lock stripe label op_is obj_is has may =
        can_revoke v.code v.setup v.from told x.entry (ap (has_object v.code v.setup) obj_is ∙ has_here (object.Weak lock stripe) true has) set.own count_is lock stripe (label_here (λ t. Revoke t lock stripe) label) op_is obj_is
        (may_here lock stripe ∙ may)

    pub stops : label_of x.entry ≡ Stop x.entry.thread → x.entry.op ≡ name.Stop → x.entry.obj ≡ object.Halt → has_begun th.phase ≡ true → CanMake v.code v.setup v.from told op.Stop object.Halt x.entry
    stops label op_is obj_is begun =
        can_stop v.code v.setup v.from told x.entry (ap (has_object v.code v.setup) obj_is) set.own count_is (label_here Stop label) op_is obj_is
        (ap (λ p. has_begun p && not (has_ended p)) phase_here ∙ ap (λ b. b && not (has_ended th.phase)) begun ∙ ap not set.lives)

    pub closes : label_of x.entry ≡ Close x.entry.thread → x.entry.op ≡ name.Close → x.entry.obj ≡ object.Slot v.from → has_begun th.phase ≡ false → CanMake v.code v.setup v.from told op.Close (object.Slot v.from) x.entry
    closes label op_is obj_is early_is =
        can_close v.code v.setup v.from told x.entry (ap (has_object v.code v.setup) obj_is ∙ slot) set.own count_is (label_here Close label) op_is obj_is
        (ap (λ p. not (has_begun p) && not (has_ended p)) phase_here ∙ ap (λ b. not b && not (has_ended th.phase)) early_is ∙ ap not set.lives)
      where
        less : (a b : ℕ) → a < b → nat_lt a b ≡ true
        less a b lt = grind (arith, nat_tests, lt)

        slot : has_object v.code v.setup (object.Slot v.from) ≡ true
        slot =
            let within = set.carrying.seat_of.within in
            let same = set.carrying.seat_of.thread_is in
            let slots = ap (λ (z : SetupView). z.slots) set.carrying.seat_of.setup_is in
            less v.from v.setup.slots (omega (arith, within, same, slots))

  -- ---- after a look

  pub looked_set : (mid : Seat) (o : Op) (obj : ObjId) (number : ℕ) (s : Sight) → Sees seat mid o obj number s → IsSeatOf cells mid → IsSet cells mid run x
  looked_set mid o obj number s sees of = record {
    carrying = look_carries seat mid o obj number s sees cells run of set.carrying;
    rests = set.rests;
    ready = set.ready;
    lives = set.lives;
    own = set.own ∙ sym (look_keeps seat mid o obj number s sees).thread;
  }

  -- an attempt after a look
  pub tried : (mid new : Seat) (q : Stepping) (o : Op) (obj : ObjId) (s : Sight) (came : Attempt) (st : Step) → Sees seat mid o obj x.number s → CanMake (view_of mid).code (view_of mid).setup (view_of mid).from (told_at mid) o obj x.entry → IsCarrying cells new q → AttemptIs (Some x.number) mid new o obj came → st ≡ step_of came → Comes cells seat new q x st
  tried mid new q o obj s came st sees can carrying is came_is =
      subst (Comes cells seat new q x) (sym came_is)
      (comes_on cells seat mid new q x (step_of came) (look_keeps seat mid o obj x.number s sees) (look_told seat mid o obj x.number s sees) (attempted cells mid new q x o obj can carrying came is))

-- whether the machine has the object, as its own readers tell it
pub has_read : (cells : Board) (code : Code) (s : SetupView) (obj : ObjId) (b told : Bool) → code ≡ cells.code → s ≡ cells.setup → told ≡ has_object code s obj → told ≡ b → has_object cells.code cells.setup obj ≡ b
has_read cells code s obj b told code_is setup_is is e = ap (λ z. has_object z cells.setup obj) (sym code_is) ∙ ap (λ z. has_object code z obj) (sym setup_is) ∙ sym is ∙ e
