-- Where an entry of a log passes to another, the operation that it is in the walk passes to that of the other.
use Rattle.std.proofs.Common.{◌≡◌, ◌≢◌, ℕ, ◌<◌, nat_lt, ◌&&◌, ◌||◌, ◌⊎◌, inl, inr, ⊎_elim, Bool, true, false, List, [], ◌∷◌, length, take, Option, Some, None, refl, sym, ap, subst, ◌∙◌, ℤ, pos}
use Rattle.std.specs.Prelude.{slice_get}
use Rattle.std.proofs.lemmas.Bool.{and_parts, ltb-true}
use Rattle.std.proofs.lemmas.Option.{slice_get_within}
use Rattle.sync_objects.specs.Modes.{excludes}
use Rattle.sync_objects.specs.Setup.{SetupView, IsWithinLimits}
use Rattle.sync_objects.specs.Names.{name_of, kind_of, object_kind}
use Rattle.sync_objects.specs.Packing.{shown}
use Rattle.sync_objects.specs.Table.{Moves, first_row, rows}
use Rattle.sync_objects.specs.declared.entry.Entry.{Entry}
use Rattle.sync_objects.specs.declared.entry.Noted.{Noted}
use Rattle.sync_objects.specs.declared.kind.ObjKind.{ObjKind}
use Rattle.sync_objects.specs.declared.kind.ObjKind.TheVariants as kind
use Rattle.sync_objects.specs.declared.mode.Mode.{Mode}
use Rattle.sync_objects.specs.declared.mode.Mode.TheVariants.{Read, Write}
use Rattle.sync_objects.specs.declared.object.ObjId.{ObjId}
use Rattle.sync_objects.specs.declared.object.ObjId.TheVariants as object
use Rattle.sync_objects.specs.declared.operation.Op.{Op}
use Rattle.sync_objects.specs.declared.operation.Op.TheVariants as op
use Rattle.sync_objects.specs.declared.operation.OpName.{OpName}
use Rattle.sync_objects.specs.declared.operation.OpName.TheVariants as name
use Rattle.flow_code.specs.declared.code.Code.{Code}
use Rattle.flow_code.specs.Settle.{IsRunnable}
use Rattle.core_run.specs.Histories.{IsReachable}
use Rattle.core_run.specs.Machine.{Told, machine, start_state}
use Rattle.core_run.specs.Walks.{walk_of}
use Rattle.core_run.specs.Words.{has_object}
use Rattle.core_run.proofs.Lawful.{lawful}
use Rattle.run_theory.specs.Labels.{label_thread, label_of}
use Rattle.run_theory.specs.Ordered.{Event, Did, event_at, state_at, IsRelease, by_unlock, by_give, by_revoke, by_write_unlock, by_read_unlock, IsAcquire, by_lock, by_trylock, by_take, by_retake, by_write_lock, by_read_lock, HandsOver, release_to_acquire, start_to_begin, end_to_join, PassesTo}
use Rattle.run_theory.specs.Same.{same_object}
use Rattle.run_theory.specs.Steps.{State}
use Rattle.run_theory.proofs.InTime.{ascends_at}
use Rattle.run_theory.proofs.SameEntries.{same_object-true}
use Rattle.lock_ownership.specs.Holders.{word_of_object, holder, shared}
use Rattle.lock_ownership.proofs.ObjectSteps.{OperatesOn}
use Rattle.lock_ownership.proofs.RwMoves.{rw_in}
use Rattle.lowering_simulation.specs.WalkEvents.{labels_of_walk}
use Rattle.chain_report.specs.Chains.{exclude, hands_thread, passes_to, passes_entries, passes}
use Rattle.chain_report.specs.Replayed.{holder_over, hold_over, unless_held, released_by, released, acquired_by, acquired}
use Rattle.chain_report.proofs.LockMoves.{lock_in, as_lock, trylock_gets, HoldIs, rdlock_gets, wrlock_gets, reads_it}
use Rattle.chain_report.proofs.Spots.{Makes, spot, spots_ascend, Stands, stands}
use Rattle.chain_report.proofs.Shown.{EntryOn, EntryElsewhere, entry_step, entry_has, own_thread, holder_shown, hold_shown}

-- ---- objects by their kinds

a_mutex : (o : ObjId) → kind.Mutex ≡ object_kind o → (cell : ℕ) × (o ≡ object.Mutex cell)
a_mutex (object.Mutex cell) e = (cell, refl)
a_mutex _ e = cc

a_lock : (o : ObjId) → kind.Rw ≡ object_kind o → (cell : ℕ) × (o ≡ object.Rw cell)
a_lock (object.Rw cell) e = (cell, refl)
a_lock _ e = cc

a_stripe : (o : ObjId) → kind.Weak ≡ object_kind o → (lock : ℕ) × (stripe : ℕ) × (o ≡ object.Weak lock stripe)
a_stripe (object.Weak lock stripe) e = (lock, stripe, refl)
a_stripe _ e = cc

same_mode : (a b : Mode) → Some a ≡ Some b → a ≡ b
same_mode a b e = cc

module _ (code : Code) (s : SetupView) (run : IsRunnable code) (limits : IsWithinLimits s) (es : List Entry) (end : State Told) (walked : walk_of code s es (start_state code s) ≡ Some end) where
  abbrev pub events : ℕ → Option Event
  events = event_at (machine code s) (labels_of_walk code s es) (start_state code s)

  abbrev pub place : ℕ → ℕ
  place k = spot code s es (start_state code s) k

  -- the operation that an entry is in the walk
  pub record Operation (k : ℕ) (e : Entry) : Type 0 where
    pub mid : State Told
    pub after : State Told
    pub number : ℕ
    pub at : state_at (machine code s) (labels_of_walk code s es) (start_state code s) (place k) ≡ Some mid
    pub known : has_object code s e.obj ≡ true
    pub within : k < length es
    pub reached : IsReachable code s mid
    pub step : OperatesOn code s e.obj mid (label_of e) after
    pub named : name_of step.operation ≡ e.op
    pub happens : events (place k) ≡ Some (Did e.thread (record { entry = e; number = number }) (word_of_object code s e.obj mid) step.answer)
    pub makes : Makes code s e mid after

  pub operation_at : (k : ℕ) (e : Entry) → slice_get es k ≡ Some e → Operation k e
  operation_at k e here =
      let q = stands code s es (start_state code s) end k e ([], refl) walked here in
      let known = entry_has code s run limits e q.mid q.after q.makes in
      ⊎_elim
      (λ (x : EntryElsewhere code s run limits e e.obj q.mid q.after). absurd (x.other refl))
      (λ (x : EntryOn code s run limits e e.obj q.mid q.after q.makes.number). record {
        mid = q.mid;
        after = q.after;
        number = q.makes.number;
        at = q.at;
        known = known;
        within = slice_get_within es k e here;
        reached = q.reached;
        step = x.step;
        named = sym x.step.named ∙ ap (λ (z : Noted). z.entry.op) x.noted;
        happens = q.event ∙ x.step.happens ∙ ap (λ z. Some (Did (label_thread (label_of e)) z (word_of_object code s e.obj q.mid) x.step.answer)) x.noted
            ∙ ap (λ t. Some (Did t (record { entry = e; number = q.makes.number }) (word_of_object code s e.obj q.mid) x.step.answer)) (own_thread code s run limits e);
        makes = q.makes;
      })
      (entry_step code s run limits e e.obj known q.mid q.after q.reached q.makes)

  module _ (k : ℕ) (e : Entry) (o : Operation k e) where
    abbrev before : List Entry
    before = take k es

    abbrev word : ℕ
    word = word_of_object code s e.obj o.mid

    fits : kind_of e.op ≡ object_kind e.obj
    fits = ap kind_of (sym o.named) ∙ o.step.fits

    pub holder_is : (obj : ObjId) (cell : ℕ) → obj ≡ object.Mutex cell → has_object code s obj ≡ true → holder code s obj o.mid ≡ as_lock (holder_over obj None before)
    holder_is obj cell is has =
        subst (λ z. holder code s z o.mid ≡ as_lock (holder_over z None before)) (sym is)
        (holder_shown code s run limits cell (ap (has_object code s) (sym is) ∙ has) es end o.mid k walked o.within o.at)

    pub hold_is : (obj : ObjId) (cell t : ℕ) → obj ≡ object.Rw cell → has_object code s obj ≡ true → HoldIs t (shared code s obj o.mid) (hold_over obj t None before)
    hold_is obj cell t is has =
        subst (λ z. HoldIs t (shared code s z o.mid) (hold_over z t None before)) (sym is)
        (hold_shown code s run limits cell (ap (has_object code s) (sym is) ∙ has) t es end o.mid k walked o.within o.at)

    -- ---- what is let go

    rw_release : (cell : ℕ) (mode : Mode) → HoldIs e.thread (rw_in word) (Some mode) → IsRelease (object.Rw cell) mode name.RwUnlock e.thread word
    rw_release cell Read h = by_read_unlock cell e.thread word (reads_it e.thread (rw_in word) h)
    rw_release cell Write h = by_write_unlock cell e.thread word h.writing

    release_by : (n : OpName) (mode : Mode) → kind_of n ≡ object_kind e.obj → released_by before e n ≡ Some mode → IsRelease e.obj mode n e.thread word
    release_by name.Unlock mode f h =
        let c = a_mutex e.obj f in
        subst (λ z. IsRelease z mode name.Unlock e.thread word) (sym c.1) (subst (λ z. IsRelease (object.Mutex c.0) z name.Unlock e.thread word) (same_mode Write mode h) (by_unlock c.0 e.thread word))
    release_by name.Give mode f h =
        let c = a_stripe e.obj f in
        subst (λ z. IsRelease z mode name.Give e.thread word) (sym c.2) (subst (λ z. IsRelease (object.Weak c.0 c.1) z name.Give e.thread word) (same_mode Write mode h) (by_give c.0 c.1 e.thread word))
    release_by name.Revoke mode f h =
        let c = a_stripe e.obj f in
        subst (λ z. IsRelease z mode name.Revoke e.thread word) (sym c.2) (subst (λ z. IsRelease (object.Weak c.0 c.1) z name.Revoke e.thread word) (same_mode Write mode h) (by_revoke c.0 c.1 e.thread word))
    release_by name.RwUnlock mode f h =
        let c = a_lock e.obj f in
        let held = subst (HoldIs e.thread (shared code s e.obj o.mid)) h (hold_is e.obj c.0 e.thread c.1 o.known) in
        subst (λ z. IsRelease z mode name.RwUnlock e.thread word) (sym c.1) (rw_release c.0 mode held)
    release_by _ mode f h = cc

    pub releases : (mode : Mode) → released before e ≡ Some mode → IsRelease e.obj mode e.op e.thread word
    releases mode h = release_by e.op mode fits h

    -- ---- what is got

    nobody : {A : Type 0} (held : Option A) (m mode : Mode) → unless_held held m ≡ Some mode → (held ≡ None) × (m ≡ mode)
    nobody None m mode h = (refl, same_mode m mode h)
    nobody (Some x) m mode h = cc

    -- the row of the table, for the operation that the entry names
    pub tried : (x : Op) (answer : ℤ) (w v : ℕ) → name_of x ≡ name.TryLock → first_row (rows x e.thread) (shown (kind_of (name_of x)) w) ≡ Moves (shown (kind_of (name_of x)) v) answer → first_row (rows op.TryLock e.thread) (lock_in w) ≡ Moves (lock_in v) answer
    tried op.TryLock answer w v n r = r
    tried _ answer w v n r = cc

    pub reading : (x : Op) (answer : ℤ) (w v : ℕ) → name_of x ≡ name.RdLock → first_row (rows x e.thread) (shown (kind_of (name_of x)) w) ≡ Moves (shown (kind_of (name_of x)) v) answer → first_row (rows op.RdLock e.thread) (rw_in w) ≡ Moves (rw_in v) answer
    reading op.RdLock answer w v n r = r
    reading _ answer w v n r = cc

    pub writing : (x : Op) (answer : ℤ) (w v : ℕ) → name_of x ≡ name.WrLock → first_row (rows x e.thread) (shown (kind_of (name_of x)) w) ≡ Moves (shown (kind_of (name_of x)) v) answer → first_row (rows op.WrLock e.thread) (rw_in w) ≡ Moves (rw_in v) answer
    writing op.WrLock answer w v n r = r
    writing _ answer w v n r = cc

    pub row : first_row (rows o.step.operation e.thread) (shown (kind_of (name_of o.step.operation)) word) ≡ Moves (shown (kind_of (name_of o.step.operation)) (word_of_object code s e.obj o.after)) o.step.answer
    row = subst (λ t. first_row (rows o.step.operation t) (shown (kind_of (name_of o.step.operation)) word) ≡ Moves (shown (kind_of (name_of o.step.operation)) (word_of_object code s e.obj o.after)) o.step.answer) (own_thread code s run limits e) o.step.row

    acquire_by : (n : OpName) (mode : Mode) → e.op ≡ n → kind_of n ≡ object_kind e.obj → acquired_by before e n ≡ Some mode → IsAcquire e.obj mode n o.step.answer
    acquire_by name.Lock mode is f h =
        let c = a_mutex e.obj f in
        subst (λ z. IsAcquire z mode name.Lock o.step.answer) (sym c.1) (subst (λ z. IsAcquire (object.Mutex c.0) z name.Lock o.step.answer) (same_mode Write mode h) (by_lock c.0 o.step.answer))
    acquire_by name.TryLock mode is f h =
        let c = a_mutex e.obj f in
        let free = nobody (holder_over e.obj None before) Write mode h in
        let got = trylock_gets e.thread o.step.answer word (word_of_object code s e.obj o.after) (tried o.step.operation o.step.answer word (word_of_object code s e.obj o.after) (o.named ∙ is) row) (holder_is e.obj c.0 c.1 o.known ∙ ap as_lock free.0) in
        subst (λ z. IsAcquire z mode name.TryLock o.step.answer) (sym c.1) (subst (λ z. IsAcquire (object.Mutex c.0) z name.TryLock o.step.answer) free.1 (subst (IsAcquire (object.Mutex c.0) Write name.TryLock) (sym got) (by_trylock c.0)))
    acquire_by name.Take mode is f h =
        let c = a_stripe e.obj f in
        subst (λ z. IsAcquire z mode name.Take o.step.answer) (sym c.2) (subst (λ z. IsAcquire (object.Weak c.0 c.1) z name.Take o.step.answer) (same_mode Write mode h) (by_take c.0 c.1 o.step.answer))
    acquire_by name.Retake mode is f h =
        let c = a_stripe e.obj f in
        subst (λ z. IsAcquire z mode name.Retake o.step.answer) (sym c.2) (subst (λ z. IsAcquire (object.Weak c.0 c.1) z name.Retake o.step.answer) (same_mode Write mode h) (by_retake c.0 c.1 o.step.answer))
    acquire_by name.RdLock mode is f h =
        let c = a_lock e.obj f in
        let none = nobody (hold_over e.obj e.thread None before) Read mode h in
        let got = rdlock_gets e.thread o.step.answer word (word_of_object code s e.obj o.after) (reading o.step.operation o.step.answer word (word_of_object code s e.obj o.after) (o.named ∙ is) row) (subst (HoldIs e.thread (shared code s e.obj o.mid)) none.0 (hold_is e.obj c.0 e.thread c.1 o.known)) in
        subst (λ z. IsAcquire z mode name.RdLock o.step.answer) (sym c.1) (subst (λ z. IsAcquire (object.Rw c.0) z name.RdLock o.step.answer) none.1 (subst (IsAcquire (object.Rw c.0) Read name.RdLock) (sym got) (by_read_lock c.0)))
    acquire_by name.WrLock mode is f h =
        let c = a_lock e.obj f in
        let none = nobody (hold_over e.obj e.thread None before) Write mode h in
        let got = wrlock_gets e.thread o.step.answer word (word_of_object code s e.obj o.after) (writing o.step.operation o.step.answer word (word_of_object code s e.obj o.after) (o.named ∙ is) row) (subst (HoldIs e.thread (shared code s e.obj o.mid)) none.0 (hold_is e.obj c.0 e.thread c.1 o.known)) in
        subst (λ z. IsAcquire z mode name.WrLock o.step.answer) (sym c.1) (subst (λ z. IsAcquire (object.Rw c.0) z name.WrLock o.step.answer) none.1 (subst (IsAcquire (object.Rw c.0) Write name.WrLock) (sym got) (by_write_lock c.0)))
    acquire_by _ mode is f h = cc

    pub acquires : (mode : Mode) → acquired before e ≡ Some mode → IsAcquire e.obj mode e.op o.step.answer
    acquires mode h = acquire_by e.op mode refl fits h

  -- ---- what is passed

  threads_by : (a b : OpName) (obj : ObjId) (t w : ℕ) (answer : ℤ) → hands_thread a b ≡ true → HandsOver obj a t w b answer
  threads_by name.Start name.Begin obj t w answer h = start_to_begin obj t w answer
  threads_by name.End name.Join obj t w answer h = end_to_join obj t w answer
  threads_by _ _ obj t w answer h = cc

  -- the modes that exclude each other
  pub record Excluding (a b : Option Mode) : Type 0 where
    pub first : Mode
    pub first_is : a ≡ Some first
    pub second : Mode
    pub second_is : b ≡ Some second
    pub apart : excludes first second ≡ true

  excluding : (a b : Option Mode) → exclude a b ≡ true → Excluding a b
  excluding (Some a) (Some b) h = record { first = a; first_is = refl; second = b; second_is = refl; apart = h }
  excluding (Some a) None h = cc
  excluding None b h = cc

  -- two entries, of which the first passes to the second
  pub record Passing (a b : ℕ) : Type 0 where
    pub first : Entry
    pub first_is : slice_get es a ≡ Some first
    pub second : Entry
    pub second_is : slice_get es b ≡ Some second
    pub gives : Operation a first
    pub takes : Operation b second
    pub to : PassesTo first.thread (record { entry = first; number = gives.number }) (word_of_object code s first.obj gives.mid) (record { entry = second; number = takes.number }) takes.step.answer

  pub passing : (a b : ℕ) → passes es a b ≡ true → Passing a b
  passing a b h = by (slice_get es a) (slice_get es b) refl refl h
    where
      hand : (x y : Entry) (p : Operation a x) (q : Operation b y) → x.obj ≡ y.obj → (c : Bool) → hands_thread x.op y.op ≡ c → (c || exclude (released (take a es) x) (acquired (take b es) y)) ≡ true → HandsOver x.obj x.op x.thread (word_of_object code s x.obj p.mid) y.op q.step.answer
      hand x y p q same true g t = threads_by x.op y.op x.obj x.thread (word_of_object code s x.obj p.mid) q.step.answer g
      hand x y p q same false g t =
          let m = excluding (released (take a es) x) (acquired (take b es) y) t in
          release_to_acquire x.obj m.first m.second x.op x.thread (word_of_object code s x.obj p.mid) y.op q.step.answer
          (releases a x p m.first m.first_is)
          (subst (λ z. IsAcquire z m.second y.op q.step.answer) (sym same) (acquires b y q m.second m.second_is))
          m.apart

      by : (u v : Option Entry) → slice_get es a ≡ u → slice_get es b ≡ v → passes_entries es a b u v ≡ true → Passing a b
      by (Some x) (Some y) e f t =
          let parts = and_parts (nat_lt a b && same_object x.obj y.obj) (hands_thread x.op y.op || exclude (released (take a es) x) (acquired (take b es) y)) t in
          let first = and_parts (nat_lt a b) (same_object x.obj y.obj) parts.0 in
          let one = same_object-true x.obj y.obj first.1 in
          let p = operation_at a x e in
          let q = operation_at b y f in
          let lt = spots_ascend code s es (start_state code s) end a b walked (ltb-true a b first.0) q.within in
          record {
            first = x;
            first_is = e;
            second = y;
            second_is = f;
            gives = p;
            takes = q;
            to = record {
              same_object = one;
              earlier = ascends_at (machine code s) (lawful code s run limits) (labels_of_walk code s es) (start_state code s) (place a) (place b) x.thread y.thread (record { entry = x; number = p.number }) (record { entry = y; number = q.number }) (word_of_object code s x.obj p.mid) (word_of_object code s y.obj q.mid) p.step.answer q.step.answer lt p.happens q.happens one;
              hands = hand x y p q one (hands_thread x.op y.op) refl parts.1;
            };
          }
      by (Some x) None e f t = cc
      by None v e f t = cc
