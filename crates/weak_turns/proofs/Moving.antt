-- After each step the run shows the thread of its seat again.
use Rattle.std.proofs.Common.{◌≡◌, ◌≢◌, ℕ, suc, ◌<◌, ◌^◌, ◌&&◌, not, nat_lt, true, false, Option, List, [], ◌∷◌, ◌++◌, ℤ, pos, refl, sym, ap, subst, ◌∙◌, inl, inr, ⊎_elim, arith}
use Rattle.std.proofs.lemmas.Bool.{lt-ltb}
use Rattle.std.proofs.lemmas.Int.{of_z-to_z}
use mir.Syntax.{w64}
use Rattle.sync_objects.specs.Names.{name_of}
use Rattle.sync_objects.specs.Words.{number_of}
use Rattle.sync_objects.specs.declared.entry.Noted.{Noted}
use Rattle.sync_objects.specs.declared.object.ObjId.{ObjId}
use Rattle.sync_objects.specs.declared.object.ObjId.TheVariants as object
use Rattle.sync_objects.specs.declared.operation.Op.{Op}
use Rattle.sync_objects.specs.declared.operation.Op.TheVariants as op
use Rattle.sync_objects.specs.declared.operation.OpName.{OpName}
use Rattle.sync_objects.specs.declared.operation.OpName.TheVariants as name
use Rattle.word_semantics.proofs.Calls.{is_from_outside}
use Rattle.word_semantics.specs.Limits.{most_entries, most_revokes}
use Rattle.word_semantics.specs.Values.{number, word}
use Rattle.word_semantics.specs.declared.event.Action.{Action}
use Rattle.word_semantics.specs.declared.event.Action.TheVariants as action
use Rattle.flow_code.specs.Next.{has_begun, has_ended, holds, action_at, stepped, gave_up, stopped, slot_closed}
use Rattle.flow_code.specs.Settle.{settled, IsRunnable}
use Rattle.flow_code.specs.Threads.{Thread}
use Rattle.flow_code.proofs.Asked.{own_action}
use Rattle.flow_code.proofs.Counts.{action_counts, settled_keeps_all}
use Rattle.core_run.specs.Machine.{Told, access_of, marked, operated, entry_of}
use Rattle.core_run.specs.Shown.{with_read}
use Rattle.core_run.specs.Walks.{kept_reads}
use Rattle.core_run.proofs.Walked.{kept_more}
use Rattle.thread_interpreter.specs.Pieces.{piece_next}
use Rattle.thread_step.specs.Steps.{Stepping, IsSameRun, told_of, next_of, after, reads_after}
use Rattle.lock_ownership.specs.ThreadStripes.{HasItsStripes}
use Rattle.shared_cells.specs.Plays.{IsReached}
use Rattle.shared_cells.specs.Seats.{view_of, place_in, AttemptIs, IsRefused, HasMoved}
use Rattle.shared_cells.specs.Threads.{Own, way_of, pending, after_by, after_load, after_store, after_operation, IsNext, IsDueIn, IsDueBy}
use Rattle.shared_cells.specs.Views.{SeatView, looked, missed, with_thread}
use Rattle.shared_cells.specs.declared.attempt.Attempt.TheVariants as attempt
use Rattle.shared_cells.specs.declared.seat.Seat.{Seat}
use Rattle.weak_turns.specs.Finding.{IsAlike}
use Rattle.weak_turns.specs.Shown.{IsSameThread, Shows, Carries, IsSettled}
use Rattle.weak_turns.proofs.Losing.{settled_less}
use Rattle.weak_turns.proofs.Showing.{noted_on, carries_at, arrives, same_phase, same_count, acts, lives_if, comes, comes_next, few_marks}
use Rattle.weak_turns.proofs.Stripes.{agree, stripes_stepped, stripes_revoked, stripes_same, holds_settled}

-- what a thread does by itself is made of it by no other
own_way : (o : Op) (obj : ObjId) → is_from_outside (name_of o) ≡ false → way_of o obj ≡ Own
own_way op.Revoke obj e = cc
own_way op.Stop obj e = cc
own_way op.Close obj e = cc
own_way op.Lock obj e = refl
own_way op.TryLock obj e = refl
own_way op.Unlock obj e = refl
own_way op.MutexInit obj e = refl
own_way op.CondEnter obj e = refl
own_way (op.CondWake epoch) obj e = refl
own_way op.Signal obj e = refl
own_way (op.BarrierInit count) obj e = refl
own_way op.Arrive obj e = refl
own_way (op.Pass generation) obj e = refl
own_way op.RdLock obj e = refl
own_way op.WrLock obj e = refl
own_way op.RwUnlock obj e = refl
own_way op.RwInit obj e = refl
own_way op.Take obj e = refl
own_way op.Retake obj e = refl
own_way op.Give obj e = refl
own_way (op.Draw slots) obj e = refl
own_way (op.Start function) obj e = refl
own_way op.Begin obj e = refl
own_way op.End obj e = refl
own_way op.Join obj e = refl
own_way op.Leave obj e = refl
own_way op.HaltAll obj e = refl
own_way op.TrapHere obj e = refl
own_way (op.GetChar len) obj e = refl
own_way op.Print obj e = refl

-- ---- attempts

-- an attempt that has failed leaves the thread
pub not_yet : (at : Option ℕ) (old new : Seat) (r : Stepping) (o : Op) (obj : ObjId) (seen : ℕ) → AttemptIs at old new o obj (attempt.NotYet seen) → Carries (view_of old) old.marks r → Carries (view_of new) new.marks r
not_yet at old new r o obj seen a c = ⊎_elim
    (λ (x : IsRefused at old new o obj seen). carries_at (looked (view_of old) _ seen) (view_of new) old.marks new.marks r x.view x.marks (noted_on (view_of old) old.marks r _ c))
    (λ (x : HasMoved old new obj seen). carries_at (missed (looked (view_of old) _ x.was) _ seen) (view_of new) old.marks new.marks r x.view x.marks (noted_on (view_of old) old.marks r _ c))
    a

-- what the run shows after an operation
pub record Operated (v : SeatView) (n : ℕ) (o : Op) (obj : ObjId) (answer : ℤ) (number : ℕ) (q : Stepping) : Type 0 where
  pub shows : Shows v.code v.setup v.from q (after_operation v.code v.setup v.from (pending v n) o obj answer number)
  pub stripes : HasItsStripes (after_operation v.code v.setup v.from (pending v n) o obj answer number).thread

-- an operation is made
pub done : (at : Option ℕ) (old new : Seat) (q : Stepping) (o : Op) (obj : ObjId) (answer : ℤ) (number : ℕ) → AttemptIs at old new o obj (attempt.Done answer number) → Operated (view_of old) old.marks o obj answer number q → Carries (view_of new) new.marks q
done at old new q o obj answer number a h =
    let v = view_of old in
    let seen : SeatView = looked v (place_in v obj) a.seen in
    let now = λ (k : ℕ). after_operation v.code v.setup v.from (pending v old.marks) o obj answer k in
    carries_at (with_thread seen (now (number_of a.seen))) (view_of new) 0 new.marks q a.makes.view a.marks
    (arrives seen (now (number_of a.seen)) q (subst IsReached a.makes.view a.makes.reached)
    (subst (λ k. Shows v.code v.setup v.from q (now k)) a.number_is h.shows)
    (subst (λ k. HasItsStripes (now k).thread) a.number_is h.stripes))

-- ---- steps

module _ (v : SeatView) (n : ℕ) (r : Stepping) (c : Carries v n r) where
  abbrev th : Thread
  th = r.flow.kept.thread

  abbrev told : Told
  told = pending v n

  -- ---- what may be made of the thread

  pub stop_due : has_begun th.phase ≡ true → has_ended th.phase ≡ false → IsDueIn v n op.Stop object.Halt
  stop_due begun lives = record {
    marks = c.ahead;
    due = ap (λ p. has_begun p && not (has_ended p)) (same_phase v n r c) ∙ ap (λ b. b && not (has_ended th.phase)) begun ∙ ap not lives;
  }

  pub close_due : (slot : ℕ) → slot ≡ v.from → has_begun th.phase ≡ false → has_ended th.phase ≡ false → IsDueIn v n op.Close (object.Slot slot)
  close_due slot is early lives = record {
    marks = c.ahead;
    due = (is, ap (λ p. not (has_begun p) && not (has_ended p)) (same_phase v n r c) ∙ ap (λ b. not b && not (has_ended th.phase)) early ∙ ap not lives);
  }

  -- the seat's thread has as many entries and revokes as the run, and holds the same stripes
  pub are_alike : IsSettled r → has_ended th.phase ≡ false → IsAlike r told.thread
  are_alike rests lives =
      let come = comes v n r c rests lives in
      let keeps = settled_keeps_all v.code v.setup v.from told.thread in
      record {
        entries = sym (ap (λ (z : Thread). z.entries) come) ∙ keeps.rest.entries;
        revokes = sym (ap (λ (z : Thread). z.revokes) come) ∙ keeps.rest.revokes;
        stripes = λ lock stripe. sym (ap (λ (z : Thread). holds z.stripes lock stripe) come) ∙ holds_settled v.code v.setup v.from told.thread c.stripes lock stripe;
      }

  pub revoke_due : (lock stripe : ℕ) → IsSettled r → has_ended th.phase ≡ false → holds th.stripes lock stripe ≡ true → th.entries < most_entries → th.revokes < most_revokes → IsDueIn v n op.Revoke (object.Weak lock stripe)
  revoke_due lock stripe rests lives has few_entries few_revokes =
      let a = are_alike rests lives in
      record {
        marks = c.ahead;
        due =
            ap (λ p. not (has_ended p) && holds told.thread.stripes lock stripe && nat_lt told.thread.entries most_entries && nat_lt told.thread.revokes most_revokes) (same_phase v n r c)
            ∙ ap (λ b. not b && holds told.thread.stripes lock stripe && nat_lt told.thread.entries most_entries && nat_lt told.thread.revokes most_revokes) lives
            ∙ ap (λ b. b && nat_lt told.thread.entries most_entries && nat_lt told.thread.revokes most_revokes) (sym (a.stripes lock stripe) ∙ has)
            ∙ ap (λ b. b && nat_lt told.thread.revokes most_revokes) (lt-ltb told.thread.entries most_entries (subst (λ k. k < most_entries) a.entries few_entries))
            ∙ lt-ltb told.thread.revokes most_revokes (subst (λ k. k < most_revokes) a.revokes few_revokes);
      }

  pub own_due : (o : Op) (obj : ObjId) → IsRunnable v.code → IsSettled r → next_of r ≡ action.Operate o obj → (way_of o obj ≡ Own) × IsNext v n (action.Operate o obj)
  own_due o obj runnable rests e = (
    own_way o obj (own_action v.code v.setup v.from th o obj runnable (acts v n r c (action.Operate o obj) e)).own,
    comes_next v n r c rests (action.Operate o obj) (lives_if v n r c (action.Operate o obj) e (λ f. cc)) e,
  )

  pub is_due : (o : Op) (obj : ObjId) → way_of o obj ≡ Own → IsNext v n (action.Operate o obj) → IsDueIn v n o obj
  is_due o obj way h = record { marks = h.marks; due = subst (λ w. IsDueBy w v.code v.setup v.from told o obj) (sym way) h.comes }

  module _ (q : Stepping) (same : IsSameRun r q) where
    shows_after : (now : Told) → q.entries ≡ now.entries → q.pieces ≡ now.pieces → q.reads ≡ kept_reads r.formula now → IsSameThread v.code v.setup v.from q.flow.kept.thread now.thread → Shows v.code v.setup v.from q now
    shows_after now entries pieces reads thread = record {
      code_is = same.code ∙ c.shows.code_is;
      setup_is = same.setup ∙ c.shows.setup_is;
      number_is = same.number ∙ c.shows.number_is;
      entries = entries;
      pieces = pieces;
      reads = reads ∙ ap (λ f. kept_reads f now) (sym same.formula);
      thread = thread;
    }

    -- what a step leaves, in the code of the seat
    leaves_so : (a : Action) (answer : ℤ) (k : ℕ) → next_of r ≡ a → told_of q ≡ after r.flow.code r.flow.setup r.flow.number (told_of r) (next_of r) answer k → told_of q ≡ after v.code v.setup v.from (told_of r) a answer k
    leaves_so a answer k e left =
        left
        ∙ ap (λ z. after z r.flow.setup r.flow.number (told_of r) (next_of r) answer k) c.shows.code_is
        ∙ ap (λ z. after v.code z r.flow.number (told_of r) (next_of r) answer k) c.shows.setup_is
        ∙ ap (λ z. after v.code v.setup z (told_of r) (next_of r) answer k) c.shows.number_is
        ∙ ap (λ b. after v.code v.setup v.from (told_of r) b answer k) e

    -- the accesses that are kept, in the code of the seat
    kept_so : (a : Action) (answer : ℤ) → next_of r ≡ a → q.reads ≡ reads_after r.formula r.flow.number th (next_of r) answer r.reads → q.reads ≡ reads_after r.formula v.from th a answer (kept_reads r.formula told)
    kept_so a answer e kept =
        kept
        ∙ ap (λ b. reads_after r.formula r.flow.number th b answer r.reads) e
        ∙ ap (λ k. reads_after r.formula k th a answer r.reads) c.shows.number_is
        ∙ ap (reads_after r.formula v.from th a answer) c.shows.reads

    module _ (rests : IsSettled r) where
      come_if : (a : Action) → next_of r ≡ a → a ≢ action.Ended → settled v.code v.setup v.from told.thread ≡ th
      come_if a e acting = comes v n r c rests (lives_if v n r c a e acting)

      pub loads : (cell w : ℕ) (answer : ℤ) → IsReached (with_thread v (after_load v.code v.setup v.from told cell w)) → w < 2 ^ 64 → answer ≡ number w → next_of r ≡ action.Load cell → told_of q ≡ after r.flow.code r.flow.setup r.flow.number (told_of r) (next_of r) answer 0 → q.reads ≡ reads_after r.formula r.flow.number th (next_of r) answer r.reads → Carries (with_thread v (after_load v.code v.setup v.from told cell w)) 0 q
      loads cell w answer reached fits is e left kept =
          let so = leaves_so (action.Load cell) answer 0 e left in
          let come = come_if (action.Load cell) e (λ f. cc) in
          let reads = λ (z : ℕ) (y : Thread). with_read r.formula (kept_reads r.formula told) (access_of v.from y cell z false) in
          let here = kept_so (action.Load cell) answer e kept
          ∙ ap (λ z. reads z th) (ap word is ∙ of_z-to_z w64 w fits)
          ∙ ap (reads w) (sym come)
          ∙ sym (kept_more r.formula told (stepped v.code v.setup v.from (settled v.code v.setup v.from told.thread) (number w)) (access_of v.from (settled v.code v.setup v.from told.thread) cell w false)) in
          arrives v (after_load v.code v.setup v.from told cell w) q reached
          (shows_after (after_load v.code v.setup v.from told cell w) (ap (λ (z : Told). z.entries) so ∙ c.shows.entries) (ap (λ (z : Told). z.pieces) so ∙ c.shows.pieces) here
          (inl (ap (settled v.code v.setup v.from) (ap (λ (z : Told). z.thread) so ∙ ap (stepped v.code v.setup v.from th) is ∙ ap (λ z. stepped v.code v.setup v.from z (number w)) (sym come)))))
          (stripes_stepped v.code v.setup v.from told.thread c.stripes (number w))

      pub stores : (cell w : ℕ) → IsReached (with_thread v (after_store v.code v.setup v.from told cell w)) → next_of r ≡ action.Store cell w → told_of q ≡ after r.flow.code r.flow.setup r.flow.number (told_of r) (next_of r) (pos 0) 0 → q.reads ≡ reads_after r.formula r.flow.number th (next_of r) (pos 0) r.reads → Carries (with_thread v (after_store v.code v.setup v.from told cell w)) 0 q
      stores cell w reached e left kept =
          let so = leaves_so (action.Store cell w) (pos 0) 0 e left in
          let come = come_if (action.Store cell w) e (λ f. cc) in
          let here = kept_so (action.Store cell w) (pos 0) e kept
          ∙ ap (λ (y : Thread). with_read r.formula (kept_reads r.formula told) (access_of v.from y cell w true)) (sym come)
          ∙ sym (kept_more r.formula told (stepped v.code v.setup v.from (settled v.code v.setup v.from told.thread) (pos 0)) (access_of v.from (settled v.code v.setup v.from told.thread) cell w true)) in
          arrives v (after_store v.code v.setup v.from told cell w) q reached
          (shows_after (after_store v.code v.setup v.from told cell w) (ap (λ (z : Told). z.entries) so ∙ c.shows.entries) (ap (λ (z : Told). z.pieces) so ∙ c.shows.pieces) here
          (inl (ap (settled v.code v.setup v.from) (ap (λ (z : Told). z.thread) so ∙ ap (λ z. stepped v.code v.setup v.from z (pos 0)) (sym come)))))
          (stripes_stepped v.code v.setup v.from told.thread c.stripes (pos 0))

      pub marks : next_of r ≡ action.Mark → told_of q ≡ after r.flow.code r.flow.setup r.flow.number (told_of r) (next_of r) (pos 0) 0 → q.reads ≡ reads_after r.formula r.flow.number th (next_of r) (pos 0) r.reads → Carries v (suc n) q
      marks e left kept =
          let so = leaves_so action.Mark (pos 0) 0 e left in
          let come = come_if action.Mark e (λ f. cc) in
          record {
            reached = c.reached;
            ahead = (c.ahead, ap (action_at v.code v.setup v.from) come ∙ acts v n r c action.Mark e);
            shows = shows_after (pending v (suc n)) (ap (λ (z : Told). z.entries) so ∙ c.shows.entries) (ap (λ (z : Told). z.pieces) so ∙ c.shows.pieces) (kept_so action.Mark (pos 0) e kept)
                (inl (ap (settled v.code v.setup v.from) (ap (λ (z : Told). z.thread) so ∙ ap (λ z. stepped v.code v.setup v.from z (pos 0)) (sym come))));
            stripes = stripes_stepped v.code v.setup v.from told.thread c.stripes (pos 0);
          }

      -- a mark is one event more
      pub marks_fit : next_of r ≡ action.Mark → told_of q ≡ after r.flow.code r.flow.setup r.flow.number (told_of r) (next_of r) (pos 0) 0 → n < q.flow.kept.thread.count
      marks_fit e left =
          let so = ap (λ (z : Told). z.thread.count) (leaves_so action.Mark (pos 0) 0 e left) in
          let one = (action_counts v.code v.setup v.from th action.Mark (pos 0) tt (acts v n r c action.Mark e)).count in
          let few = few_marks v n r c (lives_if v n r c action.Mark e (λ f. cc)) in
          omega arith

      pub operates : (o : Op) (obj : ObjId) (answer : ℤ) (k : ℕ) → way_of o obj ≡ Own → next_of r ≡ action.Operate o obj → told_of q ≡ after r.flow.code r.flow.setup r.flow.number (told_of r) (next_of r) answer k → q.reads ≡ reads_after r.formula r.flow.number th (next_of r) answer r.reads → Operated v n o obj answer k q
      operates o obj answer k way e left kept = record {
        shows = subst (λ w. Shows v.code v.setup v.from q (after_by w v.code v.setup v.from told o obj answer k)) (sym way) (subst (λ z. Shows v.code v.setup v.from q (now z)) (sym come) here);
        stripes = subst (λ w. HasItsStripes (after_by w v.code v.setup v.from told o obj answer k).thread) (sym way) (stripes_stepped v.code v.setup v.from told.thread c.stripes answer);
      }
        where
          so : told_of q ≡ after v.code v.setup v.from (told_of r) (action.Operate o obj) answer k
          so = leaves_so (action.Operate o obj) answer k e left

          come : settled v.code v.setup v.from told.thread ≡ th
          come = come_if (action.Operate o obj) e (λ f. cc)

          now : Thread → Told
          now z = after v.code v.setup v.from (marked told z) (action.Operate o obj) answer k

          x : Noted
          x = record { entry = entry_of v.from th (name_of o) obj; number = k }

          here : Shows v.code v.setup v.from q (now th)
          here = shows_after (now th)
              (ap (λ (z : Told). z.entries) so ∙ ap (λ (xs : List Noted). xs ++ x ∷ []) c.shows.entries)
              (ap (λ (z : Told). z.pieces) so ∙ ap (λ (xs : List (List ℕ)). xs ++ piece_next v.code th o) c.shows.pieces)
              (kept_so (action.Operate o obj) answer e kept)
              (inl (ap (λ (z : Told). settled v.code v.setup v.from z.thread) so))

    module _ (lives : has_ended th.phase ≡ false) (kept : q.reads ≡ r.reads) where
      -- an entry that is made of the thread from outside
      same_entries : (o : OpName) (obj : ObjId) (k : ℕ) → q.entries ≡ r.entries ++ record { entry = entry_of r.flow.number th o obj; number = k } ∷ [] → q.entries ≡ told.entries ++ record { entry = entry_of v.from told.thread o obj; number = k } ∷ []
      same_entries o obj k e =
          e
          ∙ ap (λ (xs : List Noted). xs ++ record { entry = entry_of r.flow.number th o obj; number = k } ∷ []) c.shows.entries
          ∙ ap (λ i. told.entries ++ record { entry = entry_of i th o obj; number = k } ∷ []) c.shows.number_is
          ∙ ap (λ i. told.entries ++ record { entry = record { thread = v.from; count = i; op = o; obj = obj }; number = k } ∷ []) (sym (same_count v n r c lives))

      same_pieces : q.pieces ≡ r.pieces ++ [] → q.pieces ≡ told.pieces ++ []
      same_pieces e = e ∙ ap (λ (xs : List (List ℕ)). xs ++ []) c.shows.pieces

      pub stops : (answer : ℤ) (k : ℕ) → told_of q ≡ operated (told_of r) (stopped th) (record { entry = entry_of r.flow.number th name.Stop object.Halt; number = k }) [] → Operated v n op.Stop object.Halt answer k q
      stops answer k left = record {
        shows = shows_after (after_operation v.code v.setup v.from told op.Stop object.Halt answer k)
            (same_entries name.Stop object.Halt k (ap (λ (z : Told). z.entries) left)) (same_pieces (ap (λ (z : Told). z.pieces) left)) (kept ∙ c.shows.reads)
            (inr (ap (λ (z : Told). has_ended z.thread.phase) left, ap (λ (z : Told). z.thread.phase) (sym left)));
        stripes = stripes_same told.thread (stopped told.thread) refl refl c.stripes;
      }

      pub shuts : (answer : ℤ) (k : ℕ) → told_of q ≡ operated (told_of r) (slot_closed th) (record { entry = entry_of r.flow.number th name.Close (object.Slot r.flow.number); number = k }) [] → Operated v n op.Close (object.Slot v.from) answer k q
      shuts answer k left =
          let so : told_of q ≡ operated (told_of r) (slot_closed th) (record { entry = entry_of r.flow.number th name.Close (object.Slot v.from); number = k }) [] =
          left ∙ ap (λ i. operated (told_of r) (slot_closed th) (record { entry = entry_of r.flow.number th name.Close (object.Slot i); number = k }) []) c.shows.number_is in
          record {
            shows = shows_after (after_operation v.code v.setup v.from told op.Close (object.Slot v.from) answer k)
                (same_entries name.Close (object.Slot v.from) k (ap (λ (z : Told). z.entries) so)) (same_pieces (ap (λ (z : Told). z.pieces) so)) (kept ∙ c.shows.reads)
                (inr (ap (λ (z : Told). has_ended z.thread.phase) so, ap (λ (z : Told). z.thread.phase) (sym so)));
            stripes = stripes_same told.thread (slot_closed told.thread) refl refl c.stripes;
          }

      pub gives_up : (lock stripe : ℕ) (answer : ℤ) (k : ℕ) → IsRunnable v.code → IsSettled r → holds th.stripes lock stripe ≡ true → told_of q ≡ operated (told_of r) (gave_up th lock stripe) (record { entry = entry_of r.flow.number th name.Revoke (object.Weak lock stripe); number = k }) [] → Operated v n op.Revoke (object.Weak lock stripe) answer k q
      gives_up lock stripe answer k runnable rests has left =
          let come = comes v n r c rests lives in
          let held : holds told.thread.stripes lock stripe ≡ true = sym ((are_alike rests lives).stripes lock stripe) ∙ has in
          record {
            shows = shows_after (after_operation v.code v.setup v.from told op.Revoke (object.Weak lock stripe) answer k)
                (same_entries name.Revoke (object.Weak lock stripe) k (ap (λ (z : Told). z.entries) left)) (same_pieces (ap (λ (z : Told). z.pieces) left)) (kept ∙ c.shows.reads)
                (inl (ap (λ (z : Told). settled v.code v.setup v.from z.thread) left
                ∙ ap (λ z. settled v.code v.setup v.from (gave_up z lock stripe)) (sym come)
                ∙ settled_less v.code v.setup v.from runnable lock stripe told.thread (agree told.thread c.stripes) held));
            stripes = stripes_revoked v.code v.setup v.from told.thread c.stripes lock stripe held;
          }
