-- Where accesses of a walk are ordered, there is a chain over the entries between the points that name them.
use Rattle.std.proofs.Common.{◌≡◌, ◌≢◌, ℕ, suc, ◌+◌, ◌<◌, ◌≤◌, nat_lt, nat_le, ◌==◌, ◌&&◌, ◌||◌, ◌⊎◌, inl, inr, ⊎_elim, Bool, true, false, List, [], ◌∷◌, length, take, Option, Some, None, refl, sym, ap, subst, ◌∙◌, ℤ, pos, arith}
use Rattle.std.specs.Prelude.{slice_get}
use Rattle.std.proofs.lemmas.Bool.{lt-ltb, le-leb, eq-eqb}
use Rattle.std.proofs.lemmas.Option.{same_Some}
use Rattle.sync_objects.specs.Modes.{excludes}
use Rattle.sync_objects.specs.Setup.{SetupView, IsWithinLimits}
use Rattle.sync_objects.specs.Packing.{shown}
use Rattle.sync_objects.specs.Names.{name_of}
use Rattle.sync_objects.specs.States.{reads, writes}
use Rattle.sync_objects.specs.Table.{Moves, first_row, rows}
use Rattle.sync_objects.specs.declared.entry.Entry.{Entry}
use Rattle.sync_objects.specs.declared.entry.Noted.{Noted}
use Rattle.sync_objects.specs.declared.kind.ObjKind.TheVariants as kind
use Rattle.sync_objects.specs.declared.mode.Mode.{Mode}
use Rattle.sync_objects.specs.declared.mode.Mode.TheVariants.{Read, Write}
use Rattle.sync_objects.specs.declared.object.ObjId.{ObjId}
use Rattle.sync_objects.specs.declared.object.ObjId.TheVariants as object
use Rattle.sync_objects.specs.declared.operation.Op.TheVariants as op
use Rattle.sync_objects.specs.declared.operation.OpName.{OpName}
use Rattle.sync_objects.specs.declared.operation.OpName.TheVariants as name
use Rattle.flow_code.specs.declared.code.Code.{Code}
use Rattle.flow_code.specs.Settle.{IsRunnable}
use Rattle.core_run.specs.Machine.{Told, machine, start_state}
use Rattle.core_run.specs.Walks.{walk_of}
use Rattle.core_run.specs.Words.{has_object}
use Rattle.core_run.proofs.Lawful.{lawful}
use Rattle.run_theory.specs.Labels.{label_of}
use Rattle.run_theory.specs.Ordered.{Event, Did, event_at, event_thread, IsRelease, by_unlock, by_give, by_revoke, by_write_unlock, by_read_unlock, IsAcquire, by_lock, by_trylock, by_take, by_retake, by_write_lock, by_read_lock, HandsOver, release_to_acquire, start_to_begin, end_to_join, PassesTo, Link, Ordered, last, more}
use Rattle.run_theory.specs.Same.{same_object}
use Rattle.run_theory.specs.Steps.{State, count_of}
use Rattle.run_theory.proofs.InTime.{passes_in_time, places}
use Rattle.run_theory.proofs.SameEntries.{same_object-refl}
use Rattle.lock_ownership.specs.Holders.{word_of_object, shared, IsExclusive}
use Rattle.lock_ownership.proofs.RwMoves.{rw_in}
use Rattle.lock_ownership.proofs.RwStates.{exclusive_at}
use Rattle.lowering_simulation.specs.WalkEvents.{labels_of_walk}
use Rattle.chain_report.specs.Accesses.{IsAccessOf}
use Rattle.chain_report.specs.Chains.{exclude, hands_thread, passes_to, passes_entries, passes, is_after, is_before, is_of_one, goes_on, ends, chain_from, is_chain}
use Rattle.chain_report.specs.Replayed.{holder_over, hold_over, unless_held, released_by, released, acquired_by, acquired}
use Rattle.chain_report.specs.declared.point.Point.{Point}
use Rattle.chain_report.proofs.Entries.{EntryAt, entry_at}
use Rattle.chain_report.proofs.LockMoves.{lock_in, as_lock, HoldIs}
use Rattle.chain_report.proofs.Ordering.{Access, access, grows, op_count}
use Rattle.chain_report.proofs.Passing.{events, place, Operation, operation_at, holder_is, hold_is, tried, reading, writing, row}
use Rattle.chain_report.proofs.Spots.{spots_ascend}
use Rattle.chain_report.proofs.Taken.{free_before, unheld_by_reader, unheld_by_writer, written_so, read_so}

module _ (code : Code) (s : SetupView) (run_ok : IsRunnable code) (limits : IsWithinLimits s) (es : List Entry) (end : State Told) (walked : walk_of code s es (start_state code s) ≡ Some end) where
  abbrev at : ℕ → Option Event
  at = events code s run_ok limits es end walked

  abbrev spot : ℕ → ℕ
  spot = place code s run_ok limits es end walked

  abbrev Op : ℕ → Entry → Type 0
  Op = Operation code s run_ok limits es end walked

  -- places and positions ascend alike
  positions : (a b : ℕ) (x : Entry) → slice_get es a ≡ Some x → Op a x → spot a < spot b → a < b
  positions a b x is o lt =
      ⊎_elim
      (λ less. less)
      (λ q. ⊎_elim
      (λ same. absurd (let e = ap spot same in omega (arith, lt, e)))
      (λ above. absurd (let g = spots_ascend code s es (start_state code s) end b a walked above o.within in omega (arith, lt, g)))
      q)
      (places a b)

  module _ (k : ℕ) (e : Entry) (o : Op k e) where
    abbrev before : List Entry
    before = take k es

    abbrev word : ℕ
    word = word_of_object code s e.obj o.mid

    -- ---- what is let go

    exclusive : (obj : ObjId) (cell : ℕ) → obj ≡ object.Rw cell → has_object code s obj ≡ true → IsExclusive (shared code s obj o.mid)
    exclusive obj cell is has = subst (λ z. IsExclusive (shared code s z o.mid)) (sym is) (exclusive_at code s run_ok limits cell (ap (has_object code s) (sym is) ∙ has) o.mid o.reached)

    holding : (cell : ℕ) → e.obj ≡ object.Rw cell → HoldIs e.thread (shared code s e.obj o.mid) (hold_over e.obj e.thread None before)
    holding cell is = hold_is code s run_ok limits es end walked k e o e.obj cell e.thread is o.known

    let_go : (obj : ObjId) (mode : Mode) (n : OpName) → e.obj ≡ obj → IsRelease obj mode n e.thread word → released_by before e n ≡ Some mode
    let_go obj mode n is (by_unlock cell t w) = refl
    let_go obj mode n is (by_give lock stripe t w) = refl
    let_go obj mode n is (by_revoke lock stripe t w) = refl
    let_go obj mode n is (by_write_unlock cell t w h) = written_so e.thread (shared code s e.obj o.mid) (hold_over e.obj e.thread None before) (holding cell is) h
    let_go obj mode n is (by_read_unlock cell t w h) = read_so e.thread (shared code s e.obj o.mid) (hold_over e.obj e.thread None before) (exclusive e.obj cell is o.known) (holding cell is) h

    -- ---- what is got

    abbrev after_word : ℕ
    after_word = word_of_object code s e.obj o.after

    got : (obj : ObjId) (mode : Mode) (n : OpName) (answer : ℤ) → e.obj ≡ obj → e.op ≡ n → o.step.answer ≡ answer → IsAcquire obj mode n answer → acquired_by before e n ≡ Some mode
    got obj mode n answer is op_is answered (by_lock cell a) = refl
    got obj mode n answer is op_is answered (by_take lock stripe a) = refl
    got obj mode n answer is op_is answered (by_retake lock stripe a) = refl
    got obj mode n answer is op_is answered (by_trylock cell) =
        let r = tried code s run_ok limits es end walked k e o o.step.operation o.step.answer word after_word (o.named ∙ op_is) (row code s run_ok limits es end walked k e o) in
        ap (λ h. unless_held h Write)
        (free_before e.thread (lock_in word) (lock_in after_word) (holder_over e.obj None before) (subst (λ a. first_row (rows op.TryLock e.thread) (lock_in word) ≡ Moves (lock_in after_word) a) answered r)
        (holder_is code s run_ok limits es end walked k e o e.obj cell is o.known))
    got obj mode n answer is op_is answered (by_write_lock cell) =
        let r = writing code s run_ok limits es end walked k e o o.step.operation o.step.answer word after_word (o.named ∙ op_is) (row code s run_ok limits es end walked k e o) in
        ap (λ h. unless_held h Write)
        (unheld_by_writer e.thread (rw_in word) (rw_in after_word) (hold_over e.obj e.thread None before) (subst (λ a. first_row (rows op.WrLock e.thread) (rw_in word) ≡ Moves (rw_in after_word) a) answered r) (holding cell is))
    got obj mode n answer is op_is answered (by_read_lock cell) =
        let r = reading code s run_ok limits es end walked k e o o.step.operation o.step.answer word after_word (o.named ∙ op_is) (row code s run_ok limits es end walked k e o) in
        ap (λ h. unless_held h Read)
        (unheld_by_reader e.thread (rw_in word) (rw_in after_word) (hold_over e.obj e.thread None before) (subst (λ a. first_row (rows op.RdLock e.thread) (rw_in word) ≡ Moves (rw_in after_word) a) answered r) (holding cell is))

  -- ---- what is passed

  handed : (a b : ℕ) (x y : Entry) (p : Op a x) (q : Op b y) (obj : ObjId) (n m : OpName) (t w : ℕ) (answer : ℤ) → x.obj ≡ obj → y.obj ≡ obj → x.op ≡ n → y.op ≡ m → x.thread ≡ t → word_of_object code s x.obj p.mid ≡ w → q.step.answer ≡ answer → HandsOver obj n t w m answer →
      (hands_thread x.op y.op || exclude (released (take a es) x) (acquired (take b es) y)) ≡ true
  handed a b x y p q obj n m t w answer xo yo xn ym xt xw ya (start_to_begin o2 t2 w2 a2) = ap (λ z. hands_thread z y.op || exclude (released (take a es) x) (acquired (take b es) y)) xn ∙ ap (λ z. hands_thread name.Start z || exclude (released (take a es) x) (acquired (take b es) y)) ym
  handed a b x y p q obj n m t w answer xo yo xn ym xt xw ya (end_to_join o2 t2 w2 a2) = ap (λ z. hands_thread z y.op || exclude (released (take a es) x) (acquired (take b es) y)) xn ∙ ap (λ z. hands_thread name.End z || exclude (released (take a es) x) (acquired (take b es) y)) ym
  handed a b x y p q obj n m t w answer xo yo xn ym xt xw ya (release_to_acquire o2 c d n2 t2 w2 m2 a2 r g apart) =
      let f = let_go a x p obj c n xo (subst (λ z. IsRelease obj c n z (word_of_object code s x.obj p.mid)) (sym xt) (subst (IsRelease obj c n t) (sym xw) r)) in
      let h = got b y q obj d m answer yo ym ya g in
      ap (λ z. hands_thread x.op y.op || exclude (released_by (take a es) x z) (acquired (take b es) y)) xn
      ∙ ap (λ z. hands_thread x.op y.op || exclude (released_by (take a es) x n) (acquired_by (take b es) y z)) ym
      ∙ ap (λ z. hands_thread x.op y.op || exclude z (acquired_by (take b es) y m)) f
      ∙ ap (λ z. hands_thread x.op y.op || exclude (Some c) z) h
      ∙ ap (λ z. hands_thread x.op y.op || z) apart
      ∙ or_true (hands_thread x.op y.op)
    where
      or_true : (v : Bool) → (v || true) ≡ true
      or_true true = refl
      or_true false = refl

  -- an operation of the walk, as the entry that it is
  record Named (place_is t : ℕ) (x : Noted) (w : ℕ) (answer : ℤ) : Type 0 where
    k : ℕ
    entry : Entry
    is : slice_get es k ≡ Some entry
    stands_at : spot k ≡ place_is
    op : Op k entry
    noted : record { entry = entry; number = op.number } ≡ x
    own : entry.thread ≡ t
    word : word_of_object code s entry.obj op.mid ≡ w
    answered : op.step.answer ≡ answer

  named : (b t : ℕ) (x : Noted) (w : ℕ) (answer : ℤ) → at b ≡ Some (Did t x w answer) → Named b t x w answer
  named b t x w answer e =
      let r = entry_at code s es (start_state code s) end b t x w answer walked e in
      let o = operation_at code s run_ok limits es end walked r.k r.entry r.is in
      let q = same_did r.entry.thread t (record { entry = r.entry; number = o.number }) x (word_of_object code s r.entry.obj o.mid) w o.step.answer answer (sym o.happens ∙ ap at r.place ∙ e) in
      record { k = r.k; entry = r.entry; is = r.is; stands_at = r.place; op = o; noted = q.1; own = q.0; word = q.2; answered = q.3 }
    where
      same_did : (t u : ℕ) (x y : Noted) (v w : ℕ) (a c : ℤ) → Some (Did t x v a) ≡ Some (Did u y w c) → (t ≡ u) × (x ≡ y) × (v ≡ w) × (a ≡ c)
      same_did t u x y v w a c q = (cc, cc, cc, cc)

  -- the entries of a link pass one to the other
  linked : (i b : ℕ) (l : Link at i b) → (p : Named l.a (event_thread l.start) l.first l.first_before l.first_answer) → (q : Named b l.taker l.second l.before l.answer) → passes es p.k q.k ≡ true
  linked i b l p q =
      let xo = ap (λ (z : Noted). z.entry.obj) p.noted in
      let yo = ap (λ (z : Noted). z.entry.obj) q.noted ∙ sym l.passes.same_object in
      let time = passes_in_time (machine code s) (lawful code s run_ok limits) (labels_of_walk code s es) (start_state code s) l.a b (event_thread l.start) l.taker l.first l.second l.first_before l.before l.first_answer l.answer l.first_is l.second_is l.passes in
      let lt = positions p.k q.k p.entry p.is p.op (omega (arith, time, p.stands_at, q.stands_at)) in
      let hand = handed p.k q.k p.entry q.entry p.op q.op l.first.entry.obj l.first.entry.op l.second.entry.op (event_thread l.start) l.first_before l.answer xo yo (ap (λ (z : Noted). z.entry.op) p.noted) (ap (λ (z : Noted). z.entry.op) q.noted) p.own p.word q.answered l.passes.hands in
      ap (λ z. passes_entries es p.k q.k z (slice_get es q.k)) p.is
      ∙ ap (passes_entries es p.k q.k (Some p.entry)) q.is
      ∙ ap (λ z. z && same_object p.entry.obj q.entry.obj && (hands_thread p.entry.op q.entry.op || exclude (released (take p.k es) p.entry) (acquired (take q.k es) q.entry))) (lt-ltb p.k q.k lt)
      ∙ ap (λ z. z && (hands_thread p.entry.op q.entry.op || exclude (released (take p.k es) p.entry) (acquired (take q.k es) q.entry))) (ap (same_object p.entry.obj) (yo ∙ sym xo) ∙ same_object-refl p.entry.obj)
      ∙ hand

  -- ---- the chain

  after_point : (p : Point) (i k : ℕ) (e : Entry) → Access code s run_ok limits es end walked p i → (o : Op k e) → e.thread ≡ p.thread → i < spot k → p.count < e.count
  after_point p i k e a o own lt =
      let g = grows code s run_ok limits es end walked p.thread (suc i) (spot k) a.after o.mid (omega (arith, lt)) a.next o.at in
      let c = ap (count_of (machine code s) o.mid) (sym own) ∙ op_count code s run_ok limits es end walked k e o in
      omega (arith, g, c, a.risen)

  before_point : (p : Point) (j k : ℕ) (e : Entry) → Access code s run_ok limits es end walked p j → (o : Op k e) → e.thread ≡ p.thread → spot k < j → e.count ≤ p.count
  before_point p j k e a o own lt =
      let g = grows code s run_ok limits es end walked p.thread (spot k) j o.mid a.before (omega (arith, lt)) o.at a.stands in
      let c = ap (count_of (machine code s) o.mid) (sym own) ∙ op_count code s run_ok limits es end walked k e o in
      omega (arith, g, c, a.counts)

  both : (a b : Bool) → a ≡ true → b ≡ true → (a && b) ≡ true
  both a b e f = ap (λ z. z && b) e ∙ f

  module _ (from to : Point) (i j : ℕ) (first : Access code s run_ok limits es end walked from i) (second : Access code s run_ok limits es end walked to j) where
    -- where a chain stands: at its first access, or at the operation that the last pass led to
    data IsAt : Option ℕ → ℕ → Type 0 where
      begun : IsAt None i
      reached : (k : ℕ) (e : Entry) → slice_get es k ≡ Some e → (o : Op k e) → IsAt (Some k) (spot k)

    same_thread : (x y : Event) → Some x ≡ Some y → event_thread x ≡ event_thread y
    same_thread x y e = ap event_thread (same_Some x y e)

    goes : (r : Option ℕ) (i0 : ℕ) → IsAt r i0 → (b : ℕ) (l : Link at i0 b) → (p : Named l.a (event_thread l.start) l.first l.first_before l.first_answer) → goes_on es from r p.k ≡ true
    goes r i0 begun b l p =
        let own : p.entry.thread ≡ from.thread = p.own ∙ same_thread l.start first.event (sym l.start_is ∙ first.happens) ∙ first.own in
        let lt = after_point from i p.k p.entry first p.op own (omega (arith, l.after, p.stands_at)) in
        ap (is_after from) p.is ∙ both (p.entry.thread == from.thread) (nat_lt from.count p.entry.count) (eq-eqb p.entry.thread from.thread own) (lt-ltb from.count p.entry.count lt)
    goes r i0 (reached k e is o) b l p =
        let own : e.thread ≡ p.entry.thread = same_thread (Did e.thread (record { entry = e; number = o.number }) (word_of_object code s e.obj o.mid) o.step.answer) l.start (sym o.happens ∙ l.start_is) ∙ sym p.own in
        let lt = positions k p.k e is o (omega (arith, l.after, p.stands_at)) in
        ap (λ u. nat_lt k p.k && is_of_one u (slice_get es p.k)) is
        ∙ ap (λ v. nat_lt k p.k && is_of_one (Some e) v) p.is
        ∙ both (nat_lt k p.k) (e.thread == p.entry.thread) (lt-ltb k p.k lt) (eq-eqb e.thread p.entry.thread own)

    -- passes that are the rest of a chain
    record Rest (r : Option ℕ) : Type 0 where
      given : List (ℕ × ℕ)
      is : chain_from es from to r given ≡ true

    exists : (r : Option ℕ) (i0 j0 : ℕ) → j0 ≡ j → IsAt r i0 → Ordered at i0 j0 → Rest r
    exists r i0 j0 same st (last b x y l lt x_is y_is one) =
        let p = named l.a (event_thread l.start) l.first l.first_before l.first_answer l.first_is in
        let q = named b l.taker l.second l.before l.answer l.second_is in
        let own : q.entry.thread ≡ to.thread = q.own ∙ same_thread (Did l.taker l.second l.before l.answer) x (sym l.second_is ∙ x_is) ∙ one ∙ same_thread y second.event (sym y_is ∙ ap at same ∙ second.happens) ∙ second.own in
        let le = before_point to j q.k q.entry second q.op own (omega (arith, lt, same, q.stands_at)) in
        record {
          given = (p.k, q.k) ∷ [];
          is = both (goes_on es from r p.k && passes es p.k q.k) (ends es to (Some q.k))
              (both (goes_on es from r p.k) (passes es p.k q.k) (goes r i0 st b l p) (linked i0 b l p q))
              (ap (is_before to) q.is ∙ both (q.entry.thread == to.thread) (nat_le q.entry.count to.count) (eq-eqb q.entry.thread to.thread own) (le-leb q.entry.count to.count le));
        }
    exists r i0 j0 same st (more b l rest) =
        let p = named l.a (event_thread l.start) l.first l.first_before l.first_answer l.first_is in
        let q = named b l.taker l.second l.before l.answer l.second_is in
        let m = exists (Some q.k) b j0 same (subst (IsAt (Some q.k)) q.stands_at (reached q.k q.entry q.is q.op)) rest in
        record {
          given = (p.k, q.k) ∷ m.given;
          is = both (goes_on es from r p.k && passes es p.k q.k) (chain_from es from to (Some q.k) m.given)
              (both (goes_on es from r p.k) (passes es p.k q.k) (goes r i0 st b l p) (linked i0 b l p q))
              m.is;
        }

    pub given_for : Ordered at i j → (given : List (ℕ × ℕ)) × (is_chain es from to given ≡ true)
    given_for h = let r = exists None i j refl begun h in (r.given, r.is)

pub chain_exists : (code : Code) (s : SetupView) (es : List Entry) (end : State Told) (from to : Point) (i j : ℕ) → IsRunnable code → IsWithinLimits s → walk_of code s es (start_state code s) ≡ Some end → IsAccessOf code s es from i → IsAccessOf code s es to j →
    Ordered (event_at (machine code s) (labels_of_walk code s es) (start_state code s)) i j → (given : List (ℕ × ℕ)) × (is_chain es from to given ≡ true)
chain_exists code s es end from to i j run_ok limits walked first second h =
    given_for code s run_ok limits es end walked from to i j (access code s run_ok limits es end walked from i first) (access code s run_ok limits es end walked to j second) h
