-- What the words of locks show along a walk is what the replay of the log tells.
use Rattle.std.proofs.Common.{◌≡◌, ◌≢◌, ℕ, ◌+◌, ◌<◌, ◌==◌, ◌&&◌, ◌⊎◌, inl, inr, ⊎_elim, Bool, true, false, if◌then◌else◌, List, [], ◌∷◌, length, take, Option, Some, None, refl, sym, ap, subst, ◌∙◌, ℤ, pos}
use Rattle.std.specs.Prelude.{slice_get, slice_index}
use Rattle.std.proofs.lemmas.Bool.{eqb-true, eqb-false, eq-eqb}
use Rattle.std.proofs.lemmas.Option.{same_Some, get_or_from_slice_get}
use Rattle.sync_objects.specs.Setup.{SetupView, IsWithinLimits}
use Rattle.sync_objects.specs.Names.{name_of, kind_of, object_kind}
use Rattle.sync_objects.specs.declared.entry.Entry.{Entry}
use Rattle.sync_objects.specs.declared.entry.Noted.{Noted}
use Rattle.sync_objects.specs.declared.kind.ObjKind.TheVariants as kind
use Rattle.sync_objects.specs.declared.mode.Mode.{Mode}
use Rattle.sync_objects.specs.declared.object.ObjId.{ObjId}
use Rattle.sync_objects.specs.declared.object.ObjId.TheVariants as object
use Rattle.sync_objects.specs.Start.{start_word}
use Rattle.sync_objects.specs.States.{Shared, Free}
use Rattle.sync_objects.specs.Words.{word_of}
use Rattle.sync_objects.proofs.Starts.{starts-Mutex, starts-Rw}
use Rattle.flow_code.specs.declared.code.Code.{Code}
use Rattle.flow_code.specs.Settle.{IsRunnable}
use Rattle.core_run.specs.Histories.{IsReachable}
use Rattle.core_run.specs.Machine.{Told, machine, start_state}
use Rattle.core_run.specs.Walks.{walk_of}
use Rattle.core_run.specs.Words.{cells_of, has_object, place_of, start_words}
use Rattle.core_run.proofs.Beginnings.{start_word_at}
use Rattle.core_run.proofs.Lawful.{lawful}
use Rattle.run_theory.specs.Labels.{Label, label_thread, label_of}
use Rattle.run_theory.specs.Ordered.{Did, operation_event, effect_event, event_of_thread, event_of, state_at}
use Rattle.run_theory.specs.Same.{same_object}
use Rattle.run_theory.specs.Steps.{Change, NotAllowed, Becomes, Leaves, Effect, Refused, Marks, Loads, Stores, Operates, Machine, State, outcome, stepped, added, effect_entry, entry_of_thread, number_at}
use Rattle.run_theory.proofs.Apart.{thread_of_label}
use Rattle.run_theory.proofs.Counts.{EntryLaw, entry_law_at}
use Rattle.run_theory.proofs.SameEntries.{object_cases, same_object-refl, same_object-ne}
use Rattle.run_theory.proofs.Swap.{Steps, steps_of, change_inv}
use Rattle.lock_ownership.specs.Holders.{word_of_object, holder, shared}
use Rattle.lock_ownership.proofs.MutexHolders.{start_free}
use Rattle.lock_ownership.proofs.ObjectSteps.{LeavesAlone, OperatesOn, ObjectStep, object_step}
use Rattle.lock_ownership.proofs.RwMoves.{rw_in}
use Rattle.lock_ownership.proofs.Stepping.{has_stepped}
use Rattle.lowering_simulation.specs.WalkEvents.{labels_of_walk}
use Rattle.chain_report.specs.Replayed.{holder_step, holder_over, hold_step, hold_over, hold_after, holder_after}
use Rattle.chain_report.proofs.LockMoves.{as_lock, lock_in, mutex_moves, HoldIs, own_moves, others_stay, unheld}
use Rattle.chain_report.proofs.Spots.{Makes, spot, shown_at}

-- ---- operations and the entries that they add

module _ {T : Type 0} (m : Machine T) where
  adds_of_event : (l : Label) (ws : List ℕ) (th : Option T) (t : ℕ) (x : Noted) (w : ℕ) (answer : ℤ) → event_of_thread m ws l th ≡ Some (Did t x w answer) → entry_of_thread m ws l th ≡ x ∷ []
  adds_of_event l ws None t x w answer e = cc
  adds_of_event l ws (Some th) t x w answer e = by (m.effect l th) e
    where
      did : (y : Noted) (v : ℕ) (c : Change T) → operation_event (label_thread l) y v c ≡ Some (Did t x w answer) → y ≡ x
      did y v NotAllowed q = cc
      did y v (Becomes n a z) q = cc

      by : (f : Effect T) → effect_event m (label_thread l) ws f ≡ Some (Did t x w answer) → effect_entry m ws f ≡ x ∷ []
      by Refused q = cc
      by (Marks y) q = cc
      by (Loads c next) q = cc
      by (Stores c v y) q = cc
      by (Operates entry f) q =
          ap (λ z. z ∷ []) (did (record { entry = entry; number = number_at m ws entry.obj }) (slice_index ws (m.place entry.obj)) (f (slice_index ws (m.place entry.obj))) q)

  -- an operation adds its entry
  pub adds : (s : State T) (l : Label) (t : ℕ) (x : Noted) (w : ℕ) (answer : ℤ) → event_of m s l ≡ Some (Did t x w answer) → added m s l ≡ x ∷ []
  adds s l t x w answer e = adds_of_event l s.words (slice_get s.threads (label_thread l)) t x w answer e

  -- what adds an entry is an operation
  pub record Operation (s : State T) (l : Label) (x : Noted) : Type 0 where
    pub word : ℕ
    pub answer : ℤ
    pub happens : event_of m s l ≡ Some (Did (label_thread l) x word answer)

  pub operation : (s s1 : State T) (l : Label) (x : Noted) → stepped m s l ≡ Some s1 → added m s l ≡ x ∷ [] → Operation s l x
  operation s s1 l x h e =
      let y = steps_of m s l s1 h in
      let o = by (m.effect l y.before) y.words y.after y.leaves (sym (ap (entry_of_thread m s.words l) y.stands) ∙ e) in
      record { word = o.0; answer = o.1; happens = ap (event_of_thread m s.words l) y.stands ∙ o.2 }
    where
      by : (f : Effect T) (ws1 : List ℕ) (t : T) → outcome m s.words f ≡ Leaves ws1 t → effect_entry m s.words f ≡ x ∷ [] → (word : ℕ) × (answer : ℤ) × (effect_event m (label_thread l) s.words f ≡ Some (Did (label_thread l) x word answer))
      by Refused ws1 t on q = cc
      by (Marks z) ws1 t on q = cc
      by (Loads c next) ws1 t on q = cc
      by (Stores c v z) ws1 t on q = cc
      by (Operates entry f) ws1 t on q =
          let r = change_inv s.words (m.place entry.obj) f (slice_get s.words (m.place entry.obj)) ws1 t on in
          let is_x : record { entry = entry; number = number_at m s.words entry.obj } ≡ x = cc in
          let at : slice_index s.words (m.place entry.obj) ≡ r.0 = get_or_from_slice_get s.words (m.place entry.obj) r.0 0 r.3 in
          (slice_index s.words (m.place entry.obj), r.2, ap (operation_event (label_thread l) (record { entry = entry; number = number_at m s.words entry.obj }) (slice_index s.words (m.place entry.obj))) (ap f at ∙ r.4) ∙ ap (λ z. Some (Did (label_thread l) z (slice_index s.words (m.place entry.obj)) r.2)) is_x)

module _ (code : Code) (s : SetupView) (run : IsRunnable code) (limits : IsWithinLimits s) where
  stepping : (obj : ObjId) → has_object code s obj ≡ true → (st st1 : State Told) (l : Label) → IsReachable code s st → stepped (machine code s) st l ≡ Some st1 → ObjectStep code s obj st l st1
  stepping obj has st st1 l r e = object_step code s obj run limits has st st1 l r (has_stepped code s st st1 l e)

  -- what adds no entry changes no object's word
  quiet_word : (obj : ObjId) → has_object code s obj ≡ true → (st st1 : State Told) (l : Label) → IsReachable code s st → stepped (machine code s) st l ≡ Some st1 → added (machine code s) st l ≡ [] → word_of_object code s obj st1 ≡ word_of_object code s obj st
  quiet_word obj has st st1 l r e none =
      ⊎_elim
      (λ a. a.same)
      (λ x. let no = sym none ∙ adds (machine code s) st l (label_thread l) x.noted (word_of_object code s obj st) x.answer x.happens in absurd cc)
      (stepping obj has st st1 l r e)

  -- the entry is an operation on the object, by a row of the table
  pub record EntryOn (e : Entry) (obj : ObjId) (mid after : State Told) (number : ℕ) : Type 0 where
    pub same : e.obj ≡ obj
    pub step : OperatesOn code s obj mid (label_of e) after
    pub noted : step.noted ≡ record { entry = e; number = number }

  -- the entry is on another object, whose word alone changes
  pub record EntryElsewhere (e : Entry) (obj : ObjId) (mid after : State Told) : Type 0 where
    pub other : e.obj ≢ obj
    pub word : word_of_object code s obj after ≡ word_of_object code s obj mid

  pub entry_step : (e : Entry) (obj : ObjId) → has_object code s obj ≡ true → (mid after : State Told) → IsReachable code s mid → (k : Makes code s e mid after) → EntryElsewhere e obj mid after ⊎ EntryOn e obj mid after k.number
  entry_step e obj has mid after r k =
      ⊎_elim
      (λ a. inl (record {
        other = λ same. a.none (label_thread (label_of e)) (record { entry = e; number = k.number }) made.word made.answer made.happens same;
        word = a.same;
      }))
      (λ x.
      let one : x.noted ≡ record { entry = e; number = k.number } = same_noted x.noted (record { entry = e; number = k.number }) (sym (adds (machine code s) mid (label_of e) (label_thread (label_of e)) x.noted (word_of_object code s obj mid) x.answer x.happens) ∙ k.adds) in
      inr (record { same = ap (λ (z : Noted). z.entry.obj) (sym one) ∙ x.on; step = x; noted = one }))
      (stepping obj has mid after (label_of e) r k.steps)
    where
      made : Operation (machine code s) mid (label_of e) (record { entry = e; number = k.number })
      made = operation (machine code s) mid after (label_of e) (record { entry = e; number = k.number }) k.steps k.adds

      same_noted : (x y : Noted) → x ∷ [] ≡ y ∷ [] → x ≡ y
      same_noted x y q = cc

  -- the entry's object is one of the machine
  pub entry_has : (e : Entry) (mid after : State Told) → Makes code s e mid after → has_object code s e.obj ≡ true
  entry_has e mid after k =
      (entry_law_at (machine code s) (lawful code s run limits) mid after (label_of e) (record { entry = e; number = k.number }) (steps_of (machine code s) mid (label_of e) after k.steps) k.adds).object

  pub own_thread : (e : Entry) → label_thread (label_of e) ≡ e.thread
  own_thread e = sym (thread_of_label e (label_of e) refl)

  -- ---- mutexes

  module _ (cell : ℕ) (has : has_object code s (object.Mutex cell) ≡ true) where
    abbrev mutex : ObjId
    mutex = object.Mutex cell

    abbrev HolderIs : State Told → Option ℕ → Type 0
    HolderIs st h = holder code s mutex st ≡ as_lock h

    holder_makes : (h : Option ℕ) (e : Entry) (mid after : State Told) → IsReachable code s mid → Makes code s e mid after → HolderIs mid h → HolderIs after (holder_step mutex e h)
    holder_makes h e mid after r k was =
        ⊎_elim
        (λ x. ap lock_in x.word ∙ was ∙ sym (ap (λ b. as_lock (if b then holder_after e.op e.thread h else h)) (same_object-ne e.obj mutex x.other)))
        (λ x.
        let named : name_of x.step.operation ≡ e.op = sym x.step.named ∙ ap (λ (z : Noted). z.entry.op) x.noted in
        mutex_moves x.step.operation (label_thread (label_of e)) x.step.answer (word_of_object code s mutex mid) (word_of_object code s mutex after) h x.step.fits x.step.row was
        ∙ ap (λ n. as_lock (holder_after n (label_thread (label_of e)) h)) named
        ∙ ap (λ n. as_lock (holder_after e.op n h)) (own_thread e)
        ∙ sym (ap (λ b. as_lock (if b then holder_after e.op e.thread h else h)) (ap (λ o. same_object o mutex) x.same ∙ same_object-refl mutex)))
        (entry_step e mutex has mid after r k)

    pub holder_shown : (es : List Entry) (end mid : State Told) (k : ℕ) → walk_of code s es (start_state code s) ≡ Some end → k < length es → state_at (machine code s) (labels_of_walk code s es) (start_state code s) (spot code s es (start_state code s) k) ≡ Some mid → HolderIs mid (holder_over mutex None (take k es))
    holder_shown es end mid k h within at =
        shown_at code s (Option ℕ) HolderIs (holder_step mutex) (holder_over mutex) (λ a. refl) (λ a e xs. refl)
        (λ a st st1 l r e none was. ap lock_in (quiet_word mutex has st st1 l r e none) ∙ was)
        holder_makes es (start_state code s) end mid k None ([], refl) h within at (start_free code s mutex limits has (starts-Mutex cell))

  -- ---- read-write locks

  module _ (cell : ℕ) (has : has_object code s (object.Rw cell) ≡ true) (t : ℕ) where
    abbrev lock : ObjId
    lock = object.Rw cell

    abbrev HoldsIt : State Told → Option Mode → Type 0
    HoldsIt st h = HoldIs t (shared code s lock st) h

    of_word : (st st1 : State Told) (h : Option Mode) → word_of_object code s lock st1 ≡ word_of_object code s lock st → HoldsIt st h → HoldsIt st1 h
    of_word st st1 h same was = subst (λ x. HoldIs t x h) (sym (ap rw_in same)) was

    hold_makes : (h : Option Mode) (e : Entry) (mid after : State Told) → IsReachable code s mid → Makes code s e mid after → HoldsIt mid h → HoldsIt after (hold_step lock t e h)
    hold_makes h e mid after r k was =
        ⊎_elim
        (λ x. subst (HoldsIt after) (sym (ap (λ b. if b && (e.thread == t) then hold_after e.op h else h) (same_object-ne e.obj lock x.other))) (of_word mid after h x.word was))
        (λ x.
        let named : name_of x.step.operation ≡ e.op = sym x.step.named ∙ ap (λ (z : Noted). z.entry.op) x.noted in
        subst (λ b. HoldsIt after (if b && (e.thread == t) then hold_after e.op h else h)) (sym (ap (λ o. same_object o lock) x.same ∙ same_object-refl lock))
        (by (e.thread == t) refl x.step named))
        (entry_step e lock has mid after r k)
      where
        by : (b : Bool) → e.thread == t ≡ b → (x : OperatesOn code s lock mid (label_of e) after) → name_of x.operation ≡ e.op → HoldsIt after (if b then hold_after e.op h else h)
        by true q x named =
            let own : label_thread (label_of e) ≡ t = own_thread e ∙ eqb-true e.thread t q in
            subst (λ n. HoldsIt after (hold_after n h)) named
            (subst (λ u. HoldIs u (shared code s lock after) (hold_after (name_of x.operation) h)) own
            (own_moves x.operation (label_thread (label_of e)) x.answer (word_of_object code s lock mid) (word_of_object code s lock after) h x.fits x.row
            (subst (λ u. HoldIs u (shared code s lock mid) h) (sym own) was)))
        by false q x named =
            others_stay x.operation (label_thread (label_of e)) t x.answer (word_of_object code s lock mid) (word_of_object code s lock after) h x.fits x.row
            (λ same. eqb-false e.thread t q (sym (own_thread e) ∙ sym same)) was

    start_unheld : shared code s lock (start_state code s) ≡ Shared 0 Free
    start_unheld =
        ap rw_in (get_or_from_slice_get (start_words code s) (place_of (cells_of code s) lock) (start_word lock) 0 (start_word_at code s lock limits has) ∙ ap (word_of 0) (starts-Rw cell))

    pub hold_shown : (es : List Entry) (end mid : State Told) (k : ℕ) → walk_of code s es (start_state code s) ≡ Some end → k < length es → state_at (machine code s) (labels_of_walk code s es) (start_state code s) (spot code s es (start_state code s) k) ≡ Some mid → HoldsIt mid (hold_over lock t None (take k es))
    hold_shown es end mid k h within at =
        shown_at code s (Option Mode) HoldsIt (hold_step lock t) (hold_over lock t) (λ a. refl) (λ a e xs. refl)
        (λ a st st1 l r e none was. of_word st st1 a (quiet_word lock has st st1 l r e none) was)
        hold_makes es (start_state code s) end mid k None ([], refl) h within at (subst (λ x. HoldIs t x None) (sym start_unheld) (unheld t))
