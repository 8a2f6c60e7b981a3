-- Each step of the machine of a code with weak locks is a step of the plain code's, or none of it.
use Rattle.std.proofs.Common.{◌≡◌, ℕ, ◌⊎◌, inl, inr, ⊎_elim, Bool, true, false, nat_eq, List, [], Some, refl, sym, ap, subst, ◌∙◌, ℤ, pos}
use Rattle.std.specs.Prelude.{slice_get, slice_set}
use Rattle.std.proofs.lemmas.Bool.{true≢false, eqb-true}
use Rattle.std.proofs.lemmas.Option.{same_Some}
use Rattle.rr_base.proofs.Lists.{slice_get-set_other, slice_get-set_same}
use Rattle.rr_base.specs.declared.trap.Trap.{Trap}
use Rattle.rr_base.specs.declared.trap.Trap.TheVariants as trap
use Rattle.sync_objects.specs.Names.{name_of, kind_of, object_kind, is_weak}
use Rattle.sync_objects.specs.Setup.{SetupView, IsWithinLimits}
use Rattle.sync_objects.specs.Words.{number_of}
use Rattle.sync_objects.specs.declared.kind.ObjKind.TheVariants as kind
use Rattle.sync_objects.specs.declared.object.ObjId.{ObjId}
use Rattle.sync_objects.specs.declared.object.ObjId.TheVariants as object
use Rattle.sync_objects.specs.declared.operation.Op.{Op}
use Rattle.sync_objects.specs.declared.operation.Op.TheVariants as op
use Rattle.word_semantics.specs.Values.{number}
use Rattle.word_semantics.specs.declared.event.Action.{Action}
use Rattle.word_semantics.specs.declared.event.Action.TheVariants as action
use Rattle.word_semantics.specs.declared.event.Due.{Due}
use Rattle.word_semantics.specs.declared.event.Due.TheVariants as due
use Rattle.word_semantics.proofs.Calls.{is_from_outside}
use Rattle.flow_code.specs.declared.code.Code.{Code}
use Rattle.flow_code.specs.Next.{due_of, action_of, action_at, stepped, gave_up, stopped, slot_closed, has_ended}
use Rattle.flow_code.specs.Settle.{settled, IsRunnable}
use Rattle.flow_code.specs.Threads.{Thread}
use Rattle.flow_code.proofs.Asked.{own_action}
use Rattle.flow_code.proofs.Counts.{stepped_is, settled_keeps_all, ended_action}
use Rattle.flow_code.proofs.Settle.{action_is, settled_quiet}
use Rattle.weak_code.specs.Stripped.{strip}
use Rattle.core_run.specs.Machine.{Told, accessed, access_of, marked, operated, entry_of, operation, action_effect, may_revoke, may_stop, may_close, effect_of, machine}
use Rattle.thread_interpreter.specs.Pieces.{piece_next}
use Rattle.core_run.specs.Words.{cells_of, has_object, place_of}
use Rattle.core_run.proofs.Lawful.{effect_go, effect_revoke, effect_stop, effect_close}
use Rattle.run_theory.specs.Labels.{Label, Go, Revoke, Stop, Close, label_thread}
use Rattle.run_theory.specs.Steps.{State, Effect, Blocked, Leaves, Reaches, outcome, stepped as machine_stepped}
use Rattle.run_theory.proofs.Kept.{reaches_step}
use Rattle.run_theory.proofs.Swap.{of_steps, steps_of}
use Rattle.lowering_simulation.proofs.NoStripes.{no_lock}
use Rattle.lowering_simulation.proofs.Outcomes.{Operated, operated_inv, loaded_inv, marked_inv, allowed_inv}
use Rattle.lowering_simulation.proofs.Phases.{event_ends}
use Rattle.lowering_simulation.proofs.Proper.{is_trap}
use Rattle.lowering_simulation.specs.SourceRuns.{is_last}
use Rattle.lowering_simulation.proofs.Worlds.{IsStripe, not_stripe}
use Rattle.erasure.proofs.Bare.{HasObjects}
use Rattle.erasure.proofs.Steps.{IsNoTrap}
use Rattle.erased_states.proofs.Leaves.{loads_leave, stores_leave, operates_leave, stored_inv}
use Rattle.erased_states.proofs.PlainThreads.{Keeps, IsSame, IsOnStripe, Arrives, with_plain, on_stripe, full, settled_on, arrives, action_here, action_there, same_after, revoked_on}
use Rattle.erased_states.proofs.PlainWords.{eq_is, SameWords, also_moves, closes_slot, stored, both_set, one_set}
use Rattle.erased_states.proofs.Strong.{IsStrong}

-- the halt word, or another object
halt_or : (o : ObjId) → (o ≡ object.Halt) ⊎ (o ≡ object.Halt → ⊥)
halt_or object.Halt = inl refl
halt_or (object.Mutex c) = inr (λ e. cc)
halt_or (object.Cond c) = inr (λ e. cc)
halt_or (object.Barrier c) = inr (λ e. cc)
halt_or (object.Rw c) = inr (λ e. cc)
halt_or (object.Weak lock k) = inr (λ e. cc)
halt_or (object.Slot k) = inr (λ e. cc)
halt_or object.Threads = inr (λ e. cc)
halt_or object.Input = inr (λ e. cc)
halt_or object.Output = inr (λ e. cc)

-- a thread's own operation on the halt word that is no trap ends the program
halts : (o : Op) → kind_of (name_of o) ≡ kind.Halt → is_from_outside (name_of o) ≡ false → is_trap o ≡ false → o ≡ op.HaltAll
halts op.HaltAll fits own strong = refl
halts op.TrapHere fits own strong = absurd (true≢false strong)
halts op.Stop fits own strong = absurd (true≢false own)
halts o fits own strong = cc

-- what is refused leaves nothing
blocked : (ws : List ℕ) (q : Told) → Blocked ≡ Leaves ws q → ⊥
blocked ws q e = cc

module _ (w : Code) (objects : HasObjects w) (s : SetupView) (limits : IsWithinLimits s) (runnable : IsRunnable w) (runs : IsRunnable (strip w)) where
  -- the plain code has all objects but stripes
  has_plain : (o : ObjId) → (IsStripe o → ⊥) → has_object w s o ≡ true → has_object (strip w) s o ≡ true
  has_plain (object.Weak lock k) strong h = absurd (strong tt)
  has_plain (object.Mutex c) strong h = h
  has_plain (object.Cond c) strong h = h
  has_plain (object.Barrier c) strong h = h
  has_plain (object.Rw c) strong h = h
  has_plain (object.Slot k) strong h = h
  has_plain object.Threads strong h = h
  has_plain object.Halt strong h = h
  has_plain object.Input strong h = h
  has_plain object.Output strong h = h

  -- ---- states

  -- a thread of the plain state that follows this one
  abbrev pub IsFollowed : ℕ → Told → List Told → Type 0
  IsFollowed t told bs = (x : Told) × (slice_get bs t ≡ Some x) × Keeps w objects s runs t told.thread x.thread

  -- each thread that hasn't ended is followed
  abbrev pub SameThreads : List Told → List Told → Type 0
  SameThreads ths bs = (t : ℕ) (told : Told) → slice_get ths t ≡ Some told → has_ended told.thread.phase ≡ false → IsFollowed t told bs

  pub record Follows (st b : State Told) : Type 0 where
    pub words : SameWords w s limits st.words b.words
    pub threads : SameThreads st.threads b.threads

  moved_both : (ths bs : List Told) (t : ℕ) (before q x y : Told) → slice_get ths t ≡ Some before → slice_get bs t ≡ Some x → Keeps w objects s runs t q.thread y.thread → SameThreads ths bs → SameThreads (slice_set ths t q) (slice_set bs t y)
  moved_both ths bs t before q x y at there keeps h u told is lives = by (nat_eq u t) refl
    where
      by : (b : Bool) → nat_eq u t ≡ b → IsFollowed u told (slice_set bs t y)
      by true e =
          let one : u ≡ t = eqb-true u t e in
          let q_is : q ≡ told = same_Some q told (sym (slice_get-set_same ths t q before at) ∙ ap (slice_get (slice_set ths t q)) (sym one) ∙ is) in
          (y, ap (slice_get (slice_set bs t y)) one ∙ slice_get-set_same bs t y x there, subst (λ n. Keeps w objects s runs n told.thread y.thread) (sym one) (subst (λ (z : Told). Keeps w objects s runs t z.thread y.thread) q_is keeps))
      by false e =
          let other : u ≡ t → ⊥ = λ one. true≢false (sym (eq_is u t one) ∙ e) in
          let r = h u told (sym (slice_get-set_other ths t u q other) ∙ is) lives in
          (r.0, slice_get-set_other bs t u y other ∙ r.1, r.2)

  moved_one : (ths bs : List Told) (t : ℕ) (before q : Told) → slice_get ths t ≡ Some before → (has_ended q.thread.phase ≡ false → IsFollowed t q bs) → SameThreads ths bs → SameThreads (slice_set ths t q) bs
  moved_one ths bs t before q at live h u told is lives = by (nat_eq u t) refl
    where
      by : (b : Bool) → nat_eq u t ≡ b → IsFollowed u told bs
      by true e =
          let one : u ≡ t = eqb-true u t e in
          let q_is : q ≡ told = same_Some q told (sym (slice_get-set_same ths t q before at) ∙ ap (slice_get (slice_set ths t q)) (sym one) ∙ is) in
          subst (λ n. IsFollowed n told bs) (sym one) (subst (λ z. IsFollowed t z bs) q_is (live (ap (λ (z : Told). has_ended z.thread.phase) q_is ∙ lives)))
      by false e = h u told (sym (slice_get-set_other ths t u q (λ one. true≢false (sym (eq_is u t one) ∙ e))) ∙ is) lives

  -- ---- one step

  module _ (st b : State Told) (f : Follows st b) (t : ℕ) (told q : Told) (words : List ℕ) (stands : slice_get st.threads t ≡ Some told) where
    abbrev Moved : Type 0
    Moved = (b1 : State Told) × Reaches (machine (strip w) s) b b1 × Follows (record { words = words; threads = slice_set st.threads t q }) b1

    stays : SameWords w s limits words b.words → (has_ended q.thread.phase ≡ false → IsFollowed t q b.threads) → Moved
    stays ws live = (b, ([], refl), record { words = ws; threads = moved_one st.threads b.threads t told q stands live f.threads })

    goes : (x y : Told) (after : List ℕ) → slice_get b.threads t ≡ Some x → outcome (machine (strip w) s) b.words (effect_of (strip w) s (Go t) x) ≡ Leaves after y → SameWords w s limits words after → Keeps w objects s runs t q.thread y.thread → Moved
    goes x y after there leaves ws keeps =
        let b1 : State Told = record { words = after; threads = slice_set b.threads t y } in (
          b1,
          reaches_step (machine (strip w) s) b b b1 (Go t) ([], refl) (of_steps (machine (strip w) s) b (Go t) b1 (record { before = x; words = after; after = y; stands = there; leaves = leaves; to = refl })),
          record { words = ws; threads = moved_both st.threads b.threads t told q x y stands there keeps f.threads },
        )

    -- where the thread has ended, it isn't followed any more
    ended : has_ended q.thread.phase ≡ true → has_ended q.thread.phase ≡ false → IsFollowed t q b.threads
    ended h lives = absurd (true≢false (sym h ∙ lives))

    abbrev Came : Effect Told → Type 0
    Came e = outcome (machine w s) st.words e ≡ Leaves words q

    -- the halt word changes in one state alone
    halted : (o : Op) (next : ℤ → Thread) → Operated w s st.words words t o object.Halt next q.thread → has_ended q.thread.phase ≡ true → Moved
    halted o next i over = stays (subst (λ ws. SameWords w s limits ws b.words) (sym i.words_are) (one_set w s limits object.Halt i.has st.words b.words i.old i.new i.at (λ has u h. h) f.words)) (ended over)

    -- and so does a stripe
    striped : (o : Op) (lock k : ℕ) (next : ℤ → Thread) → Operated w s st.words words t o (object.Weak lock k) next q.thread → SameWords w s limits words b.words
    striped o lock k next i =
        subst (λ ws. SameWords w s limits ws b.words) (sym i.words_are) (one_set w s limits (object.Weak lock k) i.has st.words b.words i.old i.new i.at (λ has u h. absurd (no_lock (strip w) s refl lock k has)) f.words)

    -- ---- its own step

    module _ (out : outcome (machine w s) st.words (effect_of w s (Go t) told) ≡ Leaves words q) where
      abbrev n : Thread
      n = settled w s t told.thread

      abbrev Out : Action → Type 0
      Out a = outcome (machine w s) st.words (action_effect w s t told n a) ≡ Leaves words q

      out_at : (a : Action) → action_at w s t n ≡ a → Out a
      out_at a at = subst Out at (subst Came (effect_go w s t told) out)

      trap_step : (kind : Trap) → due_of w s t n ≡ due.Trap kind → Moved
      trap_step kind is =
          let i = operated_inv w s st.words words t (record told { thread = n }) q op.TrapHere object.Halt (piece_next w n op.TrapHere) (λ z. stepped w s t n z) (out_at (action.Operate op.TrapHere object.Halt) (action_is w s t n ∙ ap action_of is)) in
          halted op.TrapHere (λ z. stepped w s t n z) i (ap (λ (z : Thread). has_ended z.phase) (i.thread_is ∙ stepped_is w s t n (due.Trap kind) i.answer is))

      module _ (x : Told) (there : slice_get b.threads t ≡ Some x) where
        abbrev m : Thread
        m = settled (strip w) s t x.thread

        stripe_step : IsOnStripe w objects s runs t n x.thread → Moved
        stripe_step h =
            let i = operated_inv w s st.words words t (record told { thread = n }) q h.o (object.Weak h.lock h.stripe) (piece_next w n h.o) (λ z. stepped w s t n z) (out_at (action.Operate h.o (object.Weak h.lock h.stripe)) h.comes) in
            stays (striped h.o h.lock h.stripe (λ z. stepped w s t n z) i) (λ lives. (x, there, subst (λ z. Keeps w objects s runs t z x.thread) (sym i.thread_is) (h.keeps i.answer)))

        module _ (h : IsSame w objects s runs t n x.thread) where
          -- the plain thread's step
          plain_out : (a : Action) (after : List ℕ) (y : Told) → action_of h.next ≡ a → outcome (machine (strip w) s) b.words (action_effect (strip w) s t x m a) ≡ Leaves after y → outcome (machine (strip w) s) b.words (effect_of (strip w) s (Go t) x) ≡ Leaves after y
          plain_out a after y is leaves = ap (outcome (machine (strip w) s) b.words) (effect_go (strip w) s t x ∙ ap (action_effect (strip w) s t x m) (action_there w objects s runs t n x.thread h ∙ is)) ∙ leaves

          here_out : (a : Action) → action_of h.next ≡ a → Out a
          here_out a is = out_at a (action_here w objects s runs t n x.thread h ∙ is)

          keeps_after : (y : Told) (z : ℤ) → q.thread ≡ stepped w s t n z → y.thread ≡ stepped (strip w) s t m z → IsNoTrap h.next → Keeps w objects s runs t q.thread y.thread
          keeps_after y z q_is y_is no_trap =
              subst (λ a. Keeps w objects s runs t a y.thread) (sym q_is) (subst (λ a. Keeps w objects s runs t (stepped w s t n z) a) (sym y_is) (same_after w objects s runs t n x.thread h z no_trap))

          load_step : (c : ℕ) → h.next ≡ due.Load c → Moved
          load_step c is =
              let i = loaded_inv w s st.words words c (λ v. accessed told (stepped w s t n (number v)) (access_of t n c v false)) q (here_out (action.Load c) (ap action_of is)) in
              let y = accessed x (stepped (strip w) s t m (number i.1)) (access_of t m c i.1 false) in
              goes x y b.words there
              (plain_out (action.Load c) b.words y (ap action_of is) (loads_leave (strip w) s b.words c i.1 (λ v. accessed x (stepped (strip w) s t m (number v)) (access_of t m c v false)) i.0 (f.words.cells c i.0 ∙ i.2)))
              (subst (λ ws. SameWords w s limits ws b.words) (sym i.3) f.words)
              (keeps_after y (number i.1) (ap (λ (z : Told). z.thread) i.4) refl (subst IsNoTrap (sym is) tt))

          store_step : (c v : ℕ) → h.next ≡ due.Store c v → Moved
          store_step c v is =
              let i = stored_inv w s st.words words c v (accessed told (stepped w s t n (pos 0)) (access_of t n c v true)) q (here_out (action.Store c v) (ap action_of is)) in
              let y = accessed x (stepped (strip w) s t m (pos 0)) (access_of t m c v true) in
              goes x y (slice_set b.words c v) there
              (plain_out (action.Store c v) (slice_set b.words c v) y (ap action_of is) (stores_leave (strip w) s b.words c v i.old y i.within (f.words.cells c i.within ∙ i.at)))
              (subst (λ ws. SameWords w s limits ws (slice_set b.words c v)) (sym i.words_are) (stored w s limits st.words b.words c v i.old i.within i.at f.words))
              (keeps_after y (pos 0) (ap (λ (z : Told). z.thread) i.told_is) refl (subst IsNoTrap (sym is) tt))

          mark_step : h.next ≡ due.Mark → Moved
          mark_step is =
              let i = marked_inv w s st.words words (marked told (stepped w s t n (pos 0))) q (here_out action.Mark (ap action_of is)) in
              let y = marked x (stepped (strip w) s t m (pos 0)) in
              goes x y b.words there
              (plain_out action.Mark b.words y (ap action_of is) refl)
              (subst (λ ws. SameWords w s limits ws b.words) (sym i.0) f.words)
              (keeps_after y (pos 0) (ap (λ (z : Told). z.thread) i.1) refl (subst IsNoTrap (sym is) tt))

          module _ (o : Op) (obj : ObjId) (is : h.next ≡ due.Operate o obj) where
            comes_here : action_at w s t n ≡ action.Operate o obj
            comes_here = action_here w objects s runs t n x.thread h ∙ ap action_of is

            strong_op : (is_trap o ≡ false) × (is_weak (name_of o) ≡ false)
            strong_op = subst IsStrong is h.strong

            abbrev Made : Type 0
            Made = Operated w s st.words words t o obj (λ z. stepped w s t n z) q.thread

            halt_step : obj ≡ object.Halt → Made → Moved
            halt_step halt i =
                let own = own_action w s t n o obj runnable comes_here in
                let all : o ≡ op.HaltAll = halts o (own.fits ∙ ap object_kind halt) own.own strong_op.0 in
                halted o (λ z. stepped w s t n z) (subst (λ a. Operated w s st.words words t o a (λ z. stepped w s t n z) q.thread) halt i)
                (ap (λ (z : Thread). has_ended z.phase) i.thread_is ∙ event_ends w s t n (action.Operate o obj) i.answer comes_here strong_op ∙ ap (λ z. is_last (action.Operate z obj)) all)

            other_step : (obj ≡ object.Halt → ⊥) → Made → Moved
            other_step other i =
                let own = own_action w s t n o obj runnable comes_here in
                let has = has_plain obj (not_stripe (name_of o) obj own.fits strong_op.1) i.has in
                let u = f.words.objects obj i.old has i.at in
                let a = also_moves t i.old i.new i.answer o obj u.0 own.fits other i.row u.2 in
                let after = slice_set b.words (place_of (cells_of w s) obj) a.word in
                let y = operated (record x { thread = m }) (stepped (strip w) s t m i.answer) (record { entry = entry_of t m (name_of o) obj; number = number_of u.0 }) (piece_next (strip w) m o) in
                goes x y after there
                (plain_out (action.Operate o obj) after y (ap action_of is) (operates_leave (strip w) s b.words t (record x { thread = m }) o obj (piece_next (strip w) m o) (λ z. stepped (strip w) s t m z) u.0 a.word i.answer has u.1 a.moves))
                (subst (λ ws. SameWords w s limits ws after) (sym i.words_are) (both_set w s limits obj i.has st.words b.words i.old u.0 i.new a.word i.at u.1 a.is_plain f.words))
                (keeps_after y i.answer i.thread_is refl (subst IsNoTrap (sym is) tt))

            operation_step : Moved
            operation_step =
                let i = operated_inv w s st.words words t (record told { thread = n }) q o obj (piece_next w n o) (λ z. stepped w s t n z) (out_at (action.Operate o obj) comes_here) in
                ⊎_elim (λ halt. halt_step halt i) (λ other. other_step other i) (halt_or obj)

          due_step : (d : Due) → h.next ≡ d → Moved
          due_step due.Nothing is = absurd (blocked words q (here_out action.Ended (ap action_of is)))
          due_step due.Quiet is = absurd (blocked words q (here_out action.Quiet (ap action_of is)))
          due_step (due.Load c) is = load_step c is
          due_step (due.Store c v) is = store_step c v is
          due_step due.Mark is = mark_step is
          due_step (due.Operate o obj) is = operation_step o obj is
          due_step (due.Trap kind) is = trap_step kind (h.comes ∙ is)

        arrive_step : Arrives w objects s runs t n x.thread → Moved
        arrive_step (with_plain h) = due_step h h.next refl
        arrive_step (on_stripe h) = stripe_step h
        arrive_step (full is) = trap_step trap.LogFull is

      -- a thread that has ended makes no step
      go_step : Moved
      go_step = by (has_ended told.thread.phase) refl
        where
          by : (c : Bool) → has_ended told.thread.phase ≡ c → Moved
          by true e =
              let over : has_ended n.phase ≡ true = ap has_ended (settled_keeps_all w s t told.thread).phase ∙ e in
              absurd (blocked words q (out_at action.Ended (ended_action w s t n over)))
          by false e =
              let k = f.threads t told stands e in
              arrive_step k.0 k.1 (arrives w objects s runs t n k.0.thread (settled_on w objects s runs t k.0.thread told.thread k.2) (settled_quiet w s t runnable told.thread))

    -- ---- what others do to it

    revoke_step : (lock k : ℕ) → outcome (machine w s) st.words (effect_of w s (Revoke t lock k) told) ≡ Leaves words q → Moved
    revoke_step lock k out =
        let may = allowed_inv w s st.words words (may_revoke told.thread lock k) (operation w s t told op.Revoke (object.Weak lock k) [] (λ answer. gave_up told.thread lock k)) q (subst Came (effect_revoke w s t lock k told) out) in
        let i = operated_inv w s st.words words t told q op.Revoke (object.Weak lock k) [] (λ answer. gave_up told.thread lock k) may.1 in
        stays (striped op.Revoke lock k (λ answer. gave_up told.thread lock k) i)
        (λ lives. let r = f.threads t told stands (sym (ap (λ (z : Thread). has_ended z.phase) i.thread_is) ∙ lives) in
        (r.0, r.1, subst (λ z. Keeps w objects s runs t z r.0.thread) (sym i.thread_is) (revoked_on w objects s runs t told.thread r.0.thread lock k r.2)))

    stop_step : outcome (machine w s) st.words (effect_of w s (Stop t) told) ≡ Leaves words q → Moved
    stop_step out =
        let may = allowed_inv w s st.words words (may_stop told.thread) (operation w s t told op.Stop object.Halt [] (λ answer. stopped told.thread)) q (subst Came (effect_stop w s t told) out) in
        let i = operated_inv w s st.words words t told q op.Stop object.Halt [] (λ answer. stopped told.thread) may.1 in
        halted op.Stop (λ answer. stopped told.thread) i (ap (λ (z : Thread). has_ended z.phase) i.thread_is)

    close_step : outcome (machine w s) st.words (effect_of w s (Close t) told) ≡ Leaves words q → Moved
    close_step out =
        let may = allowed_inv w s st.words words (may_close told.thread) (operation w s t told op.Close (object.Slot t) [] (λ answer. slot_closed told.thread)) q (subst Came (effect_close w s t told) out) in
        let i = operated_inv w s st.words words t told q op.Close (object.Slot t) [] (λ answer. slot_closed told.thread) may.1 in
        stays (subst (λ ws. SameWords w s limits ws b.words) (sym i.words_are) (one_set w s limits (object.Slot t) i.has st.words b.words i.old i.new i.at (λ has u h. closes_slot t i.old i.new i.answer u i.row h) f.words))
        (ended (ap (λ (z : Thread). has_ended z.phase) i.thread_is))

  label_step : (st b : State Told) (l : Label) (told q : Told) (words : List ℕ) → Follows st b → slice_get st.threads (label_thread l) ≡ Some told → outcome (machine w s) st.words (effect_of w s l told) ≡ Leaves words q →
      (b1 : State Told) × Reaches (machine (strip w) s) b b1 × Follows (record { words = words; threads = slice_set st.threads (label_thread l) q }) b1
  label_step st b (Go t) told q words f stands out = go_step st b f t told q words stands out
  label_step st b (Revoke t lock k) told q words f stands out = revoke_step st b f t told q words stands lock k out
  label_step st b (Stop t) told q words f stands out = stop_step st b f t told q words stands out
  label_step st b (Close t) told q words f stands out = close_step st b f t told q words stands out

  pub plain_step : (st st1 b : State Told) (l : Label) → Follows st b → machine_stepped (machine w s) st l ≡ Some st1 → (b1 : State Told) × Reaches (machine (strip w) s) b b1 × Follows st1 b1
  plain_step st st1 b l f e =
      let x = steps_of (machine w s) st l st1 e in
      subst (λ z. (b1 : State Told) × Reaches (machine (strip w) s) b b1 × Follows z b1) (sym x.to) (label_step st b l x.before x.after x.words f x.stands x.leaves)
