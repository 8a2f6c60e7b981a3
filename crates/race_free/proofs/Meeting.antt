-- Two threads of weakened code don't have conflicting accesses next: both would hold one stripe.
use Rattle.std.proofs.Common.{◌≡◌, ◌≢◌, ℕ, ◌+◌, ◌<◌, ◌≤◌, ◌||◌, Bool, true, false, List, length, reverse, Some, refl, sym, ap, subst, ◌∙◌, arith}
use Rattle.std.specs.Prelude.{slice_get}
use Rattle.std.specs.List.{Contains}
use Rattle.rr_base.specs.Words.{length_of, offset_of, class_of}
use Rattle.rr_base.specs.declared.layout.Place.{Place}
use Rattle.sync_objects.specs.Setup.{SetupView, IsWithinLimits}
use Rattle.sync_objects.specs.declared.mode.Mode.TheVariants.{Write}
use Rattle.word_semantics.specs.declared.event.Action.{Action}
use Rattle.word_semantics.specs.declared.event.Action.TheVariants as action
use Rattle.word_semantics.specs.Pointers.{known}
use Rattle.word_semantics.specs.Registers.{register}
use Rattle.flow_code.specs.declared.act.Instr.{Instr}
use Rattle.flow_code.specs.declared.code.Code.{Code}
use Rattle.flow_code.specs.declared.code.Function.{Function}
use Rattle.flow_code.specs.declared.thread.Phase.TheVariants as phase
use Rattle.flow_code.specs.Constants.{constants_fit}
use Rattle.flow_code.specs.Settle.{IsRunnable, next, settled}
use Rattle.flow_code.specs.Stripes.{guards}
use Rattle.flow_code.specs.Threads.{Thread, registers_in}
use Rattle.flow_code.specs.Valid.{is_valid}
use Rattle.flow_code.proofs.Runnable.{valid_runnable}
use Rattle.facts.specs.Accesses.{access_of as code_access}
use Rattle.facts.specs.declared.locks.Summary.{Summary}
use Rattle.facts.specs.declared.pair.Pair.{Pair}
use Rattle.profiles.specs.declared.profile.Profile.{Profile}
use Rattle.facts.specs.Pairs.{MayRace, ArePairs, access_in, act_of, places_of}
use Rattle.facts.specs.PointsTo.{Tables, IsPointsTo, element_of, place}
use Rattle.facts.specs.Summaries.{AreSummaries, StandsAt}
use Rattle.weak_lock_facts.specs.declared.grain.Grained.{Grained}
use Rattle.weak_lock_facts.specs.declared.range.Range.{Range}
use Rattle.weak_lock_facts.specs.Grains.{AreGrains}
use Rattle.weak_lock_facts.specs.Ranges.{ranges_of}
use Rattle.weak_code.specs.Stripped.{is_plain, strip}
use Rattle.weak_code.specs.WeakLocks.{places_in, lock_at, locks_for}
use Rattle.weak_code.specs.Weakened.{weakened}
use Rattle.weak_code.proofs.Stripping.{strip-weakened}
use Rattle.weak_valid.specs.Apart.{loops_are_apart}
use Rattle.weak_valid.proofs.Valid.{weakened_valid}
use Rattle.guard_paths.specs.LoopsClosed.{loops_are_closed}
use Rattle.guard_paths.proofs.Guarded.{In}
use Rattle.core_run.specs.Histories.{IsReachable, HasNoRace}
use Rattle.core_run.specs.Machine.{Told, effect_of}
use Rattle.core_run.specs.Words.{cells_of}
use Rattle.run_theory.specs.Labels.{Go}
use Rattle.run_theory.specs.Laws.{Conflict, access_of}
use Rattle.run_theory.specs.Steps.{State}
use Rattle.lock_ownership.specs.Holders.{holds_stripe}
use Rattle.lock_ownership.specs.ThreadStripes.{IsOfMemory}
use Rattle.lock_ownership.proofs.StripeLaws.{held_by_list, known_is}
use Rattle.lockset_sound.specs.Frames.{holds_at, IsListed}
use Rattle.lockset_sound.proofs.ByRows.{listed_at}
use Rattle.lockset_sound.proofs.Racing.{races}
use Rattle.lockset_sound.proofs.RootsInRuns.{root_settled}
use Rattle.erased_states.specs.States.{IsAccess, IsPlainState, IsPlainAccess}
use Rattle.erased_states.proofs.Reached.{plain_access, plain_state}
use Rattle.points_to_sound.specs.Objects.{Object, IsObject}
use Rattle.points_to_sound.proofs.Moving.{good_element}
use Rattle.access_cells.specs.Accesses.{IsAccess as Accesses, Meet, at_rest, resting}
use Rattle.access_cells.proofs.Meeting.{conflict_meets}
use Rattle.access_cells.proofs.Resting.{resting_at}
use Rattle.access_cells.proofs.Settled.{code_sets, points_at_rest}
use Rattle.lock_sound.specs.Weakened.{Analysed, IsAnalysed}
use Rattle.race_free.proofs.Actions.{access_by, access_is, first_is, second_is}
use Rattle.race_free.proofs.Holding.{holds, stands}
use Rattle.race_free.proofs.Locked.{HasLock, IsPairOf, pair_of, locked_access, lock_of_place, place_in}
use Rattle.race_free.proofs.Sides.{here, touches, through_pointer, same_function, same_registers, same_instr, plain_runs, weak_runs, weak_act}
use Rattle.race_free.proofs.Stripes.{stripe_for, stripe_for_few, guarded_by}
use Rattle.race_free.proofs.Words.{PointsTo, points_to, good_word, whole_frame, at_object, has_cell}

of_memory : (a : Action) → IsAccess a → IsOfMemory a
of_memory (action.Load c) h = tt
of_memory (action.Store c w) h = tt
of_memory action.Quiet h = absurd h
of_memory action.Mark h = absurd h
of_memory action.Ended h = absurd h
of_memory (action.Operate o obj) h = absurd h

module _ (code : Code) (t : Tables) (ss : List Summary) (vs : List Pair) (rs : List Range) (profile : Profile) (rows : List Grained)
    (valid : is_valid code ≡ true) (plain : is_plain code ≡ true) (constants : constants_fit code ≡ true) (apart : loops_are_apart code ≡ true) (closed : loops_are_closed code ≡ true)
    (points : IsPointsTo code t) (sums : AreSummaries code ss) (pairs : ArePairs code t ss vs) (ranges : rs ≡ ranges_of code t) (grains : AreGrains code vs rs profile rows)
    (setup : SetupView) (limits : IsWithinLimits setup) where
  abbrev W : Code
  W = weakened code t vs rs rows

  weak_valid : is_valid W ≡ true
  weak_valid = weakened_valid code t ss vs rs profile rows valid plain apart (record { points = points; pairs = pairs; ranges = ranges; grains = grains })

  strips : strip W ≡ code
  strips = strip-weakened code t vs rs rows valid plain

  same_cells : cells_of W setup ≡ cells_of code setup
  unfolding weakened
  same_cells = refl

  same_locks : W.locks ≡ locks_for code t rows (places_in vs)
  unfolding weakened
  same_locks = refl

  same_sites : W.sites ≡ code.sites
  unfolding weakened
  same_sites = refl

  module _ (state bare : State Told) (reached : IsReachable W setup state) (bare_reached : IsReachable code setup bare) where
    -- ---- one of the two threads

    module _ (k : ℕ) (told x : Told) (at : slice_get state.threads k ≡ Some told) (there : slice_get bare.threads k ≡ Some x) (a : Action) (access : IsAccess a) (comes : next W setup k told.thread ≡ a) (is : IsPlainAccess W code setup k told.thread x.thread a)
        (made : List Object) (cell : ℕ) (store : Bool) (m : Accesses code setup made (settled code setup k x.thread) cell store) (well : Rattle.points_to_sound.specs.States.PointsWell code setup made (at_rest code setup bare)) where
      abbrev pt : Thread
      pt = settled code setup k x.thread

      -- the pointer, which points into the cell's object
      v : ℕ
      v = register pt.top.registers m.access.through

      instruction : (fn : Function) × (i : Instr) × StandsAt code pt.top.function pt.top.instr fn i × (i.act ≡ m.instruction)
      instruction = stands code pt.top m.instruction m.at

      does : code_access instruction.1.act ≡ Some m.access
      does = ap code_access instruction.3 ∙ m.is

      into : PointsTo code setup made v cell
      unfolding v
      into = points_to code setup valid made (at_rest code setup bare) well (Rattle.facts.specs.declared.constraint.Node.TheVariants.Register pt.top.function m.access.through) (register pt.top.registers m.access.through) cell m.kind m.resolves
          (good_word code setup valid made (at_rest code setup bare) well k (resting code setup k x) m.access.through (resting_at code setup bare k x there) m.runs (through_pointer code pt.top instruction.0 instruction.1 m.access valid instruction.2 does))

      pub holds_stripe_of : (o : Object) → IsObject code setup made o → (offset : ℕ) → offset < o.cells → cell ≡ o.base + offset → (n : ℕ)
          → slice_get (places_in vs) n ≡ Some (place o.site (class_of (element_of code.sites o.site) offset))
          → HasLock code t vs rs rows (here pt.top) m.access n
          → holds_stripe n (stripe_for code t rows (place o.site (class_of (element_of code.sites o.site) offset)) offset o.cells) k state ≡ true
      unfolding v
      holds_stripe_of o io offset within cell_is n locked lock =
          let same = at_object code setup valid made (at_rest code setup bare) well v cell into o io offset within cell_is in
          let wt = settled W setup k told.thread in
          let f = same_function W code setup k told x a is in
          let r = same_registers W code setup k told x a is in
          let p : ℕ → ℕ → Place = λ s q. place s (class_of (element_of code.sites s) q) in
          let few = stripe_for_few code t rows (p o.site offset) offset o.cells within in
          holds code t vs rs profile rows valid plain constants apart closed ranges grains weak_valid setup limits state reached k told at (weak_runs W code setup k told x a is m.runs) (subst IsOfMemory (sym comes) (of_memory a access))
          m.instruction m.access (weak_act W code setup k told x a is m.runs m.instruction m.access m.at m.is) m.is
          instruction.0 (subst (λ z. slice_get code.functions z ≡ Some instruction.0) f instruction.2.function)
          (subst (λ z. instruction.0.registers ≤ length z) r (let e = whole_frame code setup valid made (at_rest code setup bare) well k (resting code setup k x) (resting_at code setup bare k x there) m.runs in let g = ap registers_in instruction.2.function in omega (arith, e, g)))
          pt.top.instr n (sym (same_instr W code setup k told x a is))
          (subst (λ z. HasLock code t vs rs rows (record { function = z; instr = pt.top.instr }) m.access n) f lock)
          (stripe_for code t rows (p o.site offset) offset o.cells) v
          (sym into.known_is ∙ ap (λ z. known code.sites (register z m.access.through)) r)
          (has_cell v into.some into.within)
          (subst (λ z. guards W v (offset_of v) n (stripe_for code t rows (p o.site offset) offset z) ≡ true) same.1 (subst (λ z. guards W v (offset_of v) n (stripe_for code t rows (p o.site z) z (length_of v)) ≡ true) same.2
          (guarded_by code t rows (places_in vs) n v o.site W same_locks same_sites (subst (λ z. slice_get (places_in vs) n ≡ Some (p o.site z)) (sym same.2) locked) same.0 (subst (λ z. 1 ≤ element_of code.sites z) same.0 (good_element code setup made valid (λ y q. well.laid.sized y q) into.object into.is v into.into)))))
          few

  -- ---- both threads

  module _ (state : State Told) (reached : IsReachable W setup state) (k l : ℕ) (ne : k ≢ l) (told other : Told) (at : slice_get state.threads k ≡ Some told) (there : slice_get state.threads l ≡ Some other)
      (conflict : Conflict (access_of (effect_of W setup (Go k) told)) (access_of (effect_of W setup (Go l) other))) where
    bare : (b : State Told) × IsReachable code setup b × IsPlainState W code setup state b
    bare = plain_state W code setup limits weak_valid strips state reached

    first_action : Action
    first_action = next W setup k told.thread

    second_action : Action
    second_action = next W setup l other.thread

    by_actions : Conflict (access_by (cells_of W setup) first_action) (access_by (cells_of W setup) second_action)
    unfolding first_action second_action
    by_actions = subst (λ z. Conflict z (access_by (cells_of W setup) (next W setup l other.thread))) (access_is W setup k told) (subst (λ z. Conflict (access_of (effect_of W setup (Go k) told)) z) (access_is W setup l other) conflict)

    first_accesses : IsAccess first_action
    first_accesses = first_is (cells_of W setup) first_action (access_by (cells_of W setup) second_action) by_actions

    second_accesses : IsAccess second_action
    second_accesses = second_is (cells_of W setup) (access_by (cells_of W setup) first_action) second_action by_actions

    first_plain : (x : Told) × (slice_get bare.0.threads k ≡ Some x) × IsPlainAccess W code setup k told.thread x.thread first_action
    unfolding first_action
    first_plain = plain_access W code setup limits weak_valid strips state bare.0 k told (next W setup k told.thread) reached bare.2 at first_accesses refl

    second_plain : (x : Told) × (slice_get bare.0.threads l ≡ Some x) × IsPlainAccess W code setup l other.thread x.thread second_action
    unfolding second_action
    second_plain = plain_access W code setup limits weak_valid strips state bare.0 l other (next W setup l other.thread) reached bare.2 there second_accesses refl

    plain_conflict : Conflict (access_of (effect_of code setup (Go k) first_plain.0)) (access_of (effect_of code setup (Go l) second_plain.0))
    plain_conflict =
        subst (λ z. Conflict z (access_of (effect_of code setup (Go l) second_plain.0))) (sym (same_access k first_plain.0 first_action first_plain.2.comes))
        (subst (λ z. Conflict (access_by (cells_of W setup) first_action) z) (sym (same_access l second_plain.0 second_action second_plain.2.comes)) by_actions)
      where
        same_access : (i : ℕ) (x : Told) (a : Action) → next code setup i x.thread ≡ a → access_of (effect_of code setup (Go i) x) ≡ access_by (cells_of W setup) a
        same_access i x a e = access_is code setup i x ∙ ap (access_by (cells_of code setup)) e ∙ ap (λ n. access_by n a) (sym same_cells)

    meets : Meet code setup bare.0 (settled code setup k first_plain.0.thread) (settled code setup l second_plain.0.thread)
    meets =
        let x = code_sets code setup valid constants limits bare.0 bare.1 in
        let p = points_at_rest code setup valid constants limits bare.0 bare.1 in
        conflict_meets code setup x bare.0 bare.1 p.0 p.1 k l ne first_plain.0 second_plain.0 first_plain.1 second_plain.1 plain_conflict

    -- the two accesses as a pair
    module _ (m : Meet code setup bare.0 (settled code setup k first_plain.0.thread) (settled code setup l second_plain.0.thread)) where
      abbrev ft : Thread
      ft = settled code setup k first_plain.0.thread

      abbrev gt : Thread
      gt = settled code setup l second_plain.0.thread

      p : Place
      p = place m.object.site (class_of (element_of code.sites m.object.site) m.offset)

      first_at : (fn : Function) × (i : Instr) × StandsAt code ft.top.function ft.top.instr fn i × (i.act ≡ m.first.instruction)
      first_at = stands code ft.top m.first.instruction m.first.at

      second_at : (fn : Function) × (i : Instr) × StandsAt code gt.top.function gt.top.instr fn i × (i.act ≡ m.second.instruction)
      second_at = stands code gt.top m.second.instruction m.second.at

      first_touches : (access_in (act_of code (here ft.top)) ≡ Some m.first.access) × Contains (places_of code t (here ft.top)) p
      unfolding p
      first_touches = touches code t ft.top m.first.instruction m.first.access (place m.object.site (class_of (element_of code.sites m.object.site) m.offset)) points m.first.at m.first.is m.first_may

      second_touches : (access_in (act_of code (here gt.top)) ≡ Some m.second.access) × Contains (places_of code t (here gt.top)) p
      unfolding p
      second_touches = touches code t gt.top m.second.instruction m.second.access (place m.object.site (class_of (element_of code.sites m.object.site) m.offset)) points m.second.at m.second.is m.second_may

      first_runs : first_plain.0.thread.phase ≡ phase.Running
      first_runs = plain_runs W code setup k told first_plain.0 first_action first_plain.2 m.first.runs

      second_runs : second_plain.0.thread.phase ≡ phase.Running
      second_runs = plain_runs W code setup l other second_plain.0 second_action second_plain.2 m.second.runs

      either_stores : (a b : Bool) → (a || b) ≡ true → (b || a) ≡ true
      either_stores true true h = refl
      either_stores true false h = refl
      either_stores false b h = ap (λ z. z || false) h

      first_listed : IsListed code setup.slots ss (holds_at code setup k bare.0) ft.top (reverse ft.below) m.first.access.store
      first_listed = listed_at code setup ss bare.0 k first_plain.0 ft first_at.0 first_at.1 m.first.access valid constants limits sums bare.1 first_plain.1 first_runs refl first_at.2 (ap code_access first_at.3 ∙ m.first.is)

      second_listed : IsListed code setup.slots ss (holds_at code setup l bare.0) gt.top (reverse gt.below) m.second.access.store
      second_listed = listed_at code setup ss bare.0 l second_plain.0 gt second_at.0 second_at.1 m.second.access valid constants limits sums bare.1 second_plain.1 second_runs refl second_at.2 (ap code_access second_at.3 ∙ m.second.is)

      race : MayRace code t ss p (here ft.top) (here gt.top)
      race = races code setup t ss bare.0 k l ft.top gt.top (reverse ft.below) (reverse gt.below) m.first.access.store m.second.access.store p (valid_runnable code valid) limits bare.1 ne
          (root_settled code valid setup limits bare.0 k first_plain.0 bare.1 first_plain.1 first_runs)
          (root_settled code valid setup limits bare.0 l second_plain.0 bare.1 second_plain.1 second_runs)
          first_listed second_listed m.one_stores first_touches.1 second_touches.1

      race_back : MayRace code t ss p (here gt.top) (here ft.top)
      race_back = races code setup t ss bare.0 l k gt.top ft.top (reverse gt.below) (reverse ft.below) m.second.access.store m.first.access.store p (valid_runnable code valid) limits bare.1 (λ e. ne (sym e))
          (root_settled code valid setup limits bare.0 l second_plain.0 bare.1 second_plain.1 second_runs)
          (root_settled code valid setup limits bare.0 k first_plain.0 bare.1 first_plain.1 first_runs)
          second_listed first_listed (either_stores m.first.access.store m.second.access.store m.one_stores) second_touches.1 first_touches.1

      pair : IsPairOf vs p (here ft.top) (here gt.top)
      pair = pair_of code t ss vs p (here ft.top) (here gt.top) pairs race race_back

      lock : (n : ℕ) × (lock_at (places_in vs) p ≡ Some n) × (slice_get (places_in vs) n ≡ Some p)
      lock = lock_of_place (places_in vs) p (subst (λ z. In z (places_in vs)) pair.place (place_in vs pair.pair pair.is))

      stripe : ℕ
      stripe = stripe_for code t rows p m.offset m.object.cells

      first_holds : holds_stripe lock.0 stripe k state ≡ true
      unfolding p stripe first_action
      first_holds = holds_stripe_of state bare.0 reached bare.1 k told first_plain.0 at first_plain.1 first_action first_accesses refl first_plain.2 m.made m.cell m.first_stores m.first m.rest m.object m.is m.offset m.within m.cell_is lock.0 lock.2
          (locked_access code t vs rs profile rows p (here ft.top) m.first.access lock.0 grains pair.pair pair.is pair.first lock.1 first_touches.0 first_touches.1)

      second_holds : holds_stripe lock.0 stripe l state ≡ true
      unfolding p stripe second_action
      second_holds = holds_stripe_of state bare.0 reached bare.1 l other second_plain.0 there second_plain.1 second_action second_accesses refl second_plain.2 m.made m.cell m.second_stores m.second m.rest m.object m.is m.offset m.within m.cell_is lock.0 lock.2
          (locked_access code t vs rs profile rows p (here gt.top) m.second.access lock.0 grains pair.pair pair.is pair.second lock.1 second_touches.0 second_touches.1)

      runs : IsRunnable W
      runs = valid_runnable W weak_valid

      one : k ≡ l
      one = (held_by_list W setup runs limits lock.0 stripe (known_is W setup runs limits state lock.0 stripe k reached first_holds)).one Write Write state k l reached refl first_holds second_holds

    pub apart_threads : ⊥
    apart_threads = ne (one meets)

  pub free : HasNoRace W setup
  free state reached r = apart_threads state reached r.first r.second r.differ r.first_state r.second_state r.first_is r.second_is r.conflict

pub no_race : (a : Analysed) (setup : SetupView) → IsAnalysed a → IsWithinLimits setup → HasNoRace a.weak setup
no_race a setup h limits = subst (λ (c : Code). HasNoRace c setup) (sym h.weak)
    (free a.plain a.points a.summaries a.pairs (ranges_of a.plain a.points) a.profile a.grains.rows h.valid h.without_locks h.constants h.apart h.closed h.points h.summaries h.pairs refl h.grains setup limits)
