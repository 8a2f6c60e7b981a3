-- A thread of weakened code at an access of an object's cell, beside the plain code's thread at the same one.
use Rattle.std.proofs.Common.{◌≡◌, ℕ, ◌*◌, ◌<◌, ⊎_elim, Bool, true, List, reverse, Some, refl, sym, ap, ◌∙◌}
use Rattle.std.specs.Prelude.{slice_get}
use Rattle.std.specs.List.{Contains}
use Rattle.rr_base.specs.Words.{site_of, length_of, offset_of, class_of}
use Rattle.sync_objects.specs.Setup.{SetupView, IsWithinLimits}
use Rattle.word_semantics.specs.declared.event.Action.{Action}
use Rattle.word_semantics.specs.Registers.{register}
use Rattle.flow_code.specs.declared.act.Instr.{Instr}
use Rattle.flow_code.specs.declared.code.Code.{Code}
use Rattle.flow_code.specs.declared.code.Function.{Function}
use Rattle.flow_code.specs.declared.thread.Phase.TheVariants as phase
use Rattle.flow_code.specs.Constants.{constants_fit}
use Rattle.flow_code.specs.Next.{pointers_in}
use Rattle.flow_code.specs.Settle.{next, settled}
use Rattle.flow_code.specs.Threads.{Thread}
use Rattle.flow_code.specs.Valid.{is_valid}
use Rattle.flow_code.specs.Works.{is_pointer}
use Rattle.facts.specs.Accesses.{access_of as code_access}
use Rattle.facts.specs.declared.locks.Summary.{Summary}
use Rattle.facts.specs.declared.pair.Pair.{Pair}
use Rattle.profiles.specs.declared.profile.Profile.{Profile}
use Rattle.facts.specs.Pairs.{ArePairs, access_in, act_of, places_of}
use Rattle.facts.specs.PointsTo.{Tables, IsPointsTo, element_of, place}
use Rattle.facts.specs.Summaries.{AreSummaries, StandsAt}
use Rattle.facts.specs.declared.constraint.Node.TheVariants.{Register}
use Rattle.weak_lock_facts.specs.declared.grain.Grained.{Grained}
use Rattle.weak_lock_facts.specs.declared.range.Range.{Range}
use Rattle.weak_lock_facts.specs.Grains.{AreGrains}
use Rattle.weak_lock_facts.specs.Ranges.{ranges_of}
use Rattle.weak_code.specs.Stripped.{is_plain, strip}
use Rattle.weak_code.specs.WeakLocks.{places_in}
use Rattle.weak_code.specs.Weakened.{weakened}
use Rattle.weak_code.proofs.Stripping.{strip-weakened}
use Rattle.weak_valid.specs.Apart.{loops_are_apart}
use Rattle.weak_valid.proofs.Valid.{weakened_valid}
use Rattle.guard_paths.specs.LoopsClosed.{loops_are_closed}
use Rattle.core_run.specs.Histories.{IsReachable}
use Rattle.core_run.specs.Machine.{Told}
use Rattle.core_run.specs.Words.{cells_of}
use Rattle.run_theory.specs.Steps.{State}
use Rattle.lock_ownership.specs.Holders.{holds_stripe}
use Rattle.lockset_sound.specs.Frames.{holds_at, root_frame, IsListed}
use Rattle.lockset_sound.proofs.ByRows.{listed_at}
use Rattle.lockset_sound.proofs.RootsInRuns.{root_settled}
use Rattle.lockset_sound.proofs.RootSteps.{RootOf}
use Rattle.erased_states.specs.States.{IsAccess, IsPlainState, IsPlainAccess}
use Rattle.erased_states.proofs.Reached.{plain_access, plain_state}
use Rattle.points_to_sound.specs.Objects.{Object}
use Rattle.points_to_sound.specs.States.{PointsWell}
use Rattle.access_cells.specs.Accesses.{names_cell, IsAccess as Accesses, at_rest, resting}
use Rattle.access_cells.proofs.Found.{low, names}
use Rattle.access_cells.proofs.Resting.{resting_at}
use Rattle.access_cells.proofs.Settled.{code_sets, points_at_rest}
use Rattle.race_free.proofs.Holding.{stands}
use Rattle.race_free.proofs.Locked.{HasLock}
use Rattle.race_free.proofs.Meeting.{holds_stripe_of}
use Rattle.race_free.proofs.Sides.{here, touches, through_pointer, same_registers, plain_runs, weak_runs, weak_act}
use Rattle.race_free.proofs.Stripes.{stripe_for}
use Rattle.race_free.proofs.Words.{PointsTo, points_to, good_word, at_object}
use Rattle.happens_before.proofs.Acting.{names_access}
use Rattle.happens_before.proofs.Lasting.{PointsAt}

module _ (code : Code) (t : Tables) (ss : List Summary) (vs : List Pair) (rs : List Range) (profile : Profile) (rows : List Grained)
    (valid : is_valid code ≡ true) (plain : is_plain code ≡ true) (constants : constants_fit code ≡ true) (apart : loops_are_apart code ≡ true) (closed : loops_are_closed code ≡ true)
    (points : IsPointsTo code t) (sums : AreSummaries code ss) (pairs : ArePairs code t ss vs) (ranges : rs ≡ ranges_of code t) (grains : AreGrains code vs rs profile rows)
    (setup : SetupView) (limits : IsWithinLimits setup) where
  abbrev W : Code
  W = weakened code t vs rs rows

  pub weak_valid : is_valid W ≡ true
  weak_valid = weakened_valid code t ss vs rs profile rows valid plain apart (record { points = points; pairs = pairs; ranges = ranges; grains = grains })

  pub strips : strip W ≡ code
  strips = strip-weakened code t vs rs rows valid plain

  pub same_cells : cells_of W setup ≡ cells_of code setup
  unfolding weakened
  same_cells = refl

  -- both threads, and the objects of the plain state at rest
  pub record Side (st : State Told) (k cell : ℕ) (store : Bool) : Type 0 where
    pub reached : IsReachable W setup st
    pub told : Told
    pub at : slice_get st.threads k ≡ Some told
    pub action : Action
    pub access : IsAccess action
    pub comes : next W setup k told.thread ≡ action
    pub bare : State Told
    pub bare_reached : IsReachable code setup bare
    pub bare_is : IsPlainState W code setup st bare
    pub other : Told
    pub there : slice_get bare.threads k ≡ Some other
    pub same : IsPlainAccess W code setup k told.thread other.thread action
    pub made : List Object
    pub rest : PointsWell code setup made (at_rest code setup bare)
    pub accesses : Accesses code setup made (settled code setup k other.thread) cell store

  pub side : (st : State Told) (k cell : ℕ) (store : Bool) (told : Told) → IsReachable W setup st → slice_get st.threads k ≡ Some told → names_cell (next W setup k told.thread) ≡ Some (cell, store) → (cell < 2 * setup.slots → ⊥) → Side st k cell store
  side st k cell store told reached at named high =
      let access = names_access (next W setup k told.thread) cell store named in
      let b = plain_state W code setup limits weak_valid strips st reached in
      let x = plain_access W code setup limits weak_valid strips st b.0 k told (next W setup k told.thread) reached b.2 at access refl in
      let sets = code_sets code setup valid constants limits b.0 b.1 in
      let p = points_at_rest code setup valid constants limits b.0 b.1 in
      let plain_named : names_cell (next code setup k x.0.thread) ≡ Some (cell, store) = ap names_cell x.2.comes ∙ named in
      record {
        reached = reached;
        told = told;
        at = at;
        action = next W setup k told.thread;
        access = access;
        comes = refl;
        bare = b.0;
        bare_reached = b.1;
        bare_is = b.2;
        other = x.0;
        there = x.1;
        same = x.2;
        made = p.0;
        rest = p.1;
        accesses = ⊎_elim (λ h. absurd (high (low code setup sets b.0 b.1 p.0 p.1 k x.0 x.1 cell store h))) (λ a. a) (names code setup sets b.0 b.1 p.0 p.1 k x.0 x.1 cell store plain_named);
      }

  module _ (st : State Told) (k cell : ℕ) (store : Bool) (d : Side st k cell store) where
    abbrev pub pt : Thread
    pt = settled code setup k d.other.thread

    abbrev wt : Thread
    wt = settled W setup k d.told.thread

    -- the pointer, which points into the cell's object
    pub v : ℕ
    v = register pt.top.registers d.accesses.access.through

    stands_here : (fn : Function) × (i : Instr) × StandsAt code pt.top.function pt.top.instr fn i × (i.act ≡ d.accesses.instruction)
    stands_here = stands code pt.top d.accesses.instruction d.accesses.at

    does : code_access stands_here.1.act ≡ Some d.accesses.access
    does = ap code_access stands_here.3 ∙ d.accesses.is

    pub runs : d.other.thread.phase ≡ phase.Running
    runs = plain_runs W code setup k d.told d.other d.action d.same d.accesses.runs

    into : PointsTo code setup d.made v cell
    unfolding v
    into = points_to code setup valid d.made (at_rest code setup d.bare) d.rest (Register pt.top.function d.accesses.access.through) (register pt.top.registers d.accesses.access.through) cell d.accesses.kind d.accesses.resolves
        (good_word code setup valid d.made (at_rest code setup d.bare) d.rest k (resting code setup k d.other) d.accesses.access.through (resting_at code setup d.bare k d.other d.there) d.accesses.runs (through_pointer code pt.top stands_here.0 stands_here.1 d.accesses.access valid stands_here.2 does))

    abbrev pub o : Object
    o = d.accesses.reaches.object

    -- the object, by the pointer
    pub in_object : (site_of v ≡ o.site) × (length_of v ≡ o.cells) × (offset_of v ≡ d.accesses.reaches.offset)
    in_object = at_object code setup valid d.made (at_rest code setup d.bare) d.rest v cell into o d.accesses.reaches.is d.accesses.reaches.offset d.accesses.reaches.within d.accesses.reaches.cell

    -- the weakened code's thread has the same pointer
    weak_pointer : is_pointer (pointers_in (slice_get W.functions wt.top.function)) d.accesses.access.through ≡ true
    weak_pointer =
        let act = weak_act W code setup k d.told d.other d.action d.same d.accesses.runs d.accesses.instruction d.accesses.access d.accesses.at d.accesses.is in
        let s = stands W wt.top d.accesses.instruction act in
        through_pointer W wt.top s.0 s.1 d.accesses.access weak_valid s.2 (ap code_access s.3 ∙ d.accesses.is)

    same_word : register wt.top.registers d.accesses.access.through ≡ v
    unfolding v
    same_word = ap (λ xs. register xs d.accesses.access.through) (sym (same_registers W code setup k d.told d.other d.action d.same))

    pub points_at : PointsAt W setup st k d.told v cell
    points_at = record {
      at = d.at;
      runs = weak_runs W code setup k d.told d.other d.action d.same d.accesses.runs;
      through = d.accesses.access.through;
      pointer = weak_pointer;
      word = same_word;
      some = into.some;
      cell = into.cell;
      within = into.within;
    }

    -- the access as the analysis has it
    pub touching : (access_in (act_of code (here pt.top)) ≡ Some d.accesses.access) × Contains (places_of code t (here pt.top)) (place o.site (class_of (element_of code.sites o.site) d.accesses.reaches.offset))
    touching = touches code t pt.top d.accesses.instruction d.accesses.access (place o.site (class_of (element_of code.sites o.site) d.accesses.reaches.offset)) points d.accesses.at d.accesses.is d.accesses.reaches.may

    pub listed : IsListed code setup.slots ss (holds_at code setup k d.bare) pt.top (reverse pt.below) d.accesses.access.store
    listed = listed_at code setup ss d.bare k d.other pt stands_here.0 stands_here.1 d.accesses.access valid constants limits sums d.bare_reached d.there runs refl stands_here.2 does

    pub root : RootOf code k (root_frame pt.top (reverse pt.below)).function
    root = root_settled code valid setup limits d.bare k d.other d.bare_reached d.there runs

    -- it holds the cell's stripe of the lock of the access
    pub holds : (n : ℕ) → slice_get (places_in vs) n ≡ Some (place o.site (class_of (element_of code.sites o.site) d.accesses.reaches.offset)) → HasLock code t vs rs rows (here pt.top) d.accesses.access n
        → holds_stripe n (stripe_for code t rows (place o.site (class_of (element_of code.sites o.site) d.accesses.reaches.offset)) d.accesses.reaches.offset o.cells) k st ≡ true
    holds n locked lock =
        holds_stripe_of code t ss vs rs profile rows valid plain constants apart closed points sums pairs ranges grains setup limits st d.bare d.reached d.bare_reached k d.told d.other d.at d.there d.action d.access d.comes d.same d.made cell store d.accesses d.rest
        o d.accesses.reaches.is d.accesses.reaches.offset d.accesses.reaches.within d.accesses.reaches.cell n locked lock
