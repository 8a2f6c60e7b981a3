-- Two conflicting accesses of an object's cell are ordered by a lock that both threads hold, or by the cell's stripe.
use Rattle.std.proofs.Common.{◌≡◌, ◌≢◌, ℕ, ◌<◌, ◌||◌, ◌⊎◌, inl, inr, ⊎_elim, Bool, true, false, List, reverse, Some, refl, sym, ap, subst, ◌∙◌, arith}
use Rattle.std.specs.Prelude.{slice_get}
use Rattle.std.specs.List.{Contains}
use Rattle.rr_base.specs.Words.{site_of, length_of, offset_of, class_of}
use Rattle.rr_base.specs.declared.layout.CellKind.{CellKind}
use Rattle.rr_base.specs.declared.layout.CellKind.TheVariants as kind
use Rattle.rr_base.specs.declared.layout.Place.{Place}
use Rattle.sync_objects.specs.Modes.{excludes}
use Rattle.sync_objects.specs.Setup.{SetupView, IsWithinLimits}
use Rattle.sync_objects.specs.declared.mode.Mode.{Mode}
use Rattle.sync_objects.specs.declared.mode.Mode.TheVariants.{Read, Write}
use Rattle.flow_code.specs.declared.code.Code.{Code}
use Rattle.flow_code.specs.Constants.{constants_fit}
use Rattle.flow_code.specs.Settle.{IsRunnable}
use Rattle.flow_code.specs.Threads.{Thread}
use Rattle.flow_code.specs.Valid.{is_valid}
use Rattle.flow_code.proofs.Runnable.{valid_runnable}
use Rattle.facts.specs.declared.locks.Summary.{Summary}
use Rattle.facts.specs.declared.pair.Pair.{Pair}
use Rattle.profiles.specs.declared.profile.Profile.{Profile}
use Rattle.facts.specs.Pairs.{MayRace, ArePairs, places_of}
use Rattle.facts.specs.PointsTo.{Tables, IsPointsTo, element_of, place}
use Rattle.facts.specs.Summaries.{AreSummaries}
use Rattle.weak_lock_facts.specs.declared.grain.Grained.{Grained}
use Rattle.weak_lock_facts.specs.declared.range.Range.{Range}
use Rattle.weak_lock_facts.specs.Grains.{AreGrains}
use Rattle.weak_lock_facts.specs.Ranges.{ranges_of}
use Rattle.weak_code.specs.Stripped.{is_plain}
use Rattle.weak_code.specs.WeakLocks.{places_in, lock_at}
use Rattle.weak_code.specs.Weakened.{weakened}
use Rattle.weak_valid.specs.Apart.{loops_are_apart}
use Rattle.guard_paths.specs.LoopsClosed.{loops_are_closed}
use Rattle.guard_paths.proofs.Guarded.{In}
use Rattle.core_run.specs.Machine.{Told, machine, start_state}
use Rattle.run_theory.specs.Labels.{Label, Go, label_thread}
use Rattle.run_theory.specs.Laws.{NoAccess}
use Rattle.run_theory.specs.Ordered.{Event, event_thread, event_access, event_at, Ordered}
use Rattle.run_theory.specs.Steps.{State}
use Rattle.lock_ownership.specs.Holders.{holds_stripe}
use Rattle.lock_ownership.proofs.LockOrders.{ordered_by_mutex, ordered_by_rwlock, ordered_by_stripe}
use Rattle.lock_ownership.proofs.Turns.{Place as PlaceOf}
use Rattle.lockset_sound.specs.Frames.{holds_at, root_frame, IsListed}
use Rattle.lockset_sound.proofs.RootSteps.{RootOf}
use Rattle.race_free.proofs.Locked.{IsPairOf, pair_of, locked_access, lock_of_place, place_in}
use Rattle.race_free.proofs.Sides.{here}
use Rattle.race_free.proofs.Stripes.{stripe_for}
use Rattle.lock_sound.proofs.Fits.{weak_fit}
use Rattle.happens_before.proofs.Held.{holds_mutex_too, holds_rwlock_too}
use Rattle.happens_before.proofs.Lasting.{OneObject, PointsAt, one_object}
use Rattle.happens_before.proofs.Racing.{hold_or_race}
use Rattle.happens_before.proofs.Sides.{weak_valid, strips, same_cells, Side, pt, v, in_object, points_at, touching, listed, root, holds}

module _ (code : Code) (t : Tables) (ss : List Summary) (vs : List Pair) (rs : List Range) (profile : Profile) (rows : List Grained)
    (valid : is_valid code ≡ true) (plain : is_plain code ≡ true) (constants : constants_fit code ≡ true) (apart : loops_are_apart code ≡ true) (closed : loops_are_closed code ≡ true)
    (points : IsPointsTo code t) (sums : AreSummaries code ss) (pairs : ArePairs code t ss vs) (ranges : rs ≡ ranges_of code t) (grains : AreGrains code vs rs profile rows)
    (setup : SetupView) (limits : IsWithinLimits setup) where
  abbrev W : Code
  W = weakened code t vs rs rows

  valid_here : is_valid W ≡ true
  valid_here = weak_valid code t ss vs rs profile rows valid plain constants apart closed points sums pairs ranges grains setup limits

  pub fit_here : constants_fit W ≡ true
  fit_here = weak_fit W code (strips code t ss vs rs profile rows valid plain constants apart closed points sums pairs ranges grains setup limits) constants

  run : IsRunnable W
  run = valid_runnable W valid_here

  abbrev pub SideAt : State Told → ℕ → ℕ → Bool → Type 0
  SideAt st k cell store = Side code t ss vs rs profile rows valid plain constants apart closed points sums pairs ranges grains setup limits st k cell store

  abbrev spot : (site offset : ℕ) → Place
  spot site offset = place site (class_of (element_of code.sites site) offset)

  abbrev stripe : (site offset cells : ℕ) → ℕ
  stripe site offset cells = stripe_for code t rows (spot site offset) offset cells

  module _ (labels : List Label) (i j : ℕ) (lt : i < j) (x y : Event) (p : PlaceOf W setup labels (start_state W setup) i x) (q : PlaceOf W setup labels (start_state W setup) j y)
      (at_first : event_at (machine W setup) labels (start_state W setup) i ≡ Some x) (at_second : event_at (machine W setup) labels (start_state W setup) j ≡ Some y)
      (ne : event_thread x ≢ event_thread y) (some : event_access x ≢ NoAccess) (own_first : p.label ≡ Go (event_thread x)) (own_second : q.label ≡ Go (event_thread y))
      (cell : ℕ) (first_stores second_stores : Bool) (one_stores : (first_stores || second_stores) ≡ true)
      (d : SideAt p.before (event_thread x) cell first_stores) (e : SideAt q.before (event_thread y) cell second_stores) where
    abbrev k : ℕ
    k = event_thread x

    abbrev l : ℕ
    l = event_thread y

    abbrev Goal : Type 0
    Goal = Ordered (event_at (machine W setup) labels (start_state W setup)) i j

    first_word : ℕ
    first_word = v code t ss vs rs profile rows valid plain constants apart closed points sums pairs ranges grains setup limits p.before k cell first_stores d

    second_word : ℕ
    second_word = v code t ss vs rs profile rows valid plain constants apart closed points sums pairs ranges grains setup limits q.before l cell second_stores e

    first_points : PointsAt W setup p.before k d.told first_word cell
    unfolding first_word
    first_points = points_at code t ss vs rs profile rows valid plain constants apart closed points sums pairs ranges grains setup limits p.before k cell first_stores d

    second_points : PointsAt W setup q.before l e.told second_word cell
    unfolding second_word
    second_points = points_at code t ss vs rs profile rows valid plain constants apart closed points sums pairs ranges grains setup limits q.before l cell second_stores e

    one : OneObject first_word second_word
    one =
        one_object W setup valid_here fit_here limits labels i j lt x y p q some d.told e.told first_word second_word cell
        (subst (λ n. PointsAt W setup p.before n d.told first_word cell) (sym (ap label_thread own_first)) first_points)
        (subst (λ n. PointsAt W setup q.before n e.told second_word cell) (sym (ap label_thread own_second)) second_points)

    -- the first access's place, by numbers
    abbrev site : ℕ
    site = d.accesses.reaches.object.site

    abbrev offset : ℕ
    offset = d.accesses.reaches.offset

    abbrev cells : ℕ
    cells = d.accesses.reaches.object.cells

    record SameSpot : Type 0 where
      site_is : e.accesses.reaches.object.site ≡ site
      offset_is : e.accesses.reaches.offset ≡ offset
      cells_is : e.accesses.reaches.object.cells ≡ cells

    same_offset : offset_of second_word ≡ offset_of first_word
    same_offset = let a = first_points.cell in let b = second_points.cell in let c = one.base in omega (arith, a, b, c)

    first_object : (site_of first_word ≡ site) × (length_of first_word ≡ cells) × (offset_of first_word ≡ offset)
    unfolding first_word
    first_object = in_object code t ss vs rs profile rows valid plain constants apart closed points sums pairs ranges grains setup limits p.before k cell first_stores d

    second_object : (site_of second_word ≡ e.accesses.reaches.object.site) × (length_of second_word ≡ e.accesses.reaches.object.cells) × (offset_of second_word ≡ e.accesses.reaches.offset)
    unfolding second_word
    second_object = in_object code t ss vs rs profile rows valid plain constants apart closed points sums pairs ranges grains setup limits q.before l cell second_stores e

    same_spot : SameSpot
    same_spot = record { site_is = sym second_object.0 ∙ sym one.site ∙ first_object.0; offset_is = sym second_object.2 ∙ same_offset ∙ first_object.2; cells_is = sym second_object.1 ∙ sym one.cells ∙ first_object.1 }

    -- ---- a lock

    abbrev first_frame : Thread
    first_frame = pt code t ss vs rs profile rows valid plain constants apart closed points sums pairs ranges grains setup limits p.before k cell first_stores d

    abbrev second_frame : Thread
    second_frame = pt code t ss vs rs profile rows valid plain constants apart closed points sums pairs ranges grains setup limits q.before l cell second_stores e

    by_mutex : (a b : Mode) (c : ℕ) → holds_at code setup k d.bare a kind.Mutex c ≡ true → holds_at code setup l e.bare b kind.Mutex c ≡ true → Goal
    by_mutex a b c held held_too =
        let same = same_cells code t ss vs rs profile rows valid plain constants apart closed points sums pairs ranges grains setup limits in
        let f = holds_mutex_too W code setup limits run same p.before d.bare d.reached d.bare_is a k c held in
        let g = holds_mutex_too W code setup limits run same q.before e.bare e.reached e.bare_is b l c held_too in
        ordered_by_mutex W setup c labels i j x y p.before q.before run limits f.0 lt at_first at_second some ne p.at q.at f.1 g.1

    by_rwlock : (a b : Mode) (c : ℕ) → excludes a b ≡ true → holds_at code setup k d.bare a kind.Rw c ≡ true → holds_at code setup l e.bare b kind.Rw c ≡ true → Goal
    by_rwlock a b c out held held_too =
        let same = same_cells code t ss vs rs profile rows valid plain constants apart closed points sums pairs ranges grains setup limits in
        let f = holds_rwlock_too W code setup limits run same p.before d.bare d.reached d.bare_is a k c held in
        let g = holds_rwlock_too W code setup limits run same q.before e.bare e.reached e.bare_is b l c held_too in
        ordered_by_rwlock W setup c a b labels i j x y p.before q.before run limits f.0 out lt at_first at_second some ne p.at q.at f.1 g.1

    by_lock : (z : CellKind) (a b : Mode) (c : ℕ) → excludes a b ≡ true → holds_at code setup k d.bare a z c ≡ true → holds_at code setup l e.bare b z c ≡ true → Goal
    by_lock kind.Mutex a b c out held held_too = by_mutex a b c held held_too
    by_lock kind.Rw a b c out held held_too = by_rwlock a b c out held held_too
    by_lock kind.Whole a b c out held held_too = cc
    by_lock kind.Pointer a b c out held held_too = cc
    by_lock kind.Cond a b c out held held_too = cc
    by_lock kind.Barrier a b c out held held_too = cc

    out_back : (a b : Mode) → excludes a b ≡ true → excludes b a ≡ true
    out_back Write Write out = refl
    out_back Write Read out = refl
    out_back Read Write out = refl
    out_back Read Read out = cc

    -- ---- a stripe

    first_touches : Contains (places_of code t (here first_frame.top)) (spot site offset)
    first_touches = (touching code t ss vs rs profile rows valid plain constants apart closed points sums pairs ranges grains setup limits p.before k cell first_stores d).1

    second_touches : Contains (places_of code t (here second_frame.top)) (spot site offset)
    second_touches =
        subst (λ n. Contains (places_of code t (here second_frame.top)) (spot n offset)) same_spot.site_is
        (subst (λ n. Contains (places_of code t (here second_frame.top)) (spot e.accesses.reaches.object.site n)) same_spot.offset_is
        (touching code t ss vs rs profile rows valid plain constants apart closed points sums pairs ranges grains setup limits q.before l cell second_stores e).1)

    first_listed : IsListed code setup.slots ss (holds_at code setup k d.bare) first_frame.top (reverse first_frame.below) d.accesses.access.store
    first_listed = listed code t ss vs rs profile rows valid plain constants apart closed points sums pairs ranges grains setup limits p.before k cell first_stores d

    second_listed : IsListed code setup.slots ss (holds_at code setup l e.bare) second_frame.top (reverse second_frame.below) e.accesses.access.store
    second_listed = listed code t ss vs rs profile rows valid plain constants apart closed points sums pairs ranges grains setup limits q.before l cell second_stores e

    first_root : RootOf code k (root_frame first_frame.top (reverse first_frame.below)).function
    first_root = root code t ss vs rs profile rows valid plain constants apart closed points sums pairs ranges grains setup limits p.before k cell first_stores d

    second_root : RootOf code l (root_frame second_frame.top (reverse second_frame.below)).function
    second_root = root code t ss vs rs profile rows valid plain constants apart closed points sums pairs ranges grains setup limits q.before l cell second_stores e

    either_stores : (a b : Bool) → (a || b) ≡ true → (b || a) ≡ true
    either_stores true true h = refl
    either_stores true false h = refl
    either_stores false b h = ap (λ z. z || false) h

    stores : (d.accesses.access.store || e.accesses.access.store) ≡ true
    stores = ap (λ z. z || e.accesses.access.store) d.accesses.stores ∙ ap (λ z. first_stores || z) e.accesses.stores ∙ one_stores

    abbrev Race : Type 0
    Race = MayRace code t ss (spot site offset) (here first_frame.top) (here second_frame.top)

    abbrev RaceBack : Type 0
    RaceBack = MayRace code t ss (spot site offset) (here second_frame.top) (here first_frame.top)

    race : Goal ⊎ Race
    race =
        ⊎_elim (λ h. inl (by_lock h.kind h.first h.second h.cell h.apart h.held_first h.held_second)) (λ h. inr h)
        (hold_or_race code setup t ss k l first_frame.top second_frame.top (reverse first_frame.below) (reverse second_frame.below) d.accesses.access.store e.accesses.access.store (spot site offset) (holds_at code setup k d.bare) (holds_at code setup l e.bare) ne
        first_root second_root first_listed second_listed stores first_touches second_touches)

    race_back : Goal ⊎ RaceBack
    race_back =
        ⊎_elim (λ h. inl (by_lock h.kind h.second h.first h.cell (out_back h.first h.second h.apart) h.held_second h.held_first)) (λ h. inr h)
        (hold_or_race code setup t ss l k second_frame.top first_frame.top (reverse second_frame.below) (reverse first_frame.below) e.accesses.access.store d.accesses.access.store (spot site offset) (holds_at code setup l e.bare) (holds_at code setup k d.bare) (λ h. ne (sym h))
        second_root first_root second_listed first_listed (either_stores d.accesses.access.store e.accesses.access.store stores) second_touches first_touches)

    module _ (pair : IsPairOf vs (spot site offset) (here first_frame.top) (here second_frame.top)) where
      lock : (n : ℕ) × (lock_at (places_in vs) (spot site offset) ≡ Some n) × (slice_get (places_in vs) n ≡ Some (spot site offset))
      lock = lock_of_place (places_in vs) (spot site offset) (subst (λ z. In z (places_in vs)) pair.place (place_in vs pair.pair pair.is))

      first_holds : holds_stripe lock.0 (stripe site offset cells) k p.before ≡ true
      first_holds =
          holds code t ss vs rs profile rows valid plain constants apart closed points sums pairs ranges grains setup limits p.before k cell first_stores d lock.0 lock.2
          (locked_access code t vs rs profile rows (spot site offset) (here first_frame.top) d.accesses.access lock.0 grains pair.pair pair.is pair.first lock.1 (touching code t ss vs rs profile rows valid plain constants apart closed points sums pairs ranges grains setup limits p.before k cell first_stores d).0 first_touches)

      second_holds : holds_stripe lock.0 (stripe site offset cells) l q.before ≡ true
      second_holds =
          subst (λ n. holds_stripe lock.0 (stripe n offset cells) l q.before ≡ true) same_spot.site_is
          (subst (λ n. holds_stripe lock.0 (stripe e.accesses.reaches.object.site n cells) l q.before ≡ true) same_spot.offset_is
          (subst (λ n. holds_stripe lock.0 (stripe e.accesses.reaches.object.site e.accesses.reaches.offset n) l q.before ≡ true) same_spot.cells_is
          (holds code t ss vs rs profile rows valid plain constants apart closed points sums pairs ranges grains setup limits q.before l cell second_stores e lock.0
          (subst (λ n. slice_get (places_in vs) lock.0 ≡ Some (spot n e.accesses.reaches.offset)) (sym same_spot.site_is) (subst (λ n. slice_get (places_in vs) lock.0 ≡ Some (spot site n)) (sym same_spot.offset_is) lock.2))
          (locked_access code t vs rs profile rows (spot site offset) (here second_frame.top) e.accesses.access lock.0 grains pair.pair pair.is pair.second lock.1 (touching code t ss vs rs profile rows valid plain constants apart closed points sums pairs ranges grains setup limits q.before l cell second_stores e).0 second_touches))))

      by_stripe : Goal
      by_stripe = ordered_by_stripe W setup lock.0 (stripe site offset cells) labels i j x y p.before q.before run limits lt at_first at_second some ne p.at q.at first_holds second_holds

    pub objects_ordered : Goal
    objects_ordered = ⊎_elim (λ h. h) (λ (a : Race). ⊎_elim (λ h. h) (λ (b : RaceBack). by_stripe (pair_of code t ss vs (spot site offset) (here first_frame.top) (here second_frame.top) pairs a b)) race_back) race
