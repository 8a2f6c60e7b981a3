-- Where an access that may race comes next in a thread of weakened code, the thread holds the stripe of its cell.
use Rattle.std.proofs.Common.{◌≡◌, ℕ, zero, suc, ◌<◌, ◌≤◌, true, false, List, [], ◌∷◌, length, Option, Some, None, refl, sym, ap, subst, ◌∙◌}
use Rattle.std.specs.Prelude.{slice_get}
use Rattle.std.specs.List.{Contains}
use Rattle.std.proofs.lemmas.Option.{same_Some}
use Rattle.rr_base.specs.Words.{offset_of}
use Rattle.sync_objects.specs.Setup.{SetupView, IsWithinLimits}
use Rattle.word_semantics.specs.declared.library_call.LibraryCall.{LibraryCall}
use Rattle.word_semantics.specs.declared.library_call.LibraryCall.TheVariants as call
use Rattle.word_semantics.specs.Pointers.{known}
use Rattle.word_semantics.specs.Registers.{register}
use Rattle.flow_code.specs.declared.act.Act.{Act}
use Rattle.flow_code.specs.declared.act.Act.TheVariants as act
use Rattle.flow_code.specs.declared.act.Instr.{Instr}
use Rattle.flow_code.specs.declared.code.Code.{Code}
use Rattle.flow_code.specs.declared.code.Function.{Function}
use Rattle.flow_code.specs.declared.region.Region.{Region}
use Rattle.flow_code.specs.declared.region.Region.TheVariants as region
use Rattle.flow_code.specs.declared.thread.Phase.TheVariants as phase
use Rattle.flow_code.specs.Constants.{constants_fit}
use Rattle.flow_code.specs.Holding.{region_in}
use Rattle.flow_code.specs.Next.{act_in, act_at, pointers_in}
use Rattle.flow_code.specs.Settle.{next, settled}
use Rattle.flow_code.specs.Stripes.{guards, points_to_cell, wants}
use Rattle.flow_code.specs.Threads.{Frame, Thread, instr_in, instrs_in}
use Rattle.flow_code.specs.Valid.{is_valid}
use Rattle.facts.specs.Accesses.{Access, access_of, library_access}
use Rattle.facts.specs.declared.pair.Pair.{Pair}
use Rattle.profiles.specs.declared.profile.Profile.{Profile}
use Rattle.facts.specs.PointsTo.{Tables}
use Rattle.facts.specs.Summaries.{StandsAt}
use Rattle.weak_lock_facts.specs.declared.grain.Grained.{Grained}
use Rattle.weak_lock_facts.specs.declared.range.Range.{Range}
use Rattle.weak_lock_facts.specs.Grains.{AreGrains}
use Rattle.weak_lock_facts.specs.Ranges.{ranges_of}
use Rattle.weak_code.specs.Stretches.{racy_accesses}
use Rattle.weak_code.specs.Stripped.{is_plain, is_weak, plain_of}
use Rattle.weak_code.specs.WeakLocks.{places_in}
use Rattle.weak_code.specs.Weakened.{weakened}
use Rattle.weak_code.proofs.Stripping.{strip-weakened}
use Rattle.weak_valid.specs.Apart.{loops_are_apart}
use Rattle.guard_paths.specs.LoopsClosed.{loops_are_closed}
use Rattle.guard_paths.specs.Guards.{Guards, IsSeat, IsGuarded}
use Rattle.guard_paths.specs.Walked.{Opening, Walked}
use Rattle.guard_paths.proofs.Covered.{guarded}
use Rattle.guard_paths.proofs.Guarded.{In, in_contains, contains_in}
use Rattle.erasure.proofs.Bare.{same_pointers}
use Rattle.core_run.specs.Histories.{IsReachable}
use Rattle.core_run.specs.Machine.{Told}
use Rattle.run_theory.specs.Steps.{State}
use Rattle.lock_ownership.specs.Holders.{holds_stripe}
use Rattle.lock_ownership.specs.ThreadStripes.{IsOfMemory}
use Rattle.guard_paths.proofs.Walks.{way, numbers}
use Rattle.region_stripes.proofs.Wants.{whole_wants}
use Rattle.region_stripes.specs.Settings.{IsSettingOf}
use Rattle.region_stripes.proofs.Wanting.{loop_wants}
use Rattle.open_regions.specs.OpenStripes.{is_exit, setting_of, HoldsItsOpen}
use Rattle.open_regions.proofs.Ends.{open_stripes}
use Rattle.race_free.proofs.Locked.{HasLock}

-- ---- where a frame stands

pub stands : (code : Code) (f : Frame) (x : Act) → act_at code f ≡ Some x → (fn : Function) × (i : Instr) × StandsAt code f.function f.instr fn i × (i.act ≡ x)
stands code f x e = by (slice_get code.functions f.function) refl e
  where
    at : (fn : Function) → slice_get code.functions f.function ≡ Some fn → (o : Option Instr) → slice_get fn.instrs f.instr ≡ o → act_in o ≡ Some x → (fn : Function) × (i : Instr) × StandsAt code f.function f.instr fn i × (i.act ≡ x)
    at fn is None there h = cc
    at fn is (Some i) there h = (fn, i, record { function = is; instr = there }, same_Some i.act x h)

    by : (o : Option Function) → slice_get code.functions f.function ≡ o → act_in (instr_in o f.instr) ≡ Some x → (fn : Function) × (i : Instr) × StandsAt code f.function f.instr fn i × (i.act ≡ x)
    by None is h = cc
    by (Some fn) is h = at fn is (slice_get fn.instrs f.instr) refl h

-- an access is none of the instructions of weak locks, and no pthread_exit
pub not_weak : (x : Act) (a : Access) → access_of x ≡ Some a → is_weak x ≡ false
not_weak (act.Take r) a h = cc
not_weak (act.Give r) a h = cc
not_weak (act.LoadCell into through) a h = refl
not_weak (act.StoreCell through from) a h = refl
not_weak (act.Library c arguments into) a h = refl
not_weak (act.Compute into w) a h = cc
not_weak (act.Alloc into site size) a h = cc
not_weak (act.Call g arguments into) a h = cc
not_weak (act.Return value) a h = cc
not_weak (act.Jump to) a h = cc
not_weak (act.Branch on x y) a h = cc
not_weak act.Mark a h = cc

no_exit : (c : LibraryCall) (arguments : List ℕ) (into : Option ℕ) (a : Access) → library_access c arguments ≡ Some a → is_exit (Some (act.Library c arguments into)) ≡ false
no_exit call.Exit arguments into a h = cc
no_exit call.Join arguments into a h = refl
no_exit (call.Create g) arguments into a h = refl
no_exit _ arguments into a h = cc

pub not_exit : (x : Act) (a : Access) → access_of x ≡ Some a → is_exit (Some x) ≡ false
not_exit (act.Library c arguments into) a h = no_exit c arguments into a h
not_exit (act.LoadCell into through) a h = refl
not_exit (act.StoreCell through from) a h = refl
not_exit (act.Take r) a h = cc
not_exit (act.Give r) a h = cc
not_exit (act.Compute into w) a h = cc
not_exit (act.Alloc into site size) a h = cc
not_exit (act.Call g arguments into) a h = cc
not_exit (act.Return value) a h = cc
not_exit (act.Jump to) a h = cc
not_exit (act.Branch on x y) a h = cc
not_exit act.Mark a h = cc

-- ---- the opening of a region

opening_of : (xs : List Opening) (n : ℕ) → In n (numbers xs) → (x : Opening) × In x xs × (x.0 ≡ n)
opening_of [] n (k, h) = cc
opening_of (x ∷ xs) n (zero, h) = (x, (0, refl), same_Some x.0 n h)
opening_of (x ∷ xs) n (suc k, h) = let r = opening_of xs n (k, h) in (r.0, (suc r.1.0, r.1.1), r.2)

module _ (code : Code) (t : Tables) (vs : List Pair) (rs : List Range) (profile : Profile) (rows : List Grained)
    (valid : is_valid code ≡ true) (plain : is_plain code ≡ true) (constants : constants_fit code ≡ true) (apart : loops_are_apart code ≡ true) (closed : loops_are_closed code ≡ true)
    (ranges : rs ≡ ranges_of code t) (grains : AreGrains code vs rs profile rows) (weak_valid : is_valid (weakened code t vs rs rows) ≡ true)
    (setup : SetupView) (limits : IsWithinLimits setup) where
  abbrev W : Code
  W = weakened code t vs rs rows

  same_sites : W.sites ≡ code.sites
  unfolding weakened
  same_sites = refl

  module _ (state : State Told) (reached : IsReachable W setup state) (k : ℕ) (told : Told) (at : slice_get state.threads k ≡ Some told) (runs : told.thread.phase ≡ phase.Running) (memory : IsOfMemory (next W setup k told.thread)) where
    abbrev th : Thread
    th = settled W setup k told.thread

    module _ (x : Act) (a : Access) (does : act_at W th.top ≡ Some x) (accesses : access_of x ≡ Some a)
        (fn : Function) (is : slice_get code.functions th.top.function ≡ Some fn) (whole : fn.registers ≤ length th.top.registers)
        (place n : ℕ) (placed : plain_of (instrs_in (slice_get W.functions th.top.function)) th.top.instr ≡ place)
        (lock : HasLock code t vs rs rows (record { function = th.top.function; instr = place }) a n)
        (stripe v : ℕ) (word : v ≡ known code.sites (register th.top.registers a.through)) (cell : points_to_cell v ≡ true) (guarding : guards W v (offset_of v) n stripe ≡ true) (few : stripe < 8) where
      open_here : HoldsItsOpen W setup k state th
      open_here = open_stripes code t vs rs profile rows valid plain apart closed ranges grains weak_valid setup state k told limits reached at runs memory (ap is_exit does ∙ not_exit x a accesses)

      module _ (weak : Function) (i : Instr) (there : StandsAt W th.top.function th.top.instr weak i) (act_is : i.act ≡ x) where
        seat : IsSeat weak.instrs th.top.instr lock.racy.instr
        seat = record {
          instr = i;
          at = there.instr;
          own = ap is_weak act_is ∙ not_weak x a accesses;
          plain = ap (λ o. plain_of (instrs_in o) th.top.instr) (sym there.function) ∙ placed ∙ sym lock.instr;
        }

        walked : Walked (setting_of W setup th.top.function) weak.instrs th.top.instr th.top.registers open_here.opened
        walked = subst (λ o. Walked (setting_of W setup th.top.function) (instrs_in o) th.top.instr th.top.registers open_here.opened) there.function open_here.walked

        listed : Contains (racy_accesses code t (places_in vs) rs rows th.top.function) lock.racy
        listed = in_contains lock.racy (racy_accesses code t (places_in vs) rs rows th.top.function) lock.is

        guard : IsGuarded fn lock.racy weak (numbers open_here.opened)
        guard = guarded code t vs rs profile rows valid plain apart closed ranges grains th.top.function fn weak lock.racy th.top.instr (numbers open_here.opened) is there.function listed seat (way walked)

        word_is : v ≡ known code.sites (register th.top.registers lock.racy.through)
        word_is = word ∙ ap (λ r. known code.sites (register th.top.registers r)) (sym lock.through)

        lock_in : Contains lock.racy.locks n
        lock_in = in_contains n lock.racy.locks lock.locks

        setting : IsSettingOf code fn (setting_of W setup th.top.function)
        setting = record {
          few = limits.few_slots;
          sites = same_sites;
          pointers = sym (same_pointers W th.top.function) ∙ ap (λ (c : Code). pointers_in (slice_get c.functions th.top.function)) (strip-weakened code t vs rs rows valid plain) ∙ ap pointers_in is;
        }

        takes : (r : Region) (o : Opening) → slice_get weak.regions o.0 ≡ Some r → Contains open_here.opened o → Guards fn lock.racy r → wants W o.1 r n stripe ≡ true
        takes (region.Whole locks) o e c g = whole_wants code t vs rs profile rows valid plain apart closed ranges grains th.top.function fn weak lock.racy th.top.instr (setting_of W setup th.top.function) th.top.registers open_here.opened is there.function listed seat walked n stripe v lock_in word_is cell guarding o (region.Whole locks) c e g refl
        takes (region.Cell base locks) o e c g = whole_wants code t vs rs profile rows valid plain apart closed ranges grains th.top.function fn weak lock.racy th.top.instr (setting_of W setup th.top.function) th.top.registers open_here.opened is there.function listed seat walked n stripe v lock_in word_is cell guarding o (region.Cell base locks) c e g refl
        takes (region.Ranged counter bound spans) o e c g = loop_wants code t vs rs profile rows valid plain apart closed ranges grains constants th.top.function fn weak lock.racy th.top.instr (setting_of W setup th.top.function) th.top.registers open_here.opened is there.function listed seat setting whole walked n stripe v lock_in word_is cell guarding o counter bound spans c e g

        holds_so : holds_stripe n stripe k state ≡ true
        holds_so =
            let o = opening_of open_here.opened guard.number (contains_in guard.number (numbers open_here.opened) guard.stands) in
            let c = in_contains o.0 open_here.opened o.1 in
            let e : slice_get weak.regions o.0.0 ≡ Some guard.region = ap (slice_get weak.regions) o.2 ∙ guard.is in
            open_here.held o.0 guard.region n stripe c (ap (λ (q : Option Function). region_in q o.0.0) there.function ∙ e) few (takes guard.region o.0 e c guard.guards)

      pub holds : holds_stripe n stripe k state ≡ true
      holds = let s = stands W th.top x does in holds_so s.0 s.1 s.2 s.3
