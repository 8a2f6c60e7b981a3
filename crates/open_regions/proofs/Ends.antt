-- A thread of weakened code at an access holds the stripes that its open regions want.
use Rattle.std.proofs.Common.{◌≡◌, ℕ, ◌+◌, ◌*◌, ◌<◌, ◌≤◌, true, false, List, length, refl, sym, ap, ◌∙◌, subst, arith, Option, Some, None}
use Rattle.std.specs.Prelude.{slice_get}
use Rattle.std.specs.List.{Contains}
use Rattle.std.proofs.lemmas.Option.{same_Some}
use Rattle.sync_objects.specs.Setup.{SetupView, IsWithinLimits}
use Rattle.word_semantics.specs.declared.event.Due.{Due}
use Rattle.word_semantics.specs.declared.event.Due.TheVariants as due
use Rattle.flow_code.specs.declared.act.Act.{Act}
use Rattle.flow_code.specs.declared.act.Act.TheVariants as act
use Rattle.flow_code.specs.declared.act.Instr.{Instr}
use Rattle.flow_code.specs.declared.code.Code.{Code}
use Rattle.flow_code.specs.declared.code.Function.{Function}
use Rattle.flow_code.specs.declared.region.Region.{Region}
use Rattle.flow_code.specs.declared.thread.Phase.TheVariants as phase
use Rattle.flow_code.specs.Holding.{has_stripe, nesting, region_in, region_of, to_give, give_or_quiet}
use Rattle.flow_code.specs.Next.{act_in, act_at, act_due, phase_due, due_of, action_of}
use Rattle.flow_code.specs.Regions.{region_fits}
use Rattle.flow_code.specs.Settle.{next, settled}
use Rattle.flow_code.specs.Stripes.{wants}
use Rattle.flow_code.specs.Threads.{OpenRegion, Thread, instr_in, instrs_in}
use Rattle.flow_code.specs.Valid.{is_valid}
use Rattle.flow_code.proofs.Counts.{settled_keeps_all}
use Rattle.flow_code.proofs.Dues.{IsAccess, access_by_code}
use Rattle.flow_code.proofs.Settle.{action_is}
use Rattle.flow_code.proofs.Runnable.{valid_runnable}
use Rattle.flow_code.proofs.ValidParts.{each, few_locks, function_is_fit, regions_are_fit}
use Rattle.facts.specs.declared.pair.Pair.{Pair}
use Rattle.profiles.specs.declared.profile.Profile.{Profile}
use Rattle.facts.specs.PointsTo.{Tables}
use Rattle.weak_lock_facts.specs.declared.grain.Grained.{Grained}
use Rattle.weak_lock_facts.specs.declared.range.Range.{Range}
use Rattle.weak_lock_facts.specs.Grains.{AreGrains}
use Rattle.weak_lock_facts.specs.Ranges.{ranges_of}
use Rattle.weak_code.specs.Stripped.{is_plain}
use Rattle.weak_code.specs.Weakened.{weakened}
use Rattle.weak_valid.specs.Apart.{loops_are_apart}
use Rattle.guard_paths.specs.LoopsClosed.{loops_are_closed}
use Rattle.guard_paths.specs.Walked.{Opening}
use Rattle.guard_paths.specs.Ways.{Way}
use Rattle.guard_paths.proofs.Covered.{returns_give_all, opened_once}
use Rattle.guard_paths.proofs.Guarded.{In, in_contains, contains_in}
use Rattle.guard_paths.proofs.Holdings.{GiveAll, some_many}
use Rattle.guard_paths.proofs.Opened.{nesting_many}
use Rattle.core_run.specs.Histories.{IsReachable}
use Rattle.core_run.specs.Machine.{Told}
use Rattle.run_theory.specs.Steps.{State}
use Rattle.lock_ownership.specs.Holders.{holds_stripe}
use Rattle.lock_ownership.specs.ThreadStripes.{IsOfMemory}
use Rattle.lock_ownership.proofs.Accesses.{access_holds}
use Rattle.open_regions.specs.OpenStripes.{is_exit, HoldsItsOpen}
use Rattle.open_regions.proofs.Walking.{OpenOnce, times_in}
use Rattle.open_regions.proofs.Promises.{promised, promised_library, HoldsBy}
use Rattle.open_regions.proofs.Steps.{reached_held}
use Rattle.open_regions.proofs.Machines.{all_reached, settled_reached}
use Rattle.open_regions.proofs.Wanted.{wanted_has}

-- ---- what is known of weakened code

instr_act : (W : Code) (f w : ℕ) (a : Act) → act_in (instr_in (slice_get W.functions f) w) ≡ Some a → (weak : Function) × (i : Instr) × (slice_get W.functions f ≡ Some weak) × (slice_get weak.instrs w ≡ Some i) × (i.act ≡ a)
instr_act W f w a e = by (slice_get W.functions f) refl e
  where
    in_function : (weak : Function) (o : Option Instr) → slice_get W.functions f ≡ Some weak → slice_get weak.instrs w ≡ o → act_in o ≡ Some a → (weak : Function) × (i : Instr) × (slice_get W.functions f ≡ Some weak) × (slice_get weak.instrs w ≡ Some i) × (i.act ≡ a)
    in_function weak None g h e = cc
    in_function weak (Some i) g h e = (weak, i, g, h, same_Some i.act a e)

    by : (o : Option Function) → slice_get W.functions f ≡ o → act_in (instr_in o w) ≡ Some a → (weak : Function) × (i : Instr) × (slice_get W.functions f ≡ Some weak) × (slice_get weak.instrs w ≡ Some i) × (i.act ≡ a)
    by None g e = cc
    by (Some weak) g e = in_function weak (slice_get weak.instrs w) g refl e

region_fit : (W : Code) → is_valid W ≡ true → (f n : ℕ) (r : Region) → region_in (slice_get W.functions f) n ≡ Some r → (fn : Function) × (region_fits W fn r ≡ true)
region_fit W valid f n r e = by (slice_get W.functions f) refl e
  where
    by : (o : Option Function) → slice_get W.functions f ≡ o → region_in o n ≡ Some r → (fn : Function) × (region_fits W fn r ≡ true)
    by None g e = cc
    by (Some fn) g e = (fn, each (region_fits W fn) fn.regions n r (regions_are_fit W fn (function_is_fit W valid f fn g)) e)

-- ---- where an access comes next

at_access : (o : Option Act) (os : List Opening) → is_exit o ≡ false → ((r : ℕ) → o ≡ Some (act.Give r) → ⊥) → promised o os ≡ os
at_access (Some (act.Give r)) os e g = absurd (g r refl)
at_access (Some (act.Library c arguments into)) os e g = promised_library c arguments into os e
at_access _ os e g = refl

module _ (W : Code) (s : SetupView) (t : ℕ) (q : Thread) (runs : q.phase ≡ phase.Running) where
  access_of : (d : Due) → IsOfMemory (action_of d) → IsAccess d
  access_of (due.Load c) h = h
  access_of (due.Store c w) h = h
  access_of due.Mark h = h
  access_of _ h = absurd h

  -- a Give makes no access
  not_give : (r : ℕ) → IsOfMemory (action_of (due_of W s t q)) → act_at W q.top ≡ Some (act.Give r) → ⊥
  not_give r h e = by (to_give W q r) (sym (ap (phase_due W s t q) runs ∙ ap (act_due W s t q) e) ∙ (access_by_code W s t q (due_of W s t q) (access_of (due_of W s t q) h) refl).0)
    where
      by : (o : Option (ℕ × ℕ)) → give_or_quiet o ≡ due_of W s t q → ⊥
      by None e = subst (λ d. IsOfMemory (action_of d)) (sym e) h
      by (Some x) e = subst (λ d. IsOfMemory (action_of d)) (sym e) h

module _ (code : Code) (t : Tables) (vs : List Pair) (rs : List Range) (profile : Profile) (rows : List Grained) (valid : is_valid code ≡ true) (plain : is_plain code ≡ true) (apart : loops_are_apart code ≡ true) (closed : loops_are_closed code ≡ true) (ranges : rs ≡ ranges_of code t) (grains : AreGrains code vs rs profile rows) where
  abbrev W : Code
  W = weakened code t vs rs rows

  give_all : GiveAll W
  give_all f w os value way at =
      let i = instr_act W f w (act.Return value) at in
      returns_give_all code t vs rs profile rows valid plain apart closed ranges grains f i.0 w os i.1 value i.2 (subst (λ o. Way (instrs_in o) w os) i.2 way) i.3 i.4

  once : OpenOnce W
  once f w os q way at le =
      let i = instr_act W f w (act.Take q) at in
      opened_once code t vs rs profile rows valid plain apart closed ranges grains f i.0 w os i.1 q i.2 (subst (λ o. Way (instrs_in o) w os) i.2 way) i.3 i.4 (in_contains q os (times_in q os le))

  pub open_stripes : is_valid W ≡ true → (setup : SetupView) (state : State Told) (k : ℕ) (told : Told) → IsWithinLimits setup → IsReachable W setup state → slice_get state.threads k ≡ Some told → told.thread.phase ≡ phase.Running → IsOfMemory (next W setup k told.thread) → is_exit (act_at W (settled W setup k told.thread).top) ≡ false → HoldsItsOpen W setup k state (settled W setup k told.thread)
  open_stripes fits setup state k told limits reached at runs comes stays = record { opened = h.top.opened; walked = h.top.walked; held = held }
    where
      q : Thread
      q = settled W setup k told.thread

      running : q.phase ≡ phase.Running
      running = (settled_keeps_all W setup k told.thread).phase ∙ runs

      h : HoldsBy W setup q
      h = reached_held W setup k once give_all {th = q} (settled_reached W setup k told.thread (all_reached W setup state reached k told at)) running

      same : promised (act_at W q.top) h.top.opened ≡ h.top.opened
      same = at_access (act_at W q.top) h.top.opened stays (λ r e. not_give W setup k q running r (subst IsOfMemory (action_is W setup k q) comes) e)

      held : (x : Opening) (r : Region) (lock stripe : ℕ) → Contains h.top.opened x → region_of W q.top x.0 ≡ Some r → stripe < 8 → wants W x.1 r lock stripe ≡ true → holds_stripe lock stripe k state ≡ true
      held x r lock stripe c re small w =
          let fn = region_fit W fits q.top.function x.0 r re in
          let few : length W.locks ≤ 65536 = omega (arith, few_locks W fits) in
          let y = h.top.has x (subst (λ z. In x z) (sym same) (contains_in x h.top.opened c)) r (8 * lock + stripe) re (wanted_has W fn.0 x.1 r lock stripe few fn.1 small w) in
          let n : 0 < nesting q.regions (8 * lock + stripe) = omega (arith, nesting_many q.regions (8 * lock + stripe), some_many (λ (z : OpenRegion). has_stripe z.stripes (8 * lock + stripe)) q.regions y.0 y.1 y.3) in
          access_holds W setup (valid_runnable W fits) limits state k told lock stripe reached at comes small n
