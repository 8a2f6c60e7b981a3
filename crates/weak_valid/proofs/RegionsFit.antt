-- The regions of a weakened function.
use Rattle.std.proofs.Common.{◌≡◌, ℕ, zero, suc, ◌+◌, ◌-◌, ◌≤◌, ◌&&◌, Bool, true, false, ℤ, pos, List, [], ◌∷◌, ◌++◌, length, map, refl, ap, ◌∙◌, subst, arith, eqb-true, leb-true, Option, Some, None, option_map, option_and_then}
use Rattle.std.specs.Prelude.{slice_get, if◌then◌else◌, nat_le, ◌==◌, int_lt}
use Rattle.std.specs.List.{list_all, filter_map}
use Rattle.std.proofs.lemmas.Option.{same_Some}
use Rattle.rr_base.specs.Words.{site_of}
use Rattle.word_semantics.specs.declared.library_call.LibraryCall.{LibraryCall}
use Rattle.word_semantics.specs.declared.library_call.LibraryCall.TheVariants as call
use Rattle.flow_code.specs.declared.act.Act.{Act}
use Rattle.flow_code.specs.declared.act.Act.TheVariants as act
use Rattle.flow_code.specs.declared.act.Instr.{Instr}
use Rattle.flow_code.specs.declared.code.Code.{Code}
use Rattle.flow_code.specs.declared.code.Function.{Function}
use Rattle.flow_code.specs.declared.code.LockInfo.{LockInfo}
use Rattle.flow_code.specs.declared.code.LoopInfo.{LoopInfo}
use Rattle.flow_code.specs.declared.region.Base.TheVariants as base
use Rattle.flow_code.specs.declared.region.Bound.{Bound}
use Rattle.flow_code.specs.declared.region.Bound.TheVariants as bound
use Rattle.flow_code.specs.declared.region.Region.{Region}
use Rattle.flow_code.specs.declared.region.Region.TheVariants as region
use Rattle.flow_code.specs.declared.region.Span.{Span}
use Rattle.flow_code.specs.declared.work.Work.TheVariants as work
use Rattle.flow_code.specs.Next.{act_in}
use Rattle.flow_code.specs.Order.{is_mark}
use Rattle.flow_code.specs.Addresses.{is_address}
use Rattle.flow_code.specs.Kinds.{has_register, has_pointer, has_whole, have_kinds, starts_fit, library_value_fits, act_fits}
use Rattle.word_semantics.specs.Kinds.{library_kinds}
use Rattle.flow_code.specs.Regions.{ascend, are_locks, locks_fit, base_fits, bound_is_whole, span_fits, spans_fit, region_fits}
use Rattle.flow_code.specs.Threads.{Object, object_of, and_objects, objects_of}
use Rattle.facts.specs.Accesses.{Access, access_of}
use Rattle.weak_lock_facts.specs.declared.grain.Grain.TheVariants as grain
use Rattle.weak_lock_facts.specs.Loops.{nth, is_jump, adds_itself, last_part_at, condition_end, are_numbers, has_places, begins_so, tested, is_branch, raised, is_copy, is_any_copy, ends_so, has_form, keeps_numbers, is_entered_so, is_counted}
use Rattle.weak_code.specs.declared.stretch.RacyAccess.{RacyAccess}
use Rattle.weak_code.specs.declared.stretch.Stretch.{Stretch}
use Rattle.weak_lock_facts.specs.Ranges.{last_maker, maker_at, made_at}
use Rattle.weak_code.specs.Stretches.{same_grain, with_grain, all_locks, last_of, function_stretch, moved_from, origin_of, origin_after, base_after, element_base, span_with, span_of, spans_of, loop_stretch, loop_stretches, block_stretch, block_from, block_stretches, access_stretch, access_stretches, stretches_of}
use Rattle.weak_valid.proofs.Tests.{both, two}
use Rattle.weak_valid.proofs.OrderFits.{IsAfter, AreAfter}
use Rattle.weak_valid.proofs.ActsFit.{function_with, code_with}
use Rattle.weak_valid.proofs.AddressesFit.{address_global}
use Rattle.weak_valid.proofs.Accesses.{Each, each_append, each_filter, each_at, each_filter_map, AreLocks, all_are, IsFit, grain_at}

-- ---- after a function's objects

pub past_objects : (is : List Instr) (k : ℕ) (i : Instr) → slice_get is k ≡ Some i → object_of i.act ≡ None → length (objects_of is) ≤ k
past_objects [] k i h n = cc
past_objects (x ∷ is) zero i h n = let e : object_of x.act ≡ None = ap (λ (z : Instr). object_of z.act) (same_Some x i h) ∙ n in omega (arith, ap (λ o. length (and_objects o (objects_of is))) e)
past_objects (x ∷ is) (suc k) i h n = go (object_of x.act) (past_objects is k i h n)
  where
    go : (o : Option Object) → length (objects_of is) ≤ k → length (and_objects o (objects_of is)) ≤ suc k
    go None le = omega arith
    go (Some o) le = omega arith

few_objects : (is : List Instr) → length (objects_of is) ≤ length is
few_objects [] = omega arith
few_objects (i ∷ is) = go (object_of i.act) (few_objects is)
  where
    go : (o : Option Object) → length (objects_of is) ≤ length is → length (and_objects o (objects_of is)) ≤ suc (length is)
    go None le = omega arith
    go (Some o) le = omega arith

pub access_object : (a : Act) (x : Access) → access_of a ≡ Some x → object_of a ≡ None
access_object (act.Alloc into site size) x h = cc
access_object _ x h = refl

mark_after : (is : List Instr) (k : ℕ) → is_mark (nth is k) ≡ true → length (objects_of is) ≤ k
mark_after is k h = go (slice_get is k) refl h
  where
    object : (a : Act) → is_mark (Some a) ≡ true → object_of a ≡ None
    object (act.Alloc into site size) h = cc
    object _ h = refl

    go : (o : Option Instr) → slice_get is k ≡ o → is_mark (act_in o) ≡ true → length (objects_of is) ≤ k
    go None e h = cc
    go (Some i) e h = past_objects is k i e (object i.act h)

jump_after : (is : List Instr) (to k : ℕ) → is_jump to (nth is k) ≡ true → length (objects_of is) ≤ k
jump_after is to k h = go (slice_get is k) refl h
  where
    object : (a : Act) → is_jump to (Some a) ≡ true → object_of a ≡ None
    object (act.Alloc into site size) h = cc
    object _ h = refl

    go : (o : Option Instr) → slice_get is k ≡ o → is_jump to (act_in o) ≡ true → length (objects_of is) ≤ k
    go None e h = cc
    go (Some i) e h = past_objects is k i e (object i.act h)

-- ---- counted loops

pub record IsLoop (fn : Function) (l : LoopInfo) : Type 0 where
  pub counter : has_whole fn l.counter ≡ true
  pub bound : bound_is_whole fn l.bound ≡ true
  pub begins : is_mark (nth fn.instrs l.at) ≡ true
  pub ends : is_jump l.at (nth fn.instrs (l.last + 1)) ≡ true
  pub long : l.at ≤ l.last
  pub entered : is_entered_so fn.instrs l ≡ true

last_part_within : (is : List Instr) (l : LoopInfo) → last_part_at is l ≤ l.last
last_part_within is l = by (adds_itself is l)
  where
    by : (b : Bool) → (if b then l.last - 3 else l.last - 4) ≤ l.last
    by true = omega arith
    by false = omega arith

pub counted_loop : (fn : Function) (l : LoopInfo) → is_counted fn l ≡ true → IsLoop fn l
counted_loop fn l h =
    let a = both (are_numbers fn l && has_form fn.instrs l && keeps_numbers fn.instrs l) (is_entered_so fn.instrs l) h in
    let b = both (are_numbers fn l && has_form fn.instrs l) (keeps_numbers fn.instrs l) a.0 in
    let c = both (are_numbers fn l) (has_form fn.instrs l) b.0 in
    let d = both (has_whole fn l.counter && bound_is_whole fn l.bound) (int_lt (pos 0) l.step) c.0 in
    let e = both (has_whole fn l.counter) (bound_is_whole fn l.bound) d.0 in
    let f = both (has_places fn.instrs l && begins_so fn.instrs l) (ends_so fn.instrs l) c.1 in
    let g = both (has_places fn.instrs l) (begins_so fn.instrs l) f.0 in
    let p = both (l.first == condition_end l + 1) (nat_le l.first (last_part_at fn.instrs l)) g.0 in
    let q = both (is_mark (nth fn.instrs l.at)) (is_branch (tested fn.instrs l) l.first (l.last + 2) (nth fn.instrs (condition_end l))) g.1 in
    let r = both (is_copy (raised fn.instrs l) l.counter (nth fn.instrs (l.last - 1)) && is_any_copy (nth fn.instrs l.last)) (is_jump l.at (nth fn.instrs (l.last + 1))) f.1 in
    record { counter = e.0; bound = e.1; begins = q.0; ends = r.1; long = omega (arith, eqb-true l.first (condition_end l + 1) p.0, leb-true l.first (last_part_at fn.instrs l) p.1, last_part_within fn.instrs l); entered = a.1 }

-- ---- pointers

library_pointer : (code : Code) (fn : Function) (c : LibraryCall) (arguments : List ℕ) (into : Option ℕ) (x : Access) → act_fits code fn (act.Library c arguments into) ≡ true → access_of (act.Library c arguments into) ≡ Some x → has_pointer fn x.through ≡ true
library_pointer code fn (call.Create g) (thread ∷ argument ∷ []) into x h e =
    let a = both (starts_fit code (call.Create g) && have_kinds fn (thread ∷ argument ∷ []) (library_kinds (call.Create g))) (library_value_fits fn into (call.Create g)) h in
    let b = both (starts_fit code (call.Create g)) (have_kinds fn (thread ∷ argument ∷ []) (library_kinds (call.Create g))) a.0 in
    let t : thread ≡ x.through = ap (λ (z : Access). z.through) (same_Some (record { store = true; through = thread }) x e) in
    subst (λ z. has_pointer fn z ≡ true) t (both (has_pointer fn thread) (has_pointer fn argument && true) b.1).0
library_pointer code fn call.Join (thread ∷ to ∷ []) into x h e =
    let a = both (starts_fit code call.Join && have_kinds fn (thread ∷ to ∷ []) (library_kinds call.Join)) (library_value_fits fn into call.Join) h in
    let b = both (starts_fit code call.Join) (have_kinds fn (thread ∷ to ∷ []) (library_kinds call.Join)) a.0 in
    let t : to ≡ x.through = ap (λ (z : Access). z.through) (same_Some (record { store = true; through = to }) x e) in
    subst (λ z. has_pointer fn z ≡ true) t (both (has_pointer fn to) true (both (has_whole fn thread) (has_pointer fn to && true) b.1).1).0
library_pointer code fn _ _ into x h e = cc

pub access_pointer : (code : Code) (fn : Function) (a : Act) (x : Access) → act_fits code fn a ≡ true → access_of a ≡ Some x → has_pointer fn x.through ≡ true
access_pointer code fn (act.LoadCell into through) x h e = subst (λ (z : Access). has_pointer fn z.through ≡ true) (same_Some (record { store = false; through = through }) x e) (both (has_register fn into) (has_pointer fn through) h).1
access_pointer code fn (act.StoreCell through from) x h e = subst (λ (z : Access). has_pointer fn z.through ≡ true) (same_Some (record { store = true; through = through }) x e) (both (has_pointer fn through) (has_register fn from) h).0
access_pointer code fn (act.Library c arguments into) x h e = library_pointer code fn c arguments into x h e
access_pointer code fn _ x h e = cc

-- an instruction that does this
abbrev Does : List Instr → Act → Type 0
Does is a = (j : ℕ) × (i : Instr) × (slice_get is j ≡ Some i) × (i.act ≡ a)

-- what stands at a place is what an instruction does
does_at : (is : List Instr) (k : ℕ) (a : Act) → act_in (slice_get is k) ≡ Some a → Does is a
does_at is k a h = by (slice_get is k) refl h
  where
    by : (o : Option Instr) → slice_get is k ≡ o → act_in o ≡ Some a → Does is a
    by None e h = cc
    by (Some i) e h = (k, i, e, same_Some i.act a h)

made_does : (is : List Instr) (k r : ℕ) (a : Act) → made_at is k r ≡ Some a → Does is a
made_does is k r a h = by (maker_at is k r) h
  where
    by : (o : Option ℕ) → option_and_then (λ m. act_in (slice_get is m)) o ≡ Some a → Does is a
    by None e = cc
    by (Some m) e = does_at is m a e

-- ---- the regions of one function

module _ (code : Code) (fns : List Function) (locks : List LockInfo)
    (fn : Function) (acts : (k : ℕ) (i : Instr) → slice_get fn.instrs k ≡ Some i → act_fits code fn i.act ≡ true)
    (is : List Instr) (ls : List LoopInfo) (rs : List Region) where
  abbrev Weak : Code
  Weak = code_with code fns locks

  abbrev New : Function
  New = function_with fn is ls rs

  does_fit : (a : Act) → Does fn.instrs a → act_fits code fn a ≡ true
  does_fit a d = subst (λ z. act_fits code fn z ≡ true) d.3 (acts d.0 d.1 d.2)

  addressed : (into w : ℕ) → Does fn.instrs (act.Compute into (work.Address w)) → base_fits Weak New (base.Site (site_of w)) ≡ true
  addressed into w d = address_global code w (both (has_pointer fn into) (is_address code w) (does_fit (act.Compute into (work.Address w)) d)).1

  origin_fits : (r : ℕ) (o : Option Act) → has_pointer fn r ≡ true → ((a : Act) → o ≡ Some a → Does fn.instrs a) → base_fits Weak New (origin_of r o) ≡ true
  origin_fits r (Some (act.Compute into (work.Address w))) p d = addressed into w (d (act.Compute into (work.Address w)) refl)
  origin_fits r _ p d = p

  after_fits : (q through : ℕ) (o : Option Act) → has_pointer fn through ≡ true → ((a : Act) → o ≡ Some a → Does fn.instrs a) → base_fits Weak New (origin_after fn.instrs q through (moved_from o)) ≡ true
  after_fits q through (Some (act.Compute into (work.Move pointer by element back))) p d =
      let w = does_fit (act.Compute into (work.Move pointer by element back)) (d (act.Compute into (work.Move pointer by element back)) refl) in
      let v = both (has_pointer fn into && has_pointer fn pointer && has_whole fn by) (nat_le 1 element) w in
      let u = both (has_pointer fn into && has_pointer fn pointer) (has_whole fn by) v.0 in
      origin_fits pointer (made_at fn.instrs q pointer) (both (has_pointer fn into) (has_pointer fn pointer) u.0).1 (λ a e. made_does fn.instrs q pointer a e)
  after_fits q through _ p d = p

  element_fits : (k through : ℕ) → has_pointer fn through ≡ true → base_fits Weak New (element_base fn.instrs k through) ≡ true
  element_fits k through p = by (last_maker fn.instrs k through)
    where
      by : (o : Option ℕ) → base_fits Weak New (base_after fn.instrs through o) ≡ true
      by None = p
      by (Some q) = after_fits q through (act_in (slice_get fn.instrs q)) p (λ a e. does_at fn.instrs q a e)

  fit_pointer : (a : RacyAccess) → IsFit fn (length locks) a → has_pointer fn a.through ≡ true
  fit_pointer a h = subst (λ z. has_pointer fn z ≡ true) h.through (access_pointer code fn h.instr.act h.access (acts a.instr h.instr h.at) h.is)

  -- ---- one region

  abbrev IsRight : Stretch → Type 0
  IsRight s = IsAfter (length (objects_of fn.instrs)) s × (region_fits Weak New s.region ≡ true)

  fit_locks : (xs : List ℕ) → AreLocks (length locks) xs → locks_fit Weak xs ≡ true
  fit_locks xs h = two (ascend xs) (are_locks Weak xs) h.0 h.1

  their_locks : (accesses : List RacyAccess) → Each (IsFit fn (length locks)) accesses → Each (λ a. AreLocks (length locks) a.locks) accesses
  their_locks [] h = tt
  their_locks (a ∷ more) h = (h.0.locks, their_locks more h.1)

  fit_after : (a : RacyAccess) → IsFit fn (length locks) a → length (objects_of fn.instrs) ≤ a.instr
  fit_after a h = past_objects fn.instrs a.instr h.instr h.at (access_object h.instr.act h.access h.is)

  function_right : (accesses : List RacyAccess) → Each (IsFit fn (length locks)) accesses → Each IsRight (function_stretch fn accesses)
  function_right [] h = tt
  function_right (a ∷ more) h = (((omega arith, omega (arith, few_objects fn.instrs)), fit_locks (all_locks (a ∷ more)) (all_are (length locks) (a ∷ more) (their_locks (a ∷ more) h))), tt)

  span_right : (a : RacyAccess) (z : ℤ) → IsFit fn (length locks) a → span_fits Weak New (span_with fn.instrs a z) ≡ true
  span_right a z h = two (base_fits Weak New (element_base fn.instrs a.instr a.through)) (locks_fit Weak a.locks) (element_fits a.instr a.through (fit_pointer a h)) (fit_locks a.locks h.locks)

  spans_right : (accesses : List RacyAccess) → Each (IsFit fn (length locks)) accesses → Each (λ s. span_fits Weak New s ≡ true) (filter_map (span_of fn.instrs) accesses)
  spans_right accesses h = each_filter_map (λ s. span_fits Weak New s ≡ true) (span_of fn.instrs) accesses (λ k a s g e. go a (each_at (IsFit fn (length locks)) accesses k a h g) a.shift s e)
    where
      go : (a : RacyAccess) → IsFit fn (length locks) a → (o : Option ℤ) (s : Span) → option_map (span_with fn.instrs a) o ≡ Some s → span_fits Weak New s ≡ true
      go a h None s e = cc
      go a h (Some z) s e = subst (λ x. span_fits Weak New x ≡ true) (same_Some (span_with fn.instrs a z) s e) (span_right a z h)

  all_spans : (spans : List Span) → Each (λ s. span_fits Weak New s ≡ true) spans → spans_fit Weak New spans ≡ true
  all_spans [] h = refl
  all_spans (s ∷ spans) h = two (span_fits Weak New s) (spans_fit Weak New spans) h.0 (all_spans spans h.1)

  bound_same : (b : Bound) → bound_is_whole fn b ≡ true → bound_is_whole New b ≡ true
  bound_same (bound.Number z) h = refl
  bound_same (bound.Register r) h = h

  -- the loop is counted where it has spans
  loop_right : (l : LoopInfo) (spans : List Span) (s : Stretch) → ((x : Span) → slice_get spans 0 ≡ Some x → is_counted fn l ≡ true) → Each (λ s. span_fits Weak New s ≡ true) spans → loop_stretch l spans ≡ Some s → IsRight s
  loop_right l [] s c h e = cc
  loop_right l (x ∷ spans) s c h e =
      let k = counted_loop fn l (c x refl) in
      subst IsRight (same_Some (record { first = l.at; last = l.last + 1; region = region.Ranged l.counter l.bound (x ∷ spans) }) s e) (
        (mark_after fn.instrs l.at k.begins, (let q = jump_after fn.instrs l.at (l.last + 1) k.ends in omega arith)),
        two (has_whole fn l.counter && bound_is_whole New l.bound) (spans_fit Weak New (x ∷ spans)) (two (has_whole fn l.counter) (bound_is_whole New l.bound) k.counter (bound_same l.bound k.bound)) (all_spans (x ∷ spans) h),
      )

  first_span : (xs : List RacyAccess) (x : Span) → slice_get (filter_map (span_of fn.instrs) xs) 0 ≡ Some x → (a : RacyAccess) × (slice_get xs 0 ≡ Some a)
  first_span [] x h = cc
  first_span (a ∷ xs) x h = (a, refl)

  loops_right : (accesses : List RacyAccess) → Each (IsFit fn (length locks)) accesses → Each IsRight (loop_stretches fn accesses)
  loops_right accesses h = each_filter_map IsRight (λ l. loop_stretch l (spans_of fn.instrs l.at accesses)) fn.loops (λ k l s g e. loop_right l (spans_of fn.instrs l.at accesses) s (λ x q. counted k l g x q) (spans_right (with_grain (grain.Loop l.at) accesses) (each_filter (IsFit fn (length locks)) (λ a. same_grain (grain.Loop l.at) a.grain) accesses h)) e)
    where
      counted : (k : ℕ) (l : LoopInfo) → slice_get fn.loops k ≡ Some l → (x : Span) → slice_get (spans_of fn.instrs l.at accesses) 0 ≡ Some x → is_counted fn l ≡ true
      counted k l g x q =
          let s = first_span (with_grain (grain.Loop l.at) accesses) x q in
          let r = grain_at (grain.Loop l.at) accesses 0 s.0 s.1 in
          (each_at (IsFit fn (length locks)) accesses r.0 s.0 h r.1).counted k l g r.2

  last_after : (n : ℕ) (accesses : List RacyAccess) → length (objects_of fn.instrs) ≤ n → Each (IsFit fn (length locks)) accesses → length (objects_of fn.instrs) ≤ last_of n accesses
  last_after n [] le h = le
  last_after n (a ∷ more) le h = last_after a.instr more (fit_after a h.0) h.1

  block_right : (accesses : List RacyAccess) (a : RacyAccess) (s : Stretch) → Each (IsFit fn (length locks)) accesses → IsFit fn (length locks) a → block_from accesses a ≡ Some s → IsRight s
  block_right accesses a s h g e = go (same_grain (grain.Block a.instr) a.grain) e
    where
      part : Each (IsFit fn (length locks)) (with_grain (grain.Block a.instr) accesses)
      part = each_filter (IsFit fn (length locks)) (λ b. same_grain (grain.Block a.instr) b.grain) accesses h

      go : (b : Bool) → (if b then Some (block_stretch a.instr (with_grain (grain.Block a.instr) accesses)) else None) ≡ Some s → IsRight s
      go false e = cc
      go true e =
          subst IsRight (same_Some (block_stretch a.instr (with_grain (grain.Block a.instr) accesses)) s e) (
            (fit_after a g, (let q = last_after a.instr (with_grain (grain.Block a.instr) accesses) (fit_after a g) part in omega arith)),
            fit_locks (all_locks (with_grain (grain.Block a.instr) accesses)) (all_are (length locks) (with_grain (grain.Block a.instr) accesses) (their_locks (with_grain (grain.Block a.instr) accesses) part)),
          )

  blocks_right : (accesses : List RacyAccess) → Each (IsFit fn (length locks)) accesses → Each IsRight (block_stretches accesses)
  blocks_right accesses h = each_filter_map IsRight (block_from accesses) accesses (λ k a s g e. block_right accesses a s h (each_at (IsFit fn (length locks)) accesses k a h g) e)

  access_right : (a : RacyAccess) → IsFit fn (length locks) a → IsRight (access_stretch a)
  access_right a h = ((fit_after a h, (let q = fit_after a h in omega arith)), two (has_pointer fn a.through) (locks_fit Weak a.locks) (fit_pointer a h) (fit_locks a.locks h.locks))

  alone_right : (accesses : List RacyAccess) → Each (IsFit fn (length locks)) accesses → Each IsRight (map access_stretch accesses)
  alone_right [] h = tt
  alone_right (a ∷ more) h = (access_right a h.0, alone_right more h.1)

  -- ---- all of them

  pub stretches_right : (accesses : List RacyAccess) → Each (IsFit fn (length locks)) accesses → Each IsRight (stretches_of fn accesses)
  stretches_right accesses h =
      each_append IsRight (function_stretch fn (with_grain grain.Function accesses)) (loop_stretches fn accesses ++ (block_stretches accesses ++ access_stretches accesses))
      (function_right (with_grain grain.Function accesses) (each_filter (IsFit fn (length locks)) (λ a. same_grain grain.Function a.grain) accesses h))
      (each_append IsRight (loop_stretches fn accesses) (block_stretches accesses ++ access_stretches accesses) (loops_right accesses h)
      (each_append IsRight (block_stretches accesses) (access_stretches accesses) (blocks_right accesses h)
      (alone_right (with_grain grain.Instruction accesses) (each_filter (IsFit fn (length locks)) (λ a. same_grain grain.Instruction a.grain) accesses h))))

  pub regions_right : (ss : List Stretch) → Each IsRight ss → (AreAfter (length (objects_of fn.instrs)) ss) × (list_all (region_fits Weak New) (map (λ s. s.region) ss) ≡ true)
  regions_right [] h = (tt, refl)
  regions_right (s ∷ ss) h = let r = regions_right ss h.1 in ((h.0.0, r.0), two (region_fits Weak New s.region) (list_all (region_fits Weak New) (map (λ s. s.region) ss)) h.0.1 r.1)
