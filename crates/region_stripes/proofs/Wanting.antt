-- A loop's region wants the stripe of each cell that its accesses touch.
use Rattle.std.proofs.Common.{◌≡◌, ℕ, ◌+◌, ◌≤◌, true, ℤ, ◌+ℤ◌, List, length, map, refl, sym, ap, ◌∙◌, subst, arith, Some, Ok}
use Rattle.std.specs.Prelude.{slice_get, if◌then◌else◌, nat_le, ◌==◌, ◌%◌, ◌^◌, ◌≤ℤ◌, ◌<ℤ◌, option_map}
use Rattle.std.specs.List.{Contains}
use Rattle.std.specs.Option.{option_and_then}
use Rattle.std.proofs.lemmas.Bool.Decides.{nat_tests}
use Rattle.std.proofs.lemmas.Option.{same_Some}
use Rattle.rr_base.specs.Words.{site_of, length_of, offset_of}
use Rattle.rr_base.specs.declared.layout.Site.{Site}
use Rattle.flow_code.specs.declared.act.Act.{Act}
use Rattle.flow_code.specs.declared.code.Code.{Code}
use Rattle.flow_code.specs.declared.code.Function.{Function}
use Rattle.flow_code.specs.declared.code.LoopInfo.{LoopInfo}
use Rattle.flow_code.specs.declared.region.Base.{Base}
use Rattle.flow_code.specs.declared.region.Base.TheVariants as base
use Rattle.flow_code.specs.declared.region.Bound.{Bound}
use Rattle.flow_code.specs.declared.region.Region.TheVariants as region
use Rattle.flow_code.specs.declared.region.Span.{Span}
use Rattle.flow_code.specs.Constants.{constants_fit}
use Rattle.flow_code.specs.Next.{act_in}
use Rattle.flow_code.specs.Stripes.{guards, base_word, points_to_cell, among, range_wants, span_wants, bound_of, wants}
use Rattle.flow_code.specs.Valid.{is_valid}
use Rattle.word_semantics.specs.Cells.{size_of}
use Rattle.word_semantics.specs.Operators.{based}
use Rattle.word_semantics.specs.Pointers.{known, pointer_at, moved_by}
use Rattle.word_semantics.specs.Registers.{register}
use Rattle.word_semantics.specs.Values.{number}
use Rattle.facts.specs.declared.pair.Pair.{Pair}
use Rattle.profiles.specs.declared.profile.Profile.{Profile}
use Rattle.facts.specs.Accesses.{access_of}
use Rattle.facts.specs.PointsTo.{Tables}
use Rattle.weak_lock_facts.specs.declared.grain.Grain.TheVariants as grain
use Rattle.weak_lock_facts.specs.declared.grain.Grained.{Grained}
use Rattle.weak_lock_facts.specs.declared.range.Range.{Range}
use Rattle.weak_lock_facts.specs.Grains.{AreGrains}
use Rattle.weak_lock_facts.specs.Loops.{nth}
use Rattle.weak_lock_facts.specs.Ranges.{pointer_of, ranges_of}
use Rattle.weak_code.specs.declared.stretch.RacyAccess.{RacyAccess}
use Rattle.weak_code.specs.declared.stretch.Stretch.{Stretch}
use Rattle.weak_code.specs.Stretches.{racy_accesses, stretches_of, span_with, element_base}
use Rattle.weak_code.specs.Stripped.{is_plain}
use Rattle.weak_code.specs.WeakLocks.{places_in}
use Rattle.weak_code.specs.Weakened.{weakened_instrs, weakened_function, weakened}
use Rattle.loop_bounds.specs.Turns.{Setting}
use Rattle.loop_bounds.proofs.Borne.{borne_out}
use Rattle.weak_valid.specs.Apart.{loops_ascend, loops_are_apart}
use Rattle.weak_valid.proofs.Accesses.{Each, each_at, IsFit, accesses_fit}
use Rattle.weak_valid.proofs.CountedLoops.{one_at_mark, loop_found, loop_known, loops_are_counted}
use Rattle.weak_valid.proofs.Tests.{two, all_at, got_map}
use Rattle.guard_paths.specs.Guards.{IsLoopOf, Guards, IsSeat}
use Rattle.guard_paths.specs.LoopsClosed.{loops_are_closed}
use Rattle.guard_paths.specs.Walked.{Opening, Walked}
use Rattle.guard_paths.proofs.Closed.{row_grain}
use Rattle.guard_paths.proofs.Covered.{IsReady, plain_here, order_here, nested_here, weakened_at}
use Rattle.guard_paths.proofs.Guarded.{In, contains_in}
use Rattle.guard_paths.proofs.Nested.{any_at}
use Rattle.guard_paths.proofs.Spread.{HasRow, have_rows}
use Rattle.region_stripes.specs.InRange.{HasBase, IsInRange}
use Rattle.region_stripes.specs.Inside.{Inside}
use Rattle.region_stripes.specs.Settings.{IsSettingOf}
use Rattle.region_stripes.proofs.Fitting.{are_fit, address_here, IsAlike, address_alike}
use Rattle.region_stripes.proofs.Innermost.{round_it, same_mark}
use Rattle.region_stripes.proofs.Inward.{inside_long}
use Rattle.region_stripes.proofs.Ranged.{IsRangeOf, range_of, range_inside}
use Rattle.region_stripes.proofs.Regions.{of_some, IsFound, all_found, same_through}
use Rattle.region_stripes.proofs.Striped.{IsMovedTo, moved_is, known_same, range_has}
use Rattle.region_stripes.proofs.Walking.{inside_at}

known_is : (sites : List Site) (u : ℕ) → site_of u ≤ length sites → known sites u ≡ u
known_is sites u le = let t : nat_le (site_of u) (length sites) ≡ true = grind (arith, nat_tests, le) in ap (λ b. if b then u else u % 2 ^ 54) t

-- the base of a span is read as a pointer like the word from which the pointer was moved
base_alike : (code : Code) → is_valid code ≡ true → (f : ℕ) (fn : Function) → slice_get code.functions f ≡ Some fn → (s : Setting) → s.slots ≤ 16 → (start : List ℕ) (b : Base) (u : ℕ) → HasBase s fn.instrs start b u → IsAlike (base_word code.sites start b) (known code.sites u)
base_alike code valid f fn at s few start (base.Register r) u h = let e = ap (known code.sites) h in record { site = ap site_of (sym e); cells = ap length_of (sym e); offset = ap offset_of (sym e) }
base_alike code valid f fn at s few start (base.Site g) u h =
    let w = h.2 in
    let x = address_alike code valid s.slots w few (address_here code valid f fn at h.0 h.1 w h.3) in
    let right : known code.sites u ≡ based s.slots w = ap (known code.sites) h.5 ∙ known_is code.sites (based s.slots w) x.1 in
    let left : known code.sites (pointer_at (site_of w) 0 (size_of code.sites (site_of w))) ≡ pointer_at (site_of w) 0 (size_of code.sites (site_of w)) = known_is code.sites (pointer_at (site_of w) 0 (size_of code.sites (site_of w))) (subst (λ n. n ≤ length code.sites) (sym x.0.site) x.1) in
    let word : base_word code.sites start (base.Site g) ≡ pointer_at (site_of w) 0 (size_of code.sites (site_of w)) = ap (λ n. known code.sites (pointer_at n 0 (size_of code.sites n))) (sym h.4) ∙ left in
    record {
      site = ap site_of word ∙ x.0.site ∙ ap site_of (sym right);
      cells = ap length_of word ∙ x.0.cells ∙ ap length_of (sym right);
      offset = ap offset_of word ∙ x.0.offset ∙ ap offset_of (sym right);
    }

module _ (code : Code) (t : Tables) (vs : List Pair) (rs : List Range) (profile : Profile) (rows : List Grained) (ready : IsReady code t vs rs profile rows) (f : ℕ) (fn : Function) (at : slice_get code.functions f ≡ Some fn) (constants : constants_fit code ≡ true) where
  abbrev Own : List RacyAccess
  Own = racy_accesses code t (places_in vs) rs rows f

  abbrev Stretches : List Stretch
  Stretches = stretches_of fn Own

  own_fit : Each (IsFit fn (length (places_in vs))) Own
  own_fit = accesses_fit code t (places_in vs) rs rows (loops_are_counted code t vs rs profile rows ready.apart ready.ranges ready.grains) f fn at

  -- ---- the range of an access

  found_here : (k : ℕ) (r : Range) → IsFound code t r → r.function ≡ f → r.instr ≡ k → (x : Act) × (nth fn.instrs k ≡ Some x) × IsRangeOf f fn k x r
  found_here k r d e i =
      let o = range_of code t d.f d.fn d.k d.does r d.is in
      let f_is : d.f ≡ f = sym o.function ∙ e in
      let k_is : d.k ≡ k = sym o.instr ∙ i in
      let fn_is : d.fn ≡ fn = same_Some d.fn fn (sym d.at ∙ ap (slice_get code.functions) f_is ∙ at) in
      subst (λ (g : Function). (x : Act) × (nth g.instrs k ≡ Some x) × IsRangeOf f g k x r) fn_is
      (subst (λ n. (x : Act) × (nth d.fn.instrs n ≡ Some x) × IsRangeOf f d.fn n x r) k_is
      (subst (λ n. (x : Act) × (nth d.fn.instrs d.k ≡ Some x) × IsRangeOf n d.fn d.k x r) f_is (d.does, d.instr, o)))

  -- the range of an access that is guarded with a loop
  pub record HasRange (a : RacyAccess) (l : LoopInfo) (shift : ℤ) : Type 0 where
    pub range : Range
    pub does : Act
    pub instr : nth fn.instrs a.instr ≡ Some does
    pub is : IsRangeOf f fn a.instr does range
    pub mark : is.loop.at ≡ l.at
    pub shifts : range.shift ≡ shift
    pub through : is.through ≡ a.through

  has_range : (a : RacyAccess) → In a Own → (l : LoopInfo) (shift : ℤ) → a.grain ≡ grain.Loop l.at → a.shift ≡ Some shift → HasRange a l shift
  has_range a i l shift e d =
      let h = each_at (HasRow code t (places_in vs) rs rows f) Own i.0 a (have_rows code t (places_in vs) rs rows f) i.1 in
      let q = loop_found rs h.row.access l.at (loop_known code vs rs profile h.row.access l.at (row_grain code t (places_in vs) vs rs profile rows ready.grains f fn at a h (grain.Loop l.at) e)) in
      let found = each_at (IsFound code t) rs q.0 q.1 (subst (Each (IsFound code t)) (sym ready.ranges) (all_found code t)) q.2 in
      let z = found_here a.instr q.1 found (q.3 ∙ h.of) (q.5 ∙ ap (λ (y : RacyAccess). y.instr) (sym h.is)) in
      let fit = each_at (IsFit fn (length (places_in vs))) Own i.0 a own_fit i.1 in
      let same : z.0 ≡ fit.instr.act = same_Some z.0 fit.instr.act (sym z.1 ∙ ap act_in fit.at) in
      record {
        range = q.1;
        does = z.0;
        instr = z.1;
        is = z.2;
        mark = sym z.2.mark ∙ q.4;
        shifts = same_Some q.1.shift shift (sym (ap (λ (y : RacyAccess). y.shift) h.is ∙ ap (option_map (λ (y : Range). y.shift)) q.6) ∙ d);
        through = same_through z.0 fit.access z.2.through z.2.accesses (ap access_of same ∙ fit.is) ∙ fit.through;
      }

  -- ---- the region

  ascends : loops_ascend fn.loops ≡ true
  ascends = all_at (λ (g : Function). loops_ascend g.loops) code.functions f fn ready.apart at

  module _ (s : Setting) (of : IsSettingOf code fn s) (registers : List ℕ) (enough : fn.registers ≤ length registers) where
    -- the pointer of an access, by what the registers were where its loop's region was taken
    in_range_here : (a : RacyAccess) (w : ℕ) (opened : List Opening) (x : Opening) (counter : ℕ) (until : Bound) (spans : List Span) → In a Own → IsSeat (weakened_instrs Stretches fn.instrs) w a.instr → Walked s (weakened_instrs Stretches fn.instrs) w registers opened → In x opened → (st : Stretch) → slice_get Stretches x.0 ≡ Some st → st.region ≡ region.Ranged counter until spans → (g : IsLoopOf fn a counter until spans) → IsInRange s fn.instrs x.1 g.loop (element_base fn.instrs a.instr a.through) g.shift (register registers a.through)
    in_range_here a w opened x counter until spans own seat way i st one ranged g =
        let o = of_some fn Own (length (places_in vs)) own_fit x.0 st counter until spans one ranged in
        let j = inside_at s Stretches fn.instrs (plain_here code t vs rs profile rows ready f fn at) (order_here code t vs rs profile rows ready f fn at) (nested_here code t vs rs profile rows ready f fn at) x.0 st one o.loop o.first o.last w a.instr registers opened x.1 way seat i in
        let r = has_range a own g.loop g.shift g.guarded g.ranged in
        let inner = round_it fn a.instr r.is.loop r.is.round in
        let listed = contains_in g.loop fn.loops g.listed in
        let same : r.is.loop ≡ g.loop = one_at_mark fn.loops inner.j listed.0 r.is.loop g.loop ascends inner.listed listed.1 r.mark in
        let counts : o.loop.counter ≡ r.is.loop.counter = o.counts ∙ g.counter ∙ ap (λ (l : LoopInfo). l.counter) (sym same) in
        let acc : option_and_then pointer_of (nth fn.instrs a.instr) ≡ Some r.is.through = ap (option_and_then pointer_of) r.instr ∙ r.is.accesses in
        let mark : o.loop.at ≡ r.is.loop.at = same_mark fn o.loop r.is.loop a.instr r.is.through (borne_out fn o.loop o.counted) (borne_out fn r.is.loop inner.counted) counts inner acc (omega (arith, j.0.0, o.first)) (omega (arith, j.0.1, o.last)) in
        let this : o.loop ≡ r.is.loop = one_at_mark fn.loops o.j inner.j o.loop r.is.loop ascends o.listed inner.listed mark in
        let inside : Inside s fn.instrs r.is.loop x.1 a.instr registers = subst (λ l. Inside s fn.instrs l x.1 a.instr registers) this j.1 in
        let long : fn.registers ≤ length x.1 = omega (arith, enough, inside_long s fn.instrs r.is.loop x.1 a.instr registers inside) in
        let y = range_inside s f fn a.instr r.does r.range r.is x.1 registers r.instr of.pointers (are_fit code ready.valid f fn at (length x.1) constants long) inside in
        subst (λ l. IsInRange s fn.instrs x.1 l (element_base fn.instrs a.instr a.through) g.shift (register registers a.through)) same
        (subst (λ p. IsInRange s fn.instrs x.1 r.is.loop (element_base fn.instrs a.instr p) g.shift (register registers p)) r.through
        (subst (λ d. IsInRange s fn.instrs x.1 r.is.loop (element_base fn.instrs a.instr r.is.through) d (register registers r.is.through)) r.shifts y))

    -- ---- its stripe

    wants_here : (new : Code) → new.sites ≡ code.sites → (a : RacyAccess) (start : List ℕ) (counter : ℕ) (until : Bound) (spans : List Span) (g : IsLoopOf fn a counter until spans) → IsInRange s fn.instrs start g.loop (element_base fn.instrs a.instr a.through) g.shift (register registers a.through) → (lock stripe v : ℕ) → Contains a.locks lock → v ≡ known code.sites (register registers a.through) → points_to_cell v ≡ true → guards new v (offset_of v) lock stripe ≡ true → wants new start (region.Ranged counter until spans) lock stripe ≡ true
    wants_here new sites a start counter until spans g y lock stripe v c e cell guarded =
        any_at (span_wants new start (number (register start counter)) (bound_of start until) lock stripe) spans spanned.0 (span_with fn.instrs a g.shift) spanned.1
        (two (among a.locks lock) (range_wants new (base_word new.sites start (element_base fn.instrs a.instr a.through)) (number (register start counter)) (bound_of start until) g.shift lock stripe)
        (any_at (λ l. l == lock) a.locks has.0 lock has.1 (grind (arith, nat_tests)))
        (range_has new (base_word new.sites start (element_base fn.instrs a.instr a.through)) (known code.sites y.base_word) v (number (register start counter)) (bound_of start until) y.count g.shift lock stripe like moves
        (subst (λ n. number (register start n) ≤ℤ y.count) (sym g.counter) y.from)
        (subst (λ n. y.count <ℤ bound_of start n) (sym g.bound) y.before)
        cell guarded))
      where
        spanned : In (span_with fn.instrs a g.shift) spans
        spanned = contains_in (span_with fn.instrs a g.shift) spans g.span

        has : In lock a.locks
        has = contains_in lock a.locks c

        like : IsAlike (base_word new.sites start (element_base fn.instrs a.instr a.through)) (known code.sites y.base_word)
        like = subst (λ z. IsAlike (base_word z start (element_base fn.instrs a.instr a.through)) (known code.sites y.base_word)) (sym sites) (base_alike code ready.valid f fn at s of.few start (element_base fn.instrs a.instr a.through) y.base_word y.is_base)

        same : v ≡ register registers a.through
        same = e ∙ known_same code.sites (register registers a.through) (subst (λ n. points_to_cell n ≡ true) e cell)

        moves : IsMovedTo (known code.sites y.base_word) v (y.count +ℤ g.shift)
        moves = subst (λ n. IsMovedTo (known code.sites y.base_word) n (y.count +ℤ g.shift)) (sym same) (moved_is code.sites y.base_word (register registers a.through) (y.count +ℤ g.shift) (subst (λ z. moved_by z y.base_word (y.count +ℤ g.shift) ≡ Ok (register registers a.through)) of.sites y.moves))

    pub loop_wants_here : (new : Code) → new.sites ≡ code.sites → (a : RacyAccess) (w : ℕ) (opened : List Opening) (lock stripe v : ℕ) (x : Opening) (counter : ℕ) (until : Bound) (spans : List Span) → Contains Own a → IsSeat (weakened_instrs Stretches fn.instrs) w a.instr → Walked s (weakened_instrs Stretches fn.instrs) w registers opened → Contains a.locks lock → v ≡ known code.sites (register registers a.through) → points_to_cell v ≡ true → guards new v (offset_of v) lock stripe ≡ true
        → Contains opened x → slice_get (map (λ (z : Stretch). z.region) Stretches) x.0 ≡ Some (region.Ranged counter until spans) → Guards fn a (region.Ranged counter until spans) → wants new x.1 (region.Ranged counter until spans) lock stripe ≡ true
    loop_wants_here new sites a w opened lock stripe v x counter until spans own seat way c e cell guarded i one g =
        let st = got_map (λ (z : Stretch). z.region) Stretches x.0 (region.Ranged counter until spans) one in
        wants_here new sites a x.1 counter until spans g
        (in_range_here a w opened x counter until spans (contains_in a Own own) seat way (contains_in x opened i) st.0 st.1 (sym st.2) g)
        lock stripe v c e cell guarded

-- ---- the law

pub loop_wants : (code : Code) (t : Tables) (vs : List Pair) (rs : List Range) (profile : Profile) (rows : List Grained) → is_valid code ≡ true → is_plain code ≡ true → loops_are_apart code ≡ true → loops_are_closed code ≡ true → rs ≡ ranges_of code t → AreGrains code vs rs profile rows → constants_fit code ≡ true
    → (f : ℕ) (fn weak : Function) (a : RacyAccess) (w : ℕ) (s : Setting) (registers : List ℕ) (opened : List Opening) → slice_get code.functions f ≡ Some fn → slice_get (weakened code t vs rs rows).functions f ≡ Some weak → Contains (racy_accesses code t (places_in vs) rs rows f) a → IsSeat weak.instrs w a.instr → IsSettingOf code fn s → fn.registers ≤ length registers → Walked s weak.instrs w registers opened
    → (lock stripe v : ℕ) → Contains a.locks lock → v ≡ known code.sites (register registers a.through) → points_to_cell v ≡ true → guards (weakened code t vs rs rows) v (offset_of v) lock stripe ≡ true → (x : Opening) (counter : ℕ) (until : Bound) (spans : List Span) → Contains opened x → slice_get weak.regions x.0 ≡ Some (region.Ranged counter until spans) → Guards fn a (region.Ranged counter until spans) → wants (weakened code t vs rs rows) x.1 (region.Ranged counter until spans) lock stripe ≡ true
unfolding weakened
loop_wants code t vs rs profile rows valid p apart closed ranges grains constants f fn weak a w s registers opened at g c seat of enough way lock stripe v l e cell guarded x counter until spans i one guard =
    let r = weakened_at code t (places_in vs) rs rows 0 code.functions f weak g in
    let z : 0 + f ≡ f = omega arith in
    let q : r.0 ≡ fn = same_Some r.0 fn (sym r.1 ∙ at) in
    let is : weakened_function code t (places_in vs) rs rows f fn ≡ weak = sym (r.2 ∙ ap (λ m. weakened_function code t (places_in vs) rs rows m r.0) z ∙ ap (weakened_function code t (places_in vs) rs rows f) q) in
    subst (λ (h : Function). IsSeat h.instrs w a.instr → Walked s h.instrs w registers opened → slice_get h.regions x.0 ≡ Some (region.Ranged counter until spans) → wants (weakened code t vs rs rows) x.1 (region.Ranged counter until spans) lock stripe ≡ true) is
    (λ seat way one. loop_wants_here code t vs rs profile rows (record { valid = valid; plain = p; apart = apart; closed = closed; ranges = ranges; grains = grains }) f fn at constants s of registers enough (weakened code t vs rs rows) refl a w opened lock stripe v x counter until spans c seat way l e cell guarded i one guard)
    seat way one
