-- The region of a function, a block or a single access takes the stripe of the accessed cell.
use Rattle.std.proofs.Common.{◌≡◌, ℕ, ◌+◌, true, false, List, length, sym, ap, ◌∙◌, subst, arith, Some}
use Rattle.std.specs.Prelude.{slice_get, nat_lt}
use Rattle.std.specs.List.{Contains}
use Rattle.std.proofs.lemmas.Bool.{and_from}
use Rattle.std.proofs.lemmas.Option.{same_Some}
use Rattle.rr_base.specs.Words.{offset_of}
use Rattle.word_semantics.specs.Pointers.{known}
use Rattle.word_semantics.specs.Registers.{register}
use Rattle.flow_code.specs.declared.code.Code.{Code}
use Rattle.flow_code.specs.declared.code.Function.{Function}
use Rattle.flow_code.specs.declared.region.Base.{Base}
use Rattle.flow_code.specs.declared.region.Region.{Region}
use Rattle.flow_code.specs.declared.region.Region.TheVariants as region
use Rattle.flow_code.specs.Stripes.{guards, points_to_cell, base_word, cell_wants, among, stripes_in, wants}
use Rattle.flow_code.specs.Valid.{is_valid}
use Rattle.facts.specs.declared.pair.Pair.{Pair}
use Rattle.profiles.specs.declared.profile.Profile.{Profile}
use Rattle.facts.specs.PointsTo.{Tables}
use Rattle.weak_lock_facts.specs.declared.grain.Grained.{Grained}
use Rattle.weak_lock_facts.specs.declared.range.Range.{Range}
use Rattle.weak_lock_facts.specs.Grains.{AreGrains}
use Rattle.weak_lock_facts.specs.Ranges.{ranges_of}
use Rattle.loop_bounds.specs.Turns.{Setting}
use Rattle.weak_code.specs.declared.stretch.RacyAccess.{RacyAccess}
use Rattle.weak_code.specs.declared.stretch.Stretch.{Stretch}
use Rattle.weak_code.specs.Stretches.{racy_accesses, stretches_of}
use Rattle.weak_code.specs.WeakLocks.{places_in, locks_for}
use Rattle.weak_code.specs.Weakened.{with_stretches, weakened_function, weakened}
use Rattle.weak_code.specs.Stripped.{is_plain}
use Rattle.weak_valid.specs.Apart.{loops_are_apart}
use Rattle.weak_valid.proofs.Accesses.{each_at, IsFit, accesses_fit}
use Rattle.weak_valid.proofs.CountedLoops.{loops_are_counted}
use Rattle.weak_valid.proofs.Tests.{got_map}
use Rattle.guard_paths.specs.LoopsClosed.{loops_are_closed}
use Rattle.guard_paths.specs.Guards.{IsSeat, Guards}
use Rattle.guard_paths.specs.Walked.{Opening, Walked}
use Rattle.guard_paths.proofs.Covered.{IsReady, plain_here, order_here, nested_here, weakened_at}
use Rattle.guard_paths.proofs.Guarded.{contains_in}
use Rattle.region_stripes.specs.Ranged.{is_ranged}
use Rattle.region_stripes.proofs.Alone.{IsShort, all_short}
use Rattle.region_stripes.proofs.Stripes.{among_in, stripe_is}
use Rattle.region_stripes.proofs.Taken.{taken_now}

module _ (code : Code) (t : Tables) (vs : List Pair) (rs : List Range) (profile : Profile) (rows : List Grained) (ready : IsReady code t vs rs profile rows) (f : ℕ) (fn : Function) (at : slice_get code.functions f ≡ Some fn) (a : RacyAccess) (own : Contains (racy_accesses code t (places_in vs) rs rows f) a) where
  abbrev Own : List RacyAccess
  Own = racy_accesses code t (places_in vs) rs rows f

  -- the region of an access alone has the registers of the access
  same_registers : (w : ℕ) (s : Setting) (registers : List ℕ) (opened : List Opening) (x : Opening) (from : Base) (locks : List ℕ) → let weak = with_stretches fn (stretches_of fn Own) in IsSeat weak.instrs w a.instr → Walked s weak.instrs w registers opened → Contains opened x → slice_get weak.regions x.0 ≡ Some (region.Cell from locks) → x.1 ≡ registers
  same_registers w s registers opened x from locks seat walk c g =
      let q = got_map (λ (z : Stretch). z.region) (stretches_of fn Own) x.0 (region.Cell from locks) g in
      let short : q.0.first ≡ q.0.last = each_at IsShort (stretches_of fn Own) x.0 q.0 (all_short fn Own) q.1 from locks (sym q.2) in
      let h = contains_in a Own own in
      let fit = each_at (IsFit fn (length (places_in vs))) Own h.0 a (accesses_fit code t (places_in vs) rs rows (loops_are_counted code t vs rs profile rows ready.apart ready.ranges ready.grains) f fn at) h.1 in
      taken_now fn (stretches_of fn Own) (plain_here code t vs rs profile rows ready f fn at) (order_here code t vs rs profile rows ready f fn at) (nested_here code t vs rs profile rows ready f fn at) s a.instr fit.instr fit.access fit.at fit.is w registers opened x q.0 walk seat (contains_in x opened c) q.1 short

  wants_here : (weak : Function) (w : ℕ) (s : Setting) (registers : List ℕ) (opened : List Opening) → weak ≡ with_stretches fn (stretches_of fn Own) → IsSeat weak.instrs w a.instr → Walked s weak.instrs w registers opened
      → (lock stripe v : ℕ) → Contains a.locks lock → v ≡ known code.sites (register registers a.through) → points_to_cell v ≡ true → guards (weakened code t vs rs rows) v (offset_of v) lock stripe ≡ true
      → (x : Opening) (r : Region) → Contains opened x → slice_get weak.regions x.0 ≡ Some r → Guards fn a r → is_ranged r ≡ false → wants (weakened code t vs rs rows) x.1 r lock stripe ≡ true
  unfolding weakened
  wants_here weak w s registers opened e seat walk lock stripe v has word points guarded x (region.Whole locks) c g k n =
      and_from (among locks lock) (nat_lt stripe (stripes_in (slice_get (locks_for code t rows (places_in vs)) lock))) (among_in lock locks (contains_in lock locks (k lock has)))
      (stripe_is code t rows (places_in vs) code.sites lock v stripe points guarded)
  wants_here weak w s registers opened e seat walk lock stripe v has word points guarded x (region.Ranged counter bound spans) c g k n = cc
  wants_here weak w s registers opened e seat walk lock stripe v has word points guarded x (region.Cell from locks) c g k n =
      let same : x.1 ≡ registers = subst (λ (y : Function). IsSeat y.instrs w a.instr → Walked s y.instrs w registers opened → slice_get y.regions x.0 ≡ Some (region.Cell from locks) → x.1 ≡ registers) (sym e) (λ seat walk g. same_registers w s registers opened x from locks seat walk c g) seat walk g in
      let to : v ≡ base_word code.sites x.1 from = word ∙ ap (λ qs. known code.sites (register qs a.through)) (sym same) ∙ ap (base_word code.sites x.1) (sym k.0) in
      let here : cell_wants (weakened code t vs rs rows) v lock stripe ≡ true = and_from (points_to_cell v) (guards (weakened code t vs rs rows) v (offset_of v) lock stripe) points guarded in
      and_from (among locks lock) (cell_wants (weakened code t vs rs rows) (base_word code.sites x.1 from) lock stripe) (subst (λ ls. among ls lock ≡ true) (sym k.1) (among_in lock a.locks (contains_in lock a.locks has)))
      (subst (λ z. cell_wants (weakened code t vs rs rows) z lock stripe ≡ true) to here)

pub whole_wants : (code : Code) (t : Tables) (vs : List Pair) (rs : List Range) (profile : Profile) (rows : List Grained) → is_valid code ≡ true → is_plain code ≡ true → loops_are_apart code ≡ true → loops_are_closed code ≡ true → rs ≡ ranges_of code t → AreGrains code vs rs profile rows
    → (f : ℕ) (fn weak : Function) (a : RacyAccess) (w : ℕ) (s : Setting) (registers : List ℕ) (opened : List Opening) → slice_get code.functions f ≡ Some fn → slice_get (weakened code t vs rs rows).functions f ≡ Some weak → Contains (racy_accesses code t (places_in vs) rs rows f) a → IsSeat weak.instrs w a.instr → Walked s weak.instrs w registers opened
    → (lock stripe v : ℕ) → Contains a.locks lock → v ≡ known code.sites (register registers a.through) → points_to_cell v ≡ true → guards (weakened code t vs rs rows) v (offset_of v) lock stripe ≡ true
    → (x : Opening) (r : Region) → Contains opened x → slice_get weak.regions x.0 ≡ Some r → Guards fn a r → is_ranged r ≡ false → wants (weakened code t vs rs rows) x.1 r lock stripe ≡ true
unfolding weakened
whole_wants code t vs rs profile rows v p apart closed ranges grains f fn weak a w s registers opened at g c seat walk =
    let z : 0 + f ≡ f = omega arith in
    let r = weakened_at code t (places_in vs) rs rows 0 code.functions f weak g in
    let q : r.0 ≡ fn = same_Some r.0 fn (sym r.1 ∙ at) in
    let e : weakened_function code t (places_in vs) rs rows f fn ≡ weak = sym (r.2 ∙ ap (λ m. weakened_function code t (places_in vs) rs rows m r.0) z ∙ ap (weakened_function code t (places_in vs) rs rows f) q) in
    wants_here code t vs rs profile rows (record { valid = v; plain = p; apart = apart; closed = closed; ranges = ranges; grains = grains }) f fn at a c weak w s registers opened (sym e) seat walk
