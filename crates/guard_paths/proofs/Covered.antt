-- What the ways of a weakened code tell of its accesses and returns.
use Rattle.std.proofs.Common.{◌≡◌, ℕ, zero, suc, ◌+◌, ◌&&◌, Bool, true, false, not, List, [], ◌∷◌, length, map, refl, sym, ap, ◌∙◌, subst, arith, Option, Some, drop}
use Rattle.std.specs.Prelude.{slice_get, if◌then◌else◌, ◌==◌}
use Rattle.std.specs.List.{list_all, Contains}
use Rattle.std.proofs.lemmas.Bool.Decides.{nat_tests}
use Rattle.std.proofs.lemmas.Option.{same_Some, slice_get_within}
use Rattle.rr_base.specs.declared.layout.Place.{Place}
use Rattle.flow_code.specs.declared.act.Act.{Act}
use Rattle.flow_code.specs.declared.act.Act.TheVariants as act
use Rattle.flow_code.specs.declared.act.Instr.{Instr}
use Rattle.flow_code.specs.declared.code.Code.{Code}
use Rattle.flow_code.specs.declared.code.Function.{Function}
use Rattle.flow_code.specs.Addresses.{globals_fit}
use Rattle.flow_code.specs.Order.{order_fits}
use Rattle.flow_code.specs.Valid.{is_valid, is_within_limits, all_locks_fit, has_one_main, functions_fit, function_fits}
use Rattle.word_semantics.specs.Layouts.{sites_fit}
use Rattle.facts.specs.declared.pair.Pair.{Pair}
use Rattle.profiles.specs.declared.profile.Profile.{Profile}
use Rattle.facts.specs.Accesses.{Access, access_of}
use Rattle.facts.specs.PointsTo.{Tables}
use Rattle.weak_lock_facts.specs.declared.grain.Grained.{Grained}
use Rattle.weak_lock_facts.specs.declared.range.Range.{Range}
use Rattle.weak_lock_facts.specs.Grains.{AreGrains}
use Rattle.weak_lock_facts.specs.Ranges.{ranges_of}
use Rattle.weak_code.specs.declared.stretch.RacyAccess.{RacyAccess}
use Rattle.weak_code.specs.declared.stretch.Stretch.{Stretch}
use Rattle.weak_code.specs.Places.{before, covers, enter}
use Rattle.weak_code.specs.Stretches.{racy_accesses, stretches_of}
use Rattle.weak_code.specs.Stripped.{is_plain, is_weak, plain_of}
use Rattle.weak_code.specs.WeakLocks.{places_in}
use Rattle.weak_code.specs.Weakened.{retarget, weakened_instrs, with_stretches, weakened_function, weakened_functions, weakened}
use Rattle.weak_code.proofs.Stripping.{ArePlain, plain_acts, no_items, plain_seat, not_weak, weak_before}
use Rattle.weak_valid.specs.Apart.{loops_are_apart}
use Rattle.guard_paths.specs.LoopsClosed.{loop_is_closed, loops_are_closed}
use Rattle.guard_paths.specs.Guards.{IsSeat, IsGuarded}
use Rattle.guard_paths.specs.Ways.{Way}
use Rattle.weak_valid.proofs.Tests.{both, all_at}
use Rattle.weak_valid.proofs.OrderFits.{plain_at, weak_at}
use Rattle.weak_valid.proofs.Accesses.{Each, each_at, IsFit, accesses_fit}
use Rattle.guard_paths.proofs.Closed.{all_closed}
use Rattle.weak_valid.proofs.CountedLoops.{loops_are_counted}
use Rattle.guard_paths.proofs.Guarded.{In, in_contains, contains_in, in_region}
use Rattle.guard_paths.proofs.Nested.{edges, IsClosed, IsIn, nests, covers_in}
use Rattle.guard_paths.proofs.Passing.{AreNested, Here, at_weak, at_plain, standing, along}
use Rattle.guard_paths.proofs.Standing.{times, one_if, has_test, returns, stays, StandsNext, Stands}
use Rattle.weak_valid.proofs.Valid.{parts}

-- ---- lists

none_open : (xs : List ℕ) → ((r : ℕ) → times r xs ≡ 0) → xs ≡ []
none_open [] h = refl
none_open (x ∷ xs) h = absurd (bad (x == x) (grind (arith, nat_tests)) (h x))
  where
    bad : (b : Bool) → b ≡ true → (if b then suc (times x xs) else times x xs) ≡ 0 → ⊥
    bad true e h = omega (arith, h)
    bad false e h = cc

one_open : (r : ℕ) (xs : List ℕ) → times r xs ≡ 1 → In r xs
one_open r [] h = absurd (omega (arith, h))
one_open r (x ∷ xs) h = go (x == r) refl h (λ e. one_open r xs e)
  where
    go : (b : Bool) → (x == r) ≡ b → (if b then suc (times r xs) else times r xs) ≡ 1 → (times r xs ≡ 1 → In r xs) → In r (x ∷ xs)
    go true e h rec = let q : x ≡ r = grind (arith, nat_tests, e) in (0, ap Some q)
    go false e h rec = let q = rec h in (suc q.0, q.1)

pub not_open : (r : ℕ) (xs : List ℕ) → times r xs ≡ 0 → In r xs → ⊥
not_open r [] z (k, h) = cc
not_open r (x ∷ xs) z (zero, h) = bad (x == r) (let q = same_Some x r h in grind (arith, nat_tests, q)) z
  where
    bad : (b : Bool) → b ≡ true → (if b then suc (times r xs) else times r xs) ≡ 0 → ⊥
    bad true e h = omega (arith, h)
    bad false e h = cc
not_open r (x ∷ xs) z (suc k, h) = not_open r xs (rest (x == r) z) (k, h)
  where
    rest : (b : Bool) → (if b then suc (times r xs) else times r xs) ≡ 0 → times r xs ≡ 0
    rest true h = absurd (omega (arith, h))
    rest false h = h

got_drop : (bs : List Act) (j : ℕ) (b : Act) → slice_get bs j ≡ Some b → drop j bs ≡ b ∷ drop (j + 1) bs
got_drop [] j b h = cc
got_drop (y ∷ ys) zero b h = ap (λ z. z ∷ ys) (same_Some y b h)
got_drop (y ∷ ys) (suc j) b h = let e : suc (j + 1) ≡ suc j + 1 = omega arith in got_drop ys j b h ∙ ap (λ n. b ∷ drop n (y ∷ ys)) e

-- ---- instructions

returns_kept : (to : ℕ → ℕ) (a : Act) → returns (retarget to a) ≡ returns a
returns_kept to (act.Compute into w) = refl
returns_kept to (act.Alloc into site size) = refl
returns_kept to (act.LoadCell into through) = refl
returns_kept to (act.StoreCell through from) = refl
returns_kept to act.Mark = refl
returns_kept to (act.Call g arguments into) = refl
returns_kept to (act.Library c arguments into) = refl
returns_kept to (act.Jump k) = refl
returns_kept to (act.Branch on then_at else_at) = refl
returns_kept to (act.Return value) = refl
returns_kept to (act.Take r) = refl
returns_kept to (act.Give r) = refl

weak_stays : (a : Act) → is_weak a ≡ true → returns a ≡ false
weak_stays (act.Return value) h = cc
weak_stays _ h = refl

access_stays : (a : Act) (x : Access) → access_of a ≡ Some x → returns a ≡ false
access_stays (act.Return value) x h = cc
access_stays _ x h = refl

differ : (b : Bool) → b ≡ true → b ≡ false → ⊥
differ true p q = cc
differ false p q = cc

-- ---- one function

-- the function with regions that nest
module _ (fn : Function) (ss : List Stretch) (plain : ArePlain (length fn.instrs) fn.instrs) (order : order_fits fn.instrs ≡ true) (nested : AreNested fn.instrs ss) where
  abbrev Weak : List Instr
  Weak = weakened_instrs ss fn.instrs

  pub returns_empty : (w : ℕ) (opened : List ℕ) (i : Instr) → Way Weak w opened → slice_get Weak w ≡ Some i → returns i.act ≡ true → opened ≡ []
  returns_empty w opened i way g h = go (standing ss fn.instrs plain order nested w opened i (along ss fn.instrs plain order nested way) g)
    where
      go : Here ss fn.instrs plain order nested w opened i → opened ≡ []
      go (at_weak k x j b at q p e s) = absurd (differ (returns b) (ap (λ (y : Instr). returns y.act) (sym e) ∙ h) (weak_stays b (weak_at (before ss k x.act) j b (weak_before ss k x.act) q)))
      go (at_plain k x at p e s) =
          let t : returns x.act ≡ true = sym (returns_kept (enter ss fn.instrs k) x.act) ∙ ap (λ (y : Instr). returns y.act) (sym e) ∙ h in
          none_open opened (λ r. s r ∙ ap (λ b. one_if (has_test (covers k) (slice_get ss r) && not b)) t ∙ none (has_test (covers k) (slice_get ss r)))
        where
          none : (b : Bool) → one_if (b && false) ≡ 0
          none true = refl
          none false = refl

  pub taken_once : (w : ℕ) (opened : List ℕ) (i : Instr) (r : ℕ) → Way Weak w opened → slice_get Weak w ≡ Some i → i.act ≡ act.Take r → Contains opened r → ⊥
  taken_once w opened i r way g h c = go (standing ss fn.instrs plain order nested w opened i (along ss fn.instrs plain order nested way) g)
    where
      closed_now : (o : Bool) (bs : List Act) → Stands o r (act.Take r ∷ bs) (times r opened) → times r opened ≡ 0
      closed_now o bs s = one (r == r) (grind (arith, nat_tests)) s
        where
          one : (b : Bool) → b ≡ true → StandsNext b false (times r opened) (Stands o r bs (times r opened)) → times r opened ≡ 0
          one true e s = s
          one false e s = cc

      go : Here ss fn.instrs plain order nested w opened i → ⊥
      go (at_weak k x j b at q p e s) =
          let t : b ≡ act.Take r = ap (λ (y : Instr). y.act) (sym e) ∙ h in
          not_open r opened (closed_now (stays (slice_get ss r) k x.act) (drop (j + 1) (before ss k x.act)) (subst (λ bs. Stands (stays (slice_get ss r) k x.act) r bs (times r opened)) (got_drop (before ss k x.act) j b q ∙ ap (λ z. z ∷ drop (j + 1) (before ss k x.act)) t) (s r))) (contains_in r opened c)
      go (at_plain k x at p e s) =
          let t : is_weak (retarget (enter ss fn.instrs k) x.act) ≡ true = ap (λ (y : Instr). is_weak y.act) (sym e) ∙ ap is_weak h in
          differ (is_weak (retarget (enter ss fn.instrs k) x.act)) t (not_weak (enter ss fn.instrs k) (length fn.instrs) x.act (plain_at (length fn.instrs) fn.instrs k x plain at))

  -- at the seat of an access the regions round it are open
  pub covered : (w k : ℕ) (opened : List ℕ) (i : Instr) (x : Access) (r : ℕ) (s : Stretch) → Way Weak w opened → IsSeat Weak w k → slice_get fn.instrs k ≡ Some i → access_of i.act ≡ Some x → slice_get ss r ≡ Some s → IsIn s k → Contains opened r
  covered w k opened i x r s way seat at acc one inside = go (standing ss fn.instrs plain order nested w opened seat.instr (along ss fn.instrs plain order nested way) seat.at)
    where
      open_now : (m : ℕ) (y : Instr) → m ≡ k → slice_get fn.instrs m ≡ Some y → times r opened ≡ (if stays (slice_get ss r) m y.act then 1 else 0) → Contains opened r
      open_now m y e g h =
          let z : y ≡ i = same_Some y i (sym g ∙ ap (slice_get fn.instrs) e ∙ at) in
          let q : returns y.act ≡ false = ap (λ (u : Instr). returns u.act) z ∙ access_stays i.act x acc in
          let c : has_test (covers m) (slice_get ss r) ≡ true = ap (has_test (covers m)) one ∙ ap (λ n. covers n s) e ∙ covers_in s k inside in
          in_contains r opened (one_open r opened (h ∙ ap (λ b. one_if (b && not (returns y.act))) c ∙ ap (λ b. one_if (not b)) q))

      go : Here ss fn.instrs plain order nested w opened seat.instr → Contains opened r
      go (at_weak m y j b g q p e h) = absurd (differ (is_weak b) (weak_at (before ss m y.act) j b (weak_before ss m y.act) q) (ap (λ (u : Instr). is_weak u.act) (sym e) ∙ seat.own))
      go (at_plain m y g p e h) = open_now m y (sym (plain_seat ss (length fn.instrs) m fn.instrs plain (slice_get_within fn.instrs m y g)) ∙ ap (plain_of Weak) (sym p) ∙ seat.plain) g (h r)

-- ---- the code

pub weakened_at : (code : Code) (t : Tables) (locked : List Place) (rs : List Range) (rows : List Grained) (n : ℕ) (fns : List Function) (k : ℕ) (g : Function) → slice_get (weakened_functions code t locked rs rows n fns) k ≡ Some g → (fn : Function) × (slice_get fns k ≡ Some fn) × (g ≡ weakened_function code t locked rs rows (n + k) fn)
weakened_at code t locked rs rows n [] k g h = cc
weakened_at code t locked rs rows n (fn ∷ fns) zero g h = let e : n ≡ n + 0 = omega arith in (fn, refl, sym (same_Some (weakened_function code t locked rs rows n fn) g h) ∙ ap (λ m. weakened_function code t locked rs rows m fn) e)
weakened_at code t locked rs rows n (fn ∷ fns) (suc k) g h = let r = weakened_at code t locked rs rows (n + 1) fns k g h in let e : (n + 1) + k ≡ n + suc k = omega arith in (r.0, r.1, r.2 ∙ ap (λ m. weakened_function code t locked rs rows m r.0) e)

-- a valid code whose loops are apart and closed, with the answers of its analyses
pub record IsReady (code : Code) (t : Tables) (vs : List Pair) (rs : List Range) (profile : Profile) (rows : List Grained) : Type 0 where
  pub valid : is_valid code ≡ true
  pub plain : is_plain code ≡ true
  pub apart : loops_are_apart code ≡ true
  pub closed : loops_are_closed code ≡ true
  pub ranges : rs ≡ ranges_of code t
  pub grains : AreGrains code vs rs profile rows

module _ (code : Code) (t : Tables) (vs : List Pair) (rs : List Range) (profile : Profile) (rows : List Grained) (ready : IsReady code t vs rs profile rows) (f : ℕ) (fn : Function) (at : slice_get code.functions f ≡ Some fn) where
  abbrev Own : List RacyAccess
  Own = racy_accesses code t (places_in vs) rs rows f

  abbrev Regions : List Stretch
  Regions = stretches_of fn Own

  fits : function_fits code fn ≡ true
  fits =
      let a = both (is_within_limits code && sites_fit code.sites && all_locks_fit code code.locks && has_one_main code.functions && functions_fit code code.functions) (globals_fit code) ready.valid in
      let b = both (is_within_limits code && sites_fit code.sites && all_locks_fit code code.locks && has_one_main code.functions) (functions_fit code code.functions) a.0 in
      all_at (function_fits code) code.functions f fn b.1 at

  pub plain_here : ArePlain (length fn.instrs) fn.instrs
  plain_here =
      let n = both (length code.locks == 0) (list_all (λ fn. length fn.regions == 0) code.functions) ready.plain in
      plain_acts code fn fn.instrs (no_items fn.regions (all_at (λ (g : Function). length g.regions == 0) code.functions f fn n.1 at)) (parts code fn fits).acts

  pub order_here : order_fits fn.instrs ≡ true
  order_here = (parts code fn fits).order

  fit_here : Each (IsFit fn (length (places_in vs))) Own
  fit_here = accesses_fit code t (places_in vs) rs rows (loops_are_counted code t vs rs profile rows ready.apart ready.ranges ready.grains) f fn at

  pub nested_here : AreNested fn.instrs Regions
  nested_here r s g = nests fn.instrs s (each_at (IsClosed fn.instrs) Regions r s (all_closed code t (places_in vs) vs rs profile rows ready.grains f fn at (length (places_in vs)) fit_here (edges fn.instrs plain_here order_here) (all_at (λ (g : Function). list_all (loop_is_closed g.instrs) g.loops) code.functions f fn ready.closed at)) g)

  pub guarded_here : (a : RacyAccess) (w : ℕ) (opened : List ℕ) → Contains Own a → IsSeat (weakened_instrs Regions fn.instrs) w a.instr → Way (weakened_instrs Regions fn.instrs) w opened → IsGuarded fn a (with_stretches fn Regions) opened
  guarded_here a w opened c seat way =
      let h = contains_in a Own c in
      let i = each_at (IsFit fn (length (places_in vs))) Own h.0 a fit_here h.1 in
      let q = in_region code t (places_in vs) vs rs profile rows ready.grains ready.ranges f fn at (length (places_in vs)) fit_here a h in
      record {
        number = q.one.0;
        region = q.s.region;
        stands = covered fn Regions plain_here order_here nested_here w a.instr opened i.instr i.access q.one.0 q.s way seat i.at i.is q.one.1 q.round;
        is = map_at Regions q.one.0 q.s q.one.1;
        guards = q.guards;
      }
    where
      map_at : (xs : List Stretch) (k : ℕ) (s : Stretch) → slice_get xs k ≡ Some s → slice_get (map (λ (z : Stretch). z.region) xs) k ≡ Some s.region
      map_at [] k s h = cc
      map_at (x ∷ xs) zero s h = ap (λ (z : Stretch). Some z.region) (same_Some x s h)
      map_at (x ∷ xs) (suc k) s h = map_at xs k s h

-- ---- the laws

pub guarded : (code : Code) (t : Tables) (vs : List Pair) (rs : List Range) (profile : Profile) (rows : List Grained) → is_valid code ≡ true → is_plain code ≡ true → loops_are_apart code ≡ true → loops_are_closed code ≡ true → rs ≡ ranges_of code t → AreGrains code vs rs profile rows
    → (f : ℕ) (fn weak : Function) (a : RacyAccess) (w : ℕ) (opened : List ℕ) → slice_get code.functions f ≡ Some fn → slice_get (weakened code t vs rs rows).functions f ≡ Some weak → Contains (racy_accesses code t (places_in vs) rs rows f) a → IsSeat weak.instrs w a.instr → Way weak.instrs w opened → IsGuarded fn a weak opened
unfolding weakened
guarded code t vs rs profile rows v p apart closed ranges grains f fn weak a w opened at g c seat way =
    let r = weakened_at code t (places_in vs) rs rows 0 code.functions f weak g in
    let z : 0 + f ≡ f = omega arith in
    let s : r.0 ≡ fn = same_Some r.0 fn (sym r.1 ∙ at) in
    let e : weakened_function code t (places_in vs) rs rows f fn ≡ weak = sym (r.2 ∙ ap (λ m. weakened_function code t (places_in vs) rs rows m r.0) z ∙ ap (weakened_function code t (places_in vs) rs rows f) s) in
    subst (λ (h : Function). IsSeat h.instrs w a.instr → Way h.instrs w opened → IsGuarded fn a h opened) e
    (λ seat way. guarded_here code t vs rs profile rows (record { valid = v; plain = p; apart = apart; closed = closed; ranges = ranges; grains = grains }) f fn at a w opened c seat way) seat way

pub returns_give_all : (code : Code) (t : Tables) (vs : List Pair) (rs : List Range) (profile : Profile) (rows : List Grained) → is_valid code ≡ true → is_plain code ≡ true → loops_are_apart code ≡ true → loops_are_closed code ≡ true → rs ≡ ranges_of code t → AreGrains code vs rs profile rows
    → (f : ℕ) (weak : Function) (w : ℕ) (opened : List ℕ) (i : Instr) (value : Option ℕ) → slice_get (weakened code t vs rs rows).functions f ≡ Some weak → Way weak.instrs w opened → slice_get weak.instrs w ≡ Some i → i.act ≡ act.Return value → opened ≡ []
unfolding weakened
returns_give_all code t vs rs profile rows v p apart closed ranges grains f weak w opened i value g way is e =
    let r = weakened_at code t (places_in vs) rs rows 0 code.functions f weak g in
    let z : 0 + f ≡ f = omega arith in
    let q : weakened_function code t (places_in vs) rs rows f r.0 ≡ weak = sym (r.2 ∙ ap (λ m. weakened_function code t (places_in vs) rs rows m r.0) z) in
    let ready : IsReady code t vs rs profile rows = record { valid = v; plain = p; apart = apart; closed = closed; ranges = ranges; grains = grains } in
    subst (λ (h : Function). Way h.instrs w opened → slice_get h.instrs w ≡ Some i → opened ≡ []) q
    (λ way is. returns_empty r.0 (stretches_of r.0 (racy_accesses code t (places_in vs) rs rows f)) (plain_here code t vs rs profile rows ready f r.0 r.1) (order_here code t vs rs profile rows ready f r.0 r.1) (nested_here code t vs rs profile rows ready f r.0 r.1) w opened i way is (ap returns e)) way is

pub opened_once : (code : Code) (t : Tables) (vs : List Pair) (rs : List Range) (profile : Profile) (rows : List Grained) → is_valid code ≡ true → is_plain code ≡ true → loops_are_apart code ≡ true → loops_are_closed code ≡ true → rs ≡ ranges_of code t → AreGrains code vs rs profile rows
    → (f : ℕ) (weak : Function) (w : ℕ) (opened : List ℕ) (i : Instr) (r : ℕ) → slice_get (weakened code t vs rs rows).functions f ≡ Some weak → Way weak.instrs w opened → slice_get weak.instrs w ≡ Some i → i.act ≡ act.Take r → Contains opened r → ⊥
unfolding weakened
opened_once code t vs rs profile rows v p apart closed ranges grains f weak w opened i n g way is e c =
    let r = weakened_at code t (places_in vs) rs rows 0 code.functions f weak g in
    let z : 0 + f ≡ f = omega arith in
    let q : weakened_function code t (places_in vs) rs rows f r.0 ≡ weak = sym (r.2 ∙ ap (λ m. weakened_function code t (places_in vs) rs rows m r.0) z) in
    let ready : IsReady code t vs rs profile rows = record { valid = v; plain = p; apart = apart; closed = closed; ranges = ranges; grains = grains } in
    subst (λ (h : Function). Way h.instrs w opened → slice_get h.instrs w ≡ Some i → ⊥) q
    (λ way is. taken_once r.0 (stretches_of r.0 (racy_accesses code t (places_in vs) rs rows f)) (plain_here code t vs rs profile rows ready f r.0 r.1) (order_here code t vs rs profile rows ready f r.0 r.1) (nested_here code t vs rs profile rows ready f r.0 r.1) w opened i n way is e c) way is
