-- The weakened code is valid.
use Rattle.std.proofs.Common.{◌≡◌, ℕ, suc, ◌+◌, ◌^◌, ◌<◌, ◌≤◌, ◌&&◌, ◌||◌, Bool, true, not, List, [], ◌∷◌, length, map, refl, sym, ap, ◌∙◌, subst, arith, Some, fold}
use Rattle.std.specs.Prelude.{slice_get, if◌then◌else◌, nat_lt, nat_le, ◌==◌}
use Rattle.std.specs.List.{list_all}
use Rattle.std.proofs.lemmas.Bool.Decides.{nat_tests}
use Rattle.rr_base.specs.declared.layout.Place.{Place}
use Rattle.flow_code.specs.declared.code.Code.{Code}
use Rattle.flow_code.specs.declared.code.Function.{Function}
use Rattle.flow_code.specs.declared.code.LockInfo.{LockInfo}
use Rattle.flow_code.specs.declared.code.LoopInfo.{LoopInfo}
use Rattle.flow_code.specs.declared.region.Bound.{Bound}
use Rattle.flow_code.specs.declared.region.Bound.TheVariants as bound
use Rattle.flow_code.specs.declared.region.Region.{Region}
use Rattle.flow_code.specs.Addresses.{globals_fit}
use Rattle.flow_code.specs.Kinds.{act_fits, has_instr, has_register}
use Rattle.flow_code.specs.Order.{order_fits}
use Rattle.flow_code.specs.Regions.{bound_is_register, loop_fits, region_fits}
use Rattle.flow_code.specs.Threads.{objects_of}
use Rattle.flow_code.specs.Valid.{is_valid, is_within_limits, all_locks_fit, is_main_function, mains_in, mains_have_no_formals, has_one_main, most_locks, functions_fit, function_fits, registers_fit, acts_fit, loops_fit, regions_fit}
use Rattle.flow_code.proofs.Objects.{words_do_fit}
use Rattle.word_semantics.specs.Layouts.{sites_fit}
use Rattle.facts.specs.declared.constraint.Node.TheVariants.{Register}
use Rattle.facts.specs.declared.locks.Summary.{Summary}
use Rattle.facts.specs.declared.pair.Pair.{Pair}
use Rattle.profiles.specs.declared.profile.Profile.{Profile}
use Rattle.facts.specs.PointsTo.{Tables, MayPoint}
use Rattle.std.specs.List.{Contains}
use Rattle.std.proofs.lemmas.Option.{slice_get_within, get_or_from_slice_get}
use Rattle.weak_lock_facts.specs.declared.grain.Grained.{Grained}
use Rattle.weak_lock_facts.specs.declared.range.Range.{Range}
use Rattle.weak_code.specs.declared.stretch.Stretch.{Stretch}
use Rattle.weak_code.specs.Stretches.{racy_accesses, stretches_of}
use Rattle.weak_code.specs.Stripped.{is_plain}
use Rattle.weak_code.specs.WeakLocks.{places_in, locks_for}
use Rattle.weak_code.specs.Weakened.{weakened_instrs, moved_loop, with_stretches, weakened_function, weakened_functions, weakened}
use Rattle.weak_code.specs.Places.{place_of, seat_of}
use Rattle.weak_code.proofs.Stripping.{ArePlain, IsWithin, AreWithin, plain_acts, loops_within, no_items}
use Rattle.weak_valid.specs.Answers.{AreAnswers}
use Rattle.weak_valid.specs.Apart.{loops_are_apart}
use Rattle.weak_valid.proofs.Tests.{both, two, all_at, length_map}
use Rattle.weak_valid.proofs.OrderFits.{AreAfter, order}
use Rattle.weak_valid.proofs.ActsFit.{function_with, code_with, bare, seat_within, place_within, acts}
use Rattle.weak_valid.proofs.AddressesFit.{globals}
use Rattle.weak_valid.proofs.PlacesFit.{IsPlaceOf, place_of_code}
use Rattle.weak_valid.proofs.LocksFit.{places_all, places_ascend, few_places, pointed, locks_are_fit}
use Rattle.weak_valid.proofs.Accesses.{Each, IsFit, LoopsAreCounted, accesses_fit}
use Rattle.weak_valid.proofs.RegionsFit.{stretches_right, regions_right}
use Rattle.weak_valid.proofs.CountedLoops.{loops_are_counted}

-- ---- loops

loop_moves : (fn : Function) (ss : List Stretch) (ls : List LoopInfo) (rs : List Region) (l : LoopInfo) → IsWithin (length fn.instrs) l → loop_fits fn l ≡ true → loop_fits (function_with fn (weakened_instrs ss fn.instrs) ls rs) (moved_loop ss fn.instrs l) ≡ true
loop_moves fn ss ls rs l w h =
    let a = both (has_instr fn l.at && has_instr fn l.first && has_instr fn l.last && has_register fn l.counter) (bound_is_register fn l.bound) h in
    let b = both (has_instr fn l.at && has_instr fn l.first && has_instr fn l.last) (has_register fn l.counter) a.0 in
    let p : nat_lt (seat_of ss fn.instrs l.at) (length (weakened_instrs ss fn.instrs)) ≡ true = there (seat_within ss fn.instrs l.at w.0) in
    let q : nat_lt (place_of ss fn.instrs l.first) (length (weakened_instrs ss fn.instrs)) ≡ true = there (place_within ss fn.instrs l.first w.1) in
    let r : nat_lt (seat_of ss fn.instrs l.last) (length (weakened_instrs ss fn.instrs)) ≡ true = there (seat_within ss fn.instrs l.last w.2) in
    four _ _ _ _ _ p q r b.1 (same l.bound a.1)
  where
    there : {m n : ℕ} → m < n → nat_lt m n ≡ true
    there {m} {n} lt = grind (arith, nat_tests, lt)

    four : (a b c d e : Bool) → a ≡ true → b ≡ true → c ≡ true → d ≡ true → e ≡ true → (a && b && c && d && e) ≡ true
    four a b c d e p q r s t = two (a && b && c && d) e (two (a && b && c) d (two (a && b) c (two a b p q) r) s) t

    same : (b : Bound) → bound_is_register fn b ≡ true → bound_is_register (function_with fn (weakened_instrs ss fn.instrs) ls rs) b ≡ true
    same (bound.Number z) h = refl
    same (bound.Register r) h = h

loops_move : (fn : Function) (ss : List Stretch) (ms : List LoopInfo) (rs : List Region) (ls : List LoopInfo) → AreWithin (length fn.instrs) ls → list_all (loop_fits fn) ls ≡ true → list_all (loop_fits (function_with fn (weakened_instrs ss fn.instrs) ms rs)) (map (moved_loop ss fn.instrs) ls) ≡ true
loops_move fn ss ms rs [] w h = refl
loops_move fn ss ms rs (l ∷ ls) w h =
    let b = both (loop_fits fn l) (list_all (loop_fits fn) ls) h in
    two (loop_fits (function_with fn (weakened_instrs ss fn.instrs) ms rs) (moved_loop ss fn.instrs l)) (list_all (loop_fits (function_with fn (weakened_instrs ss fn.instrs) ms rs)) (map (moved_loop ss fn.instrs) ls))
    (loop_moves fn ss ms rs l w.0 b.0) (loops_move fn ss ms rs ls w.1 b.1)

-- ---- one function

pub record Parts (code : Code) (fn : Function) : Type 0 where
  pub registers : registers_fit fn ≡ true
  pub order : order_fits fn.instrs ≡ true
  pub acts : acts_fit code fn fn.instrs ≡ true
  pub loops : loops_fit fn fn.loops ≡ true

pub parts : (code : Code) (fn : Function) → function_fits code fn ≡ true → Parts code fn
parts code fn h =
    let a = both (registers_fit fn && order_fits fn.instrs && acts_fit code fn fn.instrs && loops_fit fn fn.loops) (regions_fit code fn fn.regions) h in
    let b = both (registers_fit fn && order_fits fn.instrs && acts_fit code fn fn.instrs) (loops_fit fn fn.loops) a.0 in
    let c = both (registers_fit fn && order_fits fn.instrs) (acts_fit code fn fn.instrs) b.0 in
    let d = both (registers_fit fn) (order_fits fn.instrs) c.0 in
    record { registers = d.0; order = d.1; acts = c.1; loops = b.1 }

module _ (code : Code) (t : Tables) (locked : List Place) (rs : List Range) (rows : List Grained) (locks : List LockInfo) (many : length locks ≡ length locked) (counted : LoopsAreCounted code rows) where
  abbrev Functions : List Function
  Functions = weakened_functions code t locked rs rows 0 code.functions

  abbrev Weak : Code
  Weak = code_with code Functions locks

  bare_from : (f : ℕ) (fns : List Function) → map bare (weakened_functions code t locked rs rows f fns) ≡ map bare fns
  bare_from f [] = refl
  bare_from f (fn ∷ fns) = ap (λ z. bare fn ∷ z) (bare_from (f + 1) fns)

  with_fits : (f : ℕ) (fn : Function) → slice_get code.functions f ≡ Some fn → fn.regions ≡ [] → function_fits code fn ≡ true → (ss : List Stretch) → ss ≡ stretches_of fn (racy_accesses code t locked rs rows f) → function_fits Weak (with_stretches fn ss) ≡ true
  with_fits f fn at none h ss e =
      let p = parts code fn h in
      let pl : ArePlain (length fn.instrs) fn.instrs = plain_acts code fn fn.instrs none p.acts in
      let fit = accesses_fit code t locked rs rows counted f fn at in
      let each = stretches_right code Functions locks fn (λ k i g. all_at (λ j. act_fits code fn j.act) fn.instrs k i p.acts g)
      (weakened_instrs ss fn.instrs) (map (moved_loop ss fn.instrs) fn.loops) (map (λ s. s.region) ss) (racy_accesses code t locked rs rows f) (subst (λ n. Each (IsFit fn n) (racy_accesses code t locked rs rows f)) (sym many) fit) in
      let r = regions_right code Functions locks fn (λ k i g. all_at (λ j. act_fits code fn j.act) fn.instrs k i p.acts g)
      (weakened_instrs ss fn.instrs) (map (moved_loop ss fn.instrs) fn.loops) (map (λ s. s.region) ss) (stretches_of fn (racy_accesses code t locked rs rows f)) each in
      let s = subst (λ (z : List Stretch). AreAfter (length (objects_of fn.instrs)) z × (list_all (region_fits Weak (function_with fn (weakened_instrs ss fn.instrs) (map (moved_loop ss fn.instrs) fn.loops) (map (λ s. s.region) ss))) (map (λ s. s.region) z) ≡ true)) (sym e) r in
      five (registers_fit (with_stretches fn ss)) (order_fits (weakened_instrs ss fn.instrs)) (acts_fit Weak (with_stretches fn ss) (weakened_instrs ss fn.instrs)) (loops_fit (with_stretches fn ss) (map (moved_loop ss fn.instrs) fn.loops)) (regions_fit Weak (with_stretches fn ss) (map (λ s. s.region) ss)) p.registers (order ss fn.instrs pl s.0 p.order)
      (acts code fn Functions locks ss (map (moved_loop ss fn.instrs) fn.loops) (map (λ s. s.region) ss) (bare_from 0 code.functions) (length_map (λ s. s.region) ss) pl p.acts)
      (loops_move fn ss (map (moved_loop ss fn.instrs) fn.loops) (map (λ s. s.region) ss) fn.loops (loops_within fn fn.loops p.loops) p.loops) s.1
    where
      five : (a b c d e : Bool) → a ≡ true → b ≡ true → c ≡ true → d ≡ true → e ≡ true → (a && b && c && d && e) ≡ true
      five a b c d e p q r s t = two (a && b && c && d) e (two (a && b && c) d (two (a && b) c (two a b p q) r) s) t

  -- ---- all functions

  functions_from : (f : ℕ) (fns : List Function) → ((k : ℕ) (fn : Function) → slice_get fns k ≡ Some fn → slice_get code.functions (f + k) ≡ Some fn) → list_all (λ fn. length fn.regions == 0) fns ≡ true → list_all (function_fits code) fns ≡ true → list_all (function_fits Weak) (weakened_functions code t locked rs rows f fns) ≡ true
  functions_from f [] at n h = refl
  functions_from f (fn ∷ fns) at n h =
      let e : f + 0 ≡ f = omega arith in
      let a = both (function_fits code fn) (list_all (function_fits code) fns) h in
      let b = both (length fn.regions == 0) (list_all (λ fn. length fn.regions == 0) fns) n in
      two (function_fits Weak (weakened_function code t locked rs rows f fn)) (list_all (function_fits Weak) (weakened_functions code t locked rs rows (f + 1) fns))
      (with_fits f fn (subst (λ n. slice_get code.functions n ≡ Some fn) e (at 0 fn refl)) (no_items fn.regions b.0) a.0 (stretches_of fn (racy_accesses code t locked rs rows f)) refl)
      (functions_from (f + 1) fns (λ k g p. let s : f + suc k ≡ (f + 1) + k = omega arith in subst (λ n. slice_get code.functions n ≡ Some g) s (at (suc k) g p)) b.1 a.1)

  mains_on : (n f : ℕ) (fns : List Function) → fold (λ a x. a + (if is_main_function x then 1 else 0)) n (weakened_functions code t locked rs rows f fns) ≡ fold (λ a x. a + (if is_main_function x then 1 else 0)) n fns
  mains_on n f [] = refl
  mains_on n f (fn ∷ fns) = mains_on (n + (if is_main_function fn then 1 else 0)) (f + 1) fns

  mains_same : (f : ℕ) (fns : List Function) → mains_in (weakened_functions code t locked rs rows f fns) ≡ mains_in fns
  mains_same f fns = mains_on 0 f fns

  formals_same : (f : ℕ) (fns : List Function) → mains_have_no_formals (weakened_functions code t locked rs rows f fns) ≡ mains_have_no_formals fns
  formals_same f [] = refl
  formals_same f (fn ∷ fns) = ap (λ b. (not (is_main_function fn) || (fn.formals == 0)) && b) (formals_same (f + 1) fns)

  pub one_main : has_one_main code.functions ≡ true → has_one_main Functions ≡ true
  one_main h = ap (λ n. (n == 1) && mains_have_no_formals Functions) (mains_same 0 code.functions) ∙ ap (λ b. (mains_in code.functions == 1) && b) (formals_same 0 code.functions) ∙ h

  long_from : (f : ℕ) (fns : List Function) → length (weakened_functions code t locked rs rows f fns) ≡ length fns
  long_from f [] = refl
  long_from f (fn ∷ fns) = ap suc (long_from (f + 1) fns)

  pub limits : length locks ≤ most_locks → is_within_limits code ≡ true → is_within_limits Weak ≡ true
  limits few h =
      let a = both (nat_le (length code.functions) (2 ^ 20) && nat_le (length code.sites) 1023 && nat_le (length code.globals) (2 ^ 20)) (nat_le (length code.locks) most_locks) h in
      two (nat_le (length Functions) (2 ^ 20) && nat_le (length code.sites) 1023 && nat_le (length code.globals) (2 ^ 20)) (nat_le (length locks) most_locks)
      (ap (λ n. nat_le n (2 ^ 20) && nat_le (length code.sites) 1023 && nat_le (length code.globals) (2 ^ 20)) (long_from 0 code.functions) ∙ a.0)
      (few_enough (length locks) most_locks few)
    where
      few_enough : (m n : ℕ) → m ≤ n → nat_le m n ≡ true
      few_enough m n le = grind (arith, nat_tests, le)

  pub functions : is_plain code ≡ true → functions_fit code code.functions ≡ true → functions_fit Weak Functions ≡ true
  functions p h = functions_from 0 code.functions (λ k fn g. let e : k ≡ 0 + k = omega arith in subst (λ n. slice_get code.functions n ≡ Some fn) e g) (both (length code.locks == 0) (list_all (λ fn. length fn.regions == 0) code.functions) p).1 h

-- ---- the code

contained : {X : Type 0} (xs : List X) (k : ℕ) (x : X) → slice_get xs k ≡ Some x → Contains xs x
contained xs k x h = (k, slice_get_within xs k x h, get_or_from_slice_get xs k x x h)

pub weakened_valid : (code : Code) (t : Tables) (ss : List Summary) (vs : List Pair) (rs : List Range) (profile : Profile) (rows : List Grained)
    → is_valid code ≡ true → is_plain code ≡ true → loops_are_apart code ≡ true → AreAnswers code t ss vs rs profile rows → is_valid (weakened code t vs rs rows) ≡ true
unfolding weakened
weakened_valid code t ss vs rs profile rows v p apart answers =
    let a = both (is_within_limits code && sites_fit code.sites && all_locks_fit code code.locks && has_one_main code.functions && functions_fit code code.functions) (globals_fit code) v in
    let b = both (is_within_limits code && sites_fit code.sites && all_locks_fit code code.locks && has_one_main code.functions) (functions_fit code code.functions) a.0 in
    let c = both (is_within_limits code && sites_fit code.sites && all_locks_fit code code.locks) (has_one_main code.functions) b.0 in
    let d = both (is_within_limits code && sites_fit code.sites) (all_locks_fit code code.locks) c.0 in
    let e = both (is_within_limits code) (sites_fit code.sites) d.0 in
    let w = words_do_fit code a.1 in
    let m = both (nat_le (length code.functions) (2 ^ 20)) (nat_le (length code.sites) 1023) (both (nat_le (length code.functions) (2 ^ 20) && nat_le (length code.sites) 1023) (nat_le (length code.globals) (2 ^ 20)) (both (nat_le (length code.functions) (2 ^ 20) && nat_le (length code.sites) 1023 && nat_le (length code.globals) (2 ^ 20)) (nat_le (length code.locks) most_locks) e.0).0).0 in
    let place = λ (f r : ℕ) (q : Place) (h : MayPoint code (Register f r) q). place_of_code code e.1 (λ k fn g. (parts code fn (all_at (function_fits code) code.functions k fn b.1 g)).acts) w (Register f r) q h in
    let of = places_all (IsPlaceOf code.sites) vs (λ k x g. pointed code t answers.points place x.first x.place (answers.pairs.race x (contained vs k x g)).touches.0) in
    let few : length (places_in vs) ≤ most_locks = few_places code.sites (places_in vs) (at_most (length code.sites) 1023 m.1) of (places_ascend vs answers.pairs.ascending) in
    let many : length (locks_for code t rows (places_in vs)) ≡ length (places_in vs) = long (places_in vs) in
    let counted = loops_are_counted code t vs rs profile rows apart answers.ranges answers.grains in
    six _ _ _ _ _ _
    (limits code t (places_in vs) rs rows (locks_for code t rows (places_in vs)) many counted (omega (arith, few, many)) e.0)
    e.1
    (locks_are_fit code (weakened code t vs rs rows) t rows (places_in vs) refl of)
    (one_main code t (places_in vs) rs rows (locks_for code t rows (places_in vs)) many counted c.1)
    (functions code t (places_in vs) rs rows (locks_for code t rows (places_in vs)) many counted p b.1)
    (globals code (weakened_functions code t (places_in vs) rs rows 0 code.functions) (locks_for code t rows (places_in vs)) ∙ a.1)
  where
    at_most : (m n : ℕ) → nat_le m n ≡ true → m ≤ n
    at_most m n h = grind arith

    long : (ps : List Place) → length (locks_for code t rows ps) ≡ length ps
    long [] = refl
    long (q ∷ ps) = ap suc (long ps)

    six : (a b c d e f : Bool) → a ≡ true → b ≡ true → c ≡ true → d ≡ true → e ≡ true → f ≡ true → (a && b && c && d && e && f) ≡ true
    six a b c d e f p q r s t u = two (a && b && c && d && e) f (two (a && b && c && d) e (two (a && b && c) d (two (a && b) c (two a b p q) r) s) t) u
