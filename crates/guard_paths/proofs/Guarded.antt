-- Each access that may race lies in a region that has its locks.
use Rattle.std.proofs.Common.{◌≡◌, ℕ, zero, suc, ◌+◌, ◌-◌, ◌<◌, ◌≤◌, Bool, true, false, ℤ, List, [], ◌∷◌, ◌++◌, length, map, refl, sym, ap, ◌∙◌, subst, arith, Option, Some, None, filter, option_map}
use Rattle.std.specs.Prelude.{slice_get, if◌then◌else◌, nat_lt, ◌==◌}
use Rattle.std.specs.List.{filter_map, cons_option, Contains}
use Rattle.std.proofs.lemmas.Bool.Decides.{nat_tests}
use Rattle.std.proofs.lemmas.Option.{same_Some, slice_get_within, get_or_from_slice_get, slice_get-get_or}
use Rattle.rr_base.specs.declared.layout.Place.{Place}
use Rattle.flow_code.specs.declared.act.Act.{Act}
use Rattle.flow_code.specs.declared.act.Act.TheVariants as act
use Rattle.flow_code.specs.declared.code.Code.{Code}
use Rattle.flow_code.specs.declared.code.Function.{Function}
use Rattle.flow_code.specs.declared.code.LoopInfo.{LoopInfo}
use Rattle.flow_code.specs.declared.region.Region.TheVariants as region
use Rattle.flow_code.specs.declared.region.Span.{Span}
use Rattle.flow_code.specs.Threads.{objects_of}
use Rattle.facts.specs.declared.pair.Pair.{Pair}
use Rattle.profiles.specs.declared.profile.Profile.{Profile}
use Rattle.facts.specs.Accesses.{Access}
use Rattle.facts.specs.Pairs.{access_in, act_of}
use Rattle.facts.specs.PointsTo.{Tables}
use Rattle.weak_lock_facts.specs.declared.grain.Grain.{Grain}
use Rattle.weak_lock_facts.specs.declared.grain.Grain.TheVariants as grain
use Rattle.weak_lock_facts.specs.declared.grain.Grained.{Grained}
use Rattle.weak_lock_facts.specs.declared.range.Range.{Range}
use Rattle.weak_lock_facts.specs.Grains.{is_load_or_store, AreGrains}
use Rattle.weak_lock_facts.specs.Loops.{is_counted}
use Rattle.weak_lock_facts.specs.Ranges.{ranges_of}
use Rattle.weak_code.specs.declared.stretch.RacyAccess.{RacyAccess}
use Rattle.weak_code.specs.declared.stretch.Stretch.{Stretch}
use Rattle.weak_code.specs.Stretches.{racy_through, racy_access, racy_accesses, same_grain, with_grain, with_all, with_their_locks, all_locks, last_of, function_stretch, span_with, span_of, spans_of, loop_stretch, loop_stretches, block_stretch, block_from, block_stretches, access_stretch, access_stretches, stretches_of}
use Rattle.weak_code.specs.WeakLocks.{with_number}
use Rattle.guard_paths.specs.Guards.{Guards}
use Rattle.weak_valid.proofs.Accesses.{Each, each_filter, each_at, IsFit}
use Rattle.guard_paths.proofs.Closed.{in_block, head_row, row_grain}
use Rattle.weak_valid.proofs.CountedLoops.{IsOfLoop, loop_found, loop_known, ranges_of_loops}
use Rattle.guard_paths.proofs.Nested.{IsIn}
use Rattle.weak_valid.proofs.RegionsFit.{past_objects, access_object}
use Rattle.guard_paths.proofs.Spread.{HasRow, have_rows, InstrsAscend, instrs_ascend}

-- ---- lists that have an item

abbrev pub In : {X : Type 0} → X → List X → Type 0
In x xs = (k : ℕ) × (slice_get xs k ≡ Some x)

pub in_contains : {X : Type 0} (x : X) (xs : List X) → In x xs → Contains xs x
in_contains x xs h = (h.0, slice_get_within xs h.0 x h.1, get_or_from_slice_get xs h.0 x x h.1)

pub contains_in : {X : Type 0} (x : X) (xs : List X) → Contains xs x → In x xs
contains_in x xs c = (c.0, slice_get-get_or xs c.0 x c.1 ∙ ap Some c.2)

in_left : {X : Type 0} (x : X) (xs ys : List X) → In x xs → In x (xs ++ ys)
in_left x [] ys (k, h) = cc
in_left x (y ∷ xs) ys (zero, h) = (0, h)
in_left x (y ∷ xs) ys (suc k, h) = let r = in_left x xs ys (k, h) in (suc r.0, r.1)

in_right : {X : Type 0} (x : X) (xs ys : List X) → In x ys → In x (xs ++ ys)
in_right x [] ys h = h
in_right x (y ∷ xs) ys h = let r = in_right x xs ys h in (suc r.0, r.1)

in_map : {X Y : Type 0} (f : X → Y) (x : X) (xs : List X) → In x xs → In (f x) (map f xs)
in_map f x [] (k, h) = cc
in_map f x (y ∷ xs) (zero, h) = (0, ap (λ z. Some (f z)) (same_Some y x h))
in_map f x (y ∷ xs) (suc k, h) = let r = in_map f x xs (k, h) in (suc r.0, r.1)

in_filter : {X : Type 0} (test : X → Bool) (x : X) (xs : List X) → In x xs → test x ≡ true → In x (filter test xs)
in_filter test x [] (k, h) t = cc
in_filter {X} test x (y ∷ xs) (zero, h) t = go (test y) (ap test (same_Some y x h) ∙ t)
  where
    go : (b : Bool) → b ≡ true → In x (if b then y ∷ filter test xs else filter test xs)
    go true e = (0, h)
    go false e = cc
in_filter {X} test x (y ∷ xs) (suc k, h) t = go (test y) (in_filter test x xs (k, h) t)
  where
    go : (b : Bool) → In x (filter test xs) → In x (if b then y ∷ filter test xs else filter test xs)
    go true r = (suc r.0, r.1)
    go false r = r

pub in_filter_map : {X Y : Type 0} (f : X → Option Y) (x : X) (y : Y) (xs : List X) → In x xs → f x ≡ Some y → In y (filter_map f xs)
in_filter_map f x y [] (k, h) e = cc
in_filter_map {X} {Y} f x y (z ∷ xs) (zero, h) e = go (f z) (ap f (same_Some z x h) ∙ e)
  where
    go : (o : Option Y) → o ≡ Some y → In y (cons_option o (filter_map f xs))
    go None q = cc
    go (Some w) q = (0, q)
in_filter_map {X} {Y} f x y (z ∷ xs) (suc k, h) e = go (f z) (in_filter_map f x y xs (k, h) e)
  where
    go : (o : Option Y) → In y (filter_map f xs) → In y (cons_option o (filter_map f xs))
    go None r = r
    go (Some w) r = (suc r.0, r.1)

-- ---- the locks of some accesses

pub number_in : (n : ℕ) (xs : List ℕ) → In n (with_number n xs)
number_in n [] = (0, refl)
number_in n (x ∷ xs) = go (nat_lt x n) (x == n) refl (number_in n xs)
  where
    go : (b c : Bool) → (x == n) ≡ c → In n (with_number n xs) → In n (if b then x ∷ with_number n xs else (if c then x ∷ xs else n ∷ x ∷ xs))
    go true c e r = (suc r.0, r.1)
    go false true e r = let q : x ≡ n = grind (arith, nat_tests, e) in (0, ap Some q)
    go false false e r = (0, refl)

pub number_kept : (m n : ℕ) (xs : List ℕ) → In m xs → In m (with_number n xs)
number_kept m n [] (k, h) = cc
number_kept m n (x ∷ xs) h = go (nat_lt x n) (x == n) (λ k g. number_kept m n xs (k, g)) h
  where
    go : (b c : Bool) → ((k : ℕ) → slice_get xs k ≡ Some m → In m (with_number n xs)) → In m (x ∷ xs) → In m (if b then x ∷ with_number n xs else (if c then x ∷ xs else n ∷ x ∷ xs))
    go true c rec (zero, h) = (0, h)
    go true c rec (suc k, h) = let r = rec k h in (suc r.0, r.1)
    go false true rec h = h
    go false false rec h = (suc h.0, h.1)

all_kept : (m : ℕ) (found ns : List ℕ) → In m found → In m (with_all found ns)
all_kept m found [] h = h
all_kept m found (n ∷ ns) h = all_kept m (with_number n found) ns (number_kept m n found h)

all_in : (m : ℕ) (found ns : List ℕ) → In m ns → In m (with_all found ns)
all_in m found [] (k, h) = cc
all_in m found (n ∷ ns) (zero, h) = all_kept m (with_number n found) ns (subst (λ z. In m (with_number z found)) (sym (same_Some n m h)) (number_in m found))
all_in m found (n ∷ ns) (suc k, h) = all_in m (with_number n found) ns (k, h)

their_kept : (m : ℕ) (found : List ℕ) (accesses : List RacyAccess) → In m found → In m (with_their_locks found accesses)
their_kept m found [] h = h
their_kept m found (a ∷ more) h = their_kept m (with_all found a.locks) more (all_kept m found a.locks h)

their_in : (m : ℕ) (found : List ℕ) (accesses : List RacyAccess) (a : RacyAccess) → In a accesses → In m a.locks → In m (with_their_locks found accesses)
their_in m found [] a (k, h) i = cc
their_in m found (x ∷ more) a (zero, h) i = their_kept m (with_all found x.locks) more (all_in m found x.locks (subst (λ (z : RacyAccess). In m z.locks) (sym (same_Some x a h)) i))
their_in m found (x ∷ more) a (suc k, h) i = their_in m (with_all found x.locks) more a (k, h) i

-- a whole region of accesses guards each of them
whole_guards : (fn : Function) (a : RacyAccess) (accesses : List RacyAccess) → In a accesses → Guards fn a (region.Whole (all_locks accesses))
whole_guards fn a accesses h n c = in_contains n (all_locks accesses) (their_in n [] accesses a h (contains_in n a.locks c))

-- ---- the last of some accesses

filter_ascends : (test : RacyAccess → Bool) (xs : List RacyAccess) → InstrsAscend xs → InstrsAscend (filter test xs)
filter_ascends test [] h = tt
filter_ascends test (x ∷ xs) h = go (test x) (each_filter (λ b. x.instr < b.instr) test xs h.0) (filter_ascends test xs h.1)
  where
    go : (b : Bool) → Each (λ b. x.instr < b.instr) (filter test xs) → InstrsAscend (filter test xs) → InstrsAscend (if b then x ∷ filter test xs else filter test xs)
    go true e r = (e, r)
    go false e r = r

last_above : (n : ℕ) (xs : List RacyAccess) → InstrsAscend xs → Each (λ b. n ≤ b.instr) xs → n ≤ last_of n xs
last_above n [] h e = omega arith
last_above n (x ∷ xs) h e = omega (arith, e.0, last_above x.instr xs h.1 (weaker xs h.0))
  where
    weaker : (ys : List RacyAccess) → Each (λ b. x.instr < b.instr) ys → Each (λ b. x.instr ≤ b.instr) ys
    weaker [] h = tt
    weaker (y ∷ ys) h = (omega (arith, h.0), weaker ys h.1)

last_reaches : (n : ℕ) (xs : List RacyAccess) (a : RacyAccess) → InstrsAscend xs → In a xs → a.instr ≤ last_of n xs
last_reaches n [] a h (k, g) = cc
last_reaches n (x ∷ xs) a h (zero, g) = omega (arith, ap (λ (z : RacyAccess). z.instr) (same_Some x a g), last_above x.instr xs h.1 (weaker xs h.0))
  where
    weaker : (ys : List RacyAccess) → Each (λ b. x.instr < b.instr) ys → Each (λ b. x.instr ≤ b.instr) ys
    weaker [] h = tt
    weaker (y ∷ ys) h = (omega (arith, h.0), weaker ys h.1)
last_reaches n (x ∷ xs) a h (suc k, g) = last_reaches x.instr xs a h.1 (k, g)

-- ---- the region of an access

-- one of these regions lies round the access and guards it
pub record IsRound (fn : Function) (ss : List Stretch) (a : RacyAccess) : Type 0 where
  pub s : Stretch
  pub one : In s ss
  pub round : IsIn s a.instr
  pub guards : Guards fn a s.region

same_self : (x : Grain) → same_grain x x ≡ true
same_self grain.Function = refl
same_self (grain.Loop m) = grind (arith, nat_tests)
same_self (grain.Block m) = grind (arith, nat_tests)
same_self grain.Instruction = refl

in_grain : (x : Grain) (a : RacyAccess) (xs : List RacyAccess) → In a xs → a.grain ≡ x → In a (with_grain x xs)
in_grain x a xs h e = in_filter (λ b. same_grain x b.grain) a xs h (subst (λ z. same_grain x z ≡ true) (sym e) (same_self x))

module _ (code : Code) (t : Tables) (locked : List Place) (ps : List Pair) (rs : List Range) (profile : Profile) (rows : List Grained) (grains : AreGrains code ps rs profile rows) (ranges : rs ≡ ranges_of code t) (f : ℕ) (fn : Function) (at : slice_get code.functions f ≡ Some fn) (m : ℕ) (fit : Each (IsFit fn m) (racy_accesses code t locked rs rows f)) where
  abbrev Own : List RacyAccess
  Own = racy_accesses code t locked rs rows f

  fit_of : (a : RacyAccess) → In a Own → IsFit fn m a
  fit_of a h = each_at (IsFit fn m) Own h.0 a fit h.1

  row_of : (a : RacyAccess) → In a Own → HasRow code t locked rs rows f a
  row_of a h = each_at (HasRow code t locked rs rows f) Own h.0 a (have_rows code t locked rs rows f) h.1

  -- ---- guarded with the function

  in_function : (a : RacyAccess) (xs : List RacyAccess) → In a xs → IsFit fn m a → IsRound fn (function_stretch fn xs) a
  in_function a [] (k, h) g = cc
  in_function a (x ∷ more) h g = record {
    s = record { first = length (objects_of fn.instrs); last = length fn.instrs - 1; region = region.Whole (all_locks (x ∷ more)) };
    one = (0, refl);
    round = (past_objects fn.instrs a.instr g.instr g.at (access_object g.instr.act g.access g.is), (let q = slice_get_within fn.instrs a.instr g.instr g.at in omega arith));
    guards = whole_guards fn a (x ∷ more) h;
  }

  -- ---- guarded with a loop

  -- the counted loop of an access, and its shift
  pub record HasLoop (a : RacyAccess) (n : ℕ) : Type 0 where
    pub k : ℕ
    pub loop : LoopInfo
    pub listed : slice_get fn.loops k ≡ Some loop
    pub counted : is_counted fn loop ≡ true
    pub mark : loop.at ≡ n
    pub above : loop.at < a.instr
    pub below : a.instr ≤ loop.last
    pub d : ℤ
    pub shift : a.shift ≡ Some d

  has_loop : (a : RacyAccess) → HasRow code t locked rs rows f a → (n : ℕ) → a.grain ≡ grain.Loop n → HasLoop a n
  has_loop a h n e =
      let q = loop_found rs h.row.access n (loop_known code ps rs profile h.row.access n (row_grain code t locked ps rs profile rows grains f fn at a h (grain.Loop n) e)) in
      let o = each_at (IsOfLoop code) rs q.0 q.1 (subst (Each (IsOfLoop code)) (sym ranges) (ranges_of_loops code t)) q.2 in
      let s : o.fn ≡ fn = same_Some o.fn fn (sym o.at ∙ ap (slice_get code.functions) (q.3 ∙ h.of) ∙ at) in
      let r : q.1.instr ≡ a.instr = q.5 ∙ ap (λ (z : RacyAccess). z.instr) (sym h.is) in
      record {
        k = o.k;
        loop = o.counted;
        listed = subst (λ (g : Function). slice_get g.loops o.k ≡ Some o.counted) s o.listed;
        counted = subst (λ g. is_counted g o.counted ≡ true) s o.is;
        mark = o.mark ∙ q.4;
        above = omega (arith, o.above, r);
        below = omega (arith, o.below, r);
        d = q.1.shift;
        shift = ap (λ (z : RacyAccess). z.shift) h.is ∙ ap (option_map (λ (z : Range). z.shift)) q.6;
      }

  spans_in : (a : RacyAccess) (n : ℕ) (d : ℤ) → In a Own → a.grain ≡ grain.Loop n → a.shift ≡ Some d → In (span_with fn.instrs a d) (spans_of fn.instrs n Own)
  spans_in a n d h e q = in_filter_map (span_of fn.instrs) a (span_with fn.instrs a d) (with_grain (grain.Loop n) Own) (in_grain (grain.Loop n) a Own h e) (ap (option_map (span_with fn.instrs a)) q)

  in_spans : (l : LoopInfo) (spans : List Span) (x : Span) → In x spans → loop_stretch l spans ≡ Some (record { first = l.at; last = l.last + 1; region = region.Ranged l.counter l.bound spans })
  in_spans l [] x (k, h) = cc
  in_spans l (y ∷ spans) x h = refl

  in_loop : (a : RacyAccess) (n : ℕ) → In a Own → a.grain ≡ grain.Loop n → IsRound fn (loop_stretches fn Own) a
  in_loop a n h e =
      let o = has_loop a (row_of a h) n e in
      let g : a.grain ≡ grain.Loop o.loop.at = e ∙ ap (λ z. grain.Loop z) (sym o.mark) in
      let i = spans_in a o.loop.at o.d h g o.shift in
      record {
        s = record { first = o.loop.at; last = o.loop.last + 1; region = region.Ranged o.loop.counter o.loop.bound (spans_of fn.instrs o.loop.at Own) };
        one = in_filter_map (λ l. loop_stretch l (spans_of fn.instrs l.at Own)) o.loop (record { first = o.loop.at; last = o.loop.last + 1; region = region.Ranged o.loop.counter o.loop.bound (spans_of fn.instrs o.loop.at Own) }) fn.loops (o.k, o.listed) (in_spans o.loop (spans_of fn.instrs o.loop.at Own) (span_with fn.instrs a o.d) i);
        round = (omega (arith, o.above), omega (arith, o.below));
        guards = record { loop = o.loop; listed = in_contains o.loop fn.loops (o.k, o.listed); counted = o.counted; guarded = g; counter = refl; bound = refl; shift = o.d; ranged = o.shift; span = in_contains (span_with fn.instrs a o.d) (spans_of fn.instrs o.loop.at Own) i };
      }

  -- ---- guarded with a block

  cell_access : (o : Option Act) → is_load_or_store o ≡ true → (x : Access) × (access_in o ≡ Some x)
  cell_access (Some (act.LoadCell into through)) h = (record { store = false; through = through }, refl)
  cell_access (Some (act.StoreCell through from)) h = (record { store = true; through = through }, refl)
  cell_access _ h = cc

  head_in : (a : RacyAccess) (n : ℕ) → In a Own → a.grain ≡ grain.Block n → (b : RacyAccess) × In b Own × (b.instr ≡ n) × (b.grain ≡ grain.Block n)
  head_in a n h e =
      let r = head_row code t locked ps rs profile rows grains f fn at a (row_of a h) n e in
      let x = cell_access (act_of code r.1.access) r.6 in (
        racy_through code t locked rs r.1 x.0,
        in_filter_map (racy_access code t locked rs) r.1 (racy_through code t locked rs r.1 x.0) (filter (λ g. g.access.function == f) rows) (in_filter (λ g. g.access.function == f) r.1 rows (r.0, r.2) (grind (arith, nat_tests, r.3))) (ap (option_map (racy_through code t locked rs r.1)) x.1),
        r.4,
        r.5,
      )

  in_block_region : (a : RacyAccess) (n : ℕ) → In a Own → a.grain ≡ grain.Block n → IsRound fn (block_stretches Own) a
  in_block_region a n h e =
      let b = head_in a n h e in
      let g : a.grain ≡ grain.Block b.0.instr = e ∙ ap (λ z. grain.Block z) (sym b.2) in
      let k : b.0.grain ≡ grain.Block b.0.instr = b.3 ∙ ap (λ z. grain.Block z) (sym b.2) in
      let same : same_grain (grain.Block b.0.instr) b.0.grain ≡ true = subst (λ z. same_grain (grain.Block b.0.instr) z ≡ true) (sym k) (same_self (grain.Block b.0.instr)) in
      let i = in_grain (grain.Block b.0.instr) a Own h g in
      let low = (in_block code t locked ps rs profile rows grains f fn at a (row_of a h) b.0.instr g).low in
      record {
        s = block_stretch b.0.instr (with_grain (grain.Block b.0.instr) Own);
        one = in_filter_map (block_from Own) b.0 (block_stretch b.0.instr (with_grain (grain.Block b.0.instr) Own)) Own b.1 (ap (λ c. if c then Some (block_stretch b.0.instr (with_grain (grain.Block b.0.instr) Own)) else None) same);
        round = (low, last_reaches b.0.instr (with_grain (grain.Block b.0.instr) Own) a (filter_ascends (λ x. same_grain (grain.Block b.0.instr) x.grain) Own (instrs_ascend code t locked rs rows f grains.ascending)) i);
        guards = whole_guards fn a (with_grain (grain.Block b.0.instr) Own) i;
      }

  -- ---- guarded alone

  in_access : (a : RacyAccess) → In a Own → a.grain ≡ grain.Instruction → IsRound fn (access_stretches Own) a
  in_access a h e = record {
    s = access_stretch a;
    one = in_map access_stretch a (with_grain grain.Instruction Own) (in_grain grain.Instruction a Own h e);
    round = (omega arith, omega arith);
    guards = (refl, refl);
  }

  -- ---- any access

  left_round : (xs ys : List Stretch) (a : RacyAccess) → IsRound fn xs a → IsRound fn (xs ++ ys) a
  left_round xs ys a h = record { s = h.s; one = in_left h.s xs ys h.one; round = h.round; guards = h.guards }

  right_round : (xs ys : List Stretch) (a : RacyAccess) → IsRound fn ys a → IsRound fn (xs ++ ys) a
  right_round xs ys a h = record { s = h.s; one = in_right h.s xs ys h.one; round = h.round; guards = h.guards }

  pub in_region : (a : RacyAccess) → In a Own → IsRound fn (stretches_of fn Own) a
  in_region a h = go a.grain refl
    where
      go : (x : Grain) → a.grain ≡ x → IsRound fn (stretches_of fn Own) a
      go grain.Function e = left_round (function_stretch fn (with_grain grain.Function Own)) (loop_stretches fn Own ++ (block_stretches Own ++ access_stretches Own)) a (in_function a (with_grain grain.Function Own) (in_grain grain.Function a Own h e) (fit_of a h))
      go (grain.Loop n) e = right_round (function_stretch fn (with_grain grain.Function Own)) (loop_stretches fn Own ++ (block_stretches Own ++ access_stretches Own)) a (left_round (loop_stretches fn Own) (block_stretches Own ++ access_stretches Own) a (in_loop a n h e))
      go (grain.Block n) e = right_round (function_stretch fn (with_grain grain.Function Own)) (loop_stretches fn Own ++ (block_stretches Own ++ access_stretches Own)) a (right_round (loop_stretches fn Own) (block_stretches Own ++ access_stretches Own) a (left_round (block_stretches Own) (access_stretches Own) a (in_block_region a n h e)))
      go grain.Instruction e = right_round (function_stretch fn (with_grain grain.Function Own)) (loop_stretches fn Own ++ (block_stretches Own ++ access_stretches Own)) a (right_round (loop_stretches fn Own) (block_stretches Own ++ access_stretches Own) a (right_round (block_stretches Own) (access_stretches Own) a (in_access a h e)))
