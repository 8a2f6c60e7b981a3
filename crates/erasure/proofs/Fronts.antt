-- No region begins or ends among the first instructions of a function, which make its objects.
use Rattle.std.proofs.Common.{◌≡◌, ℕ, zero, suc, ◌+◌, ◌<◌, ◌≤◌, ◌==◌, Bool, true, false, cond, List, [], ◌∷◌, ◌++◌, length, map, refl, sym, ap, ◌∙◌, subst, arith, zero-add, Some, None, Option, filter}
use Rattle.std.specs.Prelude.{slice_get, if◌then◌else◌, nat_le, option_map, filter_map}
use Rattle.std.proofs.lemmas.Bool.{true≢false, leb-true, leb-false, eqb-true}
use Rattle.std.proofs.lemmas.Bool.Decides.{nat_tests}
use Rattle.rr_base.specs.declared.layout.Place.{Place}
use Rattle.flow_code.specs.declared.act.Act.{Act}
use Rattle.flow_code.specs.declared.act.Act.TheVariants as act
use Rattle.flow_code.specs.declared.act.Instr.{Instr}
use Rattle.flow_code.specs.declared.code.Code.{Code}
use Rattle.flow_code.specs.declared.code.Function.{Function}
use Rattle.flow_code.specs.declared.code.LoopInfo.{LoopInfo}
use Rattle.flow_code.specs.declared.region.Span.{Span}
use Rattle.flow_code.specs.Next.{act_in}
use Rattle.flow_code.specs.Threads.{Object, object, object_of, and_objects, objects_of, objects_in, instrs_in}
use Rattle.facts.specs.Accesses.{Access}
use Rattle.facts.specs.Pairs.{access_in, act_of}
use Rattle.facts.specs.PointsTo.{Tables}
use Rattle.weak_lock_facts.specs.declared.grain.Grain.{Grain}
use Rattle.weak_lock_facts.specs.declared.grain.Grain.TheVariants as grain
use Rattle.weak_lock_facts.specs.declared.grain.Grained.{Grained}
use Rattle.weak_lock_facts.specs.declared.range.Range.{Range}
use Rattle.weak_code.specs.declared.stretch.RacyAccess.{RacyAccess}
use Rattle.weak_code.specs.declared.stretch.Stretch.{Stretch}
use Rattle.weak_code.specs.Places.{numbers_from, begins_at, ends_before, beginning, gives, takes, turned, before, enter}
use Rattle.weak_code.specs.Stretches.{racy_through, racy_access, racy_accesses, same_grain, with_grain, last_of, function_stretch, loop_stretch, spans_of, loop_stretches, block_stretch, block_from, block_stretches, access_stretch, access_stretches, stretches_of}
use Rattle.weak_code.specs.Stripped.{is_weak}
use Rattle.weak_code.specs.Weakened.{retarget, at_instr, block, blocks, weakened_function, weakened}
use Rattle.weak_code.specs.WeakLocks.{places_in}
use Rattle.facts.specs.declared.pair.Pair.{Pair}
use Rattle.std.specs.List.{cons_option}
use Rattle.weak_code.proofs.Stripping.{AreWeak, weak_before}
use Rattle.erasure.proofs.Kept.{same_object}
use Rattle.erasure.proofs.Seats.{block_then}
use Rattle.erasure.proofs.WeakRuns.{weakened_at}

-- ---- stretches after a place

-- the region begins at no place before, nor does it end before such a place
abbrev pub IsAfter : ℕ → Stretch → Type 0
IsAfter m s = (m ≤ s.first) × (m ≤ s.last + 1)

abbrev pub AreAfter : ℕ → List Stretch → Type 0
AreAfter m [] = Unit {0}
AreAfter m (s ∷ ss) = IsAfter m s × AreAfter m ss

joined : (m : ℕ) (xs ys : List Stretch) → AreAfter m xs → AreAfter m ys → AreAfter m (xs ++ ys)
joined m [] ys h k = k
joined m (x ∷ xs) ys h k = (h.0, joined m xs ys h.1 k)

none_begin : (m k n : ℕ) (ss : List Stretch) → k < m → AreAfter m ss → numbers_from n (begins_at k) ss ≡ []
none_begin m k n [] lt h = refl
none_begin m k n (s ∷ ss) lt h =
    let le = h.0.0 in
    let apart : (s.first == k) ≡ false = grind (arith, nat_tests, lt, le) in
    ap (λ b. if b then n ∷ numbers_from (n + 1) (begins_at k) ss else numbers_from (n + 1) (begins_at k) ss) apart ∙ none_begin m k (n + 1) ss lt h.1

none_end : (m k n : ℕ) (ss : List Stretch) → k < m → AreAfter m ss → numbers_from n (ends_before k) ss ≡ []
none_end m k n [] lt h = refl
none_end m k n (s ∷ ss) lt h =
    let le = h.0.1 in
    let apart : (s.last + 1 == k) ≡ false = grind (arith, nat_tests, lt, le) in
    ap (λ b. if b then n ∷ numbers_from (n + 1) (ends_before k) ss else numbers_from (n + 1) (ends_before k) ss) apart ∙ none_end m k (n + 1) ss lt h.1

-- so nothing is put before the instruction there, if it is no return
none_turned : (m k : ℕ) (ss : List Stretch) → k < m → AreAfter m ss → turned ss k ≡ []
none_turned m k ss lt h =
    ap (λ ns. gives ns ++ takes (beginning ss k)) (none_end m k 0 ss lt h) ∙ ap takes (none_begin m k 0 ss lt h)

-- ---- the objects of a function

weak_object : (a : Act) → is_weak a ≡ true → object_of a ≡ None
weak_object (act.Take r) h = refl
weak_object (act.Give r) h = refl
weak_object (act.Alloc into site size) h = absurd (true≢false (sym h))
weak_object _ h = refl

module _ (m : ℕ) (ss : List Stretch) (all : List Instr) (following : AreAfter m ss) where
  no_more : (i y : Instr) (bs : List Act) (rest : List Instr) → AreWeak bs → object_of y.act ≡ None → objects_of (map (at_instr i) bs ++ y ∷ rest) ≡ []
  no_more i y [] rest weak none = ap (λ o. and_objects o (objects_of rest)) none
  no_more i y (b ∷ bs) rest weak none = ap (λ o. and_objects o (objects_of (map (at_instr i) bs ++ y ∷ rest))) (weak_object b weak.0)

  same_objects : (n : ℕ) (is : List Instr) → n + length (objects_of is) ≤ m → objects_of (blocks ss all n is) ≡ objects_of is
  same_objects n [] le = refl
  same_objects n (i ∷ is) le = by i.act (blocks ss all (n + 1) is) (λ le. same_objects (n + 1) is le) le
    where
      by : (a : Act) (ys : List Instr) → ((n + 1) + length (objects_of is) ≤ m → objects_of ys ≡ objects_of is) → n + length (and_objects (object_of a) (objects_of is)) ≤ m →
          objects_of (block ss all n (at_instr i a) ++ ys) ≡ and_objects (object_of a) (objects_of is)
      by (act.Alloc into site None) ys rest le =
          let j = at_instr i (act.Alloc into site None) in
          ap objects_of (block_then ss all n j ys)
          ∙ ap (λ bs. objects_of (map (at_instr i) (bs ++ []) ++ j ∷ ys)) (none_turned m n ss (omega (arith, le)) following)
          ∙ ap (λ os. object into site ∷ os) (rest (omega (arith, le)))
      by a ys rest le =
          let j = at_instr i a in
          ap objects_of (block_then ss all n j ys)
          ∙ no_more j (at_instr i (retarget (enter ss all n) a)) (before ss n a) ys (weak_before ss n a) (same_object (enter ss all n) a)

-- an object's instruction makes it
object_at : (is : List Instr) (k : ℕ) → k < length (objects_of is) → (into : ℕ) × (site : ℕ) × (act_in (slice_get is k) ≡ Some (act.Alloc into site None))
object_at [] k lt = absurd (omega (arith, lt))
object_at (i ∷ is) k lt = by i.act k lt (λ j lt. object_at is j lt)
  where
    by : (a : Act) (k : ℕ) → k < length (and_objects (object_of a) (objects_of is)) → ((j : ℕ) → j < length (objects_of is) → (into : ℕ) × (site : ℕ) × (act_in (slice_get is j) ≡ Some (act.Alloc into site None))) →
        (into : ℕ) × (site : ℕ) × (act_in (slice_get (at_instr i a ∷ is) k) ≡ Some (act.Alloc into site None))
    by (act.Alloc into site None) zero lt rest = (into, site, refl)
    by (act.Alloc into site None) (suc k) lt rest = rest k (omega (arith, lt))
    by a k lt rest = absurd (omega (arith, lt))

few_objects : (is : List Instr) → length (objects_of is) ≤ length is
few_objects [] = omega arith
few_objects (i ∷ is) = by (object_of i.act) (few_objects is)
  where
    by : (o : Option Object) → length (objects_of is) ≤ length is → length (and_objects o (objects_of is)) ≤ suc (length is)
    by None le = omega arith
    by (Some o) le = omega (arith, le)

-- ---- accesses after a place

abbrev pub AccessesAfter : ℕ → List RacyAccess → Type 0
AccessesAfter m [] = Unit {0}
AccessesAfter m (a ∷ more) = (m ≤ a.instr) × AccessesAfter m more

module _ (code : Code) (t : Tables) (locked : List Place) (rs : List Range) (f : ℕ) where
  abbrev objects_end : ℕ
  objects_end = length (objects_of (instrs_in (slice_get code.functions f)))

  access_past : (g : Grained) (a : Access) → g.access.function ≡ f → access_in (act_of code g.access) ≡ Some a → objects_end ≤ g.access.instr
  access_past g a same e = by (nat_le objects_end g.access.instr) refl
    where
      by : (b : Bool) → nat_le objects_end g.access.instr ≡ b → objects_end ≤ g.access.instr
      by true h = leb-true objects_end g.access.instr h
      by false h =
          let x = object_at (instrs_in (slice_get code.functions f)) g.access.instr (leb-false objects_end g.access.instr h) in
          let none : access_in (act_of code g.access) ≡ None = ap (λ n. access_in (act_in (slice_get (instrs_in (slice_get code.functions n)) g.access.instr))) same ∙ ap access_in x.2 in
          let both : None ≡ Some a = sym none ∙ e in
          cc

  rows_past : (rows : List Grained) → AccessesAfter objects_end (racy_accesses code t locked rs rows f)
  rows_past [] = tt
  rows_past (g ∷ rows) = by (g.access.function == f) refl (rows_past rows)
    where
      one : (o : Option Access) → access_in (act_of code g.access) ≡ o → g.access.function ≡ f → AccessesAfter objects_end (racy_accesses code t locked rs rows f) → AccessesAfter objects_end (cons_option (option_map (racy_through code t locked rs g) o) (racy_accesses code t locked rs rows f))
      one None e same rest = rest
      one (Some a) e same rest = (access_past g a same e, rest)

      by : (b : Bool) → (g.access.function == f) ≡ b → AccessesAfter objects_end (racy_accesses code t locked rs rows f) →
          AccessesAfter objects_end (filter_map (racy_access code t locked rs) (cond b (g ∷ filter (λ h. h.access.function == f) rows) (filter (λ h. h.access.function == f) rows)))
      by true e rest = one (access_in (act_of code g.access)) refl (eqb-true g.access.function f e) rest
      by false e rest = rest

module _ (m : ℕ) where
  some_after : (x : Grain) (accesses : List RacyAccess) → AccessesAfter m accesses → AccessesAfter m (with_grain x accesses)
  some_after x [] h = tt
  some_after x (a ∷ more) h = by (same_grain x a.grain) (some_after x more h.1)
    where
      by : (b : Bool) → AccessesAfter m (with_grain x more) → AccessesAfter m (cond b (a ∷ with_grain x more) (with_grain x more))
      by true rest = (h.0, rest)
      by false rest = rest

  last_after : (at : ℕ) (accesses : List RacyAccess) → m ≤ at → AccessesAfter m accesses → m ≤ last_of at accesses
  last_after at [] le h = le
  last_after at (a ∷ more) le h = last_after a.instr more h.0 h.1

  -- ---- the stretches of a function

  abbrev pub LoopsAfter : List LoopInfo → Type 0
  LoopsAfter [] = Unit {0}
  LoopsAfter (l ∷ ls) = ((m ≤ l.at) × (m ≤ l.last + 1)) × LoopsAfter ls

  loops_after : (is : List Instr) (accesses : List RacyAccess) (ls : List LoopInfo) → LoopsAfter ls → AreAfter m (filter_map (λ l. loop_stretch l (spans_of is l.at accesses)) ls)
  loops_after is accesses [] h = tt
  loops_after is accesses (l ∷ ls) h = by (spans_of is l.at accesses) (loops_after is accesses ls h.1)
    where
      by : (spans : List Span) → AreAfter m (filter_map (λ l. loop_stretch l (spans_of is l.at accesses)) ls) → AreAfter m (cons_option (loop_stretch l spans) (filter_map (λ l. loop_stretch l (spans_of is l.at accesses)) ls))
      by [] rest = rest
      by (s ∷ spans) rest = let le = h.0.1 in ((h.0.0, omega (arith, le)), rest)

  blocks_after : (accesses some : List RacyAccess) → AccessesAfter m accesses → AccessesAfter m some → AreAfter m (filter_map (block_from accesses) some)
  blocks_after accesses [] all h = tt
  blocks_after accesses (a ∷ more) all h = by (same_grain (grain.Block a.instr) a.grain) (blocks_after accesses more all h.1)
    where
      by : (b : Bool) → AreAfter m (filter_map (block_from accesses) more) →
          AreAfter m (cons_option (if b then Some (block_stretch a.instr (with_grain (grain.Block a.instr) accesses)) else None) (filter_map (block_from accesses) more))
      by true rest = let le = last_after a.instr (with_grain (grain.Block a.instr) accesses) h.0 (some_after (grain.Block a.instr) accesses all) in ((h.0, omega (arith, le)), rest)
      by false rest = rest

  single_after : (accesses : List RacyAccess) → AccessesAfter m accesses → AreAfter m (map access_stretch accesses)
  single_after [] h = tt
  single_after (a ∷ more) h = let le = h.0 in ((le, omega (arith, le)), single_after more h.1)

whole_after : (fn : Function) (accesses : List RacyAccess) → AreAfter (length (objects_of fn.instrs)) (function_stretch fn accesses)
whole_after fn [] = tt
whole_after fn (a ∷ more) = let few = few_objects fn.instrs in ((omega arith, omega (arith, few)), tt)

stretches_after : (fn : Function) (accesses : List RacyAccess) → AccessesAfter (length (objects_of fn.instrs)) accesses → LoopsAfter (length (objects_of fn.instrs)) fn.loops → AreAfter (length (objects_of fn.instrs)) (stretches_of fn accesses)
stretches_after fn accesses h loops =
    let m = length (objects_of fn.instrs) in
    joined m (function_stretch fn (with_grain grain.Function accesses)) _ (whole_after fn (with_grain grain.Function accesses))
    (joined m (loop_stretches fn accesses) _ (loops_after m fn.instrs accesses fn.loops loops)
    (joined m (block_stretches accesses) (access_stretches accesses) (blocks_after m accesses accesses h h) (single_after m (with_grain grain.Instruction accesses) (some_after m grain.Instruction accesses h))))

-- ---- the functions of weakened code

module _ (code : Code) (t : Tables) (vs : List Pair) (rs : List Range) (rows : List Grained) (loops : (f : ℕ) (fn : Function) → slice_get code.functions f ≡ Some fn → LoopsAfter (length (objects_of fn.instrs)) fn.loops) where
  function_objects : (f : ℕ) (o : Option Function) → slice_get code.functions f ≡ o → objects_of (instrs_in (option_map (weakened_function code t (places_in vs) rs rows f) o)) ≡ objects_of (instrs_in o)
  function_objects f None e = refl
  function_objects f (Some fn) e =
      let accesses = racy_accesses code t (places_in vs) rs rows f in
      let front = subst (λ (o : Option Function). AccessesAfter (length (objects_of (instrs_in o))) accesses) e (rows_past code t (places_in vs) rs f rows) in
      same_objects (length (objects_of fn.instrs)) (stretches_of fn accesses) fn.instrs (stretches_after fn accesses front (loops f fn e)) 0 fn.instrs (omega arith)

  -- each function's objects are those of the plain code
  pub weakened_objects : (f : ℕ) → objects_in (weakened code t vs rs rows) f ≡ objects_in code f
  unfolding weakened
  weakened_objects f =
      ap (λ o. objects_of (instrs_in o)) (weakened_at code t (places_in vs) rs rows 0 code.functions f)
      ∙ ap (λ n. objects_of (instrs_in (option_map (weakened_function code t (places_in vs) rs rows n) (slice_get code.functions f)))) (zero-add f)
      ∙ function_objects f (slice_get code.functions f) refl
