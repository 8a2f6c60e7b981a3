-- Which loop a ranged region is of, and what the range of an access that is guarded with a loop is.
use Rattle.std.proofs.Common.{◌≡◌, ℕ, suc, ◌+◌, ◌-◌, Bool, true, false, List, [], ◌∷◌, ◌++◌, map, refl, sym, ap, ◌∙◌, subst, arith, Option, Some, None, option_to_list}
use Rattle.std.specs.Prelude.{slice_get, if◌then◌else◌, length}
use Rattle.std.specs.List.{filter_map}
use Rattle.std.proofs.lemmas.Option.{same_Some}
use Rattle.flow_code.specs.declared.act.Act.{Act}
use Rattle.flow_code.specs.declared.act.Act.TheVariants as act
use Rattle.flow_code.specs.declared.act.Instr.{Instr}
use Rattle.flow_code.specs.declared.code.Code.{Code}
use Rattle.flow_code.specs.declared.code.Function.{Function}
use Rattle.flow_code.specs.declared.code.LoopInfo.{LoopInfo}
use Rattle.flow_code.specs.declared.region.Base.TheVariants as base
use Rattle.flow_code.specs.declared.region.Bound.{Bound}
use Rattle.flow_code.specs.declared.region.Region.TheVariants as region
use Rattle.flow_code.specs.declared.region.Span.{Span}
use Rattle.flow_code.specs.Next.{act_in}
use Rattle.flow_code.specs.Threads.{objects_of}
use Rattle.facts.specs.Accesses.{Access, access_of}
use Rattle.facts.specs.PointsTo.{Tables}
use Rattle.weak_lock_facts.specs.declared.grain.Grain.TheVariants as grain
use Rattle.weak_lock_facts.specs.declared.range.Range.{Range}
use Rattle.weak_lock_facts.specs.Loops.{nth, is_counted, counted_of}
use Rattle.weak_lock_facts.specs.Ranges.{pointer_of, range_at, ranges_in, ranges_from, ranges_of}
use Rattle.weak_code.specs.declared.stretch.RacyAccess.{RacyAccess}
use Rattle.weak_code.specs.declared.stretch.Stretch.{Stretch}
use Rattle.weak_code.specs.Stretches.{same_grain, with_grain, all_locks, span_of, spans_of, loop_stretch, loop_stretches, block_from, block_stretch, block_stretches, access_stretch, access_stretches, function_stretch, stretches_of}
use Rattle.weak_valid.proofs.Accesses.{Each, each_append, each_at, each_filter_map, IsFit, grain_at}

-- ---- ranged regions

-- a ranged region is that of one of the function's loops
pub record IsOfSome (fn : Function) (own : List RacyAccess) (st : Stretch) (counter : ℕ) (until : Bound) (spans : List Span) : Type 0 where
  pub j : ℕ
  pub loop : LoopInfo
  pub listed : slice_get fn.loops j ≡ Some loop
  pub counted : is_counted fn loop ≡ true
  pub first : st.first ≡ loop.at
  pub last : st.last ≡ loop.last + 1
  pub counts : loop.counter ≡ counter
  pub bound : loop.bound ≡ until

abbrev AreOfSome : Function → List RacyAccess → Stretch → Type 0
AreOfSome fn own st = (counter : ℕ) (until : Bound) (spans : List Span) → st.region ≡ region.Ranged counter until spans → IsOfSome fn own st counter until spans

module _ (fn : Function) (own : List RacyAccess) (m : ℕ) (fit : Each (IsFit fn m) own) where
  whole_not : (st : Stretch) (locks : List ℕ) → st.region ≡ region.Whole locks → AreOfSome fn own st
  whole_not st locks e counter until spans h = absurd (differ (sym e ∙ h))
    where
      differ : region.Whole locks ≡ region.Ranged counter until spans → ⊥
      differ p = cc

  of_function : (xs : List RacyAccess) → Each (AreOfSome fn own) (function_stretch fn xs)
  of_function [] = tt
  of_function (a ∷ more) = (whole_not (record { first = length (objects_of fn.instrs); last = length fn.instrs - 1; region = region.Whole (all_locks (a ∷ more)) }) (all_locks (a ∷ more)) refl, tt)

  is_counted_loop : (j : ℕ) (l : LoopInfo) (x : Span) → slice_get fn.loops j ≡ Some l → slice_get (spans_of fn.instrs l.at own) 0 ≡ Some x → is_counted fn l ≡ true
  is_counted_loop j l x g q = go (with_grain (grain.Loop l.at) own) refl q
    where
      go : (xs : List RacyAccess) → with_grain (grain.Loop l.at) own ≡ xs → slice_get (filter_map (span_of fn.instrs) xs) 0 ≡ Some x → is_counted fn l ≡ true
      go [] e q = cc
      go (a ∷ xs) e q =
          let r = grain_at (grain.Loop l.at) own 0 a (ap (λ (z : List RacyAccess). slice_get z 0) e) in
          (each_at (IsFit fn m) own r.0 a fit r.1).counted j l g r.2

  one_loop : (j : ℕ) (l : LoopInfo) (xs : List Span) (st : Stretch) → slice_get fn.loops j ≡ Some l → ((x : Span) → slice_get xs 0 ≡ Some x → is_counted fn l ≡ true) → loop_stretch l xs ≡ Some st → AreOfSome fn own st
  one_loop j l [] st g c e = cc
  one_loop j l (x ∷ xs) st g c e = λ counter until spans h.
      let s = same_Some (record { first = l.at; last = l.last + 1; region = region.Ranged l.counter l.bound (x ∷ xs) }) st e in
      let q : region.Ranged l.counter l.bound (x ∷ xs) ≡ region.Ranged counter until spans = ap (λ (z : Stretch). z.region) s ∙ h in
      record {
        j = j;
        loop = l;
        listed = g;
        counted = c x refl;
        first = ap (λ (z : Stretch). z.first) (sym s);
        last = ap (λ (z : Stretch). z.last) (sym s);
        counts = cc (q);
        bound = cc (q);
      }

  of_loops : Each (AreOfSome fn own) (loop_stretches fn own)
  of_loops = each_filter_map (AreOfSome fn own) (λ l. loop_stretch l (spans_of fn.instrs l.at own)) fn.loops (λ k l s g e. one_loop k l (spans_of fn.instrs l.at own) s g (λ x q. is_counted_loop k l x g q) e)

  of_blocks : Each (AreOfSome fn own) (block_stretches own)
  of_blocks = each_filter_map (AreOfSome fn own) (block_from own) own (λ k a s g e. block_one a s e)
    where
      block_one : (a : RacyAccess) (s : Stretch) → block_from own a ≡ Some s → AreOfSome fn own s
      block_one a s e = go (same_grain (grain.Block a.instr) a.grain) e
        where
          go : (b : Bool) → (if b then Some (block_stretch a.instr (with_grain (grain.Block a.instr) own)) else None) ≡ Some s → AreOfSome fn own s
          go false q = cc
          go true q = whole_not s (all_locks (with_grain (grain.Block a.instr) own)) (ap (λ (z : Stretch). z.region) (sym (same_Some (block_stretch a.instr (with_grain (grain.Block a.instr) own)) s q)))

  of_accesses : (xs : List RacyAccess) → Each (AreOfSome fn own) (map access_stretch xs)
  of_accesses [] = tt
  of_accesses (a ∷ xs) = (alone a, of_accesses xs)
    where
      alone : (a : RacyAccess) → AreOfSome fn own (access_stretch a)
      alone a counter until spans h = absurd (differ h)
        where
          differ : region.Cell (base.Register a.through) a.locks ≡ region.Ranged counter until spans → ⊥
          differ p = cc

  all_of_some : Each (AreOfSome fn own) (stretches_of fn own)
  all_of_some =
      each_append (AreOfSome fn own) (function_stretch fn (with_grain grain.Function own)) (loop_stretches fn own ++ (block_stretches own ++ access_stretches own)) (of_function (with_grain grain.Function own))
      (each_append (AreOfSome fn own) (loop_stretches fn own) (block_stretches own ++ access_stretches own) of_loops
      (each_append (AreOfSome fn own) (block_stretches own) (access_stretches own) of_blocks (of_accesses (with_grain grain.Instruction own))))

  pub of_some : (n : ℕ) (st : Stretch) (counter : ℕ) (until : Bound) (spans : List Span) → slice_get (stretches_of fn own) n ≡ Some st → st.region ≡ region.Ranged counter until spans → IsOfSome fn own st counter until spans
  of_some n st counter until spans g h = each_at (AreOfSome fn own) (stretches_of fn own) n st all_of_some g counter until spans h

-- ---- ranges

-- a range is of an instruction of the code
pub record IsFound (code : Code) (t : Tables) (r : Range) : Type 0 where
  pub f : ℕ
  pub fn : Function
  pub k : ℕ
  pub does : Act
  pub at : slice_get code.functions f ≡ Some fn
  pub instr : nth fn.instrs k ≡ Some does
  pub is : range_at code t f fn.instrs (counted_of fn) k does ≡ Some r

found_in : (code : Code) (t : Tables) (f : ℕ) (fn : Function) → slice_get code.functions f ≡ Some fn → (k : ℕ) (rest : List Instr) → ((j : ℕ) (i : Instr) → slice_get rest j ≡ Some i → slice_get fn.instrs (k + j) ≡ Some i) → Each (IsFound code t) (ranges_in code t f fn.instrs (counted_of fn) k rest)
found_in code t f fn at k [] h = tt
found_in code t f fn at k (i ∷ rest) h = each_append (IsFound code t) (option_to_list (range_at code t f fn.instrs (counted_of fn) k i.act)) (ranges_in code t f fn.instrs (counted_of fn) (k + 1) rest) (one (range_at code t f fn.instrs (counted_of fn) k i.act) refl)
    (found_in code t f fn at (k + 1) rest (λ j x g. let s : k + suc j ≡ (k + 1) + j = omega arith in subst (λ n. slice_get fn.instrs n ≡ Some x) s (h (suc j) x g)))
  where
    one : (o : Option Range) → range_at code t f fn.instrs (counted_of fn) k i.act ≡ o → Each (IsFound code t) (option_to_list o)
    one None e = tt
    one (Some r) e = let z : k + 0 ≡ k = omega arith in (record { f = f; fn = fn; k = k; does = i.act; at = at; instr = ap act_in (subst (λ n. slice_get fn.instrs n ≡ Some i) z (h 0 i refl)); is = e }, tt)

found_from : (code : Code) (t : Tables) (f : ℕ) (fns : List Function) → ((k : ℕ) (fn : Function) → slice_get fns k ≡ Some fn → slice_get code.functions (f + k) ≡ Some fn) → Each (IsFound code t) (ranges_from code t f fns)
found_from code t f [] h = tt
found_from code t f (fn ∷ fns) h =
    let e : f + 0 ≡ f = omega arith in
    each_append (IsFound code t) (ranges_in code t f fn.instrs (counted_of fn) 0 fn.instrs) (ranges_from code t (f + 1) fns)
    (found_in code t f fn (subst (λ n. slice_get code.functions n ≡ Some fn) e (h 0 fn refl)) 0 fn.instrs (λ j i g. let z : j ≡ 0 + j = omega arith in subst (λ n. slice_get fn.instrs n ≡ Some i) z g))
    (found_from code t (f + 1) fns (λ k g p. let s : f + suc k ≡ (f + 1) + k = omega arith in subst (λ n. slice_get code.functions n ≡ Some g) s (h (suc k) g p)))

pub all_found : (code : Code) (t : Tables) → Each (IsFound code t) (ranges_of code t)
all_found code t = found_from code t 0 code.functions (λ k fn h. let e : k ≡ 0 + k = omega arith in subst (λ n. slice_get code.functions n ≡ Some fn) e h)

-- the pointer of a load or store is that of its access
pub same_through : (x : Act) (a : Access) (p : ℕ) → pointer_of x ≡ Some p → access_of x ≡ Some a → p ≡ a.through
same_through (act.LoadCell into through) a p h e = sym (same_Some through p h) ∙ ap (λ (z : Access). z.through) (same_Some (record { store = false; through = through }) a e)
same_through (act.StoreCell through from) a p h e = sym (same_Some through p h) ∙ ap (λ (z : Access). z.through) (same_Some (record { store = true; through = through }) a e)
same_through _ a p h e = cc
