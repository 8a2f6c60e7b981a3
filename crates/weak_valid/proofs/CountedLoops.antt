-- An access that is guarded with a loop is so with a counted one.
use Rattle.std.proofs.Common.{◌≡◌, ℕ, zero, suc, ◌+◌, ◌<◌, ◌≤◌, ◌&&◌, Bool, true, false, ℤ, List, [], ◌∷◌, refl, sym, ap, ◌∙◌, subst, arith, Option, Some, None, option_to_list, option_and_then}
use Rattle.std.specs.Prelude.{slice_get, if◌then◌else◌, nat_lt, nat_le, find, ◌==◌}
use Rattle.std.specs.List.{Contains}
use Rattle.std.proofs.lemmas.Bool.Decides.{nat_tests}
use Rattle.std.proofs.lemmas.Option.{same_Some, slice_get_within, get_or_from_slice_get}
use Rattle.flow_code.specs.declared.act.Act.{Act}
use Rattle.flow_code.specs.declared.act.Instr.{Instr}
use Rattle.flow_code.specs.declared.code.Code.{Code}
use Rattle.flow_code.specs.declared.code.Function.{Function}
use Rattle.flow_code.specs.declared.code.LoopInfo.{LoopInfo}
use Rattle.facts.specs.declared.pair.AccessAt.{AccessAt}
use Rattle.facts.specs.declared.pair.Pair.{Pair}
use Rattle.profiles.specs.declared.profile.Profile.{Profile}
use Rattle.facts.specs.Pairs.{act_of}
use Rattle.facts.specs.PointsTo.{Tables, list_at}
use Rattle.weak_lock_facts.specs.declared.grain.Grain.TheVariants as grain
use Rattle.weak_lock_facts.specs.declared.grain.Grained.{Grained}
use Rattle.weak_lock_facts.specs.declared.range.Range.{Range}
use Rattle.weak_lock_facts.specs.Grains.{is_range_of, loop_of, loop_grain, narrow_grain, is_met, is_load_or_store, all_beside, together, grain_of, AreGrains}
use Rattle.weak_lock_facts.specs.Loops.{is_counted, counted_of, loop_code}
use Rattle.weak_lock_facts.specs.Ranges.{begins_round, mark_before, is_number, is_innermost, calls_nothing, loop_round, pointer_of, only_maker, moved_shift, have_single_cells, range, range_in, range_at, ranges_in, ranges_from, ranges_of}
use Rattle.weak_valid.specs.Apart.{loops_ascend, loops_are_apart}
use Rattle.weak_valid.proofs.Tests.{both, all_at}
use Rattle.weak_valid.proofs.Accesses.{Each, each_append, each_at, filtered, LoopsAreCounted}

-- ---- loops are told apart by their Marks

later_mark : (l : LoopInfo) (ls : List LoopInfo) (k : ℕ) (x : LoopInfo) → loops_ascend (l ∷ ls) ≡ true → slice_get ls k ≡ Some x → l.at < x.at
later_mark l [] k x h g = cc
later_mark l (m ∷ ls) zero x h g = let b = both (nat_lt l.at m.at) (loops_ascend (m ∷ ls)) h in subst (λ (z : LoopInfo). l.at < z.at) (same_Some m x g) (grind (arith, nat_tests, b.0))
later_mark l (m ∷ ls) (suc k) x h g =
    let b = both (nat_lt l.at m.at) (loops_ascend (m ∷ ls)) h in
    let a : l.at < m.at = grind (arith, nat_tests, b.0) in
    omega (arith, a, later_mark m ls k x b.1 g)

rest_ascends : (l : LoopInfo) (ls : List LoopInfo) → loops_ascend (l ∷ ls) ≡ true → loops_ascend ls ≡ true
rest_ascends l [] h = refl
rest_ascends l (m ∷ ls) h = (both (nat_lt l.at m.at) (loops_ascend (m ∷ ls)) h).1

pub one_at_mark : (ls : List LoopInfo) (j k : ℕ) (x y : LoopInfo) → loops_ascend ls ≡ true → slice_get ls j ≡ Some x → slice_get ls k ≡ Some y → x.at ≡ y.at → x ≡ y
one_at_mark [] j k x y h p q e = cc
one_at_mark (l ∷ ls) zero zero x y h p q e = same_Some x y (sym p ∙ q)
one_at_mark (l ∷ ls) zero (suc k) x y h p q e = let lt = later_mark l ls k y h q in absurd (omega (arith, lt, ap (λ (z : LoopInfo). z.at) (same_Some l x p), e))
one_at_mark (l ∷ ls) (suc j) zero x y h p q e = let lt = later_mark l ls j x h p in absurd (omega (arith, lt, ap (λ (z : LoopInfo). z.at) (same_Some l y q), e))
one_at_mark (l ∷ ls) (suc j) (suc k) x y h p q e = one_at_mark ls j k x y (rest_ascends l ls h) p q e

-- ---- a range is one of a counted loop

pub record IsOfLoop (code : Code) (r : Range) : Type 0 where
  pub fn : Function
  pub at : slice_get code.functions r.function ≡ Some fn
  pub k : ℕ
  pub counted : LoopInfo
  pub listed : slice_get fn.loops k ≡ Some counted
  pub is : is_counted fn counted ≡ true
  pub mark : counted.at ≡ r.loop_at
  pub above : counted.at < r.instr
  pub below : r.instr ≤ counted.last

mark_below : (is : List Instr) (k m n : ℕ) → mark_before is k m ≡ Some n → n < m
mark_below is k zero n h = cc
mark_below is k (suc m) n h = go (begins_round is k m) h (λ e. mark_below is k m n e)
  where
    go : (b : Bool) → (if b then Some m else mark_before is k m) ≡ Some n → (mark_before is k m ≡ Some n → n < m) → n < suc m
    go true h rec = omega (arith, same_Some m n h)
    go false h rec = omega (arith, rec h)

pub innermost_in : (is : List Instr) (k : ℕ) (l : LoopInfo) → is_innermost is k l ≡ true → (l.at < k) × (k ≤ l.last)
innermost_in is k l h = let b = both (nat_le k l.last) (is_number l.at (mark_before is k k)) h in (number (mark_before is k k) refl b.1, grind (arith, nat_tests, b.0))
  where
    number : (o : Option ℕ) → mark_before is k k ≡ o → is_number l.at o ≡ true → l.at < k
    number None e h = cc
    number (Some m) e h = let q : m ≡ l.at = grind (arith, nat_tests, h) in omega (arith, mark_below is k k m e, q)

pub round_listed : (is : List Instr) (k : ℕ) (ls : List LoopInfo) (l : LoopInfo) → loop_round is k ls ≡ Some l → (j : ℕ) × (slice_get ls j ≡ Some l) × (is_innermost is k l ≡ true)
round_listed is k [] l h = cc
round_listed is k (x ∷ ls) l h = go (is_innermost is k x && calls_nothing (loop_code is x)) refl h (λ e. round_listed is k ls l e)
  where
    go : (b : Bool) → is_innermost is k x && calls_nothing (loop_code is x) ≡ b → (if b then Some x else loop_round is k ls) ≡ Some l → (loop_round is k ls ≡ Some l → (j : ℕ) × (slice_get ls j ≡ Some l) × (is_innermost is k l ≡ true)) → (j : ℕ) × (slice_get (x ∷ ls) j ≡ Some l) × (is_innermost is k l ≡ true)
    go true e h rec = (0, h, subst (λ z. is_innermost is k z ≡ true) (same_Some x l h) (both (is_innermost is k x) (calls_nothing (loop_code is x)) e).0)
    go false e h rec = let r = rec h in (suc r.0, r.1, r.2)

module _ (code : Code) (t : Tables) (f : ℕ) (fn : Function) (at : slice_get code.functions f ≡ Some fn) where
  made_of_loop : (k p : ℕ) (l : LoopInfo) (r : Range) → range_in code t f fn.instrs k p l ≡ Some r → (r.function ≡ f) × (r.loop_at ≡ l.at) × (r.instr ≡ k)
  made_of_loop k p l r h = maker (only_maker fn.instrs l k p) h
    where
      found : (d : ℤ) (b : Bool) → (if b then Some (range f k l d) else None) ≡ Some r → (r.function ≡ f) × (r.loop_at ≡ l.at) × (r.instr ≡ k)
      found d true h = let e = same_Some (range f k l d) r h in (ap (λ (z : Range). z.function) (sym e), ap (λ (z : Range). z.loop_at) (sym e), ap (λ (z : Range). z.instr) (sym e))
      found d false h = cc

      moved : (o : Option ℤ) → (option_and_then (λ d. if have_single_cells code (list_at t.registers f p) then Some (range f k l d) else None) o) ≡ Some r → (r.function ≡ f) × (r.loop_at ≡ l.at) × (r.instr ≡ k)
      moved None h = cc
      moved (Some d) h = found d (have_single_cells code (list_at t.registers f p)) h

      maker : (o : Option ℕ) → (option_and_then (λ q. option_and_then (λ d. if have_single_cells code (list_at t.registers f p) then Some (range f k l d) else None) (moved_shift fn.instrs l q)) o) ≡ Some r → (r.function ≡ f) × (r.loop_at ≡ l.at) × (r.instr ≡ k)
      maker None h = cc
      maker (Some q) h = moved (moved_shift fn.instrs l q) h

  at_of_loop : (k : ℕ) (a : Act) (r : Range) → range_at code t f fn.instrs (counted_of fn) k a ≡ Some r → IsOfLoop code r
  at_of_loop k a r h = pointer (pointer_of a) h
    where
      round : (p : ℕ) (o : Option LoopInfo) → loop_round fn.instrs k (counted_of fn) ≡ o → option_and_then (λ l. range_in code t f fn.instrs k p l) o ≡ Some r → IsOfLoop code r
      round p None e h = cc
      round p (Some l) e h =
          let j = round_listed fn.instrs k (counted_of fn) l e in
          let q = filtered (is_counted fn) fn.loops j.0 l j.1 in
          let m = made_of_loop k p l r h in
          let n = innermost_in fn.instrs k l j.2 in
          record { fn = fn; at = ap (slice_get code.functions) m.0 ∙ at; k = q.0; counted = l; listed = q.1; is = q.2; mark = sym m.1; above = omega (arith, n.0, m.2); below = omega (arith, n.1, m.2) }

      pointer : (o : Option ℕ) → option_and_then (λ p. option_and_then (λ l. range_in code t f fn.instrs k p l) (loop_round fn.instrs k (counted_of fn))) o ≡ Some r → IsOfLoop code r
      pointer None h = cc
      pointer (Some p) h = round p (loop_round fn.instrs k (counted_of fn)) refl h

  in_of_loop : (k : ℕ) (rest : List Instr) → Each (IsOfLoop code) (ranges_in code t f fn.instrs (counted_of fn) k rest)
  in_of_loop k [] = tt
  in_of_loop k (i ∷ rest) = each_append (IsOfLoop code) (option_to_list (range_at code t f fn.instrs (counted_of fn) k i.act)) (ranges_in code t f fn.instrs (counted_of fn) (k + 1) rest) (one (range_at code t f fn.instrs (counted_of fn) k i.act) refl) (in_of_loop (k + 1) rest)
    where
      one : (o : Option Range) → range_at code t f fn.instrs (counted_of fn) k i.act ≡ o → Each (IsOfLoop code) (option_to_list o)
      one None e = tt
      one (Some r) e = (at_of_loop k i.act r e, tt)

from_of_loop : (code : Code) (t : Tables) (f : ℕ) (fns : List Function) → ((k : ℕ) (fn : Function) → slice_get fns k ≡ Some fn → slice_get code.functions (f + k) ≡ Some fn) → Each (IsOfLoop code) (ranges_from code t f fns)
from_of_loop code t f [] h = tt
from_of_loop code t f (fn ∷ fns) h =
    let e : f + 0 ≡ f = omega arith in
    each_append (IsOfLoop code) (ranges_in code t f fn.instrs (counted_of fn) 0 fn.instrs) (ranges_from code t (f + 1) fns)
    (in_of_loop code t f fn (subst (λ n. slice_get code.functions n ≡ Some fn) e (h 0 fn refl)) 0 fn.instrs)
    (from_of_loop code t (f + 1) fns (λ k g p. let s : f + suc k ≡ (f + 1) + k = omega arith in subst (λ n. slice_get code.functions n ≡ Some g) s (h (suc k) g p)))

pub ranges_of_loops : (code : Code) (t : Tables) → Each (IsOfLoop code) (ranges_of code t)
ranges_of_loops code t = from_of_loop code t 0 code.functions (λ k fn h. let e : k ≡ 0 + k = omega arith in subst (λ n. slice_get code.functions n ≡ Some fn) e h)

-- ---- so is a grain

pub loop_found : (rs : List Range) (a : AccessAt) (m : ℕ) → loop_of rs a ≡ Some m → (k : ℕ) × (r : Range) × (slice_get rs k ≡ Some r) × (r.function ≡ a.function) × (r.loop_at ≡ m) × (r.instr ≡ a.instr) × (find (is_range_of a) rs ≡ Some r)
loop_found [] a m h = cc
loop_found (r ∷ rs) a m h = go (is_range_of a r) refl h (λ e. loop_found rs a m e)
  where
    go : (b : Bool) → is_range_of a r ≡ b → (if b then Some r.loop_at else loop_of rs a) ≡ Some m → (loop_of rs a ≡ Some m → (k : ℕ) × (x : Range) × (slice_get rs k ≡ Some x) × (x.function ≡ a.function) × (x.loop_at ≡ m) × (x.instr ≡ a.instr) × (find (is_range_of a) rs ≡ Some x)) → (k : ℕ) × (x : Range) × (slice_get (r ∷ rs) k ≡ Some x) × (x.function ≡ a.function) × (x.loop_at ≡ m) × (x.instr ≡ a.instr) × ((if b then Some r else find (is_range_of a) rs) ≡ Some x)
    go true e h rec =
        let b = both (r.function == a.function) (r.instr == a.instr) e in
        let f : r.function ≡ a.function = grind (arith, nat_tests, b.0) in
        (0, r, refl, f, same_Some r.loop_at m h, grind (arith, nat_tests, b.1), refl)
    go false e h rec = let q = rec h in (suc q.0, q.1, q.2, q.3, q.4, q.5, q.6)

not_together : (ks : List ℕ) (m : ℕ) → together ks ≡ grain.Loop m → ⊥
not_together [] m h = cc
not_together (k ∷ []) m h = cc
not_together (j ∷ k ∷ ks) m h = cc

not_narrow : (code : Code) (ps : List Pair) (rs : List Range) (profile : Profile) (a : AccessAt) (m : ℕ) → narrow_grain code ps rs profile a ≡ grain.Loop m → ⊥
not_narrow code ps rs profile a m h = go (is_load_or_store (act_of code a)) h
  where
    go : (b : Bool) → (if b then together (all_beside code ps rs profile a) else grain.Instruction) ≡ grain.Loop m → ⊥
    go true h = not_together (all_beside code ps rs profile a) m h
    go false h = cc

pub loop_known : (code : Code) (ps : List Pair) (rs : List Range) (profile : Profile) (a : AccessAt) (m : ℕ) → grain_of code ps rs profile a ≡ grain.Loop m → loop_of rs a ≡ Some m
loop_known code ps rs profile a m h = met (is_met code ps profile a) h
  where
    loop : (o : Option ℕ) → loop_of rs a ≡ o → loop_grain o (narrow_grain code ps rs profile a) ≡ grain.Loop m → loop_of rs a ≡ Some m
    loop None e h = absurd (not_narrow code ps rs profile a m h)
    loop (Some n) e h = let s : n ≡ m = cc in e ∙ ap Some s

    met : (b : Bool) → (if b then loop_grain (loop_of rs a) (narrow_grain code ps rs profile a) else grain.Function) ≡ grain.Loop m → loop_of rs a ≡ Some m
    met true h = loop (loop_of rs a) refl h
    met false h = cc

contained : {X : Type 0} (xs : List X) (k : ℕ) (x : X) → slice_get xs k ≡ Some x → Contains xs x
contained xs k x h = (k, slice_get_within xs k x h, get_or_from_slice_get xs k x x h)

pub loops_are_counted : (code : Code) (t : Tables) (ps : List Pair) (rs : List Range) (profile : Profile) (rows : List Grained) → loops_are_apart code ≡ true → rs ≡ ranges_of code t → AreGrains code ps rs profile rows → LoopsAreCounted code rows
loops_are_counted code t ps rs profile rows apart e grains j g fn k l at of listed is =
    let q = loop_found rs g.access l.at (loop_known code ps rs profile g.access l.at (sym (grains.grains g (contained rows j g at)) ∙ is)) in
    let o = each_at (IsOfLoop code) rs q.0 q.1 (subst (Each (IsOfLoop code)) (sym e) (ranges_of_loops code t)) q.2 in
    let s : o.fn ≡ fn = same_Some o.fn fn (sym o.at ∙ ap (slice_get code.functions) q.3 ∙ of) in
    let a : loops_ascend fn.loops ≡ true = all_at (λ (h : Function). loops_ascend h.loops) code.functions g.access.function fn apart of in
    let c : o.counted ≡ l = one_at_mark fn.loops o.k k o.counted l a (subst (λ (h : Function). slice_get h.loops o.k ≡ Some o.counted) s o.listed) listed (o.mark ∙ q.4) in
    subst (λ x. is_counted fn x ≡ true) c (subst (λ h. is_counted h o.counted ≡ true) s o.is)
