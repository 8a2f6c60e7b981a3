-- The innermost loops round instructions: the table of the last jumps, and how one Mark leads to the next.
use Rattle.std.proofs.Common.{◌≡◌, ℕ, zero, suc, ◌+◌, ◌<◌, ◌≤◌, Bool, true, false, List, [], ◌∷◌, ◌++◌, length, get_or, take, drop, Option, Some, None, refl, sym, ap, ◌∙◌, subst, ⊎_elim, arith, add-one}
use Rattle.std.specs.Prelude.{◌||◌, ◌&&◌, nat_lt, if◌then◌else◌, option_to_list, slice_get, slice_index_or}
use Rattle.std.proofs.lemmas.Bool.{cases_lt, lt-ltb, le-ltb, true≢false}
use Rattle.std.proofs.lemmas.List.{take_more, drop-append-le, drop_all}
use Rattle.std.proofs.lemmas.List.Folds.{list_any-append}
use Rattle.std.proofs.lemmas.Option.{same_Some, none-some, slice_get-get_or}
use Rattle.flow_code.specs.declared.act.Instr.{Instr}
use Rattle.flow_code.specs.declared.code.Code.{Code}
use Rattle.flow_code.specs.declared.code.LoopInfo.{LoopInfo}
use Rattle.flow_code.specs.Order.{is_mark}
use Rattle.facts.specs.Blocks.{goes_to, is_target}
use Rattle.facts.specs.PointsTo.{Tables}
use Rattle.facts.proofs.Marked.{take_all}
use Rattle.loop_bounds.specs.Tables.{AreRounds, following, is_calm, calm_loops, AreCalm}
use Rattle.weak_lock_facts.specs.Loops.{◌>>=◌, nth}
use Rattle.weak_lock_facts.specs.Ranges.{begins_round, mark_before, is_innermost, loop_round, pointer_of, range_in, range_at, ranges_in}
use Rattle.loop_bounds.proofs.Marks.{found, passed}

-- ---- ends

or_none : (a : Bool) → (a || false) ≡ a
or_none true = refl
or_none false = refl

or_goes : (x g : Bool) (k n e new : ℕ) → k ≤ n → x ≡ nat_lt k e → new ≡ (if g then n + 1 else e) → (x || g) ≡ nat_lt k new
or_goes x true k n e new le was is = or_true x ∙ sym (lt-ltb k (n + 1) (omega arith)) ∙ ap (nat_lt k) (sym is)
  where
    or_true : (a : Bool) → (a || true) ≡ true
    or_true true = refl
    or_true false = refl
or_goes x false k n e new le was is = or_none x ∙ was ∙ ap (nat_lt k) (sym is)

past_goes : (g : Bool) (k n e new : ℕ) → n + 1 ≤ k → false ≡ nat_lt k e → new ≡ (if g then n + 1 else e) → false ≡ nat_lt k new
past_goes true k n e new le was is = sym (le-ltb k (n + 1) le) ∙ ap (nat_lt k) (sym is)
past_goes false k n e new le was is = was ∙ ap (nat_lt k) (sym is)

-- one instruction more has been looked at
pub ends_next : (is : List Instr) (n m k e new : ℕ) (i : Instr) → n < length is → is_target (drop k (take n is)) m ≡ nat_lt k e → new ≡ (if goes_to m (get_or is n i).act then n + 1 else e) → is_target (drop k (take (n + 1) is)) m ≡ nat_lt k new
ends_next is n m k e new i lt was is_new =
    ⊎_elim
    (λ (past : n < k).
    let none : is_target (drop k (take n is)) m ≡ false = ap (λ z. is_target z m) (drop_all k (take n is) (omega (arith, long n is (omega arith)))) in
    ap (λ z. is_target z m) (drop_all k (take (n + 1) is) (omega (arith, long (n + 1) is (omega arith)))) ∙ past_goes (goes_to m (get_or is n i).act) k n e new (omega arith) (sym none ∙ was) is_new)
    (λ (le : k ≤ n).
    ap (λ z. is_target (drop k z) m) (take_more is n i lt)
    ∙ ap (λ z. is_target z m) (drop-append-le k (take n is) (get_or is n i ∷ []) (omega (arith, long n is (omega arith))))
    ∙ list_any-append (λ (x : Instr). goes_to m x.act) (drop k (take n is)) (get_or is n i ∷ [])
    ∙ ap (λ b. is_target (drop k (take n is)) m || b) (or_none (goes_to m (get_or is n i).act))
    ∙ or_goes (is_target (drop k (take n is)) m) (goes_to m (get_or is n i).act) k n e new le was is_new)
    (cases_lt n k)
  where
    long : (n : ℕ) (is : List Instr) → n ≤ length is → length (take n is) ≡ n
    long zero is le = refl
    long (suc n) [] le = absurd (omega arith)
    long (suc n) (i ∷ is) le = let r = long n is (omega arith) in omega arith

pub no_ends : (is : List Instr) (m k e : ℕ) → e ≡ 0 → is_target (drop k (take 0 is)) m ≡ nat_lt k e
no_ends is m k e z = ap (λ x. is_target x m) (none k) ∙ sym (le-ltb k e (omega arith))
  where
    none : (k : ℕ) → drop k (take 0 is) ≡ []
    none zero = refl
    none (suc k) = refl

pub all_ends : (is : List Instr) (n m k e : ℕ) → length is ≤ n → is_target (drop k (take n is)) m ≡ nat_lt k e → is_target (drop k is) m ≡ nat_lt k e
all_ends is n m k e le h = ap (λ z. is_target (drop k z) m) (sym (take_all is n le)) ∙ h

-- ---- rounds

-- what goes there from the one on goes there from an earlier one on
fewer : (is : List Instr) (m k t : ℕ) → m ≤ k → is_target (drop k is) t ≡ true → is_target (drop m is) t ≡ true
fewer [] zero zero t le h = h
fewer [] zero (suc k) t le h = h
fewer [] (suc m) zero t le h = absurd (omega arith)
fewer [] (suc m) (suc k) t le h = h
fewer (i ∷ is) zero zero t le h = h
fewer (i ∷ is) zero (suc k) t le h = or_right (goes_to t i.act) (fewer is zero k t (omega arith) h)
  where
    or_right : (a : Bool) {b : Bool} → b ≡ true → (a || b) ≡ true
    or_right true e = refl
    or_right false e = e
fewer (i ∷ is) (suc m) zero t le h = absurd (omega arith)
fewer (i ∷ is) (suc m) (suc k) t le h = fewer is m k t (omega arith) h

fewer_rounds : (is : List Instr) (m k j : ℕ) → m ≤ k → begins_round is m j ≡ false → begins_round is k j ≡ false
fewer_rounds is m k j le h = by (begins_round is k j) refl
  where
    both : (a b c : Bool) → (b ≡ true → c ≡ true) → (a && b) ≡ true → (a && c) ≡ true
    both true b c up e = up e
    both false b c up e = e

    by : (b : Bool) → begins_round is k j ≡ b → begins_round is k j ≡ false
    by true e = absurd (true≢false (sym (both (is_mark (nth is j)) (is_target (drop k is) j) (is_target (drop m is) j) (fewer is m k j le) e) ∙ h))
    by false e = e

-- the Marks between an instruction and the Mark of the innermost loop round it begin no loop round a later one
pub rounds_between : (is : List Instr) (m k j : ℕ) → m ≤ k → mark_before is k j ≡ mark_before is k (following (mark_before is m j))
rounds_between is m k zero le = refl
rounds_between is m k (suc j) le = by (rounds_between is m k j le) (begins_round is m j) refl
  where
    by : mark_before is k j ≡ mark_before is k (following (mark_before is m j)) → (b : Bool) → begins_round is m j ≡ b → mark_before is k (suc j) ≡ mark_before is k (following (mark_before is m (suc j)))
    by so_far true e = ap (λ o. mark_before is k (following o)) (sym (found is m (suc j) j refl e))
    by so_far false e = passed is k (suc j) j refl (fewer_rounds is m k j le e) ∙ so_far ∙ ap (λ o. mark_before is k (following o)) (sym (passed is m (suc j) j refl e))

after_within : (is : List Instr) (m j : ℕ) → following (mark_before is m j) ≤ j
after_within is m zero = omega arith
after_within is m (suc j) = by (after_within is m j) (begins_round is m j) refl
  where
    by : following (mark_before is m j) ≤ j → (b : Bool) → begins_round is m j ≡ b → following (mark_before is m (suc j)) ≤ suc j
    by so_far true e = let h = ap following (found is m (suc j) j refl e) in omega arith
    by so_far false e = let h = ap following (passed is m (suc j) j refl e) in omega arith

pub round_at : (is : List Instr) (rounds : List (Option ℕ)) (k : ℕ) → AreRounds is rounds → k < length rounds → slice_index_or rounds k None ≡ mark_before is k k
round_at is rounds k all lt = same_Some (slice_index_or rounds k None) (mark_before is k k) (sym (slice_get-get_or rounds k None lt) ∙ all k lt)

-- where the search goes on after a Mark that begins no loop round the instruction
pub next_front : (is : List Instr) (rounds : List (Option ℕ)) (at mark next : ℕ) → AreRounds is rounds → length rounds ≡ at → mark < at → next ≡ following (slice_index_or rounds mark None) → next ≤ mark
next_front is rounds at mark next all long lt e = let h = ap following (round_at is rounds mark all (omega arith)) in omega (arith, after_within is mark mark)

pub search_on : (is : List Instr) (rounds : List (Option ℕ)) (at front mark next : ℕ) → AreRounds is rounds → length rounds ≡ at → front ≡ suc mark → front ≤ at → begins_round is at mark ≡ false → next ≡ following (slice_index_or rounds mark None) → mark_before is at next ≡ mark_before is at front
search_on is rounds at front mark next all long e le none is_next =
    ap (mark_before is at) (is_next ∙ ap following (round_at is rounds mark all (omega arith)))
    ∙ sym (rounds_between is mark at mark (omega arith))
    ∙ sym (passed is at front mark e none)

-- ---- loops that call nothing

pub round_found : (is : List Instr) (k : ℕ) (ls : List LoopInfo) (n : ℕ) (l : LoopInfo) → slice_get ls n ≡ Some l → is_innermost is k l ≡ true → is_calm is l ≡ true → loop_round is k (drop n ls) ≡ Some l
round_found is k [] n l h inner calm = absurd (none-some l h)
round_found is k (x ∷ ls) zero l h inner calm =
    ap (λ z. if is_innermost is k z && is_calm is z then Some z else loop_round is k ls) (same_Some x l h)
    ∙ ap (λ b. if b && is_calm is l then Some l else loop_round is k ls) inner
    ∙ ap (λ b. if b then Some l else loop_round is k ls) calm
round_found is k (x ∷ ls) (suc n) l h inner calm = round_found is k ls n l h inner calm

pub round_passed : (is : List Instr) (k : ℕ) (ls : List LoopInfo) (n : ℕ) (l : LoopInfo) → slice_get ls n ≡ Some l → is_innermost is k l ≡ false → loop_round is k (drop (n + 1) ls) ≡ loop_round is k (drop n ls)
round_passed is k ls n l h inner = ap (λ m. loop_round is k (drop m ls)) (add-one n) ∙ sym (go ls n h)
  where
    go : (ls : List LoopInfo) (n : ℕ) → slice_get ls n ≡ Some l → loop_round is k (drop n ls) ≡ loop_round is k (drop (suc n) ls)
    go [] n h = absurd (none-some l h)
    go (x ∷ ls) zero h = ap (λ b. if b && is_calm is x then Some x else loop_round is k ls) (ap (is_innermost is k) (same_Some x l h) ∙ inner)
    go (x ∷ ls) (suc n) h = go ls n h

pub calm_all : (is : List Instr) (ls : List LoopInfo) → AreCalm is (calm_loops is ls)
calm_all is [] k l h = absurd (none-some l h)
calm_all is (x ∷ ls) k l h = by (λ j. calm_all is ls j l) (is_calm is x) refl k h
  where
    by : ((j : ℕ) → slice_get (calm_loops is ls) j ≡ Some l → is_calm is l ≡ true) → (b : Bool) → is_calm is x ≡ b → (k : ℕ) → slice_get (if b then x ∷ calm_loops is ls else calm_loops is ls) k ≡ Some l → is_calm is l ≡ true
    by rest true e zero g = subst (λ z. is_calm is z ≡ true) (same_Some x l g) e
    by rest true e (suc k) g = rest k g
    by rest false e k g = rest k g

round_calm : (is : List Instr) (k : ℕ) (ls : List LoopInfo) → loop_round is k (calm_loops is ls) ≡ loop_round is k ls
round_calm is k [] = refl
round_calm is k (x ∷ ls) = by (round_calm is k ls) (is_calm is x) refl
  where
    none : (a : Bool) → (a && false) ≡ false
    none true = refl
    none false = refl

    by : loop_round is k (calm_loops is ls) ≡ loop_round is k ls → (b : Bool) → is_calm is x ≡ b → loop_round is k (if b then x ∷ calm_loops is ls else calm_loops is ls) ≡ loop_round is k (x ∷ ls)
    by rest true e = ap (λ o. if is_innermost is k x && is_calm is x then Some x else o) rest
    by rest false e = rest ∙ sym (ap (λ b. if is_innermost is k x && b then Some x else loop_round is k ls) e ∙ ap (λ b. if b then Some x else loop_round is k ls) (none (is_innermost is k x)))

pub ranges_calm : (code : Code) (t : Tables) (f : ℕ) (is : List Instr) (ls : List LoopInfo) (k : ℕ) (rest : List Instr) → ranges_in code t f is (calm_loops is ls) k rest ≡ ranges_in code t f is ls k rest
ranges_calm code t f is ls k [] = refl
ranges_calm code t f is ls k (i ∷ rest) =
    ap (λ o. option_to_list (pointer_of i.act >>= (λ p. o >>= (λ l. range_in code t f is k p l))) ++ ranges_in code t f is (calm_loops is ls) (k + 1) rest) (round_calm is k ls)
    ∙ ap (λ z. option_to_list (range_at code t f is ls k i.act) ++ z) (ranges_calm code t f is ls (k + 1) rest)
