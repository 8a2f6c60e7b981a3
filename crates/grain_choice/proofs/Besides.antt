-- Accesses that stand in one block.
use Rattle.std.proofs.Common.{◌≡◌, ℕ, zero, suc, ◌+◌, ◌-◌, ◌<◌, ◌≤◌, Bool, true, false, cond, ◌&&◌, List, [], ◌∷◌, ◌++◌, length, get_or, refl, sym, ap, subst, ◌∙◌, arith, ⊎_elim, Option, Some, None}
use Rattle.std.specs.Prelude.{◌==◌, slice_get, slice_index_or}
use Rattle.std.proofs.lemmas.Bool.{cases_lt}
use Rattle.std.proofs.lemmas.Bool.Decides.{nat_tests}
use Rattle.std.proofs.lemmas.Option.{slice_get-get_or}
use Rattle.flow_code.specs.declared.act.Instr.{Instr}
use Rattle.facts.specs.declared.pair.AccessAt.{AccessAt}
use Rattle.facts.specs.Blocks.{begins_block}
use Rattle.facts.specs.Pairs.{access_less}
use Rattle.weak_lock_facts.specs.declared.grain.Grain.TheVariants as grain
use Rattle.weak_lock_facts.specs.Grains.{block_at, those_below, together}
use Rattle.grain_choice.specs.Listed.{is_listed, ascend}
use Rattle.grain_choice.specs.Tables.{AreFirsts, block_in, is_block, holds_in_block}
use Rattle.grain_choice.proofs.Bools.{either, and_both, both_and}
use Rattle.grain_choice.proofs.Ascents.{irr, place_in, listed_at, far}

-- ---- blocks

pub block_le : (is : List Instr) (k : ℕ) → block_at is k ≤ k
block_le is zero = omega arith
block_le is (suc k) = go (begins_block is (suc k)) (block_le is k)
  where
    go : (b : Bool) → block_at is k ≤ k → cond b (suc k) (block_at is k) ≤ suc k
    go true h = omega arith
    go false h = omega arith

block_step : (is : List Instr) (k : ℕ) → block_at is k ≤ block_at is (suc k)
block_step is k = go (begins_block is (suc k)) (block_le is k)
  where
    go : (b : Bool) → block_at is k ≤ k → block_at is k ≤ cond b (suc k) (block_at is k)
    go true h = omega arith
    go false h = omega arith

block_mono : (is : List Instr) (k n : ℕ) → block_at is k ≤ block_at is (k + n)
block_mono is k zero = let e : k ≡ k + 0 = omega arith in subst (λ j. block_at is k ≤ block_at is j) e (omega arith)
block_mono is k (suc n) =
    let e : suc (k + n) ≡ k + suc n = omega arith in
    let h : block_at is k ≤ block_at is (k + n) = block_mono is k n in
    let s : block_at is (k + n) ≤ block_at is (suc (k + n)) = block_step is (k + n) in
    subst (λ j. block_at is k ≤ block_at is j) e (at_most (block_at is k) (block_at is (k + n)) (block_at is (suc (k + n))) h s)
  where
    at_most : (x y z : ℕ) → x ≤ y → y ≤ z → x ≤ z
    at_most x y z p q = omega arith

pub block_up : (is : List Instr) (j k : ℕ) → j ≤ k → block_at is j ≤ block_at is k
block_up is j k le = let e : j + (k - j) ≡ k = omega arith in subst (λ n. block_at is j ≤ block_at is n) e (block_mono is j (k - j))

block_again : (is : List Instr) (k : ℕ) → block_at is (block_at is k) ≡ block_at is k
block_again is zero = refl
block_again is (suc k) = go (begins_block is (suc k)) refl (block_again is k)
  where
    go : (b : Bool) → begins_block is (suc k) ≡ b → block_at is (block_at is k) ≡ block_at is k → block_at is (cond b (suc k) (block_at is k)) ≡ cond b (suc k) (block_at is k)
    go true e h = ap (λ b. cond b (suc k) (block_at is k)) e
    go false e h = h

pub block_between : (is : List Instr) (m x : ℕ) → block_at is x ≤ m → m ≤ x → block_at is m ≡ block_at is x
block_between is m x low high = squeezed (block_at is (block_at is x)) (block_at is m) (block_at is x) (block_again is x) (block_up is (block_at is x) m low) (block_up is m x high)
  where
    squeezed : (p q r : ℕ) → p ≡ r → p ≤ q → q ≤ r → q ≡ r
    squeezed p q r e f h = omega arith

-- ---- the numbers that pass a test

none_below : (test : ℕ → Bool) (n : ℕ) → ((k : ℕ) → k < n → test k ≡ false) → those_below test n ≡ []
none_below test zero h = refl
none_below test (suc n) h = ap (λ b. cond b (those_below test n ++ n ∷ []) (those_below test n)) (h n (omega arith)) ∙ none_below test n (λ k lt. h k (omega arith))

one_below : (test : ℕ → Bool) (m n : ℕ) → m < n → test m ≡ true → ((k : ℕ) → k < n → (k ≡ m → ⊥) → test k ≡ false) → those_below test n ≡ m ∷ []
one_below test m zero lt is others = absurd (omega arith)
one_below test m (suc n) lt is others =
    ⊎_elim
    (λ (l : m < n). ap (λ b. cond b (those_below test n ++ n ∷ []) (those_below test n)) (others n (omega arith) (λ e. omega arith)) ∙ one_below test m n l is (λ k h apart. others k (omega arith) apart))
    (λ (g : n ≤ m). let e : m ≡ n = omega arith in
    ap (λ b. cond b (those_below test n ++ n ∷ []) (those_below test n)) (subst (λ j. test j ≡ true) e is)
    ∙ ap (λ (js : List ℕ). js ++ n ∷ []) (none_below test n (λ k h. others k (omega arith) (λ d. omega arith)))
    ∙ ap (λ j. j ∷ []) (sym e))
    (cases_lt m n)

first_below : (test : ℕ → Bool) (m n : ℕ) → m < n → test m ≡ true → ((k : ℕ) → k < m → test k ≡ false) → (js : List ℕ) × (those_below test n ≡ m ∷ js)
first_below test m zero lt is none = absurd (omega arith)
first_below test m (suc n) lt is none =
    ⊎_elim
    (λ (l : m < n). let r = first_below test m n l is none in more (test n) r.0 r.1)
    (λ (g : n ≤ m). let e : m ≡ n = omega arith in (
      [],
      ap (λ b. cond b (those_below test n ++ n ∷ []) (those_below test n)) (subst (λ j. test j ≡ true) e is)
          ∙ ap (λ (js : List ℕ). js ++ n ∷ []) (none_below test n (λ k h. none k (omega arith)))
          ∙ ap (λ j. j ∷ []) (sym e),
    ))
    (cases_lt m n)
  where
    more : (b : Bool) (js : List ℕ) → those_below test n ≡ m ∷ js → (ks : List ℕ) × (cond b (those_below test n ++ n ∷ []) (those_below test n) ≡ m ∷ ks)
    more true js e = (js ++ n ∷ [], ap (λ (ks : List ℕ). ks ++ n ∷ []) e)
    more false js e = (js, e)

two_below : (test : ℕ → Bool) (m p n : ℕ) → m < p → p < n → test m ≡ true → test p ≡ true → ((k : ℕ) → k < m → test k ≡ false) → (j : ℕ) × (js : List ℕ) × (those_below test n ≡ m ∷ j ∷ js)
two_below test m p zero l lt is also none = absurd (omega arith)
two_below test m p (suc n) l lt is also none =
    ⊎_elim
    (λ (h : p < n). let r = two_below test m p n l h is also none in more (test n) r.0 r.1 r.2)
    (λ (g : n ≤ p). let e : p ≡ n = omega arith in
    let r = first_below test m n (omega arith) is none in
    let q : test n ≡ true = subst (λ j. test j ≡ true) e also in
    second r.0 r.1 q)
    (cases_lt p n)
  where
    more : (b : Bool) (j : ℕ) (js : List ℕ) → those_below test n ≡ m ∷ j ∷ js → (k : ℕ) × (ks : List ℕ) × (cond b (those_below test n ++ n ∷ []) (those_below test n) ≡ m ∷ k ∷ ks)
    more true j js e = (j, js ++ n ∷ [], ap (λ (ks : List ℕ). ks ++ n ∷ []) e)
    more false j js e = (j, js, e)

    following : (js : List ℕ) → (k : ℕ) × (ks : List ℕ) × (js ++ n ∷ [] ≡ k ∷ ks)
    following [] = (n, [], refl)
    following (j ∷ js) = (j, js ++ n ∷ [], refl)

    second : (js : List ℕ) → those_below test n ≡ m ∷ js → test n ≡ true → (k : ℕ) × (ks : List ℕ) × (cond (test n) (those_below test n ++ n ∷ []) (those_below test n) ≡ m ∷ k ∷ ks)
    second js e q = let r = following js in (r.0, r.1, ap (λ b. cond b (those_below test n ++ n ∷ []) (those_below test n)) q ∙ ap (λ (ks : List ℕ). ks ++ n ∷ []) e ∙ ap (λ (ks : List ℕ). m ∷ ks) r.2)

pub those_alike : (test like : ℕ → Bool) → ((k : ℕ) → test k ≡ like k) → (n : ℕ) → those_below test n ≡ those_below like n
those_alike test like h zero = refl
those_alike test like h (suc n) = ap (λ b. cond b (those_below test n ++ n ∷ []) (those_below test n)) (h n) ∙ ap (λ (js : List ℕ). cond (like n) (js ++ n ∷ []) js) (those_alike test like h n)

-- ---- accesses by their places

not_back : (a b : AccessAt) → access_less a b ≡ true → access_less b a ≡ false
not_back a b h = grind (arith, nat_tests, h)

not_self : (a : AccessAt) → access_less a a ≡ false
not_self a = grind (arith, nat_tests)

spread_function : (e a : AccessAt) (b x : ℕ) → access_less e (record { function = a.function; instr = b }) ≡ false → access_less (record { function = a.function; instr = x }) e ≡ false → e.function ≡ a.function
spread_function e a b x p q = grind (arith, nat_tests, p, q)

spread_low : (e a : AccessAt) (b : ℕ) → e.function ≡ a.function → access_less e (record { function = a.function; instr = b }) ≡ false → b ≤ e.instr
spread_low e a b s p = grind (arith, nat_tests, s, p)

spread_high : (e a : AccessAt) (x : ℕ) → e.function ≡ a.function → access_less (record { function = a.function; instr = x }) e ≡ false → e.instr ≤ x
spread_high e a x s q = grind (arith, nat_tests, s, q)

less_here : (f k b : ℕ) → access_less (record { function = f; instr = k }) (record { function = f; instr = b }) ≡ true → k < b
less_here f k b h = grind (arith, nat_tests, h)

here_less : (f k b : ℕ) → k < b → access_less (record { function = f; instr = k }) (record { function = f; instr = b }) ≡ true
here_less f k b h = grind (arith, nat_tests, h)

module _ (bs : List AccessAt) (up : ascend bs ≡ true) where
  -- an access that comes before that at a place stands before it
  before_place : (i : ℕ) (y z : AccessAt) → i < length bs → ((d : AccessAt) → get_or bs i d ≡ y) → is_listed bs z ≡ true → access_less z y ≡ true → (j : ℕ) × (j < i) × ((d : AccessAt) → get_or bs j d ≡ z)
  before_place i y z lt is listed less =
      let r = place_in bs z listed in
      ⊎_elim
      (λ (l : r.0 < i). (r.0, l, r.2))
      (λ (g : i ≤ r.0). ⊎_elim
      (λ (m : i < r.0). absurd (let f : access_less y z ≡ true = ap (λ (v : AccessAt). access_less y v) (sym (r.2 z)) ∙ ap (λ (v : AccessAt). access_less v (get_or bs r.0 z)) (sym (is z)) ∙ far bs up i r.0 z m r.1 in let b : access_less z y ≡ false = not_back y z f in cc))
      (λ (m : r.0 ≤ i). absurd (let e : r.0 ≡ i = omega arith in let s : z ≡ y = sym (r.2 z) ∙ ap (λ n. get_or bs n z) e ∙ is z in irr y (ap (λ (v : AccessAt). access_less v y) (sym s) ∙ less)))
      (cases_lt i r.0))
      (cases_lt r.0 i)

  after_place : (i : ℕ) (y z : AccessAt) → i < length bs → ((d : AccessAt) → get_or bs i d ≡ y) → is_listed bs z ≡ true → access_less y z ≡ true → (j : ℕ) × (i < j) × (j < length bs) × ((d : AccessAt) → get_or bs j d ≡ z)
  after_place i y z lt is listed less =
      let r = place_in bs z listed in
      ⊎_elim
      (λ (l : i < r.0). (r.0, l, r.1, r.2))
      (λ (g : r.0 ≤ i). ⊎_elim
      (λ (m : r.0 < i). absurd (let f : access_less z y ≡ true = ap (λ (v : AccessAt). access_less z v) (sym (is z)) ∙ ap (λ (v : AccessAt). access_less v (get_or bs i z)) (sym (r.2 z)) ∙ far bs up r.0 i z m lt in let b : access_less y z ≡ false = not_back z y f in cc))
      (λ (m : i ≤ r.0). absurd (let e : r.0 ≡ i = omega arith in let s : z ≡ y = sym (r.2 z) ∙ ap (λ n. get_or bs n z) e ∙ is z in irr y (ap (λ (v : AccessAt). access_less y v) (sym s) ∙ less)))
      (cases_lt r.0 i))
      (cases_lt i r.0)

  -- an access after that at a place isn't before the next one
  next_least : (i j : ℕ) (z d : AccessAt) → i < j → j < length bs → ((d : AccessAt) → get_or bs j d ≡ z) → access_less z (get_or bs (i + 1) d) ≡ false
  next_least i j z d l lt is =
      ⊎_elim
      (λ (m : i + 1 < j). not_back (get_or bs (i + 1) d) z (ap (λ (v : AccessAt). access_less (get_or bs (i + 1) d) v) (sym (is d)) ∙ far bs up (i + 1) j d m lt))
      (λ (m : j ≤ i + 1). let e : j ≡ i + 1 = omega arith in ap (λ (v : AccessAt). access_less z v) (ap (λ n. get_or bs n d) (sym e) ∙ is d) ∙ not_self z)
      (cases_lt (i + 1) j)

-- ---- those of one block

module _ (narrow : List AccessAt) (up : ascend narrow ≡ true) (is : List Instr) (a : AccessAt) (b at : ℕ) (eb : b ≡ block_at is a.instr)
    (below : (k : ℕ) (d : AccessAt) → k < at → access_less (get_or narrow k d) (record { function = a.function; instr = b }) ≡ true)
    (above : (k : ℕ) (d : AccessAt) → at ≤ k → k < length narrow → access_less (get_or narrow k d) (record { function = a.function; instr = b }) ≡ false)
    (listed : is_listed narrow a ≡ true) where
  abbrev test : ℕ → Bool
  test k = is_listed narrow (record { function = a.function; instr = k }) && (block_at is k == block_at is a.instr)

  own : (k : ℕ) × (at ≤ k) × (k < length narrow) × ((d : AccessAt) → get_or narrow k d ≡ a)
  own =
      let r = place_in narrow a listed in
      ⊎_elim
      (λ (l : r.0 < at). absurd (let h : a.instr < b = less_here a.function a.instr b (ap (λ (v : AccessAt). access_less v (record { function = a.function; instr = b })) (sym (r.2 a)) ∙ below r.0 a l) in let g = block_le is a.instr in omega arith))
      (λ (g : at ≤ r.0). (r.0, g, r.1, r.2))
      (cases_lt r.0 at)

  pub there : at < length narrow
  there = let r = own in omega (arith, r.1, r.2)

  -- the first of them
  abbrev first : AccessAt
  first = get_or narrow at a

  first_is : (d : AccessAt) → get_or narrow at d ≡ first
  first_is d = let lt = there in get_or-default narrow at d a lt
    where
      get_or-default : (xs : List AccessAt) (k : ℕ) (d e : AccessAt) → k < length xs → get_or xs k d ≡ get_or xs k e
      get_or-default [] k d e lt = absurd (omega arith)
      get_or-default (x ∷ xs) zero d e lt = refl
      get_or-default (x ∷ xs) (suc k) d e lt = get_or-default xs k d e (omega arith)

  not_after : access_less a first ≡ false
  not_after =
      let r = own in
      ⊎_elim
      (λ (m : at < r.0). not_back first a (ap (λ (v : AccessAt). access_less first v) (sym (r.3 a)) ∙ far narrow up at r.0 a m r.2))
      (λ (m : r.0 ≤ at). let e : r.0 ≡ at = omega (arith, r.1) in let s : first ≡ a = ap (λ n. get_or narrow n a) (sym e) ∙ r.3 a in ap (λ (v : AccessAt). access_less a v) s ∙ not_self a)
      (cases_lt at r.0)

  function_is : first.function ≡ a.function
  function_is = spread_function first a b a.instr (above at a (omega arith) there) not_after

  low : b ≤ first.instr
  low = spread_low first a b function_is (above at a (omega arith) there)

  high : first.instr ≤ a.instr
  high = spread_high first a a.instr function_is not_after

  in_block : block_at is first.instr ≡ b
  in_block = let l = low in block_between is first.instr a.instr (let e : block_at is a.instr ≤ first.instr = omega arith in e) high ∙ sym eb

  at_first : record { function = a.function; instr = first.instr } ≡ first
  at_first = let e = function_is in λ i. record { function = sym e i; instr = first.instr }

  equal_test : (m n : ℕ) → m ≡ n → (m == n) ≡ true
  equal_test m n e = grind (arith, nat_tests, e)

  test_equal : (m n : ℕ) → (m == n) ≡ true → m ≡ n
  test_equal m n e = grind (arith, nat_tests, e)

  passes : test first.instr ≡ true
  passes = both_and (is_listed narrow (record { function = a.function; instr = first.instr })) (block_at is first.instr == block_at is a.instr) (ap (λ (z : AccessAt). is_listed narrow z) at_first ∙ listed_at narrow at a there) (equal_test (block_at is first.instr) (block_at is a.instr) (in_block ∙ eb))

  none : (k : ℕ) → k < first.instr → test k ≡ false
  none k lt = ⊎_elim (λ (h : test k ≡ true). absurd (never (and_both (is_listed narrow (record { function = a.function; instr = k })) (block_at is k == block_at is a.instr) h))) (λ h. h) (either (test k))
    where
      never : (is_listed narrow (record { function = a.function; instr = k }) ≡ true) × ((block_at is k == block_at is a.instr) ≡ true) → ⊥
      never h =
          let z : AccessAt = record { function = a.function; instr = k } in
          let r = before_place narrow up at first z there first_is h.0 (ap (λ (y : AccessAt). access_less z y) (sym at_first) ∙ here_less a.function k first.instr lt) in
          let l : k < b = less_here a.function k b (ap (λ (v : AccessAt). access_less v (record { function = a.function; instr = b })) (sym (r.2 z)) ∙ below r.0 z r.1) in
          let e : block_at is k ≡ block_at is a.instr = test_equal (block_at is k) (block_at is a.instr) h.1 in
          let g = block_le is k in
          omega arith

  module _ (firsts : List (List ℕ)) (are : AreFirsts is (slice_index_or firsts a.function [])) where
    -- what stands in the block at the next place
    next_in : holds_in_block firsts (slice_get narrow (at + 1)) a.function b ≡ true → (s : AccessAt) × (slice_get narrow (at + 1) ≡ Some s) × (s.function ≡ a.function) × (s.instr < length is) × (block_at is s.instr ≡ b)
    next_in h = by (slice_get narrow (at + 1)) refl h
      where
        block_is : (o : Option ℕ) → is_block b o ≡ true → o ≡ Some b
        block_is None e = cc
        block_is (Some c) e = ap Some (test_equal c b e)

        reads : (xs : List ℕ) (k x : ℕ) → slice_get xs k ≡ Some x → (k < length xs) × (get_or xs k 0 ≡ x)
        reads [] k x e = cc
        reads (y ∷ ys) zero x e = (omega arith, cc)
        reads (y ∷ ys) (suc k) x e = let r = reads ys k x e in (omega (arith, r.0), r.1)

        by : (o : Option AccessAt) → slice_get narrow (at + 1) ≡ o → holds_in_block firsts o a.function b ≡ true → (s : AccessAt) × (slice_get narrow (at + 1) ≡ Some s) × (s.function ≡ a.function) × (s.instr < length is) × (block_at is s.instr ≡ b)
        by None e k = cc
        by (Some s) e k =
            let m = and_both (s.function == a.function) (is_block b (block_in firsts s)) k in
            let f : s.function ≡ a.function = test_equal s.function a.function m.0 in
            let g : slice_get (slice_index_or firsts a.function []) s.instr ≡ Some b = ap (λ n. slice_get (slice_index_or firsts n []) s.instr) (sym f) ∙ block_is (block_in firsts s) m.1 in
            let r = reads (slice_index_or firsts a.function []) s.instr b g in
            let lt : s.instr < length is = subst (λ n. s.instr < n) are.long r.0 in
            (s, e, f, lt, sym (are.each s.instr lt) ∙ r.1)

    reads_access : (xs : List AccessAt) (k : ℕ) (x d : AccessAt) → slice_get xs k ≡ Some x → (k < length xs) × (get_or xs k d ≡ x)
    reads_access [] k x d e = cc
    reads_access (y ∷ ys) zero x d e = (omega arith, cc)
    reads_access (y ∷ ys) (suc k) x d e = let r = reads_access ys k x d e in (omega (arith, r.0), r.1)

    block_of_two : (js : List ℕ) (m j : ℕ) (ks : List ℕ) → js ≡ m ∷ j ∷ ks → together js ≡ grain.Block m
    block_of_two js m j ks e = ap together e

    pub shared : (d : AccessAt) → holds_in_block firsts (slice_get narrow (at + 1)) a.function b ≡ true → grain.Block (get_or narrow at d).instr ≡ together (those_below (λ k. test k) (length is))
    shared d h =
        let n = next_in h in
        let s : AccessAt = n.0 in
        let q = reads_access narrow (at + 1) s a n.1 in
        let less : access_less first s ≡ true = ap (λ (v : AccessAt). access_less first v) (sym q.1) ∙ far narrow up at (at + 1) a (omega arith) q.0 in
        let there_s : record { function = a.function; instr = s.instr } ≡ s = λ i. record { function = sym n.2 i; instr = s.instr } in
        let l : first.instr < s.instr = less_here a.function first.instr s.instr (ap (λ (v : AccessAt). access_less (record { function = a.function; instr = first.instr }) v) there_s ∙ ap (λ (v : AccessAt). access_less v s) at_first ∙ less) in
        let t : test s.instr ≡ true = both_and (is_listed narrow (record { function = a.function; instr = s.instr })) (block_at is s.instr == block_at is a.instr) (ap (λ (z : AccessAt). is_listed narrow z) (there_s ∙ sym q.1) ∙ listed_at narrow (at + 1) a q.0) (equal_test (block_at is s.instr) (block_at is a.instr) (n.4 ∙ eb)) in
        let r = two_below test first.instr s.instr (length is) l n.3 passes t none in
        ap (λ (z : AccessAt). grain.Block z.instr) (first_is d) ∙ sym (block_of_two (those_below (λ k. test k) (length is)) first.instr r.0 r.1 r.2)

    pub alone : a.instr < length is → holds_in_block firsts (slice_get narrow (at + 1)) a.function b ≡ false → grain.Instruction ≡ together (those_below (λ k. test k) (length is))
    alone within h = let m : first.instr < length is = (let g = high in omega arith) in sym (ap together (one_below test first.instr (length is) m passes others))
      where
        never : (k : ℕ) → k < length is → first.instr < k → test k ≡ true → ⊥
        never k lt l t =
            let z : AccessAt = record { function = a.function; instr = k } in
            let m = and_both (is_listed narrow z) (block_at is k == block_at is a.instr) t in
            let e : block_at is k ≡ block_at is a.instr = test_equal (block_at is k) (block_at is a.instr) m.1 in
            let r = after_place narrow up at first z there first_is m.0 (ap (λ (y : AccessAt). access_less y z) (sym at_first) ∙ here_less a.function first.instr k l) in
            let long : at + 1 < length narrow = omega (arith, r.1, r.2) in
            let s : AccessAt = get_or narrow (at + 1) a in
            let p : access_less first s ≡ true = far narrow up at (at + 1) a (omega arith) long in
            let q : access_less z s ≡ false = next_least narrow up at r.0 z a r.1 r.2 r.3 in
            let u : access_less s (record { function = a.function; instr = first.instr }) ≡ false = ap (λ (v : AccessAt). access_less s v) at_first ∙ not_back first s p in
            let f : s.function ≡ a.function = spread_function s a first.instr k u q in
            let lo : first.instr ≤ s.instr = spread_low s a first.instr f u in
            let hi : s.instr ≤ k = spread_high s a k f q in
            let bl : block_at is first.instr ≤ block_at is s.instr = block_up is first.instr s.instr lo in
            let bh : block_at is s.instr ≤ block_at is k = block_up is s.instr k hi in
            let fb : block_at is first.instr ≡ b = in_block in
            let bs : block_at is s.instr ≡ b = omega arith in
            let ls : s.instr < length is = omega arith in
            let g : slice_get narrow (at + 1) ≡ Some s = slice_get-get_or narrow (at + 1) a long in
            let tb : slice_get (slice_index_or firsts s.function []) s.instr ≡ Some b = ap (λ n. slice_get (slice_index_or firsts n []) s.instr) f ∙ slice_get-get_or (slice_index_or firsts a.function []) s.instr 0 (subst (λ n. s.instr < n) (sym are.long) ls) ∙ ap Some (are.each s.instr ls ∙ bs) in
            let held : holds_in_block firsts (slice_get narrow (at + 1)) a.function b ≡ true = ap (λ o. holds_in_block firsts o a.function b) g ∙ both_and (s.function == a.function) (is_block b (block_in firsts s)) (equal_test s.function a.function f) (ap (λ o. is_block b o) tb ∙ equal_test b b refl) in
            cc

        others : (k : ℕ) → k < length is → (k ≡ first.instr → ⊥) → test k ≡ false
        others k lt apart =
            ⊎_elim
            (λ (l : k < first.instr). none k l)
            (λ (g : first.instr ≤ k). ⊎_elim (λ (l : first.instr < k). ⊎_elim (λ t. absurd (never k lt l t)) (λ t. t) (either (test k))) (λ (m : k ≤ first.instr). absurd (apart (omega arith))) (cases_lt first.instr k))
            (cases_lt k first.instr)
