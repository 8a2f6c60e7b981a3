-- How often a region is open before each of the Takes and Gives that stand before an instruction.
use Rattle.std.proofs.Common.{◌≡◌, ℕ, zero, suc, ◌+◌, ◌-◌, ◌<◌, ◌≤◌, ◌&&◌, Bool, true, false, not, List, [], ◌∷◌, ◌++◌, map, refl, sym, ap, ◌∙◌, subst, arith, append_assoc, append-nil, Option, Some, None, reverse, drop}
use Rattle.std.specs.Prelude.{slice_get, if◌then◌else◌, nat_le, ◌==◌}
use Rattle.std.proofs.lemmas.Bool.Decides.{nat_tests}
use Rattle.std.proofs.lemmas.List.{reverse-append}
use Rattle.flow_code.specs.declared.act.Act.{Act}
use Rattle.flow_code.specs.declared.act.Act.TheVariants as act
use Rattle.weak_code.specs.declared.stretch.Stretch.{Stretch}
use Rattle.weak_code.specs.Places.{numbers_from, begins_at, ends_before, covers, beginning, ending, gives, takes, left, before}
use Rattle.guard_paths.specs.Ways.{closed, opened_by}

-- ---- how often a region is open

abbrev pub times : ℕ → List ℕ → ℕ
times r [] = 0
times r (x ∷ xs) = if x == r then suc (times r xs) else times r xs

pub times_closed : (r : ℕ) (xs : List ℕ) → times r (closed r xs) ≡ times r xs - 1
times_closed r [] = refl
times_closed r (x ∷ xs) = go (x == r) refl (times_closed r xs)
  where
    go : (b : Bool) → (x == r) ≡ b → times r (closed r xs) ≡ times r xs - 1 → times r (if b then xs else x ∷ closed r xs) ≡ (if b then suc (times r xs) else times r xs) - 1
    go true e h = omega arith
    go false e h = ap (λ c. if c then suc (times r (closed r xs)) else times r (closed r xs)) e ∙ h

pub times_other : (r q : ℕ) (xs : List ℕ) → (q == r) ≡ false → times r (closed q xs) ≡ times r xs
times_other r q [] n = refl
times_other r q (x ∷ xs) n = go (x == q) refl (times_other r q xs n)
  where
    go : (b : Bool) → (x == q) ≡ b → times r (closed q xs) ≡ times r xs → times r (if b then xs else x ∷ closed q xs) ≡ (if x == r then suc (times r xs) else times r xs)
    go true e h =
        let s : x ≡ q = grind (arith, nat_tests, e) in
        let m : (x == r) ≡ false = ap (λ z. z == r) s ∙ n in
        sym (ap (λ c. if c then suc (times r xs) else times r xs) m)
    go false e h = ap (λ z. if x == r then suc z else z) h

times_append : (r : ℕ) (xs ys : List ℕ) → times r (xs ++ ys) ≡ times r xs + times r ys
times_append r [] ys = omega arith
times_append r (x ∷ xs) ys = go (x == r) (times_append r xs ys)
  where
    go : (b : Bool) → times r (xs ++ ys) ≡ times r xs + times r ys → (if b then suc (times r (xs ++ ys)) else times r (xs ++ ys)) ≡ (if b then suc (times r xs) else times r xs) + times r ys
    go true h = omega arith
    go false h = h

times_reverse : (r : ℕ) (xs : List ℕ) → times r (reverse xs) ≡ times r xs
times_reverse r [] = refl
times_reverse r (x ∷ xs) = ap (times r) (reverse-append (x ∷ []) xs) ∙ times_append r (reverse xs) (x ∷ []) ∙ go (x == r) (times_reverse r xs)
  where
    go : (b : Bool) → times r (reverse xs) ≡ times r xs → times r (reverse xs) + (if b then 1 else 0) ≡ (if b then suc (times r xs) else times r xs)
    go true h = omega arith
    go false h = omega arith

-- ---- numbers of the regions that pass a test

abbrev pub one_if : Bool → ℕ
one_if b = if b then 1 else 0

-- there is a region, and it passes the test
abbrev pub has_test : (Stretch → Bool) → Option Stretch → Bool
has_test test None = false
has_test test (Some s) = test s

none_before : (r n : ℕ) (test : Stretch → Bool) (ss : List Stretch) → r < n → times r (numbers_from n test ss) ≡ 0
none_before r n test [] lt = refl
none_before r n test (s ∷ ss) lt = go (test s) (none_before r (n + 1) test ss (omega arith))
  where
    go : (b : Bool) → times r (numbers_from (n + 1) test ss) ≡ 0 → times r (if b then n ∷ numbers_from (n + 1) test ss else numbers_from (n + 1) test ss) ≡ 0
    go true h = let e : (n == r) ≡ false = grind (arith, nat_tests, lt) in ap (λ c. if c then suc (times r (numbers_from (n + 1) test ss)) else times r (numbers_from (n + 1) test ss)) e ∙ h
    go false h = h

times_from : (r n : ℕ) (test : Stretch → Bool) (ss : List Stretch) → times (n + r) (numbers_from n test ss) ≡ one_if (has_test test (slice_get ss r))
times_from r n test [] = refl
times_from zero n test (s ∷ ss) = go (test s) (none_before (n + 0) (n + 1) test ss (omega arith))
  where
    go : (b : Bool) → times (n + 0) (numbers_from (n + 1) test ss) ≡ 0 → times (n + 0) (if b then n ∷ numbers_from (n + 1) test ss else numbers_from (n + 1) test ss) ≡ (if b then 1 else 0)
    go true h = let e : (n == n + 0) ≡ true = grind (arith, nat_tests) in ap (λ c. if c then suc (times (n + 0) (numbers_from (n + 1) test ss)) else times (n + 0) (numbers_from (n + 1) test ss)) e ∙ ap suc h
    go false h = h
times_from (suc r) n test (s ∷ ss) = go (test s) (let z : (n + 1) + r ≡ n + suc r = omega arith in subst (λ m. times m (numbers_from (n + 1) test ss) ≡ one_if (has_test test (slice_get ss r))) z (times_from r (n + 1) test ss))
  where
    go : (b : Bool) → times (n + suc r) (numbers_from (n + 1) test ss) ≡ one_if (has_test test (slice_get ss r)) → times (n + suc r) (if b then n ∷ numbers_from (n + 1) test ss else numbers_from (n + 1) test ss) ≡ one_if (has_test test (slice_get ss r))
    go true h = let e : (n == n + suc r) ≡ false = grind (arith, nat_tests) in ap (λ c. if c then suc (times (n + suc r) (numbers_from (n + 1) test ss)) else times (n + suc r) (numbers_from (n + 1) test ss)) e ∙ h
    go false h = h

times_of : (r : ℕ) (test : Stretch → Bool) (ss : List Stretch) → times r (numbers_from 0 test ss) ≡ one_if (has_test test (slice_get ss r))
times_of r test ss = let z : 0 + r ≡ r = omega arith in subst (λ m. times m (numbers_from 0 test ss) ≡ one_if (has_test test (slice_get ss r))) z (times_from r 0 test ss)

-- ---- what may be where weak instructions are still to come

abbrev takes_it : ℕ → Act → Bool
takes_it r (act.Take q) = q == r
takes_it r _ = false

abbrev gives_it : ℕ → Act → Bool
gives_it r (act.Give q) = q == r
gives_it r _ = false

abbrev pub StandsNext : (taken given : Bool) → ℕ → Type 0 → Type 0
StandsNext true given n rest = n ≡ 0
StandsNext false true n rest = n ≤ 1
StandsNext false false n rest = rest

-- the region is open so many times before these, after which it is open or not
abbrev pub Stands : Bool → ℕ → List Act → ℕ → Type 0
Stands o r [] n = n ≡ (if o then 1 else 0)
Stands o r (b ∷ bs) n = StandsNext (takes_it r b) (gives_it r b) n (Stands o r bs n)

abbrev FollowsNext : (taken given : Bool) → Type 0 → Type 0 → Type 0
FollowsNext true given P Q = P
FollowsNext false true P Q = Q
FollowsNext false false P Q = Unit {0}

-- after each Take of the region it may be open once, and after each Give not at all
abbrev pub Follows : Bool → ℕ → List Act → Type 0
Follows o r [] = Unit {0}
Follows o r (b ∷ bs) = FollowsNext (takes_it r b) (gives_it r b) (Stands o r bs 1) (Stands o r bs 0) × Follows o r bs

-- past one of them
pub stands_past : (o : Bool) (r : ℕ) (b : Act) (bs : List Act) (opened : List ℕ) → Follows o r (b ∷ bs) → Stands o r (b ∷ bs) (times r opened) → Stands o r bs (times r (opened_by b opened))
stands_past o r (act.Compute into w) bs opened f h = h
stands_past o r (act.Alloc into site size) bs opened f h = h
stands_past o r (act.LoadCell into through) bs opened f h = h
stands_past o r (act.StoreCell through from) bs opened f h = h
stands_past o r act.Mark bs opened f h = h
stands_past o r (act.Call g arguments into) bs opened f h = h
stands_past o r (act.Library c arguments into) bs opened f h = h
stands_past o r (act.Jump to) bs opened f h = h
stands_past o r (act.Branch on then_at else_at) bs opened f h = h
stands_past o r (act.Return value) bs opened f h = h
stands_past o r (act.Take q) bs opened f h = go (q == r) f.0 h
  where
    go : (b : Bool) → FollowsNext b false (Stands o r bs 1) (Stands o r bs 0) → StandsNext b false (times r opened) (Stands o r bs (times r opened)) → Stands o r bs (if b then suc (times r opened) else times r opened)
    go true s e = subst (λ n. Stands o r bs (suc n)) (sym e) s
    go false s k = k
stands_past o r (act.Give q) bs opened f h = go (q == r) refl f.0 h
  where
    go : (b : Bool) → (q == r) ≡ b → FollowsNext false b (Stands o r bs 1) (Stands o r bs 0) → StandsNext false b (times r opened) (Stands o r bs (times r opened)) → Stands o r bs (times r (closed q opened))
    go true e s le =
        let z : q ≡ r = grind (arith, nat_tests, e) in
        let t : 0 ≡ times r (closed q opened) = omega (arith, ap (λ p. times r (closed p opened)) z, times_closed r opened, le) in
        subst (Stands o r bs) t s
    go false e s k = subst (Stands o r bs) (sym (times_other r q opened e)) k

-- ---- lists of Gives and of Takes

suc_not : (n : ℕ) → suc n ≡ 0 → ⊥
suc_not n e = omega (arith, e)

skip_gives : (o : Bool) (r n : ℕ) (xs : List ℕ) (bs : List Act) → times r xs ≡ 0 → Stands o r bs n → Stands o r (map (λ q. act.Give q) xs ++ bs) n
skip_gives o r n [] bs z h = h
skip_gives o r n (x ∷ xs) bs z h = go (x == r) z (λ e. skip_gives o r n xs bs e h)
  where
    go : (b : Bool) → (if b then suc (times r xs) else times r xs) ≡ 0 → (times r xs ≡ 0 → Stands o r (map (λ q. act.Give q) xs ++ bs) n) → StandsNext false b n (Stands o r (map (λ q. act.Give q) xs ++ bs) n)
    go true e k = absurd (suc_not (times r xs) e)
    go false e k = k e

one_gives : (o : Bool) (r n : ℕ) (xs : List ℕ) (bs : List Act) → times r xs ≡ 1 → n ≤ 1 → Stands o r (map (λ q. act.Give q) xs ++ bs) n
one_gives o r n [] bs z le = absurd (omega (arith, z))
one_gives o r n (x ∷ xs) bs z le = go (x == r) z (λ e. one_gives o r n xs bs e le)
  where
    go : (b : Bool) → (if b then suc (times r xs) else times r xs) ≡ 1 → (times r xs ≡ 1 → Stands o r (map (λ q. act.Give q) xs ++ bs) n) → StandsNext false b n (Stands o r (map (λ q. act.Give q) xs ++ bs) n)
    go true e k = le
    go false e k = k e

follow_gives : (o : Bool) (r : ℕ) (xs : List ℕ) (bs : List Act) → times r xs ≡ 0 → Follows o r bs → Follows o r (map (λ q. act.Give q) xs ++ bs)
follow_gives o r [] bs z f = f
follow_gives o r (x ∷ xs) bs z f = go (x == r) z (λ e. follow_gives o r xs bs e f)
  where
    go : (b : Bool) → (if b then suc (times r xs) else times r xs) ≡ 0 → (times r xs ≡ 0 → Follows o r (map (λ q. act.Give q) xs ++ bs)) → FollowsNext false b (Stands o r (map (λ q. act.Give q) xs ++ bs) 1) (Stands o r (map (λ q. act.Give q) xs ++ bs) 0) × Follows o r (map (λ q. act.Give q) xs ++ bs)
    go true e k = absurd (suc_not (times r xs) e)
    go false e k = (tt, k e)

one_follow_gives : (o : Bool) (r : ℕ) (xs : List ℕ) (bs : List Act) → times r xs ≡ 1 → Stands o r bs 0 → Follows o r bs → Follows o r (map (λ q. act.Give q) xs ++ bs)
one_follow_gives o r [] bs z s f = absurd (omega (arith, z))
one_follow_gives o r (x ∷ xs) bs z s f = go (x == r) z (λ e. one_follow_gives o r xs bs e s f)
  where
    go : (b : Bool) → (if b then suc (times r xs) else times r xs) ≡ 1 → (times r xs ≡ 1 → Follows o r (map (λ q. act.Give q) xs ++ bs)) → FollowsNext false b (Stands o r (map (λ q. act.Give q) xs ++ bs) 1) (Stands o r (map (λ q. act.Give q) xs ++ bs) 0) × Follows o r (map (λ q. act.Give q) xs ++ bs)
    go true e k = let z : times r xs ≡ 0 = omega (arith, e) in (skip_gives o r 0 xs bs z s, follow_gives o r xs bs z f)
    go false e k = (tt, k e)

skip_takes : (o : Bool) (r n : ℕ) (xs : List ℕ) (bs : List Act) → times r xs ≡ 0 → Stands o r bs n → Stands o r (map (λ q. act.Take q) xs ++ bs) n
skip_takes o r n [] bs z h = h
skip_takes o r n (x ∷ xs) bs z h = go (x == r) z (λ e. skip_takes o r n xs bs e h)
  where
    go : (b : Bool) → (if b then suc (times r xs) else times r xs) ≡ 0 → (times r xs ≡ 0 → Stands o r (map (λ q. act.Take q) xs ++ bs) n) → StandsNext b false n (Stands o r (map (λ q. act.Take q) xs ++ bs) n)
    go true e k = absurd (suc_not (times r xs) e)
    go false e k = k e

one_takes : (o : Bool) (r n : ℕ) (xs : List ℕ) (bs : List Act) → times r xs ≡ 1 → n ≡ 0 → Stands o r (map (λ q. act.Take q) xs ++ bs) n
one_takes o r n [] bs z h = absurd (omega (arith, z))
one_takes o r n (x ∷ xs) bs z h = go (x == r) z (λ e. one_takes o r n xs bs e h)
  where
    go : (b : Bool) → (if b then suc (times r xs) else times r xs) ≡ 1 → (times r xs ≡ 1 → Stands o r (map (λ q. act.Take q) xs ++ bs) n) → StandsNext b false n (Stands o r (map (λ q. act.Take q) xs ++ bs) n)
    go true e k = h
    go false e k = k e

follow_takes : (o : Bool) (r : ℕ) (xs : List ℕ) (bs : List Act) → times r xs ≡ 0 → Follows o r bs → Follows o r (map (λ q. act.Take q) xs ++ bs)
follow_takes o r [] bs z f = f
follow_takes o r (x ∷ xs) bs z f = go (x == r) z (λ e. follow_takes o r xs bs e f)
  where
    go : (b : Bool) → (if b then suc (times r xs) else times r xs) ≡ 0 → (times r xs ≡ 0 → Follows o r (map (λ q. act.Take q) xs ++ bs)) → FollowsNext b false (Stands o r (map (λ q. act.Take q) xs ++ bs) 1) (Stands o r (map (λ q. act.Take q) xs ++ bs) 0) × Follows o r (map (λ q. act.Take q) xs ++ bs)
    go true e k = absurd (suc_not (times r xs) e)
    go false e k = (tt, k e)

one_follow_takes : (o : Bool) (r : ℕ) (xs : List ℕ) (bs : List Act) → times r xs ≡ 1 → Stands o r bs 1 → Follows o r bs → Follows o r (map (λ q. act.Take q) xs ++ bs)
one_follow_takes o r [] bs z s f = absurd (omega (arith, z))
one_follow_takes o r (x ∷ xs) bs z s f = go (x == r) z (λ e. one_follow_takes o r xs bs e s f)
  where
    go : (b : Bool) → (if b then suc (times r xs) else times r xs) ≡ 1 → (times r xs ≡ 1 → Follows o r (map (λ q. act.Take q) xs ++ bs)) → FollowsNext b false (Stands o r (map (λ q. act.Take q) xs ++ bs) 1) (Stands o r (map (λ q. act.Take q) xs ++ bs) 0) × Follows o r (map (λ q. act.Take q) xs ++ bs)
    go true e k = let z : times r xs ≡ 0 = omega (arith, e) in (skip_takes o r 1 xs bs z s, follow_takes o r xs bs z f)
    go false e k = (tt, k e)

-- ---- what stands before an instruction

-- where the region ends before, begins with and covers the instruction after which none of these weak ones are left, it is
-- open so many times before them all
abbrev pub Enters : (ends begins covers : Bool) → ℕ → Type 0
Enters true begins c n = n ≤ 1
Enters false true c n = n ≡ 0
Enters false false c n = n ≡ (if c then 1 else 0)

-- a region that begins or ends there doesn't do both, and covers it only if it begins there
abbrev pub Agree : (ends begins covers : Bool) → Type 0
Agree true true c = ⊥
Agree true false true = ⊥
Agree true false false = Unit {0}
Agree false true false = ⊥
Agree false true true = Unit {0}
Agree false false c = Unit {0}

abbrev Parts : (xs ys zs : List ℕ) → List Act
Parts xs ys zs = map (λ q. act.Give q) xs ++ (map (λ q. act.Take q) ys ++ (map (λ q. act.Give q) zs ++ []))

module _ (r : ℕ) (xs ys zs : List ℕ) where
  stands_parts : (e f c ret : Bool) (n : ℕ) → Agree e f c → times r xs ≡ one_if e → times r ys ≡ one_if f → times r zs ≡ one_if (ret && c) → Enters e f c n → Stands (c && not ret) r (Parts xs ys zs) n
  stands_parts true true c ret n a x y z h = absurd a
  stands_parts true false true ret n a x y z h = absurd a
  stands_parts true false false ret n a x y z h = one_gives false r n xs (map (λ q. act.Take q) ys ++ (map (λ q. act.Give q) zs ++ [])) x h
  stands_parts false true false ret n a x y z h = absurd a
  stands_parts false true true ret n a x y z h = skip_gives (not ret) r n xs (map (λ q. act.Take q) ys ++ (map (λ q. act.Give q) zs ++ [])) x (one_takes (not ret) r n ys (map (λ q. act.Give q) zs ++ []) y h)
  stands_parts false false true true n a x y z h = skip_gives false r n xs (map (λ q. act.Take q) ys ++ (map (λ q. act.Give q) zs ++ [])) x (skip_takes false r n ys (map (λ q. act.Give q) zs ++ []) y (one_gives false r n zs [] z (omega (arith, h))))
  stands_parts false false true false n a x y z h = skip_gives true r n xs (map (λ q. act.Take q) ys ++ (map (λ q. act.Give q) zs ++ [])) x (skip_takes true r n ys (map (λ q. act.Give q) zs ++ []) y (skip_gives true r n zs [] z h))
  stands_parts false false false true n a x y z h = skip_gives false r n xs (map (λ q. act.Take q) ys ++ (map (λ q. act.Give q) zs ++ [])) x (skip_takes false r n ys (map (λ q. act.Give q) zs ++ []) y (skip_gives false r n zs [] z h))
  stands_parts false false false false n a x y z h = skip_gives false r n xs (map (λ q. act.Take q) ys ++ (map (λ q. act.Give q) zs ++ [])) x (skip_takes false r n ys (map (λ q. act.Give q) zs ++ []) y (skip_gives false r n zs [] z h))

  last_part : (c ret : Bool) → times r zs ≡ one_if (ret && c) → Follows (c && not ret) r (map (λ q. act.Give q) zs ++ [])
  last_part true true z = one_follow_gives false r zs [] z refl tt
  last_part true false z = follow_gives true r zs [] z tt
  last_part false true z = follow_gives false r zs [] z tt
  last_part false false z = follow_gives false r zs [] z tt

  open_last : (ret : Bool) → times r zs ≡ one_if (ret && true) → Stands (true && not ret) r (map (λ q. act.Give q) zs ++ []) 1
  open_last true z = one_gives false r 1 zs [] z (omega arith)
  open_last false z = skip_gives true r 1 zs [] z refl

  shut_last : (ret : Bool) → times r zs ≡ one_if (ret && false) → Stands (false && not ret) r (map (λ q. act.Give q) zs ++ []) 0
  shut_last true z = skip_gives false r 0 zs [] z refl
  shut_last false z = skip_gives false r 0 zs [] z refl

  follows_parts : (e f c ret : Bool) → Agree e f c → times r xs ≡ one_if e → times r ys ≡ one_if f → times r zs ≡ one_if (ret && c) → Follows (c && not ret) r (Parts xs ys zs)
  follows_parts true true c ret a x y z = absurd a
  follows_parts true false true ret a x y z = absurd a
  follows_parts true false false ret a x y z =
      one_follow_gives (false && not ret) r xs (map (λ q. act.Take q) ys ++ (map (λ q. act.Give q) zs ++ [])) x
      (skip_takes (false && not ret) r 0 ys (map (λ q. act.Give q) zs ++ []) y (shut_last ret z))
      (follow_takes (false && not ret) r ys (map (λ q. act.Give q) zs ++ []) y (last_part false ret z))
  follows_parts false true false ret a x y z = absurd a
  follows_parts false true true ret a x y z =
      follow_gives (true && not ret) r xs (map (λ q. act.Take q) ys ++ (map (λ q. act.Give q) zs ++ [])) x
      (one_follow_takes (true && not ret) r ys (map (λ q. act.Give q) zs ++ []) y (open_last ret z) (last_part true ret z))
  follows_parts false false c ret a x y z =
      follow_gives (c && not ret) r xs (map (λ q. act.Take q) ys ++ (map (λ q. act.Give q) zs ++ [])) x
      (follow_takes (c && not ret) r ys (map (λ q. act.Give q) zs ++ []) y (last_part c ret z))

-- ---- of one region

abbrev pub returns : Act → Bool
returns (act.Return value) = true
returns _ = false

-- the region is open at the instruction itself
abbrev pub stays : Option Stretch → ℕ → Act → Bool
stays o k a = has_test (covers k) o && not (returns a)

abbrev pub EntersAt : Option Stretch → ℕ → ℕ → Type 0
EntersAt o k n = Enters (has_test (ends_before k) o) (has_test (begins_at k) o) (has_test (covers k) o) n

-- a region has an instruction
abbrev pub IsLong : Option Stretch → Type 0
IsLong None = Unit {0}
IsLong (Some s) = s.first ≤ s.last

agree_at : (k : ℕ) (o : Option Stretch) → IsLong o → Agree (has_test (ends_before k) o) (has_test (begins_at k) o) (has_test (covers k) o)
agree_at k None l = tt
agree_at k (Some s) l = go (ends_before k s) (begins_at k s) (covers k s) refl refl refl
  where
    go : (e f c : Bool) → ends_before k s ≡ e → begins_at k s ≡ f → covers k s ≡ c → Agree e f c
    go true true c p q t = let a : s.last + 1 ≡ k = grind (arith, nat_tests, p) in let b : s.first ≡ k = grind (arith, nat_tests, q) in absurd (omega (arith, a, b, l))
    go true false true p q t = let a : s.last + 1 ≡ k = grind (arith, nat_tests, p) in let b : k ≤ s.last = grind (arith, nat_tests, t) in absurd (omega (arith, a, b))
    go true false false p q t = tt
    go false true false p q t = let b : s.first ≡ k = grind (arith, nat_tests, q) in absurd (no b)
      where
        no : s.first ≡ k → ⊥
        no b = let x : nat_le s.first k ≡ true = grind (arith, nat_tests, b) in let y : nat_le k s.last ≡ true = grind (arith, nat_tests, b, l) in both_not (nat_le s.first k) (nat_le k s.last) x y t
          where
            both_not : (x y : Bool) → x ≡ true → y ≡ true → (x && y) ≡ false → ⊥
            both_not true y p q h = cc
            both_not false y p q h = cc
    go false true true p q t = tt
    go false false c p q t = tt

left_times : (ss : List Stretch) (k r : ℕ) (a : Act) → times r (left ss k a) ≡ one_if (returns a && has_test (covers k) (slice_get ss r))
left_times ss k r (act.Compute into w) = refl
left_times ss k r (act.Alloc into site size) = refl
left_times ss k r (act.LoadCell into through) = refl
left_times ss k r (act.StoreCell through from) = refl
left_times ss k r act.Mark = refl
left_times ss k r (act.Call g arguments into) = refl
left_times ss k r (act.Library c arguments into) = refl
left_times ss k r (act.Jump to) = refl
left_times ss k r (act.Branch on then_at else_at) = refl
left_times ss k r (act.Return value) = times_of r (covers k) ss
left_times ss k r (act.Take q) = refl
left_times ss k r (act.Give q) = refl

before_parts : (ss : List Stretch) (k : ℕ) (a : Act) → Parts (reverse (ending ss k)) (beginning ss k) (reverse (left ss k a)) ≡ before ss k a
before_parts ss k a =
    ap (λ z. gives (ending ss k) ++ (takes (beginning ss k) ++ z)) (append-nil (gives (left ss k a)))
    ∙ sym (append_assoc (gives (ending ss k)) (takes (beginning ss k)) (gives (left ss k a)))

pub stands_before : (ss : List Stretch) (k : ℕ) (a : Act) (r n : ℕ) → IsLong (slice_get ss r) → EntersAt (slice_get ss r) k n → Stands (stays (slice_get ss r) k a) r (before ss k a) n
stands_before ss k a r n l h =
    subst (λ bs. Stands (stays (slice_get ss r) k a) r bs n) (before_parts ss k a)
    (stands_parts r (reverse (ending ss k)) (beginning ss k) (reverse (left ss k a)) (has_test (ends_before k) (slice_get ss r)) (has_test (begins_at k) (slice_get ss r)) (has_test (covers k) (slice_get ss r)) (returns a) n
    (agree_at k (slice_get ss r) l) (times_reverse r (ending ss k) ∙ times_of r (ends_before k) ss) (times_of r (begins_at k) ss) (times_reverse r (left ss k a) ∙ left_times ss k r a) h)

pub follows_before : (ss : List Stretch) (k : ℕ) (a : Act) (r : ℕ) → IsLong (slice_get ss r) → Follows (stays (slice_get ss r) k a) r (before ss k a)
follows_before ss k a r l =
    subst (λ bs. Follows (stays (slice_get ss r) k a) r bs) (before_parts ss k a)
    (follows_parts r (reverse (ending ss k)) (beginning ss k) (reverse (left ss k a)) (has_test (ends_before k) (slice_get ss r)) (has_test (begins_at k) (slice_get ss r)) (has_test (covers k) (slice_get ss r)) (returns a)
    (agree_at k (slice_get ss r) l) (times_reverse r (ending ss k) ∙ times_of r (ends_before k) ss) (times_of r (begins_at k) ss) (times_reverse r (left ss k a) ∙ left_times ss k r a))

-- what follows them all follows the rest
pub follows_drop : (o : Bool) (r : ℕ) (bs : List Act) (j : ℕ) → Follows o r bs → Follows o r (drop j bs)
follows_drop o r bs zero f = f
follows_drop o r [] (suc j) f = tt
follows_drop o r (b ∷ bs) (suc j) f = follows_drop o r bs j f.1
