-- A way with registers is a way, and what its steps are.
use Rattle.std.proofs.Common.{◌≡◌, ℕ, zero, suc, ◌+◌, ◌≤◌, Bool, true, false, List, [], ◌∷◌, map, refl, sym, ap, ◌∙◌, subst, arith, Option, Some, None}
use Rattle.std.specs.Prelude.{slice_get, if◌then◌else◌, ◌==◌}
use Rattle.std.specs.List.{Contains}
use Rattle.std.proofs.lemmas.Bool.Decides.{nat_tests}
use Rattle.std.proofs.lemmas.Option.{same_Some}
use Rattle.flow_code.specs.declared.act.Act.{Act}
use Rattle.flow_code.specs.declared.act.Act.TheVariants as act
use Rattle.flow_code.specs.declared.act.Instr.{Instr}
use Rattle.flow_code.specs.Next.{act_in}
use Rattle.word_semantics.specs.Registers.{register}
use Rattle.weak_code.specs.Stripped.{is_weak, plain_of}
use Rattle.loop_bounds.specs.Turns.{Setting, Goes}
use Rattle.guard_paths.specs.Walked as walked
use Rattle.guard_paths.specs.Walked.{Opening, closed_with, opened_with, Walked}
use Rattle.guard_paths.specs.Ways as ways
use Rattle.guard_paths.specs.Ways.{nexts, closed, opened_by, Way}
use Rattle.guard_paths.proofs.Guarded.{In, in_contains}
use Rattle.guard_paths.proofs.Standing.{times}

-- the numbers of open regions
abbrev pub numbers : List Opening → List ℕ
numbers xs = map (λ (x : Opening). x.0) xs

pub closed_numbers : (r : ℕ) (xs : List Opening) → numbers (closed_with r xs) ≡ closed r (numbers xs)
closed_numbers r [] = refl
closed_numbers r (x ∷ xs) = go (x.0 == r) (closed_numbers r xs)
  where
    go : (b : Bool) → numbers (closed_with r xs) ≡ closed r (numbers xs) → numbers (if b then xs else x ∷ closed_with r xs) ≡ (if b then numbers xs else x.0 ∷ closed r (numbers xs))
    go true h = refl
    go false h = ap (λ ys. x.0 ∷ ys) h

opened_numbers : (a : Act) (rs : List ℕ) (opened : List Opening) → numbers (opened_with (Some a) rs opened) ≡ opened_by a (numbers opened)
opened_numbers (act.Take r) rs opened = refl
opened_numbers (act.Give r) rs opened = closed_numbers r opened
opened_numbers _ rs opened = refl

one_next : (w v : ℕ) → v ≡ w → Contains (w ∷ []) v
one_next w v e = in_contains v (w ∷ []) (0, ap Some (sym e))

either_next : (b : Bool) (x y v : ℕ) → v ≡ (if b then y else x) → Contains (x ∷ y ∷ []) v
either_next true x y v e = in_contains v (x ∷ y ∷ []) (1, ap Some (sym e))
either_next false x y v e = in_contains v (x ∷ y ∷ []) (0, ap Some (sym e))

-- where a frame goes control may be
pub goes_next : (s : Setting) (a : Act) (w v : ℕ) (rs qs : List ℕ) → Goes s (Some a) w rs v qs → Contains (nexts a w) v
goes_next s (act.Return value) w v rs qs h = absurd h
goes_next s (act.Jump to) w v rs qs h = one_next to v h.0
goes_next s (act.Branch on x y) w v rs qs h = either_next (register rs on == 0) x y v h.0
goes_next s _ w v rs qs h = one_next (w + 1) v h.0

-- a weak instruction leads to the next place, with the same registers
pub weak_goes : (s : Setting) (a : Act) (w v : ℕ) (rs qs : List ℕ) → is_weak a ≡ true → Goes s (Some a) w rs v qs → (v ≡ w + 1) × (qs ≡ rs)
weak_goes s (act.Take r) w v rs qs h g = g
weak_goes s (act.Give r) w v rs qs h g = g
weak_goes s _ w v rs qs h g = cc

pub way : {s : Setting} {is : List Instr} {w : ℕ} {rs : List ℕ} {opened : List Opening} → Walked s is w rs opened → Way is w (numbers opened)
way (walked.begins rs) = ways.begins
way {s} {is} (walked.goes {w} {v} {rs} {qs} {opened} walk step) = by (slice_get is w) refl step (way walk)
  where
    by : (o : Option Instr) → slice_get is w ≡ o → Goes s (act_in o) w rs v qs → Way is w (numbers opened) → Way is v (numbers (opened_with (act_in o) rs opened))
    by None e g h = absurd g
    by (Some i) e g h = subst (λ os. Way is v os) (sym (opened_numbers i.act rs opened)) (ways.goes i v h e (goes_next s i.act w v rs qs g))

-- ---- open regions

-- an instruction that is not weak leaves them as they are
pub plain_opened : (a : Act) (rs : List ℕ) (opened : List Opening) → is_weak a ≡ false → opened_with (Some a) rs opened ≡ opened
plain_opened (act.Take r) rs opened h = cc
plain_opened (act.Give r) rs opened h = cc
plain_opened _ rs opened h = refl

pub in_numbers : (x : Opening) (xs : List Opening) → In x xs → In x.0 (numbers xs)
in_numbers x [] (k, h) = cc
in_numbers x (y ∷ xs) (zero, h) = (0, ap (λ (o : Option Opening). number_in o) h)
  where
    number_in : Option Opening → Option ℕ
    number_in None = None
    number_in (Some z) = Some z.0
in_numbers x (y ∷ xs) (suc k, h) = let r = in_numbers x xs (k, h) in (suc r.0, r.1)

pub of_closed : (x : Opening) (r : ℕ) (xs : List Opening) → In x (closed_with r xs) → In x xs
of_closed x r [] (k, h) = cc
of_closed x r (y ∷ xs) h = go (y.0 == r) h (λ i. of_closed x r xs i)
  where
    go : (b : Bool) → In x (if b then xs else y ∷ closed_with r xs) → (In x (closed_with r xs) → In x xs) → In x (y ∷ xs)
    go true i rec = (suc i.0, i.1)
    go false (zero, i) rec = (0, i)
    go false (suc k, i) rec = let q = rec (k, i) in (suc q.0, q.1)

pub in_times : (r : ℕ) (xs : List ℕ) → In r xs → 1 ≤ times r xs
in_times r [] (k, h) = cc
in_times r (x ∷ xs) (zero, h) = go (x == r) (let q = same_Some x r h in grind (arith, nat_tests, q))
  where
    go : (b : Bool) → b ≡ true → 1 ≤ (if b then suc (times r xs) else times r xs)
    go true e = omega arith
    go false e = cc
in_times r (x ∷ xs) (suc k, h) = go (x == r) (in_times r xs (k, h))
  where
    go : (b : Bool) → 1 ≤ times r xs → 1 ≤ (if b then suc (times r xs) else times r xs)
    go true l = omega arith
    go false l = l

-- ---- places

plain_zero : (is : List Instr) → plain_of is 0 ≡ 0
plain_zero [] = refl
plain_zero (i ∷ is) = refl

-- the plain place after an instruction
pub plain_next : (is : List Instr) (w : ℕ) (i : Instr) → slice_get is w ≡ Some i → plain_of is (w + 1) ≡ (if is_weak i.act then plain_of is w else suc (plain_of is w))
plain_next [] w i h = cc
plain_next (x ∷ is) zero i h = ap (λ n. if is_weak x.act then n else suc n) (plain_zero is) ∙ ap (λ (y : Instr). if is_weak y.act then 0 else 1) (same_Some x i h)
plain_next (x ∷ is) (suc w) i h =
    let e : suc w + 1 ≡ suc (w + 1) = omega arith in
    ap (plain_of (x ∷ is)) e ∙ ap (λ n. if is_weak x.act then n else suc n) (plain_next is w i h) ∙ go (is_weak x.act) (is_weak i.act)
  where
    go : (b c : Bool) → (if b then (if c then plain_of is w else suc (plain_of is w)) else suc (if c then plain_of is w else suc (plain_of is w))) ≡ (if c then (if b then plain_of is w else suc (plain_of is w)) else suc (if b then plain_of is w else suc (plain_of is w)))
    go true true = refl
    go true false = refl
    go false true = refl
    go false false = refl
