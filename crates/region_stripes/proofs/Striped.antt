-- A span takes the stripe of each cell from its counter to before its bound.
use Rattle.std.proofs.Common.{◌≡◌, ℕ, zero, suc, ◌+◌, ◌-◌, ◌%◌, ◌^◌, ◌<◌, ◌≤◌, ◌&&◌, ◌||◌, Bool, true, false, not, ℤ, pos, negsuc, ◌+ℤ◌, List, length, Option, Some, None, Ok, Err, refl, sym, ap, ◌∙◌, subst, arith}
use Rattle.std.specs.Prelude.{slice_get, if◌then◌else◌, nat_le, nat_lt, ◌==◌, ◌≤ℤ◌, ◌<ℤ◌}
use Rattle.std.proofs.lemmas.Bool.Decides.{nat_tests}
use Rattle.std.proofs.lemmas.Int.{ints}
use Rattle.rr_base.specs.Words as pointer
use Rattle.rr_base.specs.Words.{site_of, base_of, length_of, offset_of, pack, moved_to}
use Rattle.rr_base.specs.declared.layout.Site.{Site}
use Rattle.rr_base.specs.declared.trap.Trap.TheVariants.{BadDereference, OutOfObject}
use Rattle.rr_base.proofs.WordLaws.{moved-site, moved-length}
use Rattle.flow_code.specs.declared.code.Code.{Code}
use Rattle.flow_code.specs.declared.code.LockInfo.{LockInfo}
use Rattle.flow_code.specs.Stripes.{stripe_at, class_in, lock_guards, guards, points_to_cell, any_from, clamped, range_wants}
use Rattle.word_semantics.specs.Pointers.{site_at, known, moved, moved_by}
use Rattle.word_semantics.specs.Values.{fits}
use Rattle.weak_valid.proofs.Tests.{both, two}
use Rattle.region_stripes.proofs.Fitting.{IsAlike}

any_from_has : (p : ℕ → Bool) (m k n : ℕ) → k ≤ n → n < k + m → p n ≡ true → any_from p m k ≡ true
any_from_has p zero k n le lt h = absurd (omega (arith, le, lt))
any_from_has p (suc m) k n le lt h = go (k == n) refl (λ l. any_from_has p m (k + 1) n l (omega (arith, lt)) h)
  where
    any : (b : Bool) → (b || true) ≡ true
    any true = refl
    any false = refl

    go : (b : Bool) → (k == n) ≡ b → (k + 1 ≤ n → any_from p m (k + 1) ≡ true) → (p k || any_from p m (k + 1)) ≡ true
    go true e rec = let q : k ≡ n = grind (arith, nat_tests, e) in ap (λ b. b || any_from p m (k + 1)) (ap p q ∙ h)
    go false e rec = let q : k + 1 ≤ n = grind (arith, nat_tests, e, le) in ap (λ b. p k || b) (rec q) ∙ any (p k)

clamped_low : (z : ℤ) (k n : ℕ) → z ≤ℤ pos k → clamped n z ≤ k
clamped_low (pos m) k n h = let l : m ≤ k = omega (arith, ints, h) in omega (arith, l)
clamped_low (negsuc m) k n h = omega arith

clamped_high : (z : ℤ) (k n : ℕ) → pos k <ℤ z → k < n → k < clamped n z
clamped_high (pos m) k n h lt = let l : k < m = omega (arith, ints, h) in omega (arith, l, lt)
clamped_high (negsuc m) k n h lt = absurd (omega (arith, ints, h))

-- what guards a cell is told by the word's site and length
guards_same : (code : Code) (v w o lock stripe : ℕ) → site_of v ≡ site_of w → length_of v ≡ length_of w → guards code v o lock stripe ≡ guards code w o lock stripe
guards_same code v w o lock stripe s c = go (slice_get code.locks lock)
  where
    go : (l : Option LockInfo) → lock_guards l code.sites v o stripe ≡ lock_guards l code.sites w o stripe
    go None = refl
    go (Some l) =
        ap (λ n. (l.site == n) && (l.class == class_in (site_at code.sites n) o) && (stripe == stripe_at l.stripes o (length_of v))) s
        ∙ ap (λ n. (l.site == site_of w) && (l.class == class_in (site_at code.sites (site_of w)) o) && (stripe == stripe_at l.stripes o n)) c

-- ---- a moved pointer

-- the word points into the same object, so many cells further on
pub record IsMovedTo (w v : ℕ) (z : ℤ) : Type 0 where
  pub site : site_of v ≡ site_of w
  pub cells : length_of v ≡ length_of w
  pub offset : pos (offset_of v) ≡ pos (offset_of w) +ℤ z

offset_moved : (w v : ℕ) (z : ℤ) → pointer.moved w z ≡ Ok v → pos (offset_of v) ≡ pos (offset_of w) +ℤ z
offset_moved w v z h = by_site (site_of w == 0) h
  where
    within : (k : ℕ) → (b : Bool) → nat_le k (length_of w) ≡ b → (if b then Ok (pack (site_of w) (base_of w) (length_of w) k) else Err OutOfObject) ≡ Ok v → offset_of v ≡ k
    within k true e h =
        let le : k ≤ length_of w = grind (arith, nat_tests, e) in
        let s : pack (site_of w) (base_of w) (length_of w) k ≡ v = cc (h) in
        ap offset_of (sym s) ∙ small k le
      where
        small : (k : ℕ) → k ≤ length_of w → offset_of (pack (site_of w) (base_of w) (length_of w) k) ≡ k
        small k le = omega arith
    within k false e h = cc

    by_number : (y : ℤ) → moved_to w y ≡ Ok v → pos (offset_of v) ≡ y
    by_number (pos k) g = ap pos (within k (nat_le k (length_of w)) refl g)
    by_number (negsuc k) g = cc

    by_site : (b : Bool) → (if b then Err BadDereference else moved_to w (pos (offset_of w) +ℤ z)) ≡ Ok v → pos (offset_of v) ≡ pos (offset_of w) +ℤ z
    by_site true g = cc
    by_site false g = by_number (pos (offset_of w) +ℤ z) g

pub moved_is : (sites : List Site) (w v : ℕ) (z : ℤ) → moved_by sites w z ≡ Ok v → IsMovedTo (known sites w) v z
moved_is sites w v z h = by_fits (fits z) h
  where
    by_fits : (b : Bool) → (if b then moved sites w z else Err OutOfObject) ≡ Ok v → IsMovedTo (known sites w) v z
    by_fits true g = record { site = moved-site (known sites w) v z g; cells = moved-length (known sites w) v z g; offset = offset_moved (known sites w) v z g }
    by_fits false g = cc

-- a word that is read as a pointer is read as it is
pub known_same : (sites : List Site) (w : ℕ) → points_to_cell (known sites w) ≡ true → known sites w ≡ w
known_same sites w h = go (nat_le (site_of w) (length sites)) (both (not (site_of (known sites w) == 0)) (nat_lt (offset_of (known sites w)) (length_of (known sites w))) h).0
  where
    none : site_of (w % 2 ^ 54) ≡ 0
    none = omega arith

    go : (b : Bool) → not (site_of (if b then w else w % 2 ^ 54) == 0) ≡ true → (if b then w else w % 2 ^ 54) ≡ w
    go true e = refl
    go false e = let t : (site_of (w % 2 ^ 54) == 0) ≡ true = grind (arith, nat_tests, none) in bad (site_of (w % 2 ^ 54) == 0) t e
      where
        bad : {P : Type 0} (b : Bool) → b ≡ true → not b ≡ true → P
        bad true t e = cc
        bad false t e = cc

-- ---- a range

-- of the count and the shift
lower : (o a c d : ℤ) → a ≤ℤ c → (o +ℤ a +ℤ d) ≤ℤ (o +ℤ (c +ℤ d))
lower o a c d h = omega (arith, ints, h)

higher : (o b c d : ℤ) → c <ℤ b → (o +ℤ (c +ℤ d)) <ℤ (o +ℤ b +ℤ d)
higher o b c d h = omega (arith, ints, h)

-- the word is like the base's, and v points into the object from the counter to before the bound
pub range_has : (code : Code) (word base v : ℕ) (a b c d : ℤ) (lock stripe : ℕ) → IsAlike word base → IsMovedTo base v (c +ℤ d) → a ≤ℤ c → c <ℤ b → points_to_cell v ≡ true → guards code v (offset_of v) lock stripe ≡ true → range_wants code word a b d lock stripe ≡ true
range_has code word base v a b c d lock stripe like m low high cell g =
    two (not (site_of word == 0)) (any_from (λ o. guards code word o lock stripe) (clamped (length_of word) (pos (offset_of word) +ℤ b +ℤ d) - clamped (length_of word) (pos (offset_of word) +ℤ a +ℤ d)) (clamped (length_of word) (pos (offset_of word) +ℤ a +ℤ d)))
    (ap (λ n. not (n == 0)) same_site ∙ p.0)
    (any_from_has (λ o. guards code word o lock stripe) (clamped (length_of word) (pos (offset_of word) +ℤ b +ℤ d) - clamped (length_of word) (pos (offset_of word) +ℤ a +ℤ d)) (clamped (length_of word) (pos (offset_of word) +ℤ a +ℤ d)) (offset_of v) first (omega (arith, first, following))
    (guards_same code word v (offset_of v) lock stripe same_site same_cells ∙ g))
  where
    p : (not (site_of v == 0) ≡ true) × (nat_lt (offset_of v) (length_of v) ≡ true)
    p = both (not (site_of v == 0)) (nat_lt (offset_of v) (length_of v)) cell

    same_site : site_of word ≡ site_of v
    same_site = like.site ∙ sym m.site

    same_cells : length_of word ≡ length_of v
    same_cells = like.cells ∙ sym m.cells

    at : pos (offset_of word) +ℤ (c +ℤ d) ≡ pos (offset_of v)
    at = ap (λ n. pos n +ℤ (c +ℤ d)) like.offset ∙ sym m.offset

    within : offset_of v < length_of word
    within = let e : offset_of v < length_of v = grind (arith, nat_tests, p.1) in subst (λ n. offset_of v < n) (sym same_cells) e

    first : clamped (length_of word) (pos (offset_of word) +ℤ a +ℤ d) ≤ offset_of v
    first = clamped_low (pos (offset_of word) +ℤ a +ℤ d) (offset_of v) (length_of word) (subst (λ z. (pos (offset_of word) +ℤ a +ℤ d) ≤ℤ z) at (lower (pos (offset_of word)) a c d low))

    following : offset_of v < clamped (length_of word) (pos (offset_of word) +ℤ b +ℤ d)
    following = clamped_high (pos (offset_of word) +ℤ b +ℤ d) (offset_of v) (length_of word) (subst (λ z. z <ℤ (pos (offset_of word) +ℤ b +ℤ d)) at (higher (pos (offset_of word)) b c d high)) within
