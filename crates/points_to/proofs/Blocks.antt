-- Blocks of rows: what one block's change leaves and makes.
use Rattle.std.proofs.Common.{◌≡◌, ℕ, zero, suc, ◌<◌, ◌≤◌, List, [], ◌∷◌, length, get_or, set, refl, sym, ap, ◌∙◌, subst, arith, ◌⊎◌, inl, inr, ⊎_elim, get_or-set_same, get_or-set_other}
use Rattle.std.specs.List.{Contains}
use Rattle.std.proofs.lemmas.List.{map-set, set-get_or, get_or_past, get_or_default}
use Rattle.std.proofs.lemmas.Bool.{cases_lt, cases_eq}
use Rattle.points_to.specs.Ascending.{In, row_of, room, block_of, row_at, widths, rooms}

-- a block that has rows is there
pub there : (blocks was : List (List (List ℕ))) (b n : ℕ) → blocks ≡ was → n < length (block_of was b) → b < length blocks
there blocks was b n is lt =
    ⊎_elim
    (λ (l : b < length blocks). l)
    (λ (g : length blocks ≤ b). absurd (omega (arith, lt, ap (λ (z : List (List ℕ)). length z) (ap (λ z. block_of z b) (sym is) ∙ get_or_past blocks b [] g))))
    (cases_lt b (length blocks))

pub no_rows : (b n : ℕ) → row_at [] b n ≡ []
no_rows b n = ap (λ z. row_of z n) (get_or_past [] b [] (omega arith)) ∙ get_or_past [] n [] (omega arith)

pub width_of : (blocks : List (List (List ℕ))) (b : ℕ) → length (block_of blocks b) ≡ get_or (widths blocks) b 0
width_of [] zero = refl
width_of [] (suc b) = refl
width_of (rows ∷ blocks) zero = refl
width_of (rows ∷ blocks) (suc b) = width_of blocks b

rooms_fall : (blocks : List (List (List ℕ))) (b : ℕ) (w : List (List ℕ)) → b < length blocks → room w < room (block_of blocks b) → rooms (set blocks b w) < rooms blocks
rooms_fall [] b w lt h = absurd (omega arith)
rooms_fall (rows ∷ blocks) zero w lt h = omega arith
rooms_fall (rows ∷ blocks) (suc b) w lt h = let k = rooms_fall blocks b w (omega arith) h in omega (arith, k)

-- v was the block b, and w is it now
module _ (blocks was : List (List (List ℕ))) (b : ℕ) (v w : List (List ℕ)) (is : blocks ≡ was) (lt : b < length blocks) (at : v ≡ get_or blocks b v) where
  block_was : block_of blocks b ≡ v
  block_was = get_or_default blocks b [] v lt ∙ sym at

  block_now : block_of (set blocks b w) b ≡ w
  block_now = get_or-set_same blocks b w [] lt

  pub widths_after : length w ≡ length v → widths (set blocks b w) ≡ widths was
  widths_after e = map-set length blocks b w ∙ ap (set (widths blocks) b) (e ∙ ap (λ (z : List (List ℕ)). length z) (sym block_was) ∙ width_of blocks b) ∙ set-get_or (widths blocks) b 0 ∙ ap widths is

  pub in_after : (n p : ℕ) → In w n p → Contains (row_at (set blocks b w) b n) p
  in_after n p h = subst (λ z. In z n p) (sym block_now) h

  pub from_after : (n p : ℕ) → ((m q : ℕ) → In w m q → In v m q ⊎ ((m ≡ n) × (q ≡ p))) → (a m q : ℕ) → Contains (row_at (set blocks b w) a m) q → Contains (row_at was a m) q ⊎ ((a ≡ b) × (m ≡ n) × (q ≡ p))
  from_after n p from a m q h =
      ⊎_elim
      (λ (e : a ≡ b). ⊎_elim
      (λ (k : In v m q). inl (subst (λ z. Contains (row_at z a m) q) is (subst (λ i. In (block_of blocks i) m q) (sym e) (subst (λ z. In z m q) (sym block_was) k))))
      (λ (k : (m ≡ n) × (q ≡ p)). inr (e, k.0, k.1))
      (from m q (subst (λ z. In z m q) (ap (λ i. block_of (set blocks b w) i) e ∙ block_now) h)))
      (λ ne. inl (subst (λ z. Contains (row_at z a m) q) is (subst (λ z. In z m q) (get_or-set_other blocks b a w [] ne) h)))
      (cases_eq a b)

  pub same_after : w ≡ v → set blocks b w ≡ was
  same_after e = ap (set blocks b) (e ∙ sym block_was) ∙ set-get_or blocks b [] ∙ is

  pub falls_after : room w < room v → rooms (set blocks b w) < rooms was
  falls_after h = subst (λ z. rooms (set blocks b w) < rooms z) is (rooms_fall blocks b w lt (subst (λ z. room w < room z) (sym block_was) h))
