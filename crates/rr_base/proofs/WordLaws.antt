-- Laws of pointer words: packing and reading the parts undo each other, a move keeps the object, and numbers come back.
use Rattle.std.proofs.Common.{◌≡◌, ap, ℕ, ◌+◌, ◌<◌, ◌≤◌, ◌^◌, arith, ℤ, pos, negsuc, Ok}
use Rattle.std.specs.Prelude.{◌+ℤ◌}
use Rattle.std.proofs.lemmas.Grind.{common_steps}
use Rattle.rr_base.specs.Words.{site_of, base_of, length_of, offset_of, pack, moved, moved_to, cell_of, of_number, to_number}

-- the parts of a packed word are the parts
pub site_of-pack : (s b c o : ℕ) → b < 2 ^ 22 → c < 2 ^ 16 → o < 2 ^ 16 → site_of (pack s b c o) ≡ s
site_of-pack s b c o hb hc ho = omega arith

pub base_of-pack : (s b c o : ℕ) → b < 2 ^ 22 → c < 2 ^ 16 → o < 2 ^ 16 → base_of (pack s b c o) ≡ b
base_of-pack s b c o hb hc ho = omega arith

pub length_of-pack : (s b c o : ℕ) → b < 2 ^ 22 → c < 2 ^ 16 → o < 2 ^ 16 → length_of (pack s b c o) ≡ c
length_of-pack s b c o hb hc ho = omega arith

pub offset_of-pack : (s b c o : ℕ) → b < 2 ^ 22 → c < 2 ^ 16 → o < 2 ^ 16 → offset_of (pack s b c o) ≡ o
offset_of-pack s b c o hb hc ho = omega arith

-- a word is the pack of its parts
pub pack-parts : (w : ℕ) → pack (site_of w) (base_of w) (length_of w) (offset_of w) ≡ w
pack-parts w = omega arith

-- a word with an offset below 2 ^ 16 and a site below 2 ^ 10 has 64 bits
pub pack-lt : (s b c o : ℕ) → s < 2 ^ 10 → b < 2 ^ 22 → c < 2 ^ 16 → o < 2 ^ 16 → pack s b c o < 2 ^ 64
pack-lt s b c o hs hb hc ho = omega arith

-- where a move succeeds
pub moved_is : (w k : ℕ) (by : ℤ) → 0 < site_of w → pos (offset_of w) +ℤ by ≡ pos k → k ≤ length_of w → moved w by ≡ Ok (pack (site_of w) (base_of w) (length_of w) k)
moved_is w k by h e within = grind (arith, common_steps, ap (moved_to w) e)

-- a move keeps the object
pub moved-site : (w p : ℕ) (by : ℤ) → moved w by ≡ Ok p → site_of p ≡ site_of w
moved-site w p by h = grind (arith, common_steps)

pub moved-base : (w p : ℕ) (by : ℤ) → moved w by ≡ Ok p → base_of p ≡ base_of w
moved-base w p by h = grind (arith, common_steps)

pub moved-length : (w p : ℕ) (by : ℤ) → moved w by ≡ Ok p → length_of p ≡ length_of w
moved-length w p by h = grind (arith, common_steps)

pub moved-lt : (w p : ℕ) (by : ℤ) → w < 2 ^ 64 → moved w by ≡ Ok p → p < 2 ^ 64
moved-lt w p by fits h = grind (arith, common_steps)

-- a cell lies in its object
pub cell_of-within : (w c : ℕ) → cell_of w ≡ Ok c → (base_of w ≤ c) × (c < base_of w + length_of w) × (0 < site_of w)
cell_of-within w c h = grind (arith, common_steps)

-- a number comes back from its word, and a word from its number
pub to_number-of_number : (n : ℤ) (w : ℕ) → of_number n ≡ Ok w → to_number w ≡ Ok n
to_number-of_number (pos n) w h = grind (arith, common_steps)
to_number-of_number (negsuc n) w h = grind (arith, common_steps)

pub of_number-to_number : (w : ℕ) (n : ℤ) → to_number w ≡ Ok n → of_number n ≡ Ok w
of_number-to_number w n h = grind (arith, common_steps)

-- the word of a number points nowhere
pub of_number-site : (n : ℤ) (w : ℕ) → of_number n ≡ Ok w → site_of w ≡ 0
of_number-site (pos n) w h = grind (arith, common_steps)
of_number-site (negsuc n) w h = grind (arith, common_steps)
