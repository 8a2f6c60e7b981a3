-- Judging line after line.
use Rattle.std.proofs.Common.{◌≡◌, ℕ, zero, suc, ◌+◌, ◌≤◌, min, Bool, true, false, List, [], ◌∷◌, ◌++◌, length, take, Option, Some, None, refl, sym, ap, subst, ◌∙◌, arith, append_assoc, length-append}
use Rattle.std.specs.Prelude.{slice_get, IsTrue}
use Rattle.std.proofs.lemmas.List.{append-nil}
use Rattle.order_log.specs.Reading.{shown}
use Rattle.order_log.proofs.Lists.{All-append}
use Rattle.snapshots.specs.Conditions.{AllFit}
use Rattle.snapshot_reader.specs.Misfits.{Judging, Misfits}

fit_append : (xs ys : List Bool) → AllFit xs → AllFit ys → AllFit (xs ++ ys)
fit_append xs ys h k = All-append IsTrue xs ys h k

take_all_of : (xs ys : List Bool) → take (length xs) (xs ++ ys) ≡ xs
take_all_of [] ys = refl
take_all_of (x ∷ xs) ys = ap (λ (z : List Bool). x ∷ z) (take_all_of xs ys)

take_past : (xs ys : List Bool) (k : ℕ) → take (length xs + k) (xs ++ ys) ≡ xs ++ take k ys
take_past [] ys k = ap (λ (n : ℕ). take n ys) (let e : 0 + k ≡ k = omega arith in e)
take_past (x ∷ xs) ys k = ap (λ (n : ℕ). take n (x ∷ xs ++ ys)) (let e : suc (length xs) + k ≡ suc (length xs + k) = omega arith in e) ∙ ap (λ (z : List Bool). x ∷ z) (take_past xs ys k)

get_past : (xs ys : List Bool) (k : ℕ) → slice_get (xs ++ ys) (length xs + k) ≡ slice_get ys k
get_past [] ys k = ap (slice_get ys) (let e : 0 + k ≡ k = omega arith in e)
get_past (x ∷ xs) ys k = ap (slice_get (x ∷ xs ++ ys)) (let e : suc (length xs) + k ≡ suc (length xs + k) = omega arith in e) ∙ get_past xs ys k

take_within : (xs ys : List Bool) (k : ℕ) (b : Bool) → slice_get xs k ≡ Some b → (take k (xs ++ ys) ≡ take k xs) × (slice_get (xs ++ ys) k ≡ Some b)
take_within [] ys k b e = cc
take_within (x ∷ xs) ys zero b e = (refl, e)
take_within (x ∷ xs) ys (suc k) b e = let r = take_within xs ys k b e in (ap (λ (z : List Bool). x ∷ z) r.0, r.1)

-- ---- parts

-- the first part has the misfit
pub misfits_front : (xs ys : List Bool) (at line : ℕ) → Misfits xs at (Some line) → Misfits (xs ++ ys) at (Some line)
misfits_front xs ys at line h = let r = take_within xs ys h.0 false h.3 in (h.0, h.1, subst AllFit (sym r.0) h.2, r.1)

-- the first part has none
pub misfits_back : (xs ys : List Bool) (at next : ℕ) (r : Option ℕ) → next ≡ shown (at + length xs) → Misfits xs at None → Misfits ys next r → Misfits (xs ++ ys) at r
misfits_back xs ys at next None here h k = fit_append xs ys h k
misfits_back xs ys at next (Some line) here h k = (
  length xs + k.0,
  let a = k.1 in omega arith,
  subst AllFit (sym (take_past xs ys k.0)) (fit_append xs (take k.0 ys) h k.2),
  get_past xs ys k.0 ∙ k.3,
)

-- ---- loops

pub judging_start : (all : List Bool) (at : ℕ) → at ≤ 4294967295 → Judging all all at at
judging_start all at low = record { front = []; fit = tt; parts = refl; here = omega arith }

pub judging_next : (all left : List Bool) (b : Bool) (at line next : ℕ) → Judging all (b ∷ left) at line → b ≡ true → next ≡ min (line + 1) 4294967295 → Judging all left at next
judging_next all left b at line next j fits step = record {
  front = j.front ++ b ∷ [];
  fit = fit_append j.front (b ∷ []) j.fit (fits, tt);
  parts = j.parts ∙ sym (append_assoc j.front (b ∷ []) left);
  here = let h = j.here in let e = length-append j.front (b ∷ []) in omega arith;
}

pub judging_misfit : (all left : List Bool) (b : Bool) (at line : ℕ) → Judging all (b ∷ left) at line → b ≡ false → Misfits all at (Some line)
judging_misfit all left b at line j unfit = (
  length j.front,
  j.here,
  subst AllFit (sym (ap (take (length j.front)) j.parts ∙ take_all_of j.front (b ∷ left))) j.fit,
  ap (λ (z : List Bool). slice_get z (length j.front)) j.parts ∙ ap (slice_get (j.front ++ b ∷ left)) (let e : length j.front ≡ length j.front + 0 = omega arith in e) ∙ get_past j.front (b ∷ left) 0 ∙ ap Some unfit,
)

pub judging_end : (all : List Bool) (at line : ℕ) → Judging all [] at line → Misfits all at None
judging_end all at line j = subst AllFit (sym (j.parts ∙ append-nil j.front)) j.fit

-- a part that fits is passed, and one that doesn't has the first misfit
pub judging_part : (all part left : List Bool) (at line next : ℕ) → Judging all (part ++ left) at line → Misfits part line None → next ≡ shown (line + length part) → Judging all left at next
judging_part all part left at line next j fits step = record {
  front = j.front ++ part;
  fit = fit_append j.front part j.fit fits;
  parts = j.parts ∙ sym (append_assoc j.front part left);
  here = let h = j.here in let e = length-append j.front part in omega arith;
}

pub judging_part_misfit : (all part left : List Bool) (at line misfit : ℕ) → Judging all (part ++ left) at line → Misfits part line (Some misfit) → Misfits all at (Some misfit)
judging_part_misfit all part left at line misfit j h =
    let whole = misfits_back j.front (part ++ left) at line (Some misfit) j.here j.fit (misfits_front part left line misfit h) in
    subst (λ (z : List Bool). Misfits z at (Some misfit)) (sym j.parts) whole
