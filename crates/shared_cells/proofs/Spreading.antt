-- Words at spots of their own: each place has one that is no other place's, and a step on a table of places is one on the table.
use Rattle.std.proofs.Common.{◌≡◌, ◌≢◌, ℕ, ◌-◌, ◌<◌, ◌≤◌, List, length, sym, ap, subst, ◌∙◌, ⊎_elim, arith, length-set, min}
use Rattle.std.specs.Prelude.{slice_set, slice_index}
use Rattle.std.proofs.lemmas.Bool.{cases_eq, cases_order, cases_lt}
use Rattle.std.proofs.lemmas.List.{get_or-set_same, get_or-set_other}
use Rattle.std.proofs.Math.Nat.{min-eq_left, min-eq_right}
use Rattle.atomic_table.specs.Table.{Allows, carried_after}
use Rattle.core_run.specs.Words.{cells_of}
use Rattle.shared_cells.specs.Words.{first_words, lone_cells, spread, spot_of, IsSpread}
use Rattle.shared_cells.specs.Rule.{Knowledge, HoldsDense, Holds}
use Rattle.shared_cells.specs.Plays.{Mine}

-- the lesser of two by a difference
pub min_by_minus : (a b : ℕ) → min a b ≡ a - (a - b)
min_by_minus a b = ⊎_elim
    (λ lt. min-eq_left (let le : a ≤ b = omega (arith, lt) in le) ∙ (let e : a ≡ a - (a - b) = omega (arith, lt) in e))
    (λ le. min-eq_right le ∙ (let e : b ≡ a - (a - b) = omega (arith, le) in e))
    (cases_lt a b)

module _ (cells lone : ℕ) where
  -- a later place has a later spot
  pub spots_rise : (p q : ℕ) → p < q → spread cells lone p < spread cells lone q
  spots_rise p q lt =
      let a = min_by_minus p lone in
      let b = min_by_minus q lone in
      let c = min_by_minus (p - cells) lone in
      let d = min_by_minus (q - cells) lone in
      omega (arith, a, b, c, d, lt)

  pub spots_apart : (p q : ℕ) → p ≢ q → spread cells lone p ≢ spread cells lone q
  spots_apart p q ne e = ⊎_elim
      (λ same. ne same)
      (λ o. ⊎_elim (λ lt. (let up = spots_rise p q lt in omega (arith, up, e))) (λ lt. (let up = spots_rise q p lt in omega (arith, up, e))) o)
      (cases_order p q)

  pub same_place : (p q : ℕ) → spread cells lone p ≡ spread cells lone q → p ≡ q
  same_place p q e = ⊎_elim (λ same. same) (λ ne. absurd (spots_apart p q ne e)) (cases_eq p q)

  module _ (words table : List ℕ) (h : IsSpread cells lone words table) where
    pub spot_inside : (p : ℕ) → p < length words → spread cells lone p < length table
    spot_inside p lt = let up = spots_rise p (length words) lt in let size = h.size in omega (arith, up, size)

    -- one word is changed
    pub spread_set : (p x : ℕ) → p < length words → IsSpread cells lone (slice_set words p x) (slice_set table (spread cells lone p) x)
    spread_set p x lt = record {
      size = length-set table (spread cells lone p) x ∙ h.size ∙ ap (spread cells lone) (sym (length-set words p x));
      at = λ q inside. ⊎_elim
          (λ e. ap (slice_index (slice_set table (spread cells lone p) x)) (ap (spread cells lone) e)
          ∙ get_or-set_same table (spread cells lone p) x 0 (spot_inside p lt)
          ∙ sym (get_or-set_same words p x 0 lt)
          ∙ sym (ap (slice_index (slice_set words p x)) e))
          (λ ne. get_or-set_other table (spread cells lone p) (spread cells lone q) x 0 (spots_apart q p ne)
          ∙ h.at q (let size = length-set words p x in omega (arith, size, inside))
          ∙ sym (get_or-set_other words p q x 0 ne))
          (cases_eq q p);
    }

-- a step at a place is one at its spot
pub spread_allows : (key : Knowledge) (slots id : ℕ) (me : Mine) (p : ℕ) (f : ℕ → ℕ) (then all : ℕ → Mine → Type 0) → p < length (first_words key.code key.setup) → ((found : ℕ) (after : Mine) → then found after → all found after) → Allows (HoldsDense key) slots id me p f then → Allows (Holds key) slots id me (spot_of key.code key.setup p) f all
spread_allows key slots id me p f then all lt goes allows = λ s h len at fits.
    let cells = cells_of key.code key.setup in
    let lone = lone_cells key.code key.setup in
    let words = h.0 in
    let inside : p < length words = subst (λ n. p < n) (sym h.2.size) lt in
    let same : slice_index s.words (spread cells lone p) ≡ slice_index words p = h.1.at p inside in
    let done = allows (record { words = words; homes = s.homes; views = s.views }) h.2 len at (subst (λ n. n < 18446744073709551616) same fits) in
    let set : IsSpread cells lone (slice_set words p (f (slice_index words p))) (slice_set s.words (spread cells lone p) (f (slice_index s.words (spread cells lone p)))) =
    subst (λ n. IsSpread cells lone (slice_set words p (f (slice_index words p))) (slice_set s.words (spread cells lone p) (f n))) (sym same) (spread_set cells lone words s.words h.1 p (f (slice_index words p)) inside) in (
      done.0,
      done.1,
      done.2,
      (slice_set words p (f (slice_index words p)), set, done.3),
      goes (slice_index s.words (spread cells lone p)) (done.0, carried_after me.1 done.1) (subst (λ n. then n (done.0, carried_after me.1 done.1)) (sym same) done.4),
    )
