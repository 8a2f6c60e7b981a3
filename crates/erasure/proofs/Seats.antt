-- What stands where in weakened code.
use Rattle.std.proofs.Common.{◌≡◌, ℕ, zero, suc, ◌+◌, ◌<◌, ◌⊎◌, inl, inr, true, List, [], ◌∷◌, ◌++◌, length, map, refl, sym, ap, ◌∙◌, subst, arith, append_assoc, Some}
use Rattle.std.specs.Prelude.{slice_get}
use Rattle.std.proofs.lemmas.List.{length-map}
use Rattle.rr_base.proofs.Lists.{slice_get-append_right}
use Rattle.flow_code.specs.declared.act.Act.{Act}
use Rattle.flow_code.specs.declared.act.Instr.{Instr}
use Rattle.weak_code.specs.declared.stretch.Stretch.{Stretch}
use Rattle.weak_code.specs.Places.{before, place_from, enter}
use Rattle.weak_code.specs.Weakened.{retarget, at_instr, block, blocks}
use Rattle.weak_code.specs.Stripped.{is_weak}
use Rattle.weak_code.proofs.Stripping.{AreWeak, weak_before}

-- ---- one block

-- what stands at a place of a block and of what is after it: a weak instruction, the block's own one, or one after it
in_block : (i : Instr) (bs : List Act) (y : Instr) (rest : List Instr) (x : ℕ) (j : Instr) → AreWeak bs → slice_get (map (at_instr i) bs ++ y ∷ rest) x ≡ Some j →
    (is_weak j.act ≡ true) ⊎ (((x ≡ length bs) × (y ≡ j)) ⊎ ((k : ℕ) × (x ≡ length bs + 1 + k) × (slice_get rest k ≡ Some j)))
in_block i [] y rest zero j weak e = inr (inl (refl, cc))
in_block i [] y rest (suc k) j weak e = inr (inr (k, omega arith, e))
in_block i (b ∷ bs) y rest zero j weak e =
    let same : at_instr i b ≡ j = cc in
    inl (subst (λ (z : Instr). is_weak z.act ≡ true) same weak.0)
in_block i (b ∷ bs) y rest (suc x) j weak e = by (in_block i bs y rest x j weak.1 e)
  where
    by : (is_weak j.act ≡ true) ⊎ (((x ≡ length bs) × (y ≡ j)) ⊎ ((k : ℕ) × (x ≡ length bs + 1 + k) × (slice_get rest k ≡ Some j))) →
        (is_weak j.act ≡ true) ⊎ (((suc x ≡ suc (length bs)) × (y ≡ j)) ⊎ ((k : ℕ) × (suc x ≡ suc (length bs) + 1 + k) × (slice_get rest k ≡ Some j)))
    by (inl h) = inl h
    by (inr (inl h)) = inr (inl (ap suc h.0, h.1))
    by (inr (inr h)) = let far = h.1 in inr (inr (h.0, omega (arith, far), h.2))

module _ (ss : List Stretch) (all : List Instr) where
  -- the k-th of these instructions, the first of which has number n, at its new place
  abbrev moved_at : ℕ → Instr → Instr
  moved_at k i = at_instr i (retarget (enter ss all k) i.act)

  pub block_then : (k : ℕ) (i : Instr) (ys : List Instr) → block ss all k i ++ ys ≡ map (at_instr i) (before ss k i.act) ++ moved_at k i ∷ ys
  block_then k i ys = append_assoc (map (at_instr i) (before ss k i.act)) (moved_at k i ∷ []) ys

  pub record IsSeated (n : ℕ) (is : List Instr) (x : ℕ) (j : Instr) : Type 0 where
    pub number : ℕ
    pub instr : Instr
    pub here : slice_get is number ≡ Some instr
    pub seat : x ≡ place_from ss n is number + length (before ss (n + number) instr.act)
    pub moved : j ≡ moved_at (n + number) instr

  pub stands_from : (n : ℕ) (is : List Instr) (x : ℕ) (j : Instr) → slice_get (blocks ss all n is) x ≡ Some j → (is_weak j.act ≡ true) ⊎ IsSeated n is x j
  stands_from n [] x j e = cc
  stands_from n (i ∷ is) x j e =
      by (λ k h. stands_from (n + 1) is k j h)
      (in_block i (before ss n i.act) (moved_at n i) (blocks ss all (n + 1) is) x j (weak_before ss n i.act) (sym (ap (λ ys. slice_get ys x) (block_then n i (blocks ss all (n + 1) is))) ∙ e))
    where
      none : n + 0 ≡ n
      none = omega arith

      following : (k : ℕ) → x ≡ length (before ss n i.act) + 1 + k → (is_weak j.act ≡ true) ⊎ IsSeated (n + 1) is k j → (is_weak j.act ≡ true) ⊎ IsSeated n (i ∷ is) x j
      following k far (inl h) = inl h
      following k far (inr h) =
          let same : (n + 1) + h.number ≡ n + suc h.number = omega arith in
          let seat : k ≡ place_from ss (n + 1) is h.number + length (before ss (n + suc h.number) h.instr.act) = h.seat ∙ ap (λ m. place_from ss (n + 1) is h.number + length (before ss m h.instr.act)) same in
          inr (record { number = suc h.number; instr = h.instr; here = h.here; seat = omega (arith, far, seat); moved = h.moved ∙ ap (λ m. moved_at m h.instr) same })

      by : ((k : ℕ) → slice_get (blocks ss all (n + 1) is) k ≡ Some j → (is_weak j.act ≡ true) ⊎ IsSeated (n + 1) is k j) →
          (is_weak j.act ≡ true) ⊎ (((x ≡ length (before ss n i.act)) × (moved_at n i ≡ j)) ⊎ ((k : ℕ) × (x ≡ length (before ss n i.act) + 1 + k) × (slice_get (blocks ss all (n + 1) is) k ≡ Some j))) →
          (is_weak j.act ≡ true) ⊎ IsSeated n (i ∷ is) x j
      by rest (inl h) = inl h
      by rest (inr (inl h)) =
          let seat : length (before ss n i.act) ≡ length (before ss (n + 0) i.act) = ap (λ m. length (before ss m i.act)) (sym none) in
          let at = h.0 in
          inr (record { number = 0; instr = i; here = refl; seat = omega (arith, at, seat); moved = sym h.1 ∙ ap (λ m. moved_at m i) (sym none) })
      by rest (inr (inr h)) = following h.0 h.1 (rest h.0 h.2)

  pub seats_from : (n : ℕ) (is : List Instr) (k : ℕ) (i : Instr) → slice_get is k ≡ Some i → slice_get (blocks ss all n is) (place_from ss n is k + length (before ss (n + k) i.act)) ≡ Some (moved_at (n + k) i)
  seats_from n [] k i e = cc
  seats_from n (x ∷ is) zero i e =
      let same : x ≡ i = cc in
      let none : n + 0 ≡ n = omega arith in
      let seat : 0 + length (before ss (n + 0) i.act) ≡ length (map (at_instr i) (before ss n i.act)) + 0 =
      omega (arith, ap (λ m. length (before ss m i.act)) none, length-map (before ss n i.act) (at_instr i)) in
      ap (λ (z : Instr). slice_get (block ss all n z ++ blocks ss all (n + 1) is) (0 + length (before ss (n + 0) i.act))) same
      ∙ ap (λ ys. slice_get ys (0 + length (before ss (n + 0) i.act))) (block_then n i (blocks ss all (n + 1) is))
      ∙ ap (slice_get (map (at_instr i) (before ss n i.act) ++ moved_at n i ∷ blocks ss all (n + 1) is)) seat
      ∙ slice_get-append_right (map (at_instr i) (before ss n i.act)) (moved_at n i ∷ blocks ss all (n + 1) is) 0
      ∙ ap (λ m. Some (moved_at m i)) (sym none)
  seats_from n (x ∷ is) (suc k) i e =
      let same : (n + 1) + k ≡ n + suc k = omega arith in
      let there = place_from ss (n + 1) is k + length (before ss (n + suc k) i.act) in
      let seat : length (before ss n x.act) + 1 + place_from ss (n + 1) is k + length (before ss (n + suc k) i.act) ≡ length (map (at_instr x) (before ss n x.act)) + suc there = omega (arith, length-map (before ss n x.act) (at_instr x)) in
      ap (λ ys. slice_get ys (length (before ss n x.act) + 1 + place_from ss (n + 1) is k + length (before ss (n + suc k) i.act))) (block_then n x (blocks ss all (n + 1) is))
      ∙ ap (slice_get (map (at_instr x) (before ss n x.act) ++ moved_at n x ∷ blocks ss all (n + 1) is)) seat
      ∙ slice_get-append_right (map (at_instr x) (before ss n x.act)) (moved_at n x ∷ blocks ss all (n + 1) is) (suc there)
      ∙ ap (λ m. slice_get (blocks ss all (n + 1) is) (place_from ss (n + 1) is k + length (before ss m i.act))) (sym same)
      ∙ seats_from (n + 1) is k i e
      ∙ ap (λ m. Some (moved_at m i)) same

  -- each instruction stands before what stands before a later one
  pub seat_first : (n : ℕ) (is : List Instr) (j k : ℕ) (i : Instr) → slice_get is j ≡ Some i → j < k → place_from ss n is j + length (before ss (n + j) i.act) < place_from ss n is k
  seat_first n [] j k i e lt = cc
  seat_first n (x ∷ is) zero zero i e lt = absurd (omega (arith, lt))
  seat_first n (x ∷ is) zero (suc k) i e lt =
      let same : x ≡ i = cc in
      let none : n + 0 ≡ n = omega arith in
      let seat : length (before ss (n + 0) i.act) ≡ length (before ss n x.act) = ap (λ m. length (before ss m i.act)) none ∙ ap (λ (z : Instr). length (before ss n z.act)) (sym same) in
      omega (arith, seat)
  seat_first n (x ∷ is) (suc j) zero i e lt = absurd (omega (arith, lt))
  seat_first n (x ∷ is) (suc j) (suc k) i e lt =
      let same : (n + 1) + j ≡ n + suc j = omega arith in
      let more = subst (λ m. place_from ss (n + 1) is j + length (before ss m i.act) < place_from ss (n + 1) is k) same (seat_first (n + 1) is j k i e (omega (arith, lt))) in
      omega (arith, more)
