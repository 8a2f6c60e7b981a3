-- Where the instructions of a weakened function stand.
use Rattle.std.proofs.Common.{◌≡◌, ℕ, zero, suc, ◌+◌, ◌-◌, ◌<◌, ◌≤◌, List, [], ◌∷◌, ◌++◌, length, map, refl, sym, ap, ◌∙◌, subst, arith, Some, ⊎_elim}
use Rattle.std.specs.Prelude.{slice_get}
use Rattle.std.proofs.lemmas.Option.{same_Some, slice_get_within, slice_get-map}
use Rattle.std.specs.Option.{option_map}
use Rattle.std.proofs.lemmas.Bool.{cases_lt}
use Rattle.flow_code.specs.declared.act.Act.{Act}
use Rattle.flow_code.specs.declared.act.Instr.{Instr}
use Rattle.weak_code.specs.declared.stretch.Stretch.{Stretch}
use Rattle.weak_code.specs.Places.{before, place_from, place_of, enter}
use Rattle.weak_code.specs.Weakened.{retarget, at_instr, blocks}
use Rattle.weak_valid.proofs.Tests.{found, got_map}

-- ---- one block, and what follows

abbrev pub block_with : Instr → List Act → Instr → List Instr → List Instr
block_with i bs p rest = (map (at_instr i) bs ++ p ∷ []) ++ rest

in_block : (i : Instr) (bs : List Act) (p : Instr) (rest : List Instr) (j : ℕ) → j < length bs → slice_get (block_with i bs p rest) j ≡ slice_get (map (at_instr i) bs) j
in_block i [] p rest j lt = absurd (omega arith)
in_block i (b ∷ bs) p rest zero lt = refl
in_block i (b ∷ bs) p rest (suc j) lt = in_block i bs p rest j (omega arith)

at_end : (i : Instr) (bs : List Act) (p : Instr) (rest : List Instr) → slice_get (block_with i bs p rest) (length bs) ≡ Some p
at_end i [] p rest = refl
at_end i (b ∷ bs) p rest = at_end i bs p rest

past_block : (i : Instr) (bs : List Act) (p : Instr) (rest : List Instr) (w : ℕ) → slice_get (block_with i bs p rest) (length bs + 1 + w) ≡ slice_get rest w
past_block i [] p rest w = let e : 0 + 1 + w ≡ suc w = omega arith in ap (slice_get (p ∷ rest)) e
past_block i (b ∷ bs) p rest w = let e : suc (length bs) + 1 + w ≡ suc (length bs + 1 + w) = omega arith in ap (slice_get (at_instr i b ∷ block_with i bs p rest)) e ∙ past_block i bs p rest w

-- ---- places

length_block : (i : Instr) (bs : List Act) (p : Instr) (rest : List Instr) → length (block_with i bs p rest) ≡ length bs + 1 + length rest
length_block i [] p rest = omega arith
length_block i (b ∷ bs) p rest = ap suc (length_block i bs p rest) ∙ (omega arith)

pub total : (ss : List Stretch) (all : List Instr) (n : ℕ) (is : List Instr) → length (blocks ss all n is) ≡ place_from ss n is (length is)
total ss all n [] = refl
total ss all n (i ∷ is) = length_block i (before ss n i.act) (at_instr i (retarget (enter ss all n) i.act)) (blocks ss all (n + 1) is) ∙ ap (λ z. length (before ss n i.act) + 1 + z) (total ss all (n + 1) is)

pub place_next : (ss : List Stretch) (n : ℕ) (is : List Instr) (k : ℕ) (i : Instr) → slice_get is k ≡ Some i → place_from ss n is (suc k) ≡ place_from ss n is k + length (before ss (n + k) i.act) + 1
place_next ss n [] k i h = cc
place_next ss n (x ∷ []) zero i h = let e : n ≡ n + 0 = omega arith in omega (arith, ap (λ z. length (before ss n z.act)) (same_Some x i h), ap (λ z. length (before ss z i.act)) e)
place_next ss n (x ∷ y ∷ is) zero i h = let e : n ≡ n + 0 = omega arith in omega (arith, ap (λ z. length (before ss n z.act)) (same_Some x i h), ap (λ z. length (before ss z i.act)) e)
place_next ss n (x ∷ is) (suc k) i h = let e : (n + 1) + k ≡ n + suc k = omega arith in omega (arith, place_next ss (n + 1) is k i h, ap (λ z. length (before ss z i.act)) e)

-- a later instruction has the greater place
pub place_grows : (ss : List Stretch) (n : ℕ) (is : List Instr) (k d : ℕ) → k + d ≤ length is → place_from ss n is k ≤ place_from ss n is (k + d)
place_grows ss n is k zero le = let e : k + 0 ≡ k = omega arith in omega (arith, ap (place_from ss n is) e)
place_grows ss n is k (suc d) le =
    let x = found is (k + d) (omega arith) in
    let e : k + suc d ≡ suc (k + d) = omega arith in
    omega (arith, ap (place_from ss n is) e, place_next ss n is (k + d) x.0 x.1, place_grows ss n is k d (omega arith))

pub place_mono : (ss : List Stretch) (is : List Instr) (j k : ℕ) → j ≤ k → k ≤ length is → place_of ss is j ≤ place_of ss is k
place_mono ss is j k le within = let e : j + (k - j) ≡ k = omega arith in omega (arith, ap (place_of ss is) e, place_grows ss 0 is j (k - j) (omega arith))

-- ---- what stands at a place

pub seat_at : (ss : List Stretch) (all : List Instr) (n : ℕ) (is : List Instr) (k : ℕ) (i : Instr) → slice_get is k ≡ Some i → slice_get (blocks ss all n is) (place_from ss n is k + length (before ss (n + k) i.act)) ≡ Some (at_instr i (retarget (enter ss all (n + k)) i.act))
seat_at ss all n [] k i h = cc
seat_at ss all n (x ∷ is) zero i h =
    let e : n ≡ n + 0 = omega arith in
    let z : 0 + length (before ss n x.act) ≡ length (before ss n x.act) = omega arith in
    subst (λ m. slice_get (blocks ss all n (x ∷ is)) (0 + length (before ss m i.act)) ≡ Some (at_instr i (retarget (enter ss all m) i.act))) e
    (subst (λ (y : Instr). slice_get (blocks ss all n (x ∷ is)) (0 + length (before ss n y.act)) ≡ Some (at_instr y (retarget (enter ss all n) y.act))) (same_Some x i h)
    (ap (slice_get (blocks ss all n (x ∷ is))) z ∙ at_end x (before ss n x.act) (at_instr x (retarget (enter ss all n) x.act)) (blocks ss all (n + 1) is)))
seat_at ss all n (x ∷ is) (suc k) i h =
    let e : (n + 1) + k ≡ n + suc k = omega arith in
    subst (λ m. slice_get (blocks ss all n (x ∷ is)) ((length (before ss n x.act) + 1 + place_from ss (n + 1) is k) + length (before ss m i.act)) ≡ Some (at_instr i (retarget (enter ss all m) i.act))) e
    (ap (slice_get (blocks ss all n (x ∷ is))) (apart (length (before ss n x.act) + 1) (place_from ss (n + 1) is k) (length (before ss ((n + 1) + k) i.act)))
    ∙ past_block x (before ss n x.act) (at_instr x (retarget (enter ss all n) x.act)) (blocks ss all (n + 1) is) (place_from ss (n + 1) is k + length (before ss ((n + 1) + k) i.act))
    ∙ seat_at ss all (n + 1) is k i h)
  where
    apart : (a b c : ℕ) → (a + b) + c ≡ a + (b + c)
    apart a b c = omega arith

pub front_at : (ss : List Stretch) (all : List Instr) (n : ℕ) (is : List Instr) (k : ℕ) (i : Instr) (j : ℕ) (b : Act) → slice_get is k ≡ Some i → slice_get (before ss (n + k) i.act) j ≡ Some b → slice_get (blocks ss all n is) (place_from ss n is k + j) ≡ Some (at_instr i b)
front_at ss all n [] k i j b h g = cc
front_at ss all n (x ∷ is) zero i j b h g =
    let e : n + 0 ≡ n = omega arith in
    let z : 0 + j ≡ j = omega arith in
    subst (λ (y : Instr). slice_get (before ss n y.act) j ≡ Some b → slice_get (blocks ss all n (x ∷ is)) (0 + j) ≡ Some (at_instr y b)) (same_Some x i h)
    (λ p. ap (slice_get (blocks ss all n (x ∷ is))) z
    ∙ in_block x (before ss n x.act) (at_instr x (retarget (enter ss all n) x.act)) (blocks ss all (n + 1) is) j (slice_get_within (before ss n x.act) j b p)
    ∙ slice_get-map (at_instr x) (before ss n x.act) j ∙ ap (option_map (at_instr x)) p)
    (ap (λ m. slice_get (before ss m i.act) j) (sym e) ∙ g)
front_at ss all n (x ∷ is) (suc k) i j b h g =
    let e : (n + 1) + k ≡ n + suc k = omega arith in
    ap (slice_get (blocks ss all n (x ∷ is))) (apart (length (before ss n x.act) + 1) (place_from ss (n + 1) is k) j)
    ∙ past_block x (before ss n x.act) (at_instr x (retarget (enter ss all n) x.act)) (blocks ss all (n + 1) is) (place_from ss (n + 1) is k + j)
    ∙ front_at ss all (n + 1) is k i j b h (ap (λ m. slice_get (before ss m i.act) j) e ∙ g)
  where
    apart : (a b c : ℕ) → (a + b) + c ≡ a + (b + c)
    apart a b c = omega arith

-- an instruction that was put in before the k-th, or that one itself
pub data Spot (ss : List Stretch) (all : List Instr) (n : ℕ) (is : List Instr) (w : ℕ) (x : Instr) : Type 0 where
  put : (k : ℕ) (i : Instr) (j : ℕ) (b : Act) → slice_get is k ≡ Some i → slice_get (before ss (n + k) i.act) j ≡ Some b → w ≡ place_from ss n is k + j → x ≡ at_instr i b → Spot ss all n is w x
  own : (k : ℕ) (i : Instr) → slice_get is k ≡ Some i → w ≡ place_from ss n is k + length (before ss (n + k) i.act) → x ≡ at_instr i (retarget (enter ss all (n + k)) i.act) → Spot ss all n is w x

-- one more instruction before them
further : (ss : List Stretch) (all : List Instr) (n : ℕ) (y : Instr) (is : List Instr) (v w : ℕ) (x : Instr) → w ≡ length (before ss n y.act) + 1 + v → Spot ss all (n + 1) is v x → Spot ss all n (y ∷ is) w x
further ss all n y is v w x e (put k i j b g p q r) =
    let z : (n + 1) + k ≡ n + suc k = omega arith in
    put (suc k) i j b g (ap (λ m. slice_get (before ss m i.act) j) (sym z) ∙ p) (omega (arith, e, q)) r
further ss all n y is v w x e (own k i g q r) =
    let z : (n + 1) + k ≡ n + suc k = omega arith in
    own (suc k) i g (omega (arith, e, q, ap (λ m. length (before ss m i.act)) z)) (r ∙ ap (λ m. at_instr i (retarget (enter ss all m) i.act)) z)

pub spot : (ss : List Stretch) (all : List Instr) (n : ℕ) (is : List Instr) (w : ℕ) (x : Instr) → slice_get (blocks ss all n is) w ≡ Some x → Spot ss all n is w x
spot ss all n [] w x h = cc
spot ss all n (i ∷ is) w x h = ⊎_elim weak (λ ge. ⊎_elim (λ lt. here (omega arith)) (λ gt. later (λ v. spot ss all (n + 1) is v x) (w - (length (before ss n i.act) + 1)) (omega arith)) (cases_lt w (length (before ss n i.act) + 1))) (cases_lt w (length (before ss n i.act)))
  where
    e : n ≡ n + 0
    e = omega arith

    weak : w < length (before ss n i.act) → Spot ss all n (i ∷ is) w x
    weak lt =
        let g = got_map (at_instr i) (before ss n i.act) w x (sym (in_block i (before ss n i.act) (at_instr i (retarget (enter ss all n) i.act)) (blocks ss all (n + 1) is) w lt) ∙ h) in
        put 0 i w g.0 refl (ap (λ m. slice_get (before ss m i.act) w) (sym e) ∙ g.1) (omega arith) g.2

    here : w ≡ length (before ss n i.act) → Spot ss all n (i ∷ is) w x
    here q =
        let s : Some (at_instr i (retarget (enter ss all n) i.act)) ≡ Some x = sym (at_end i (before ss n i.act) (at_instr i (retarget (enter ss all n) i.act)) (blocks ss all (n + 1) is)) ∙ ap (slice_get (blocks ss all n (i ∷ is))) (sym q) ∙ h in
        own 0 i refl (omega (arith, q, ap (λ m. length (before ss m i.act)) e)) (sym (same_Some (at_instr i (retarget (enter ss all n) i.act)) x s) ∙ ap (λ m. at_instr i (retarget (enter ss all m) i.act)) e)

    later : ((v : ℕ) → slice_get (blocks ss all (n + 1) is) v ≡ Some x → Spot ss all (n + 1) is v x) → (v : ℕ) → w ≡ length (before ss n i.act) + 1 + v → Spot ss all n (i ∷ is) w x
    later rec v q = further ss all n i is v w x q (rec v (sym (past_block i (before ss n i.act) (at_instr i (retarget (enter ss all n) i.act)) (blocks ss all (n + 1) is) v) ∙ ap (slice_get (blocks ss all n (i ∷ is))) (sym q) ∙ h))
