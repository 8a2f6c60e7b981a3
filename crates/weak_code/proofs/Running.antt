-- The weakened code of a code that can be run can be run.
use Rattle.std.proofs.Common.{◌≡◌, ℕ, zero, suc, ◌+◌, ◌<◌, ◌≤◌, ◌^◌, Bool, true, false, List, [], ◌∷◌, ◌++◌, length, map, refl, sym, ap, ◌∙◌, subst, arith, Some, None, Option, ◌⊎◌, inl, inr}
use Rattle.std.specs.Prelude.{slice_get, if◌then◌else◌, nat_le}
use Rattle.std.proofs.lemmas.Bool.Decides.{nat_tests}
use Rattle.rr_base.specs.declared.layout.Place.{Place}
use Rattle.flow_code.specs.declared.act.Act.{Act}
use Rattle.flow_code.specs.declared.act.Act.TheVariants as act
use Rattle.flow_code.specs.declared.act.Instr.{Instr}
use Rattle.flow_code.specs.declared.code.Code.{Code}
use Rattle.flow_code.specs.declared.code.Function.{Function}
use Rattle.flow_code.specs.Next.{act_in}
use Rattle.flow_code.specs.Settle.{IsJump, IsSoundAct, IsRunnable}
use Rattle.flow_code.specs.Threads.{instrs_in}
use Rattle.facts.specs.declared.pair.Pair.{Pair}
use Rattle.facts.specs.PointsTo.{Tables}
use Rattle.weak_lock_facts.specs.declared.grain.Grained.{Grained}
use Rattle.weak_lock_facts.specs.declared.range.Range.{Range}
use Rattle.weak_code.specs.declared.stretch.Stretch.{Stretch}
use Rattle.weak_code.specs.WeakLocks.{places_in}
use Rattle.weak_code.specs.Places.{before, place_from, place_of, act_or_mark, seat_of, enter}
use Rattle.weak_code.specs.Stretches.{racy_accesses, stretches_of}
use Rattle.weak_code.specs.Stripped.{is_weak}
use Rattle.weak_code.specs.Weakened.{retarget, at_instr, blocks, weakened_instrs, weakened_functions, weakened}
use Rattle.weak_code.proofs.Stripping.{AreWeak, weak_before, block_then}

-- ---- where instructions come to stand

get_past : (i : Instr) (bs : List Act) (ys : List Instr) (w : ℕ) → slice_get (map (at_instr i) bs ++ ys) (length bs + w) ≡ slice_get ys w
get_past i [] ys w = let e : 0 + w ≡ w = omega arith in ap (slice_get ys) e
get_past i (a ∷ bs) ys w = let e : suc (length bs) + w ≡ suc (length bs + w) = omega arith in ap (slice_get (at_instr i a ∷ (map (at_instr i) bs ++ ys))) e ∙ get_past i bs ys w

some_same : (x y : Instr) → Some x ≡ Some y → x ≡ y
some_same x y e = cc e

seat_get : (ss : List Stretch) (all : List Instr) (n : ℕ) (is : List Instr) (k : ℕ) (x : Instr) → slice_get is k ≡ Some x → slice_get (blocks ss all n is) (place_from ss n is k + length (before ss (n + k) x.act)) ≡ Some (at_instr x (retarget (enter ss all (n + k)) x.act))
seat_get ss all n [] k x e = cc
seat_get ss all n (i ∷ is) zero x e =
    let s : i ≡ x = some_same i x e in
    let z : n ≡ n + 0 = omega arith in
    let w : 0 + length (before ss n i.act) ≡ length (before ss n i.act) + 0 = omega arith in
    let here : slice_get (blocks ss all n (i ∷ is)) (0 + length (before ss n i.act)) ≡ Some (at_instr i (retarget (enter ss all n) i.act)) =
    ap (slice_get (blocks ss all n (i ∷ is))) w
    ∙ ap (λ ys. slice_get ys (length (before ss n i.act) + 0)) (block_then ss all n i (blocks ss all (n + 1) is))
    ∙ get_past i (before ss n i.act) (at_instr i (retarget (enter ss all n) i.act) ∷ blocks ss all (n + 1) is) 0
    in
    let there : slice_get (blocks ss all n (i ∷ is)) (0 + length (before ss (n + 0) i.act)) ≡ Some (at_instr i (retarget (enter ss all (n + 0)) i.act)) = subst (λ m. slice_get (blocks ss all n (i ∷ is)) (0 + length (before ss m i.act)) ≡ Some (at_instr i (retarget (enter ss all m) i.act))) z here in
    subst (λ y. slice_get (blocks ss all n (i ∷ is)) (0 + length (before ss (n + 0) y.act)) ≡ Some (at_instr y (retarget (enter ss all (n + 0)) y.act))) s there
seat_get ss all n (i ∷ is) (suc k) x e =
    let z : (n + 1) + k ≡ n + suc k = omega arith in
    let r : slice_get (blocks ss all (n + 1) is) (place_from ss (n + 1) is k + length (before ss (n + suc k) x.act)) ≡ Some (at_instr x (retarget (enter ss all (n + suc k)) x.act)) =
    subst (λ m. slice_get (blocks ss all (n + 1) is) (place_from ss (n + 1) is k + length (before ss m x.act)) ≡ Some (at_instr x (retarget (enter ss all m) x.act))) z (seat_get ss all (n + 1) is k x e)
    in
    ap (slice_get (blocks ss all n (i ∷ is))) (shift (length (before ss n i.act)) (place_from ss (n + 1) is k) (length (before ss (n + suc k) x.act)))
    ∙ ap (λ ys. slice_get ys (length (before ss n i.act) + suc (place_from ss (n + 1) is k + length (before ss (n + suc k) x.act)))) (block_then ss all n i (blocks ss all (n + 1) is))
    ∙ get_past i (before ss n i.act) (at_instr i (retarget (enter ss all n) i.act) ∷ blocks ss all (n + 1) is) (suc (place_from ss (n + 1) is k + length (before ss (n + suc k) x.act)))
    ∙ r
  where
    shift : (l q w : ℕ) → (l + 1 + q) + w ≡ l + suc (q + w)
    shift l q w = omega arith

-- what stands after an instruction stands after it in the weakened code
place_above : (ss : List Stretch) (n : ℕ) (is : List Instr) (k to : ℕ) (x : Instr) → slice_get is k ≡ Some x → k < to → place_from ss n is k + length (before ss (n + k) x.act) < place_from ss n is to
place_above ss n [] k to x e lt = cc
place_above ss n (i ∷ is) k zero x e lt = absurd (omega (arith, lt))
place_above ss n (i ∷ is) zero (suc to) x e lt =
    let s : x ≡ i = some_same x i (sym e) in
    let z : n + 0 ≡ n = omega arith in
    let l : length (before ss (n + 0) x.act) ≡ length (before ss n i.act) = ap (λ m. length (before ss m x.act)) z ∙ ap (λ (y : Instr). length (before ss n y.act)) s in
    less (length (before ss (n + 0) x.act)) (length (before ss n i.act)) (place_from ss (n + 1) is to) l
  where
    less : (a b c : ℕ) → a ≡ b → 0 + a < b + 1 + c
    less a b c e = omega (arith, e)
place_above ss n (i ∷ is) (suc k) (suc to) x e lt =
    let z : (n + 1) + k ≡ n + suc k = omega arith in
    let r : place_from ss (n + 1) is k + length (before ss (n + suc k) x.act) < place_from ss (n + 1) is to = subst (λ m. place_from ss (n + 1) is k + length (before ss m x.act) < place_from ss (n + 1) is to) z (place_above ss (n + 1) is k to x e (omega (arith, lt))) in
    less (length (before ss n i.act)) (place_from ss (n + 1) is k) (length (before ss (n + suc k) x.act)) (place_from ss (n + 1) is to) r
  where
    less : (a b c d : ℕ) → b + c < d → (a + 1 + b) + c < a + 1 + d
    less a b c d h = omega (arith, h)

-- ---- jumps

module _ (ss : List Stretch) (all : List Instr) where
  seat_mark : (to : ℕ) (o : Option Instr) → slice_get all to ≡ o → act_in o ≡ Some act.Mark → act_in (slice_get (weakened_instrs ss all) (seat_of ss all to)) ≡ Some act.Mark
  seat_mark to None e h = cc
  seat_mark to (Some y) e h =
      let z : 0 + to ≡ to = omega arith in
      let m : y.act ≡ act.Mark = cc h in
      let got : slice_get (weakened_instrs ss all) (place_of ss all to + length (before ss to y.act)) ≡ Some (at_instr y (retarget (enter ss all to) y.act)) = subst (λ n. slice_get (weakened_instrs ss all) (place_of ss all to + length (before ss n y.act)) ≡ Some (at_instr y (retarget (enter ss all n) y.act))) z (seat_get ss all 0 all to y e) in
      ap (λ p. act_in (slice_get (weakened_instrs ss all) (place_of ss all to + length (before ss to (act_or_mark p))))) e
      ∙ ap act_in got
      ∙ ap (λ a. Some (retarget (enter ss all to) a)) m

  back_or_on : (k to : ℕ) → IsJump all k to → (k < to) ⊎ ((nat_le to k ≡ true) × (act_in (slice_get all to) ≡ Some act.Mark))
  back_or_on k to (inl lt) = inl lt
  back_or_on k to (inr m) = by (nat_le to k) refl
    where
      by : (b : Bool) → nat_le to k ≡ b → (k < to) ⊎ ((nat_le to k ≡ true) × (act_in (slice_get all to) ≡ Some act.Mark))
      by true e = inr (e, m)
      by false e = inl (grind (arith, nat_tests, e))

  jump_sound : (k to : ℕ) (x : Instr) → slice_get all k ≡ Some x → IsJump all k to → IsJump (weakened_instrs ss all) (place_of ss all k + length (before ss k x.act)) (enter ss all k to)
  jump_sound k to x e j = by (back_or_on k to j)
    where
      by : (k < to) ⊎ ((nat_le to k ≡ true) × (act_in (slice_get all to) ≡ Some act.Mark)) → IsJump (weakened_instrs ss all) (place_of ss all k + length (before ss k x.act)) (enter ss all k to)
      by (inl lt) =
          let n : nat_le to k ≡ false = grind (arith, nat_tests, lt) in
          let z : 0 + k ≡ k = omega arith in
          let above : place_of ss all k + length (before ss k x.act) < place_of ss all to = subst (λ m. place_of ss all k + length (before ss m x.act) < place_of ss all to) z (place_above ss 0 all k to x e lt) in
          subst (λ b. IsJump (weakened_instrs ss all) (place_of ss all k + length (before ss k x.act)) (if b then seat_of ss all to else place_of ss all to)) (sym n) (inl above)
      by (inr (b, m)) = subst (λ b. IsJump (weakened_instrs ss all) (place_of ss all k + length (before ss k x.act)) (if b then seat_of ss all to else place_of ss all to)) (sym b) (inr (seat_mark to (slice_get all to) refl m))

  retarget_sound : (k w : ℕ) (f : ℕ → ℕ) → ((to : ℕ) → IsJump all k to → IsJump (weakened_instrs ss all) w (f to)) → (a : Act) → IsSoundAct all k (Some a) → IsSoundAct (weakened_instrs ss all) w (Some (retarget f a))
  retarget_sound k w f j (act.Jump to) h = j to h
  retarget_sound k w f j (act.Branch on then_at else_at) h = (j then_at h.0, j else_at h.1)
  retarget_sound k w f j (act.Library c arguments into) h = h
  retarget_sound k w f j _ h = tt

  -- ---- all instructions of a function

  weak_sound : (w : ℕ) (a : Act) → is_weak a ≡ true → IsSoundAct (weakened_instrs ss all) w (Some a)
  weak_sound w (act.Jump to) h = cc
  weak_sound w (act.Branch on then_at else_at) h = cc
  weak_sound w (act.Library c arguments into) h = cc
  weak_sound w _ h = tt

  weak_first : (i : Instr) (bs : List Act) (ys : List Instr) (m w : ℕ) → AreWeak bs → ((v : ℕ) → IsSoundAct (weakened_instrs ss all) (m + length bs + v) (act_in (slice_get ys v))) → IsSoundAct (weakened_instrs ss all) (m + w) (act_in (slice_get (map (at_instr i) bs ++ ys) w))
  weak_first i [] ys m w h rest = let e : m + 0 + w ≡ m + w = omega arith in subst (λ n. IsSoundAct (weakened_instrs ss all) n (act_in (slice_get ys w))) e (rest w)
  weak_first i (a ∷ bs) ys m zero h rest = weak_sound (m + 0) a h.0
  weak_first i (a ∷ bs) ys m (suc w) h rest =
      let e : suc m + w ≡ m + suc w = omega arith in
      subst (λ n. IsSoundAct (weakened_instrs ss all) n (act_in (slice_get (map (at_instr i) bs ++ ys) w))) e
      (weak_first i bs ys (suc m) w h.1 (λ v. let s : m + suc (length bs) + v ≡ suc m + length bs + v = omega arith in subst (λ n. IsSoundAct (weakened_instrs ss all) n (act_in (slice_get ys v))) s (rest v)))

  abbrev AreSound : (m n : ℕ) → List Instr → Type 0
  AreSound m n is = (k : ℕ) (x : Instr) → slice_get is k ≡ Some x → IsSoundAct (weakened_instrs ss all) (m + (place_from ss n is k + length (before ss (n + k) x.act))) (Some (retarget (enter ss all (n + k)) x.act))

  blocks_sound : (m n : ℕ) (is : List Instr) → AreSound m n is → (w : ℕ) → IsSoundAct (weakened_instrs ss all) (m + w) (act_in (slice_get (blocks ss all n is) w))
  blocks_sound m n [] h w = tt
  blocks_sound m n (i ∷ is) h w =
      subst (λ ys. IsSoundAct (weakened_instrs ss all) (m + w) (act_in (slice_get ys w))) (sym (block_then ss all n i (blocks ss all (n + 1) is)))
      (weak_first i (before ss n i.act) (at_instr i (retarget (enter ss all n) i.act) ∷ blocks ss all (n + 1) is) m w (weak_before ss n i.act) (rest (blocks_sound (m + length (before ss n i.act) + 1) (n + 1) is later)))
    where
      first : IsSoundAct (weakened_instrs ss all) (m + length (before ss n i.act) + 0) (Some (retarget (enter ss all n) i.act))
      first =
          let z : n + 0 ≡ n = omega arith in
          let e : m + (0 + length (before ss n i.act)) ≡ m + length (before ss n i.act) + 0 = omega arith in
          subst (λ w. IsSoundAct (weakened_instrs ss all) w (Some (retarget (enter ss all n) i.act))) e
          (subst (λ q. IsSoundAct (weakened_instrs ss all) (m + (0 + length (before ss q i.act))) (Some (retarget (enter ss all q) i.act))) z (h 0 i refl))

      later : AreSound (m + length (before ss n i.act) + 1) (n + 1) is
      later k x e =
          let z : n + suc k ≡ (n + 1) + k = omega arith in
          let s = subst (λ q. IsSoundAct (weakened_instrs ss all) (m + (length (before ss n i.act) + 1 + place_from ss (n + 1) is k + length (before ss q x.act))) (Some (retarget (enter ss all q) x.act))) z (h (suc k) x e) in
          subst (λ w. IsSoundAct (weakened_instrs ss all) w (Some (retarget (enter ss all ((n + 1) + k)) x.act))) (moved m (length (before ss n i.act)) (place_from ss (n + 1) is k) (length (before ss ((n + 1) + k) x.act))) s
        where
          moved : (m l q b : ℕ) → m + (l + 1 + q + b) ≡ (m + l + 1) + (q + b)
          moved m l q b = omega arith

      rest : ((v : ℕ) → IsSoundAct (weakened_instrs ss all) ((m + length (before ss n i.act) + 1) + v) (act_in (slice_get (blocks ss all (n + 1) is) v))) → (v : ℕ) → IsSoundAct (weakened_instrs ss all) (m + length (before ss n i.act) + v) (act_in (slice_get (at_instr i (retarget (enter ss all n) i.act) ∷ blocks ss all (n + 1) is) v))
      rest on zero = first
      rest on (suc v) =
          let e : (m + length (before ss n i.act) + 1) + v ≡ m + length (before ss n i.act) + suc v = omega arith in
          subst (λ w. IsSoundAct (weakened_instrs ss all) w (act_in (slice_get (blocks ss all (n + 1) is) v))) e (on v)

  pub instrs_sound : ((k : ℕ) → IsSoundAct all k (act_in (slice_get all k))) → (w : ℕ) → IsSoundAct (weakened_instrs ss all) w (act_in (slice_get (weakened_instrs ss all) w))
  instrs_sound h w =
      let z : 0 + w ≡ w = omega arith in
      subst (λ n. IsSoundAct (weakened_instrs ss all) n (act_in (slice_get (weakened_instrs ss all) w))) z (blocks_sound 0 0 all each w)
    where
      each : AreSound 0 0 all
      each k x e =
          let z : k ≡ 0 + k = omega arith in
          let s : place_of ss all k + length (before ss k x.act) ≡ 0 + (place_of ss all k + length (before ss k x.act)) = omega arith in
          let plain : IsSoundAct all k (Some x.act) = subst (λ o. IsSoundAct all k (act_in o)) e (h k) in
          subst (λ q. IsSoundAct (weakened_instrs ss all) (0 + (place_of ss all k + length (before ss q x.act))) (Some (retarget (enter ss all q) x.act))) z
          (subst (λ w. IsSoundAct (weakened_instrs ss all) w (Some (retarget (enter ss all k) x.act))) s
          (retarget_sound k (place_of ss all k + length (before ss k x.act)) (enter ss all k) (λ to j. jump_sound k to x e j) x.act plain))

-- ---- all functions

abbrev IsSound : List Function → Type 0
IsSound fns = (f k : ℕ) → IsSoundAct (instrs_in (slice_get fns f)) k (act_in (slice_get (instrs_in (slice_get fns f)) k))

module _ (code : Code) (t : Tables) (locked : List Place) (rs : List Range) (rows : List Grained) where
  functions_sound : (n : ℕ) (fns : List Function) → IsSound fns → IsSound (weakened_functions code t locked rs rows n fns)
  functions_sound n [] h f k = tt
  functions_sound n (fn ∷ fns) h zero k = instrs_sound (stretches_of fn (racy_accesses code t locked rs rows n)) fn.instrs (λ j. h 0 j) k
  functions_sound n (fn ∷ fns) h (suc f) k = functions_sound (n + 1) fns (λ g j. h (suc g) j) f k

  as_many : (n : ℕ) (fns : List Function) → length (weakened_functions code t locked rs rows n fns) ≡ length fns
  as_many n [] = refl
  as_many n (fn ∷ fns) = ap suc (as_many (n + 1) fns)

pub runs : (code : Code) (t : Tables) (vs : List Pair) (rs : List Range) (rows : List Grained) → IsRunnable code → IsRunnable (weakened code t vs rs rows)
unfolding weakened
runs code t vs rs rows h = record {
  jumps = λ f k. functions_sound code t (places_in vs) rs rows 0 code.functions h.jumps f k;
  few_globals = h.few_globals;
  few_functions = subst (λ n. n ≤ 2 ^ 20) (sym (as_many code t (places_in vs) rs rows 0 code.functions)) h.few_functions;
}
