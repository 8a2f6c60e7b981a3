-- The objects that a checkpoint lists stand in their order, and the machine has them.
use Rattle.std.proofs.Common.{◌≡◌, ℕ, zero, suc, ◌+◌, ◌*◌, ◌<◌, ◌≤◌, true, nat_lt, List, [], ◌∷◌, ◌++◌, length, map, refl, subst, arith}
use Rattle.std.specs.List.{flat_map}
use Rattle.std.proofs.lemmas.Bool.{lt-ltb}
use Rattle.sync_objects.specs.Setup.{SetupView, IsWithinLimits}
use Rattle.sync_objects.specs.declared.object.ObjId.{ObjId}
use Rattle.sync_objects.specs.declared.object.ObjId.TheVariants as object
use Rattle.flow_code.specs.declared.code.Code.{Code}
use Rattle.core_run.specs.Words.{cells_of, has_object}
use Rattle.snapshots.specs.Conditions.{rank}
use Rattle.snapshots.specs.Snapshots.{numbers_from, stripes_in_order, objects_in_order}
use Rattle.snapshot_reached.proofs.Cells.{both}

module _ (code : Code) (s : SetupView) where
  abbrev pub place_in : ObjId → ℕ
  place_in o = rank (cells_of code s) (length code.locks) o

  -- the objects are the machine's, each from this place on and after the one before, and all before another place
  abbrev pub Ranked : (low high : ℕ) → List ObjId → Type 0
  Ranked low high [] = low ≤ high
  Ranked low high (o ∷ os) = (low ≤ place_in o) × (has_object code s o ≡ true) × Ranked (place_in o + 1) high os

  lower : (low from high : ℕ) (os : List ObjId) → low ≤ from → Ranked from high os → Ranked low high os
  lower low from high [] le h = omega (arith, le, h)
  lower low from high (o ∷ os) le h = let first = h.0 in (omega (arith, le, first), h.1, h.2)

  joined : (low middle high : ℕ) (os ps : List ObjId) → Ranked low middle os → Ranked middle high ps → Ranked low high (os ++ ps)
  joined low middle high [] ps h k = lower low middle high ps h k
  joined low middle high (o ∷ os) ps h k = (h.0, h.1, joined (place_in o + 1) middle high os ps h.2 k)

  -- so many of a kind, from the first of them on
  of_kind : (make : ℕ → ObjId) (start end : ℕ) → ((k : ℕ) → k < end → (place_in (make k) ≡ start + k) × (has_object code s (make k) ≡ true)) → (first n : ℕ) → first + n ≤ end → Ranked (start + first) (start + first + n) (map make (numbers_from first n))
  of_kind make start end h first zero le = omega arith
  of_kind make start end h first (suc n) le =
      let here = h first (omega arith) in
      let place = here.0 in
      let rest : start + (first + 1) + n ≡ start + first + suc n = omega arith in
      let next : start + (first + 1) ≡ place_in (make first) + 1 = omega arith in (
        omega arith,
        here.1,
        subst (λ z. Ranked z (start + first + suc n) (map make (numbers_from (first + 1) n))) next
            (subst (λ z. Ranked (start + (first + 1)) z (map make (numbers_from (first + 1) n))) rest (of_kind make start end h (first + 1) n (omega arith))),
      )

  of_all : (make : ℕ → ObjId) (start n : ℕ) → ((k : ℕ) → k < n → (place_in (make k) ≡ start + k) × (has_object code s (make k) ≡ true)) → Ranked start (start + n) (map make (numbers_from 0 n))
  of_all make start n h =
      let low : start + 0 ≡ start = omega arith in
      let high : start + 0 + n ≡ start + n = omega arith in
      subst (λ z. Ranked z (start + n) (map make (numbers_from 0 n))) low (subst (λ z. Ranked (start + 0) z (map make (numbers_from 0 n))) high (of_kind make start n h 0 n (omega arith)))

  -- ---- the kinds in turn

  abbrev cells : ℕ
  cells = cells_of code s

  abbrev locks : ℕ
  locks = length code.locks

  stripes : (lock : ℕ) → lock < locks → Ranked (3 * cells + 8 * lock) (3 * cells + 8 * lock + 8) (stripes_in_order lock)
  stripes lock lt = of_all (λ k. object.Weak lock k) (3 * cells + 8 * lock) 8 (λ k h. (refl, both (nat_lt lock locks) (nat_lt k 8) (lt-ltb lock locks lt) (lt-ltb k 8 h)))

  all_stripes : (first n : ℕ) → first + n ≤ locks → Ranked (3 * cells + 8 * first) (3 * cells + 8 * first + 8 * n) (flat_map stripes_in_order (numbers_from first n))
  all_stripes first zero le = omega arith
  all_stripes first (suc n) le =
      let next : 3 * cells + 8 * (first + 1) ≡ 3 * cells + 8 * first + 8 = omega arith in
      let end : 3 * cells + 8 * (first + 1) + 8 * n ≡ 3 * cells + 8 * first + 8 * suc n = omega arith in
      joined (3 * cells + 8 * first) (3 * cells + 8 * first + 8) (3 * cells + 8 * first + 8 * suc n) (stripes_in_order first) (flat_map stripes_in_order (numbers_from (first + 1) n))
      (stripes first (omega arith))
      (subst (λ z. Ranked z (3 * cells + 8 * first + 8 * suc n) (flat_map stripes_in_order (numbers_from (first + 1) n))) next
      (subst (λ z. Ranked (3 * cells + 8 * (first + 1)) z (flat_map stripes_in_order (numbers_from (first + 1) n))) end (all_stripes (first + 1) n (omega arith))))

  abbrev after : ℕ
  after = 3 * cells + 8 * locks

  single_ones : Ranked (after + 16) (after + 20) (object.Threads ∷ object.Halt ∷ object.Input ∷ object.Output ∷ [])
  single_ones = (omega arith, refl, (omega arith, refl, (omega arith, refl, (omega arith, refl, omega arith))))

  abbrev upto_conds : List ObjId
  upto_conds = map (λ cell. object.Mutex cell) (numbers_from 0 cells) ++ map (λ cell. object.Cond cell) (numbers_from 0 cells)

  abbrev upto_barriers : List ObjId
  upto_barriers = upto_conds ++ map (λ cell. object.Barrier cell) (numbers_from 0 cells)

  abbrev upto_stripes : List ObjId
  upto_stripes = upto_barriers ++ flat_map stripes_in_order (numbers_from 0 locks)

  abbrev upto_slots : List ObjId
  upto_slots = upto_stripes ++ map (λ slot. object.Slot slot) (numbers_from 0 s.slots)

  abbrev upto_output : List ObjId
  upto_output = upto_slots ++ (object.Threads ∷ object.Halt ∷ object.Input ∷ object.Output ∷ [])

  higher : (low end to : ℕ) (os : List ObjId) → end ≤ to → Ranked low end os → Ranked low to os
  higher low end to [] le h = omega (arith, le, h)
  higher low end to (o ∷ os) le h = (h.0, h.1, higher (place_in o + 1) end to os le h.2)

  pub all_ranked : IsWithinLimits s → Ranked 0 (after + 20 + cells) (objects_in_order code s)
  all_ranked limits =
      let few = limits.few_slots in
      joined 0 (after + 20) (after + 20 + cells) upto_output (map (λ cell. object.Rw cell) (numbers_from 0 cells))
      (joined 0 (after + 16) (after + 20) upto_slots (object.Threads ∷ object.Halt ∷ object.Input ∷ object.Output ∷ [])
      (joined 0 after (after + 16) upto_stripes (map (λ slot. object.Slot slot) (numbers_from 0 s.slots))
      (joined 0 (3 * cells) after upto_barriers (flat_map stripes_in_order (numbers_from 0 locks))
      (joined 0 (2 * cells) (3 * cells) upto_conds (map (λ cell. object.Barrier cell) (numbers_from 0 cells))
      (joined 0 cells (2 * cells) (map (λ cell. object.Mutex cell) (numbers_from 0 cells)) (map (λ cell. object.Cond cell) (numbers_from 0 cells))
      (raised 0 (0 + cells) cells (map (λ cell. object.Mutex cell) (numbers_from 0 cells)) (omega arith) (of_all (λ cell. object.Mutex cell) 0 cells (λ k h. (omega arith, lt-ltb k cells h))))
      (raised cells (cells + cells) (2 * cells) (map (λ cell. object.Cond cell) (numbers_from 0 cells)) (omega arith) (of_all (λ cell. object.Cond cell) cells cells (λ k h. (refl, lt-ltb k cells h)))))
      (raised (2 * cells) (2 * cells + cells) (3 * cells) (map (λ cell. object.Barrier cell) (numbers_from 0 cells)) (omega arith) (of_all (λ cell. object.Barrier cell) (2 * cells) cells (λ k h. (refl, lt-ltb k cells h)))))
      (from_first (all_stripes 0 locks (omega arith))))
      (higher after (after + s.slots) (after + 16) (map (λ slot. object.Slot slot) (numbers_from 0 s.slots)) (omega arith) (of_all (λ slot. object.Slot slot) after s.slots (λ k h. (refl, lt-ltb k s.slots h)))))
      single_ones)
      (of_all (λ cell. object.Rw cell) (after + 20) cells (λ k h. (refl, lt-ltb k cells h)))
    where
      raised : (low end to : ℕ) (os : List ObjId) → end ≡ to → Ranked low end os → Ranked low to os
      raised low end to os e h = subst (λ z. Ranked low z os) e h

      from_first : Ranked (3 * cells + 8 * 0) (3 * cells + 8 * 0 + 8 * locks) (flat_map stripes_in_order (numbers_from 0 locks)) → Ranked (3 * cells) after (flat_map stripes_in_order (numbers_from 0 locks))
      from_first h =
          let low : 3 * cells + 8 * 0 ≡ 3 * cells = omega arith in
          let high : 3 * cells + 8 * 0 + 8 * locks ≡ after = omega arith in
          subst (λ z. Ranked z after (flat_map stripes_in_order (numbers_from 0 locks))) low (subst (λ z. Ranked (3 * cells + 8 * 0) z (flat_map stripes_in_order (numbers_from 0 locks))) high h)
