-- The numbers of states that fit.
use Rattle.std.proofs.Common.{◌≡◌, ℕ, zero, suc, ◌+◌, ◌-◌, ◌*◌, ◌/◌, ◌%◌, ◌^◌, ◌<◌, ◌≤◌, Bool, true, false, List, [], ◌∷◌, length, refl, sym, ap, subst, ◌∙◌, arith}
use Rattle.std.specs.Prelude.{◌&&◌, ◌==◌, nat_lt, nat_le, max, slice_get}
use Rattle.std.proofs.lemmas.Bool.{and_parts, ltb-true, leb-true, lt-ltb, le-ltb, eqb-true, eq-eqb}
use Rattle.std.proofs.lemmas.Bool.Decides.{nat_tests}
use Rattle.std.proofs.lemmas.Nat.{one_shl}
use Rattle.sync_objects.specs.Setup.{SetupView}
use Rattle.sync_objects.specs.Packing.{packed, packed_lock, lock_of, slot_of, packed_slot, unpacked}
use Rattle.sync_objects.specs.declared.kind.ObjKind.{ObjKind}
use Rattle.sync_objects.specs.declared.kind.ObjKind.TheVariants as kind
use Rattle.flow_code.specs.declared.code.Code.{Code}
use Rattle.flow_code.specs.declared.code.Function.{Function}
use Rattle.flow_code.specs.Kinds.{may_start}
use Rattle.flow_code.specs.Settle.{IsRunnable}
use Rattle.core_run.specs.Kept.{most_operations}
use Rattle.snapshots.specs.Conditions.{lock_fits, number_fits, slot_fits, state_fits}

same_lock : (x : ℕ) → packed_lock (lock_of x) ≡ x
same_lock zero = refl
same_lock (suc x) = omega arith

held_by : (slots x : ℕ) → lock_fits slots (lock_of x) ≡ nat_le x slots
held_by slots zero = grind (arith, nat_tests)
held_by slots (suc x) = grind (arith, nat_tests)

same_slot : (x : ℕ) → packed_slot (slot_of x) ≡ x
same_slot zero = refl
same_slot (suc zero) = refl
same_slot (suc (suc zero)) = refl
same_slot (suc (suc (suc zero))) = refl
same_slot (suc (suc (suc (suc zero)))) = refl
same_slot (suc (suc (suc (suc (suc zero))))) = refl
same_slot (suc (suc (suc (suc (suc (suc f)))))) = omega arith

module _ (code : Code) (s : SetupView) (n : ℕ) where
  -- where the number is that of its own state
  is_own : (k : ObjKind) (x : ℕ) → packed k (unpacked k x) ≡ x → number_fits code s n k x ≡ state_fits code s n k (unpacked k x)
  is_own k x e = ap (λ (b : Bool). b && state_fits code s n k (unpacked k x)) (eq-eqb (packed k (unpacked k x)) x e)

  pub mutex_number : (x : ℕ) → number_fits code s n kind.Mutex x ≡ nat_le x s.slots
  mutex_number x = is_own kind.Mutex x (same_lock x) ∙ held_by s.slots x

  pub stripe_number : (x : ℕ) → number_fits code s n kind.Weak x ≡ nat_le x s.slots
  stripe_number x = is_own kind.Weak x (same_lock x) ∙ held_by s.slots x

  pub cond_number : (x : ℕ) → number_fits code s n kind.Cond x ≡ nat_le x n
  cond_number x = is_own kind.Cond x refl

  same_barrier : (x : ℕ) → x % 32 + 32 * (x / 32 % 32) + 1024 * (x / 1024) ≡ x
  same_barrier x = omega arith

  pub barrier_number : (x : ℕ) → number_fits code s n kind.Barrier x ≡ (nat_le (x % 32) 16 && (nat_lt (x / 32 % 32) (max (x % 32) 1) && (nat_lt (x / 1024) (2 ^ 22) && nat_le (x / 1024) n)))
  barrier_number x = is_own kind.Barrier x (same_barrier x)

  same_rw : (x : ℕ) → x % 65536 + 65536 * packed_lock (lock_of (x / 65536)) ≡ x
  same_rw x = let e = same_lock (x / 65536) in omega arith

  pub rw_number : (x : ℕ) → number_fits code s n kind.Rw x ≡ (nat_lt (x % 65536) (2 ^ s.slots) && nat_le (x / 65536) s.slots)
  rw_number x = is_own kind.Rw x (same_rw x) ∙ ap (λ (b : Bool). nat_lt (x % 65536) (2 ^ s.slots) && b) (held_by s.slots (x / 65536))

  pub slot_number : (x : ℕ) → number_fits code s n kind.Slot x ≡ slot_fits code (slot_of x)
  slot_number x = is_own kind.Slot x (same_slot x)

  pub threads_number : (x : ℕ) → number_fits code s n kind.Threads x ≡ (nat_le 1 (x % 32) && (nat_le (x % 32) s.slots && nat_le (x / 32) (x % 32)))
  threads_number x = is_own kind.Threads x (let e : x % 32 + 32 * (x / 32) ≡ x = omega arith in e)

  pub halt_number : (x : ℕ) → number_fits code s n kind.Halt x ≡ nat_le x 2
  halt_number zero = grind (arith, nat_tests)
  halt_number (suc zero) = grind (arith, nat_tests)
  halt_number (suc (suc x)) = grind (arith, nat_tests)

  pub input_number : (x : ℕ) → number_fits code s n kind.Input x ≡ (nat_le x n && nat_le x (length s.input))
  input_number x = is_own kind.Input x refl

  pub output_number : (x : ℕ) → number_fits code s n kind.Output x ≡ (x == 0)
  output_number x = grind (arith, nat_tests)

  -- ---- as they are computed

  -- the readers are of the slots
  pub rw_low : (x k : ℕ) → k ≡ s.slots → k ≤ 16 → x % 65536 < (1 * 2 ^ k) % 2 ^ 32 → nat_le (x / 65536) k ≡ number_fits code s n kind.Rw x
  rw_low x k same few lt =
      let below : x % 65536 < 2 ^ k = subst (λ (m : ℕ). x % 65536 < m) (one_shl k 32 (omega arith)) lt in
      let readers : x % 65536 < 2 ^ s.slots = subst (λ (m : ℕ). x % 65536 < 2 ^ m) same below in
      ap (nat_le (x / 65536)) same
      ∙ sym (ap (λ (b : Bool). b && nat_le (x / 65536) s.slots) (lt-ltb (x % 65536) (2 ^ s.slots) readers))
      ∙ sym (rw_number x)

  -- some reader isn't
  pub rw_high : (x k : ℕ) → k ≡ s.slots → k ≤ 16 → (1 * 2 ^ k) % 2 ^ 32 ≤ x % 65536 → false ≡ number_fits code s n kind.Rw x
  rw_high x k same few le =
      let above : 2 ^ k ≤ x % 65536 = subst (λ (m : ℕ). m ≤ x % 65536) (one_shl k 32 (omega arith)) le in
      let readers : 2 ^ s.slots ≤ x % 65536 = subst (λ (m : ℕ). 2 ^ m ≤ x % 65536) same above in
      sym (ap (λ (b : Bool). b && nat_le (x / 65536) s.slots) (le-ltb (x % 65536) (2 ^ s.slots) readers))
      ∙ sym (rw_number x)

  early : (x : ℕ) → x < 6 → slot_fits code (slot_of x) ≡ true
  early zero lt = refl
  early (suc zero) lt = refl
  early (suc (suc zero)) lt = refl
  early (suc (suc (suc zero))) lt = refl
  early (suc (suc (suc (suc zero)))) lt = refl
  early (suc (suc (suc (suc (suc zero))))) lt = refl
  early (suc (suc (suc (suc (suc (suc f)))))) lt = absurd (omega arith)

  started : (x : ℕ) → 6 ≤ x → slot_fits code (slot_of x) ≡ may_start (slice_get code.functions (x - 6))
  started zero le = absurd (omega arith)
  started (suc zero) le = absurd (omega arith)
  started (suc (suc zero)) le = absurd (omega arith)
  started (suc (suc (suc zero))) le = absurd (omega arith)
  started (suc (suc (suc (suc zero)))) le = absurd (omega arith)
  started (suc (suc (suc (suc (suc zero))))) le = absurd (omega arith)
  started (suc (suc (suc (suc (suc (suc f)))))) le = ap (λ (g : ℕ). may_start (slice_get code.functions g)) (omega arith)

  -- the slot has no function
  pub slot_early : (x : ℕ) → x < 6 → true ≡ number_fits code s n kind.Slot x
  slot_early x lt = sym (slot_number x ∙ early x lt)

  -- the slot has one
  pub slot_started : (x : ℕ) → 6 ≤ x → may_start (slice_get code.functions (x - 6)) ≡ number_fits code s n kind.Slot x
  slot_started x le = sym (slot_number x ∙ started x le)

  -- ---- each is far below the greatest of 32 bits

  slot_low : (x : ℕ) → length code.functions ≤ 2 ^ 20 → slot_fits code (slot_of x) ≡ true → x < 4294967295
  slot_low zero few e = omega arith
  slot_low (suc zero) few e = omega arith
  slot_low (suc (suc zero)) few e = omega arith
  slot_low (suc (suc (suc zero))) few e = omega arith
  slot_low (suc (suc (suc (suc zero)))) few e = omega arith
  slot_low (suc (suc (suc (suc (suc zero))))) few e = omega arith
  slot_low (suc (suc (suc (suc (suc (suc f)))))) few e = let lt = within code.functions f e in omega arith
    where
      within : (fs : List Function) (g : ℕ) → may_start (slice_get fs g) ≡ true → g < length fs
      within [] g h = cc
      within (y ∷ ys) zero h = omega arith
      within (y ∷ ys) (suc g) h = let r = within ys g h in omega arith

  pub number_low : IsRunnable code → s.slots ≤ 16 → (k : ObjKind) (x : ℕ) → n ≤ most_operations → number_fits code s n k x ≡ true → x < 4294967295
  number_low run slots kind.Mutex x few e = let le = leb-true x s.slots (sym (mutex_number x) ∙ e) in omega arith
  number_low run slots kind.Weak x few e = let le = leb-true x s.slots (sym (stripe_number x) ∙ e) in omega arith
  number_low run slots kind.Cond x few e = let le = leb-true x n (sym (cond_number x) ∙ e) in omega arith
  number_low run slots kind.Barrier x few e =
      let p = and_parts (nat_le (x % 32) 16) (nat_lt (x / 32 % 32) (max (x % 32) 1) && (nat_lt (x / 1024) (2 ^ 22) && nat_le (x / 1024) n)) (sym (barrier_number x) ∙ e) in
      let q = and_parts (nat_lt (x / 32 % 32) (max (x % 32) 1)) (nat_lt (x / 1024) (2 ^ 22) && nat_le (x / 1024) n) p.1 in
      let r = and_parts (nat_lt (x / 1024) (2 ^ 22)) (nat_le (x / 1024) n) q.1 in
      let c = leb-true (x % 32) 16 p.0 in
      let g = ltb-true (x / 1024) (2 ^ 22) r.0 in
      omega arith
  number_low run slots kind.Rw x few e =
      let p = and_parts (nat_lt (x % 65536) (2 ^ s.slots)) (nat_le (x / 65536) s.slots) (sym (rw_number x) ∙ e) in
      let w = leb-true (x / 65536) s.slots p.1 in
      omega arith
  number_low run slots kind.Slot x few e = slot_low x run.few_functions (sym (slot_number x) ∙ e)
  number_low run slots kind.Threads x few e =
      let p = and_parts (nat_le 1 (x % 32)) (nat_le (x % 32) s.slots && nat_le (x / 32) (x % 32)) (sym (threads_number x) ∙ e) in
      let q = and_parts (nat_le (x % 32) s.slots) (nat_le (x / 32) (x % 32)) p.1 in
      let l = leb-true (x / 32) (x % 32) q.1 in
      omega arith
  number_low run slots kind.Halt x few e = let le = leb-true x 2 (sym (halt_number x) ∙ e) in omega arith
  number_low run slots kind.Input x few e = let p = and_parts (nat_le x n) (nat_le x (length s.input)) (sym (input_number x) ∙ e) in let le = leb-true x n p.0 in omega arith
  number_low run slots kind.Output x few e = let z = eqb-true x 0 (sym (output_number x) ∙ e) in omega arith
