-- Good registers, one of which is written; and the constants that a frame's registers hold.
use Rattle.std.proofs.Common.{◌≡◌, ℕ, zero, suc, ◌+◌, ◌<◌, ◌||◌, ◌⊎◌, inl, inr, ⊎_elim, Bool, true, false, if◌then◌else◌, List, [], ◌∷◌, length, Option, Some, None, refl, sym, ap, subst, ◌∙◌, ℤ, pos, arith}
use Rattle.std.specs.Prelude.{slice_get, slice_set}
use Rattle.std.specs.List.{list_any}
use Rattle.std.proofs.lemmas.Option.{same_Some}
use Rattle.sync_objects.specs.Setup.{SetupView}
use Rattle.word_semantics.specs.Registers.{register}
use Rattle.word_semantics.specs.Values.{number}
use Rattle.flow_code.specs.declared.act.Act.{Act}
use Rattle.flow_code.specs.declared.act.Instr.{Instr}
use Rattle.flow_code.specs.declared.code.Code.{Code}
use Rattle.flow_code.specs.declared.code.Function.{Function}
use Rattle.flow_code.specs.Next.{act_in, pointers_in}
use Rattle.flow_code.specs.Threads.{Frame, instr_in, instrs_in}
use Rattle.flow_code.specs.Works.{is_pointer}
use Rattle.facts.specs.Blocks.{ends_block, may_end_block, goes_to, is_target, follows_end, begins_block, assigns, constant_of, constant_at}
use Rattle.facts.specs.declared.constraint.Node.TheVariants.{Register}
use Rattle.points_to_sound.specs.Objects.{Object}
use Rattle.points_to_sound.specs.Pointing.{act_of, IsGood, GoodRegisters, HoldsConstants}
use Rattle.points_to_sound.proofs.Moving.{good_more}

-- ---- one register is written

pub set_read : (xs : List ℕ) (i j w : ℕ) → (register (slice_set xs i w) j ≡ register xs j) ⊎ ((j ≡ i) × (register (slice_set xs i w) j ≡ w))
set_read [] i j w = inl refl
set_read (x ∷ xs) zero zero w = inr (refl, refl)
set_read (x ∷ xs) zero (suc j) w = inl refl
set_read (x ∷ xs) (suc i) zero w = inl refl
set_read (x ∷ xs) (suc i) (suc j) w = ⊎_elim (λ e. inl e) (λ (e : (j ≡ i) × (register (slice_set xs i w) j ≡ w)). inr (ap suc e.0, e.1)) (set_read xs i j w)

pub set_other : (xs : List ℕ) (i j w : ℕ) → (j ≡ i → ⊥) → register (slice_set xs i w) j ≡ register xs j
set_other xs i j w ne = ⊎_elim (λ e. e) (λ (e : (j ≡ i) × (register (slice_set xs i w) j ≡ w)). absurd (ne e.0)) (set_read xs i j w)

pub set_here : (xs : List ℕ) (i w : ℕ) → i < length xs → register (slice_set xs i w) i ≡ w
set_here [] i w lt = absurd (omega arith)
set_here (x ∷ xs) zero w lt = refl
set_here (x ∷ xs) (suc i) w lt = set_here xs i w (omega arith)

module _ (code : Code) (s : SetupView) (made : List Object) (f : ℕ) where
  pub good_set : (registers : List ℕ) (into w : ℕ) → (is_pointer (pointers_in (slice_get code.functions f)) into ≡ true → IsGood code s made (Register f into) w) → GoodRegisters code s made f registers → GoodRegisters code s made f (slice_set registers into w)
  good_set registers into w h g r p =
      ⊎_elim
      (λ (e : register (slice_set registers into w) r ≡ register registers r). subst (IsGood code s made (Register f r)) (sym e) (g r p))
      (λ (e : (r ≡ into) × (register (slice_set registers into w) r ≡ w)).
      subst (IsGood code s made (Register f r)) (sym e.1) (subst (λ k. IsGood code s made (Register f k) w) (sym e.0) (h (subst (λ k. is_pointer (pointers_in (slice_get code.functions f)) k ≡ true) e.0 p))))
      (set_read registers into r w)

  pub good_registers_more : (new : Object) (registers : List ℕ) → GoodRegisters code s made f registers → GoodRegisters code s (new ∷ made) f registers
  good_registers_more new registers g r p = good_more code s made new (Register f r) (register registers r) (g r p)

-- ---- constants

pub act_there : (o : Option Function) (k : ℕ) → act_in (slice_get (instrs_in o) k) ≡ act_in (instr_in o k)
act_there None k = refl
act_there (Some fn) k = refl

-- no constant is known where a block begins
pub none_at_begin : (is : List Instr) (k r : ℕ) (z : ℤ) → begins_block is k ≡ true → constant_at is k r ≡ Some z → ⊥
none_at_begin is zero r z b e = cc
none_at_begin is (suc k) r z b e = by (begins_block is (suc k)) b e
  where
    by : (c : Bool) → c ≡ true → (if c then None else if assigns r (act_in (slice_get is k)) then constant_of (act_in (slice_get is k)) else constant_at is k r) ≡ Some z → ⊥
    by true c e = cc
    by false c e = cc

pub or_left : (a b : Bool) → a ≡ true → (a || b) ≡ true
or_left true b e = refl
or_left false b e = cc

pub or_right : (a b : Bool) → b ≡ true → (a || b) ≡ true
or_right true b e = refl
or_right false b e = e

pub begins_after : (is : List Instr) (k : ℕ) (a : Act) → act_in (slice_get is k) ≡ Some a → ends_block a ≡ true → begins_block is (suc k) ≡ true
begins_after is k a e b = or_left (follows_end is (suc k)) (is_target is (suc k)) (by (act_in (slice_get is k)) e)
  where
    by : (o : Option Act) → o ≡ Some a → may_end_block o ≡ true
    by None h = refl
    by (Some x) h = subst (λ y. ends_block y ≡ true) (sym (same_Some x a h)) b

any_of : (p : Instr → Bool) (is : List Instr) (k : ℕ) (i : Instr) → slice_get is k ≡ Some i → p i ≡ true → list_any p is ≡ true
any_of p [] k i e h = cc
any_of p (x ∷ is) zero i e h = or_left (p x) (list_any p is) (subst (λ y. p y ≡ true) (sym (same_Some x i e)) h)
any_of p (x ∷ is) (suc k) i e h = or_right (p x) (list_any p is) (any_of p is k i e h)

-- a block begins where a jump or branch goes
pub begins_there : (is : List Instr) (k to : ℕ) (a : Act) → act_in (slice_get is k) ≡ Some a → goes_to to a ≡ true → begins_block is to ≡ true
begins_there is k to a e g = or_right (follows_end is to) (is_target is to) (at (slice_get is k) refl e)
  where
    at : (o : Option Instr) → slice_get is k ≡ o → act_in o ≡ Some a → is_target is to ≡ true
    at None h e = cc
    at (Some i) h e = any_of (λ j. goes_to to j.act) is k i h (subst (λ y. goes_to to y ≡ true) (sym (same_Some i.act a e)) g)

module _ (code : Code) (f : Frame) (h : HoldsConstants code f) where
  -- the same frame at the begin of a block
  pub constants_at_begin : (k : ℕ) (made : ℕ) (kept : ℤ) (registers : List ℕ) → length registers ≡ length f.registers → begins_block (instrs_in (slice_get code.functions f.function)) k ≡ true → HoldsConstants code (record { function = f.function; instr = k; made = made; kept = kept; registers = registers })
  constants_at_begin k made kept registers e b = record { all = e ∙ h.all; constants = λ r z c. absurd (none_at_begin (instrs_in (slice_get code.functions f.function)) k r z b c) }

  -- the frame after an instruction, which may have assigned a register
  pub constants_past : (registers : List ℕ) (o : Option Act) → act_of code f.function f.instr ≡ o → length registers ≡ length f.registers →
      ((r : ℕ) → assigns r o ≡ false → register registers r ≡ register f.registers r) →
      ((r : ℕ) (z : ℤ) → assigns r o ≡ true → constant_of o ≡ Some z → number (register registers r) ≡ z) →
      HoldsConstants code (record { function = f.function; instr = f.instr + 1; made = 0; kept = pos 0; registers = registers })
  constants_past registers o at e same new = record { all = e ∙ h.all; constants = λ r z c. past r z (subst (λ k. constant_at is k r ≡ Some z) next c) }
    where
      is : List Instr
      is = instrs_in (slice_get code.functions f.function)

      next : f.instr + 1 ≡ suc f.instr
      next = omega arith

      there : act_in (slice_get is f.instr) ≡ o
      there = act_there (slice_get code.functions f.function) f.instr ∙ at

      unassigned : (r : ℕ) (z : ℤ) (b : Bool) → assigns r o ≡ b → (if b then constant_of o else constant_at is f.instr r) ≡ Some z → number (register registers r) ≡ z
      unassigned r z true a c = new r z a c
      unassigned r z false a c = ap number (same r a) ∙ h.constants r z c

      inside : (r : ℕ) (z : ℤ) (b : Bool) → (if b then None else if assigns r o then constant_of o else constant_at is f.instr r) ≡ Some z → number (register registers r) ≡ z
      inside r z true c = cc
      inside r z false c = unassigned r z (assigns r o) refl c

      past : (r : ℕ) (z : ℤ) → constant_at is (suc f.instr) r ≡ Some z → number (register registers r) ≡ z
      past r z c = inside r z (begins_block is (suc f.instr)) (subst (λ q. (if begins_block is (suc f.instr) then None else if assigns r q then constant_of q else constant_at is f.instr r) ≡ Some z) there c)
