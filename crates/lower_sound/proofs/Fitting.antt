-- Registers of a kind, and the works that fit them.
use Rattle.std.proofs.Common.{◌≡◌, ℕ, ◌≤◌, Bool, true, false, not, ◌&&◌, ◌||◌, nat_le, if◌then◌else◌, ℤ, length, Some, slice_get, refl, sym, ◌∙◌, ap, arith}
use Rattle.std.proofs.lemmas.Bool.{and_from, lt-ltb, le-leb}
use Rattle.std.proofs.lemmas.Option.{slice_get_within}
use Rattle.flow_code.specs.declared.code.Code.{Code}
use Rattle.flow_code.specs.declared.code.Function.{Function}
use Rattle.flow_code.specs.declared.work.Work.TheVariants as work
use Rattle.word_semantics.specs.declared.operator.BinaryOp.{BinaryOp}
use Rattle.flow_code.specs.Works.{is_pointer}
use Rattle.flow_code.specs.Kinds.{has_register, has_pointer, has_whole, has_kind, same_register_kind, is_null, binary_fits, move_fits, between_fits, work_fits}
use Rattle.word_semantics.specs.Kinds.{is_comparison}
use Rattle.core_tree.specs.declared.value.UnaryOp.{UnaryOp}
use Rattle.core_tree.specs.declared.value.UnaryOp.TheVariants as unary_op
use Rattle.core_tree.specs.declared.value.Change.{Change}
use Rattle.core_tree.specs.declared.value.Change.TheVariants as change
use Rattle.core_tree.specs.Core.{Exp}
use Rattle.core_tree.specs.Meaning as meaning
use Rattle.flow_lower.specs.Lowered.{unary_work, change_work}
use Rattle.core_tree.specs.Sound.{SuitsUnary, SuitsChange}
use Rattle.lower_sound.proofs.Places.{is_kind}

module _ (f : Function) (sized : length f.pointers ≡ f.registers) where
  -- the register is there, and is of the kind
  abbrev pub Holds : ℕ → Bool → Type 0
  Holds r k = slice_get f.pointers r ≡ Some k

  pub registered : (r : ℕ) (k : Bool) → Holds r k → has_register f r ≡ true
  registered r k h = lt-ltb r f.registers (omega (arith, sized, slice_get_within f.pointers r k h))

  pub pointer : (r : ℕ) → Holds r true → has_pointer f r ≡ true
  pointer r h = and_from (has_register f r) (is_pointer f.pointers r) (registered r true h) (is_kind f.pointers r true h)

  pub whole : (r : ℕ) → Holds r false → has_whole f r ≡ true
  whole r h = and_from (has_register f r) (not (is_pointer f.pointers r)) (registered r false h) (ap not (is_kind f.pointers r false h))

  pub kinded : (r : ℕ) (k : Bool) → Holds r k → has_kind f k r ≡ true
  kinded r true h = pointer r h
  kinded r false h = whole r h

  pub alike : (r q : ℕ) (k : Bool) → Holds r k → Holds q k → same_register_kind f r q ≡ true
  alike r q k h i = and_from (has_kind f (is_pointer f.pointers r) q) (has_register f r) (ap (λ b. has_kind f b q) (is_kind f.pointers r k h) ∙ kinded q k i) (registered r k h)

  -- a register that is known to be a pointer, or none
  pub as_pointer : (r : ℕ) (k : Bool) → k ≡ true → Holds r k → has_pointer f r ≡ true
  as_pointer r k e h = pointer r (h ∙ ap Some e)

  pub as_whole : (r : ℕ) (k : Bool) → k ≡ false → Holds r k → has_whole f r ≡ true
  as_whole r k e h = whole r (h ∙ ap Some e)

  -- ---- works

  pub binary_is : (into left right : ℕ) (o : BinaryOp) (k k' : Bool) → Holds into false → Holds left k → Holds right k' → k ≡ k' → (k ≡ true → is_comparison o ≡ true) → binary_fits f into o left right ≡ true
  binary_is into left right o k k' h i j e compares =
      and_from (has_whole f into && (not (is_pointer f.pointers left) || is_comparison o)) (same_register_kind f left right)
      (and_from (has_whole f into) (not (is_pointer f.pointers left) || is_comparison o) (whole into h) (ap (λ b. not b || is_comparison o) (is_kind f.pointers left k i) ∙ suits k compares))
      (alike left right k i (j ∙ ap Some (sym e)))
    where
      suits : (b : Bool) → (b ≡ true → is_comparison o ≡ true) → (not b || is_comparison o) ≡ true
      suits true c = c refl
      suits false c = refl

  pub move_is : (into from by element : ℕ) (k k' : Bool) → Holds into true → Holds from k → k ≡ true → Holds by k' → k' ≡ false → 1 ≤ element → move_fits f into from by element ≡ true
  move_is into from by element k k' h i e j d le =
      and_from (has_pointer f into && has_pointer f from && has_whole f by) (nat_le 1 element)
      (and_from (has_pointer f into && has_pointer f from) (has_whole f by) (and_from (has_pointer f into) (has_pointer f from) (pointer into h) (as_pointer from k e i)) (as_whole by k' d j))
      (le-leb 1 element le)

  pub between_is : (into left right element : ℕ) (k k' : Bool) → Holds into false → Holds left k → k ≡ true → Holds right k' → k' ≡ true → 1 ≤ element → between_fits f into left right element ≡ true
  between_is into left right element k k' h i e j d le =
      and_from (has_whole f into && has_pointer f left && has_pointer f right) (nat_le 1 element)
      (and_from (has_whole f into && has_pointer f left) (has_pointer f right) (and_from (has_whole f into) (has_pointer f left) (whole into h) (as_pointer left k e i)) (as_pointer right k' d j))
      (le-leb 1 element le)

  module _ (code : Code) where
    pub number_is : (into : ℕ) (z : ℤ) → Holds into false → work_fits code f into (work.Constant z) ≡ true
    number_is into z h = and_from (has_register f into) (is_null z || not (is_pointer f.pointers into)) (registered into false h) (ap (λ b. is_null z || not b) (is_kind f.pointers into false h) ∙ or_true (is_null z))
      where
        or_true : (b : Bool) → (b || true) ≡ true
        or_true true = refl
        or_true false = refl

    pub unary_is : (o : UnaryOp) (e : Exp) (into r : ℕ) → SuitsUnary o e → Holds into false → Holds r (meaning.is_pointer e) → work_fits code f into (unary_work o r) ≡ true
    unary_is unary_op.Minus e into r s h i = and_from (has_whole f into) (has_whole f r) (whole into h) (as_whole r (meaning.is_pointer e) s i)
    unary_is unary_op.Complement e into r s h i = and_from (has_whole f into) (has_whole f r) (whole into h) (as_whole r (meaning.is_pointer e) s i)
    unary_is unary_op.Not e into r s h i = and_from (has_whole f into) (has_register f r) (whole into h) (registered r (meaning.is_pointer e) i)

    pub change_is : (c : Change) (e : Exp) (into r by : ℕ) → SuitsChange c e → Holds into (meaning.is_pointer_change c) → Holds r (meaning.is_pointer_change c) → Holds by (meaning.is_pointer e) → work_fits code f into (change_work c r by) ≡ true
    change_is (change.Compute o) e into r by s h i j = binary_is into r by o false (meaning.is_pointer e) h i j (sym s) (λ no'. absurd cc)
    change_is (change.Move element back) e into r by s h i j = move_is into r by element true (meaning.is_pointer e) h i refl j s.0 s.1

  pub either_holds : (old : Bool) (r q : ℕ) (k : Bool) → Holds r k → Holds q k → Holds (if old then r else q) k
  either_holds true r q k h i = h
  either_holds false r q k h i = i
