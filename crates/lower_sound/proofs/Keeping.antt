-- What copies leave as it is: the kind of an expression, the registers that it assigns, and what it does.
use Rattle.std.proofs.Common.{◌≡◌, ℕ, ◌||◌, ◌==◌, nat_eq, not, Bool, true, false, if◌then◌else◌, pos, ◌*ℤ◌, List, ◌∷◌, Option, Some, None, refl, ◌∙◌, ap}
use Rattle.sync_objects.specs.Setup.{SetupView}
use Rattle.rr_base.specs.declared.position.Position.{Position}
use Rattle.word_semantics.specs.Values.{number, truth}
use Rattle.word_semantics.specs.Pointers.{moved, moved_by, directed, compared, elements_between, pointer_to, number_from}
use Rattle.word_semantics.specs.Operators.{either_binary_of}
use Rattle.word_semantics.specs.Cells.{access_kind}
use Rattle.core_tree.specs.Core as core
use Rattle.core_tree.specs.Core.{Exp, null, load, unary, binary, move, advance, member, between, to_pointer, to_number, copy, both, either, conditional, comma, set_register, store, change_register, change_cell, call, library, allocate, Exps, no_exp, and_exp, Statement, block, compute, branch, branch_else, while_loop, do_loop, for_loop, break_at, continue_at, gives, Statements, no_statement, and_statement, Program}
use Rattle.core_tree.specs.Runs.{M, ◌>>=◌, ◌>>◌, pure, result_at, read_register, write_register, choose}
use Rattle.core_tree.specs.Meaning as meaning
use Rattle.core_tree.specs.Meaning.{Calls, Completion, goes, returns, if_goes, is_pointer, is_pointer_change, unary_of, changed, load_at, store_at, library_call, allocated, value, values, test_value, step_value}
use Rattle.lowering_parts.specs.Kept.{assigns, any_assigns, loses, copied_if, kept, all_kept, maybe_kept, statement_kept, statements_kept}

pub pointer_kept : (e : Exp) → is_pointer (kept e) ≡ is_pointer e
pointer_kept (core.number z at) = refl
pointer_kept (null at) = refl
pointer_kept (core.register n pointer at) = refl
pointer_kept (core.object n at) = refl
pointer_kept (core.global address at) = refl
pointer_kept (load e pointer at) = refl
pointer_kept (unary o e at) = refl
pointer_kept (binary o a b at) = refl
pointer_kept (move a b element back at) = refl
pointer_kept (advance a b element at) = refl
pointer_kept (member a n at) = refl
pointer_kept (between a b element at) = refl
pointer_kept (to_pointer a at) = refl
pointer_kept (to_number a at) = refl
pointer_kept (copy a at) = pointer_kept a
pointer_kept (both a b at) = refl
pointer_kept (either a b at) = refl
pointer_kept (conditional a b c at) = pointer_kept b
pointer_kept (comma a b at) = pointer_kept b
pointer_kept (set_register n a at) = pointer_kept a
pointer_kept (store a b at) = pointer_kept b
pointer_kept (change_register n c b old at) = refl
pointer_kept (change_cell a loaded c b old at) = refl
pointer_kept (call g es pointer at) = refl
pointer_kept (library c es at) = refl
pointer_kept (allocate site a at) = refl

pub pointer_copied : (lost : Bool) (at : Position) (e : Exp) → is_pointer (copied_if lost at e) ≡ is_pointer e
pointer_copied true at e = refl
pointer_copied false at e = refl

-- ---- what is assigned

assigns_copied : (n : ℕ) (lost : Bool) (at : Position) (e : Exp) → assigns n (copied_if lost at e) ≡ assigns n e
assigns_copied n true at e = refl
assigns_copied n false at e = refl

either_same : (x y z w : Bool) → x ≡ z → y ≡ w → (x || y) ≡ (z || w)
either_same x y z w e f = ap (λ b. b || y) e ∙ ap (λ b. z || b) f

mutual
  pub assigns_kept : (n : ℕ) (e : Exp) → assigns n (kept e) ≡ assigns n e
  assigns_kept m (core.number z at) = refl
  assigns_kept m (null at) = refl
  assigns_kept m (core.register n pointer at) = refl
  assigns_kept m (core.object n at) = refl
  assigns_kept m (core.global address at) = refl
  assigns_kept m (load e pointer at) = assigns_kept m e
  assigns_kept m (unary o e at) = assigns_kept m e
  assigns_kept m (binary o a b at) = either_same _ _ _ _ (assigns_copied m (loses a (λ q. assigns q b)) at (kept a) ∙ assigns_kept m a) (assigns_kept m b)
  assigns_kept m (move a b element back at) = either_same _ _ _ _ (assigns_copied m (loses a (λ q. assigns q b)) at (kept a) ∙ assigns_kept m a) (assigns_kept m b)
  assigns_kept m (advance a b element at) = either_same _ _ _ _ (assigns_copied m (loses a (λ q. assigns q b)) at (kept a) ∙ assigns_kept m a) (assigns_kept m b)
  assigns_kept m (member a n at) = assigns_kept m a
  assigns_kept m (between a b element at) = either_same _ _ _ _ (assigns_copied m (loses a (λ q. assigns q b)) at (kept a) ∙ assigns_kept m a) (assigns_kept m b)
  assigns_kept m (to_pointer a at) = assigns_kept m a
  assigns_kept m (to_number a at) = assigns_kept m a
  assigns_kept m (copy a at) = assigns_kept m a
  assigns_kept m (both a b at) = either_same _ _ _ _ (assigns_kept m a) (assigns_kept m b)
  assigns_kept m (either a b at) = either_same _ _ _ _ (assigns_kept m a) (assigns_kept m b)
  assigns_kept m (conditional a b c at) = either_same _ _ _ _ (assigns_kept m a) (either_same _ _ _ _ (assigns_kept m b) (assigns_kept m c))
  assigns_kept m (comma a b at) = either_same _ _ _ _ (assigns_kept m a) (assigns_kept m b)
  assigns_kept m (set_register n a at) = ap (λ x. n == m || x) (assigns_kept m a)
  assigns_kept m (store a b at) = either_same _ _ _ _ (assigns_copied m (loses a (λ q. assigns q b)) at (kept a) ∙ assigns_kept m a) (assigns_kept m b)
  assigns_kept m (change_register n c b old at) = ap (λ x. n == m || x) (assigns_kept m b)
  assigns_kept m (change_cell a loaded c b old at) = either_same _ _ _ _ (assigns_copied m (loses a (λ q. assigns q b)) at (kept a) ∙ assigns_kept m a) (assigns_kept m b)
  assigns_kept m (call g es pointer at) = any_kept m at es
  assigns_kept m (library c es at) = any_kept m at es
  assigns_kept m (allocate site a at) = assigns_kept m a

  pub any_kept : (n : ℕ) (at : Position) (es : Exps) → any_assigns n (all_kept at es) ≡ any_assigns n es
  any_kept m at no_exp = refl
  any_kept m at (and_exp e es) = either_same _ _ _ _ (assigns_copied m (loses e (λ q. any_assigns q es)) at (kept e) ∙ assigns_kept m e) (any_kept m at es)

-- ---- which operands are lost

loses_kept : (e : Exp) (A B : ℕ → Bool) → ((n : ℕ) → B n ≡ A n) → loses (kept e) B ≡ loses e A
loses_kept (core.number z at) A B h = refl
loses_kept (null at) A B h = refl
loses_kept (core.register n pointer at) A B h = h n
loses_kept (core.object n at) A B h = refl
loses_kept (core.global address at) A B h = refl
loses_kept (load e pointer at) A B h = refl
loses_kept (unary o e at) A B h = refl
loses_kept (binary o a b at) A B h = refl
loses_kept (move a b element back at) A B h = refl
loses_kept (advance a b element at) A B h = refl
loses_kept (member a n at) A B h = refl
loses_kept (between a b element at) A B h = refl
loses_kept (to_pointer a at) A B h = refl
loses_kept (to_number a at) A B h = refl
loses_kept (copy a at) A B h = refl
loses_kept (both a b at) A B h = refl
loses_kept (either a b at) A B h = refl
loses_kept (conditional a b c at) A B h = refl
loses_kept (comma a b at) A B h = refl
loses_kept (set_register n a at) A B h = refl
loses_kept (store a b at) A B h = refl
loses_kept (change_register n c b old at) A B h = refl
loses_kept (change_cell a loaded c b old at) A B h = refl
loses_kept (call g es pointer at) A B h = refl
loses_kept (library c es at) A B h = refl
loses_kept (allocate site a at) A B h = refl

-- no operand is lost that was copied where it would be
pub never_lost : (e : Exp) (at : Position) (A B : ℕ → Bool) → ((n : ℕ) → B n ≡ A n) → loses (copied_if (loses e A) at (kept e)) B ≡ false
never_lost e at A B h = by (loses e A) refl
  where
    by : (lost : Bool) → loses e A ≡ lost → loses (copied_if lost at (kept e)) B ≡ false
    by true is = refl
    by false is = loses_kept e A B h ∙ is

-- ---- what is done

alike : {X Y Z : Type 0} (F : X → Y → Z) {x x' : X} {y y' : Y} → x ≡ x' → y ≡ y' → F x y ≡ F x' y'
alike F {x' = x'} {y = y} e f = ap (λ z. F z y) e ∙ ap (F x') f

module _ (p : Program) (s : SetupView) (t : ℕ) (calls : Calls) where
  copied : (lost : Bool) (at : Position) (e : Exp) → value p s t calls (copied_if lost at e) ≡ value p s t calls e
  copied true at e = refl
  copied false at e = refl

  front_kept : (a : Exp) (assigned : ℕ → Bool) (at : Position) → value p s t calls (kept a) ≡ value p s t calls a → value p s t calls (copied_if (loses a assigned) at (kept a)) ≡ value p s t calls a
  front_kept a assigned at h = copied (loses a assigned) at (kept a) ∙ h

  mutual
    pub value_kept : (e : Exp) → value p s t calls (kept e) ≡ value p s t calls e
    value_kept (core.number z at) = refl
    value_kept (null at) = refl
    value_kept (core.register n pointer at) = refl
    value_kept (core.object n at) = refl
    value_kept (core.global address at) = refl
    value_kept (load e pointer at) = ap (λ (m : M ℕ). m >>= (λ w. load_at p s t at.line w (access_kind pointer))) (value_kept e)
    value_kept (unary o e at) = ap (λ (m : M ℕ). m >>= (λ w. result_at at.line (unary_of o w))) (value_kept e)
    value_kept (binary o a b at) =
        let a' = copied_if (loses a (λ q. assigns q b)) at (kept a) in
        ap (λ (k : Bool). value p s t calls a' >>= (λ v. value p s t calls (kept b) >>= (λ w. result_at at.line (either_binary_of k p.sites o v w)))) (pointer_copied (loses a (λ q. assigns q b)) at (kept a) ∙ pointer_kept a)
        ∙ alike (λ (m n : M ℕ). m >>= (λ v. n >>= (λ w. result_at at.line (either_binary_of (is_pointer a) p.sites o v w)))) (front_kept a (λ q. assigns q b) at (value_kept a)) (value_kept b)
    value_kept (move a b element back at) = alike (λ (m n : M ℕ). m >>= (λ v. n >>= (λ w. result_at at.line (moved_by p.sites v (directed back (number w) *ℤ pos element))))) (front_kept a (λ q. assigns q b) at (value_kept a)) (value_kept b)
    value_kept (advance a b element at) = alike (λ (m n : M ℕ). m >>= (λ v. n >>= (λ w. result_at at.line (moved_by p.sites w (number v *ℤ pos element))))) (front_kept a (λ q. assigns q b) at (value_kept a)) (value_kept b)
    value_kept (member a n at) = ap (λ (m : M ℕ). m >>= (λ w. result_at at.line (moved p.sites w (pos n)))) (value_kept a)
    value_kept (between a b element at) = alike (λ (m n : M ℕ). m >>= (λ v. n >>= (λ w. result_at at.line (compared p.sites v w (elements_between v w element))))) (front_kept a (λ q. assigns q b) at (value_kept a)) (value_kept b)
    value_kept (to_pointer a at) = ap (λ (m : M ℕ). m >>= (λ w. result_at at.line (pointer_to (number w)))) (value_kept a)
    value_kept (to_number a at) = ap (λ (m : M ℕ). m >>= (λ w. result_at at.line (number_from p.sites w))) (value_kept a)
    value_kept (copy a at) = value_kept a
    value_kept (both a b at) = alike (λ (m n : M ℕ). m >>= (λ v. choose v (n >>= (λ w. pure (truth (not (nat_eq w 0))))) (pure 0))) (value_kept a) (value_kept b)
    value_kept (either a b at) = alike (λ (m n : M ℕ). m >>= (λ v. choose v (pure 1) (n >>= (λ w. pure (truth (not (nat_eq w 0))))))) (value_kept a) (value_kept b)
    value_kept (conditional a b c at) =
        alike (λ (m n : M ℕ). m >>= (λ v. choose v n (value p s t calls (kept c)))) (value_kept a) (value_kept b)
        ∙ ap (λ (n : M ℕ). value p s t calls a >>= (λ v. choose v (value p s t calls b) n)) (value_kept c)
    value_kept (comma a b at) = alike (λ (m n : M ℕ). m >> n) (value_kept a) (value_kept b)
    value_kept (set_register n a at) = ap (λ (m : M ℕ). m >>= (λ w. write_register n w >> pure w)) (value_kept a)
    value_kept (store a b at) =
        let a' = copied_if (loses a (λ q. assigns q b)) at (kept a) in
        ap (λ (k : Bool). value p s t calls a' >>= (λ v. value p s t calls (kept b) >>= (λ w. store_at p s t at.line v (access_kind k) w >> pure w))) (pointer_kept b)
        ∙ alike (λ (m n : M ℕ). m >>= (λ v. n >>= (λ w. store_at p s t at.line v (access_kind (is_pointer b)) w >> pure w))) (front_kept a (λ q. assigns q b) at (value_kept a)) (value_kept b)
    value_kept (change_register n c b old at) = ap (λ (m : M ℕ). read_register n >>= (λ v. m >>= (λ w. result_at at.line (changed p s t c v w) >>= (λ new. write_register n new >> pure (if old then v else new))))) (value_kept b)
    value_kept (change_cell a loaded c b old at) =
        alike (λ (m n : M ℕ). m >>= (λ pointer. load_at p s t loaded.line pointer (access_kind (is_pointer_change c)) >>= (λ v. n >>= (λ w. result_at at.line (changed p s t c v w) >>= (λ new. store_at p s t at.line pointer (access_kind (is_pointer_change c)) new >> pure (if old then v else new))))))
        (front_kept a (λ q. assigns q b) at (value_kept a)) (value_kept b)
    value_kept (call g es pointer at) = ap (λ (m : M (List ℕ)). m >>= (λ ws. calls g ws at.line)) (values_kept at es)
    value_kept (library c es at) = ap (λ (m : M (List ℕ)). m >>= (λ ws. library_call p s t at.line c ws)) (values_kept at es)
    value_kept (allocate site a at) = ap (λ (m : M ℕ). m >>= (λ w. allocated p s t at.line site (number w))) (value_kept a)

    values_kept : (at : Position) (es : Exps) → values p s t calls (all_kept at es) ≡ values p s t calls es
    values_kept at no_exp = refl
    values_kept at (and_exp e es) = alike (λ (m : M ℕ) (n : M (List ℕ)). m >>= (λ w. n >>= (λ ws. pure (w ∷ ws)))) (front_kept e (λ q. any_assigns q es) at (value_kept e)) (values_kept at es)

  test_kept : (e : Option Exp) → test_value p s t calls (maybe_kept e) ≡ test_value p s t calls e
  test_kept None = refl
  test_kept (Some e) = value_kept e

  step_kept : (e : Option Exp) → step_value p s t calls (maybe_kept e) ≡ step_value p s t calls e
  step_kept None = refl
  step_kept (Some e) = value_kept e

  mutual
    pub meaning_kept : (a : Statement) → meaning.meaning p s t calls (statement_kept a) ≡ meaning.meaning p s t calls a
    meaning_kept (block ss) = meanings_kept ss
    meaning_kept (compute e) = ap (λ (m : M ℕ). m >> pure goes) (value_kept e)
    meaning_kept (branch e a at) = alike (λ (m : M ℕ) (n : M Completion). m >>= (λ w. choose w n (pure goes))) (value_kept e) (meaning_kept a)
    meaning_kept (branch_else e a b at) =
        alike (λ (m : M ℕ) (n : M Completion). m >>= (λ w. choose w n (meaning.meaning p s t calls (statement_kept b)))) (value_kept e) (meaning_kept a)
        ∙ ap (λ (n : M Completion). value p s t calls e >>= (λ w. choose w (meaning.meaning p s t calls a) n)) (meaning_kept b)
    meaning_kept (while_loop e a at) = alike (λ (m : M ℕ) (n : M Completion). meaning.turns p s t s.limit at.line m n (pure 0)) (value_kept e) (meaning_kept a)
    meaning_kept (do_loop a e at) = alike (λ (n : M Completion) (m : M ℕ). meaning.turns_after p s t s.limit at.line n m) (meaning_kept a) (value_kept e)
    meaning_kept (for_loop start test step a at) =
        alike (λ (n : M Completion) (m : M ℕ). n >>= (λ f. if_goes f (meaning.turns p s t s.limit at.line m (meaning.meaning p s t calls (statement_kept a)) (step_value p s t calls (maybe_kept step))))) (meaning_kept start) (test_kept test)
        ∙ alike (λ (n : M Completion) (m : M ℕ). meaning.meaning p s t calls start >>= (λ f. if_goes f (meaning.turns p s t s.limit at.line (test_value p s t calls test) n m))) (meaning_kept a) (step_kept step)
    meaning_kept (break_at at) = refl
    meaning_kept (continue_at at) = refl
    meaning_kept (gives None at) = refl
    meaning_kept (gives (Some e) at) = ap (λ (m : M ℕ). m >>= (λ w. pure (returns w at.line))) (value_kept e)

    meanings_kept : (ss : Statements) → meaning.meanings p s t calls (statements_kept ss) ≡ meaning.meanings p s t calls ss
    meanings_kept no_statement = refl
    meanings_kept (and_statement a ss) = alike (λ (m n : M Completion). m >>= (λ f. if_goes f n)) (meaning_kept a) (meanings_kept ss)
