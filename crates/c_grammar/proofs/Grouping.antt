-- Operators that are read one after another are grouped as the grammar has it.
use Rattle.std.proofs.Common.{◌≡◌, ℕ, suc, ◌+◌, ◌≤◌, ◌<◌, Bool, true, false, cond, List, [], ◌∷◌, refl, sym, ◌∙◌, ap, subst, arith, nat_lt}
use Rattle.std.proofs.lemmas.Bool.Decides.{nat_tests}
use Rattle.c_tree.specs.declared.expr.BinaryOp.{BinaryOp}
use Rattle.c_tree.specs.declared.expr.BinaryOp.TheVariants as binary_op
use Rattle.c_tree.specs.Tree.{Exp, comma, assign, conditional, binary, prefix, sizeof_exp, sizeof_type, cast, index, member, arrow, post_increment, post_decrement, named, call, number, letter, text, null, paren}
use Rattle.rr_base.specs.declared.position.Position.{Position}
use Rattle.c_print.specs.Kinds.{p, binary_punct}
use Rattle.c_grammar.specs.Marks.{Mark, mark, own}
use Rattle.c_grammar.specs.Grammar.{tightness, binds, operators_in, postfixes_in, is_cast, OfExp}
use Rattle.c_grammar.specs.Rules.{push}
use Rattle.c_grammar.proofs.Language.{Link, link, Chained, Postfix, by_index, by_member, by_arrow, by_increment, by_decrement, applied, OfPostfix, Postfixed}

pub tightness_low : (op : BinaryOp) → 3 ≤ tightness op
tightness_low binary_op.Add = omega arith
tightness_low _ = omega arith

pub tightness_small : (op : BinaryOp) → tightness op < 13
tightness_small binary_op.Add = omega arith
tightness_small _ = omega arith

pub no_operators : (e : Exp) → 13 ≤ binds e → operators_in e ≡ 0
no_operators (binary a op b at) h = absurd (omega (arith, h, tightness_small op))
no_operators _ h = refl

pub no_cast : (e : Exp) → 14 ≤ binds e → is_cast e ≡ false
no_cast (cast t a at) h = absurd (omega (arith, h))
no_cast _ h = refl

-- what the two answers say of the test
pub by_level : (P : Exp → Type 0) (m n : ℕ) (x y : Exp) → (m < n → P x) → (n ≤ m → P y) → P (cond (nat_lt m n) x y)
by_level P m n x y h k = by (nat_lt m n) refl
  where
    by : (b : Bool) → nat_lt m n ≡ b → P (cond b x y)
    by true e = h (grind (arith, nat_tests))
    by false e = k (grind (arith, nat_tests))

pub binds-push : (m : ℕ) (left : Exp) (op : BinaryOp) (e : Exp) (at : Position) → m < binds left → m < tightness op → m < binds (push left op e at)
binds-push m (binary a last b there) op e at h k = by_level (λ x. m < binds x) (tightness last) (tightness op) (binary a last (push b op e at) there) (binary (binary a last b there) op e at) (λ _. h) (λ _. k)
binds-push m (comma a es there) op e at h k = k
binds-push m _ op e at h k = k

pub operators-push : (left : Exp) (op : BinaryOp) (e : Exp) (at : Position) → operators_in e ≡ 0 → operators_in (push left op e at) ≡ suc (operators_in left)
operators-push (binary a last b there) op e at h =
    by_level (λ x. operators_in x ≡ suc (operators_in a + suc (operators_in b))) (tightness last) (tightness op) (binary a last (push b op e at) there) (binary (binary a last b there) op e at)
    (λ _. omega (arith, operators-push b op e at h)) (λ _. omega (arith, h))
operators-push (comma a es there) op e at h = omega (arith, h)
operators-push _ op e at h = omega (arith, h)

-- the operator and the operand after a left operand, with their levels
module _ (op : BinaryOp) (u : Exp) (at : Position) (tight : 13 ≤ binds u) where
  -- all of what was read is the left operand
  whole : (l k : ℕ) (left : Exp) (ms m1 m2 rest : List Mark) → k ≡ l + operators_in left → tightness op ≤ binds left → OfExp l left ms m1 → own (p (binary_punct op)) at (suc (suc k)) m1 m2 → OfExp (suc k) u m2 rest → OfExp l (binary left op u at) ms rest
  whole l k left ms m1 m2 rest e le h o d =
      ((le, omega (arith, tight, tightness_small op)), (m1, h, (m2, o ∙ ap (λ z. mark (p (binary_punct op)) at (suc (suc z)) ∷ m2) e, subst (λ z. OfExp (suc z) u m2 rest) e d)))

  pub of_push : (left : Exp) (l k : ℕ) (ms m1 m2 rest : List Mark) → k ≡ l + operators_in left → 3 ≤ binds left → OfExp l left ms m1 → own (p (binary_punct op)) at (suc (suc k)) m1 m2 → OfExp (suc k) u m2 rest → OfExp l (push left op u at) ms rest
  of_push (binary a last b there) l k ms m1 m2 rest e low h o d =
      by_level (λ x. OfExp l x ms rest) (tightness last) (tightness op) (binary a last (push b op u at) there) (binary (binary a last b there) op u at)
      (λ lt. (
        (h.0.0, binds-push (tightness last) b op u at h.0.1 lt),
        (
          h.1.0,
          h.1.1,
          (
            h.1.2.0,
            h.1.2.1,
            of_push b (suc (l + operators_in a)) k h.1.2.0 m1 m2 rest (omega (arith, e)) (omega (arith, h.0.1, tightness_low last)) h.1.2.2 o d,
          ),
        ),
      ))
      (λ le. whole l k (binary a last b there) ms m1 m2 rest e le h o d)
  of_push (comma a es there) l k ms m1 m2 rest e low h o d = absurd (omega (arith, low))
  of_push (assign a as' b there) l k ms m1 m2 rest e low h o d = absurd (omega (arith, low))
  of_push (conditional a b c there) l k ms m1 m2 rest e low h o d = absurd (omega (arith, low))
  of_push (prefix x a there) l k ms m1 m2 rest e low h o d = whole l k (prefix x a there) ms m1 m2 rest e (omega (arith, tightness_small op)) h o d
  of_push (sizeof_exp a there) l k ms m1 m2 rest e low h o d = whole l k (sizeof_exp a there) ms m1 m2 rest e (omega (arith, tightness_small op)) h o d
  of_push (sizeof_type t there) l k ms m1 m2 rest e low h o d = whole l k (sizeof_type t there) ms m1 m2 rest e (omega (arith, tightness_small op)) h o d
  of_push (cast t a there) l k ms m1 m2 rest e low h o d = whole l k (cast t a there) ms m1 m2 rest e (omega (arith, tightness_small op)) h o d
  of_push (index a b there) l k ms m1 m2 rest e low h o d = whole l k (index a b there) ms m1 m2 rest e (omega (arith, tightness_small op)) h o d
  of_push (member a x there) l k ms m1 m2 rest e low h o d = whole l k (member a x there) ms m1 m2 rest e (omega (arith, tightness_small op)) h o d
  of_push (arrow a x there) l k ms m1 m2 rest e low h o d = whole l k (arrow a x there) ms m1 m2 rest e (omega (arith, tightness_small op)) h o d
  of_push (post_increment a there) l k ms m1 m2 rest e low h o d = whole l k (post_increment a there) ms m1 m2 rest e (omega (arith, tightness_small op)) h o d
  of_push (post_decrement a there) l k ms m1 m2 rest e low h o d = whole l k (post_decrement a there) ms m1 m2 rest e (omega (arith, tightness_small op)) h o d
  of_push (named x there) l k ms m1 m2 rest e low h o d = whole l k (named x there) ms m1 m2 rest e (omega (arith, tightness_small op)) h o d
  of_push (call x es there) l k ms m1 m2 rest e low h o d = whole l k (call x es there) ms m1 m2 rest e (omega (arith, tightness_small op)) h o d
  of_push (number n there) l k ms m1 m2 rest e low h o d = whole l k (number n there) ms m1 m2 rest e (omega (arith, tightness_small op)) h o d
  of_push (letter n there) l k ms m1 m2 rest e low h o d = whole l k (letter n there) ms m1 m2 rest e (omega (arith, tightness_small op)) h o d
  of_push (text x there) l k ms m1 m2 rest e low h o d = whole l k (text x there) ms m1 m2 rest e (omega (arith, tightness_small op)) h o d
  of_push (null there) l k ms m1 m2 rest e low h o d = whole l k (null there) ms m1 m2 rest e (omega (arith, tightness_small op)) h o d
  of_push (paren a there) l k ms m1 m2 rest e low h o d = whole l k (paren a there) ms m1 m2 rest e (omega (arith, tightness_small op)) h o d

-- a left operand and a chain after it are an expression
pub of_chained : (ops : List Link) (l k : ℕ) (left e : Exp) (ms mid rest : List Mark) → k ≡ l + operators_in left → 3 ≤ binds left → OfExp l left ms mid → Chained k left ops e mid rest → (3 ≤ binds e) × OfExp l e ms rest
of_chained [] l k left e ms mid rest is low h c =
    (subst (λ x. 3 ≤ binds x) (sym c.0) low, subst (λ x. OfExp l x ms rest) (sym c.0) (subst (λ z. OfExp l left ms z) c.1 h))
of_chained (link op at u ∷ ops) l k left e ms mid rest is low h c =
    let tight = c.2.1.0 in
    of_chained ops l (suc k) (push left op u at) e ms c.2.0 rest (omega (arith, is, operators-push left op u at (no_operators u tight)))
    (omega (arith, binds-push 2 left op u at low (tightness_low op)))
    (of_push op u at tight left l k ms mid c.0 c.2.0 is low h c.1 c.2.1.1) c.2.2

-- and so with postfix operators
of_applied : (op : Postfix) (l : ℕ) (left : Exp) (ms mid rest : List Mark) → 14 ≤ binds left → OfExp l left ms mid → OfPostfix (suc (suc (l + postfixes_in left))) op mid rest → OfExp l (applied left op) ms rest
of_applied (by_index b at) l left ms mid rest low h c = (low, (mid, h, c))
of_applied (by_member x at) l left ms mid rest low h c = (low, (mid, h, c))
of_applied (by_arrow x at) l left ms mid rest low h c = (low, (mid, h, c))
of_applied (by_increment at) l left ms mid rest low h c = (low, (mid, h, c))
of_applied (by_decrement at) l left ms mid rest low h c = (low, (mid, h, c))

pub applied_binds : (left : Exp) (op : Postfix) → binds (applied left op) ≡ 14
applied_binds left (by_index b at) = refl
applied_binds left (by_member x at) = refl
applied_binds left (by_arrow x at) = refl
applied_binds left (by_increment at) = refl
applied_binds left (by_decrement at) = refl

pub applied_postfixes : (left : Exp) (op : Postfix) → postfixes_in (applied left op) ≡ suc (postfixes_in left)
applied_postfixes left (by_index b at) = refl
applied_postfixes left (by_member x at) = refl
applied_postfixes left (by_arrow x at) = refl
applied_postfixes left (by_increment at) = refl
applied_postfixes left (by_decrement at) = refl

pub of_postfixed : (ops : List Postfix) (l k : ℕ) (left e : Exp) (ms mid rest : List Mark) → k ≡ l + postfixes_in left → 14 ≤ binds left → OfExp l left ms mid → Postfixed k left ops e mid rest → (14 ≤ binds e) × OfExp l e ms rest
of_postfixed [] l k left e ms mid rest is low h c =
    (subst (λ x. 14 ≤ binds x) (sym c.0) low, subst (λ x. OfExp l x ms rest) (sym c.0) (subst (λ z. OfExp l left ms z) c.1 h))
of_postfixed (op ∷ ops) l k left e ms mid rest is low h c =
    of_postfixed ops l (suc k) (applied left op) e ms c.0 rest (omega (arith, is, applied_postfixes left op)) (omega (arith, applied_binds left op))
    (of_applied op l left ms mid c.0 low h (subst (λ z. OfPostfix (suc (suc z)) op mid c.0) is c.1)) c.2
