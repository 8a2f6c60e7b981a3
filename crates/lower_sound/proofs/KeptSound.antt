-- A sound core tree is sound with its copies too.
use Rattle.std.proofs.Common.{◌≡◌, ℕ, Bool, true, false, ◌∷◌, Option, Some, None, refl, sym, ◌∙◌, ap, subst}
use Rattle.rr_base.specs.declared.position.Position.{Position}
use Rattle.word_semantics.specs.declared.operator.BinaryOp.{BinaryOp}
use Rattle.core_tree.specs.declared.value.UnaryOp.{UnaryOp}
use Rattle.core_tree.specs.declared.value.UnaryOp.TheVariants as unary_op
use Rattle.core_tree.specs.declared.value.Change.{Change}
use Rattle.core_tree.specs.declared.value.Change.TheVariants as change
use Rattle.core_tree.specs.Core as core
use Rattle.core_tree.specs.Core.{Exp, null, load, unary, binary, move, advance, member, between, to_pointer, to_number, copy, both, either, conditional, comma, set_register, store, change_register, change_cell, call, library, allocate, Exps, no_exp, and_exp, Statement, block, compute, branch, branch_else, while_loop, do_loop, for_loop, break_at, continue_at, gives, Statements, no_statement, and_statement, Function, Program}
use Rattle.core_tree.specs.Meaning.{is_pointer}
use Rattle.lowering_parts.specs.Kept.{assigns, any_assigns, loses, copied_if, kept, all_kept, maybe_kept, statement_kept, statements_kept}
use Rattle.core_tree.specs.Sound.{IsCallable, HasRegister, SuitsUnary, SuitBinary, SuitsChange, value_kinds, IsSoundExp, AreSound, IsSoundMaybe, IsSoundResult, IsSoundStatement, AreSoundStatements}
use Rattle.lower_sound.proofs.Keeping.{pointer_kept, pointer_copied}

-- the kind of an operand before others
front_pointer : (lost : Bool) (at : Position) (e : Exp) → is_pointer (copied_if lost at (kept e)) ≡ is_pointer e
front_pointer lost at e = pointer_copied lost at (kept e) ∙ pointer_kept e

suits_unary : (o : UnaryOp) (e : Exp) → SuitsUnary o e → SuitsUnary o (kept e)
suits_unary unary_op.Minus e h = pointer_kept e ∙ h
suits_unary unary_op.Complement e h = pointer_kept e ∙ h
suits_unary unary_op.Not e h = tt

suit_binary : (o : BinaryOp) (a a' b : Exp) → is_pointer a' ≡ is_pointer a → SuitBinary o a b → SuitBinary o a' (kept b)
suit_binary o a a' b same h = (same ∙ h.0 ∙ sym (pointer_kept b), λ e. h.1 (sym same ∙ e))

suits_change : (c : Change) (e : Exp) → SuitsChange c e → SuitsChange c (kept e)
suits_change (change.Compute o) e h = pointer_kept e ∙ h
suits_change (change.Move element back) e h = (pointer_kept e ∙ h.0, h.1)

kinds_kept : (at : Position) (es : Exps) → value_kinds (all_kept at es) ≡ value_kinds es
kinds_kept at no_exp = refl
kinds_kept at (and_exp e es) = ap (λ k. k ∷ value_kinds (all_kept at es)) (front_pointer (loses e (λ q. any_assigns q es)) at e) ∙ ap (λ ks. is_pointer e ∷ ks) (kinds_kept at es)

module _ (p : Program) (home : ℕ → Option ℕ) (f : Function) where
  copied : (lost : Bool) (at : Position) (e : Exp) → IsSoundExp p home f e → IsSoundExp p home f (copied_if lost at e)
  copied true at e s = s
  copied false at e s = s

  abbrev lost_to : Exp → Exp → Bool
  lost_to a b = loses a (λ q. assigns q b)

  mutual
    pub exp_sound : (e : Exp) → IsSoundExp p home f e → IsSoundExp p home f (kept e)
    exp_sound (core.number z at) s = tt
    exp_sound (null at) s = tt
    exp_sound (core.register n k at) s = s
    exp_sound (core.object n at) s = s
    exp_sound (core.global address at) s = s
    exp_sound (load e k at) s = (pointer_kept e ∙ s.0, exp_sound e s.1)
    exp_sound (unary o e at) s = (suits_unary o e s.0, exp_sound e s.1)
    exp_sound (binary o a b at) s = (suit_binary o a (copied_if (lost_to a b) at (kept a)) b (front_pointer (lost_to a b) at a) s.0, copied (lost_to a b) at (kept a) (exp_sound a s.1), exp_sound b s.2)
    exp_sound (move a b element back at) s = (front_pointer (lost_to a b) at a ∙ s.0, pointer_kept b ∙ s.1, s.2, copied (lost_to a b) at (kept a) (exp_sound a s.3), exp_sound b s.4)
    exp_sound (advance a b element at) s = (front_pointer (lost_to a b) at a ∙ s.0, pointer_kept b ∙ s.1, s.2, copied (lost_to a b) at (kept a) (exp_sound a s.3), exp_sound b s.4)
    exp_sound (member a by at) s = (pointer_kept a ∙ s.0, exp_sound a s.1)
    exp_sound (between a b element at) s = (front_pointer (lost_to a b) at a ∙ s.0, pointer_kept b ∙ s.1, s.2, copied (lost_to a b) at (kept a) (exp_sound a s.3), exp_sound b s.4)
    exp_sound (to_pointer a at) s = (pointer_kept a ∙ s.0, exp_sound a s.1)
    exp_sound (to_number a at) s = (pointer_kept a ∙ s.0, exp_sound a s.1)
    exp_sound (copy a at) s = exp_sound a s
    exp_sound (both a b at) s = (exp_sound a s.0, exp_sound b s.1)
    exp_sound (either a b at) s = (exp_sound a s.0, exp_sound b s.1)
    exp_sound (conditional a b c at) s = (pointer_kept b ∙ s.0 ∙ sym (pointer_kept c), exp_sound a s.1, exp_sound b s.2, exp_sound c s.3)
    exp_sound (comma a b at) s = (exp_sound a s.0, exp_sound b s.1)
    exp_sound (set_register n a at) s = (subst (HasRegister p home f n) (sym (pointer_kept a)) s.0, exp_sound a s.1)
    exp_sound (store a b at) s = (front_pointer (lost_to a b) at a ∙ s.0, copied (lost_to a b) at (kept a) (exp_sound a s.1), exp_sound b s.2)
    exp_sound (change_register n c b old at) s = (s.0, suits_change c b s.1, exp_sound b s.2)
    exp_sound (change_cell a loaded c b old at) s = (front_pointer (lost_to a b) at a ∙ s.0, suits_change c b s.1, copied (lost_to a b) at (kept a) (exp_sound a s.2), exp_sound b s.3)
    exp_sound (call n es k at) s = (subst (λ ks. IsCallable p n ks k) (sym (kinds_kept at es)) s.0, exps_sound at es s.1)
    exp_sound (library c es at) s = (kinds_kept at es ∙ s.0, s.1, exps_sound at es s.2)
    exp_sound (allocate site a at) s = (s.0, pointer_kept a ∙ s.1, exp_sound a s.2)

    exps_sound : (at : Position) (es : Exps) → AreSound p home f es → AreSound p home f (all_kept at es)
    exps_sound at no_exp s = tt
    exps_sound at (and_exp e es) s = (copied (loses e (λ q. any_assigns q es)) at (kept e) (exp_sound e s.0), exps_sound at es s.1)

  maybe_sound : (e : Option Exp) → IsSoundMaybe p home f e → IsSoundMaybe p home f (maybe_kept e)
  maybe_sound None s = tt
  maybe_sound (Some e) s = exp_sound e s

  result_sound : (e : Option Exp) → IsSoundResult p home f e → IsSoundResult p home f (maybe_kept e)
  result_sound None s = tt
  result_sound (Some e) s = (pointer_kept e ∙ s.0, exp_sound e s.1)

  mutual
    pub statement_sound : (a : Statement) → IsSoundStatement p home f a → IsSoundStatement p home f (statement_kept a)
    statement_sound (block ss) s = statements_sound ss s
    statement_sound (compute e) s = exp_sound e s
    statement_sound (branch e a at) s = (exp_sound e s.0, statement_sound a s.1)
    statement_sound (branch_else e a b at) s = (exp_sound e s.0, statement_sound a s.1, statement_sound b s.2)
    statement_sound (while_loop e a at) s = (exp_sound e s.0, statement_sound a s.1)
    statement_sound (do_loop a e at) s = (statement_sound a s.0, exp_sound e s.1)
    statement_sound (for_loop start test step a at) s = (statement_sound start s.0, maybe_sound test s.1, maybe_sound step s.2, statement_sound a s.3)
    statement_sound (break_at at) s = tt
    statement_sound (continue_at at) s = tt
    statement_sound (gives e at) s = result_sound e s

    statements_sound : (ss : Statements) → AreSoundStatements p home f ss → AreSoundStatements p home f (statements_kept ss)
    statements_sound no_statement s = tt
    statements_sound (and_statement a ss) s = (statement_sound a s.0, statements_sound ss s.1)
