-- Words that are joined two by two do what they do one after another.
use Rattle.std.proofs.Common.{◌≡◌, ℕ, List, [], ◌∷◌, Option, Some, None, refl, ◌∙◌, ap}
use Rattle.rr_base.specs.declared.position.Position.{Position}
use Rattle.sync_objects.specs.Setup.{SetupView}
use Rattle.c_tree.specs.Tree.{Exps, no_exp, and_exp}
use Rattle.core_tree.specs.Core as core
use Rattle.core_tree.specs.Core.{Program}
use Rattle.core_tree.specs.Runs.{M, ◌>>◌}
use Rattle.core_tree.specs.Meaning.{Calls, value}
use Rattle.c_operators.specs.Commas.{following, with_last, joined}
use Rattle.c_operators.specs.Denoted.{position_of}
use Rattle.c_operators.specs.Context.{Context}
use Rattle.c_values.specs.Expressions.{with_tail, tail_of, value_of}
use Rattle.c_values.specs.Turns.{one_by_one, CommasGoInTurn}

module _ (p : Program) (s : SetupView) (t : ℕ) (calls : Calls) where
  abbrev run : core.Exp → M ℕ
  run = value p s t calls

  -- a word after what is done, where there is one
  abbrev with_word : M ℕ → Option core.Exp → M ℕ
  with_word m None = m
  with_word m (Some e) = m >> run e

  -- the words so far, after what is done
  abbrev with_words : M ℕ → List (Option core.Exp) → M ℕ
  with_words m [] = m
  with_words m (e ∷ places) = with_word (with_words m places) e

  tail_goes : (v : core.Exp) (tail : Option core.Exp) (at : Position) → run (with_tail v tail at) ≡ with_word (run v) tail
  tail_goes v None at = refl
  tail_goes v (Some e) at = refl

  last_goes : (m : M ℕ) (e : core.Exp) (places : List (Option core.Exp)) (at : Position) → with_words m (with_last e places at) ≡ (with_words m places >> run e)
  last_goes m e [] at = refl
  last_goes m e (None ∷ places) at = refl
  last_goes m e (Some before ∷ places) at = last_goes m (core.comma before e at) places at

  after_goes : (m : M ℕ) (before last : Option core.Exp) (at : Position) → with_word m (following before last at) ≡ with_word (with_word m before) last
  after_goes m None last at = refl
  after_goes m (Some before) None at = refl
  after_goes m (Some before) (Some e) at = refl

  joined_goes : (m : M ℕ) (places : List (Option core.Exp)) (last : Option core.Exp) (at : Position) → with_word m (joined places last at) ≡ with_word (with_words m places) last
  joined_goes m [] last at = refl
  joined_goes m (before ∷ places) last at = joined_goes m places (following before last at) at ∙ after_goes (with_words m places) before last at

  each_goes : (h : Context) (m : M ℕ) (es : Exps) (places : List (Option core.Exp)) (at : Position) → with_word m (tail_of h es places at) ≡ one_by_one p s t calls h (with_words m places) es
  each_goes h m no_exp places at = joined_goes m places None at
  each_goes h m (and_exp e es) places at =
      each_goes h m es (with_last (value_of h e) places at) at ∙ ap (λ (n : M ℕ). one_by_one p s t calls h n es) (last_goes m (value_of h e) places at)

pub commas_go_in_turn : CommasGoInTurn
commas_go_in_turn p s t calls h e es at =
    tail_goes p s t calls (value_of h e) (tail_of h es [] (position_of at)) (position_of at)
    ∙ each_goes p s t calls h (value p s t calls (value_of h e)) es [] (position_of at)
