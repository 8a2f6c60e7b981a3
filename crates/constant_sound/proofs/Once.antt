-- What a tree computes is one value.
use Rattle.std.proofs.Common.{◌≡◌, ℕ, true, Ok, Err, sym, ap, ◌∙◌}
use Rattle.rr_base.specs.declared.trap.Trap.{Trap}
use Rattle.rr_base.specs.declared.trap.Trap.TheVariants as trap
use Rattle.sync_objects.specs.Setup.{SetupView}
use Rattle.word_semantics.specs.Values.{number, word}
use Rattle.c_types.specs.Numbers.{Computed}
use Rattle.core_tree.specs.Core as core
use Rattle.core_tree.specs.Core.{Program}
use Rattle.core_tree.specs.Meaning.{Calls, start}
use Rattle.core_tree.specs.Runs.{M, Run, traps, ends, pure, result_at}
use Rattle.constant_sound.specs.Running.{worded, fit, Computes}
use Rattle.constant_sound.proofs.Arithmetic.{number_word}

module _ (p : Program) (s : SetupView) (t : ℕ) (calls : Calls) where
  -- what is done with the word tells it
  told : M ℕ → Run
  told m = m (start p s t) (λ w after. traps trap.Limit w)

  over : M ℕ → Run
  over m = m (start p s t) (λ w after. ends)

  same_word : (v w : ℕ) → traps trap.Limit v ≡ traps trap.Limit w → v ≡ w
  same_word v w e = cc

  same_kind : (k k' : Trap) (l l' : ℕ) → traps k l ≡ traps k' l' → k ≡ k'
  same_kind k k' l l' e = cc

  no_end : {A : Type 0} (k : Trap) (l : ℕ) → ends ≡ traps k l → A
  no_end k l e = cc

  one : (c d : Computed) (l l' : ℕ) → fit c ≡ true → fit d ≡ true → result_at l (worded c) ≡ result_at l' (worded d) → c ≡ d
  unfolding told over
  one (Ok m) (Ok n) l l' hc hd e = ap Ok (sym (number_word m hc) ∙ ap number (same_word (word m) (word n) (ap told e)) ∙ number_word n hd)
  one (Ok m) (Err k) l l' hc hd e = no_end k l' (ap over e)
  one (Err k) (Ok n) l l' hc hd e = no_end k l (sym (ap over e))
  one (Err k) (Err k') l l' hc hd e = ap Err (same_kind k k' l l' (ap over e))

  -- a word is no trap
  pub never_traps : {A : Type 0} (w : ℕ) (kind : Trap) (line : ℕ) → pure w ≡ result_at line (Err kind) → A
  unfolding over
  never_traps w kind line e = no_end kind line (ap over e)

  pub one_value : (e : core.Exp) (c d : Computed) → fit c ≡ true → fit d ≡ true → Computes p s t calls e c → Computes p s t calls e d → c ≡ d
  one_value e c d hc hd h i = one c d h.0 i.0 hc hd (sym h.1 ∙ i.1)
