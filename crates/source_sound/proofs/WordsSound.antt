-- What statements need of expressions holds: their words are sound, and of the kind that is wanted.
use Rattle.std.proofs.Common.{ℕ, Option}
use Rattle.c_types.specs.Operands.{operand_of, type_operand}
use Rattle.c_types.specs.Standing.{no_target, standing}
use Rattle.core_tree.specs.Core.{Function, Program}
use Rattle.c_operators.specs.Denoted.{kind_of, wanted_in}
use Rattle.c_values.specs.Expressions.{denoted, part}
use Rattle.source_sound.proofs.Standings.{stands_gives}
use Rattle.source_sound.proofs.FunctionWords.{any_sound, stands_all}
use Rattle.source_sound.proofs.Changes.{accepted}
use Rattle.source_sound.proofs.Expressions.{exp_stands}
use Rattle.source_sound.proofs.Premises.{AreValuesSound, AreWantedSound}

module _ (p : Program) (home : ℕ → Option ℕ) (f : Function) where
  pub values_sound : AreValuesSound p home f
  values_sound h e s kept sites none =
      (stands_gives p home f s.structs (standing h.known no_target e) (denoted h no_target e) (exp_stands p home f h s e no_target none sites kept tt)).sound

  pub wanted_sound : AreWantedSound p home f
  wanted_sound h w t e s formed kept sites none fit =
      let g = stands_all p home f s.structs (part h w e) (exp_stands p home f h s e w none sites kept formed) in
      (accepted p home f s.structs t (operand_of (standing h.known w e)) (λ k. wanted_in k (part h w e)) g fit, any_sound p home f s.structs (kind_of (type_operand t)) (operand_of (standing h.known w e)) (λ k. wanted_in k (part h w e)) g)
