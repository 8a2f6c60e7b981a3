-- The weakened code of a code with its analyses can be run, is valid, and its constants fit.
use Rattle.std.proofs.Common.{◌≡◌, true, ap, sym, refl, subst, ◌∙◌}
use Rattle.flow_code.specs.declared.code.Code.{Code}
use Rattle.flow_code.specs.Constants.{constants_fit}
use Rattle.flow_code.specs.Settle.{IsRunnable}
use Rattle.flow_code.specs.Valid.{is_valid}
use Rattle.flow_code.proofs.Runnable.{valid_runnable}
use Rattle.weak_lock_facts.specs.Ranges.{ranges_of}
use Rattle.weak_code.specs.Stripped.{strip}
use Rattle.weak_code.proofs.Running.{runs}
use Rattle.weak_code.proofs.Stripping.{strip-weakened}
use Rattle.weak_valid.proofs.Valid.{weakened_valid}
use Rattle.lock_sound.specs.Weakened.{Analysed, IsAnalysed}
use Rattle.lock_sound.proofs.Fits.{weak_fit}

pub weakened_runs : (a : Analysed) → IsAnalysed a → IsRunnable a.weak
weakened_runs a h = subst (λ (c : Code). IsRunnable c) (sym h.weak) (runs a.plain a.points a.pairs (ranges_of a.plain a.points) a.grains.rows (valid_runnable a.plain h.valid))

-- the same of a code that is known to be it
pub code_runs : (a : Analysed) (code : Code) → IsAnalysed a → code ≡ a.weak → IsRunnable code
code_runs a code h e = subst (λ (c : Code). IsRunnable c) (sym e) (weakened_runs a h)

pub weakened_is_valid : (a : Analysed) → IsAnalysed a → is_valid a.weak ≡ true
weakened_is_valid a h = ap is_valid h.weak ∙ weakened_valid a.plain a.points a.summaries a.pairs (ranges_of a.plain a.points) a.profile a.grains.rows h.valid h.without_locks h.apart (record { points = h.points; pairs = h.pairs; ranges = refl; grains = h.grains })

weakened_strips : (a : Analysed) → IsAnalysed a → strip a.weak ≡ a.plain
weakened_strips a h = ap strip h.weak ∙ strip-weakened a.plain a.points a.pairs (ranges_of a.plain a.points) a.grains.rows h.valid h.without_locks

pub weakened_constants_fit : (a : Analysed) → IsAnalysed a → constants_fit a.weak ≡ true
weakened_constants_fit a h = weak_fit a.weak a.plain (weakened_strips a h) h.constants
