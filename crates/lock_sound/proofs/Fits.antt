-- The constants of a code with weak locks are those of the code without them.
use Rattle.std.proofs.Common.{◌≡◌, ℕ, ◌&&◌, true, if◌then◌else◌, List, [], ◌∷◌, map, refl, sym, ap, ◌∙◌}
use Rattle.flow_code.specs.declared.act.Act.{Act}
use Rattle.flow_code.specs.declared.act.Act.TheVariants as act
use Rattle.flow_code.specs.declared.act.Instr.{Instr}
use Rattle.flow_code.specs.declared.code.Code.{Code}
use Rattle.flow_code.specs.declared.code.Function.{Function}
use Rattle.flow_code.specs.Constants.{constant_fits, constants_fit_in, constants_fit_of, constants_fit}
use Rattle.weak_code.specs.Stripped.{is_weak, plain_of, stripped, strip_function, strip}
use Rattle.weak_code.specs.Weakened.{retarget, at_instr}

fits_stripped : (to : ℕ → ℕ) (is : List Instr) → constants_fit_in (stripped to is) ≡ constants_fit_in is
fits_stripped to [] = refl
fits_stripped to (i ∷ is) = by i.act (fits_stripped to is)
  where
    by : (a : Act) → constants_fit_in (stripped to is) ≡ constants_fit_in is → constants_fit_in (if is_weak a then stripped to is else at_instr i (retarget to a) ∷ stripped to is) ≡ (constant_fits a && constants_fit_in is)
    by (act.Take r) rest = rest
    by (act.Give r) rest = rest
    by (act.Compute into w) rest = ap (λ b. constant_fits (act.Compute into w) && b) rest
    by (act.Alloc into site size) rest = rest
    by (act.LoadCell into through) rest = rest
    by (act.StoreCell through source) rest = rest
    by act.Mark rest = rest
    by (act.Call f arguments into) rest = rest
    by (act.Library c arguments into) rest = rest
    by (act.Jump k) rest = rest
    by (act.Branch on x y) rest = rest
    by (act.Return value) rest = rest

fits_functions : (fs : List Function) → constants_fit_of (map strip_function fs) ≡ constants_fit_of fs
fits_functions [] = refl
fits_functions (f ∷ fs) = ap (λ b. b && constants_fit_of (map strip_function fs)) (fits_stripped (plain_of f.instrs) f.instrs) ∙ ap (λ b. constants_fit_in f.instrs && b) (fits_functions fs)

-- where those of the code without them fit
pub weak_fit : (weak code : Code) → strip weak ≡ code → constants_fit code ≡ true → constants_fit weak ≡ true
weak_fit weak code e h = sym (fits_functions weak.functions) ∙ ap constants_fit e ∙ h
