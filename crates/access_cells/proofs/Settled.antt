-- The objects with which all pointers point well once all threads of a state have made their quiet steps.
use Rattle.std.proofs.Common.{◌≡◌, true, List}
use Rattle.sync_objects.specs.Setup.{SetupView, IsWithinLimits}
use Rattle.flow_code.specs.Constants.{constants_fit}
use Rattle.flow_code.specs.declared.code.Code.{Code}
use Rattle.flow_code.specs.Valid.{is_valid}
use Rattle.flow_code.proofs.Runnable.{valid_runnable}
use Rattle.core_run.specs.Histories.{IsReachable}
use Rattle.core_run.specs.Machine.{Told}
use Rattle.core_run.proofs.Reached.{kept}
use Rattle.run_theory.specs.Steps.{State}
use Rattle.points_to_sound.specs.Objects.{Object}
use Rattle.points_to_sound.specs.States.{PointsWell}
use Rattle.points_to_sound.proofs.Mains.{main_is}
use Rattle.points_to_sound.proofs.Settling.{Sets}
use Rattle.points_to_sound.proofs.StartPoints.{sets, always_points}
use Rattle.access_cells.specs.Accesses.{at_rest}
use Rattle.access_cells.proofs.Resting.{rests_well}

module _ (code : Code) (s : SetupView) (valid : is_valid code ≡ true) (fit : constants_fit code ≡ true) (limits : IsWithinLimits s) (st : State Told) (reached : IsReachable code s st) where
  pub code_sets : Sets code s
  code_sets = sets code s valid fit limits (main_is code valid)

  pub points_at_rest : (made : List Object) × PointsWell code s made (at_rest code s st)
  points_at_rest =
      let p = always_points code s valid fit limits (main_is code valid) st reached in
      rests_well code s code_sets st (kept code s (valid_runnable code valid) limits st reached).threads p.0 p.1
