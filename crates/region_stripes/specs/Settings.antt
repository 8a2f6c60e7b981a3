-- What frames of a code's functions compute with.
use Rattle.std.specs.Prelude.{◌≡◌, ◌≤◌}
use Rattle.flow_code.specs.declared.code.Code.{Code}
use Rattle.flow_code.specs.declared.code.Function.{Function}
use Rattle.loop_bounds.specs.Turns.{Setting}

-- in a run of the code, which has at most 16 slots, a frame of the function has this setting
pub record IsSettingOf (code : Code) (fn : Function) (s : Setting) : Type 0 where
  pub few : s.slots ≤ 16
  pub sites : s.sites ≡ code.sites
  pub pointers : s.pointers ≡ fn.pointers
