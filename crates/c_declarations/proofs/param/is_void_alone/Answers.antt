use Rattle.std.proofs.Common.{◌≢◌, length, sym, arith}
use Rattle.std.proofs.lemmas.Grind.{common_steps}
use Rattle.c_declarations.proofs.Alone.{not_one}
use Rattle.c_declarations.proofs.param.is_void_alone.Goals as goal

pub returns-in_default-3 : goal.returns-in_default-3
returns-in_default-3 c =
    let other : length c.args.params.now ≢ 1 = λ e. grind (arith, common_steps) in
    sym (not_one c.args.params.now other)
