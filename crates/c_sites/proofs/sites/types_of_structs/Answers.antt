use Rattle.std.proofs.Common.{◌<◌, length, ◌∙◌, arith}
use Rattle.c_names.specs.Table.{known_of}
use Rattle.c_sites.proofs.Typing.{more_types}
use Rattle.c_sites.proofs.sites.types_of_structs.Goals as goal

pub loop-number-preserved : goal.loop-number-preserved
loop-number-preserved c =
    let lt : c.loop-number.number < length (known_of c.args.table.now).structs = omega (arith, c.struct_count-number-end.ensures) in
    c.in_ok-push.ensures.ok ∙ more_types _ _ _ _ lt c.in_ok-types.ensures c.loop-number.invariant
