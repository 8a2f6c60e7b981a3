use Rattle.std.proofs.Common.{arith, ap, length, List, ◌∙◌}
use Rattle.std.proofs.lemmas.List.{length-map}
use Rattle.facts.specs.declared.locks.Naming.{Naming}
use Rattle.facts.specs.Paths.{argument_namings}
use Rattle.lockset_summary.proofs.Naming.{map_at}
use Rattle.lockset_summary.proofs.names.names_of.Goals as goal

pub rows_at-requires : goal.rows_at-requires
rows_at-requires c = omega (arith, c.requires.within, ap (λ (z : List (List (List Naming))). length z) c.requires.names, length-map c.args._code.now.functions argument_namings)

pub returns : goal.returns
returns c fn at = c.as_slice.ensures ∙ map_at argument_namings c.args._code.now.functions c.args.names.now c.args.f fn c.rows_at.result.now c.requires.names at c.rows_at.ensures
