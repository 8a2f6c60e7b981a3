use Rattle.std.proofs.Common.{◌≡◌, ap, length, arith, List}
use Rattle.facts.specs.declared.locks.Naming.{Naming}
use Rattle.facts.specs.Paths.{argument_namings}
use Rattle.lockset_flow.proofs.Relaxed.{names_long, row_small, relaxed_by, ok_map}
use Rattle.lockset_flow.proofs.Sizes.{exits_small}
use Rattle.lockset_flow.proofs.flow.relax.Goals as goal

pub names_at-requires : goal.names_at-requires
names_at-requires c = let e : length c.args.names.now ≡ length (argument_namings c.args.function.now) = ap (λ (z : List (List Naming)). length z) c.requires.names in omega (arith, e, names_long c.args.function.now, c.requires.from)

pub after-requires-clause-names : goal.after-requires-clause-names
after-requires-clause-names c = row_small c.args.function.now c.args.names.now c.args.k c.at-instr.result.now c.names_at.result.now c.requires.names c.at-instr.ensures c.names_at.ensures

pub after-requires-clause-exits : goal.after-requires-clause-exits
after-requires-clause-exits c = exits_small c.args.exits.now c.requires.exits

pub returns : goal.returns
returns c = ok_map c.meet_at.result _ _ (λ changed h. relaxed_by c.args.exits.now c.args.function.now c.args.names.now c.args.k c.args.to c.at-instr.result.now c.names_at.result.now c.args.facts.now c.meet_at.new.self c.row.result.now c.in_ok-locks.locks changed c.requires.names c.requires.exits (omega (arith, c.requires.long, c.requires.to)) c.at-instr.ensures (c.requires.follows c.at-instr.result.now c.at-instr.ensures) c.names_at.ensures c.row.ensures c.in_ok-locks.ensures h) c.meet_at.ensures
