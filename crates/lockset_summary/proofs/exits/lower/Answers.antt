use Rattle.std.proofs.Common.{◌≡◌, arith, subst, Some}
use Rattle.std.specs.Prelude.{slice_get}
use Rattle.lockset_summary.proofs.Falling.{lower_by}
use Rattle.lockset_summary.proofs.exits.lower.Goals as goal

pub flow_at-requires-clause-exits : goal.flow_at-requires-clause-exits
flow_at-requires-clause-exits c g e at = c.requires.falling.from.known g e (subst (λ z. slice_get z g ≡ Some e) c.as_slice.ensures at)

pub set-requires : goal.set-requires
set-requires c = omega (arith, c.requires.falling.from.long, c.requires.within)

pub returns-clause-falling : goal.returns-clause-falling
returns-clause-falling c = (lower_by c.args.code.now c.args.tops.now c.requires.tops c.args.exits.now c.as_slice.result.now c.set.new.self c.args.f c.in_ok-points.points c.in_ok-exit.exit c.requires.falling c.requires.within c.as_slice.ensures c.in_ok-points.ensures c.in_ok-exit.ensures.value c.in_ok-exit.ensures.small c.set.ensures).0

pub returns-clause-lower : goal.returns-clause-lower
returns-clause-lower c = (lower_by c.args.code.now c.args.tops.now c.requires.tops c.args.exits.now c.as_slice.result.now c.set.new.self c.args.f c.in_ok-points.points c.in_ok-exit.exit c.requires.falling c.requires.within c.as_slice.ensures c.in_ok-points.ensures c.in_ok-exit.ensures.value c.in_ok-exit.ensures.small c.set.ensures).1
