use Rattle.grain_choice.proofs.Basing.{basis_is}
use Rattle.grain_choice.proofs.rows.basis_of.Goals as goal

pub returns : goal.returns
returns c = basis_is c.args.code.now c.args.pairs.now c.args.ranges.now c.args.profile.now (record { met = c.in_ok-met.met; loops = c.in_ok-loops.loops; narrow = c.in_ok-narrow.narrow; firsts = c.in_ok-firsts.firsts }) c.in_ok-seen.seen.items c.deref.result.now c.deref-2.result.now c.deref.ensures.value c.in_ok-seen.ensures c.in_ok-met.ensures c.in_ok-loops.ensures c.deref-2.ensures.value c.in_ok-narrow.ensures c.in_ok-firsts.ensures
