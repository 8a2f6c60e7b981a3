use Rattle.std.proofs.Common.{◌<◌, List, length, sym, subst, ap, ◌∙◌}
use Rattle.std.specs.Prelude.{All}
use Rattle.std.proofs.lemmas.Option.{same_Some}
use Rattle.flow_code.specs.declared.code.Function.{Function}
use Rattle.weak_code.specs.declared.stretch.RacyAccess.{RacyAccess}
use Rattle.weak_code.specs.Stretches.{racy_accesses, stretches_of}
use Rattle.weak_code.specs.Weakened.{with_stretches}
use Rattle.weaken.proofs.Nexts.{ok_map, here_in}
use Rattle.weaken.proofs.Chosen.{fits_at}
use Rattle.weaken.proofs.weakening.weakened_function.Goals as goal

pub with_accesses-requires-clause-fits : goal.with_accesses-requires-clause-fits
with_accesses-requires-clause-fits c = fits_at c.args.code.now c.args.number c.index-as_slice-number.result c.requires.valid (here_in c.args.code.now.functions c.as_slice.result.now c.args.number c.index-as_slice-number.result c.as_slice.ensures c.requires.number c.index-as_slice-number.is)

pub with_accesses-requires-clause-within : goal.with_accesses-requires-clause-within
with_accesses-requires-clause-within c = subst (All (λ (a : RacyAccess). a.instr < length c.index-as_slice-number.result.instrs)) (sym c.deref.ensures.value) (c.in_ok-accesses.ensures.within c.index-as_slice-number.result (here_in c.args.code.now.functions c.as_slice.result.now c.args.number c.index-as_slice-number.result c.as_slice.ensures c.requires.number c.index-as_slice-number.is))

pub returns : goal.returns
returns c = ok_map c.with_accesses.result _ _ (λ v e fn g. e ∙ ap (λ (z : List RacyAccess). with_stretches c.index-as_slice-number.result (stretches_of c.index-as_slice-number.result z)) (c.deref.ensures.value ∙ c.in_ok-accesses.ensures.value) ∙ ap (λ (z : Function). with_stretches z (stretches_of z (racy_accesses c.args.code.now c.args.points.now c.args.locked.now c.args.ranges.now c.args.rows.now c.args.number))) (same_Some c.index-as_slice-number.result fn (sym (here_in c.args.code.now.functions c.as_slice.result.now c.args.number c.index-as_slice-number.result c.as_slice.ensures c.requires.number c.index-as_slice-number.is) ∙ g))) c.with_accesses.ensures
