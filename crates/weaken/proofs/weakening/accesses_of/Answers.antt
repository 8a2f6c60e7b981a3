use Rattle.std.proofs.Common.{◌<◌, List, [], length, get_or, sym, subst, ap, ◌∙◌, arith}
use Rattle.std.specs.Prelude.{All}
use Rattle.std.specs.List.{filter_map}
use Rattle.flow_code.specs.declared.code.Function.{Function}
use Rattle.weak_lock_facts.specs.declared.range.Range.{Range}
use Rattle.weak_code.specs.declared.stretch.RacyAccess.{RacyAccess}
use Rattle.weak_code.specs.Stretches as stretches
use Rattle.weaken.proofs.Nexts.{ok_map, here_in}
use Rattle.weaken.proofs.Chosen.{are_shifts, accesses_inside}
use Rattle.weaken.proofs.weakening.accesses_of.Goals as goal

pub racy_accesses-requires-clause-shifts : goal.racy_accesses-requires-clause-shifts
racy_accesses-requires-clause-shifts c = are_shifts c.args.code.now c.args.number c.index-as_slice-number.result c.args.ranges.now c.args.own_ranges.now c.args._rows.now c.args.own_rows.now c.deref.result.now (here_in c.args.code.now.functions c.as_slice.result.now c.args.number c.index-as_slice-number.result c.as_slice.ensures c.requires.number c.index-as_slice-number.is) c.requires.own_ranges c.requires.own_rows (λ k lt. ap (λ (z : List (List Range)). get_or z k []) c.deref.ensures.value ∙ c.in_ok-by_instr.ensures.each k (omega (arith, lt, c.len-count.ensures, ap (λ (z : Function). length z.instrs) c.index-as_slice-number.is)))

pub returns-clause-within : goal.returns-clause-within
returns-clause-within c = ok_map c.racy_accesses.result _ _ (λ v e fn h. subst (All (λ (a : RacyAccess). a.instr < length fn.instrs)) (sym (e ∙ ap (filter_map (stretches.racy_access c.args.code.now c.args.points.now c.args.locked.now c.args.ranges.now)) c.requires.own_rows)) (accesses_inside c.args.code.now c.args.points.now c.args.locked.now c.args.ranges.now c.args._rows.now c.args.number fn h)) c.racy_accesses.ensures
