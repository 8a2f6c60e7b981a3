use Rattle.std.proofs.Common.{◌≡◌, Some, ap, sym, subst, ◌∙◌}
use Rattle.c_elaborate.specs.Whole.{core_of_source}
use Rattle.core_run.specs.Histories.{lists_of, entries_in}
use Rattle.core_run.specs.Machine.{start_state}
use Rattle.core_run.specs.Walks.{walk_of, out_of}
use Rattle.erasure.proofs.Weakens.{weakened_walk}
use Rattle.erasure.specs.Erased.{erased_walk, IsAnywhere}
use Rattle.flow_code.specs.declared.code.Code.{Code}
use Rattle.front.proofs.Few.{few_enough}
use Rattle.front.proofs.Sources.{source_sound}
use Rattle.front.specs.Plain.{plain_code}
use Rattle.race_free.proofs.Ends.{log_walks}
use Rattle.run_theory.specs.Merge.{written_merge}
use Rattle.lowering_simulation.specs.SourceRuns.{IsSourceRun, bytes_of}
use Rattle.weak_code.specs.Weakened.{weakened}
use Rattle.weak_lock_facts.specs.Ranges.{ranges_of}
use Rattle.compile_correct.proofs.law_text_log.Goals as goal

pub returns : goal.returns
unfolding plain_code
returns c = λ text os a setup labels end short reads h is within runs ended.
    let log = entries_in (written_merge (lists_of end)) in
    let rs = ranges_of a.plain a.points in
    let walks : walk_of a.weak setup log (start_state a.weak setup) ≡ Some end = log_walks a setup labels end h within runs ended in
    let weak : a.weak ≡ weakened (plain_code os) a.points a.pairs rs a.grains.rows = h.weak ∙ ap (λ (p : Code). weakened p a.points a.pairs rs a.grains.rows) is in
    let of_source =
    subst (λ (w : Code). IsSourceRun (core_of_source os) setup IsAnywhere (erased_walk w setup log) × (out_of w setup log (start_state w setup) ≡ bytes_of (erased_walk w setup log))) (sym weak)
    (weakened_walk (core_of_source os) a.points a.pairs rs a.grains.rows (source_sound text os reads (few_enough text os reads short)) setup log end within
    (subst (λ (w : Code). walk_of w setup log (start_state w setup) ≡ Some end) weak walks)) in
    (walks, of_source.0, of_source.1)
