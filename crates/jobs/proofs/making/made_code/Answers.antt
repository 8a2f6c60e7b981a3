use Rattle.core_run.specs.Histories.{entries_in, lists_of}
use Rattle.run_theory.specs.Merge.{written_merge}
use Rattle.weak_lock_facts.specs.Ranges.{ranges_of}
use Rattle.jobs.proofs.Made.{runs_as_source}
use Rattle.jobs.proofs.Replayed.{walks_as_source}
use Rattle.jobs.proofs.making.made_code.Goals as goal

pub compiled-requires : goal.compiled-requires
compiled-requires c = c.requires

pub returns-clause-runs : goal.returns-clause-runs
returns-clause-runs c =
    runs_as_source c.args.source.now c.compiled.result c.compiled.ensures
    (λ w h s labels end within ran ended. let t = c.law_text_log.ensures c.args.source.now h.0 w s labels end c.requires h.1 h.2.is h.2.of within ran ended in record { runs = t.1; prints = t.2; ordered = c.law_ordered_walk.ensures w s (entries_in (written_merge (lists_of end))) end h.2.is within t.0 })
    (λ w h s entries within. walks_as_source h.0 s entries w h.2.is h.2.of (λ end walks. c.law_text_erased_walk.ensures c.args.source.now h.0 w.points w.pairs (ranges_of w.plain w.points) w.grains.rows s entries end c.requires h.1 within walks) (λ end walks. c.law_ordered_walk.ensures w s entries end h.2.is within walks))
