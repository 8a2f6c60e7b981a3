use Rattle.std.proofs.Common.{◌≡◌, ◌≤◌, List, length, sym, ap, subst, ◌∙◌}
use Rattle.sync_objects.specs.declared.entry.Entry.{Entry}
use Rattle.sync_objects.specs.declared.entry.Noted.{Noted}
use Rattle.core_run.specs.Histories.{entries_in}
use Rattle.run_theory.specs.Merge.{total_length, written_merge}
use Rattle.recorder.proofs.Finishing.{records_finished, walked, few_written}
use Rattle.recorder.proofs.threads.log_of.Goals as goal

pub whole_walk-requires-clause-walked : goal.whole_walk-requires-clause-walked
whole_walk-requires-clause-walked c =
    let lists = c.args.lists.now in
    let is : c.in_ok-entries.entries ≡ entries_in (written_merge lists) = c.in_ok-entries.ensures ∙ ap (λ (ls : List (List Noted)). entries_in (written_merge ls)) c.as_slice.ensures in
    walked c.args.code.now c.args.setup.now lists c.args.remains.now c.in_ok-entries.entries c.requires.runnable c.requires.limits c.requires.finished c.requires.race_free is

pub returns-clause-records : goal.returns-clause-records
returns-clause-records c =
    let lists = c.args.lists.now in
    let is : c.in_ok-entries.entries ≡ entries_in (written_merge lists) = c.in_ok-entries.ensures ∙ ap (λ (ls : List (List Noted)). entries_in (written_merge ls)) c.as_slice.ensures in
    records_finished c.args.code.now c.args.setup.now lists c.args.remains.now c.in_ok-entries.entries c.requires.runnable c.requires.limits c.requires.finished c.requires.race_free is c.args.formula.now c.in_ok-walk.walk c.in_ok-walk.ensures

pub returns-clause-entries : goal.returns-clause-entries
returns-clause-entries c =
    let lists = c.args.lists.now in
    let is : c.in_ok-entries.entries ≡ entries_in (written_merge lists) = c.in_ok-entries.ensures ∙ ap (λ (ls : List (List Noted)). entries_in (written_merge ls)) c.as_slice.ensures in
    subst (λ (es : List Entry). length es ≤ total_length lists) (sym is) (few_written lists)
