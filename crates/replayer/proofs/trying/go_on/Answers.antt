use Rattle.std.proofs.Common.{◌≤◌, sym, subst, ◌∙◌}
use Rattle.replayer.proofs.Seated.{idle_operate, idle_load, idle_store, idle_quiet, idle_ended, went_load, went_store, went_mark}
use Rattle.replayer.proofs.trying.go_on.Goals as goal

pub returns-then-cell-cell_count : goal.returns-then-cell-cell_count
returns-then-cell-cell_count c = idle_load _ _ _ _ c.requires.set c.in-Load.cell (sym c.next_action.ensures ∙ c.in-Load.is) (subst (λ n. n ≤ c.in-Load.cell) c.cell_count.ensures c.if-cell-cell_count.true) c.requires.count

pub returns-then-cell-cell_count-2 : goal.returns-then-cell-cell_count-2
returns-then-cell-cell_count-2 c = idle_store _ _ _ _ c.requires.set c.in-Store.cell c.in-Store.value (sym c.next_action.ensures ∙ c.in-Store.is) (subst (λ n. n ≤ c.in-Store.cell) c.cell_count-in-Store.ensures c.if-cell-cell_count-2.true) c.requires.count

pub returns-else-cell-cell_count : goal.returns-else-cell-cell_count
returns-else-cell-cell_count c = went_load _ _ _ _ c.requires.set _ _ c.load.ensures.carrying c.requires.count c.in-Load.cell (sym c.next_action.ensures ∙ c.in-Load.is) c.load.ensures.step

pub returns-else-cell-cell_count-2 : goal.returns-else-cell-cell_count-2
returns-else-cell-cell_count-2 c = went_store _ _ _ _ c.requires.set _ _ c.store.ensures.carrying c.requires.count c.in-Store.cell c.in-Store.value (sym c.next_action.ensures ∙ c.in-Store.is) c.store.ensures.step

pub returns-in-Mark : goal.returns-in-Mark
returns-in-Mark c = went_mark _ _ _ _ c.requires.set _ _ c.mark.ensures.carrying c.requires.count (sym c.next_action.ensures ∙ c.in-Mark.is) c.mark.ensures.step

pub returns-in-Operate : goal.returns-in-Operate
returns-in-Operate c = idle_operate _ _ _ _ c.requires.set c.in-Operate.op c.in-Operate.obj (sym c.next_action.ensures ∙ c.in-Operate.is) c.requires.count

pub returns-in-Quiet : goal.returns-in-Quiet
returns-in-Quiet c = idle_quiet _ _ _ _ c.requires.set (sym c.next_action.ensures ∙ c.in-Quiet.is) c.requires.count

pub returns-in-Ended : goal.returns-in-Ended
returns-in-Ended c = idle_ended _ _ _ _ c.requires.set (sym c.next_action.ensures ∙ c.in-Ended.is) c.requires.count
