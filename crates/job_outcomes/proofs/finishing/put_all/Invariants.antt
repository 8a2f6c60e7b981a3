use Rattle.std.proofs.Common.{◌≡◌, take}
use Rattle.job_outcomes.specs.Puts.{ArePut}
use Rattle.job_outcomes.proofs.finishing.put_all.Given as goal

abbrev pub invariant-loop-put : goal.invariant-loop-put
invariant-loop-put g l = record {
  made : ArePut (take l.put-index l.puts) (g.S.Shelf.files l.initial.shelf) (g.S.Shelf.files l.shelf);
  faults : g.S.Shelf.faults l.shelf ≡ g.S.Shelf.faults l.initial.shelf;
  sound : g.S.Keeper.IsSound l.initial.shelf → g.S.Keeper.IsSound l.shelf;
}
