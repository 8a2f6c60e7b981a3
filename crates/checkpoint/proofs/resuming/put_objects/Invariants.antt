use Rattle.std.proofs.Common.{◌≡◌, ◌<◌, ℕ, Some, length}
use Rattle.std.specs.Prelude.{slice_get}
use Rattle.sync_objects.specs.declared.object.ObjId.{ObjId}
use Rattle.core_run.specs.Words.{place_of}
use Rattle.snapshots.specs.Snapshots.{with_objects}
use Rattle.checkpoint.proofs.resuming.put_objects.Given as goal

abbrev pub invariant-loop-rest : goal.invariant-loop-rest
invariant-loop-rest l = record {
  within : (k : ℕ) (o : ObjId × ℕ × ℕ) → slice_get l.rest k ≡ Some o → place_of l.cells o.0 < length l.words.items;
  words : with_objects l.cells l.rest l.words.items ≡ with_objects l.cells l.objects l.fn.words.items;
}

abbrev pub decreases-loop-rest : goal.decreases-loop-rest
decreases-loop-rest l = length l.rest
