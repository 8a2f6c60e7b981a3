-- Why a job stops, where the shelf was its cause.
use Rattle.rr_base.specs.declared.shelf.ShelfEnd.{ShelfEnd}
use Rattle.rr_base.specs.declared.shelf.ShelfEnd.TheVariants as shelf_end
use Rattle.job_outcomes.specs.declared.stop.Stop.{Stop}
use Rattle.job_outcomes.specs.declared.stop.Stop.TheVariants as stop

-- the cause for which a job stops where a call of the shelf ends so
abbrev pub stop_of : ShelfEnd → Stop
stop_of shelf_end.Failed = stop.ShelfFailed
stop_of shelf_end.OutOfMemory = stop.OutOfMemory
