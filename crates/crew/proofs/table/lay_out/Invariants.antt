use Rattle.std.proofs.Common.{◌≡◌, drop, vec_len}
use Rattle.std.specs.Vec.Iter.{into_iter_items}
use Rattle.crew.proofs.table.lay_out.Given as goal

-- the jobs that are still to come
abbrev pub invariant-loop-job : goal.invariant-loop-job
invariant-loop-job g l =
    (goal.iterator-loop-job g).can_next l.job-iterator × (goal.iterator-loop-job g).is_finite l.job-iterator
    × (into_iter_items l.job-iterator ≡ drop (vec_len l.parcels) l.fn.jobs.items)
