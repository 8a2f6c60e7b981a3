use Rattle.std.proofs.Common.{◌++◌, take}
use Rattle.std.proofs.lemmas.Result.{err_from_is_err_and}
use Rattle.rr_base.proofs.StreamLaws.{Gave-more}
use Rattle.rr_base.proofs.source.read_to_end.Goals as goal

pub returns-then-count-most-clause-err : goal.returns-then-count-most-clause-err
returns-then-count-most-clause-err g c =
    (c.loop-bytes.bytes ++ take c.in_ok-count.count c.read.new.into, Gave-more _ _ _ _ _ c.loop-bytes.invariant.1 c.in_ok-count.ensures.bytes)

pub returns-in_err-extend_from_slice-clause-err : goal.returns-in_err-extend_from_slice-clause-err
returns-in_err-extend_from_slice-clause-err g c =
    let p = err_from_is_err_and c.from_residual-in_err-extend_from_slice.result c.from_residual-in_err-extend_from_slice.ensures.1 in
    rw p.1 (c.loop-bytes.bytes ++ take c.in_ok-count.count c.read.new.into, Gave-more _ _ _ _ _ c.loop-bytes.invariant.1 c.in_ok-count.ensures.bytes)
