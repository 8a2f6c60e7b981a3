use Rattle.std.proofs.Common.{sym, ◌∙◌, arith}
use Rattle.rr_base.proofs.FileLaws.{content_of-hit, content_of-skip}
use Rattle.rr_base.proofs.mem_shelf.last_named.Goals as goal

pub returns-then-eq : goal.returns-then-eq
returns-then-eq c =
    content_of-hit c.args.files.now c.loop-at.at c.index-files-at.result c.args.name.now _ _ (omega arith) (omega arith)
    c.as_slice.ensures c.as_bytes.ensures.value (sym c.if-eq.ensures) c.loop-at.invariant

pub loop-at-preserved : goal.loop-at-preserved
loop-at-preserved c =
    c.loop-at.invariant
    ∙ content_of-skip c.args.files.now c.loop-at.at c.index-files-at.result c.args.name.now _ _ (omega arith) (omega arith)
    c.as_slice.ensures c.as_bytes.ensures.value (sym c.if-eq.ensures)
