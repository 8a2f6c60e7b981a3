use Rattle.std.proofs.Common.{sym, true, false, Some, ◌∙◌}
use Rattle.order_log.proofs.Clipped.{entry_given}
use Rattle.order_log.proofs.entry.entry_in.Goals as goal

pub returns-then-not-is_fitting : goal.returns-then-not-is_fitting
returns-then-not-is_fitting c =
    sym (entry_given c.args.text.now c.in_ok-thread.thread.now c.in_ok-thread.rest.now c.in_ok-count.count.now c.in_ok-count.rest.now c.in_ok-op.op.now c.in_ok-op.obj.now
    c.in_ok-number.field-0 c.in_ok-number-2.field-0 c.in_ok-op-2.op c.in_ok-obj.obj false
    c.in_ok-thread.ensures c.in_ok-count.ensures c.in_ok-op.ensures c.in_ok-number.ensures c.in_ok-number-2.ensures c.in_ok-op-2.ensures c.in_ok-obj.ensures (sym c.if-not-is_fitting.ensures))

pub returns : goal.returns
returns c =
    (λ i. Some (record { thread = c.as_u8-thread.ensures i; count = c.as_u32-count.ensures i; op = c.in_ok-op-2.op; obj = c.in_ok-obj.obj }))
    ∙ sym (entry_given c.args.text.now c.in_ok-thread.thread.now c.in_ok-thread.rest.now c.in_ok-count.count.now c.in_ok-count.rest.now c.in_ok-op.op.now c.in_ok-op.obj.now
    c.in_ok-number.field-0 c.in_ok-number-2.field-0 c.in_ok-op-2.op c.in_ok-obj.obj true
    c.in_ok-thread.ensures c.in_ok-count.ensures c.in_ok-op.ensures c.in_ok-number.ensures c.in_ok-number-2.ensures c.in_ok-op-2.ensures c.in_ok-obj.ensures (sym c.if-not-is_fitting.ensures))
