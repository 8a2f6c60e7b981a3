use Rattle.std.proofs.Common.{◌++◌, ap, sym, ◌∙◌, append_assoc, take}
use Rattle.profiles.specs.Profile.{Text}
use Rattle.order_log.specs.Text.{text_of}
use Rattle.snapshots.specs.Text.{thread_lines, thread_draft, threads_text}
use Rattle.snapshots.proofs.Writing.{threads_more}
use Rattle.snapshots.proofs.write.push_threads.Goals as goal

pub loop-number-preserved : goal.loop-number-preserved
loop-number-preserved c =
    let n = c.loop-number.number in
    let ps = c.args.threads.now in
    let p = c.index-threads-number.result in
    let one = text_of (thread_lines (thread_draft n p)) in
    c.in_ok-push_thread.ensures ∙ ap (λ (t : Text). t ++ one) c.loop-number.invariant ∙ append_assoc c.args.out.now (threads_text 0 (take n ps)) one
    ∙ ap (λ (t : Text). c.args.out.now ++ t) (sym (threads_more ps n p c.loop-number-test.true c.index-threads-number.is))
