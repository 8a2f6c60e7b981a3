use Rattle.std.proofs.Common.{ℕ, [], ◌∷◌, ◌++◌, ◌+◌, ◌∙◌, ap}
use Rattle.std.specs.Prelude.{codes}
use Rattle.std.proofs.lemmas.Result.{on_ok_weaker}
use Rattle.profiles.specs.Profile.{Text}
use Rattle.order_log.specs.Text.{number_text}
use Rattle.order_log.proofs.Written.{alone_written, range_written}
use Rattle.order_log.proofs.write.push_group_line.Goals as goal
use Rattle.order_log.proofs.write.push_group_line.Goals.{then-more-gt0+in_ok-push_numbered, else-more-gt0}

pub returns : goal.returns
returns c =
    let out = c.args.out.now in
    let first = c.args.first.now in
    let entry = c.push_entry.new.out in
    elim c.if-more-gt0.branch [
      | then-more-gt0+in_ok-push_numbered w ↦ on_ok_weaker c.push.result (λ e. e ∙ ap (λ (t : Text). t ++ 10 ∷ []) w.out-is
          ∙ range_written first c.args.more out entry w.push_numbered.new.out w.if-more-gt0.true c.in_ok-push_entry.ensures
          (w.in_ok-push_numbered.ensures ∙ ap (λ (k : ℕ). entry ++ (codes "-" ++ number_text (k + c.args.more))) (w.from.ensures ∙ w.stripe_of.ensures))) c.push.ensures.ok
      | else-more-gt0 w ↦ on_ok_weaker c.push.result (λ e. e ∙ ap (λ (t : Text). t ++ 10 ∷ []) w.out-is
          ∙ alone_written first c.args.more out entry w.if-more-gt0.false c.in_ok-push_entry.ensures) c.push.ensures.ok
    ]
