use Rattle.std.proofs.Common.{◌≡◌, ◌∙◌, ◌+◌, ◌*◌, ◌++◌, ap, arith, append_assoc}
use Rattle.std.specs.Prelude.{replicate}
use Rattle.std.proofs.lemmas.List.{replicate-append-replicate}
use Rattle.core_run.proofs.start.push_stripes.Goals as goal

pub loop-k-preserved : goal.loop-k-preserved
loop-k-preserved c =
    let k = c.loop-k._k in
    let more : 8 * k + 8 ≡ 8 * (k + 1) = omega arith in
    record { words = c.in_ok-push_zeros.ensures ∙ ap (λ z. z ++ replicate 8 0) c.loop-k.invariant.words ∙ append_assoc c.args.words.now.items (replicate (8 * k) 0) (replicate 8 0) ∙ ap (λ z. c.args.words.now.items ++ z) (replicate-append-replicate (8 * k) 8 0 ∙ ap (λ m. replicate m 0) more) }
