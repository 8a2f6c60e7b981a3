use Rattle.std.proofs.Common.{◌≡◌, ◌∙◌, ◌+◌, ◌*◌, ◌++◌, [], ◌∷◌, ap, sym, arith, append_assoc, replicate, length}
use Rattle.std.proofs.lemmas.List.{replicate-append-replicate, append-nil}
use Rattle.core_run.specs.Words.{start_words}
use Rattle.shared_cells.specs.Views.{never}
use Rattle.shared_cells.proofs.cells.first_words.Goals as goal

pub loop-k-init : goal.loop-k-init
loop-k-init c = record { words = sym (append-nil c.in_ok-words.words.items) }

pub loop-k-preserved : goal.loop-k-preserved
loop-k-preserved c =
    let k = c.loop-k._k in
    let start = c.in_ok-words.words.items in
    let more : 8 * k + 8 ≡ 8 * (k + 1) = omega arith in
    record { words = c.in_ok-extend_from_slice.ensures.items ∙ ap (λ z. z ++ replicate 8 0) c.loop-k.invariant.words ∙ append_assoc start (replicate (8 * k) 0) (replicate 8 0) ∙ ap (λ z. start ++ z) (replicate-append-replicate (8 * k) 8 0 ∙ ap (λ m. replicate m 0) more) }

pub returns : goal.returns
returns c =
    let code = c.args.code.now in
    let s = c.args.setup.now in
    let start = start_words code s in
    let wants = replicate (8 * length code.locks) 0 in
    let high = c.loop-k-test.false in
    let low = c.loop-k.auto._k-end in
    let all : c.loop-k._k ≡ length code.locks = omega (arith, high, low, c.len-k-end.ensures) in
    c.in_ok-push-2.ensures.items
    ∙ ap (λ z. z ++ 0 ∷ []) (c.in_ok-push.ensures.items
    ∙ ap (λ z. z ++ c.from.result ∷ []) (c.loop-k.invariant.words ∙ ap (λ z. z ++ replicate (8 * c.loop-k._k) 0) c.in_ok-words.ensures ∙ ap (λ n. start ++ replicate (8 * n) 0) all)
    ∙ ap (λ n. start ++ wants ++ n ∷ []) c.from.ensures)
    ∙ append_assoc (start ++ wants) (never ∷ []) (0 ∷ [])
