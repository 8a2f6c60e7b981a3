-- Threads that are written one after another.
use Rattle.std.proofs.Common.{◌≡◌, ℕ, ◌+◌, ◌<◌, List, [], ◌∷◌, ◌++◌, length, take, get_or, sym, ap, ◌∙◌, arith}
use Rattle.std.specs.List.{flat_map}
use Rattle.std.proofs.lemmas.List.{take_more, length-take-le, append-nil}
use Rattle.std.proofs.lemmas.List.Concat.{flat_map-append}
use Rattle.profiles.specs.Profile.{Text}
use Rattle.order_log.specs.Text.{text_of}
use Rattle.thread_interpreter.specs.declared.part.ThreadPart.{ThreadPart}
use Rattle.snapshots.specs.declared.draft.DraftThread.{DraftThread}
use Rattle.snapshots.specs.Text.{thread_lines, thread_draft, threads_from, threads_text}

-- one thread more at the end
threads_from-push : (t : ℕ) (ps : List ThreadPart) (p : ThreadPart) → threads_from t (ps ++ p ∷ []) ≡ threads_from t ps ++ thread_draft (t + length ps) p ∷ []
threads_from-push t [] p = let e : t ≡ t + 0 = omega arith in ap (λ (k : ℕ). thread_draft k p ∷ []) e
threads_from-push t (q ∷ ps) p =
    let e : t + 1 + length ps ≡ t + length (q ∷ ps) = omega arith in
    ap (λ (ds : List DraftThread). thread_draft t q ∷ ds) (threads_from-push (t + 1) ps p ∙ ap (λ (k : ℕ). threads_from (t + 1) ps ++ thread_draft k p ∷ []) e)

pub threads_more : (ps : List ThreadPart) (n : ℕ) (p : ThreadPart) → n < length ps → p ≡ get_or ps n p → threads_text 0 (take (n + 1) ps) ≡ threads_text 0 (take n ps) ++ text_of (thread_lines (thread_draft n p))
threads_more ps n p lt is =
    let grown : take (n + 1) ps ≡ take n ps ++ p ∷ [] = take_more ps n p lt ∙ ap (λ (q : ThreadPart). take n ps ++ q ∷ []) (sym is) in
    let long : 0 + length (take n ps) ≡ n = omega (arith, length-take-le n ps (omega arith)) in
    let drafts : threads_from 0 (take (n + 1) ps) ≡ threads_from 0 (take n ps) ++ thread_draft n p ∷ [] = ap (threads_from 0) grown ∙ threads_from-push 0 (take n ps) p ∙ ap (λ (k : ℕ). threads_from 0 (take n ps) ++ thread_draft k p ∷ []) long in
    ap (λ (ds : List DraftThread). text_of (flat_map thread_lines ds)) drafts
    ∙ ap text_of (flat_map-append thread_lines (threads_from 0 (take n ps)) (thread_draft n p ∷ []) ∙ ap (λ (ls : List Text). flat_map thread_lines (threads_from 0 (take n ps)) ++ ls) (append-nil (thread_lines (thread_draft n p))))
    ∙ flat_map-append (λ (line : Text). line ++ 10 ∷ []) (flat_map thread_lines (threads_from 0 (take n ps))) (thread_lines (thread_draft n p))
