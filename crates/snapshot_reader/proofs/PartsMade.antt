-- The drafts of threads that are made one after another.
use Rattle.std.proofs.Common.{◌≡◌, ℕ, ◌+◌, List, [], ◌∷◌, ◌++◌, length, sym, ap, subst, ◌∙◌, arith, append_assoc, length-append}
use Rattle.thread_interpreter.specs.declared.part.ThreadPart.{ThreadPart}
use Rattle.snapshots.specs.Text.{thread_draft, threads_from}
use Rattle.snapshots.specs.declared.draft.DraftThread.{DraftThread}
use Rattle.snapshot_reader.specs.Made.{AllCanBe, CanBe}

one_more : (t : ℕ) (ps : List ThreadPart) (p : ThreadPart) → threads_from t (ps ++ p ∷ []) ≡ threads_from t ps ++ thread_draft (t + length ps) p ∷ []
one_more t [] p = let e : t ≡ t + 0 = omega arith in ap (λ (n : ℕ). thread_draft n p ∷ []) e
one_more t (q ∷ qs) p =
    let e : (t + 1) + length qs ≡ t + length (q ∷ qs) = omega arith in
    ap (λ (ds : List DraftThread). thread_draft t q ∷ ds) (one_more (t + 1) qs p ∙ ap (λ (n : ℕ). threads_from (t + 1) qs ++ thread_draft n p ∷ []) e)

pub part_made : (found more : List ThreadPart) (p : ThreadPart) (d : DraftThread) (items rest all : List DraftThread) → items ≡ d ∷ rest → more ≡ found ++ p ∷ [] → thread_draft (length found) p ≡ d → threads_from 0 found ++ items ≡ all → threads_from 0 more ++ rest ≡ all
part_made found more p d items rest all items_are more_are made whole =
    let e : 0 + length found ≡ length found = omega arith in
    ap (λ (ps : List ThreadPart). threads_from 0 ps ++ rest) more_are
    ∙ ap (λ (ds : List DraftThread). ds ++ rest) (one_more 0 found p ∙ ap (λ (n : ℕ). threads_from 0 found ++ thread_draft n p ∷ []) e ∙ ap (λ (x : DraftThread). threads_from 0 found ++ x ∷ []) made)
    ∙ append_assoc (threads_from 0 found) (d ∷ []) rest
    ∙ ap (λ (ds : List DraftThread). threads_from 0 found ++ ds) (sym items_are)
    ∙ whole

-- the first of the drafts can be made, and then the others
pub parts_can : (found more : List ThreadPart) (p : ThreadPart) (d : DraftThread) (items rest : List DraftThread) → items ≡ d ∷ rest → more ≡ found ++ p ∷ [] → AllCanBe (length found) items → CanBe (length found) d × AllCanBe (length more) rest
parts_can found more p d items rest items_are more_are can =
    let both : AllCanBe (length found) (d ∷ rest) = subst (AllCanBe (length found)) items_are can in
    let count : length found + 1 ≡ length more = sym (ap length more_are ∙ length-append found (p ∷ [])) in
    (both.0, subst (λ (n : ℕ). AllCanBe n rest) count both.1)
