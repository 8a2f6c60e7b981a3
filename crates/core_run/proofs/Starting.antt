-- The start, thread by thread and word by word.
use Rattle.std.proofs.Common.{◌≡◌, ℕ, zero, suc, ◌+◌, ◌*◌, List, [], ◌∷◌, ◌++◌, length, map, sym, ap, ◌∙◌, arith, append_assoc}
use Rattle.std.specs.Prelude.{replicate}
use Rattle.std.proofs.lemmas.List.{map-append}
use Rattle.sync_objects.specs.Setup.{SetupView}
use Rattle.flow_code.specs.declared.code.Code.{Code}
use Rattle.thread_interpreter.specs.Flows.{Running}
use Rattle.sync_objects.specs.Start.{start_word}
use Rattle.sync_objects.specs.declared.object.ObjId.TheVariants as object
use Rattle.core_run.specs.Words.{objects_from}
use Rattle.core_run.specs.Machine.{start_told, start_threads_from}
use Rattle.thread_interpreter.specs.Starts.{start_thread}
use Rattle.core_run.specs.Shown.{running_thread, told_thread, RunAll}

pub run_all_push : (code : Code) (s : SetupView) (k : ℕ) (rs : List Running) (r : Running) → RunAll code s k rs → r.code ≡ code → r.setup ≡ s → r.number ≡ k + length rs → RunAll code s k (rs ++ r ∷ [])
run_all_push code s k [] r h a b c = (a, b, c ∙ omega arith, tt)
run_all_push code s k (x ∷ rs) r h a b c = (h.0, h.1, h.2, run_all_push code s (k + 1) rs r h.3 a b (c ∙ omega arith))

start_suc : (code : Code) (s : SetupView) (k n : ℕ) → start_threads_from code s k (suc n) ≡ start_threads_from code s k n ++ start_told code s (k + n) ∷ []
start_suc code s k zero = let e : k ≡ k + 0 = omega arith in ap (λ z. start_told code s z ∷ []) e
start_suc code s k (suc n) = let e : k + 1 + n ≡ k + suc n = omega arith in ap (λ z. start_told code s k ∷ z) (start_suc code s (k + 1) n ∙ ap (λ z. start_threads_from code s (k + 1) n ++ start_told code s z ∷ []) e)

start_more : (code : Code) (s : SetupView) (n : ℕ) → start_threads_from code s 0 (n + 1) ≡ start_threads_from code s 0 n ++ start_told code s n ∷ []
start_more code s n =
    let e : n + 1 ≡ suc n = omega arith in
    let z : 0 + n ≡ n = omega arith in
    ap (start_threads_from code s 0) e ∙ start_suc code s 0 n ∙ ap (λ k. start_threads_from code s 0 n ++ start_told code s k ∷ []) z

pub threads_push : (code : Code) (s : SetupView) (n : ℕ) (rs : List Running) (r : Running) → map running_thread rs ≡ map told_thread (start_threads_from code s 0 n) → r.kept.thread ≡ start_thread code s n → map running_thread (rs ++ r ∷ []) ≡ map told_thread (start_threads_from code s 0 (n + 1))
threads_push code s n rs r h e =
    map-append running_thread rs (r ∷ [])
    ∙ ap (λ z. z ++ r.kept.thread ∷ []) h
    ∙ ap (λ z. map told_thread (start_threads_from code s 0 n) ++ z ∷ []) e
    ∙ sym (map-append told_thread (start_threads_from code s 0 n) (start_told code s n ∷ []))
    ∙ ap (map told_thread) (sym (start_more code s n))

-- ---- the words of objects

joined_to : (u v w x y : List ℕ) → v ≡ u ++ x → w ≡ v ++ y → w ≡ u ++ (x ++ y)
joined_to u v w x y a b = b ∙ ap (λ z. z ++ y) a ∙ append_assoc u x y

pub objects_in : (cells locks : ℕ) (w0 w1 w2 w3 w4 w5 w6 w7 w8 : List ℕ) → w1 ≡ w0 ++ replicate (4 * cells) 0 → w2 ≡ w1 ++ start_word (object.Slot 0) ∷ [] → w3 ≡ w2 ++ replicate 15 0 → w4 ≡ w3 ++ start_word object.Threads ∷ [] → w5 ≡ w4 ++ start_word object.Halt ∷ [] → w6 ≡ w5 ++ start_word object.Input ∷ [] → w7 ≡ w6 ++ start_word object.Output ∷ [] → w8 ≡ w7 ++ replicate (8 * locks) 0 → w8 ≡ w0 ++ objects_from cells locks
objects_in cells locks w0 w1 w2 w3 w4 w5 w6 w7 w8 e1 e2 e3 e4 e5 e6 e7 e8 =
    let slots = joined_to w1 w2 w3 (start_word (object.Slot 0) ∷ []) (replicate 15 0) e2 e3 in
    let q6 = joined_to w5 w6 w7 (start_word object.Input ∷ []) (start_word object.Output ∷ []) e6 e7 in
    let q5 = joined_to w4 w5 w7 (start_word object.Halt ∷ []) _ e5 q6 in
    let q4 = joined_to w3 w4 w7 (start_word object.Threads ∷ []) _ e4 q5 in
    let s0 = start_word (object.Slot 0) ∷ replicate 15 0 in
    let q = start_word object.Threads ∷ start_word object.Halt ∷ start_word object.Input ∷ start_word object.Output ∷ [] in
    joined_to w0 w7 w8 _ (replicate (8 * locks) 0) (joined_to w0 w3 w7 _ q (joined_to w0 w1 w3 (replicate (4 * cells) 0) s0 e1 slots) q4) e8
