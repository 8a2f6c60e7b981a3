-- The lines of weak locks, one after another.
use Rattle.std.proofs.Common.{◌≡◌, ℕ, zero, suc, ◌+◌, ◌<◌, List, [], ◌∷◌, ◌++◌, length, take, get_or, sym, ap, ◌∙◌, arith, append_assoc, append-nil}
use Rattle.flow_code.specs.declared.code.Code.{Code}
use Rattle.flow_code.specs.declared.code.LockInfo.{LockInfo}
use Rattle.listing.specs.WeakText.{lock_text, locks_text}

one_lock : (code : Code) (n : ℕ) (ls : List LockInfo) (k : ℕ) (d : LockInfo) → k < length ls → locks_text code n (take (suc k) ls) ≡ locks_text code n (take k ls) ++ lock_text code (n + k) (get_or ls k d)
one_lock code n [] k d h = absurd (omega (arith, h))
one_lock code n (l ∷ ls) zero d h =
    let e : n ≡ n + zero = omega arith in
    append-nil (lock_text code n l) ∙ ap (λ m. lock_text code m l) e
one_lock code n (l ∷ ls) (suc k) d h =
    let e : (n + 1) + k ≡ n + suc k = omega arith in
    let r = one_lock code (n + 1) ls k d (omega (arith, h)) in
    ap (λ t. lock_text code n l ++ t) (r ∙ ap (λ m. locks_text code (n + 1) (take k ls) ++ lock_text code m (get_or ls k d)) e)
    ∙ sym (append_assoc (lock_text code n l) (locks_text code (n + 1) (take k ls)) (lock_text code (n + suc k) (get_or ls k d)))

pub next_lock : (code : Code) (ls : List LockInfo) (k : ℕ) (d : LockInfo) (out mid new : List ℕ) → k < length ls → mid ≡ out ++ locks_text code 0 (take k ls) → new ≡ mid ++ lock_text code k (get_or ls k d) → new ≡ out ++ locks_text code 0 (take (k + 1) ls)
next_lock code ls k d out mid new h e f =
    let m : k + 1 ≡ suc k = omega arith in
    let z : 0 + k ≡ k = omega arith in
    let r : locks_text code 0 (take (k + 1) ls) ≡ locks_text code 0 (take k ls) ++ lock_text code k (get_or ls k d) = ap (λ n. locks_text code 0 (take n ls)) m ∙ one_lock code 0 ls k d h ∙ ap (λ n. locks_text code 0 (take k ls) ++ lock_text code n (get_or ls k d)) z in
    f ∙ ap (λ t. t ++ lock_text code k (get_or ls k d)) e ∙ append_assoc out (locks_text code 0 (take k ls)) (lock_text code k (get_or ls k d)) ∙ ap (λ t. out ++ t) (sym r)
