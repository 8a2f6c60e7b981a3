-- A valid code has its first `main` where the machine looks for it.
use Rattle.std.proofs.Common.{◌≡◌, ℕ, suc, ◌+◌, ◌<◌, ◌==◌, not, cond, Bool, true, false, List, [], ◌∷◌, length, Some, None, refl, ap, ◌∙◌, arith, eqb-true, lt-ltb}
use Rattle.std.specs.Prelude.{slice_get, unwrap_or, count_by}
use Rattle.std.specs.List.{prefix_len}
use Rattle.std.proofs.lemmas.List.Sums.{sum_by-cons}
use Rattle.std.proofs.lemmas.Option.{slice_get_within}
use Rattle.flow_code.specs.declared.code.Code.{Code}
use Rattle.flow_code.specs.declared.code.Function.{Function}
use Rattle.flow_code.specs.Threads.{is_main_in, is_main}
use Rattle.flow_code.specs.Valid.{is_valid, is_main_function, mains_in, mains_have_no_formals}
use Rattle.flow_code.proofs.ValidParts.{left, one_is_main}
use Rattle.thread_interpreter.specs.Starts.{main_of}

record IsFirst (p : Function → Bool) (xs : List Function) : Type 0 where
  function : Function
  there : slice_get xs (prefix_len (λ y. not (p y)) xs) ≡ Some function
  passes : p function ≡ true

one_later : (b : Bool) (a n : ℕ) → a ≡ cond b 1 0 + n → b ≡ false → 0 < a → 0 < n
one_later true a n e f h = cc
one_later false a n e f h = omega arith

first_that : (p : Function → Bool) (xs : List Function) → 0 < count_by p xs → IsFirst p xs
first_that p [] h = absurd (omega arith)
first_that p (x ∷ xs) h = by (p x) refl (λ k. first_that p xs k)
  where
    n : count_by p (x ∷ xs) ≡ cond (p x) 1 0 + count_by p xs
    n = sum_by-cons (λ y. cond (p y) 1 0) x xs

    by : (b : Bool) → p x ≡ b → (0 < count_by p xs → IsFirst p xs) → IsFirst p (x ∷ xs)
    by true e more = record { function = x; there = ap (λ b. slice_get (x ∷ xs) (cond (not b) (1 + prefix_len (λ y. not (p y)) xs) 0)) e; passes = e }
    by false e more =
        let r = more (one_later (p x) (count_by p (x ∷ xs)) (count_by p xs) n e h) in
        let next : 1 + prefix_len (λ y. not (p y)) xs ≡ suc (prefix_len (λ y. not (p y)) xs) = omega arith in
        record { function = r.function; there = ap (λ b. slice_get (x ∷ xs) (cond (not b) (1 + prefix_len (λ y. not (p y)) xs) 0)) e ∙ ap (slice_get (x ∷ xs)) next ∙ r.there; passes = r.passes }

pub main_is : (code : Code) → is_valid code ≡ true → is_main code (main_of code) ≡ true
main_is code valid =
    let one = eqb-true (mains_in code.functions) 1 (left (mains_in code.functions == 1) (mains_have_no_formals code.functions) (one_is_main code valid)) in
    let r = first_that is_main_function code.functions (omega arith) in
    let k = prefix_len (λ y. not (is_main_function y)) code.functions in
    let lt = slice_get_within code.functions k r.function r.there in
    let at : main_of code ≡ k = ap (λ b. unwrap_or (cond b (Some k) None) 0) (lt-ltb k (length code.functions) lt) in
    ap is_main_in (ap (slice_get code.functions) at ∙ r.there) ∙ r.passes
