-- How long the made source is.
use Rattle.std.proofs.Common.{◌≡◌, ℕ, zero, suc, ◌+◌, ◌*◌, List, [], ◌∷◌, ◌++◌, length, map, sum_by, codes, refl, ap, ◌∙◌, zero-add, arith}
use Rattle.std.specs.Prelude.{decimal}
use Rattle.std.proofs.lemmas.List.{length-append}
use Rattle.std.proofs.lemmas.List.Sums.{sum_by-append}
use Rattle.std.proofs.lemmas.Grind.{flat_map-append}
use Rattle.workload.specs.Program.{Text, numbers_below, function_line, call_line, first_lines, thread_lines, last_lines, text_of, program_text}
use Rattle.workload.proofs.Lines.{text_more}

abbrev functions : ℕ → Text
functions n = text_of (map function_line (numbers_below n))

abbrev calls : ℕ → Text
calls n = text_of (map call_line (numbers_below n))

abbrev share : ℕ → ℕ
share i = 94 + 3 * length (decimal i)

-- ---- a line

around_one : (a b c : Text) → length (a ++ b ++ c ++ 10 ∷ []) ≡ length a + length b + length c + 1
around_one a b c = grind (arith, length-append)

around_two : (a b c d e : Text) → length (a ++ b ++ c ++ d ++ e ++ 10 ∷ []) ≡ length a + length b + length c + length d + length e + 1
around_two a b c d e = grind (arith, length-append)

function_long : (i : ℕ) → length (function_line i ++ 10 ∷ []) ≡ 81 + length (decimal i)
function_long i =
    let h : length (function_line i ++ 10 ∷ []) ≡ 5 + length (decimal i) + 75 + 1 = around_one (codes "int f") (decimal i) (codes "(int a) { int s = 0; for (int k = 0; k < 8; k++) s = s + a + k; return s; }") in
    omega arith

call_long : (i : ℕ) → length (call_line i ++ 10 ∷ []) ≡ 13 + 2 * length (decimal i)
call_long i =
    let h : length (call_line i ++ 10 ∷ []) ≡ 9 + length (decimal i) + 1 + length (decimal i) + 2 + 1 = around_two (codes "s = s + f") (decimal i) (codes "(") (decimal i) (codes ");") in
    omega arith

-- ---- all lines

more : (f : ℕ → Text) (n : ℕ) → length (text_of (map f (numbers_below (suc n)))) ≡ length (text_of (map f (numbers_below n))) + length (f n ++ 10 ∷ [])
more f n = ap length (text_more f n) ∙ length-append (text_of (map f (numbers_below n))) (f n ++ 10 ∷ [])

lines_long : (n : ℕ) → length (functions n) + length (calls n) ≡ sum_by share (numbers_below n)
lines_long zero = refl
lines_long (suc n) =
    let shares : sum_by share (numbers_below (suc n)) ≡ sum_by share (numbers_below n) + share n = sum_by-append share (numbers_below n) (n ∷ []) ∙ ap (λ s. sum_by share (numbers_below n) + s) (zero-add (share n)) in
    let before = lines_long n in
    let f = more function_line n in
    let fl = function_long n in
    let c = more call_line n in
    let cl = call_long n in
    omega arith

-- ---- the text

parts : (xs ys : List Text) → length (text_of (xs ++ ys)) ≡ length (text_of xs) + length (text_of ys)
parts xs ys = ap length (flat_map-append (λ line. line ++ 10 ∷ []) xs ys) ∙ length-append (text_of xs) (text_of ys)

pub program_long : (n : ℕ) → length (program_text n) ≡ 399 + sum_by (λ i. 94 + 3 * length (decimal i)) (numbers_below n)
program_long n =
    let fs = map function_line (numbers_below n) in
    let cs = map call_line (numbers_below n) in
    let h = parts (first_lines ++ fs ++ thread_lines ++ cs) last_lines in
    let h1 = parts (first_lines ++ fs ++ thread_lines) cs in
    let h2 = parts (first_lines ++ fs) thread_lines in
    let h3 = parts first_lines fs in
    let k : length (text_of first_lines) + length (text_of thread_lines) + length (text_of last_lines) ≡ 399 = refl in
    let lines = lines_long n in
    omega arith
