-- The made source: lines, each ended by a newline byte. Two of them stand once for each number.
use Rattle.std.specs.Prelude.{ℕ, zero, suc, List, [], ◌∷◌, ◌++◌, map, codes, decimal}
use Rattle.std.specs.List.{flat_map}

-- one byte of ASCII for each character
abbrev pub Text : Type 0
Text = List ℕ

-- the numbers below n, in order
abbrev pub numbers_below : ℕ → List ℕ
numbers_below zero = []
numbers_below (suc n) = numbers_below n ++ n ∷ []

-- a function of the number's own name
abbrev pub function_line : ℕ → Text
function_line i = codes "int f" ++ decimal i ++ codes "(int a) { int s = 0; for (int k = 0; k < 8; k++) s = s + a + k; return s; }"

-- its call
abbrev pub call_line : ℕ → Text
call_line i = codes "s = s + f" ++ decimal i ++ codes "(" ++ decimal i ++ codes ");"

-- headers and globals; `hits` is the one that its threads race on
abbrev pub first_lines : List Text
first_lines =
    codes "#include <pthread.h>" ∷
    codes "#include <stdio.h>" ∷
    codes "pthread_mutex_t m;" ∷
    codes "int total;" ∷
    codes "int hits;" ∷
    []

-- the thread's function begins
abbrev pub thread_lines : List Text
thread_lines =
    codes "void *w(void *p) {" ∷
    codes "int s = 0;" ∷
    []

-- it ends, and `main` starts four threads, joins them and prints the total
abbrev pub last_lines : List Text
last_lines =
    codes "hits = hits + 1;" ∷
    codes "pthread_mutex_lock(&m);" ∷
    codes "total = total + s;" ∷
    codes "pthread_mutex_unlock(&m);" ∷
    codes "return NULL; }" ∷
    codes "int main(void) {" ∷
    codes "pthread_t t[4];" ∷
    codes "for (int i = 0; i < 4; i++)" ∷
    codes "pthread_create(&t[i], NULL, w, NULL);" ∷
    codes "for (int i = 0; i < 4; i++)" ∷
    codes "pthread_join(t[i], NULL);" ∷
    codes "printf(\"%d\\n\", total);" ∷
    codes "return 0; }" ∷
    []

-- with n functions, called in order
abbrev pub program_lines : ℕ → List Text
program_lines n =
    first_lines ++
    map function_line (numbers_below n) ++
    thread_lines ++
    map call_line (numbers_below n) ++
    last_lines

-- the lines, each with its newline
abbrev pub text_of : List Text → Text
text_of lines = flat_map (λ line. line ++ 10 ∷ []) lines

-- the whole source with n functions, as bytes
abbrev pub program_text : ℕ → Text
program_text n = text_of (program_lines n)
