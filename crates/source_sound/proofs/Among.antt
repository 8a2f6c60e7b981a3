-- Numbers that are all among others.
use Rattle.std.proofs.Common.{◌≡◌, ℕ, ◌==◌, Bool, true, false, ◌||◌, List, [], ◌∷◌, ◌++◌, refl, ap, arith}
use Rattle.std.proofs.lemmas.Bool.Decides.{nat_tests}
use Rattle.c_locals.specs.Addresses.{is_among}

-- each of the second is among the first
abbrev pub AreAmong : List ℕ → List ℕ → Type 0
AreAmong ns [] = Unit {0}
AreAmong ns (m ∷ ms) = (is_among ns m ≡ true) × AreAmong ns ms

pub among_parts : (ns xs ys : List ℕ) → AreAmong ns (xs ++ ys) → AreAmong ns xs × AreAmong ns ys
among_parts ns [] ys are = (tt, are)
among_parts ns (x ∷ xs) ys are = let more = among_parts ns xs ys are.1 in ((are.0, more.0), more.1)

or_more : (a b : Bool) → b ≡ true → (a || b) ≡ true
or_more true b e = refl
or_more false b e = e

among_more : (n : ℕ) (ns ms : List ℕ) → AreAmong ns ms → AreAmong (n ∷ ns) ms
among_more n ns [] are = tt
among_more n ns (m ∷ ms) are = (or_more (n == m) (is_among ns m) are.0, among_more n ns ms are.1)

own_number : (n : ℕ) → (n == n) ≡ true
own_number n = grind (arith, nat_tests)

-- each is among all
pub among_all : (ns : List ℕ) → AreAmong ns ns
among_all [] = tt
among_all (n ∷ ns) = (ap (λ b. b || is_among ns n) (own_number n), among_more n ns ns (among_all ns))
