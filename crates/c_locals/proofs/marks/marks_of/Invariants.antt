use Rattle.std.proofs.Common.{◌≡◌, ℕ, ◌||◌, drop}
use Rattle.c_locals.specs.Addresses.{is_among, is_marked}
use Rattle.c_locals.proofs.marks.marks_of.Given as goal

-- a number is marked, or is still to be marked
abbrev pub invariant-loop-number : goal.invariant-loop-number
invariant-loop-number l = (k : ℕ) → is_marked l.marks k || is_among (drop l.number-index l.numbers) k ≡ is_among l.numbers k
