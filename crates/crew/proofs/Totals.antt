-- Sums of turns over a part of the jobs.
use Rattle.std.proofs.Common.{◌≡◌, ℕ, zero, suc, ◌+◌, ◌<◌, List, [], ◌∷◌, length, take, get_or, arith}
use Rattle.crew.specs.Counts.{total}

pub total_more : {J : Type 0} (turns : J → ℕ) (jobs : List J) (at : ℕ) (d : J) → at < length jobs → total turns (take (suc at) jobs) ≡ total turns (take at jobs) + turns (get_or jobs at d)
total_more turns [] at d low = absurd (omega arith)
total_more turns (job ∷ jobs) zero d low = omega arith
total_more turns (job ∷ jobs) (suc at) d low = let more = total_more turns jobs at d (omega arith) in omega arith
