use Rattle.std.proofs.Common.{◌<◌, ℕ}
use Rattle.lockset_summary.specs.Guarding.{IsMetAt, Makes}
use Rattle.lockset_summary.proofs.guarded.meet_all.Given as goal

abbrev pub invariant-loop-k : goal.invariant-loop-k
invariant-loop-k l = Makes l.code l.points (λ r. (j : ℕ) → j < l.k → IsMetAt l.code l.points l.f j r) l.initial.rows.items l.rows.items l.added
