use Rattle.std.proofs.Common.{◌≡◌, ℕ, ◌+◌, ◌<◌, length}
use Rattle.crew.specs.Schedule.{PlayState, Reached}
use Rattle.crew.proofs.Reaching.{HasSpent}
use Rattle.crew.proofs.play.Play.round.Given as goal

-- so many jobs had their chance
abbrev pub invariant-loop-at : goal.invariant-loop-at
invariant-loop-at g l = record {
  reached : (number : ℕ → ℕ) (start : PlayState _) (k : ℕ) → ((at : ℕ) → at < length l.initial.self.jobs → number (k + at) ≡ at)
      → Reached g.J.Job number start k l.initial.self → Reached g.J.Job number start (k + l.at) l.self;
  spends : HasSpent g.J.Job l.initial.self l.at l.self;
}
