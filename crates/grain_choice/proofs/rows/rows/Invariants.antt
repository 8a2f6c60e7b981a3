use Rattle.std.proofs.Common.{◌≡◌, take, map}
use Rattle.grain_choice.specs.Chosen.{row_by}
use Rattle.grain_choice.proofs.rows.rows.Given as goal

abbrev pub invariant-loop-access : goal.invariant-loop-access
invariant-loop-access l = l.rows ≡ map (λ a. row_by l.code l.basis a) (take l.access-index l.racy)
