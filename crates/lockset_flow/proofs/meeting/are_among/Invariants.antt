use Rattle.std.proofs.Common.{◌≡◌, true, drop}
use Rattle.std.specs.List.{list_all}
use Rattle.facts.specs.declared.locks.LockPath.{LockPath}
use Rattle.facts.specs.Locks.{has}
use Rattle.lockset_flow.proofs.meeting.are_among.Given as goal

abbrev pub invariant-loop-path : goal.invariant-loop-path
invariant-loop-path l =
    (list_all (λ p. has p l.others) (drop l.path-index l.paths) ≡ list_all (λ p. has p l.others) l.paths)
    × ((p : LockPath) → has p l.rest ≡ true → has p l.others ≡ true)
