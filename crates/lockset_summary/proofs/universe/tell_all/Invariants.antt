use Rattle.std.proofs.Common.{List}
use Rattle.flow_code.specs.declared.act.Instr.{Instr}
use Rattle.facts.specs.declared.locks.LockPath.{LockPath}
use Rattle.lockset_summary.specs.Rounds.{ForFirst}
use Rattle.lockset_summary.specs.Known.{IsTold, Adds}
use Rattle.lockset_summary.proofs.universe.tell_all.Given as goal

abbrev pub invariant-loop-k : goal.invariant-loop-k
invariant-loop-k l = Adds l.code (ForFirst (List (List LockPath)) Instr (λ r. l.function.instrs) (λ k i r. IsTold l.f k l.function i r) l.k) l.initial.rows.items l.rows.items l.added
