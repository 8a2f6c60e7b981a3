use Rattle.std.proofs.Common.{◌≡◌, ◌&&◌, refl, ap₂}
use Rattle.sync_objects.specs.declared.mode.Mode.{Mode}
use Rattle.sync_objects.specs.declared.mode.Mode.TheVariants.{Read, Write}
use Rattle.sync_objects.specs.contracts.mode.ModePartialEq.TheImpl as mode_impl
use Rattle.facts.specs.contracts.locks.LockPathPartialEq.TheImpl as path_impl
use Rattle.facts.specs.declared.locks.LockPath.{LockPath}
use Rattle.facts.specs.declared.locks.LockPath.TheVariants.{Cell, Formal}
use Rattle.facts.specs.Locks.{is_same, mode_same}
use Rattle.race_pairs.proofs.Cells.{locks_same}
use Rattle.race_pairs.proofs.alike.same_locks.Goals as goal

modes : (m n : Mode) → (mode_impl.ghosts).eq m n ≡ mode_same m n
modes Read Read = refl
modes Read Write = refl
modes Write Read = refl
modes Write Write = refl

paths : (p q : LockPath) → (path_impl.ghosts).eq p q ≡ is_same p q
paths (Cell a) (Cell b) = refl
paths (Cell a) (Formal j n) = refl
paths (Formal i m) (Cell b) = refl
paths (Formal i m) (Formal j n) = refl

pub returns : goal.returns
returns c = locks_same _ c.args.locks.now c.args.others.now c.eq.result c.eq.ensures (λ h k. ap₂ (λ a b. a && b) (paths h.path k.path) (modes h.mode k.mode))
