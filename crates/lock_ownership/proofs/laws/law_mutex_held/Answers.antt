use Rattle.sync_objects.specs.declared.object.ObjId.TheVariants.{Mutex}
use Rattle.lock_ownership.proofs.LockMoves.{mutex, held_by_word}
use Rattle.lock_ownership.proofs.laws.law_mutex_held.Goals as goal

pub returns : goal.returns
returns c = λ code setup cell run limits has. held_by_word code setup run limits (Mutex cell) (mutex cell) has
