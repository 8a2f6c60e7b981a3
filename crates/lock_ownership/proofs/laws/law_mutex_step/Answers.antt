use Rattle.lock_ownership.proofs.MutexHolders.{holder_step}
use Rattle.lock_ownership.proofs.ObjectSteps.{object_step}
use Rattle.lock_ownership.proofs.Stepping.{has_stepped}
use Rattle.sync_objects.specs.declared.object.ObjId.TheVariants.{Mutex}
use Rattle.lock_ownership.proofs.laws.law_mutex_step.Goals as goal

pub returns : goal.returns
returns c = λ code setup cell before after label run limits has reached e.
    holder_step code setup run limits cell has before after label (object_step code setup (Mutex cell) run limits has before after label reached (has_stepped code setup before after label e))
