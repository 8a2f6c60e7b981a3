-- States of one thread, whatever is answered to it and whatever is revoked.
use Rattle.std.specs.Prelude.{◌≡◌, ℕ, Bool, true, false, ℤ, []}
use Rattle.sync_objects.specs.Setup.{SetupView}
use Rattle.flow_code.specs.declared.code.Code.{Code}
use Rattle.flow_code.specs.declared.thread.Phase.{Phase}
use Rattle.flow_code.specs.declared.thread.Phase.TheVariants as phase
use Rattle.flow_code.specs.Threads.{Thread}
use Rattle.flow_code.specs.Next.{stepped, gave_up, stopped, slot_closed}

-- the thread has no frame yet
abbrev pub is_early : Phase → Bool
is_early phase.Fresh = true
is_early (phase.Begun f) = true
is_early (phase.Loaded f w) = true
is_early _ = false

-- thread t may come to this state from its beginning, which has no stripes
pub data Reached (code : Code) (s : SetupView) (t : ℕ) : Thread → Type 0 where
  starts : {th : Thread} → is_early th.phase ≡ true → th.stripes ≡ [] → th.regions ≡ [] → Reached code s t th
  steps : {th : Thread} (answer : ℤ) → Reached code s t th → Reached code s t (stepped code s t th answer)
  loses : {th : Thread} (lock stripe : ℕ) → Reached code s t th → Reached code s t (gave_up th lock stripe)
  stops : {th : Thread} → Reached code s t th → Reached code s t (stopped th)
  shuts : {th : Thread} → Reached code s t th → Reached code s t (slot_closed th)
