-- In the part of which entry an access is.
use Rattle.std.specs.Prelude.{◌≡◌, ℕ, ◌<◌, ◌≤◌, List, Some, slice_get}
use Rattle.sync_objects.specs.declared.entry.Entry.{Entry}
use Rattle.walk_accesses.specs.Accesses.{Placed}

-- it is that of its thread's first entry whose count is above the access's
pub record IsInPart (es : List Entry) (x : Placed) : Type 0 where
  pub entry : Entry
  pub stands : slice_get es x.part ≡ Some entry
  pub own : entry.thread ≡ x.access.thread
  pub above : x.access.count < entry.count
  pub first : (k : ℕ) (e : Entry) → k < x.part → slice_get es k ≡ Some e → e.thread ≡ x.access.thread → e.count ≤ x.access.count
