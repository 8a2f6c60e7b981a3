-- The objects of a machine of which there are many, by their numbers.
use Rattle.std.specs.Prelude.{ℕ, ◌/◌, ◌%◌, ◌<◌, ◌^◌, ◌*◌, List, map, Option, slice_index}
use Rattle.sync_objects.specs.declared.object.ObjId.{ObjId}
use Rattle.sync_objects.specs.declared.object.ObjId.TheVariants as object
use Rattle.core_run.specs.Words.{place_of}
use Rattle.snapshots.specs.Snapshots.{numbers_from, object_with}
use Rattle.checkpoint.specs.declared.grouped.Group.{Group}
use Rattle.checkpoint.specs.declared.grouped.Group.TheVariants as group

-- the object of a group with this number; stripes are counted by eight for each lock
abbrev pub object_at : Group → ℕ → ObjId
object_at group.Mutexes n = object.Mutex n
object_at group.Conds n = object.Cond n
object_at group.Barriers n = object.Barrier n
object_at group.Stripes n = object.Weak (n / 8) (n % 8)
object_at group.Slots n = object.Slot n
object_at group.Rws n = object.Rw n

-- the numbers of locks and slots are small
abbrev pub IsNumbered : Group → ℕ → Type 0
IsNumbered group.Mutexes n = Unit {0}
IsNumbered group.Conds n = Unit {0}
IsNumbered group.Barriers n = Unit {0}
IsNumbered group.Stripes n = n < 8 * 2 ^ 16
IsNumbered group.Slots n = n < 16
IsNumbered group.Rws n = Unit {0}

-- so many objects of a group
abbrev pub in_group : Group → ℕ → List ObjId
in_group g n = map (λ k. object_at g k) (numbers_from 0 n)

-- what a snapshot lists of an object at these words, if it lists it
abbrev pub listed_of : ℕ → List ℕ → ObjId → Option (ObjId × ℕ × ℕ)
listed_of cells words o = object_with o (slice_index words (place_of cells o))
