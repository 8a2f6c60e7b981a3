-- The two ways in which a lock is held, and which of them exclude each other.
use Rattle.std.specs.Prelude.{◌≡◌, Bool, true, false}
use Rattle.sync_objects.specs.declared.mode.Mode.{Mode}
use Rattle.sync_objects.specs.declared.mode.Mode.TheVariants.{Read, Write}

-- two threads never hold one lock at once in these ways: only readers share it
abbrev pub excludes : Mode → Mode → Bool
excludes Write other = true
excludes Read Write = true
excludes Read Read = false

-- who holds a lock in the first way holds it in the second, since a writer may read as well
abbrev pub covers : Mode → Mode → Bool
covers Write other = true
covers Read Read = true
covers Read Write = false
