-- The limits of a thread.
use Rattle.std.specs.Prelude.{ℕ, ◌^◌, ◌||◌, Bool}
use Rattle.sync_objects.specs.Names.{name_of, is_ending, is_weak}
use Rattle.sync_objects.specs.declared.operation.Op.{Op}

-- the most frames of a thread, the most entries that aren't ending ones, and the most of these that are revokes
abbrev pub most_frames : ℕ
most_frames = 1000

-- a thread's list in the log; an entry more is the trap LogFull
abbrev pub most_entries : ℕ
most_entries = 2 ^ 20

-- how often stripes may be revoked from one thread
abbrev pub most_revokes : ℕ
most_revokes = 2 ^ 14

-- operations that a thread at its limit still makes: those with which it ends, and those on stripes
abbrev pub is_free_of_limit : Op → Bool
is_free_of_limit o = is_ending (name_of o) || is_weak (name_of o)
