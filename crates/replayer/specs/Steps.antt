-- What a turn makes of the next entry of its thread.
use Rattle.std.specs.Prelude.{◌≡◌, ◌≢◌, ℕ, nat_lt, ◌≤◌, ◌&&◌, Bool, false, List, [], ◌∷◌, ◌++◌, length, ◌⊎◌}
use Rattle.sync_objects.specs.Advance.{advanced, NotAllowed}
use Rattle.sync_objects.specs.Words.{number_of}
use Rattle.sync_objects.specs.declared.entry.Noted.{Noted}
use Rattle.sync_objects.specs.declared.object.ObjId.{ObjId}
use Rattle.sync_objects.specs.declared.operation.Op.{Op}
use Rattle.word_semantics.specs.Limits.{most_entries, most_revokes}
use Rattle.flow_code.specs.Next.{has_ended, holds}
use Rattle.flow_code.specs.Threads.{Thread}
use Rattle.core_run.specs.Machine.{Told, machine}
use Rattle.replay_theory.specs.Following.{Departs}
use Rattle.log_walks.specs.Followed.{floor}
use Rattle.shared_cells.specs.Rule.{Board}
use Rattle.shared_cells.specs.Seats.{view_of, place_in}
use Rattle.shared_cells.specs.Threads.{pending}
use Rattle.shared_cells.specs.Views.{SeatView, looked}
use Rattle.shared_cells.specs.Words.{objects_end, HaveGoneOn}
use Rattle.shared_cells.specs.declared.attempt.Attempt.{Attempt}
use Rattle.shared_cells.specs.declared.attempt.Attempt.TheVariants as attempt
use Rattle.shared_cells.specs.declared.seat.Seat.{Seat}
use Rattle.thread_step.specs.Steps.{Stepping, IsReady}
use Rattle.weak_turns.specs.Shown.{IsCarrying, IsSettled}
use Rattle.replayer.specs.declared.step.Step.{Step}
use Rattle.replayer.specs.declared.step.Step.TheVariants as step
use Rattle.replayer.specs.declared.sight.Sight.{Sight}
use Rattle.replayer.specs.declared.sight.Sight.TheVariants as sight

-- the thread as its seat knows it, after the marks that are still to come
abbrev pub told_at : Seat → Told
told_at seat = pending (view_of seat) seat.marks

-- the count that the last of these entries has left; 0 where there is none
abbrev pub left_by : List Noted → ℕ
left_by [] = 0
left_by (x ∷ []) = floor x.entry
left_by (x ∷ y ∷ xs) = left_by (y ∷ xs)

-- the thread's count is at most that of the entry, or at most what its last entry has left
abbrev pub IsInStep : Told → Noted → Type 0
IsInStep told x = (told.thread.count ≤ x.entry.count) ⊎ (told.thread.count ≤ left_by told.entries)

-- the thread departs from the entry, whatever the words are that go on from those that its seat has noted
abbrev pub HasDeparted : SeatView → Told → Noted → Type 0
HasDeparted v told x = (words : List ℕ) → length words ≡ objects_end v.code v.setup → HaveGoneOn v.code v.setup v.notes words → Departs (machine v.code v.setup) floor told.entries words told x

-- what the step leaves of the thread: as it was; one load, store or mark more, up to the entry's count; the entry more; or as it
-- was, and it departs
abbrev pub StepIs : (old new : Seat) → Noted → Step → Type 0
StepIs old new x step.Waits = told_at new ≡ told_at old
StepIs old new x step.Goes = ((told_at new).entries ≡ (told_at old).entries) × ((told_at new).thread.count ≤ x.entry.count)
StepIs old new x step.Makes = ((told_at new).entries ≡ (told_at old).entries ++ x ∷ []) × ((told_at new).thread.count ≡ floor x.entry)
StepIs old new x step.Departs = (told_at new ≡ told_at old) × HasDeparted (view_of new) (told_at new) x

-- nothing is put into the departure word, nor read from it
pub record KeepsDeparture (old new : Seat) : Type 0 where
  pub thread : (view_of new).from ≡ (view_of old).from
  pub positions : (view_of new).positions ≡ (view_of old).positions
  pub met : (view_of new).met ≡ (view_of old).met

-- what a step has come to
pub record Comes (cells : Board) (old new : Seat) (run : Stepping) (x : Noted) (st : Step) : Type 0 where
  pub carrying : IsCarrying cells new run
  pub keeps : KeepsDeparture old new
  pub is : StepIs old new x st

-- the thread, which hasn't ended, has its quiet steps made and room for a step, and the entry is its own
pub record IsSet (cells : Board) (seat : Seat) (run : Stepping) (x : Noted) : Type 0 where
  pub carrying : IsCarrying cells seat run
  pub rests : IsSettled run
  pub ready : IsReady run
  pub lives : has_ended run.flow.kept.thread.phase ≡ false
  pub own : x.entry.thread ≡ (view_of seat).from

-- ---- a look at the entry's object

-- the object's word, by how many operations are after it and by what it allows
abbrev pub SightIs : Sight → (t word number : ℕ) → Op → Type 0
SightIs sight.Elsewhere t word number o = number_of word ≢ number
SightIs sight.Barred t word number o = (number_of word ≡ number) × (advanced o t word ≡ NotAllowed)
SightIs sight.Open t word number o = number_of word ≡ number

-- the seat has looked at the word once, without changing it
pub record Sees (old new : Seat) (o : Op) (obj : ObjId) (number : ℕ) (s : Sight) : Type 0 where
  pub word : ℕ
  pub view : view_of new ≡ looked (view_of old) (place_in (view_of old) obj) word
  pub marks : new.marks ≡ old.marks
  pub is : SightIs s (view_of old).from word number o

-- ---- an attempt

-- the thread holds the stripe, and has room for a revoke
abbrev pub may_lose : Thread → ℕ → ℕ → Bool
may_lose th lock stripe = holds th.stripes lock stripe && nat_lt th.entries most_entries && nat_lt th.revokes most_revokes

-- what an attempt is to the entry with whose number it was asked for
abbrev pub step_of : Attempt → Step
step_of (attempt.Done answer number) = step.Makes
step_of (attempt.NotYet seen) = step.Waits
