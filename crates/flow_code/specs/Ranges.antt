-- How far the numbers of a thread's state go.
use Rattle.std.specs.Prelude.{◌≡◌, ℕ, ◌+◌, ◌<◌, ◌≤◌, true, length, Some, slice_get}
use Rattle.sync_objects.specs.Setup.{SetupView}
use Rattle.sync_objects.specs.declared.object.ObjId.TheVariants as object
use Rattle.sync_objects.specs.declared.operation.Op.TheVariants as op
use Rattle.flow_code.specs.declared.code.Code.{Code}
use Rattle.word_semantics.specs.declared.event.Due.TheVariants as due
use Rattle.word_semantics.specs.Library.{most_printed}
use Rattle.flow_code.specs.Threads.{Frame, Thread, arena_end, instrs_in}
use Rattle.flow_code.specs.Next.{due_of, has_ended}
use Rattle.word_semantics.specs.Limits.{most_frames, most_entries, most_revokes}

-- a thread makes no more events than the limit says, but for those with which it ends: it has one more after it where it
-- is about to leave the live threads, and at most two more once it has ended. A thread that didn't start with the run may
-- have begun with some events beyond the limit: `extra` is how many at most
pub data IsCounted (code : Code) (s : SetupView) (extra t : ℕ) (th : Thread) : Type 0 where
  within : th.count ≤ s.limit + extra → IsCounted code s extra t th
  leaving : th.count ≤ s.limit + extra + 1 → due_of code s t th ≡ due.Operate op.Leave object.Threads → IsCounted code s extra t th
  over : th.count ≤ s.limit + extra + 2 → has_ended th.phase ≡ true → IsCounted code s extra t th

-- the most events of one instruction that a thread has made
abbrev pub most_made : ℕ
most_made = 8

-- what holds of the numbers of thread t from its beginning on: its events, entries, revokes and printed bytes are within their
-- limits, its arena isn't used up beyond its end, and each frame below stands at an instruction of its function
pub record InRange (code : Code) (s : SetupView) (extra t : ℕ) (th : Thread) : Type 0 where
  pub counted : IsCounted code s extra t th
  pub few_entries : th.entries ≤ most_entries
  pub few_revokes : th.revokes ≤ most_revokes
  pub few_printed : th.printed ≤ most_printed
  pub few_made : th.top.made ≤ most_made
  pub few_frames : length th.below + 1 ≤ most_frames
  pub room : th.arena ≤ arena_end code s t
  pub callers : (k : ℕ) (f : Frame) → slice_get th.below k ≡ Some f → f.instr < length (instrs_in (slice_get code.functions f.function))
