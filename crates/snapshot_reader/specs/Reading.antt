-- What reading a checkpoint answers, for a code, a setup and the number of entries of a log: the snapshot whose text the bytes
-- are, or the first line that spoils them.
use Rattle.std.specs.Prelude.{◌≡◌, ℕ, suc, ◌<◌, false, ◌⊎◌, List, length, take, Some, slice_get, Result, Ok, Err}
use Rattle.std.specs.List.{AllByRecursion}
use Rattle.profiles.specs.Profile.{Text}
use Rattle.sync_objects.specs.Setup.{SetupView}
use Rattle.flow_code.specs.declared.code.Code.{Code}
use Rattle.flow_code.specs.declared.code.Function.{Function}
use Rattle.order_log.specs.Reading.{shown}
use Rattle.snapshots.specs.Conditions.{AllFit, IsForm, MeetsConditions, judgements}
use Rattle.snapshots.specs.Text.{draft_text, snapshot_text}
use Rattle.snapshots.specs.declared.draft.Draft.{Draft}
use Rattle.snapshots.specs.declared.draft.DraftThread.{DraftThread}
use Rattle.snapshots.specs.declared.snapshot.Snapshot.{Snapshot}
use Rattle.snapshot_grammar.specs.Grammar.{IsSyntaxFault}
use Rattle.snapshot_reader.specs.declared.fault.SnapshotFault.{SnapshotFault}
use Rattle.snapshot_reader.specs.declared.fault.SnapshotFault.TheVariants.{Refused, OutOfMemory}

-- the bytes have the form of a checkpoint, and the line after so many is the first that isn't as it must be
pub record IsStateFault (code : Code) (s : SetupView) (n : ℕ) (bytes : Text) (before : ℕ) : Type 0 where
  pub draft : Draft
  pub form : IsForm s.slots draft
  pub text : bytes ≡ draft_text draft
  pub fit : AllFit (take before (judgements code s n draft))
  pub misfit : slice_get (judgements code s n draft) before ≡ Some false

-- 25 is a fault of the form, 26 one of the state
abbrev pub IsFault : Code → SetupView → ℕ → Text → ℕ → ℕ → Type 0
IsFault code s n bytes number before = ((number ≡ 25) × IsSyntaxFault s.slots bytes before) ⊎ ((number ≡ 26) × IsStateFault code s n bytes before)

-- what each answer says of the bytes, for a log of n entries; lines count from 1
abbrev pub IsAnswer : Code → SetupView → ℕ → Text → Result Snapshot SnapshotFault → Type 0
IsAnswer code s n bytes (Ok x) = MeetsConditions code s n x × (bytes ≡ snapshot_text x)
IsAnswer code s n bytes (Err (Refused number line)) = (before : ℕ) × (line ≡ shown (suc before)) × IsFault code s n bytes number before
IsAnswer code s n bytes (Err OutOfMemory) = ⊥

-- want of memory is answered at any time, and nothing is said of it
abbrev pub UnlessMemory : Result Snapshot SnapshotFault → Type 0 → Type 0
UnlessMemory (Ok x) P = P
UnlessMemory (Err (Refused number line)) P = P
UnlessMemory (Err OutOfMemory) P = Unit {0}

-- each function has fewer instructions than there are numbers of 32 bits
abbrev pub AreShort : List Function → Type 0
AreShort fs = AllByRecursion (λ (f : Function). length f.instrs < 4294967295) fs

-- each thread has fewer stripes and regions than there are numbers of 32 bits
abbrev pub AreFew : List DraftThread → Type 0
AreFew ds = AllByRecursion (λ (d : DraftThread). (length d.stripes < 4294967295) × (length d.regions < 4294967295)) ds

-- ---- laws

-- there is one answer to the same bytes
abbrev pub OneAnswer : Type 0
OneAnswer = (code : Code) (s : SetupView) (n : ℕ) (bytes : Text) (q r : Result Snapshot SnapshotFault) → IsAnswer code s n bytes q → IsAnswer code s n bytes r → q ≡ r

-- a snapshot that meets the conditions is the one answer to its text
abbrev pub ReadsBack : Type 0
ReadsBack = (code : Code) (s : SetupView) (n : ℕ) (x : Snapshot) (r : Result Snapshot SnapshotFault) → MeetsConditions code s n x → IsAnswer code s n (snapshot_text x) r → r ≡ Ok x
