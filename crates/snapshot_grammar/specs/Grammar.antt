-- Which bytes are the text of a draft, and which line spoils them where they are none.
use Rattle.std.specs.Prelude.{◌≡◌, ℕ, suc, ◌<◌, ◌≤◌, ◌⊎◌, List, ◌++◌, length, take}
use Rattle.profiles.specs.Profile.{Text}
use Rattle.order_log.specs.Reading.{lines_of}
use Rattle.snapshots.specs.Conditions.{IsForm}
use Rattle.snapshots.specs.Text.{draft_lines, draft_text}
use Rattle.snapshots.specs.declared.draft.Draft.{Draft}

-- the lines of some checkpoint of a run with so many slots begin with these
pub record BeginCheckpoint (slots : ℕ) (lines : List Text) : Type 0 where
  pub draft : Draft
  pub form : IsForm slots draft
  pub more : List Text
  pub begins : draft_lines draft ≡ lines ++ more

-- the bytes are the text of a checkpoint of a run with so many slots
pub record IsCheckpoint (slots : ℕ) (bytes : Text) : Type 0 where
  pub draft : Draft
  pub form : IsForm slots draft
  pub text : bytes ≡ draft_text draft

-- the line after so many is the first that spoils the bytes: the lines before it begin a checkpoint, but with it they begin
-- none; or it is missing or unfinished, and the bytes are no checkpoint
pub record IsSyntaxFault (slots : ℕ) (bytes : Text) (before : ℕ) : Type 0 where
  pub begins : BeginCheckpoint slots (take before (lines_of bytes))
  pub spoils : ((before < length (lines_of bytes)) × ¬ BeginCheckpoint slots (take (suc before) (lines_of bytes))) ⊎ ((before ≡ length (lines_of bytes)) × ¬ IsCheckpoint slots bytes)
